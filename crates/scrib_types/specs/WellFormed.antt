-- The conditions under which a global type is a protocol for some roles (Honda, Yoshida and Carbone, POPL 2008;
-- that each recursion is used, and the bound on roles, are this project's own).
use Rattle.std.specs.Prelude.{ℕ, ◌+◌, Bool, true, false, ◌&&◌, ◌||◌, not, ◌==◌, nat_le, List, [], ◌∷◌, length, Option, is_some}
use Rattle.std.specs.List.{list_any}
use Rattle.std.specs.Str.{bytes_eq}
use Rattle.scrib_types.specs.Trees.{GlobalTree, GlobalEnd, GlobalVar, GlobalRec, Comm, Flight, GlobalBranches, NoBranch, Branch}
use Rattle.scrib_types.specs.declared.profile.Profile.{Profile}
pub use Rattle.scrib_types.specs.Same.{same_operator}
use Rattle.scrib_types.specs.Projection.{is_closed, projection, widest}

-- the role is one of these
abbrev pub has_role : List ℕ → List (List ℕ) → Bool
has_role r roles = list_any (bytes_eq r) roles

-- no role occurs twice
abbrev pub distinct_roles : List (List ℕ) → Bool
distinct_roles [] = true
distinct_roles (r ∷ rs) = not (has_role r rs) && distinct_roles rs

-- guarded: after its leading recursions a communication follows
abbrev pub leads_to_communication : GlobalTree → Bool
leads_to_communication GlobalEnd = false
leads_to_communication (GlobalVar n) = false
leads_to_communication (GlobalRec g) = leads_to_communication g
leads_to_communication (Comm p q bs) = true
leads_to_communication (Flight p q j bs) = false

-- the variable of the k-th enclosing recursion occurs
abbrev mutual
  pub uses : ℕ → GlobalTree → Bool
  uses k GlobalEnd = false
  uses k (GlobalVar n) = n == k
  uses k (GlobalRec g) = uses (k + 1) g
  uses k (Comm p q bs) = branches_use k bs
  uses k (Flight p q j bs) = branches_use k bs

  pub branches_use : ℕ → GlobalBranches → Bool
  branches_use k NoBranch = false
  branches_use k (Branch m g bs) = uses k g || branches_use k bs

-- some branch has the operator
abbrev pub has_operator : Option (List ℕ) → GlobalBranches → Bool
has_operator o NoBranch = false
has_operator o (Branch m g bs) = same_operator o m.op || has_operator o bs

-- no two branches have the same operator
abbrev pub distinct_operators : GlobalBranches → Bool
distinct_operators NoBranch = true
distinct_operators (Branch m g bs) = not (has_operator m.op bs) && distinct_operators bs

-- a branch at least
abbrev pub has_branches : GlobalBranches → Bool
has_branches NoBranch = false
has_branches (Branch m g bs) = true

-- Each recursion is guarded and used. Each communication is between two of the roles, and has branches,
-- of which no two have the same operator. Nothing is in flight.
abbrev mutual
  pub well_formed : List (List ℕ) → GlobalTree → Bool
  well_formed roles GlobalEnd = true
  well_formed roles (GlobalVar n) = true
  well_formed roles (GlobalRec g) = leads_to_communication g && uses 0 g && well_formed roles g
  well_formed roles (Comm p q bs) =
      has_role p roles && has_role q roles && not (bytes_eq p q) && has_branches bs && distinct_operators bs
      && branches_well_formed roles bs
  well_formed roles (Flight p q j bs) = false

  pub branches_well_formed : List (List ℕ) → GlobalBranches → Bool
  branches_well_formed roles NoBranch = true
  branches_well_formed roles (Branch m g bs) = well_formed roles g && branches_well_formed roles bs

-- the projection on each of the roles is defined under the profile
abbrev pub projects : Profile → GlobalTree → List (List ℕ) → Bool
projects profile g [] = true
projects profile g (r ∷ rs) = is_some (projection profile r g) && projects profile g rs

-- A protocol: at most 64 roles, all different, and a closed, well-formed global type of these roles. Under the
-- reception profile it has a projection on each.
unfoldable pub is_protocol : List (List ℕ) → GlobalTree → Bool
is_protocol roles g =
    nat_le (length roles) 64 && distinct_roles roles && is_closed g && well_formed roles g && projects widest g roles
