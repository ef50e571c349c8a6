-- The projection of a global type on a role, a partial function. It uses the plain merge (Honda, Yoshida and Carbone,
-- POPL 2008) or a merge of receptions (as in Deniélou and Yoshida, ICALP 2013). That equal messages continue as the
-- same, and the rows for recursions, are this project's own.
use Rattle.std.specs.Prelude.{ℕ, ◌+◌, ◌-◌, max, Bool, false, ◌&&◌, ◌||◌, not, ◌==◌, List, Option, Some, None, option_map, option_and_then, if◌then◌else◌}
use Rattle.std.specs.Str.{bytes_eq}
use Rattle.scrib_types.specs.declared.message.Message.{Message}
use Rattle.scrib_types.specs.declared.profile.Profile.{Profile}
use Rattle.scrib_types.specs.declared.profile.Profile.TheVariants.{Plain, Reception}
use Rattle.scrib_types.specs.Trees.{GlobalTree, GlobalEnd, GlobalVar, GlobalRec, Comm, Flight, GlobalBranches, NoBranch, Branch, LocalTree, LocalEnd, LocalVar, LocalRec, Send, Recv, LocalBranches, NoChoice, Choice}
use Rattle.scrib_types.specs.Same.{same_operator, same_message, same_local}

-- the profile whose merge is the widest: where any profile has a projection, this one has the same
abbrev pub widest : Profile
widest = Reception

-- the number of enclosing recursions that would bind all its variables
abbrev mutual
  pub open_depth : GlobalTree → ℕ
  open_depth GlobalEnd = 0
  open_depth (GlobalVar n) = n + 1
  open_depth (GlobalRec g) = open_depth g - 1
  open_depth (Comm p q bs) = branches_open_depth bs
  open_depth (Flight p q j bs) = branches_open_depth bs

  pub branches_open_depth : GlobalBranches → ℕ
  branches_open_depth NoBranch = 0
  branches_open_depth (Branch m g bs) = max (open_depth g) (branches_open_depth bs)

-- each variable has its recursion
abbrev pub is_closed : GlobalTree → Bool
is_closed g = open_depth g == 0

-- the role is a sender or a receiver somewhere in it
abbrev mutual
  pub occurs : List ℕ → GlobalTree → Bool
  occurs r GlobalEnd = false
  occurs r (GlobalVar n) = false
  occurs r (GlobalRec g) = occurs r g
  occurs r (Comm p q bs) = bytes_eq r p || bytes_eq r q || branches_occur r bs
  occurs r (Flight p q j bs) = bytes_eq r p || bytes_eq r q || branches_occur r bs

  pub branches_occur : List ℕ → GlobalBranches → Bool
  branches_occur r NoBranch = false
  branches_occur r (Branch m g bs) = occurs r g || branches_occur r bs

-- The alternatives of a reception with one more after them. Where one of them has its operator, it must be the same,
-- or there is no result.
abbrev pub with_alternative : Message → LocalTree → LocalBranches → Option LocalBranches
with_alternative m l NoChoice = Some (Choice m l NoChoice)
with_alternative m l (Choice n k ls) =
    if same_operator m.op n.op then (if same_message m n && same_local l k then Some (Choice n k ls) else None)
    else option_map (Choice n k) (with_alternative m l ls)

-- the alternatives of two receptions, in the order of their first occurrence
abbrev pub alternatives : LocalBranches → LocalBranches → Option LocalBranches
alternatives ks NoChoice = Some ks
alternatives ks (Choice m l ls) = option_and_then (λ js. alternatives js ls) (with_alternative m l ks)

-- a reception from p, merged with another one from p
abbrev pub merged_from : List ℕ → LocalBranches → LocalTree → Option LocalTree
merged_from p ks LocalEnd = None
merged_from p ks (LocalVar n) = None
merged_from p ks (LocalRec l) = None
merged_from p ks (Send q ls) = None
merged_from p ks (Recv q ls) = if bytes_eq p q then option_map (Recv p) (alternatives ks ls) else None

-- the merge of two receptions from the same sender
abbrev pub merged_receptions : LocalTree → LocalTree → Option LocalTree
merged_receptions LocalEnd k = None
merged_receptions (LocalVar n) k = None
merged_receptions (LocalRec l) k = None
merged_receptions (Send q ls) k = None
merged_receptions (Recv p ls) k = merged_from p ls k

-- the merge of two branches: under the plain profile they have to be the same; under the reception profile receptions
-- from the same sender may differ
abbrev pub merged_two : Profile → LocalTree → LocalTree → Option LocalTree
merged_two Plain l k = if same_local l k then Some l else None
merged_two Reception l k = if same_local l k then Some l else merged_receptions l k

-- the merge of l with these branches, one after the other
abbrev pub merged_with : Profile → LocalTree → LocalBranches → Option LocalTree
merged_with profile l NoChoice = Some l
merged_with profile l (Choice m k ls) = option_and_then (λ j. merged_with profile j ls) (merged_two profile l k)

-- the merge of all branches
abbrev pub merged : Profile → LocalBranches → Option LocalTree
merged profile NoChoice = None
merged profile (Choice m l ls) = merged_with profile l ls

-- adds a branch, where it and all the others have projections
abbrev pub with_choice : Message → Option LocalTree → Option LocalBranches → Option LocalBranches
with_choice m None ls = None
with_choice m (Some l) None = None
with_choice m (Some l) (Some ls) = Some (Choice m l ls)

-- a communication as its sender, its receiver and every other role sees it, from the branches' projections
abbrev pub seen_by : Profile → (role sender receiver : List ℕ) → Option LocalBranches → Option LocalTree
seen_by profile r p q ls =
    if bytes_eq r p then option_map (Send q) ls
    else (if bytes_eq r q then option_map (Recv p) ls else option_and_then (merged profile) ls)

-- the projection on a role under the profile, if it is defined
abbrev mutual
  pub projection : Profile → List ℕ → GlobalTree → Option LocalTree
  projection profile r GlobalEnd = Some LocalEnd
  projection profile r (GlobalVar n) = Some (LocalVar n)
  projection profile r (GlobalRec g) =
      if is_closed (GlobalRec g) && not (occurs r g) then Some LocalEnd
      else option_map LocalRec (projection profile r g)
  projection profile r (Comm p q bs) = seen_by profile r p q (branch_projections profile r bs)
  projection profile r (Flight p q j bs) = None

  pub branch_projections : Profile → List ℕ → GlobalBranches → Option LocalBranches
  branch_projections profile r NoBranch = Some NoChoice
  branch_projections profile r (Branch m g bs) =
      with_choice m (projection profile r g) (branch_projections profile r bs)
