-- The choices that the communications of a type come from (this project's own).
use Rattle.std.specs.Prelude.{◌≡◌, ℕ, ◌+◌, Bool, false, List, [], ◌∷◌, ◌++◌, Some, if◌then◌else◌}
use Rattle.std.specs.List.{AllZip}
use Rattle.scrib_types.specs.declared.spot.Spot.{Spot}
use Rattle.scrib_types.specs.Trees.{GlobalTree, GlobalEnd, GlobalVar, GlobalRec, Comm, Flight, GlobalBranches, NoBranch, Branch}
use Rattle.scrib_types.specs.WellFormed.{has_branches}
use Rattle.scrib_tree.specs.declared.tree.ModuleTree.{ModuleTree}
use Rattle.scrib_elaborate.specs.declared.elaborated.Elaborated.{Elaborated}
use Rattle.scrib_elaborate.specs.declared.elaborated.ChoiceSite.{ChoiceSite}
use Rattle.scrib_static_checks.specs.Source.{Body, Then, Chooses, Blocks}
use Rattle.scrib_static_checks.specs.Names.{Declaration, find_protocol}
use Rattle.scrib_static_checks.specs.Elaboration.{Scope, Frames, Under, Types, start_of}
use Rattle.scrib_static_checks.specs.Faults.{Needs}
use Rattle.scrib_elaborate.specs.Meaning.{elaborated_meaning, sites_of}

-- The communications of a type in post-order, where n recursions are around the type. Each has the number of recursions
-- around it. Those in a communication's branches precede it, from the first branch on.
abbrev mutual
  pub communications : (n : ℕ) → GlobalTree → List (ℕ × GlobalTree)
  communications n GlobalEnd = []
  communications n (GlobalVar i) = []
  communications n (GlobalRec g) = communications (n + 1) g
  communications n (Comm p q bs) = branch_communications n bs ++ (n, Comm p q bs) ∷ []
  communications n (Flight p q j bs) = branch_communications n bs ++ (n, Flight p q j bs) ∷ []

  pub branch_communications : (n : ℕ) → GlobalBranches → List (ℕ × GlobalTree)
  branch_communications n NoBranch = []
  branch_communications n (Branch m g bs) = communications n g ++ branch_communications n bs

-- whether there are two branches or more
abbrev pub has_several : GlobalBranches → Bool
has_several NoBranch = false
has_several (Branch m g bs) = has_branches bs

-- whether the type is a communication with several branches
abbrev pub is_several : GlobalTree → Bool
is_several GlobalEnd = false
is_several (GlobalVar i) = false
is_several (GlobalRec g) = false
is_several (Comm p q bs) = has_several bs
is_several (Flight p q j bs) = has_several bs

abbrev pub several_of : List (ℕ × GlobalTree) → List (ℕ × GlobalTree)
several_of [] = []
several_of (c ∷ cs) = if is_several c.1 then c ∷ several_of cs else several_of cs

-- the communications with several branches of a closed type
abbrev pub several : GlobalTree → List (ℕ × GlobalTree)
several g = several_of (communications 0 g)

-- The module of this name contains a choice at this position, whose type under n recursions is this one. The type of
-- the frames `from`, under k recursions, is built from it.
pub record IsSite (modules : List ModuleTree) (k : ℕ) (from : Frames) (home : List (List ℕ)) (spot : Spot) (n : ℕ)
    (type : GlobalTree) : Type 0 where
  pub scope : Scope
  pub chooser : List ℕ
  pub blocks : Blocks
  pub after : Body
  pub outer : Frames
  pub there : home ≡ scope.within.home.name
  pub needs : Needs modules k from n (Under scope (Then (Chooses chooser blocks spot) after) outer)
  pub typed : Types modules n (Under scope (Then (Chooses chooser blocks spot) after) outer) type

-- the site is the position of a choice in the protocol whose type is this communication
abbrev pub IsSiteOf : List ModuleTree → Declaration → (ℕ × GlobalTree) → ChoiceSite → Type 0
IsSiteOf modules root c j = IsSite modules 0 (start_of root) j.module j.spot c.0 c.1

-- the sites of an elaborated protocol are, one by one, those of its type's communications with several branches
pub record AreSites (modules : List ModuleTree) (home : List (List ℕ)) (name : List ℕ) (e : Elaborated) : Type 0 where
  pub root : Declaration
  pub there : find_protocol modules home name ≡ Some root
  pub each : AllZip (IsSiteOf modules root) (several (elaborated_meaning e).global) (sites_of e)
