-- Blocks that add no communication to what follows them (this project's own).
-- Only contracts of this crate, and of private functions of `scrib_elaborate`, cite this file.
use Rattle.std.specs.Prelude.{◌≡◌, ℕ, true, List, length, Some}
use Rattle.scrib_types.specs.declared.spot.Spot.{Spot}
use Rattle.scrib_types.specs.WellFormed.{has_role}
use Rattle.scrib_tree.specs.declared.tree.ModuleTree.{ModuleTree}
use Rattle.scrib_static_checks.specs.Source.{Body, Done, Then, Statement, Chooses, Repeats, Calls, Blocks, NoBlock, OrBlock}
use Rattle.scrib_static_checks.specs.SourceView.{body_of}
use Rattle.scrib_static_checks.specs.Names.{Declaration, roles_of, called}
use Rattle.scrib_static_checks.specs.Elaboration.{given_for}

-- The block, with the protocols that it calls, contains no message, choice or `continue`.
pub data AddsNothing (modules : List ModuleTree) : Declaration → Body → Type 0 where
  nothing_ends : {d : Declaration} → AddsNothing modules d Done
  nothing_repeats : {d : Declaration} {x : List ℕ} {c : Body} {s : Spot} {b : Body} → AddsNothing modules d c
      → AddsNothing modules d b → AddsNothing modules d (Then (Repeats x c s) b)
  nothing_calls : {d : Declaration} {path roles : List (List ℕ)} {s : Spot} {b : Body} {c : Declaration}
      → called modules d.home path ≡ Some c → AddsNothing modules c (body_of c.protocol.body) → AddsNothing modules d b
      → AddsNothing modules d (Then (Calls path roles s) b)

-- The block contains no message or `continue`, and each choice is by this role and has one branch.
pub data OnlyJoins (modules : List ModuleTree) : Declaration → (chooser : List ℕ) → Body → Type 0 where
  only_ends : {d : Declaration} {p : List ℕ} → OnlyJoins modules d p Done
  only_chooses : {d : Declaration} {p : List ℕ} {c : Body} {t s : Spot} {b : Body} → OnlyJoins modules d p c
      → OnlyJoins modules d p b → OnlyJoins modules d p (Then (Chooses p (OrBlock c t NoBlock) s) b)
  only_repeats : {d : Declaration} {p x : List ℕ} {c : Body} {s : Spot} {b : Body} → OnlyJoins modules d p c
      → OnlyJoins modules d p b → OnlyJoins modules d p (Then (Repeats x c s) b)
  -- a call of a protocol that adds nothing
  only_passes : {d : Declaration} {p : List ℕ} {path roles : List (List ℕ)} {s : Spot} {b : Body} {c : Declaration}
      → called modules d.home path ≡ Some c → AddsNothing modules c (body_of c.protocol.body) → OnlyJoins modules d p b
      → OnlyJoins modules d p (Then (Calls path roles s) b)
  -- a call of a protocol whose choices are by a role for which this one is passed
  only_calls : {d : Declaration} {p q : List ℕ} {path roles : List (List ℕ)} {s : Spot} {b : Body} {c : Declaration}
      → called modules d.home path ≡ Some c → length roles ≡ length (roles_of c) → has_role q (roles_of c) ≡ true
      → given_for (roles_of c) roles q ≡ p → OnlyJoins modules c q (body_of c.protocol.body)
      → OnlyJoins modules d p b → OnlyJoins modules d p (Then (Calls path roles s) b)

-- The first choice of the block, in the order of the text with each call followed, is at this position in this
-- protocol.
pub data BeginsAt (modules : List ModuleTree) : Declaration → Body → (home : Declaration) → Spot → Type 0 where
  begins_here : {d : Declaration} {p : List ℕ} {bs : Blocks} {s : Spot} {b : Body}
      → BeginsAt modules d (Then (Chooses p bs s) b) d s
  begins_in_rec : {d home : Declaration} {x : List ℕ} {c : Body} {t s : Spot} {b : Body} → BeginsAt modules d c home s
      → BeginsAt modules d (Then (Repeats x c t) b) home s
  begins_in_call : {d home : Declaration} {path roles : List (List ℕ)} {t s : Spot} {b : Body} {c : Declaration}
      → called modules d.home path ≡ Some c → BeginsAt modules c (body_of c.protocol.body) home s
      → BeginsAt modules d (Then (Calls path roles t) b) home s
  -- after a statement that adds nothing
  begins_later : {d home : Declaration} {step : Statement} {s : Spot} {b : Body}
      → AddsNothing modules d (Then step Done) → BeginsAt modules d b home s → BeginsAt modules d (Then step b) home s
