-- Places in a sorted list of actions (this project's own).
-- Only contracts of private functions cite this file.
use Rattle.std.specs.Prelude.{ℕ, ◌≤◌, List, length, take, drop, Option, Some, None, Contains}
use Rattle.std.specs.List.{AllByRecursion}
use Rattle.scrib_types.specs.declared.event.Action.{Action}
use Rattle.scrib_types.specs.Judgement.{ComesBefore}

-- the action belongs before the i-th: after all earlier ones, and before all the others
pub record BelongsAt (act : Action) (list : List Action) (i : ℕ) : Type 0 where
  pub within : i ≤ length list
  pub after : AllByRecursion (λ x. ComesBefore x act) (take i list)
  pub before : AllByRecursion (ComesBefore act) (drop i list)

-- the index at which the action belongs, or that the list contains it
abbrev pub IsPlaceFor : Action → List Action → Option ℕ → Type 0
IsPlaceFor act list None = Contains list act
IsPlaceFor act list (Some i) = BelongsAt act list i
