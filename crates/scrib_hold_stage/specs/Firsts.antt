-- The first item of a list that has a property (this project's own).
use Rattle.std.specs.Prelude.{◌≡◌, ℕ, List, ◌∷◌, ◌++◌, Some, take, slice_get}
use Rattle.std.specs.List.{AllByRecursion}

-- the item at this index has the one property, and those before it have the other
pub record IsFirstAt {X : Type 0} (Is IsNot : X → Type 0) (index : ℕ) (items : List X) : Type 0 where
  pub x : X
  pub at : slice_get items index ≡ Some x
  pub is : Is x
  pub before : AllByRecursion IsNot (take index items)

-- the first item that has the one property is taken out; those before it have the other
pub record IsFirstTaken {X : Type 0} (Is IsNot : X → Type 0) (x : X) (old new : List X) : Type 0 where
  pub front : List X
  pub back : List X
  pub was : old ≡ front ++ x ∷ back
  pub left : new ≡ front ++ back
  pub is : Is x
  pub before : AllByRecursion IsNot front
