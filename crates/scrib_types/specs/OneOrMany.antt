-- The items of a list, wherever they are stored. Only the view of such lists cites this file.
use Rattle.std.specs.Prelude.{List, [], ◌∷◌}
use Rattle.scrib_types.specs.declared.one_or_many.Storage.{Storage}
use Rattle.scrib_types.specs.declared.one_or_many.Storage.TheVariants.{One, Listed}

-- the stored items, in order
abbrev pub items_in : {T : Type 0} → Storage T → List T
items_in (One x) = x ∷ []
items_in (Listed xs) = xs
