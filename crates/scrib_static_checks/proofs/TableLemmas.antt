-- What is at an index of the table of declared protocols.
use Rattle.std.proofs.Common.{◌≡◌, ℕ, true, ltb, List, length, get_or, Some, option_map, refl, sym, ap, ◌∙◌}
use Rattle.std.proofs.lemmas.Bool.{ltb-true}
use Rattle.std.specs.List.{slice_get}
use Rattle.std.proofs.lemmas.Option.{slice_get-map, slice_get_read}
use Rattle.scrib_static_checks.specs.declared.declared.Declaration.{Declaration}
use Rattle.scrib_static_checks.specs.Table.{declaration_of, shown}

-- the element that is borrowed at an index
pub lent_at : {X : Type 0} (xs : List X) (i : ℕ) (x : X) → true ≡ ltb i (length xs) → x ≡ get_or xs i x → slice_get xs i ≡ Some x
lent_at xs i x e f = slice_get_read xs (length xs) i x refl (ltb-true i (length xs) (sym e)) f

-- the protocol at an index of the table
pub there_shown : (declared : List Declaration) (place : ℕ) (root : Declaration) → slice_get declared place ≡ Some root → slice_get (shown declared) place ≡ Some (declaration_of root)
there_shown declared place root e = slice_get-map declaration_of declared place ∙ ap (option_map declaration_of) e
