-- The indices of the passes of a connection.
use Rattle.std.proofs.Common.{◌≡◌, ◌+◌, ◌∙◌, ℕ, suc, Bool, true, false, cond, not, if◌then◌else◌, List, [], ◌∷◌, Option, Some, None, slice_get, get_or, position, nat_eq, option_map, IfSome, refl, sym, ap, subst, eqb-true, arith}
use Rattle.std.specs.List.{position_or_len}
use Rattle.std.specs.Map.{keys_of}
use Rattle.std.proofs.lemmas.Option.{slice_get-map, slice_get-get_or}
use Rattle.std.proofs.lemmas.List.Quantifiers.{position-Some}
use Rattle.indexmap.specs.IndexMap.{insert_entry}

-- an id that was read at an index is the key there
pub index_read : {X : Type 0} (es : List (ℕ × X)) (at key id : ℕ) (x : X) → Some (key, x) ≡ slice_get es at → key ≡ id → slice_get (keys_of es) at ≡ Some id
index_read {X} es at key id x read same =
    slice_get-map (λ (e : ℕ × X). e.0) es at ∙ ap (option_map (λ (e : ℕ × X). e.0)) (sym read) ∙ ap Some same

-- an id that a search found at an index is the key there
pub index_found : (keys : List ℕ) (id : ℕ) (o : Option ℕ) → o ≡ position (nat_eq id) keys → IfSome o (λ at. slice_get keys at ≡ Some id)
index_found keys id None index = tt
index_found keys id (Some at) index =
    let p = position-Some (nat_eq id) keys at 0 (sym index) in
    slice_get-get_or keys at 0 p.0 ∙ ap Some (sym (eqb-true id (get_or keys at 0) p.1))

-- an id that was inserted is the key at its index
pub index_inserted : {X : Type 0} (es : List (ℕ × X)) (id : ℕ) (x : X) → slice_get (keys_of (insert_entry nat_eq es id x)) (position_or_len (nat_eq id) (keys_of es)) ≡ Some id
index_inserted [] id x = refl
index_inserted {X} (e ∷ es) id x = by (nat_eq id e.0) refl (index_inserted es id x)
  where
    by : (t : Bool) → nat_eq id e.0 ≡ t → slice_get (keys_of (insert_entry nat_eq es id x)) (position_or_len (nat_eq id) (keys_of es)) ≡ Some id
        → slice_get (keys_of (if t then (e.0, x) ∷ es else e ∷ insert_entry nat_eq es id x)) (cond (not t) (1 + position_or_len (nat_eq id) (keys_of es)) 0) ≡ Some id
    by true is rest = ap Some (sym (eqb-true id e.0 is))
    by false is rest =
        let next : suc (position_or_len (nat_eq id) (keys_of es)) ≡ 1 + position_or_len (nat_eq id) (keys_of es) = omega arith in
        subst (λ (n : ℕ). slice_get (keys_of (e ∷ insert_entry nat_eq es id x)) n ≡ Some id) next rest
