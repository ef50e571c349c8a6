-- Edits of the stored versions, applied one after another.
use Rattle.std.proofs.Common.{◌≡◌, ◌≢◌, ℕ, ◌+◌, ◌<◌, List, [], ◌∷◌, ◌++◌, length, get_or, set, take, map, Some, None, inl, inr, refl, sym, ap, ◌∙◌, subst, arith}
use Rattle.std.specs.Prelude.{◌↔◌}
use Rattle.std.specs.List.{Contains, insert, remove}
use Rattle.std.proofs.Math.Seq.{map-set_same}
use Rattle.std.proofs.lemmas.Bool.{cases_lt}
use Rattle.std.proofs.lemmas.List.{get_or-map, length-map, map-append, get_or-take, length-take}
use Rattle.std.proofs.lemmas.List.Edits.{length-remove, get_or-remove_below, get_or-remove_above}
use Rattle.std.proofs.lemmas.List.Elements.{Contains-append_left, Contains-push, Contains-push_cases}
use Rattle.std.proofs.lemmas.List.Quantifiers.{all_pairs_remove}
use Rattle.std.specs.declared.cmp.Ordering.TheVariants.{Less}
use Rattle.scrib_record.specs.declared.version.Version.{Version}
use Rattle.scrib_library.specs.declared.versions.NamedVersion.{NamedVersion}
use Rattle.scrib_library.specs.declared.versions.VersionEdit.{VersionEdit}
use Rattle.scrib_library.specs.Listed.{name_cmp, AreInOrder, IsAt, IsGap}
use Rattle.scrib_library.specs.Stored.{version_names, HasVersion}
use Rattle.scrib_library.specs.Drafts.{edit_names, IsApplied, AreApplied}
use Rattle.scrib_library.proofs.Lists.{Contains-nil, Contains-map, Contains-map_back, Contains-remove_cases, Contains-remove_back, map-remove, Contains-set_cases, Contains-set_here, Contains-set_other}
use Rattle.scrib_library.proofs.Orders.{once, not_before, get_or_any}
use Rattle.scrib_library.proofs.SearchLemmas.{Contains-insert, Contains-insert_cases, map-insert, in_order-insert, not_at_gap}

-- ---- one edit

module _ (vs : List NamedVersion) (sorted : AreInOrder (version_names vs)) (e : VersionEdit) where
  -- the case where the name has a version
  module _ (i : ℕ) (at : IsAt (version_names vs) e.name i) where
    within : i < length vs
    within = omega (arith, at.0, length-map vs (λ (v : NamedVersion). v.name))

    named_at : (d : NamedVersion) → (get_or vs i d).name ≡ e.name
    named_at d = sym (get_or-map (λ (v : NamedVersion). v.name) vs i d e.name within) ∙ at.1 e.name

    there_at : (d : NamedVersion) → Contains vs (get_or vs i d)
    there_at d = (i, within, get_or_any vs i (get_or vs i d) d within)

    -- an element of another name is at another index
    elsewhere : (v : NamedVersion) → v.name ≢ e.name → (p : Contains vs v) → p.0 ≡ i → ⊥
    elsewhere v other p same =
        other (ap (λ (x : NamedVersion). x.name) (sym p.2 ∙ ap (λ k. get_or vs k v) same) ∙ named_at v)

    pub made_set : (x : NamedVersion) → x.name ≡ e.name → e.version ≡ Some x.version → IsApplied vs e (set vs i x)
    made_set x named new =
        let names : version_names (set vs i x) ≡ version_names vs = map-set_same (λ (v : NamedVersion). v.name) vs i x x (named ∙ sym (named_at x)) in
        let P : List (List (List ℕ)) → Type 0 = λ l. AreInOrder l in
        let after : AreInOrder (version_names (set vs i x)) = subst P (sym names) sorted in
        record {
          sorted = after;
          here = λ v same. (
            λ p. new ∙ ap (λ (y : NamedVersion). Some y.version) (once (λ (y : NamedVersion). y.name) (set vs i x) after x v (Contains-set_here vs i x within) p (named ∙ sym same)),
            λ q.
                let version : x.version ≡ v.version = cc (new, q) in
                let whole : x ≡ v = (λ j. record { name = (named ∙ sym same) j; version = version j }) in
                let Q : NamedVersion → Type 0 = λ y. Contains (set vs i x) y in
                subst Q whole (Contains-set_here vs i x within),
          );
          others = λ v other. (
            λ p. elim (Contains-set_cases vs i x v p) [
              | inl same ↦ absurd (other (ap (λ (y : NamedVersion). y.name) (sym same) ∙ named))
              | inr q ↦ q
            ],
            λ p. Contains-set_other vs i x v p (elsewhere v other p),
          );
        }

    pub made_remove : e.version ≡ None → IsApplied vs e (remove vs i)
    made_remove none =
        let names : version_names (remove vs i) ≡ remove (version_names vs) i = map-remove (λ (v : NamedVersion). v.name) vs i in
        let P : List (List (List ℕ)) → Type 0 = λ l. AreInOrder l in
        let after : AreInOrder (version_names (remove vs i)) = subst P (sym names) (all_pairs_remove (λ m n. name_cmp m n ≡ Less) (version_names vs) i at.0 sorted) in
        record {
          sorted = after;
          here = λ v same. (
            λ p. absurd (gone v same p),
            λ q. absurd (cc (none, q)),
          );
          others = λ v other. (
            λ p. Contains-remove_back vs i v within p,
            λ p. elim (Contains-remove_cases vs i v within p) [
              | inl is ↦ absurd (other (ap (λ (y : NamedVersion). y.name) (sym is) ∙ named_at v))
              | inr q ↦ q
            ],
          );
        }
      where
        gone : (v : NamedVersion) → v.name ≡ e.name → Contains (remove vs i) v → ⊥
        gone v same p =
            let long = length-map vs (λ (y : NamedVersion). y.name) in
            let fewer = length-remove vs i within in
            elim (cases_lt p.0 i) [
              | inl lt ↦ (
                  let low : p.0 < length vs = omega (arith, lt, within) in
                  let name : get_or (version_names vs) p.0 e.name ≡ e.name =
                  get_or-map (λ (y : NamedVersion). y.name) vs p.0 v e.name low ∙ ap (λ (y : NamedVersion). y.name) (sym (get_or-remove_below vs i v p.0 lt within) ∙ p.2) ∙ same in
                  not_before (get_or (version_names vs) p.0 e.name) (get_or (version_names vs) i e.name) (name ∙ sym (at.1 e.name)) (sorted p.0 i e.name lt at.0))
              | inr le ↦ (
                  let high : p.0 + 1 < length vs = omega (arith, p.1, fewer) in
                  let name : get_or (version_names vs) (p.0 + 1) e.name ≡ e.name =
                  get_or-map (λ (y : NamedVersion). y.name) vs (p.0 + 1) v e.name high ∙ ap (λ (y : NamedVersion). y.name) (sym (get_or-remove_above vs i v p.0 le within) ∙ p.2) ∙ same in
                  not_before (get_or (version_names vs) i e.name) (get_or (version_names vs) (p.0 + 1) e.name) (at.1 e.name ∙ sym name) (sorted i (p.0 + 1) e.name (omega (arith, le)) (omega (arith, high, long))))
            ]

  -- the case where it has none
  module _ (i : ℕ) (gap : IsGap (version_names vs) e.name i) where
    absent : (v : NamedVersion) → v.name ≡ e.name → Contains vs v → ⊥
    absent v same p =
        let P : List (List ℕ) → Type 0 = λ n. Contains (version_names vs) n in
        not_at_gap (version_names vs) i e.name gap (subst P same (Contains-map (λ (y : NamedVersion). y.name) vs v p))

    pub made_insert : (x : NamedVersion) → x.name ≡ e.name → e.version ≡ Some x.version → IsApplied vs e (insert vs i x)
    made_insert x named new =
        let names : version_names (insert vs i x) ≡ insert (version_names vs) i x.name = map-insert (λ (v : NamedVersion). v.name) vs i x in
        let P : List (List (List ℕ)) → Type 0 = λ l. AreInOrder l in
        let Q : List (List ℕ) → Type 0 = λ n. IsGap (version_names vs) n i in
        record {
          sorted = subst P (sym names) (in_order-insert (version_names vs) i x.name sorted (subst Q (sym named) gap));
          here = λ v same. (
            λ p. elim (Contains-insert_cases vs i x v p) [
              | inl is ↦ new ∙ ap (λ (y : NamedVersion). Some y.version) is
              | inr q ↦ absurd (absent v same q)
            ],
            λ q.
                let version : x.version ≡ v.version = cc (new, q) in
                let whole : x ≡ v = (λ j. record { name = (named ∙ sym same) j; version = version j }) in
                Contains-insert vs i x v (inl whole),
          );
          others = λ v other. (
            λ p. elim (Contains-insert_cases vs i x v p) [
              | inl is ↦ absurd (other (ap (λ (y : NamedVersion). y.name) (sym is) ∙ named))
              | inr q ↦ q
            ],
            λ p. Contains-insert vs i x v (inr p),
          );
        }

    pub made_nothing : e.version ≡ None → IsApplied vs e vs
    made_nothing none = record {
      sorted = sorted;
      here = λ v same. (λ p. absurd (absent v same p), λ q. absurd (cc (none, q)));
      others = λ v other. (λ p. p, λ p. p);
    }

-- ---- all edits

module _ (before : List NamedVersion) where
  pub all_made_none : AreInOrder (version_names before) → AreApplied before [] before
  all_made_none sorted = record { sorted = sorted; here = λ e v p. absurd (Contains-nil e p); others = λ v other. (λ p. p, λ p. p) }

  pub all_made_more : (es : List VersionEdit) (e : VersionEdit) (vs ws : List NamedVersion) → AreApplied before es vs → (Contains (edit_names es) e.name → ⊥) → IsApplied vs e ws → AreApplied before (es ++ e ∷ []) ws
  all_made_more es e vs ws h new made = record {
    sorted = made.sorted;
    here = λ f v p same. elim (Contains-push_cases es e f p) [
      | inl q ↦ (
          let other : v.name ≢ e.name =
          (λ is. let P : List (List ℕ) → Type 0 = λ n. Contains (edit_names es) n in new (subst P (sym same ∙ is) (Contains-map (λ (x : VersionEdit). x.name) es f q))) in
          let m = made.others v other in
          let k = h.here f v q same in
          (λ t. k.0 (m.0 t), λ t. m.1 (k.1 t)))
      | inr is ↦ (let P : VersionEdit → Type 0 = λ x. v.name ≡ x.name → (Contains ws v ↔ (x.version ≡ Some v.version)) in subst P is (made.here v) same)
    ];
    others = λ v other.
        let m = made.others v (λ is. other (in_last v is)) in
        let k = h.others v (λ t. other (in_first v t)) in
        (λ t. k.0 (m.0 t), λ t. m.1 (k.1 t));
  }
    where
      names : edit_names (es ++ e ∷ []) ≡ edit_names es ++ e.name ∷ []
      names = map-append (λ (x : VersionEdit). x.name) es (e ∷ [])

      in_last : (v : NamedVersion) → v.name ≡ e.name → Contains (edit_names (es ++ e ∷ [])) v.name
      in_last v is =
          let P : List (List (List ℕ)) → Type 0 = λ l. Contains l v.name in
          let Q : List (List ℕ) → Type 0 = λ n. Contains (edit_names es ++ e.name ∷ []) n in
          subst P (sym names) (subst Q (sym is) (Contains-push (edit_names es) e.name))

      in_first : (v : NamedVersion) → Contains (edit_names es) v.name → Contains (edit_names (es ++ e ∷ [])) v.name
      in_first v t =
          let P : List (List (List ℕ)) → Type 0 = λ l. Contains l v.name in
          subst P (sym names) (Contains-append_left (edit_names es) (e.name ∷ []) v.name t)

-- ---- look-ups

-- the version that a search finds
pub found_name : (vs : List NamedVersion) (name : List (List ℕ)) (i : ℕ) (v : NamedVersion) → v ≡ get_or vs i v → IsAt (version_names vs) name i → v.name ≡ name
found_name vs name i v at there =
    let lt : i < length vs = omega (arith, there.0, length-map vs (λ (x : NamedVersion). x.name)) in
    ap (λ (x : NamedVersion). x.name) at ∙ sym (get_or-map (λ (x : NamedVersion). x.name) vs i v name lt) ∙ there.1 name

pub found_version : (vs : List NamedVersion) (name : List (List ℕ)) (i : ℕ) (v : NamedVersion) → v ≡ get_or vs i v → IsAt (version_names vs) name i → HasVersion vs name v.version
found_version vs name i v at there =
    let lt : i < length vs = omega (arith, there.0, length-map vs (λ (x : NamedVersion). x.name)) in
    let named = found_name vs name i v at there in
    let P : List (List ℕ) → Type 0 = λ n. HasVersion vs n v.version in
    subst P named (i, lt, sym at)

pub no_version : (vs : List NamedVersion) (name : List (List ℕ)) (i : ℕ) → IsGap (version_names vs) name i → (w : Version) → HasVersion vs name w → ⊥
no_version vs name i gap w p =
    not_at_gap (version_names vs) i name gap (Contains-map (λ (x : NamedVersion). x.name) vs (record { name = name; version = w }) p)

-- ---- names of edits

pub map_same : {X : Type 0} (xs : List X) → map (λ x. x) xs ≡ xs
map_same [] = refl
map_same (x ∷ xs) = ap (λ l. x ∷ l) (map_same xs)

-- a name differs from those at lesser indices
pub unedited : (all : List VersionEdit) → AreInOrder (edit_names all) → (i : ℕ) (e : VersionEdit) → i < length all → e ≡ get_or all i e → (es : List VersionEdit) → map (λ (x : VersionEdit). x) es ≡ take i all → Contains (edit_names es) e.name → ⊥
unedited all sorted i e lt at es is p =
    let c = Contains-map_back (λ (x : VersionEdit). x.name) es e.name p in
    let P : List VersionEdit → Type 0 = λ l. Contains l c.0 in
    let q : Contains (take i all) c.0 = subst P (sym (map_same es) ∙ is) c.1 in
    let low : q.0 < i = omega (arith, q.1, length-take i all) in
    let high : q.0 < length all = omega (arith, low, lt) in
    let long = length-map all (λ (x : VersionEdit). x.name) in
    let first = get_or-map (λ (x : VersionEdit). x.name) all q.0 c.0 e.name high ∙ ap (λ (x : VersionEdit). x.name) (sym (get_or-take i all q.0 c.0 low) ∙ q.2) in
    let second = get_or-map (λ (x : VersionEdit). x.name) all i e e.name lt ∙ ap (λ (x : VersionEdit). x.name) (sym at) in
    not_before (get_or (edit_names all) q.0 e.name) (get_or (edit_names all) i e.name) (first ∙ c.2 ∙ sym second) (sorted q.0 i e.name low (omega (arith, lt, long)))
