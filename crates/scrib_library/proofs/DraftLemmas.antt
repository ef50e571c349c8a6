-- The edits of the versions, found one after another.
use Rattle.std.proofs.Common.{◌≡◌, ℕ, ◌+◌, ◌<◌, ◌≤◌, Bool, cond, List, [], ◌∷◌, ◌++◌, length, get_or, take, drop, map, Option, Some, None, is_some, inl, inr, refl, sym, ap, ◌∙◌, subst, arith}
use Rattle.std.specs.List.{Contains}
use Rattle.std.specs.declared.cmp.Ordering.TheVariants.{Less}
use Rattle.std.proofs.lemmas.List.{get_or-map, length-map, map-append, get_or-take, length-take, take-append-drop}
use Rattle.std.proofs.lemmas.List.Elements.{Contains-append_left, Contains-push, Contains-push_cases}
use Rattle.std.proofs.lemmas.List.Quantifiers.{all_pairs_push}
use Rattle.std.proofs.lemmas.List.Sums.{sum_by_push}
use Rattle.scrib_record.specs.declared.version.Version.{Version}
use Rattle.scrib_record.specs.Versions.{number_of}
use Rattle.scrib_library.specs.declared.versions.NamedVersion.{NamedVersion}
use Rattle.scrib_library.specs.declared.versions.VersionEdit.{VersionEdit}
use Rattle.scrib_library.specs.declared.meanings.NamedMeaning.{NamedMeaning}
use Rattle.scrib_library.specs.declared.changes.ChangeKind.{ChangeKind}
use Rattle.scrib_library.specs.declared.changes.Change.{Change}
use Rattle.scrib_library.specs.declared.fault.EditFault.{EditFault}
use Rattle.scrib_library.specs.declared.fault.EditFault.TheVariants as edit
use Rattle.scrib_library.specs.Edits.{has_new_version, new_versions}
use Rattle.scrib_library.specs.Listed.{name_cmp, AreInOrder}
use Rattle.scrib_library.specs.Stored.{IsVersion}
use Rattle.scrib_library.specs.Elaborated.{meant, meaning_names}
use Rattle.scrib_library.specs.Drafts.{shown_changes, edit_names, change_names, meaning_before, IsKind, IsEditFrom, LacksVersion, IsChangedBy, IsUnchanged, IsEditOf, IsDraft, StopsDraft}
use Rattle.scrib_library.proofs.Lists.{Contains-nil, Contains-map_back}
use Rattle.scrib_library.proofs.Orders.{get_or_any}
use Rattle.scrib_library.proofs.VersionEditLemmas.{map_same}

-- the names at lesser indices are less
pub later : (all : List NamedMeaning) → AreInOrder (meaning_names all) → (i : ℕ) (y : NamedMeaning) → i < length all → y ≡ get_or all i y → (ys : List NamedMeaning) → ys ≡ take i all → (z : NamedMeaning) → Contains ys z → name_cmp z.name y.name ≡ Less
later all sorted i y lt at ys is z p =
    let P : List NamedMeaning → Type 0 = λ l. Contains l z in
    let q : Contains (take i all) z = subst P is p in
    let low : q.0 < i = omega (arith, q.1, length-take i all) in
    let high : q.0 < length all = omega (arith, low, lt) in
    let long = length-map all (λ (x : NamedMeaning). x.name) in
    let first = get_or-map (λ (x : NamedMeaning). x.name) all q.0 z y.name high ∙ ap (λ (x : NamedMeaning). x.name) (sym (get_or-take i all q.0 z low) ∙ q.2) in
    let second = get_or-map (λ (x : NamedMeaning). x.name) all i y y.name lt ∙ ap (λ (x : NamedMeaning). x.name) (sym at) in
    (λ k. name_cmp (sym first k) (sym second k)) ∙ sorted q.0 i y.name low (omega (arith, lt, long))

-- ---- more names

more_changed : (olds : List NamedVersion) (ys zs : List NamedMeaning) → ((z : NamedMeaning) → Contains ys z → Contains zs z) → (kind : ChangeKind) (n : List (List ℕ)) → IsChangedBy olds ys kind n → IsChangedBy olds zs kind n
more_changed olds ys zs more kind n h = record {
  meaning = h.meaning;
  there = more h.meaning h.there;
  named = h.named;
  version = h.version;
  before = h.before;
  changed = h.changed;
}

more_sound : (ys zs : List NamedMeaning) → ((z : NamedMeaning) → Contains ys z → Contains zs z) → (e : VersionEdit) → IsEditOf ys e → IsEditOf zs e
more_sound ys zs more e h = record { meaning = h.meaning; there = more h.meaning h.there; named = h.named; new = h.new }

pub names_shown : (es : List VersionEdit) → change_names (shown_changes es) ≡ edit_names es
names_shown [] = refl
names_shown (e ∷ es) = ap (λ l. e.name ∷ l) (names_shown es)

-- the number of new versions, with one more change
new_versions-push : (cs : List Change) (c : Change) → new_versions (cs ++ c ∷ []) ≡ new_versions cs + cond (has_new_version c.kind) 1 0
new_versions-push cs c = sum_by_push (λ (x : Change). cond (has_new_version x.kind) 1 0) cs c

in_order-push : (names : List (List (List ℕ))) (n : List (List ℕ)) → AreInOrder names → ((m : List (List ℕ)) → Contains names m → name_cmp m n ≡ Less) → AreInOrder (names ++ n ∷ [])
in_order-push names n sorted before =
    all_pairs_push (λ a b. name_cmp a b ≡ Less) names n sorted (λ k d lt. before (get_or names k d) (k, lt, get_or_any names k (get_or names k d) d lt))

pub draft_none : (olds : List NamedVersion) (first : ℕ) → first ≤ 65536 → IsDraft olds [] first [] first
draft_none olds first few = record {
  sorted = λ i j d lt last. absurd (omega (arith, last));
  sound = λ e p. absurd (Contains-nil e p);
  changed = λ e p. absurd (Contains-nil e p);
  complete = λ y p. absurd (Contains-nil y p);
  numbers = λ e v p. absurd (Contains-nil e p);
  once = λ e f v w p. absurd (Contains-nil e p);
  count = omega arith;
  few = few;
}

module _ (olds : List NamedVersion) (ys : List NamedMeaning) (first : ℕ) (es : List VersionEdit) (used : ℕ) (h : IsDraft olds ys first es used) (y : NamedMeaning) where
  before_last : (z : NamedMeaning) → Contains ys z → Contains (ys ++ y ∷ []) z
  before_last z p = Contains-append_left ys (y ∷ []) z p

  pub draft_same : (b : Option Version) → IsVersion olds y.name b → IsKind (meaning_before b) (meant y) None → IsDraft olds (ys ++ y ∷ []) first es used
  draft_same b at same = record {
    sorted = h.sorted;
    sound = λ e p. more_sound ys (ys ++ y ∷ []) before_last e (h.sound e p);
    changed = λ e p. more_changed olds ys (ys ++ y ∷ []) before_last e.kind e.name (h.changed e p);
    complete = λ z p. elim (Contains-push_cases ys y z p) [
      | inl q ↦ h.complete z q
      | inr is ↦ (let P : NamedMeaning → Type 0 = λ x. IsUnchanged olds x in inl (subst P is (record { version = b; before = at; same = same })))
    ];
    numbers = h.numbers;
    once = h.once;
    count = h.count;
    few = h.few;
  }

  module _ (after : (z : NamedMeaning) → Contains ys z → name_cmp z.name y.name ≡ Less) where
    -- the name is greater than those of the edits
    name_last : (n : List (List ℕ)) → n ≡ y.name → (m : List (List ℕ)) → Contains (edit_names es) m → name_cmp m n ≡ Less
    name_last n is m p =
        let c = Contains-map_back (λ (e : VersionEdit). e.name) es m p in
        let s = h.sound c.0 c.1 in
        (λ k. name_cmp ((sym c.2 ∙ s.named) k) (is k)) ∙ after s.meaning s.there

    module _ (b : Option Version) (at : IsVersion olds y.name b) (e : VersionEdit) (new : IsEditFrom b y used e) where
      names : edit_names (es ++ e ∷ []) ≡ edit_names es ++ e.name ∷ []
      names = map-append (λ (x : VersionEdit). x.name) es (e ∷ [])

      shown_more : shown_changes (es ++ e ∷ []) ≡ shown_changes es ++ record { kind = e.kind; name = e.name } ∷ []
      shown_more = map-append (λ (x : VersionEdit). record { kind = x.kind; name = x.name }) es (e ∷ [])

      number_new : (v : Version) (next : ℕ) → next ≡ used + cond (is_some e.version) 1 0 → e.version ≡ Some v → (first ≤ number_of v) × (number_of v < next)
      number_new v next counts is =
          let k = new.number v is in
          let one : next ≡ used + 1 = counts ∙ ap (λ (o : Option Version). used + cond (is_some o) 1 0) is in
          (omega (arith, k.0, h.count), omega (arith, k.0, one))

      few_new : (o : Option Version) (next : ℕ) → e.version ≡ o → next ≡ used + cond (is_some o) 1 0 → next ≤ 65536
      few_new None next is counts = omega (arith, h.few, counts)
      few_new (Some v) next is counts = (let k = new.number v is in omega (arith, k.1, counts))

      pub draft_more : (next : ℕ) → next ≡ used + cond (is_some e.version) 1 0 → IsDraft olds (ys ++ y ∷ []) first (es ++ e ∷ []) next
      draft_more next counts = record {
        sorted = (let P : List (List (List ℕ)) → Type 0 = λ l. AreInOrder l in subst P (sym names) (in_order-push (edit_names es) e.name h.sorted (name_last e.name new.named)));
        sound = λ f p. elim (Contains-push_cases es e f p) [
          | inl q ↦ more_sound ys (ys ++ y ∷ []) before_last f (h.sound f q)
          | inr is ↦ (let P : VersionEdit → Type 0 = λ x. IsEditOf (ys ++ y ∷ []) x in subst P is (record { meaning = y; there = Contains-push ys y; named = new.named; new = new.new }))
        ];
        changed = λ f p. elim (Contains-push_cases es e f p) [
          | inl q ↦ more_changed olds ys (ys ++ y ∷ []) before_last f.kind f.name (h.changed f q)
          | inr is ↦ (let P : VersionEdit → Type 0 = λ x. IsChangedBy olds (ys ++ y ∷ []) x.kind x.name in subst P is (record { meaning = y; there = Contains-push ys y; named = new.named; version = b; before = at; changed = new.kind }))
        ];
        complete = λ z p. elim (Contains-push_cases ys y z p) [
          | inl q ↦ elim (h.complete z q) [
            | inl u ↦ inl u
            | inr r ↦ inr (let P : List (List (List ℕ)) → Type 0 = λ l. Contains l z.name in subst P (sym names) (Contains-append_left (edit_names es) (e.name ∷ []) z.name r))
          ]
          | inr is ↦ inr (
              let P : List (List (List ℕ)) → Type 0 = λ l. Contains l z.name in
              let Q : List (List ℕ) → Type 0 = λ n. Contains (edit_names es ++ e.name ∷ []) n in
              subst P (sym names) (subst Q (new.named ∙ ap (λ (x : NamedMeaning). x.name) is) (Contains-push (edit_names es) e.name)))
        ];
        numbers = λ f v p is. elim (Contains-push_cases es e f p) [
          | inl q ↦ (let k = h.numbers f v q is in (k.0, omega (arith, k.1, counts)))
          | inr same ↦ number_new v next counts (ap (λ (x : VersionEdit). x.version) same ∙ is)
        ];
        once = λ f g v w p q fv gw equal. elim (Contains-push_cases es e f p) [
          | inl r ↦ elim (Contains-push_cases es e g q) [
            | inl s ↦ h.once f g v w r s fv gw equal
            | inr same ↦ (
                let low = h.numbers f v r fv in
                let high = new.number w (ap (λ (x : VersionEdit). x.version) same ∙ gw) in
                absurd (omega (arith, low.1, high.0, equal)))
          ]
          | inr same ↦ elim (Contains-push_cases es e g q) [
            | inl s ↦ (
                let low = h.numbers g w s gw in
                let high = new.number v (ap (λ (x : VersionEdit). x.version) same ∙ fv) in
                absurd (omega (arith, low.1, high.0, equal)))
            | inr also ↦ ap (λ (x : VersionEdit). x.name) (sym same ∙ also)
          ]
        ];
        count =
            let more : new_versions (shown_changes (es ++ e ∷ [])) ≡ new_versions (shown_changes es) + cond (is_some e.version) 1 0 =
            ap new_versions shown_more ∙ new_versions-push (shown_changes es) (record { kind = e.kind; name = e.name }) ∙ ap (λ (c : Bool). new_versions (shown_changes es) + cond c 1 0) new.counted in
            omega (arith, more, counts, h.count);
        few = few_new e.version next refl counts;
      }

    -- no number is left
    pub draft_full : (b : Option Version) → IsVersion olds y.name b → (all : List NamedMeaning) → ((z : NamedMeaning) → Contains (ys ++ y ∷ []) z → Contains all z) → (f : EditFault) → LacksVersion b y used f → StopsDraft olds all first f
    draft_full b at all more edit.VersionsFull k =
        let c : Change = record { kind = k.1; name = y.name } in
        let names : change_names (shown_changes es ++ c ∷ []) ≡ change_names (shown_changes es) ++ y.name ∷ [] = map-append (λ (x : Change). x.name) (shown_changes es) (c ∷ []) in
        let counts : new_versions (shown_changes es ++ c ∷ []) ≡ new_versions (shown_changes es) + 1 = new_versions-push (shown_changes es) c ∙ ap (λ (x : Bool). new_versions (shown_changes es) + cond x 1 0) k.2 in
        let P : List (List (List ℕ)) → Type 0 = λ l. AreInOrder l in (
          shown_changes es ++ c ∷ [],
          record {
            sorted = subst P (sym names) (in_order-push (change_names (shown_changes es)) y.name (subst P (sym (names_shown es)) h.sorted) (λ m p. name_last y.name refl m (let Q : List (List (List ℕ)) → Type 0 = λ l. Contains l m in subst Q (names_shown es) p)));
            sound = λ d p. elim (Contains-push_cases (shown_changes es) c d p) [
              | inl q ↦ (
                  let e = Contains-map_back (λ (x : VersionEdit). record { kind = x.kind; name = x.name }) es d q in
                  let R : Change → Type 0 = λ x. IsChangedBy olds all x.kind x.name in
                  subst R e.2 (more_changed olds ys all (λ z r. more z (before_last z r)) e.0.kind e.0.name (h.changed e.0 e.1)))
              | inr is ↦ (
                  let R : Change → Type 0 = λ x. IsChangedBy olds all x.kind x.name in
                  subst R is (record { meaning = y; there = more y (Contains-push ys y); named = refl; version = b; before = at; changed = k.3 }))
            ];
            many = omega (arith, counts, h.count, k.0);
          },
        )
    draft_full b at all more edit.OutOfMemory k = tt
    draft_full b at all more edit.TooManyModules k = absurd k
    draft_full b at all more edit.UnknownModule k = absurd k
    draft_full b at all more (edit.StillImported n) k = absurd k
    draft_full b at all more (edit.ImportMissing n) k = absurd k
    draft_full b at all more edit.TooManyProtocols k = absurd k
    draft_full b at all more (edit.Elaborate g) k = absurd k
    draft_full b at all more (edit.Project u) k = absurd k
    draft_full b at all more (edit.Lex g) k = absurd k
    draft_full b at all more (edit.Parse g) k = absurd k
    draft_full b at all more (edit.NeedsReception n) k = absurd k

-- ---- the front of the meanings

pub front_is : (all : List NamedMeaning) (ys : List NamedMeaning) → map (λ (x : NamedMeaning). x) ys ≡ take (length ys) all → ys ≡ take (length ys) all
front_is all ys far = sym (map_same ys) ∙ far

pub in_all : (all : List NamedMeaning) (ys : List NamedMeaning) (y : NamedMeaning) → ys ≡ take (length ys) all → length ys < length all → y ≡ get_or all (length ys) y → (z : NamedMeaning) → Contains (ys ++ y ∷ []) z → Contains all z
in_all all ys y is lt at z p =
    elim (Contains-push_cases ys y z p) [
      | inl q ↦ (
          let P : List NamedMeaning → Type 0 = λ l. Contains l z in
          subst P (take-append-drop (length ys) all) (Contains-append_left (take (length ys) all) (drop (length ys) all) z (subst P is q)))
      | inr e ↦ (let P : NamedMeaning → Type 0 = λ x. Contains all x in subst P e (length ys, lt, sym at))
    ]
