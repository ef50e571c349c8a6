-- The modules that reach the edited one by imports, found one after another.
use Rattle.std.proofs.Common.{◌≡◌, ℕ, zero, suc, ◌+◌, ◌-◌, ◌<◌, ◌≤◌, List, [], ◌∷◌, ◌++◌, length, get_or, take, drop, ◌⊎◌, inl, inr, Option, Some, None, refl, sym, ap, ◌∙◌, subst, arith}
use Rattle.std.specs.Borrow.{Bor}
use Rattle.std.specs.List.{Contains, remove}
use Rattle.std.specs.Option.{MatchOption}
use Rattle.std.proofs.Math.ListN.{length-append}
use Rattle.std.proofs.lemmas.List.{take_more, take_all, take-append-le, take-append-drop, length-drop, map-append, length-map, get_or-map}
use Rattle.std.proofs.lemmas.List.Elements.{Contains-push, Contains-push_cases, Contains-append_left, Contains-append_cases}
use Rattle.scrib_tree.specs.declared.tree.ModuleTree.{ModuleTree}
use Rattle.scrib_tree.specs.declared.tree.Import.{Import}
use Rattle.scrib_library.specs.declared.name_filter.FilteredModule.{FilteredModule}
use Rattle.scrib_library.specs.Affected.{names_now, waiting_trees, ImportsSome, AreAffected}
use Rattle.scrib_library.proofs.Lists.{Contains-head_at, Contains-remove_cases, Contains-remove_back, map-remove}

-- each module waits, or its name is among these, as the edited one's is
pub record AreSorted (modules : List ModuleTree) (edited : List (List ℕ)) (waiting : List ModuleTree) (names : List (List (List ℕ))) : Type 0 where
  pub edited_itself : Contains names edited
  pub each : (m : ModuleTree) → Contains modules m → Contains waiting m ⊎ Contains names m.name

module _ (ms : List ModuleTree) (edited : List (List ℕ)) where
  pub sorted_first : (waiting : List ModuleTree) (names : List (List (List ℕ))) → names ≡ edited ∷ [] → ((m : ModuleTree) → Contains ms m → Contains waiting m ⊎ (m.name ≡ edited)) → AreSorted ms edited waiting names
  sorted_first waiting names is each =
      let P : List (List (List ℕ)) → Type 0 = λ l. AreSorted ms edited waiting l in
      subst P (sym is) (record {
        edited_itself = Contains-head_at edited [] edited refl;
        each = λ m p. elim (each m p) [ inl q ↦ inl q | inr e ↦ inr (Contains-head_at edited [] m.name (sym e)) ];
      })

  -- one that imports one of the names no longer waits
  pub sorted_more : (waiting : List ModuleTree) (names : List (List (List ℕ))) (i : ℕ) (t : ModuleTree) → AreSorted ms edited waiting names → i < length waiting → t ≡ get_or waiting i t → AreSorted ms edited (remove waiting i) (names ++ t.name ∷ [])
  sorted_more waiting names i t h lt at = record {
    edited_itself = Contains-append_left names (t.name ∷ []) edited h.edited_itself;
    each = λ m p. elim (h.each m p) [
      | inl q ↦ elim (Contains-remove_cases waiting i m lt q) [
        | inl e ↦ inr (
            let same : t ≡ m = at ∙ any waiting i t m lt ∙ e in
            let P : ModuleTree → Type 0 = λ x. Contains (names ++ t.name ∷ []) x.name in
            subst P same (Contains-push names t.name))
        | inr r ↦ inl r
      ]
      | inr q ↦ inr (Contains-append_left names (t.name ∷ []) m.name q)
    ];
  }
    where
      any : {X : Type 0} (xs : List X) (k : ℕ) (d c : X) → k < length xs → get_or xs k d ≡ get_or xs k c
      any [] k d c l = absurd (omega (arith, l))
      any (x ∷ xs) zero d c l = refl
      any (x ∷ xs) (suc k) d c l = any xs k d c (omega (arith, l))

  pub sorted_all : (waiting : List ModuleTree) (names : List (List (List ℕ))) → AreSorted ms edited waiting names → ((m : ModuleTree) → Contains waiting m → ImportsSome names m → ⊥) → AreAffected ms edited names
  sorted_all waiting names h none = record {
    edited_itself = h.edited_itself;
    closed = λ m p s. elim (h.each m p) [ inl q ↦ absurd (none m q s) | inr q ↦ q ];
  }

-- ---- loops

taken_cases : {X : Type 0} (xs : List X) (i : ℕ) (x : X) → i < length xs → x ≡ get_or xs i x → (y : X) → Contains (take (i + 1) xs) y → Contains (take i xs) y ⊎ (x ≡ y)
taken_cases {X} xs i x lt at y p =
    let P : List X → Type 0 = λ l. Contains l y in
    Contains-push_cases (take i xs) x y (subst P (take_more xs i x lt ∙ ap (λ z. take i xs ++ z ∷ []) (sym at)) p)

-- the case of one more import of another name
pub none_more : (names : List (List (List ℕ))) (is : List Import) (k : ℕ) (i : Import) → k < length is → i ≡ get_or is k i → ((j : Import) → Contains (take k is) j → Contains names j.module → ⊥) → (Contains names i.module → ⊥) → (j : Import) → Contains (take (k + 1) is) j → Contains names j.module → ⊥
none_more names is k i lt at h non j p q =
    elim (taken_cases is k i lt at j p) [
      | inl r ↦ h j r q
      | inr e ↦ non (let P : Import → Type 0 = λ x. Contains names x.module in subst P (sym e) q)
    ]

pub none_imported : (names : List (List (List ℕ))) (m : ModuleTree) (is : List Import) → is ≡ m.imports → (k : ℕ) → length is ≤ k → ((j : Import) → Contains (take k is) j → Contains names j.module → ⊥) → ImportsSome names m → ⊥
none_imported names m is same k le h s =
    let P : List Import → Type 0 = λ l. Contains l s.by in
    h s.by (subst P (sym same ∙ sym (take_all k is le)) s.imports) s.named

pub some_imported : (names : List (List (List ℕ))) (m : ModuleTree) (is : List Import) → is ≡ m.imports → (k : ℕ) (i : Import) → k < length is → i ≡ get_or is k i → Contains names i.module → ImportsSome names m
some_imported names m is same k i lt at named =
    let P : List Import → Type 0 = λ l. Contains l i in
    record { by = i; imports = subst P same (k, lt, sym at); named = named }

-- the case of one more module that imports none of the names
pub none_waiting_more : (names : List (List (List ℕ))) (rs : List FilteredModule) (k : ℕ) (r : FilteredModule) → k < length rs → r ≡ get_or rs k r → ((m : ModuleTree) → Contains (waiting_trees (take k rs)) m → ImportsSome names m → ⊥) → (ImportsSome names r.tree.now → ⊥)
    → (m : ModuleTree) → Contains (waiting_trees (take (k + 1) rs)) m → ImportsSome names m → ⊥
none_waiting_more names rs k r lt at h non m p s =
    let e : waiting_trees (take (k + 1) rs) ≡ waiting_trees (take k rs) ++ r.tree.now ∷ [] =
    ap waiting_trees (take_more rs k r lt ∙ ap (λ z. take k rs ++ z ∷ []) (sym at)) ∙ map-append (λ (x : FilteredModule). x.tree.now) (take k rs) (r ∷ []) in
    let P : List ModuleTree → Type 0 = λ l. Contains l m in
    elim (Contains-push_cases (waiting_trees (take k rs)) r.tree.now m (subst P e p)) [
      | inl q ↦ h m q s
      | inr is ↦ non (let Q : ModuleTree → Type 0 = λ x. ImportsSome names x in subst Q (sym is) s)
    ]

pub none_waiting : (names : List (List (List ℕ))) (rs : List FilteredModule) (k : ℕ) → length rs ≤ k → ((m : ModuleTree) → Contains (waiting_trees (take k rs)) m → ImportsSome names m → ⊥) → (m : ModuleTree) → Contains (waiting_trees rs) m → ImportsSome names m → ⊥
none_waiting names rs k le h m p = let P : List FilteredModule → Type 0 = λ l. Contains (waiting_trees l) m in h m (subst P (sym (take_all k rs le)) p)

-- a module stops waiting, for lists of references
pub sorted_moved : (ms : List ModuleTree) (edited : List (List ℕ)) (ws : List FilteredModule) (ns : List (Bor (List (List ℕ)))) (i : ℕ) (r : FilteredModule) (n : Bor (List (List ℕ))) → AreSorted ms edited (waiting_trees ws) (names_now ns) → i < length ws → r ≡ get_or ws i r → n.now ≡ r.tree.now.name → AreSorted ms edited (waiting_trees (remove ws i)) (names_now (ns ++ n ∷ []))
sorted_moved ms edited ws ns i r n h lt at named =
    let trees : waiting_trees (remove ws i) ≡ remove (waiting_trees ws) i = map-remove (λ (x : FilteredModule). x.tree.now) ws i in
    let names : names_now (ns ++ n ∷ []) ≡ names_now ns ++ r.tree.now.name ∷ [] = map-append (λ (x : Bor (List (List ℕ))). x.now) ns (n ∷ []) ∙ ap (λ (x : List (List ℕ)). names_now ns ++ x ∷ []) named in
    let long = length-map ws (λ (x : FilteredModule). x.tree.now) in
    let here : r.tree.now ≡ get_or (waiting_trees ws) i r.tree.now = ap (λ (x : FilteredModule). x.tree.now) at ∙ sym (get_or-map (λ (x : FilteredModule). x.tree.now) ws i r r.tree.now lt) in
    let P : List ModuleTree → Type 0 = λ l. AreSorted ms edited l (names_now (ns ++ n ∷ [])) in
    let Q : List (List (List ℕ)) → Type 0 = λ l. AreSorted ms edited (remove (waiting_trees ws) i) l in
    subst P (sym trees) (subst Q (sym names) (sorted_more ms edited (waiting_trees ws) (names_now ns) i r.tree.now h (omega (arith, lt, long)) here))

-- ---- those that wait, and the names that none of them imports

abbrev pub ImportNone : List FilteredModule → List (Bor (List (List ℕ))) → Type 0
ImportNone ws ns = (m : ModuleTree) → Contains (waiting_trees ws) m → ImportsSome (names_now ns) m → ⊥

module _ (ws : List FilteredModule) (ns : List (Bor (List (List ℕ)))) (at : ℕ) (h : ImportNone ws (take at ns)) where
  pub none_removed : (i : ℕ) (n : Bor (List (List ℕ))) → i < length ws → at ≤ length ns → ImportNone (remove ws i) (take at (ns ++ n ∷ []))
  none_removed i n lt le m p s =
      let long = length-map ws (λ (x : FilteredModule). x.tree.now) in
      let P : List ModuleTree → Type 0 = λ l. Contains l m in
      let Q : List (Bor (List (List ℕ))) → Type 0 = λ l. ImportsSome (names_now l) m in
      h m (Contains-remove_back (waiting_trees ws) i m (omega (arith, lt, long)) (subst P (map-remove (λ (x : FilteredModule). x.tree.now) ws i) p)) (subst Q (take-append-le at ns (n ∷ []) le) s)

  -- no waiting module imports a later name either
  pub none_rest : ImportNone ws (take (length ns - at) (drop at ns)) → ImportNone ws ns
  none_rest behind m p s =
      let short : length (drop at ns) ≤ length ns - at = omega (arith, length-drop at ns) in
      let Q : List (Bor (List (List ℕ))) → Type 0 = λ l. ImportNone ws l in
      let none = subst Q (take_all (length ns - at) (drop at ns) short) behind in
      let all : names_now ns ≡ names_now (take at ns) ++ names_now (drop at ns) =
      ap names_now (sym (take-append-drop at ns)) ∙ map-append (λ (x : Bor (List (List ℕ))). x.now) (take at ns) (drop at ns) in
      let P : List (List (List ℕ)) → Type 0 = λ l. Contains l s.by.module in
      elim (Contains-append_cases (names_now (take at ns)) (names_now (drop at ns)) s.by.module (subst P all s.named)) [
        | inl q ↦ h m p (record { by = s.by; imports = s.imports; named = q })
        | inr q ↦ none m p (record { by = s.by; imports = s.imports; named = q })
      ]

  pub none_all : length ns ≤ at → ImportNone ws ns
  none_all le m p s = h m p (let Q : List (Bor (List (List ℕ))) → Type 0 = λ l. ImportsSome (names_now l) m in subst Q (sym (take_all at ns le)) s)

pub none_taken : (ws : List FilteredModule) (ns : List (Bor (List (List ℕ)))) (at : ℕ) → length ns ≤ at → ImportNone ws ns → ImportNone ws (take at ns)
none_taken ws ns at le h m p s = h m p (let Q : List (Bor (List (List ℕ))) → Type 0 = λ l. ImportsSome (names_now l) m in subst Q (take_all at ns le) s)

pub within_more : {X : Type 0} (xs : List X) (x : X) (at : ℕ) → at ≤ length xs → at ≤ length (xs ++ x ∷ [])
within_more xs x at le = omega (arith, le, length-append xs (x ∷ []))

-- none of the modules imports one of the names
abbrev NoImporter : List (List (List ℕ)) → List FilteredModule → Type 0
NoImporter names ws = (m : ModuleTree) → Contains (waiting_trees ws) m → ImportsSome names m → ⊥

none_of_both : (names : List (List (List ℕ))) (ws : List FilteredModule) (k : ℕ) → NoImporter names (take k ws) → NoImporter names (drop k ws) → NoImporter names ws
none_of_both names ws k front behind m p s =
    let both : waiting_trees ws ≡ waiting_trees (take k ws) ++ waiting_trees (drop k ws) =
    ap waiting_trees (sym (take-append-drop k ws)) ∙ map-append (λ (x : FilteredModule). x.tree.now) (take k ws) (drop k ws) in
    let P : List ModuleTree → Type 0 = λ l. Contains l m in
    elim (Contains-append_cases (waiting_trees (take k ws)) (waiting_trees (drop k ws)) m (subst P both p)) [ inl q ↦ front m q s | inr q ↦ behind m q s ]

-- a search of the first k modules, after one of the others in vain, is one of all
pub searched_both : (names : List (List (List ℕ))) (ws : List FilteredModule) (k : ℕ) (found : Option ℕ) → NoImporter names (take (length ws - k) (drop k ws)) → MatchOption found (NoImporter names (take k ws)) (λ at. at < length (take k ws)) → MatchOption found (NoImporter names ws) (λ at. at < length ws)
searched_both names ws k None behind front =
    let short : length (drop k ws) ≤ length ws - k = omega (arith, length-drop k ws) in
    none_of_both names ws k front (subst (NoImporter names) (take_all (length ws - k) (drop k ws) short) behind)
searched_both names ws k (Some at) behind front =
    let long = ap length (take-append-drop k ws) in
    let parts = length-append (take k ws) (drop k ws) in
    omega (arith, front, long, parts)
