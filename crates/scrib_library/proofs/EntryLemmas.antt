-- The protocols of modules, inserted at their places one after another.
use Rattle.std.proofs.Common.{◌≡◌, ℕ, ◌+◌, ◌<◌, Bool, true, false, List, [], ◌∷◌, ◌++◌, length, get_or, take, None, Some, ◌⊎◌, inl, inr, refl, sym, ap, ◌∙◌, subst, arith}
use Rattle.std.specs.List.{Contains, insert}
use Rattle.std.proofs.lemmas.Bool.{false≢true}
use Rattle.std.proofs.lemmas.List.{take_more}
use Rattle.std.proofs.lemmas.List.Elements.{Contains-push, Contains-push_cases, Contains-append_left}
use Rattle.scrib_tree.specs.declared.tree.ModuleTree.{ModuleTree}
use Rattle.scrib_tree.specs.declared.tree.ProtocolDeclaration.{ProtocolDeclaration}
use Rattle.scrib_static_checks.specs.Names.{Declaration}
use Rattle.scrib_library.specs.declared.declared.Entry.{Entry}
use Rattle.scrib_library.specs.Modules.{full_name, name_of}
use Rattle.scrib_library.specs.Listed.{AreInOrder, IsAt, IsGap}
use Rattle.scrib_library.specs.Entries.{entry_names, IsEntryOf, IsNewEntry, AreEntries, AreEntered, AreAffectedEntries}
use Rattle.scrib_library.proofs.Lists.{Contains-nil}
use Rattle.scrib_library.proofs.Places.{declared-back, declared-there}
use Rattle.scrib_library.proofs.SearchLemmas.{Contains-insert, Contains-insert_cases, map-insert, in_order-insert, Contains-at, not_at_gap}

-- one more element of the front of a list
pub taken_cases : {X : Type 0} (xs : List X) (i : ℕ) (x : X) → i < length xs → x ≡ get_or xs i x → (y : X) → Contains (take (i + 1) xs) y → Contains (take i xs) y ⊎ (x ≡ y)
taken_cases {X} xs i x lt at y p =
    let P : List X → Type 0 = λ l. Contains l y in
    Contains-push_cases (take i xs) x y (subst P (take_more xs i x lt ∙ ap (λ z. take i xs ++ z ∷ []) (sym at)) p)

pub taken_back : {X : Type 0} (xs : List X) (i : ℕ) (x : X) → i < length xs → x ≡ get_or xs i x → (y : X) → Contains (take i xs) y → Contains (take (i + 1) xs) y
taken_back {X} xs i x lt at y p =
    let P : List X → Type 0 = λ l. Contains l y in
    subst P (sym (take_more xs i x lt ∙ ap (λ z. take i xs ++ z ∷ []) (sym at))) (Contains-append_left (take i xs) (x ∷ []) y p)

pub taken_last : {X : Type 0} (xs : List X) (i : ℕ) (x : X) → i < length xs → x ≡ get_or xs i x → Contains (take (i + 1) xs) x
taken_last {X} xs i x lt at =
    let P : List X → Type 0 = λ l. Contains l x in
    subst P (sym (take_more xs i x lt ∙ ap (λ z. take i xs ++ z ∷ []) (sym at))) (Contains-push (take i xs) x)

-- ---- the protocols of a module

module _ (m : ModuleTree) (is_declared : Bool) (before : List Entry) where
  pub entered_none : AreInOrder (entry_names before) → AreEntered m is_declared before [] before
  entered_none sorted = record { sorted = sorted; kept = λ n p. p; entered = λ p q. absurd (Contains-nil p q); sound = λ e p. inl p }

  module _ (ps : List ProtocolDeclaration) (i : ℕ) (p : ProtocolDeclaration) (lt : i < length ps) (at : p ≡ get_or ps i p) (es : List Entry) (h : AreEntered m is_declared before (take i ps) es) where
    entered_with : (fs : List Entry) → ((n : List (List ℕ)) → Contains (entry_names es) n → Contains (entry_names fs) n) → Contains (entry_names fs) (full_name m.name p.name) → (q : ProtocolDeclaration) → Contains (take (i + 1) ps) q → Contains (entry_names fs) (full_name m.name q.name)
    entered_with fs more new q t =
        elim (taken_cases ps i p lt at q t) [
          | inl r ↦ more (full_name m.name q.name) (h.entered q r)
          | inr e ↦ (let P : ProtocolDeclaration → Type 0 = λ x. Contains (entry_names fs) (full_name m.name x.name) in subst P e new)
        ]

    sound_with : (e : Entry) → Contains es e → Contains before e ⊎ IsNewEntry m is_declared before (take (i + 1) ps) e
    sound_with e t =
        elim (h.sound e t) [
          | inl b ↦ inl b
          | inr r ↦ inr (record { protocol = r.protocol; there = taken_back ps i p lt at r.protocol r.there; entry = r.entry; stood = r.stood; new = r.new })
        ]

    pub entered_found : (n : List (List ℕ)) (k : ℕ) → n ≡ full_name m.name p.name → IsAt (entry_names es) n k → AreEntered m is_declared before (take (i + 1) ps) es
    entered_found n k named there =
        let P : List (List ℕ) → Type 0 = λ x. Contains (entry_names es) x in
        record {
          sorted = h.sorted;
          kept = h.kept;
          entered = entered_with es (λ x t. t) (subst P named (Contains-at (entry_names es) k n there));
          sound = sound_with;
        }

    pub entered_new : (k : ℕ) (e : Entry) → IsEntryOf (record { home = m; protocol = p }) e → e.is_declared ≡ is_declared → IsGap (entry_names es) e.name k → AreEntered m is_declared before (take (i + 1) ps) (insert es k e)
    entered_new k e entry stood gap =
        let names : entry_names (insert es k e) ≡ insert (entry_names es) k e.name = map-insert (λ (x : Entry). x.name) es k e in
        let P : List (List (List ℕ)) → Type 0 = λ l. AreInOrder l in
        let more : (n : List (List ℕ)) → (e.name ≡ n) ⊎ Contains (entry_names es) n → Contains (entry_names (insert es k e)) n =
        (λ n t. let Q : List (List (List ℕ)) → Type 0 = λ l. Contains l n in subst Q (sym names) (Contains-insert (entry_names es) k e.name n t)) in
        let made : IsNewEntry m is_declared before (take (i + 1) ps) e =
        record {
          protocol = p;
          there = taken_last ps i p lt at;
          entry = entry;
          stood = stood;
          new = λ t. not_at_gap (entry_names es) k e.name gap (h.kept e.name t);
        } in
        record {
          sorted = subst P (sym names) (in_order-insert (entry_names es) k e.name h.sorted gap);
          kept = λ n t. more n (inr (h.kept n t));
          entered = entered_with (insert es k e) (λ n t. more n (inr t)) (more (full_name m.name p.name) (inl entry.named));
          sound = λ f t. elim (Contains-insert_cases es k e f t) [
            | inl same ↦ (let Q : Entry → Type 0 = λ x. IsNewEntry m is_declared before (take (i + 1) ps) x in inr (subst Q same made))
            | inr r ↦ sound_with f r
          ];
        }

-- ---- the modules of these names

module _ (names : List (List (List ℕ))) where
  pub entries_none : AreEntries [] names []
  entries_none = record {
    sorted = λ i j d lt last. absurd (omega (arith, last));
    complete = λ d p. absurd (Contains-nil d p);
    stand = λ e p. absurd (Contains-nil e p);
    within = λ e p. absurd (Contains-nil e p);
    sound = λ e p. absurd (Contains-nil e p);
  }

  module _ (ms : List ModuleTree) (i : ℕ) (m : ModuleTree) (es : List Entry) (lt : i < length ms) (at : m ≡ get_or ms i m) (h : AreEntries (take i ms) names es) where
    pub entries_same : (Contains names m.name → ⊥) → AreEntries (take (i + 1) ms) names es
    entries_same other = record {
      sorted = h.sorted;
      complete = λ d p named.
          let b = declared-back (take (i + 1) ms) d p in
          elim (taken_cases ms i m lt at d.home b.0) [
            | inl r ↦ h.complete d (declared-there (take i ms) d.home d.protocol r b.1) named
            | inr e ↦ absurd (other (let P : ModuleTree → Type 0 = λ x. Contains names x.name in subst P (sym e) named))
          ];
      stand = h.stand;
      within = h.within;
      sound = λ e p s.
          let r = h.sound e p s in
          let b = declared-back (take i ms) r.declaration r.there in
          record {
            declaration = r.declaration;
            there = declared-there (take (i + 1) ms) r.declaration.home r.declaration.protocol (taken_back ms i m lt at r.declaration.home b.0) b.1;
            entry = r.entry;
          };
    }

    pub entries_more : Contains names m.name → (fs : List Entry) → AreEntered m true es m.protocols fs → AreEntries (take (i + 1) ms) names fs
    entries_more one fs new = record {
      sorted = new.sorted;
      complete = λ d p named.
          let b = declared-back (take (i + 1) ms) d p in
          elim (taken_cases ms i m lt at d.home b.0) [
            | inl r ↦ new.kept (name_of d) (h.complete d (declared-there (take i ms) d.home d.protocol r b.1) named)
            | inr e ↦ (
                let P : ModuleTree → Type 0 = λ x. Contains x.protocols d.protocol in
                let Q : ModuleTree → Type 0 = λ x. Contains (entry_names fs) (full_name x.name d.protocol.name) in
                subst Q e (new.entered d.protocol (subst P (sym e) b.1)))
          ];
      stand = λ e p. elim (new.sound e p) [ inl r ↦ h.stand e r | inr r ↦ r.stood ];
      within = λ e p. elim (new.sound e p) [ inl r ↦ h.within e r | inr r ↦ (let P : ModuleTree → Type 0 = λ x. Contains names x.name in subst P (sym r.entry.home) one) ];
      sound = λ e p s. elim (new.sound e p) [
        | inl r ↦ (
            let k = h.sound e r s in
            let b = declared-back (take i ms) k.declaration k.there in
            record {
              declaration = k.declaration;
              there = declared-there (take (i + 1) ms) k.declaration.home k.declaration.protocol (taken_back ms i m lt at k.declaration.home b.0) b.1;
              entry = k.entry;
            })
        | inr r ↦ record {
          declaration = record { home = m; protocol = r.protocol };
          there = declared-there (take (i + 1) ms) m r.protocol (taken_last ms i m lt at) r.there;
          entry = r.entry;
        }
      ];
    }

  -- ---- and the replaced module

  entry_name : (d : Declaration) (e : Entry) → IsEntryOf d e → e.name ≡ full_name e.home.now.name e.protocol.now.name
  entry_name d e h = h.named ∙ sym (λ i. full_name (h.home i).name (h.protocol i).name)

  module _ (ms : List ModuleTree) (es : List Entry) (h : AreEntries ms names es) where
    standing_name : (e : Entry) → Contains es e → e.name ≡ full_name e.home.now.name e.protocol.now.name
    standing_name e p = let k = h.sound e p (h.stand e p) in entry_name k.declaration e k.entry

    pub touched_none : AreAffectedEntries ms names None es
    touched_none = record {
      sorted = h.sorted;
      complete = h.complete;
      named = standing_name;
      withdrawn = λ m p e q. absurd (cc);
      sound = h.sound;
      within = λ e p s. h.within e p;
      fallen = λ e p s. absurd (false≢true (sym s ∙ h.stand e p));
    }

    pub touched_gone : (gone : ModuleTree) (fs : List Entry) → AreEntered gone false es gone.protocols fs → AreAffectedEntries ms names (Some gone) fs
    touched_gone gone fs new = record {
      sorted = new.sorted;
      complete = λ d p q. new.kept (name_of d) (h.complete d p q);
      named = λ e p. elim (new.sound e p) [
        | inl r ↦ standing_name e r
        | inr r ↦ entry_name (record { home = gone; protocol = r.protocol }) e r.entry
      ];
      withdrawn = λ m p e q.
          let same : gone ≡ m = cc in
          let P : ModuleTree → Type 0 = λ x. Contains x.protocols p → Contains (entry_names fs) (full_name x.name p.name) in
          subst P same (new.entered p) q;
      sound = λ e p s. elim (new.sound e p) [ inl r ↦ h.sound e r s | inr r ↦ absurd (false≢true (sym r.stood ∙ s)) ];
      within = λ e p s. elim (new.sound e p) [ inl r ↦ h.within e r | inr r ↦ absurd (false≢true (sym r.stood ∙ s)) ];
      fallen = λ e p s. elim (new.sound e p) [
        | inl r ↦ absurd (false≢true (sym s ∙ h.stand e r))
        | inr r ↦ (
          gone,
          refl,
          record {
            protocol = r.protocol;
            named = r.entry.named;
            undeclared = λ d q named same.
                let P : List (List ℕ) → Type 0 = λ n. Contains (entry_names es) n in
                r.new (subst P (sym same) (h.complete d q named));
          },
        )
      ];
    }
