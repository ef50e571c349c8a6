-- The protocols that reach those of a module by calls, found one after another.
use Rattle.std.proofs.Common.{◌≡◌, ◌≢◌, ℕ, ◌+◌, ◌<◌, ◌≤◌, List, [], ◌∷◌, ◌++◌, length, get_or, take, inl, inr, sym, ap, ◌∙◌, subst, arith}
use Rattle.std.specs.List.{Contains, insert, remove}
use Rattle.std.proofs.lemmas.List.{take_all, take-append-le}
use Rattle.std.proofs.lemmas.List.Elements.{Contains-push, Contains-push_cases, Contains-append_left}
use Rattle.scrib_library.specs.declared.declared.Entry.{Entry}
use Rattle.scrib_library.specs.Listed.{AreInOrder, IsAt, IsGap}
use Rattle.scrib_library.specs.Entries.{entry_names}
use Rattle.scrib_library.specs.Calls.{DoesNotCall, IsBeside, IsWorklist, AreGathered, AreReaching}
use Rattle.scrib_library.proofs.Lists.{Contains-nil, Contains-remove_cases, Contains-remove_back}
use Rattle.scrib_library.proofs.Orders.{get_or_any}
use Rattle.scrib_library.proofs.SearchLemmas.{Contains-insert, Contains-insert_cases, map-insert, in_order-insert, Contains-at}
use Rattle.scrib_library.proofs.EntryLemmas.{taken_cases}

-- ---- in the order of names

pub gathered_none : AreGathered [] []
gathered_none = record { sorted = λ i j d lt last. absurd (omega (arith, last)); sound = λ e p. p; each = λ e p. absurd (Contains-nil e p) }

module _ (es rs : List Entry) (e : Entry) (k : ℕ) (h : AreGathered es rs) where
  pub gathered_new : IsGap (entry_names rs) e.name k → AreGathered (es ++ e ∷ []) (insert rs k e)
  gathered_new gap =
      let names : entry_names (insert rs k e) ≡ insert (entry_names rs) k e.name = map-insert (λ (x : Entry). x.name) rs k e in
      let P : List (List (List ℕ)) → Type 0 = λ l. AreInOrder l in
      record {
        sorted = subst P (sym names) (in_order-insert (entry_names rs) k e.name h.sorted gap);
        sound = λ x p. elim (Contains-insert_cases rs k e x p) [
          | inl same ↦ (let Q : Entry → Type 0 = λ y. Contains (es ++ e ∷ []) y in subst Q same (Contains-push es e))
          | inr q ↦ Contains-append_left es (e ∷ []) x (h.sound x q)
        ];
        each = λ x p.
            let Q : List (List (List ℕ)) → Type 0 = λ l. Contains l x.name in
            subst Q (sym names) (Contains-insert (entry_names rs) k e.name x.name (elim (Contains-push_cases es e x p) [
              | inl q ↦ inr (h.each x q)
              | inr same ↦ inl (ap (λ (y : Entry). y.name) same)
            ]));
      }

  pub gathered_found : IsAt (entry_names rs) e.name k → AreGathered (es ++ e ∷ []) rs
  gathered_found at = record {
    sorted = h.sorted;
    sound = λ x p. Contains-append_left es (e ∷ []) x (h.sound x p);
    each = λ x p. elim (Contains-push_cases es e x p) [
      | inl q ↦ h.each x q
      | inr same ↦ (let Q : Entry → Type 0 = λ y. Contains (entry_names rs) y.name in subst Q same (Contains-at (entry_names rs) k e.name at))
    ];
  }

-- ---- those of the module, and the others

module _ (edited : List (List ℕ)) where
  pub sifted_none : IsWorklist edited [] [] [] []
  sifted_none = record { sound = λ e p. p; each = λ e p. inl p; beside = λ e p. absurd (Contains-nil e p) }

  module _ (es reached waiting : List Entry) (e : Entry) (h : IsWorklist edited es reached waiting []) where
    pub sifted_own : IsWorklist edited (es ++ e ∷ []) (reached ++ e ∷ []) waiting []
    sifted_own = record {
      sound = λ x p. elim (Contains-push_cases reached e x p) [
        | inl q ↦ Contains-append_left es (e ∷ []) x (h.sound x q)
        | inr same ↦ (let Q : Entry → Type 0 = λ y. Contains (es ++ e ∷ []) y in subst Q same (Contains-push es e))
      ];
      each = λ x p. elim (Contains-push_cases es e x p) [
        | inl q ↦ elim (h.each x q) [ inl r ↦ inl (Contains-append_left reached (e ∷ []) x r) | inr w ↦ inr w ]
        | inr same ↦ inl (let Q : Entry → Type 0 = λ y. Contains (reached ++ e ∷ []) y in subst Q same (Contains-push reached e))
      ];
      beside = λ x p. (let b = h.beside x p in (Contains-append_left es (e ∷ []) x b.0, b.1));
    }

    pub sifted_other : e.home.now.name ≢ edited → IsWorklist edited (es ++ e ∷ []) reached (waiting ++ e ∷ []) []
    sifted_other other = record {
      sound = λ x p. Contains-append_left es (e ∷ []) x (h.sound x p);
      each = λ x p. elim (Contains-push_cases es e x p) [
        | inl q ↦ elim (h.each x q) [ inl r ↦ inl r | inr w ↦ inr (Contains-append_left waiting (e ∷ []) x w) ]
        | inr same ↦ inr (let Q : Entry → Type 0 = λ y. Contains (waiting ++ e ∷ []) y in subst Q same (Contains-push waiting e))
      ];
      beside = λ x p. elim (Contains-push_cases waiting e x p) [
        | inl q ↦ (let b = h.beside x q in (Contains-append_left es (e ∷ []) x b.0, b.1))
        | inr same ↦ (
            let Q : Entry → Type 0 = λ y. Contains (es ++ e ∷ []) y × IsBeside edited [] y in
            subst Q same (Contains-push es e, record { other = other; calls = λ r q. absurd (Contains-nil r q) }))
      ];
    }

  -- ---- one that calls

  module _ (es reached waiting : List Entry) (at : ℕ) (h : IsWorklist edited es reached waiting (take at reached)) where
    pub sifted_caller : (i : ℕ) (w : Entry) → i < length waiting → w ≡ get_or waiting i w → at ≤ length reached → IsWorklist edited es (reached ++ w ∷ []) (remove waiting i) (take at (reached ++ w ∷ []))
    sifted_caller i w lt is le =
        let there : Contains waiting w = (i, lt, sym is) in
        let P : List Entry → Type 0 = λ l. IsWorklist edited es (reached ++ w ∷ []) (remove waiting i) l in
        subst P (sym (take-append-le at reached (w ∷ []) le)) (record {
          sound = λ x p. elim (Contains-push_cases reached w x p) [
            | inl q ↦ h.sound x q
            | inr same ↦ (let Q : Entry → Type 0 = λ y. Contains es y in subst Q same (h.beside w there).0)
          ];
          each = λ x p. elim (h.each x p) [
            | inl r ↦ inl (Contains-append_left reached (w ∷ []) x r)
            | inr q ↦ elim (Contains-remove_cases waiting i x lt q) [
              | inl e ↦ inl (let Q : Entry → Type 0 = λ y. Contains (reached ++ w ∷ []) y in subst Q (is ∙ get_or_any waiting i w x lt ∙ e) (Contains-push reached w))
              | inr r ↦ inr r
            ]
          ];
          beside = λ x p. h.beside x (Contains-remove_back waiting i x lt p);
        })

    -- the case where no waiting entry calls this one
    pub sifted_next : (r : Entry) → at < length reached → r ≡ get_or reached at r → ((e : Entry) → Contains waiting e → DoesNotCall e r) → IsWorklist edited es reached waiting (take (at + 1) reached)
    sifted_next r lt is none = record {
      sound = h.sound;
      each = h.each;
      beside = λ x p.
          let b = h.beside x p in (
            b.0,
            record {
              other = b.1.other;
              calls = λ s q. elim (taken_cases reached at r lt is s q) [
                | inl t ↦ b.1.calls s t
                | inr same ↦ (let Q : Entry → Type 0 = λ y. DoesNotCall x y in subst Q same (none x p))
              ];
            },
          );
    }

    pub reaching_all : length reached ≤ at → (rs : List Entry) → AreGathered reached rs → AreReaching edited es rs
    reaching_all le rs g = record {
      sorted = g.sorted;
      sound = λ e p. h.sound e (g.sound e p);
      each = λ e p. elim (h.each e p) [
        | inl q ↦ inl (g.each e q)
        | inr w ↦ inr (
            let b = (h.beside e w).1 in
            record {
              other = b.other;
              calls = λ r q. b.calls r (let P : List Entry → Type 0 = λ l. Contains l r in subst P (sym (take_all at reached le)) (g.sound r q));
            })
      ];
    }

-- the case of one more entry that does not call
pub none_calls_more : (waiting : List Entry) (called : Entry) (at : ℕ) (e : Entry) → at < length waiting → e ≡ get_or waiting at e → ((x : Entry) → Contains (take at waiting) x → DoesNotCall x called) → DoesNotCall e called
    → (x : Entry) → Contains (take (at + 1) waiting) x → DoesNotCall x called
none_calls_more waiting called at e lt is h new x p =
    elim (taken_cases waiting at e lt is x p) [ inl q ↦ h x q | inr same ↦ (let Q : Entry → Type 0 = λ y. DoesNotCall y called in subst Q same new) ]

pub none_calls_all : (waiting : List Entry) (called : Entry) (at : ℕ) → length waiting ≤ at → ((x : Entry) → Contains (take at waiting) x → DoesNotCall x called) → (x : Entry) → Contains waiting x → DoesNotCall x called
none_calls_all waiting called at le h x p = h x (let P : List Entry → Type 0 = λ l. Contains l x in subst P (sym (take_all at waiting le)) p)
