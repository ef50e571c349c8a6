-- The first, by name, of the modules that import one.
use Rattle.std.proofs.Common.{◌≡◌, ◌≢◌, ◌==◌, ℕ, ◌+◌, ◌<◌, ◌≤◌, true, false, List, [], length, get_or, take, Option, Some, None, ◌⊎◌, inl, inr, refl, sym, ap, ◌∙◌, subst}
use Rattle.std.specs.List.{Contains}
use Rattle.std.specs.Ordering.{ordering_index, ordering_reverse}
use Rattle.std.specs.declared.cmp.Ordering.{Ordering}
use Rattle.std.specs.declared.cmp.Ordering.TheVariants.{Less, Equal, Greater}
use Rattle.std.proofs.lemmas.Bool.{false≢true}
use Rattle.std.proofs.lemmas.Cmp.{tied_itself}
use Rattle.std.proofs.lemmas.List.{take_all}
use Rattle.scrib_tree.specs.declared.tree.ModuleTree.{ModuleTree}
use Rattle.scrib_library.specs.Edits.{IsImporter, IsLeastImporter}
use Rattle.scrib_library.specs.Listed.{name_cmp}
use Rattle.scrib_library.specs.Stored.{IsSpelled, AreNames}
use Rattle.scrib_library.specs.Withdrawals.{Imports, IsFirstImporter, IsFirstImporterOrNone, IsLesserName}
use Rattle.scrib_library.proofs.Lists.{Contains-nil, Contains-head_at, Contains-cases}
use Rattle.scrib_library.proofs.Orders.{name_cmp_total, name_exact}
use Rattle.scrib_library.proofs.EntryLemmas.{taken_cases, taken_back, taken_last}
use Rattle.scrib_library.proofs.Texts.{text_cmp}

-- ---- the order of names

pub not_after_itself : (a b : List (List ℕ)) → a ≡ b → name_cmp a b ≢ Greater
not_after_itself a b e g =
    let tied : name_cmp a b ≡ Equal = ap (name_cmp a) (sym e) ∙ tied_itself name_cmp_total a in
    cc

not_after : (a b c : List (List ℕ)) → name_cmp a b ≢ Greater → name_cmp b c ≢ Greater → name_cmp a c ≢ Greater
not_after a b c p q g = by (name_cmp a b) (name_cmp b c) refl refl
  where
    by : (o r : Ordering) → name_cmp a b ≡ o → name_cmp b c ≡ r → ⊥
    by Less Less e f = let less : name_cmp a c ≡ Less = name_cmp_total.trans a b c e f in cc
    by Less Equal e f = let less : name_cmp a c ≡ Less = ap (name_cmp a) (sym (name_exact b c f)) ∙ e in cc
    by Less Greater e f = q f
    by Equal r e f = q (ap (λ x. name_cmp x c) (sym (name_exact a b e)) ∙ g)
    by Greater r e f = p e

pub is_greater : (o : Ordering) → (ordering_index o == 2) ≡ true → o ≡ Greater
is_greater Less e = absurd (false≢true e)
is_greater Equal e = absurd (false≢true e)
is_greater Greater e = refl

pub not_greater : (o : Ordering) → (ordering_index o == 2) ≡ false → o ≢ Greater
not_greater o e g = false≢true (sym e ∙ ap (λ x. ordering_index x == 2) g)

pub first_kept : (a b : List (List ℕ)) → name_cmp a b ≢ Greater → IsLesserName (Some a) b a
first_kept a b p = (inl refl, not_after_itself a a refl, p)

pub first_second : (a b : List (List ℕ)) → name_cmp a b ≡ Greater → IsLesserName (Some a) b b
first_second a b p = (inr refl, λ g. (let less : name_cmp b a ≡ Less = name_cmp_total.antisymm b a ∙ ap ordering_reverse p in cc), not_after_itself b b refl)

-- ---- the modules that import one

module _ (name : List (List ℕ)) where
  importer_of : (ms : List ModuleTree) (m : ModuleTree) → Contains ms m → Imports m name → IsImporter ms name m
  importer_of ms m there h =
      let is : h.1.by.module ≡ name = elim (Contains-cases name [] h.1.by.module h.1.named) [ inl e ↦ sym e | inr p ↦ absurd (Contains-nil h.1.by.module p) ] in
      record { there = there; other = h.0; by = h.1.by; imports = h.1.imports; of = is }

  imports_of : (ms : List ModuleTree) (m : ModuleTree) → IsImporter ms name m → Imports m name
  imports_of ms m h = (h.other, record { by = h.by; imports = h.imports; named = Contains-head_at name [] h.by.module (sym h.of) })

  module _ (ms : List ModuleTree) (i : ℕ) (t : ModuleTree) (lt : i < length ms) (at : t ≡ get_or ms i t) where
    kept : (m : ModuleTree) → IsImporter (take i ms) name m → IsImporter (take (i + 1) ms) name m
    kept m h = importer_of (take (i + 1) ms) m (taken_back ms i t lt at m h.there) (imports_of (take i ms) m h)

    here : Imports t name → IsImporter (take (i + 1) ms) name t
    here h = importer_of (take (i + 1) ms) t (taken_last ms i t lt at) h

    cases : (m : ModuleTree) → IsImporter (take (i + 1) ms) name m → IsImporter (take i ms) name m ⊎ (t ≡ m)
    cases m h =
        elim (taken_cases ms i t lt at m h.there) [
          | inl p ↦ inl (importer_of (take i ms) m p (imports_of (take (i + 1) ms) m h))
          | inr e ↦ inr e
        ]

    -- the case of a next module that imports the name
    pub first_more : (o : Option (List (List ℕ))) (c : List (List ℕ)) → IsFirstImporterOrNone (take i ms) name o → Imports t name → IsLesserName o t.name c → IsFirstImporter (take (i + 1) ms) name c
    first_more None c h new is = record {
      importer = t;
      imports = here new;
      named = sym is;
      first = λ m p. elim (cases m p) [ inl q ↦ absurd (h m q) | inr e ↦ not_after_itself c m.name (is ∙ ap (λ (x : ModuleTree). x.name) e) ];
    }
    first_more (Some a) c h new is =
        let first : (m : ModuleTree) → IsImporter (take (i + 1) ms) name m → name_cmp c m.name ≢ Greater =
        (λ m p. elim (cases m p) [
          | inl q ↦ not_after c a m.name is.1 (h.first m q)
          | inr e ↦ (let P : ModuleTree → Type 0 = λ x. name_cmp c x.name ≢ Greater in subst P e is.2)
        ]) in
        elim is.0 [
          | inl e ↦ record { importer = h.importer; imports = kept h.importer h.imports; named = h.named ∙ sym e; first = first }
          | inr e ↦ record { importer = t; imports = here new; named = sym e; first = first }
        ]

    -- the case of one that does not
    pub first_same : (o : Option (List (List ℕ))) → (Imports t name → ⊥) → IsFirstImporterOrNone (take i ms) name o → IsFirstImporterOrNone (take (i + 1) ms) name o
    first_same None non h = λ m p. elim (cases m p) [
      | inl q ↦ h m q
      | inr e ↦ non (let P : ModuleTree → Type 0 = λ x. Imports x name in subst P (sym e) (imports_of (take (i + 1) ms) m p))
    ]
    first_same (Some a) non h = record {
      importer = h.importer;
      imports = kept h.importer h.imports;
      named = h.named;
      first = λ m p. elim (cases m p) [
        | inl q ↦ h.first m q
        | inr e ↦ absurd (non (let P : ModuleTree → Type 0 = λ x. Imports x name in subst P (sym e) (imports_of (take (i + 1) ms) m p)))
      ];
    }

  pub first_all : (ms : List ModuleTree) (i : ℕ) (o : Option (List (List ℕ))) → length ms ≤ i → IsFirstImporterOrNone (take i ms) name o → IsFirstImporterOrNone ms name o
  first_all ms i o le h = let P : List ModuleTree → Type 0 = λ l. IsFirstImporterOrNone l name o in subst P (take_all i ms le) h

  pub first_none : (o : Option (List (List ℕ))) → o ≡ None → IsFirstImporterOrNone [] name o
  first_none o e = let P : Option (List (List ℕ)) → Type 0 = λ x. IsFirstImporterOrNone [] name x in subst P (sym e) (λ m p. Contains-nil m p.there)

  -- the first by name is the first by text
  pub least_by_text : (ms : List ModuleTree) → ((m : ModuleTree) → Contains ms m → IsSpelled m) → (by : List (List ℕ)) → IsFirstImporter ms name by → IsLeastImporter ms name by
  least_by_text ms spelled by h =
      let P : List (List ℕ) → Type 0 = λ n. AreNames n in
      let names = subst P h.named (spelled h.importer h.imports.there).home in
      record {
        importer = h.importer;
        imports = h.imports;
        named = h.named;
        least = λ m p g. h.first m p (sym (text_cmp by m.name names (spelled m p.there).home) ∙ g);
      }
