-- Items that a sink carries out one after another.
use Rattle.std.proofs.Common.{◌≡◌, ◌∙◌, ℕ, List, [], ◌∷◌, ◌++◌, Option, Some, None, map, length, reverse, refl, sym, ap, subst, arith}
use Rattle.std.proofs.lemmas.List.{append_assoc, append-nil, map-append, reverse-append, reverse-reverse}
use Rattle.scrib_script_reader.specs.declared.item.Item.{Item}
use Rattle.scrib_script_reader.specs.Scripts.{item_list}
use Rattle.scrib_hold_stage.specs.declared.noted.Noted.{Noted}
use Rattle.scrib_hold.specs.HeldScripts.{Asked, Pending}
use Rattle.scrib_hold.specs.NumberedItems.{Numbered, numbered_at, numbered_event, numbered_closing}
use Rattle.scrib_hold.specs.Sinks.{CarriesOut, GathersItem, GathersItems, FailsBehind, FailsWithin}

pub none_left : (items : List (Noted Asked)) (n : ℕ) → n ≡ length items → n ≡ 0 → items ≡ []
none_left [] n is none = refl
none_left (x ∷ items) n is none = absurd (omega (arith, is, none))

popped : (left now : List (Noted Asked)) (x : Noted Asked) → left ≡ now ++ x ∷ [] → reverse left ≡ x ∷ reverse now
popped left now x is = ap reverse is ∙ reverse-append now (x ∷ [])

module _ {S : Type 0} (carries : S → S → ℕ → Item → List ℕ → Type 0) where
  carries_more : (old mid new : S) (xs ys : List Numbered) (a b : List ℕ) → CarriesOut carries old mid xs a → CarriesOut carries mid new ys b → CarriesOut carries old new (xs ++ ys) (a ++ b)
  carries_more old mid new [] ys a b p q =
      subst (λ (s : S). CarriesOut carries s new ys (a ++ b)) p.0 (subst (λ (l : List ℕ). CarriesOut carries mid new ys (l ++ b)) (sym p.1) q)
  carries_more old mid new (x ∷ xs) ys a b p q =
      (p.0, p.1, p.2 ++ b, p.3, carries_more p.0 mid new xs ys p.2 b p.4 q, ap (λ (l : List ℕ). l ++ b) p.5 ∙ append_assoc p.1 p.2 b)

module _ {S : Type 0} (carries : S → S → ℕ → Item → List ℕ → Type 0) (gathered : S → List ℕ) where
  -- two outputs that were gathered, one after the other
  grows_more : (old mid new : S) (a b : List ℕ) → gathered mid ≡ gathered old ++ a → gathered new ≡ gathered mid ++ b → gathered new ≡ gathered old ++ (a ++ b)
  grows_more old mid new a b first next = next ∙ ap (λ (l : List ℕ). l ++ b) first ∙ append_assoc (gathered old) a b

  pub gathers_none : (s : S) → GathersItems carries gathered s s []
  gathers_none s = ([], (refl, refl), sym (append-nil (gathered s)))

  pub gathers_more : (old mid new : S) (xs ys : List Numbered) → GathersItems carries gathered old mid xs → GathersItems carries gathered mid new ys → GathersItems carries gathered old new (xs ++ ys)
  gathers_more old mid new xs ys p q = (p.0 ++ q.0, carries_more carries old mid new xs ys p.0 q.0 p.1 q.1, grows_more old mid new p.0 q.0 p.2 q.2)

  pub gathers_item : (old new : S) (n : ℕ) (i : Item) → GathersItem carries gathered old new n i → GathersItems carries gathered old new ((n, i) ∷ [])
  gathers_item old new n i p = (p.0, (new, p.0, [], p.1, (refl, refl), sym (append-nil p.0)), p.2)

  -- one item, or none
  pub gathers_found : (old new : S) (n : ℕ) (found : Option Item) (i : Item) → found ≡ Some i → GathersItem carries gathered old new n i → GathersItems carries gathered old new (numbered_at n (item_list found))
  gathers_found old new n found i is p = subst (λ (o : Option Item). GathersItems carries gathered old new (numbered_at n (item_list o))) (sym is) (gathers_item old new n i p)

  pub gathers_absent : (s : S) (n : ℕ) (found : Option Item) → found ≡ None → GathersItems carries gathered s s (numbered_at n (item_list found))
  gathers_absent s n found is = subst (λ (o : Option Item). GathersItems carries gathered s s (numbered_at n (item_list o))) (sym is) (gathers_none s)

  -- the sink fails before the first item
  pub behind_none : (old new : S) → gathered new ≡ gathered old → FailsBehind carries gathered old new []
  behind_none old new same = (old, [], (refl, refl), same ∙ sym (append-nil (gathered old)))

  pub fails_none : (old new : S) (xs : List Numbered) → gathered new ≡ gathered old → FailsWithin carries gathered old new xs
  fails_none old new xs same = ([], xs, refl, behind_none old new same)

  -- it does not carry out what follows
  pub fails_extended : (old new : S) (xs ys : List Numbered) → FailsWithin carries gathered old new xs → FailsWithin carries gathered old new (xs ++ ys)
  fails_extended old new xs ys p = (p.0, p.1 ++ ys, ap (λ (l : List Numbered). l ++ ys) p.2 ∙ append_assoc p.0 p.1 ys, p.3)

  -- it carries out all of the former
  pub behind_after : (old mid new : S) (xs ys : List Numbered) → GathersItems carries gathered old mid xs → FailsBehind carries gathered mid new ys → FailsBehind carries gathered old new (xs ++ ys)
  behind_after old mid new xs ys p q = (q.0, p.0 ++ q.1, carries_more carries old mid q.0 xs ys p.0 q.1 p.1 q.2, grows_more old mid new p.0 q.1 p.2 q.3)

  pub fails_after : (old mid new : S) (xs ys : List Numbered) → GathersItems carries gathered old mid xs → FailsWithin carries gathered mid new ys → FailsWithin carries gathered old new (xs ++ ys)
  fails_after old mid new xs ys p q =
      (xs ++ q.0, q.1, ap (λ (l : List Numbered). xs ++ l) q.2 ∙ sym (append_assoc xs q.0 q.1), behind_after old mid new xs q.0 p q.3)

  -- ---- events that were released, in order; those left are kept in the other order

  pub record ReleasedSoFar (all left : List (Noted Asked)) (old new : S) : Type 0 where
    pub done : List (Noted Asked)
    pub all_are : all ≡ done ++ reverse left
    pub gathers : GathersItems carries gathered old new (map numbered_event done)

  pub released_none : (all left : List (Noted Asked)) (s : S) → left ≡ reverse all → ReleasedSoFar all left s s
  released_none all left s is = record { done = []; all_are = sym (reverse-reverse all) ∙ ap reverse (sym is); gathers = gathers_none s }

  pub released_one : (all left now : List (Noted Asked)) (x : Noted Asked) (old mid new : S) → ReleasedSoFar all left old mid → left ≡ now ++ x ∷ [] → GathersItem carries gathered mid new (numbered_event x).0 (numbered_event x).1
      → ReleasedSoFar all now old new
  released_one all left now x old mid new s is d = record {
    done = s.done ++ x ∷ [];
    all_are = s.all_are ∙ ap (λ (t : List (Noted Asked)). s.done ++ t) (popped left now x is) ∙ sym (append_assoc s.done (x ∷ []) (reverse now));
    gathers =
        subst (GathersItems carries gathered old new) (sym (map-append numbered_event s.done (x ∷ [])))
        (gathers_more old mid new (map numbered_event s.done) (numbered_event x ∷ []) s.gathers (gathers_item mid new (numbered_event x).0 (numbered_event x).1 d));
  }

  pub released_part : (all left : List (Noted Asked)) (old mid new : S) → ReleasedSoFar all left old mid → gathered new ≡ gathered mid → FailsWithin carries gathered old new (map numbered_event all)
  released_part all left old mid new s same =
      subst (FailsWithin carries gathered old new) (sym (ap (map numbered_event) s.all_are ∙ map-append numbered_event s.done (reverse left)))
      (fails_after old mid new (map numbered_event s.done) (map numbered_event (reverse left)) s.gathers (fails_none mid new (map numbered_event (reverse left)) same))

  pub released_all : (all left : List (Noted Asked)) (old new : S) → ReleasedSoFar all left old new → left ≡ [] → GathersItems carries gathered old new (map numbered_event all)
  released_all all left old new s none =
      let is : all ≡ s.done = s.all_are ∙ ap (λ (t : List (Noted Asked)). s.done ++ reverse t) none ∙ append-nil s.done in
      subst (λ (t : List (Noted Asked)). GathersItems carries gathered old new (map numbered_event t)) (sym is) s.gathers

  -- ---- closings, one after another

  -- the first closings were carried out, and these are left
  pub record ClosedSoFar (all left : List Pending) (old new : S) : Type 0 where
    pub done : List Pending
    pub all_are : all ≡ done ++ left
    pub gathers : GathersItems carries gathered old new (map numbered_closing done)

  pub closed_none : (all : List Pending) (s : S) → ClosedSoFar all all s s
  closed_none all s = record { done = []; all_are = refl; gathers = gathers_none s }

  pub closed_one : (all left now : List Pending) (c : Pending) (old mid new : S) → ClosedSoFar all left old mid → left ≡ c ∷ now → GathersItems carries gathered mid new (numbered_closing c ∷ []) → ClosedSoFar all now old new
  closed_one all left now c old mid new s is k = record {
    done = s.done ++ c ∷ [];
    all_are = s.all_are ∙ ap (λ (l : List Pending). s.done ++ l) is ∙ sym (append_assoc s.done (c ∷ []) now);
    gathers =
        subst (GathersItems carries gathered old new) (sym (map-append numbered_closing s.done (c ∷ [])))
        (gathers_more old mid new (map numbered_closing s.done) (numbered_closing c ∷ []) s.gathers k);
  }

  pub closed_part : (all left : List Pending) (old mid new : S) → ClosedSoFar all left old mid → gathered new ≡ gathered mid → FailsWithin carries gathered old new (map numbered_closing all)
  closed_part all left old mid new s same =
      subst (FailsWithin carries gathered old new) (sym (ap (map numbered_closing) s.all_are ∙ map-append numbered_closing s.done left))
      (fails_after old mid new (map numbered_closing s.done) (map numbered_closing left) s.gathers (fails_none mid new (map numbered_closing left) same))

  pub closed_all : (all left : List Pending) (old new : S) → ClosedSoFar all left old new → left ≡ [] → GathersItems carries gathered old new (map numbered_closing all)
  closed_all all left old new s none =
      let is : all ≡ s.done = s.all_are ∙ ap (λ (l : List Pending). s.done ++ l) none ∙ append-nil s.done in
      subst (λ (l : List Pending). GathersItems carries gathered old new (map numbered_closing l)) (sym is) s.gathers
