-- The look-up of a pair's queue, and the queues that a change of one queue leaves as they were.
use Rattle.std.proofs.Common.{◌≡◌, ℕ, suc, zero, ◌+◌, ◌≤◌, ◌<◌, Bool, true, false, not, cond, List, [], ◌∷◌, ◌++◌, length, set, get_or, zip, position, Some, None, refl, sym, ap, ◌∙◌, arith, take}
use Rattle.std.specs.List.{position_or_len}
use Rattle.std.proofs.lemmas.Grind.{common_steps}
use Rattle.std.proofs.lemmas.List.{map-append, take_more}
use Rattle.std.proofs.lemmas.List.Quantifiers.{position-Some}
use Rattle.scrib_queues.specs.declared.queues.Pair.{Pair}
use Rattle.scrib_queues.specs.Channels.{Channel, channel_in, is_pair, unused}
use Rattle.scrib_queues.specs.Layout.{items_of}

-- index i is the first of the pair of p and q
abbrev pub IsFirst : ℕ → ℕ → List Pair → ℕ → Type 0
IsFirst p q [] i = ⊥
IsFirst p q (k ∷ ks) zero = is_pair p q k ≡ true
IsFirst p q (k ∷ ks) (suc i) = (is_pair p q k ≡ false) × IsFirst p q ks i

first_from : (p q : ℕ) (ks : List Pair) (i : ℕ) (d : Pair) → i < length ks → is_pair p q (get_or ks i d) ≡ true → ((k : ℕ) → k < i → is_pair p q (get_or ks k d) ≡ false) → IsFirst p q ks i
first_from p q [] i d l t f = absurd (omega arith)
first_from p q (k ∷ ks) zero d l t f = t
first_from p q (k ∷ ks) (suc i) d l t f = (f 0 (omega arith), first_from p q ks i d (omega arith) t (λ j h. f (suc j) (omega arith)))

pub is_first : (p q : ℕ) (ks : List Pair) (i : ℕ) → position (is_pair p q) ks ≡ Some i → IsFirst p q ks i
is_first p q ks i e =
    let nowhere : Pair = record { from = 0; to = 0 } in
    let found = position-Some (is_pair p q) ks i nowhere e in
    first_from p q ks i nowhere found.0 found.1 found.2

pub is_past : (p q : ℕ) (ks : List Pair) → position (is_pair p q) ks ≡ None → length ks ≤ position_or_len (is_pair p q) ks
is_past p q ks e = grind (arith, common_steps)

-- no pair is two pairs
other_pair : (p q from to : ℕ) (k : Pair) → is_pair p q k ≡ true → ¬ ((from ≡ p) × (to ≡ q)) → is_pair from to k ≡ false
other_pair p q from to k e differ = grind (arith, common_steps)

module _ {T : Type 0} where
  -- the queue of a pair that isn't stored
  pub missing : (p q : ℕ) (ks : List Pair) (ls : List (Channel T)) → length ks ≤ position_or_len (is_pair p q) ks → channel_in p q (zip ks ls) ≡ unused
  missing p q [] ls h = refl
  missing p q (k ∷ ks) [] h = refl
  missing p q (k ∷ ks) (l ∷ ls) h = by (is_pair p q k) h (missing p q ks ls)
    where
      by : (b : Bool) → suc (length ks) ≤ cond (not b) (1 + position_or_len (is_pair p q) ks) 0 → (length ks ≤ position_or_len (is_pair p q) ks → channel_in p q (zip ks ls) ≡ unused) → cond b l (channel_in p q (zip ks ls)) ≡ unused
      by true h rest = absurd (omega arith)
      by false h rest = rest (omega arith)

  -- the queue of a pair at index i
  pub found : (p q : ℕ) (ks : List Pair) (ls : List (Channel T)) (i : ℕ) (d : Channel T) → IsFirst p q ks i → length ks ≡ length ls → channel_in p q (zip ks ls) ≡ get_or ls i d
  found p q [] ls i d f e = absurd f
  found p q (k ∷ ks) [] i d f e = absurd (omega arith)
  found p q (k ∷ ks) (l ∷ ls) zero d f e = rw f refl
  found p q (k ∷ ks) (l ∷ ls) (suc i) d f e = rw f.0 (found p q ks ls i d f.1 (omega arith))

  -- the same, once that queue is another
  pub changed_here : (p q : ℕ) (ks : List Pair) (ls : List (Channel T)) (i : ℕ) (c : Channel T) → IsFirst p q ks i → length ks ≡ length ls → channel_in p q (zip ks (set ls i c)) ≡ c
  changed_here p q [] ls i c f e = absurd f
  changed_here p q (k ∷ ks) [] i c f e = absurd (omega arith)
  changed_here p q (k ∷ ks) (l ∷ ls) zero c f e = rw f refl
  changed_here p q (k ∷ ks) (l ∷ ls) (suc i) c f e = rw f.0 (changed_here p q ks ls i c f.1 (omega arith))

  pub changed_elsewhere : (p q from to : ℕ) (ks : List Pair) (ls : List (Channel T)) (i : ℕ) (c : Channel T) → IsFirst p q ks i → ¬ ((from ≡ p) × (to ≡ q)) → channel_in from to (zip ks (set ls i c)) ≡ channel_in from to (zip ks ls)
  changed_elsewhere p q from to [] ls i c f differ = absurd f
  changed_elsewhere p q from to (k ∷ ks) [] i c f differ = refl
  changed_elsewhere p q from to (k ∷ ks) (l ∷ ls) zero c f differ = rw (other_pair p q from to k f differ) refl
  changed_elsewhere p q from to (k ∷ ks) (l ∷ ls) (suc i) c f differ =
      ap (λ rest. cond (is_pair from to k) l rest) (changed_elsewhere p q from to ks ls i c f.1 differ)

  -- a queue that is added, where its pair wasn't stored
  pub added_here : (p q : ℕ) (ks : List Pair) (ls : List (Channel T)) (k : Pair) (c : Channel T) → length ks ≤ position_or_len (is_pair p q) ks → length ks ≡ length ls → is_pair p q k ≡ true → channel_in p q (zip (ks ++ k ∷ []) (ls ++ c ∷ [])) ≡ c
  added_here p q [] [] k c h e t = rw t refl
  added_here p q [] (l ∷ ls) k c h e t = absurd (omega arith)
  added_here p q (j ∷ ks) [] k c h e t = absurd (omega arith)
  added_here p q (j ∷ ks) (l ∷ ls) k c h e t = by (is_pair p q j) h (λ m. added_here p q ks ls k c m (omega arith) t)
    where
      by : (b : Bool) → suc (length ks) ≤ cond (not b) (1 + position_or_len (is_pair p q) ks) 0 → (length ks ≤ position_or_len (is_pair p q) ks → channel_in p q (zip (ks ++ k ∷ []) (ls ++ c ∷ [])) ≡ c) → cond b l (channel_in p q (zip (ks ++ k ∷ []) (ls ++ c ∷ []))) ≡ c
      by true h rest = absurd (omega arith)
      by false h rest = rest (omega arith)

  pub added_elsewhere : (from to : ℕ) (ks : List Pair) (ls : List (Channel T)) (k : Pair) (c : Channel T) → length ks ≡ length ls → is_pair from to k ≡ false → channel_in from to (zip (ks ++ k ∷ []) (ls ++ c ∷ [])) ≡ channel_in from to (zip ks ls)
  added_elsewhere from to [] [] k c e t = rw t refl
  added_elsewhere from to [] (l ∷ ls) k c e t = absurd (omega arith)
  added_elsewhere from to (j ∷ ks) [] k c e t = absurd (omega arith)
  added_elsewhere from to (j ∷ ks) (l ∷ ls) k c e t =
      ap (λ rest. cond (is_pair from to j) l rest) (added_elsewhere from to ks ls k c (omega arith) t)

  -- queues with the same items, one by one
  pub same_items : (p q : ℕ) (ks : List Pair) (ls new : List (Channel T)) → items_of new ≡ items_of ls → (channel_in p q (zip ks new)).items ≡ (channel_in p q (zip ks ls)).items
  same_items p q [] ls new e = refl
  same_items p q (k ∷ ks) [] [] e = refl
  same_items p q (k ∷ ks) [] (n ∷ new) e = (cc)
  same_items p q (k ∷ ks) (l ∷ ls) [] e = (cc)
  same_items p q (k ∷ ks) (l ∷ ls) (n ∷ new) e = by (is_pair p q k) (cc) (same_items p q ks ls new (cc))
    where
      by : (b : Bool) → n.items ≡ l.items → (channel_in p q (zip ks new)).items ≡ (channel_in p q (zip ks ls)).items → (cond b n (channel_in p q (zip ks new))).items ≡ (cond b l (channel_in p q (zip ks ls))).items
      by true h r = h
      by false h r = r

  -- one more queue is copied
  pub one_more : (ls new grown : List (Channel T)) (i : ℕ) (l c : Channel T) → items_of new ≡ items_of (take i ls) → i < length ls → l ≡ get_or ls i l → c.items ≡ l.items → grown ≡ new ++ c ∷ [] → items_of grown ≡ items_of (take (i + 1) ls)
  one_more ls new grown i l c e below at same push =
      let left : items_of grown ≡ items_of new ++ c.items ∷ [] = ap items_of push ∙ map-append (λ (queue : Channel T). queue.items) new (c ∷ []) in
      let right : items_of (take (i + 1) ls) ≡ items_of (take i ls) ++ l.items ∷ [] =
      ap items_of (take_more ls i l below ∙ ap (λ queue. take i ls ++ queue ∷ []) (sym at)) ∙ map-append (λ (queue : Channel T). queue.items) (take i ls) (l ∷ []) in
      left ∙ (rw (e, same) (sym right))
