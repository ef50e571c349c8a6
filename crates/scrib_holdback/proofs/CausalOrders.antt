-- Orders in which the events of a log may have happened.
use Rattle.std.proofs.Common.{◌≡◌, ◌⊎◌, inl, inr, ◌&&◌, Bool, true, false, ℕ, ◌+◌, ◌<◌, ◌≤◌, List, [], ◌∷◌, ◌++◌, length, refl, sym, ap, ◌∙◌, subst, append_assoc, append-nil, length-append, arith}
use Rattle.std.specs.Str.{bytes_eq}
use Rattle.std.proofs.lemmas.Bool.{and_from, and_parts}
use Rattle.std.proofs.lemmas.List.Elements.{filter_map-append}
use Rattle.scrib_types.specs.declared.message.Message.{Message}
use Rattle.scrib_types.specs.declared.event.Event.{Event}
use Rattle.scrib_types.specs.declared.event.Event.TheVariants.{Join, Sent, Received}
use Rattle.scrib_types.specs.Queues.{sent_message, received_message, sent, received, IsPrefix, IsQueued}
use Rattle.scrib_holdback.specs.HoldBack.{MayHappen}
use Rattle.scrib_holdback.proofs.OwnEvents.{name_itself, same_name}

-- after each event, no more was received on a pair than was sent on it
abbrev pub IsCausal : List Event → Type 0
IsCausal log =
    (before after : List Event) → log ≡ before ++ after → (p q : List ℕ)
    → length (received p q before) ≤ length (sent p q before)

-- a beginning of xs ++ y ∷ [] is all of it, or a beginning of xs
front_cases : {X : Type 0} (xs fs gs : List X) (y : X) → xs ++ y ∷ [] ≡ fs ++ gs → (fs ≡ xs ++ y ∷ []) ⊎ ((hs : List X) × (xs ≡ fs ++ hs))
front_cases xs [] gs y e = inr (xs, refl)
front_cases [] (f ∷ []) gs y e = inl (cc)
front_cases [] (f ∷ g ∷ fs) gs y e = absurd (cc)
front_cases (x ∷ xs) (f ∷ fs) gs y e =
    let t : xs ++ y ∷ [] ≡ fs ++ gs = cc in
    let h : x ≡ f = cc in
    elim (front_cases xs fs gs y t) [ inl p ↦ inl (cc) | inr p ↦ let q : xs ≡ fs ++ p.0 = p.1 in inr (p.0, cc) ]

pub causal_none : IsCausal []
causal_none [] after eq p q = omega arith
causal_none (x ∷ xs) after eq p q = absurd (cc)

-- what one event more adds on a pair
pub sent_more : (p q : List ℕ) (log more : List Event) → length (sent p q (log ++ more)) ≡ length (sent p q log) + length (sent p q more)
sent_more p q log more = ap length (filter_map-append (sent_message p q) log more) ∙ length-append (sent p q log) (sent p q more)

pub received_more : (p q : List ℕ) (log more : List Event) → length (received p q (log ++ more)) ≡ length (received p q log) + length (received p q more)
received_more p q log more = ap length (filter_map-append (received_message p q) log more) ∙ length-append (received p q log) (received p q more)

pub received_one : (p q : List ℕ) (m : Message) → length (received p q (Received p q m ∷ [])) ≡ 1
received_one p q m = rw (and_from (bytes_eq p p) (bytes_eq q q) (name_itself p) (name_itself q)) refl

abbrev IsCounted : List ℕ → List ℕ → List Event → Type 0
IsCounted p q log = length (received p q log) ≤ length (sent p q log)

counted_reception : (p q s t : List ℕ) (m : Message) (log : List Event) → MayHappen log (Received s t m) → IsCounted p q log → (b : Bool) → (bytes_eq p s && bytes_eq q t) ≡ b → IsCounted p q (log ++ Received s t m ∷ [])
counted_reception p q s t m log n h true y =
    let z = and_parts (bytes_eq p s) (bytes_eq q t) y in
    let at_q : length (received s q log) < length (sent s q log) = subst (λ x. length (received s x log) < length (sent s x log)) (sym (same_name q t z.1)) n in
    let here : length (received p q log) < length (sent p q log) = subst (λ x. length (received x q log) < length (sent x q log)) (sym (same_name p s z.0)) at_q in
    let one : length (received p q (Received s t m ∷ [])) ≡ 1 = rw y refl in
    omega (arith, here, one, sent_more p q log (Received s t m ∷ []), received_more p q log (Received s t m ∷ []))
counted_reception p q s t m log n h false y =
    let none : length (received p q (Received s t m ∷ [])) ≡ 0 = rw y refl in
    omega (arith, h, none, sent_more p q log (Received s t m ∷ []), received_more p q log (Received s t m ∷ []))

counted_end : (p q : List ℕ) (log : List Event) (e : Event) → MayHappen log e → IsCounted p q log → IsCounted p q (log ++ e ∷ [])
counted_end p q log (Join r) n h = omega (arith, h, sent_more p q log (Join r ∷ []), received_more p q log (Join r ∷ []))
counted_end p q log (Sent s t m) n h = omega (arith, h, sent_more p q log (Sent s t m ∷ []), received_more p q log (Sent s t m ∷ []))
counted_end p q log (Received s t m) n h = counted_reception p q s t m log n h (bytes_eq p s && bytes_eq q t) refl

pub causal_end : (log : List Event) (e : Event) → IsCausal log → MayHappen log e → IsCausal (log ++ e ∷ [])
causal_end log e c n before after eq p q =
    elim (front_cases log before after e eq) [
      | inl i ↦ subst (IsCounted p q) (sym i) (counted_end p q log e n (c log [] (sym (append-nil log)) p q))
      | inr i ↦ c before i.0 i.1 p q
    ]

-- a log whose receptions are from the front of queues is causal
pub queued_causal : (log : List Event) → IsQueued log → IsCausal log
queued_causal log h before after eq p q =
    let x = h before after eq p q in
    omega (arith, ap length x.1, length-append (received p q before) x.0)

-- of two beginnings of one list the shorter is a beginning of the longer
prefix_of_both : (a b c d : List Message) → a ++ b ≡ c ++ d → length c ≤ length a → IsPrefix c a
prefix_of_both a b [] d e h = (a, refl)
prefix_of_both [] b (x ∷ c) d e h = absurd (omega arith)
prefix_of_both (y ∷ a) b (x ∷ c) d e h =
    let same : y ≡ x = cc in
    let rest : a ++ b ≡ c ++ d = cc in
    let p = prefix_of_both a b c d rest (omega arith) in
    (p.0, ap (λ z. z ∷ a) same ∙ ap (λ z. x ∷ z) p.1)

-- in a causal order, messages that are received as they were sent are received from the front of their queues
pub causal_queued : (log : List Event) → IsCausal log → ((p q : List ℕ) → IsPrefix (received p q log) (sent p q log)) → IsQueued log
causal_queued log c w before after eq p q =
    let r : received p q log ≡ received p q before ++ received p q after = ap (received p q) eq ∙ filter_map-append (received_message p q) before after in
    let s : sent p q log ≡ sent p q before ++ sent p q after = ap (sent p q) eq ∙ filter_map-append (sent_message p q) before after in
    let x = w p q in
    prefix_of_both (sent p q before) (sent p q after) (received p q before) (received p q after ++ x.0)
    (sym s ∙ x.1 ∙ ap (λ z. z ++ x.0) r ∙ append_assoc (received p q before) (received p q after) x.0)
    (c before after eq p q)
