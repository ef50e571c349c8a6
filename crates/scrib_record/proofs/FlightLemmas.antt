-- The messages in flight, as numbers of exchanges in queues.
use Rattle.std.proofs.Common.{◌≡◌, ◌↔◌, ◌==◌, ◌⊎◌, Option, None, slice_get, Bool, true, false, ℕ, suc, List, [], ◌∷◌, ◌++◌, Some, All, map, refl, sym, ap, subst, ◌∙◌, inl, inr, arith}
use Rattle.std.proofs.lemmas.Bool.{true≢false, cases_Bool}
use Rattle.std.proofs.lemmas.Bool.Decides.{Decides-eqb}
use Rattle.std.proofs.lemmas.List.{map-append}
use Rattle.std.proofs.lemmas.List.Elements.{All-push}
use Rattle.scrib_types.specs.declared.message.Message.{Message}
use Rattle.scrib_types.specs.declared.event.Event.TheVariants.{Sent}
use Rattle.scrib_queues.specs.Channels.{Channels, SameElsewhere, IsTaken, queue_of}
use Rattle.scrib_record.specs.declared.exchanges.Exchange.{Exchange}
use Rattle.scrib_record.specs.Configurations.{Others, IsBetween, AreQueued, IsAtFront, flight_of, message_at, message_in}
use Rattle.scrib_record.specs.Exchanges.{IsNumberOf, AreExchanges}
use Rattle.scrib_record.specs.Places.{place_in}
use Rattle.scrib_record.proofs.NumberingLemmas.{number_between, same_number}

pub others_same : (es : List Exchange) (i j : ℕ) (old new : Channels ℕ) → SameElsewhere i j old new → Others i j (flight_of es old) (flight_of es new)
others_same es i j old new same k l apart = ap (map (message_at es)) (same k l apart).0

pub pushed : (es : List Exchange) (i j k : ℕ) (m : Message) (old new : Channels ℕ) → message_at es k ≡ m → queue_of new i j ≡ queue_of old i j ++ k ∷ [] → flight_of es new i j ≡ flight_of es old i j ++ m ∷ []
pushed es i j k m old new is e =
    ap (map (message_at es)) e ∙ map-append (message_at es) (queue_of old i j) (k ∷ []) ∙ ap (λ x. map (message_at es) (queue_of old i j) ++ x ∷ []) is

pub taken : (es : List Exchange) (i j k : ℕ) (m : Message) (old new : Channels ℕ) → message_at es k ≡ m → queue_of old i j ≡ k ∷ queue_of new i j → flight_of es old i j ≡ m ∷ flight_of es new i j
taken es i j k m old new is e = ap (map (message_at es)) e ∙ ap (λ x. x ∷ map (message_at es) (queue_of new i j)) is

-- whether two pairs of places are the same
is_same_pair : (i j k l : ℕ) → ((k ≡ i) × (l ≡ j)) ⊎ (¬ ((k ≡ i) × (l ≡ j)))
is_same_pair i j k l = elim (cases_Bool (k == i)) [
  | inl a ↦ elim (cases_Bool (l == j)) [
    | inl b ↦ inl ((Decides-eqb k i).0 a, (Decides-eqb l j).0 b)
    | inr b ↦ inr (λ h. true≢false (sym ((Decides-eqb l j).1 h.1) ∙ b))
  ]
  | inr a ↦ inr (λ h. true≢false (sym ((Decides-eqb k i).1 h.0) ∙ a))
]

pub queued_pushed : (es : List Exchange) (i j k : ℕ) (old new : Channels ℕ) → AreQueued es old → IsBetween es i j k → queue_of new i j ≡ queue_of old i j ++ k ∷ [] → SameElsewhere i j old new → AreQueued es new
queued_pushed es i j k old new are b e same x y = elim (is_same_pair i j x y) [
  | inl h ↦
      subst (λ v. All (IsBetween es v y) (queue_of new v y)) (sym h.0) (subst (λ w. All (IsBetween es i w) (queue_of new i w)) (sym h.1)
      (subst (All (IsBetween es i j)) (sym e) (All-push (IsBetween es i j) (queue_of old i j) k (are i j) b)))
  | inr h ↦ subst (All (IsBetween es x y)) (sym (same x y h).0) (are x y)
]

behind : {X : Type 0} (P : X → Type 0) (x : X) (xs : List X) → All P (x ∷ xs) → All P xs
behind P x xs h k d w = h (suc k) d (omega (arith, w))

first : {X : Type 0} (P : X → Type 0) (x : X) (xs : List X) → All P (x ∷ xs) → P x
first P x xs h = h 0 x (omega arith)

pub queued_taken : (es : List Exchange) (i j k : ℕ) (old new : Channels ℕ) → AreQueued es old → queue_of old i j ≡ k ∷ queue_of new i j → SameElsewhere i j old new → AreQueued es new
queued_taken es i j k old new are e same x y = elim (is_same_pair i j x y) [
  | inl h ↦
      subst (λ v. All (IsBetween es v y) (queue_of new v y)) (sym h.0) (subst (λ w. All (IsBetween es i w) (queue_of new i w)) (sym h.1)
      (behind (IsBetween es i j) k (queue_of new i j) (subst (All (IsBetween es i j)) e (are i j))))
  | inr h ↦ subst (All (IsBetween es x y)) (sym (same x y h).0) (are x y)
]

-- the number of the oldest message in flight is that of its exchange
pub front_number : (roles : List (List ℕ)) (es : List Exchange) (p q : List ℕ) (m : Message) (i j k : ℕ) (ks : List ℕ) (rest : List Message) → AreExchanges roles es → place_in roles p ≡ Some i → place_in roles q ≡ Some j → IsNumberOf es (Sent p q m) k → All (IsBetween es i j) ks → map (message_at es) ks ≡ m ∷ rest → (others : List ℕ) × (ks ≡ k ∷ others)
front_number roles es p q m i j k [] rest are from to num all e = absurd (cc)
front_number roles es p q m i j k (x ∷ ks) rest are from to num all e =
    let is : message_at es x ≡ m = cc in
    let there = number_between roles es p q m i j x are from to (first (IsBetween es i j) x ks all) is in
    (ks, ap (λ y. y ∷ ks) (same_number roles es (Sent p q m) (Sent p q m) x k are there num refl))

-- another message was the oldest, or none
pub was_other : (roles : List (List ℕ)) (es : List Exchange) (p q : List ℕ) (m : Message) (i j k : ℕ) (b : Bool) (old new : Channels ℕ) → AreExchanges roles es → place_in roles p ≡ Some i → place_in roles q ≡ Some j → IsNumberOf es (Sent p q m) k → AreQueued es old → b ≡ false → IsTaken k b (queue_of old i j) (queue_of new i j) → IsAtFront i j m (flight_of es old) → ⊥
was_other roles es p q m i j k true old new are from to num queued e h f = absurd (true≢false e)
was_other roles es p q m i j k false old new are from to num queued e h f =
    let there = front_number roles es p q m i j k (queue_of old i j) f.0 are from to num (queued i j) f.1 in h.1 there.0 there.1

-- nothing is queued, nothing is in flight
pub front_none : (es : List Exchange) (ks : List ℕ) (m : Message) → ks ≡ [] → ((rest : List Message) × (map (message_at es) ks ≡ m ∷ rest)) → ⊥
front_none es ks m e h = let n : [] ≡ m ∷ h.0 = sym (ap (map (message_at es)) e) ∙ h.1 in absurd (cc)

-- an exchange without a number is not queued
pub front_missing : (es : List Exchange) (i j k : ℕ) (ks others : List ℕ) → slice_get es k ≡ None → ks ≡ k ∷ others → All (IsBetween es i j) ks → ⊥
front_missing es i j k ks others none e all =
    let b = first (IsBetween es i j) k others (subst (All (IsBetween es i j)) e all) in
    no_some b.0 (sym none ∙ b.1)
  where
    no_some : (x : Exchange) → ◌≡◌ {A = Option Exchange} None (Some x) → ⊥
    no_some x e = cc

-- without exchanges nothing is in flight
pub front_unnumbered : (es : List Exchange) (i j : ℕ) (ks : List ℕ) (m : Message) → es ≡ [] → All (IsBetween es i j) ks → ((rest : List Message) × (map (message_at es) ks ≡ m ∷ rest)) → ⊥
front_unnumbered es i j [] m e all h = front_none es [] m refl h
front_unnumbered es i j (k ∷ ks) m e all h = front_missing es i j k (k ∷ ks) ks (ap (λ (x : List Exchange). slice_get x k) e) refl all

-- the message of the first queued number is the oldest in flight
pub front_is : (es : List Exchange) (k : ℕ) (ks others : List ℕ) (x : Exchange) (m : Message) → slice_get es k ≡ Some x → ks ≡ k ∷ others → (x.message ≡ m) ↔ ((rest : List Message) × (map (message_at es) ks ≡ m ∷ rest))
front_is es k ks others x m here e =
    let is : map (message_at es) ks ≡ x.message ∷ map (message_at es) others = ap (map (message_at es)) e ∙ ap (λ y. message_in y ∷ map (message_at es) others) here in (
      λ same. (map (message_at es) others, is ∙ ap (λ y. y ∷ map (message_at es) others) same),
      λ h. let both : x.message ∷ map (message_at es) others ≡ m ∷ h.0 = sym is ∙ h.1 in cc,
    )
