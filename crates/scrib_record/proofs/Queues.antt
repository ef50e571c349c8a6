-- The messages that were sent, received and are in flight, after one more event.
use Rattle.std.proofs.Common.{◌≡◌, Bool, true, false, ℕ, List, [], ◌∷◌, ◌++◌, Option, Some, None, if◌then◌else◌, filter_map, refl, sym, ap, ◌∙◌, append_assoc}
use Rattle.std.proofs.lemmas.List.{append-nil, append_cancel_left}
use Rattle.std.proofs.lemmas.List.Elements.{filter_map-append}
use Rattle.scrib_types.specs.declared.message.Message.{Message}
use Rattle.scrib_types.specs.declared.event.Event.{Event}
use Rattle.scrib_types.specs.Queues.{sent_message, received_message, sent, received, IsPrefix}

pub sent_on : (p q : List ℕ) (log : List Event) (e : Event) → sent p q (log ++ e ∷ []) ≡ sent p q log ++ filter_map (sent_message p q) (e ∷ [])
sent_on p q log e = filter_map-append (sent_message p q) log (e ∷ [])

pub received_on : (p q : List ℕ) (log : List Event) (e : Event) → received p q (log ++ e ∷ []) ≡ received p q log ++ filter_map (received_message p q) (e ∷ [])
received_on p q log e = filter_map-append (received_message p q) log (e ∷ [])

-- the message, where the test holds
abbrev pub given : Bool → Message → Option Message
given b m = if b then Some m else None

abbrev pub listed : Bool → Message → List Message
listed true m = m ∷ []
listed false m = []

abbrev pub grown : Bool → List Message → Message → List Message
grown b ms m = if b then ms ++ m ∷ [] else ms

abbrev pub led : Bool → Message → List Message → List Message
led b m ms = if b then m ∷ ms else ms

pub fly_still : (S R P : List Message) → S ≡ R ++ P → S ++ [] ≡ (R ++ []) ++ P
fly_still S R P e = rw (append-nil S, append-nil R) e

pub fly_sent : (b : Bool) (m : Message) (S R P : List Message) → S ≡ R ++ P → S ++ listed b m ≡ (R ++ []) ++ grown b P m
fly_sent true m S R P e = rw (append-nil R, e) (append_assoc R P (m ∷ []))
fly_sent false m S R P e = rw (append-nil S, append-nil R) e

pub fly_taken : (b : Bool) (m : Message) (S R P Q : List Message) → S ≡ R ++ P → P ≡ led b m Q → S ++ [] ≡ (R ++ listed b m) ++ Q
fly_taken true m S R P Q e f = rw (append-nil S, append_assoc R (m ∷ []) Q) (e ∙ ap (λ x. R ++ x) f)
fly_taken false m S R P Q e f = rw (append-nil S, append-nil R) (e ∙ ap (λ x. R ++ x) f)

pub prefix_grown : (S R P xs : List Message) → S ≡ R ++ P → IsPrefix (R ++ []) (S ++ xs)
prefix_grown S R P xs e = (P ++ xs, rw (append-nil R, e) (append_assoc R P xs))

pub prefix_taken : (b : Bool) (m : Message) (S R P : List Message) → S ≡ R ++ P → (b ≡ true → (rest : List Message) × (P ≡ m ∷ rest)) → IsPrefix (R ++ listed b m) (S ++ [])
prefix_taken true m S R P e f = let h = f refl in (h.0, fly_taken true m S R P h.0 e h.1)
prefix_taken false m S R P e f = (P, fly_taken false m S R P P e refl)

pub front_from : (m : Message) (S R P : List Message) → S ≡ R ++ P → IsPrefix (R ++ m ∷ []) (S ++ []) → (rest : List Message) × (P ≡ m ∷ rest)
front_from m S R P e f =
    (f.0, append_cancel_left R P (m ∷ f.0) (sym e ∙ sym (append-nil S) ∙ f.1 ∙ append_assoc R (m ∷ []) f.0))

-- what one event adds
pub listed_is : (b : Bool) (m : Message) (h : Event → Option Message) (e : Event) → h e ≡ given b m → filter_map h (e ∷ []) ≡ listed b m
listed_is true m h e i = rw i
listed_is false m h e i = rw i
