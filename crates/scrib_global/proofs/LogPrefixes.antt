-- The facts of a log's first events, and of one event more.
use Rattle.std.proofs.Common.{◌≡◌, ◌↔◌, ◌⊎◌, inl, inr, IsTrue, Bool, true, false, ℕ, ◌+◌, ◌<◌, ◌≤◌, List, [], ◌∷◌, ◌++◌, Option, Some, None, filter, filter_map, length, get_or, take, drop, refl, sym, ap, ◌∙◌, subst, append_assoc, append-nil}
use Rattle.std.proofs.lemmas.Bool.{true≢false}
use Rattle.std.proofs.lemmas.List.{take_more, take_all, take-append-drop, map-append}
use Rattle.std.proofs.lemmas.List.Elements.{filter-append, filter_map-append}
use Rattle.std.proofs.Math.Seq.{take-append_seam}
use Rattle.scrib_types.specs.declared.message.Message.{Message}
use Rattle.scrib_types.specs.declared.event.Action.{Action}
use Rattle.scrib_types.specs.declared.event.Event.{Event}
use Rattle.scrib_types.specs.declared.event.Event.TheVariants.{Join, Sent, Received}
use Rattle.scrib_types.specs.Logs.{action_of, is_action_of, own_actions, IsJoined, AllJoined}
use Rattle.scrib_types.specs.Queues.{sent_message, received_message, sent, received, IsPrefix, IsQueued}
use Rattle.scrib_global.specs.Due.{IsSentFirst}
use Rattle.scrib_global.proofs.Names.{pair_cases}
use Rattle.scrib_global.proofs.Events.{split_cases, received_no}

-- the first events, one more
pub one_more : {X : Type 0} (log : List X) (i : ℕ) (e : X) → i < length log → e ≡ get_or log i e → take (i + 1) log ≡ take i log ++ e ∷ []
one_more log i e n is = take_more log i e n ∙ ap (λ y. take i log ++ y ∷ []) (sym is)

-- a part of xs ++ y ∷ [] is all of it, or a part of xs
front_cases : {X : Type 0} (xs fs gs : List X) (y : X) → xs ++ y ∷ [] ≡ fs ++ gs → (fs ≡ xs ++ y ∷ []) ⊎ ((hs : List X) × (xs ≡ fs ++ hs))
front_cases xs [] gs y e = inr (xs, refl)
front_cases [] (f ∷ []) gs y e = inl (cc)
front_cases [] (f ∷ g ∷ fs) gs y e = absurd (cc)
front_cases (x ∷ xs) (f ∷ fs) gs y e =
    let t : xs ++ y ∷ [] ≡ fs ++ gs = cc in
    let h : x ≡ f = cc in
    elim (front_cases xs fs gs y t) [ inl p ↦ inl (cc) | inr p ↦ let q : xs ≡ fs ++ p.0 = p.1 in inr (p.0, cc) ]

-- joins
pub joined_none : (roles : List (List ℕ)) → AllJoined roles []
joined_none roles [] after e eq = absurd (cc)
joined_none roles (x ∷ xs) after e eq = absurd (cc)

pub joined_end : (roles : List (List ℕ)) (log : List Event) (e : Event) → AllJoined roles log → IsJoined roles log e → AllJoined roles (log ++ e ∷ [])
joined_end roles log e all here before after f eq =
    elim (split_cases log before after e f eq) [
      | inl p ↦ let P : List Event → Type 0 = λ b. IsJoined roles b f in
          let Q : Event → Type 0 = λ x. IsJoined roles log x in
          subst P (sym p.0) (subst Q (sym p.1) here)
      | inr p ↦ all before p.0 f p.1
    ]

pub joined_more : (roles : List (List ℕ)) (log : List Event) (i : ℕ) (e : Event) → i < length log → e ≡ get_or log i e → AllJoined roles (take i log) → IsJoined roles (take i log) e → AllJoined roles (take (i + 1) log)
joined_more roles log i e n is all here = subst (AllJoined roles) (sym (one_more log i e n is)) (joined_end roles (take i log) e all here)

-- the event at a place, in the whole
pub at_place : (log : List Event) (i : ℕ) (e : Event) → i < length log → e ≡ get_or log i e → log ≡ take i log ++ e ∷ drop (i + 1) log
at_place log i e n is =
    sym (take-append-drop (i + 1) log) ∙ ap (λ z. z ++ drop (i + 1) log) (one_more log i e n is) ∙ append_assoc (take i log) (e ∷ []) (drop (i + 1) log)

pub joined_at : (roles : List (List ℕ)) (log : List Event) (i : ℕ) (e : Event) → i < length log → e ≡ get_or log i e → AllJoined roles log → IsJoined roles (take i log) e
joined_at roles log i e n is all = all (take i log) (drop (i + 1) log) e (at_place log i e n is)

pub joined_all : (roles : List (List ℕ)) (log : List Event) (i : ℕ) → length log ≤ i → AllJoined roles (take i log) → AllJoined roles log
joined_all roles log i n h = subst (AllJoined roles) (take_all i log n) h

-- the messages of a log, for one event more
pub given_more : (f : Event → Option Message) (log : List Event) (i : ℕ) (e : Event) (ms new : List Message) (m : Message) → i < length log → e ≡ get_or log i e → f e ≡ Some m → ms ≡ filter_map f (take i log) → new ≡ ms ++ m ∷ [] → new ≡ filter_map f (take (i + 1) log)
given_more f log i e ms new m n is fe inv pushed =
    let one : filter_map f (e ∷ []) ≡ m ∷ [] = rw fe refl in
    pushed
    ∙ ap (λ z. z ++ m ∷ []) inv
    ∙ ap (λ z. filter_map f (take i log) ++ z) (sym one)
    ∙ sym (filter_map-append f (take i log) (e ∷ []))
    ∙ ap (filter_map f) (sym (one_more log i e n is))

pub given_none : (f : Event → Option Message) (log : List Event) (i : ℕ) (e : Event) (ms : List Message) → i < length log → e ≡ get_or log i e → f e ≡ None → ms ≡ filter_map f (take i log) → ms ≡ filter_map f (take (i + 1) log)
given_none f log i e ms n is fe inv =
    let none : filter_map f (e ∷ []) ≡ [] = rw fe refl in
    inv
    ∙ sym (append-nil (filter_map f (take i log)))
    ∙ ap (λ z. filter_map f (take i log) ++ z) (sym none)
    ∙ sym (filter_map-append f (take i log) (e ∷ []))
    ∙ ap (filter_map f) (sym (one_more log i e n is))

pub own_end : (r : List ℕ) (log : List Event) (e : Event) → own_actions r (log ++ e ∷ []) ≡ own_actions r log ++ own_actions r (e ∷ [])
own_end r log e = rw (filter-append (is_action_of r) log (e ∷ []), map-append action_of (filter (is_action_of r) log) (filter (is_action_of r) (e ∷ []))) refl

pub own_more : (r : List ℕ) (log : List Event) (i : ℕ) (e : Event) (acts new : List Action) (a : Action) → i < length log → e ≡ get_or log i e → is_action_of r e ≡ true → a ≡ action_of e → acts ≡ own_actions r (take i log) → new ≡ acts ++ a ∷ [] → new ≡ own_actions r (take (i + 1) log)
own_more r log i e acts new a n is t ea inv pushed =
    let one : own_actions r (e ∷ []) ≡ action_of e ∷ [] = rw t refl in
    pushed
    ∙ ap (λ z. acts ++ z ∷ []) ea
    ∙ ap (λ z. z ++ action_of e ∷ []) inv
    ∙ ap (λ z. own_actions r (take i log) ++ z) (sym one)
    ∙ sym (own_end r (take i log) e)
    ∙ ap (own_actions r) (sym (one_more log i e n is))

pub own_same : (r : List ℕ) (log : List Event) (i : ℕ) (e : Event) (acts : List Action) → i < length log → e ≡ get_or log i e → is_action_of r e ≡ false → acts ≡ own_actions r (take i log) → acts ≡ own_actions r (take (i + 1) log)
own_same r log i e acts n is t inv =
    let none : own_actions r (e ∷ []) ≡ [] = rw t refl in
    inv
    ∙ sym (append-nil (own_actions r (take i log)))
    ∙ ap (λ z. own_actions r (take i log) ++ z) (sym none)
    ∙ sym (own_end r (take i log) e)
    ∙ ap (own_actions r) (sym (one_more log i e n is))

-- queues
pub prefix_of : (r : Bool) (a b : List Message) → length a ≤ length b → (IsTrue r ↔ (a ≡ take (length a) b)) → IsTrue r ↔ IsPrefix a b
prefix_of r a b le h = (
  λ t. (drop (length a) b, sym (take-append-drop (length a) b) ∙ ap (λ z. z ++ drop (length a) b) (sym (h.0 t))),
  λ p. h.1 (sym (ap (take (length a)) p.1 ∙ take-append_seam a p.0)),
)

prefix_grown : (a b c : List Message) → IsPrefix a b → IsPrefix a (b ++ c)
prefix_grown a b c p = (p.0 ++ c, ap (λ z. z ++ c) p.1 ∙ append_assoc a p.0 c)

pub queued_none : IsQueued []
queued_none [] after eq p q = ([], refl)
queued_none (x ∷ xs) after eq p q = absurd (cc)

-- one event more keeps the order of each pair's messages
still_prefix : (log : List Event) (e : Event) → IsSentFirst (log ++ e ∷ []) e → (p q : List ℕ) → IsPrefix (received p q log) (sent p q log) → IsPrefix (received p q (log ++ e ∷ [])) (sent p q (log ++ e ∷ []))
still_prefix log (Join r) due p q h =
    rw (filter_map-append (received_message p q) log (Join r ∷ []), filter_map-append (sent_message p q) log (Join r ∷ []), append-nil (received p q log)) (prefix_grown (received p q log) (sent p q log) [] h)
still_prefix log (Sent s t m) due p q h =
    rw (filter_map-append (received_message p q) log (Sent s t m ∷ []), filter_map-append (sent_message p q) log (Sent s t m ∷ []), append-nil (received p q log)) (prefix_grown (received p q log) (sent p q log) (sent p q (Sent s t m ∷ [])) h)
still_prefix log (Received s t m) due p q h = elim (pair_cases p s q t) [
  | inl i ↦ let e = Received s t m in
      subst (λ y. IsPrefix (received p y (log ++ e ∷ [])) (sent p y (log ++ e ∷ []))) (sym i.1) (subst (λ x. IsPrefix (received x t (log ++ e ∷ [])) (sent x t (log ++ e ∷ []))) (sym i.0) due)
  | inr n ↦
      rw (filter_map-append (received_message p q) log (Received s t m ∷ []), filter_map-append (sent_message p q) log (Received s t m ∷ []), received_no p q t s m [] n, append-nil (received p q log)) (prefix_grown (received p q log) (sent p q log) [] h)
]

queued_end : (log : List Event) (e : Event) → IsQueued log → IsSentFirst (log ++ e ∷ []) e → IsQueued (log ++ e ∷ [])
queued_end log e h due before after eq p q =
    elim (front_cases log before after e eq) [
      | inl i ↦ let P : List Event → Type 0 = λ b. IsPrefix (received p q b) (sent p q b) in
          subst P (sym i) (still_prefix log e due p q (h log [] (sym (append-nil log)) p q))
      | inr i ↦ h before i.0 i.1 p q
    ]

pub queued_more : (log : List Event) (i : ℕ) (e : Event) → i < length log → e ≡ get_or log i e → IsQueued (take i log) → IsSentFirst (take (i + 1) log) e → IsQueued (take (i + 1) log)
queued_more log i e n is h due =
    let more = one_more log i e n is in
    subst IsQueued (sym more) (queued_end (take i log) e h (subst (λ z. IsSentFirst z e) more due))

due_here : (log : List Event) (e : Event) → ((p q : List ℕ) → IsPrefix (received p q log) (sent p q log)) → IsSentFirst log e
due_here log (Join r) h = tt
due_here log (Sent p q m) h = tt
due_here log (Received p q m) h = h p q

pub due_at : (log : List Event) (i : ℕ) (e : Event) → IsQueued log → IsSentFirst (take (i + 1) log) e
due_at log i e h = due_here (take (i + 1) log) e (λ p q. h (take (i + 1) log) (drop (i + 1) log) (sym (take-append-drop (i + 1) log)) p q)

pub queued_all : (log : List Event) (i : ℕ) → length log ≤ i → IsQueued (take i log) → IsQueued log
queued_all log i n h = subst IsQueued (take_all i log n) h

pub due_from : (r : Bool) (a b c d : List Message) → (IsTrue r ↔ IsPrefix a b) → a ≡ c → b ≡ d → IsTrue r ↔ IsPrefix c d
due_from r a b c d h e f = subst (λ y. IsTrue r ↔ IsPrefix c y) f (subst (λ x. IsTrue r ↔ IsPrefix x b) e h)

-- where one part is refused the whole is not
pub not_whole : {P Q : Type 0} (r : Bool) → (IsTrue r ↔ P) → r ≡ false → (Q → P) → IsTrue false ↔ Q
not_whole r h e f = (λ t. absurd (true≢false (sym t)), λ q. absurd (true≢false (sym (h.1 (f q)) ∙ e)))

pub whole : {Q : Type 0} → Q → IsTrue true ↔ Q
whole q = (λ t. q, λ t. refl)

pub true_part : {P : Type 0} (r : Bool) → (IsTrue r ↔ P) → r ≡ true → P
true_part r h e = h.0 e

-- a test that the clause names
pub test_is : (r b : Bool) → r ≡ b → IsTrue r ↔ (b ≡ true)
test_is r b e = (λ t. sym e ∙ t, λ t. e ∙ t)
