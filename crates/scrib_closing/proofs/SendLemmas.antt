-- Notes of events, and whether they complete their conversations. A send does not: its message is in flight then.
use Rattle.std.proofs.Common.{◌≡◌, ◌↔◌, ◌≤◌, ◌&&◌, ℕ, Bool, true, false, cond, IsTrue, List, [], ◌∷◌, ◌++◌, ◌∙◌, Some, Result, Ok, Err, filter_map, length, drop, nat_eq, refl, sym, ap, subst, arith}
use Rattle.std.specs.Prelude.{IsSome}
use Rattle.std.specs.Cmp.{nat_eq_equiv}
use Rattle.std.specs.Map.{lookup, set_value}
use Rattle.std.specs.Str.{bytes_eq}
use Rattle.std.proofs.lemmas.Bool.{false≢true}
use Rattle.std.proofs.lemmas.Bool.Decides.{Decides-eqb}
use Rattle.std.proofs.lemmas.List.{append-nil, drop-append-le, length-append}
use Rattle.std.proofs.lemmas.List.Elements.{filter_map-append}
use Rattle.std.proofs.lemmas.Map.{lookup-set_value}
use Rattle.std.proofs.lemmas.Slice.Eq.{bytes_eq-Decides}
use Rattle.scrib_types.specs.declared.message.Message.{Message}
use Rattle.scrib_types.specs.declared.event.Event.{Event}
use Rattle.scrib_types.specs.declared.event.Event.TheVariants.{Join, Sent, Received}
use Rattle.scrib_types.specs.Agreement.{Agreement}
use Rattle.scrib_types.specs.Complete.{IsComplete}
use Rattle.scrib_types.specs.Queues.{sent_message, received_message, sent, received}
use Rattle.scrib_core.specs.declared.conversation_steps.Noted.{Noted}
use Rattle.scrib_core.specs.declared.step.Step.TheVariants.{Note}
use Rattle.scrib_core.specs.declared.reply.Refusal.{Refusal}
use Rattle.scrib_core.specs.World.{World, Conversation, conversation, noted}
use Rattle.scrib_core.specs.Answers.{State, IsCompleteIn, IsAnswered}
use Rattle.scrib_core.specs.ReplyValues.{note_reply_of}
use Rattle.scrib_closing.specs.ClosingScripts.{Completes, is_send}

-- ---- the message of the last event

same_names : (p q : List ℕ) → (bytes_eq p p && bytes_eq q q) ≡ true
same_names p q = rw ((bytes_eq-Decides p p).1 refl, (bytes_eq-Decides q q).1 refl)

sent_last : (p q : List ℕ) (m : Message) (log : List Event) → sent p q (log ++ Sent p q m ∷ []) ≡ sent p q log ++ m ∷ []
sent_last p q m log =
    let last : filter_map (sent_message p q) (Sent p q m ∷ []) ≡ m ∷ [] = rw (same_names p q) in
    filter_map-append (sent_message p q) log (Sent p q m ∷ []) ∙ ap (λ (t : List Message). sent p q log ++ t) last

received_last : (p q : List ℕ) (m : Message) (log : List Event) → received p q (log ++ Sent p q m ∷ []) ≡ received p q log
received_last p q m log = filter_map-append (received_message p q) log (Sent p q m ∷ []) ∙ append-nil (received p q log)

-- what follows a prefix
left_over : (rs ss : List Message) (m : Message) → length rs ≤ length ss → drop (length rs) (ss ++ m ∷ []) ≡ [] → ⊥
left_over rs ss m le none =
    let more : drop (length rs) ss ++ m ∷ [] ≡ [] = sym (drop-append-le (length rs) ss (m ∷ []) le) ∙ none in
    omega (arith, ap length more, length-append (drop (length rs) ss) (m ∷ []))

in_flight : (a : Agreement) (log : List Event) (p q : List ℕ) (m : Message) → IsComplete a (log ++ Sent p q m ∷ []) → ⊥
in_flight a log p q m k =
    let before = k.permitted.queued log (Sent p q m ∷ []) refl p q in
    let le : length (received p q log) ≤ length (sent p q log) = omega (arith, ap length before.1, length-append (received p q log) before.0) in
    let none : drop (length (received p q log)) (sent p q log ++ m ∷ []) ≡ [] =
    (λ i. drop (length (sym (received_last p q m log) i)) (sym (sent_last p q m log) i)) ∙ k.empty p q in
    left_over (received p q log) (sent p q log) m le none

-- ---- the conversation of a noted event

noted_there : (rs : List (ℕ × Conversation)) (id : ℕ) (c s : Conversation) → lookup (nat_eq id) rs ≡ Some c → lookup (nat_eq id) (set_value (nat_eq id) rs s) ≡ Some s
noted_there rs id c s e =
    lookup-set_value nat_eq_equiv (nat_eq id) one id s rs (subst IsSome (sym e) refl) ∙ ap (λ (b : Bool). cond b (Some s) (lookup (nat_eq id) rs)) ((Decides-eqb id id).1 refl)
  where
    one : (x y : ℕ) → nat_eq id x ≡ true → nat_eq id y ≡ nat_eq x y
    one x y t = ap (λ (n : ℕ). nat_eq n y) ((Decides-eqb id x).0 t)

never_complete : (id : ℕ) (e : Event) (log : List Event) (a : Agreement) → is_send e ≡ true → IsComplete a (log ++ e ∷ []) → ⊥
never_complete id (Join r) log a sends k = false≢true sends
never_complete id (Sent p q m) log a sends k = in_flight a log p q m k
never_complete id (Received p q m) log a sends k = false≢true sends

-- an accepted send
pub send_open : (id : ℕ) (e : Event) (outcome : Result Noted Refusal) (w u : State) → is_send e ≡ true → IsAnswered w (Note id e) (note_reply_of id outcome) u → (j : ℕ) → Completes (Note id e) (note_reply_of id outcome) u j → ⊥
send_open id e (Err f) w u sends answered j k = false≢true k.1
send_open id e (Ok n) w u sends answered j k =
    let step = answered.follows in
    let there : conversation u.world id ≡ Some (noted step.0 e) =
    ap (λ (v : World). conversation v id) step.3 ∙ noted_there w.world.conversations id step.0 (noted step.0 e) step.1 in
    let same : id ≡ j = let e : Some id ≡ Some j = k.0 in cc in
    let c = k.2.1 in
    let both : Some (noted step.0 e) ≡ Some c.0 = sym there ∙ ap (conversation u.world) same ∙ c.1 in
    let is : noted step.0 e ≡ c.0 = cc in
    never_complete id e step.0.log c.2.0 sends (subst (λ (x : Conversation). IsComplete c.2.0 x.log) (sym is) c.2.2)

-- a note behind which the test holds
pub tested_completes : (id : ℕ) (e : Event) (n : Noted) (u : State) (complete : Bool) → (IsTrue complete ↔ IsCompleteIn u id) → complete ≡ true → Completes (Note id e) (note_reply_of id (Ok n)) u id
tested_completes id e n u complete test holds = (refl, refl, test.0 holds)

-- a note behind which it does not hold
pub tested_stays : (id : ℕ) (e : Event) (n : Noted) (u : State) (complete : Bool) → (IsTrue complete ↔ IsCompleteIn u id) → complete ≡ false → (j : ℕ) → Completes (Note id e) (note_reply_of id (Ok n)) u j → ⊥
tested_stays id e n u complete test fails j k =
    let same : id ≡ j = let e : Some id ≡ Some j = k.0 in cc in
    false≢true (sym fails ∙ test.1 (subst (IsCompleteIn u) (sym same) k.2))

-- a note that is refused
pub refused_stays : (id : ℕ) (e : Event) (f : Refusal) (u : State) (j : ℕ) → Completes (Note id e) (note_reply_of id (Err f)) u j → ⊥
refused_stays id e f u j k = false≢true k.1
