-- What waits, by what was read and what was released.
use Rattle.std.proofs.Common.{◌≡◌, ◌∙◌, ℕ, ◌+◌, ◌<◌, true, List, [], ◌∷◌, ◌++◌, Option, None, Some, length, sym, ap, subst, length-append, arith}
use Rattle.scrib_types.specs.declared.event.Event.{Event}
use Rattle.scrib_hold_stage.specs.declared.noted.Noted.{Noted}
use Rattle.scrib_hold_stage.specs.declared.conversation.Conversation.{Conversation}
use Rattle.scrib_hold_stage.specs.Entries.{Entry, Closings, noted_in, noted_since, opening_since}
use Rattle.scrib_hold_stage.specs.Conversations.{waiting_at}
use Rattle.scrib_hold_stage.specs.Changes.{conversation_at}
use Rattle.scrib_hold_stage.specs.Deadlines.{how_many}
use Rattle.scrib_hold_stage.specs.Stages.{StageState, AreHeld, IsHeld, HasStaged, Waits, IsUnreleased, AreAllReleased}
use Rattle.scrib_hold_stage.proofs.Lists.{many_all}
use Rattle.scrib_hold_stage.proofs.ConversationLemmas.{waiting_unopened}
use Rattle.scrib_hold_stage.proofs.HeldLemmas.{open_parts}

-- each event of a conversation was released or waits
held_count : {A : Type 0} (event : A → Event) (bound : ℕ) (opening : Option ℕ) (events released expired : List (Noted A)) (now : Option (Conversation A)) → IsHeld event bound opening events released expired now
    → length events ≡ length released + length (waiting_at now)
held_count {A} event bound opening events released expired now h = by opening h.held
  where
    by : (o : Option ℕ) → AreHeld event bound o h.early h.arrivals h.given h.late now → length events ≡ length released + length (waiting_at now)
    by None k =
        omega (
          arith,
          ap length h.all,
          ap length h.out,
          length-append h.early h.arrivals,
          length-append h.early h.given,
          ap length k.0,
          ap length (waiting_unopened event h.arrivals now k.2),
        )
    by (Some n) k =
        omega (
          arith,
          ap length h.all,
          ap length h.out,
          length-append h.early h.arrivals,
          length-append h.early h.given,
          open_parts event h.arrivals h.given h.late now k.2 (λ (x : Noted A). true),
          many_all h.arrivals,
          many_all h.given,
          many_all (waiting_at now),
        )

module _ {A : Type 0} (event : A → Event) (bound id : ℕ) (entries : List (Entry A)) (closed : Closings) (released expired : List (Noted A)) (s : StageState A) (a : HasStaged event bound entries closed released expired s) where
  counted : length (noted_since (closed id) id (noted_in entries)) ≡ length (noted_since (closed id) id released) + length (waiting_at (conversation_at s.conversations id))
  counted =
      held_count event bound (opening_since (closed id) id entries) (noted_since (closed id) id (noted_in entries)) (noted_since (closed id) id released) (noted_since (closed id) id expired)
      (conversation_at s.conversations id) (a.kept.held id)

  pub unreleased : Waits id s → IsUnreleased id entries closed released
  unreleased w = omega (arith, counted, ap length w.1.1)

  pub all_released : waiting_at (conversation_at s.conversations id) ≡ [] → AreAllReleased id entries closed released
  all_released none = omega (arith, counted, ap length none)
