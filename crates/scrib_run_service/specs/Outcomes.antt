-- The outcomes of the items of a script, and the lines that a connection appends for them (this project's own).
use Rattle.std.specs.Prelude.{◌≡◌, ◌⊎◌, ⊤, ℕ, ◌+◌, ◌-◌, ◌^◌, min, Bool, true, false, if◌then◌else◌, List, [], ◌++◌, map, flat_map, fold, Result}
use Rattle.std.specs.List.{AllZip}
use Rattle.scrib_types.specs.declared.event.Event.{Event}
use Rattle.scrib_library.specs.Holdings.{Holdings, IsAccepting}
use Rattle.scrib_core.specs.declared.step.Step.{Step}
use Rattle.scrib_core.specs.declared.step.Step.TheVariants as step
use Rattle.scrib_core.specs.Held.{Records}
use Rattle.scrib_locked_steps.specs.declared.pass_calls.PassRefusal.{PassRefusal}
use Rattle.scrib_core.specs.declared.conversation_steps.Noted.{Noted}
use Rattle.scrib_locked_steps.specs.Passes.{PassHeld}
use Rattle.scrib_locked_steps.specs.Passing.{AnswersBy}
use Rattle.scrib_core.specs.declared.format.Format.{Format}
use Rattle.scrib_core.specs.declared.format.Format.TheVariants as format
use Rattle.scrib_script_reader.specs.declared.item.Item.{Item}
use Rattle.scrib_script_reader.specs.declared.item.Item.TheVariants as item
use Rattle.scrib_report.specs.ReplyTexts.{bad_line, end_of_text, reply_format}
use Rattle.scrib_client.specs.declared.service_reply.ServiceReply.{ServiceReply}
use Rattle.scrib_client.specs.ServiceReplies.{service_reply_text, is_noted, noted_reply}
use Rattle.scrib_client.specs.Steps.{IsMadeSome}
use Rattle.scrib_run_service.specs.declared.connection.Connection.{Connection}

-- the outcome of an item: the reply to a step whose line asks for this format, a bad line of this number, or an end
-- inside a module text
pub data Outcome : Type 0 where
  replied : Format → ServiceReply → Outcome
  bad : ℕ → Outcome
  ended : Outcome

-- the line of an outcome in an output of this format
abbrev pub outcome_text : Format → Outcome → List ℕ
outcome_text o (replied f a) = service_reply_text (reply_format o f) a
outcome_text o (bad n) = bad_line o n
outcome_text o ended = end_of_text o

-- the lines of the outcomes in order
abbrev pub outcomes_text : Format → List Outcome → List ℕ
outcomes_text o outcomes = flat_map (outcome_text o) outcomes

-- whether the outcome is the reply to an event that was noted
abbrev pub is_note : Outcome → Bool
is_note (replied f a) = is_noted a
is_note (bad n) = false
is_note ended = false

-- a count of noted events after one more outcome; it stops at the greatest number of 64 bits
abbrev pub count_one : ℕ → Outcome → ℕ
count_one n x = if is_note x then min (n + 1) (2 ^ 64 - 1) else n

-- a count of noted events after more outcomes
abbrev pub count_all : ℕ → List Outcome → ℕ
count_all n outcomes = fold count_one n outcomes

-- whether a line asks for JSON
abbrev pub is_json : Format → Bool
is_json format.Line = false
is_json format.Json = true

-- whether the step is not made, but reported as a bad line: a close, and a turn or a question whose line asks for JSON
abbrev pub is_bad_step : Format → Step → Bool
is_bad_step f (step.Put text) = false
is_bad_step f (step.Withdraw name) = false
is_bad_step f (step.Profile p) = false
is_bad_step f (step.Open id name) = false
is_bad_step f (step.Note id e) = false
is_bad_step f (step.Turn id) = is_json f
is_bad_step f (step.Ask id) = is_json f
is_bad_step f (step.Close id) = true

-- the reply to a note of the event by some pass, over some library and records
abbrev pub IsReplySome : Event → Result Noted PassRefusal → Type 0
IsReplySome e r =
    (h : Holdings) × (s : Records × PassHeld) × (t : Records × PassHeld) × IsAccepting h × AnswersBy h s e r t

-- the reply to a note that was made together with others; no other step is made so
abbrev pub IsReplyAmong : Step → ServiceReply → Type 0
IsReplyAmong (step.Note id e) a = (r : Result Noted PassRefusal) × (a ≡ noted_reply id r) × IsReplySome e r
IsReplyAmong _ a = ⊥

-- the reply to the step, made by itself or together with others
abbrev pub IsReply : Step → ServiceReply → Type 0
IsReply s a = ((kept : List (ℕ × PassHeld)) × IsMadeSome kept s a) ⊎ IsReplyAmong s a

-- the outcomes that the item may have; a sweep is reported as a bad line
abbrev pub IsOutcome : Item → Outcome → Type 0
IsOutcome (item.Step f s) (replied g a) = (g ≡ f) × (is_bad_step f s ≡ false) × IsReply s a
IsOutcome (item.Step f s) (bad n) = is_bad_step f s ≡ true
IsOutcome (item.Sweep f) (bad n) = ⊤
IsOutcome (item.BadLine n) (bad m) = m ≡ n
IsOutcome item.EndOfText ended = ⊤
IsOutcome _ _ = ⊥

-- the items of lines that note these events in the conversation
abbrev pub note_items : ℕ → List Event → List Item
note_items id events = map (λ e. item.Step format.Line (step.Note id e)) events

-- the outcomes of notes in the conversation that have these replies
abbrev pub noted_outcomes : ℕ → List (Result Noted PassRefusal) → List Outcome
noted_outcomes id rs = map (λ r. replied format.Line (noted_reply id r)) rs

-- the items whose events are in the connection's buffer
abbrev pub pending_items : Connection → List Item
pending_items c = note_items c.pending_id c.pending.items

-- The connection appended the lines of these outcomes and counted their noted events. Its buffer is unchanged.
pub record Adds (old new : Connection) (outcomes : List Outcome) : Type 0 where
  pub format : new.format ≡ old.format
  pub lines : new.lines.items ≡ old.lines.items ++ outcomes_text old.format outcomes
  pub noted : new.noted ≡ count_all old.noted outcomes
  pub pending : new.pending.items ≡ old.pending.items
  pub pending_id : new.pending_id ≡ old.pending_id

-- the items have one outcome each, and the connection added these
pub record Yields (old new : Connection) (items : List Item) : Type 0 where
  pub outcomes : List Outcome
  pub matched : AllZip IsOutcome items outcomes
  pub adds : Adds old new outcomes

-- The connection took these items. In order, it added the outcomes of the items that were in its buffer and of these,
-- except for the items that are in its buffer now.
pub record TakesItems (old new : Connection) (items : List Item) : Type 0 where
  pub done : List Item
  pub outcomes : List Outcome
  pub order : pending_items old ++ items ≡ done ++ pending_items new
  pub matched : AllZip IsOutcome done outcomes
  pub format : new.format ≡ old.format
  pub lines : new.lines.items ≡ old.lines.items ++ outcomes_text old.format outcomes
  pub noted : new.noted ≡ count_all old.noted outcomes

-- the connection appended the lines of the outcomes of these items, and its buffer is empty
pub record Appends (old new : Connection) (items : List Item) : Type 0 where
  pub outcomes : List Outcome
  pub matched : AllZip IsOutcome items outcomes
  pub format : new.format ≡ old.format
  pub lines : new.lines.items ≡ old.lines.items ++ outcomes_text old.format outcomes
  pub none : new.pending.items ≡ []
