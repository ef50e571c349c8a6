-- Notes in a record that is found by its index (this project's own).
-- Only contracts of private functions cite this file.
use Rattle.std.specs.Prelude.{◌≡◌, ◌<◌, length, Option, Some, Result, Ok, Err, All}
use Rattle.scrib_types.specs.declared.event.Event.{Event}
use Rattle.scrib_record.specs.declared.fault.NoteFault.{NoteFault}
use Rattle.scrib_record.specs.declared.version.Version.{Version}
use Rattle.scrib_record.specs.Stale.{Recorded, IsLawful}
use Rattle.scrib_record.specs.Told.{IsNoted, NoteFails}
use Rattle.scrib_core.specs.ReplyValues.{note_refusal}
use Rattle.scrib_core.specs.declared.conversation_steps.Noted.{Noted}
use Rattle.scrib_locked_steps.specs.declared.pass_calls.PassRefusal.{PassRefusal}
use Rattle.scrib_locked_steps.specs.declared.pass_calls.PassRefusal.TheVariants.{Mismatch, Step}
use Rattle.scrib_locked_steps.specs.Receipts.{AgreesWith, IsFirstMismatch}
use Rattle.scrib_locked_steps.specs.Passes.{PassHeld, IsReceipted, newest_of}
use Rattle.scrib_record.specs.declared.record.TheConstants.{MAX_EVENTS}

-- the event is appended to the record, at this place and with this verdict, where `present` is the present version if
-- any
pub record IsNotedIn (present : Option Version) (before : Recorded) (e : Event) (n : Noted)
    (after : Recorded) : Type 0 where
  pub room : length before.log < MAX_EVENTS
  pub noted : IsNoted present before e after n.told
  pub lawful : IsLawful after
  pub place_is : n.place ≡ length after.log

-- a note by the pass is refused in the record: its newest receipt differs, or else the record refuses it
abbrev pub FailsIn : Recorded → PassHeld → PassRefusal → Type 0
FailsIn r p (Mismatch id place) = (id ≡ p.conversation) × IsFirstMismatch r.log (newest_of p.receipts) (Some place)
FailsIn r p (Step f) =
    All (AgreesWith r.log) (newest_of p.receipts) × ((g : NoteFault) × (f ≡ note_refusal g) × NoteFails r g)

-- the reply to a note by the pass in the record, and the record and the pass after it
abbrev pub AnswersIn : Option Version → Recorded × PassHeld → Event → Result Noted PassRefusal → Recorded × PassHeld
    → Type 0
AnswersIn present s e (Ok n) t =
    All (AgreesWith s.0.log) (newest_of s.1.receipts) × IsNotedIn present s.0 e n t.0 × IsReceipted s.1 e n t.1
AnswersIn present s e (Err f) t = FailsIn s.0 s.1 f × (t ≡ s)
