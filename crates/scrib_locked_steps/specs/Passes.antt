-- The contents of a pass, and its promises that mention no shard (this project's own).
use Rattle.std.specs.Prelude.{◌≡◌, ℕ, ◌-◌, ◌<◌, ◌&&◌, nat_lt, Bool, true, List, [], ◌∷◌, ◌++◌, length, drop, All, Option}
use Rattle.scrib_types.specs.declared.event.Event.{Event}
use Rattle.scrib_types.specs.declared.event.Told.{Told}
use Rattle.scrib_types.specs.declared.event.Told.TheVariants.{Stale, Judged}
use Rattle.scrib_types.specs.Agreement.{Agreement}
use Rattle.scrib_types.specs.Judgement.{Judges}
use Rattle.scrib_locked_steps.specs.declared.pass.Receipt.{Receipt}
use Rattle.scrib_core.specs.declared.conversation_steps.Noted.{Noted}
use Rattle.scrib_locked_steps.specs.Receipts.{entry_at, AgreesWith}

-- the conversation of a pass, the number of the opening that it was made for, and its receipts, oldest first
pub record PassHeld : Type 0 where
  pub conversation : ℕ
  pub opening : ℕ
  pub receipts : List Receipt

-- each place is above the one before it, and the first is above the floor
abbrev pub rises : ℕ → List Receipt → Bool
rises floor [] = true
rises floor (r ∷ rs) = nat_lt floor r.place && rises r.place rs

-- the newest receipt alone, or none
abbrev pub newest_of : List Receipt → List Receipt
newest_of rs = drop (length rs - 1) rs

-- a verdict other than `Stale` is that on the log, for some protocol or none
abbrev pub IsVerdictOn : List Event → Told → Type 0
IsVerdictOn log Stale = Unit {0}
IsVerdictOn log (Judged v) = (o : Option Agreement) × Judges o log v

-- The receipt of the event was added last, at a place above all others. Some log, which ends with the event at this
-- place, had the newest receipt. The verdict is on this log.
pub record IsReceipted (old : PassHeld) (e : Event) (n : Noted) (new : PassHeld) : Type 0 where
  pub added : new ≡ record {
    conversation = old.conversation;
    opening = old.opening;
    receipts = old.receipts ++ record { place = n.place; event = e } ∷ [];
  }
  pub above : All (λ r. r.place < n.place) old.receipts
  pub log : List Event
  pub place : n.place ≡ length log
  pub ends : entry_at n.place log ≡ e ∷ []
  pub stood : All (AgreesWith log) (newest_of old.receipts)
  pub verdict : IsVerdictOn log n.told

-- the verdict is on some log that has each receipt at its place
pub record IsAnsweredOn (receipts : List Receipt) (answer : Told) : Type 0 where
  pub log : List Event
  pub stood : All (AgreesWith log) receipts
  pub verdict : IsVerdictOn log answer
