-- The contents of a shard as contracts see them, and its invariants (this project's own).
use Rattle.std.specs.Prelude.{◌≡◌, ℕ, ◌≤◌, nat_eq, List, [], length, Option, Some, None, All}
use Rattle.std.specs.List.{sum_by, IsDistinct}
use Rattle.std.specs.Map.{keys_of, values_of}
use Rattle.scrib_types.specs.declared.event.Event.{Event}
use Rattle.scrib_record.specs.Stale.{Recorded, IsLawful}
use Rattle.scrib_core.specs.Held.{Records, record_at}
use Rattle.scrib_locked_steps.specs.Indexing.{Listing, IsIndex}
use Rattle.scrib_record.specs.declared.record.TheConstants.{MAX_EVENTS}
use Rattle.scrib_core.specs.declared.monitor.TheConstants.{MAX_CONVERSATIONS}

-- the maximal number of conversations, the records by id, the number of each opening by id, and how many openings there
-- were so far
pub record ShardHeld : Type 0 where
  pub capacity : ℕ
  pub records : Records
  pub openings : List (ℕ × ℕ)
  pub opened : ℕ

-- the log of the conversation, empty if none is open under the id
abbrev pub log_in : Option Recorded → List Event
log_in None = []
log_in (Some r) = r.log

-- the log of the conversation of the id, empty if none is open
abbrev pub log_at : Records → ℕ → List Event
log_at rs id = log_in (record_at rs id)

-- the book of records: the number of events in their logs
abbrev pub book_of : Records → ℕ
book_of rs = sum_by (λ r. length r.log) (values_of rs)

-- a record that is lawful and within the limit of a log
abbrev pub IsRecordWithin : Recorded → Type 0
IsRecordWithin r = IsLawful r × (length r.log ≤ MAX_EVENTS)

-- each record is lawful and within the limit of a log
abbrev pub AreWithin : Records → Type 0
AreWithin rs = All IsRecordWithin (values_of rs)

-- The invariants of a shard: ids are distinct, its conversations are within its limit, and its records are lawful.
pub record IsLawfulShard (s : ShardHeld) : Type 0 where
  pub distinct : IsDistinct nat_eq (keys_of s.records)
  pub lawful : AreWithin s.records
  pub limited : length s.records ≤ s.capacity
  pub few : s.capacity ≤ MAX_CONVERSATIONS

-- the limit, the index and the book agree with the records
pub record IsShardStored (capacity : ℕ) (rs : Records) (index : Listing) (book : ℕ) : Type 0 where
  pub counted : book ≡ book_of rs
  pub indexed : IsIndex index rs
  pub lawful : AreWithin rs
  pub limited : length rs ≤ capacity
  pub few : capacity ≤ MAX_CONVERSATIONS
