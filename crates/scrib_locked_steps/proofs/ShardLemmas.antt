-- The steps preserve the invariants of a shard: its book, and that its records are lawful and within its limits.
use Rattle.std.proofs.Common.{◌≡◌, ℕ, ◌+◌, ◌-◌, ◌<◌, ◌≤◌, List, [], ◌∷◌, ◌++◌, length, Option, Some, None, Result, Ok, Err, IfOk, OnErr, IfSome, All, nat_eq, refl, sym, ap, subst, ◌∙◌, arith, length-append, true≢false, IsSome, IsPermutation, option_to_list}
use Rattle.std.specs.Map.{set_value, values_of}
use Rattle.std.specs.List.{sum_by}
use Rattle.std.proofs.lemmas.List.{map-append, same_from_push}
use Rattle.std.proofs.lemmas.List.Elements.{All-push, All-nil, All-tail}
use Rattle.std.proofs.lemmas.List.Sorted.{All-permutation, IsPermutation-map, length_permutation, sum_by_popped}
use Rattle.std.proofs.lemmas.List.Sums.{sum_by_push, sum_by-le}
use Rattle.std.proofs.lemmas.Map.{length-set_value}
use Rattle.std.proofs.lemmas.Map.Entries.{sum_by-set_value, length-values_of}
use Rattle.std.proofs.lemmas.Map.Views.{All-values-set_value, IfSome-lookup_from_All}
use Rattle.scrib_types.specs.declared.event.Event.{Event}
use Rattle.scrib_types.specs.declared.event.Told.{Told}
use Rattle.scrib_global.proofs.JudgementLemmas.{permitted_none}
use Rattle.scrib_record.specs.declared.version.Version.{Version}
use Rattle.scrib_record.specs.Stale.{Recorded, IsLawful}
use Rattle.scrib_record.specs.Told.{IsTurned}
use Rattle.scrib_record.specs.Turns.{new_record}
use Rattle.scrib_record.specs.Versions.{meaning_of}
use Rattle.scrib_library.specs.Holdings.{Holdings}
use Rattle.scrib_library.specs.Modules.{MeansProtocols}
use Rattle.scrib_core.specs.declared.conversation_steps.Judged.{Judged}
use Rattle.scrib_core.specs.declared.conversation_steps.Closed.{Closed}
use Rattle.scrib_core.specs.declared.reply.Refusal.{Refusal}
use Rattle.scrib_core.specs.declared.reply.Refusal.TheVariants.{OutOfMemory}
use Rattle.scrib_core.specs.World.{IsTakenOut}
use Rattle.scrib_core.specs.Held.{Records, record_at}
use Rattle.scrib_core.specs.ConversationSteps.{IsOpened, OpenFails, IsNotedAt, IsTurnedAt, IsClosedAt}
use Rattle.scrib_locked_steps.specs.declared.pass_calls.PassRefusal.{PassRefusal}
use Rattle.scrib_core.specs.declared.conversation_steps.Noted.{Noted}
use Rattle.scrib_locked_steps.specs.Indexing.{Listing, IsUnlisted, listed_ids, only_under}
use Rattle.scrib_locked_steps.specs.Shards.{IsRecordWithin, AreWithin, IsShardStored, book_of}
use Rattle.scrib_locked_steps.specs.Passing.{added_notes}
use Rattle.scrib_locked_steps.specs.Sweeping.{IsTurnedUnder}
use Rattle.scrib_locked_steps.proofs.NameIndexLemmas.{index_none, index_push, index_set, index_kept, index_taken}

abbrev events_in : Recorded → ℕ
events_in r = length r.log

-- the book fits into its integer type
pub book_small : (capacity : ℕ) (rs : Records) (es : Listing) (book : ℕ) → IsShardStored capacity rs es book → book ≤ 68719476736
book_small capacity rs es book s =
    let sum = sum_by-le events_in 1048576 (values_of rs) (λ k d h. (s.lawful k d h).1) in
    omega (arith, sum, length-values_of rs, s.counted, s.limited, s.few)

pub stored_none : (capacity : ℕ) → capacity ≤ 65536 → IsShardStored capacity [] [] 0
stored_none capacity few = record { counted = refl; indexed = index_none; lawful = All-nil IsRecordWithin; limited = omega arith; few = few }

pub stored_same : (capacity : ℕ) (old new : Records) (es : Listing) (book : ℕ) → new ≡ old → IsShardStored capacity old es book → IsShardStored capacity new es book
stored_same capacity old new es book e s = subst (λ (rs : Records). IsShardStored capacity rs es book) (sym e) s

-- one record is written, with so many more entries
stored_set : (capacity : ℕ) (old : Records) (es : Listing) (book more id : ℕ) (r s : Recorded) → record_at old id ≡ Some r → IsRecordWithin s → length s.log ≡ length r.log + more → s.name ≡ r.name
    → IsShardStored capacity old es book → IsShardStored capacity (set_value (nat_eq id) old s) es (book + more)
stored_set capacity old es book more id r s there within longer named stored = record {
  indexed = index_set es old id r s there named stored.indexed;
  counted = omega (arith, sum_by-set_value events_in (nat_eq id) old r s there, stored.counted, longer);
  lawful = All-values-set_value (nat_eq id) IsRecordWithin old s stored.lawful within;
  limited = omega (arith, length-set_value (nat_eq id) old s, stored.limited);
  few = stored.few;
}

-- one empty record is added and listed_ids
stored_push : (capacity : ℕ) (old : Records) (es fs : Listing) (book id : ℕ) (s : Recorded) → record_at old id ≡ None → IsRecordWithin s → length s.log ≡ 0 → length old < capacity
    → ((n : List (List ℕ)) → listed_ids n fs ≡ listed_ids n es ++ only_under s.name n id)
    → IsShardStored capacity old es book → IsShardStored capacity (old ++ (id, s) ∷ []) fs book
stored_push capacity old es fs book id s absent within empty room more stored =
    let pushed : values_of (old ++ (id, s) ∷ []) ≡ values_of old ++ s ∷ [] = map-append (λ (e : ℕ × Recorded). e.1) old ((id, s) ∷ []) in
    record {
      indexed = index_push es fs old id s absent more stored.indexed;
      counted = stored.counted ∙ sym (ap (sum_by events_in) pushed ∙ sum_by_push events_in (values_of old) s ∙ omega (arith, empty));
      lawful = subst (All IsRecordWithin) (sym pushed) (All-push IsRecordWithin (values_of old) s stored.lawful within);
      limited = omega (arith, length-append old ((id, s) ∷ []), room);
      few = stored.few;
    }

new_within : (h : Holdings) (name : List (List ℕ)) (v : Version) (old new : Records) (id capacity : ℕ) → MeansProtocols h.modules → (o : IsOpened capacity h old id name new) → IsRecordWithin (new_record name o.version)
new_within h name v old new id capacity protocols o =
    (record { within = omega arith; judges = permitted_none (meaning_of o.version) (protocols name (meaning_of o.version) o.present.meaning) }, omega arith)

-- a conversation was opened and listed_ids
pub open_keeps : (capacity : ℕ) (h : Holdings) (old : Records) (id : ℕ) (name : List (List ℕ)) (new : Records) (es fs : Listing) (book : ℕ) → MeansProtocols h.modules
    → IsOpened capacity h old id name new → ((m : List (List ℕ)) → listed_ids m fs ≡ listed_ids m es ++ only_under name m id)
    → IsShardStored capacity old es book → IsShardStored capacity new fs book
open_keeps capacity h old id name new es fs book protocols o more s =
    stored_same capacity (old ++ (id, new_record name o.version) ∷ []) new fs book o.added
    (stored_push capacity old es fs book id (new_record name o.version) o.absent (new_within h name o.version old new id capacity protocols o) refl o.room more s)

pub listed_same : (capacity : ℕ) (rs : Records) (es fs : Listing) (book : ℕ) → ((m : List (List ℕ)) → listed_ids m fs ≡ listed_ids m es) → IsShardStored capacity rs es book → IsShardStored capacity rs fs book
listed_same capacity rs es fs book same s =
    record { counted = s.counted; indexed = index_kept es fs rs same s.indexed; lawful = s.lawful; limited = s.limited; few = s.few }

pub opened_some : (capacity : ℕ) (h : Holdings) (old : Records) (id : ℕ) (name : List (List ℕ)) (new : Records) → IsOpened capacity h old id name new → 0 < length new
opened_some capacity h old id name new o = omega (arith, ap length o.added, length-append old ((id, new_record name o.version) ∷ []))

-- the conversation opened last is removed again
pub taken_back : (capacity : ℕ) (h : Holdings) (old : Records) (id : ℕ) (name : List (List ℕ)) (new left : Records) (last : Option (ℕ × Recorded))
    → IsOpened capacity h old id name new → new ≡ left ++ option_to_list last → IsSome last → left ≡ old
taken_back capacity h old id name new left None o e some = absurd (true≢false (sym some))
taken_back capacity h old id name new left (Some p) o e some =
    let both : left ++ p ∷ [] ≡ old ++ (id, new_record name o.version) ∷ [] = sym e ∙ o.added in
    (same_from_push left old p (id, new_record name o.version) both).0

-- so the opening is refused with `OutOfMemory`
pub unlisted_refused : (capacity : ℕ) (h : Holdings) (old : Records) (id : ℕ) (name : List (List ℕ)) (new : Records) → IsOpened capacity h old id name new → OpenFails capacity h old id name OutOfMemory
unlisted_refused capacity h old id name new o = (o.absent, (meaning_of o.version, o.present.meaning), o.room)

none_more : (capacity : ℕ) (new : Records) (es : Listing) (book : ℕ) → IsShardStored capacity new es book → IsShardStored capacity new es (book + 0)
none_more capacity new es book s = subst (IsShardStored capacity new es) (omega arith) s

-- an event was noted
pub note_keeps : (capacity : ℕ) (h : Holdings) (old : Records) (id : ℕ) (e : Event) (place : ℕ) (told : Told) (new : Records) (es : Listing) (book : ℕ)
    → IsNotedAt h old id e place told new → IsShardStored capacity old es book → IsShardStored capacity new es (book + 1)
note_keeps capacity h old id e place told new es book n s =
    let longer : length n.after.log ≡ length n.before.log + 1 = ap length n.noted.log ∙ length-append n.before.log (e ∷ []) in
    stored_same capacity (set_value (nat_eq id) old n.after) new es (book + 1) n.put
    (stored_set capacity old es book 1 id n.before n.after n.there (n.lawful, omega (arith, longer, n.room)) longer n.noted.name s)

pub notes_few : (answer : Result Noted PassRefusal) → added_notes answer ≤ 1
notes_few (Ok n) = omega arith
notes_few (Err f) = omega arith

-- a note by a pass succeeded or was refused
pub pass_note_keeps : (capacity : ℕ) (h : Holdings) (old : Records) (id : ℕ) (e : Event) (answer : Result Noted PassRefusal) (new : Records) (es : Listing) (book : ℕ)
    → IfOk answer (λ n. IsNotedAt h old id e n.place n.told new) → OnErr answer (new ≡ old) → IsShardStored capacity old es book → IsShardStored capacity new es (book + added_notes answer)
pass_note_keeps capacity h old id e (Ok n) new es book noted same s = note_keeps capacity h old id e n.place n.told new es book noted s
pass_note_keeps capacity h old id e (Err f) new es book noted same s = none_more capacity new es book (stored_same capacity old new es book same s)

-- an existing record is lawful and within the limit
pub within_at : (rs : Records) (id : ℕ) (r : Recorded) → AreWithin rs → record_at rs id ≡ Some r → IsRecordWithin r
within_at rs id r all there = subst (λ (o : Option Recorded). IfSome o IsRecordWithin) there (IfSome-lookup_from_All IsRecordWithin (nat_eq id) rs all)

-- the record made a turn
pub turned_keeps : (capacity : ℕ) (present : Option Version) (old : Records) (id : ℕ) (before after : Recorded) (answer : Told) (new : Records) (es : Listing) (book : ℕ)
    → record_at old id ≡ Some before → IsTurned present before after answer → IsLawful after → new ≡ set_value (nat_eq id) old after
    → IsShardStored capacity old es book → IsShardStored capacity new es book
turned_keeps capacity present old id before after answer new es book there turned lawful put s =
    let as_long : length after.log ≡ length before.log + 0 = ap length turned.log ∙ omega arith in
    let short = (within_at old id before s.lawful there).1 in
    subst (IsShardStored capacity new es) (omega arith)
    (stored_same capacity (set_value (nat_eq id) old after) new es (book + 0) put
    (stored_set capacity old es book 0 id before after there (lawful, omega (arith, as_long, short)) as_long turned.name s))

-- a turn succeeded or was refused
pub turn_keeps : (capacity : ℕ) (h : Holdings) (old : Records) (id : ℕ) (r : Result Judged Refusal) (new : Records) (es : Listing) (book : ℕ)
    → IfOk r (λ j. IsTurnedAt h old id j.name j.events j.told new) → OnErr r (new ≡ old) → IsShardStored capacity old es book → IsShardStored capacity new es book
turn_keeps capacity h old id (Ok j) new es book t same s = turned_keeps capacity t.present old id t.before t.after j.told new es book t.there t.turned t.lawful t.put s
turn_keeps capacity h old id (Err f) new es book t same s = stored_same capacity old new es book same s

-- the same of a turn under a version that was looked up
pub turn_under_keeps : {E : Type 0} (capacity : ℕ) (present : Option Version) (old : Records) (id : ℕ) (r : Result Told E) (new : Records) (es : Listing) (book : ℕ)
    → IfOk r (λ told. IsTurnedUnder present old id told new) → OnErr r (new ≡ old) → IsShardStored capacity old es book → IsShardStored capacity new es book
turn_under_keeps capacity present old id (Ok told) new es book t same s = turned_keeps capacity present old id t.before t.after told new es book t.there t.turned t.lawful t.put s
turn_under_keeps capacity present old id (Err f) new es book t same s = stored_same capacity old new es book same s

-- ---- a record is taken out

module _ (old new : Records) (id : ℕ) (r : Recorded) (t : IsTakenOut id old r new) where
  values_left : IsPermutation (values_of old) (r ∷ values_of new)
  values_left = IsPermutation-map (λ (e : ℕ × Recorded). e.1) old ((id, r) ∷ new) t.rest

  -- the book without its entries
  pub book_left : book_of new + length r.log ≡ book_of old
  book_left = sum_by_popped events_in r (values_of old) (values_of new) values_left

  shorter : length old ≡ length new + 1
  shorter = sym (length_permutation old ((id, r) ∷ new) t.rest) ∙ omega arith

  pub taken_keeps : (capacity : ℕ) (es fs : Listing) (book left : ℕ) → IsUnlisted r.name id es fs → left + length r.log ≡ book → IsShardStored capacity old es book → IsShardStored capacity new fs left
  taken_keeps capacity es fs book left u less s = record {
    counted = omega (arith, book_left, s.counted, less);
    indexed = index_taken es fs old new id r t u s.indexed;
    lawful = All-tail IsRecordWithin r (values_of new) (All-permutation IsRecordWithin (values_of old) (r ∷ values_of new) values_left s.lawful);
    limited = omega (arith, shorter, s.limited);
    few = s.few;
  }

-- a conversation was closed
module _ (h : Holdings) (old new : Records) (id : ℕ) (closed : Closed) (x : IsClosedAt h old id closed new) (capacity : ℕ) (es : Listing) (book : ℕ) (s : IsShardStored capacity old es book) where
  -- its events are in the book
  pub closed_within : closed.events ≤ book
  closed_within = omega (arith, book_left old new id x.before x.taken, s.counted, x.events_are)

  pub close_keeps : (fs : Listing) (left : ℕ) → IsUnlisted closed.name id es fs → left ≡ book - closed.events → IsShardStored capacity new fs left
  close_keeps fs left unlisted less =
      let rest : left + length x.before.log ≡ book = omega (arith, closed_within, x.events_are, less) in
      taken_keeps old new id x.before x.taken capacity es fs book left (subst (λ (n : List (List ℕ)). IsUnlisted n id es fs) x.name_is unlisted) rest s
