-- The replies of the calls under the locks, and passes to the conversations of a shard (this project's own).
use Rattle.std.specs.Prelude.{◌≡◌, ℕ, List, [], IsSome, None}
use Rattle.scrib_types.specs.declared.event.Event.{Event}
use Rattle.scrib_types.specs.declared.event.Told.{Told}
use Rattle.scrib_library.specs.Holdings.{Holdings}
use Rattle.scrib_core.specs.declared.reply.Refusal.{Refusal}
use Rattle.scrib_core.specs.declared.reply.Refusal.TheVariants.{NoConversation}
use Rattle.scrib_core.specs.declared.reply.Reply.{Reply}
use Rattle.scrib_core.specs.declared.reply.Reply.TheVariants as reply
use Rattle.scrib_core.specs.Held.{Records, record_at}
use Rattle.scrib_core.specs.ConversationSteps.{IsOpened, OpenFails, IsNotedAt, NoteFails, IsTurnedAt, IsAskedAt, VerdictFails, IsClosedAt, CloseFails}
use Rattle.scrib_locked_steps.specs.Shards.{ShardHeld}
use Rattle.scrib_locked_steps.specs.Passes.{PassHeld}
use Rattle.scrib_locked_steps.specs.Openings.{opening_of}

-- the conversation is open, and its pass is of the present opening and has no receipt
abbrev pub IsConnected : ShardHeld → ℕ → PassHeld → Type 0
IsConnected s id p =
    IsSome (record_at s.records id)
    × (p ≡ record { conversation = id; opening = opening_of s.openings id; receipts = [] })

-- the pass is refused because the conversation is not open
abbrev pub ConnectFails : Records → ℕ → Refusal → Type 0
ConnectFails rs id NoConversation = record_at rs id ≡ None
ConnectFails rs id _ = ⊥

-- the record of the id makes a turn, with this verdict
abbrev pub IsTurnedFor : Holdings → Records → ℕ → Told → Records → Type 0
IsTurnedFor h old id answer new = (name : List (List ℕ)) × (events : ℕ) × IsTurnedAt h old id name events answer new

-- the verdict of the record of the id
abbrev pub IsAskedFor : Holdings → Records → ℕ → Told → Type 0
IsAskedFor h rs id answer = (name : List (List ℕ)) × (events : ℕ) × IsAskedAt h rs id name events answer

-- the reply to an opening, and the records after it; a refusal leaves them unchanged
abbrev pub AnswersOpen : (limit : ℕ) → Holdings → Records → ℕ → List (List ℕ) → Reply → Records → Type 0
AnswersOpen limit h old id name (reply.Opened i n) new = (i ≡ id) × (n ≡ name) × IsOpened limit h old id name new
AnswersOpen limit h old id name (reply.Refused f) new = OpenFails limit h old id name f × (new ≡ old)
AnswersOpen limit h old id name _ new = ⊥

-- the reply to a note, and the records after it
abbrev pub AnswersNote : Holdings → Records → ℕ → Event → Reply → Records → Type 0
AnswersNote h old id e (reply.Noted i place answer) new = (i ≡ id) × IsNotedAt h old id e place answer new
AnswersNote h old id e (reply.Refused f) new = NoteFails old id f × (new ≡ old)
AnswersNote h old id e _ new = ⊥

-- the reply to a turn, and the records after it
abbrev pub AnswersTurn : Holdings → Records → ℕ → Reply → Records → Type 0
AnswersTurn h old id (reply.Judged i name events answer) new = (i ≡ id) × IsTurnedAt h old id name events answer new
AnswersTurn h old id (reply.Refused f) new = VerdictFails old id f × (new ≡ old)
AnswersTurn h old id _ new = ⊥

-- the reply to a question
abbrev pub AnswersAsk : Holdings → Records → ℕ → Reply → Type 0
AnswersAsk h rs id (reply.Judged i name events answer) = (i ≡ id) × IsAskedAt h rs id name events answer
AnswersAsk h rs id (reply.Refused f) = VerdictFails rs id f
AnswersAsk h rs id _ = ⊥

-- the reply to a close, and the records after it
abbrev pub AnswersClose : Holdings → Records → ℕ → Reply → Records → Type 0
AnswersClose h old id (reply.Closed i name events verdict complete) new =
    (i ≡ id)
    × IsClosedAt h old id (record { name = name; events = events; verdict = verdict; complete = complete }) new
AnswersClose h old id (reply.Refused f) new = CloseFails old id f × (new ≡ old)
AnswersClose h old id _ new = ⊥
