-- The passes of a connection (this project's own).
use Rattle.std.specs.Prelude.{◌≡◌, ◌⊎◌, ℕ, List, [], map, nat_eq, unwrap_or}
use Rattle.std.specs.Map.{keys_of, lookup}
use Rattle.indexmap.specs.IndexMap.{IndexMap}
use Rattle.scrib_core.specs.declared.reply.Refusal.{Refusal}
use Rattle.scrib_core.specs.declared.reply.Refusal.TheVariants.{OutOfMemory}
use Rattle.scrib_locked_steps.specs.declared.pass_calls.PassRefusal.{PassRefusal}
use Rattle.scrib_locked_steps.specs.declared.pass_calls.PassRefusal.TheVariants.{Step}
use Rattle.scrib_locked_steps.specs.Passes.{PassHeld}
use Rattle.scrib_shards.specs.Called.{ConnectFailsSome, NoteFailsSome, AskFailsSome}

-- the conversation of a stored pass
abbrev pub conversation_id : ℕ × PassHeld → ℕ
conversation_id e = e.1.conversation

-- each pass is stored under the id of its own conversation
abbrev pub AreOwn : List (ℕ × PassHeld) → Type 0
AreOwn kept = map conversation_id kept ≡ keys_of kept

-- the pass that is stored under the id, or else a new one of its conversation, for the opening of this number
abbrev pub pass_for : (opening : ℕ) → List (ℕ × PassHeld) → ℕ → PassHeld
pass_for opening kept id =
    unwrap_or (lookup (nat_eq id) kept) (record { conversation = id; opening = opening; receipts = [] })

-- the pass after a call: the one that is stored under the id, or else a new one
abbrev pub pass_after : {S : Type 0} → IndexMap ℕ PassHeld S → ℕ → PassHeld
pass_after new id = pass_for 0 new.entries id

-- the pass before a call: the one that was stored under the id, or else a new one, for the opening of the pass that is
-- stored after it
abbrev pub pass_before : {S : Type 0} → (old new : IndexMap ℕ PassHeld S) → ℕ → PassHeld
pass_before old new id = pass_for (pass_after new id).opening old.entries id

-- no pass to the conversation was made for this: it is not open in some records, or memory was refused
abbrev pub IsUnconnected : ℕ → Refusal → Type 0
IsUnconnected id f = ConnectFailsSome id f ⊎ (f ≡ OutOfMemory)

-- a note by the pass is refused for this in some records, or no pass was made for it
abbrev pub IsNoteRefused : ℕ → PassHeld → PassRefusal → Type 0
IsNoteRefused id p f = NoteFailsSome p f ⊎ ((r : Refusal) × (f ≡ Step r) × IsUnconnected id r)

-- a question by the pass is refused for this in some records, or no pass was made for it
abbrev pub IsAskRefused : ℕ → PassHeld → PassRefusal → Type 0
IsAskRefused id p f = AskFailsSome p f ⊎ ((r : Refusal) × (f ≡ Step r) × IsUnconnected id r)
