-- What reporting keeps of each open conversation (this project's own).
use Rattle.std.specs.Prelude.{◌≡◌, ℕ, ◌-◌, List, [], ◌∷◌, ◌++◌, Option, Some, None, cond, nat_eq, slice_get, unwrap_or}
use Rattle.std.specs.Map.{lookup}
use Rattle.scrib_reported.specs.declared.kept.KeptConversation.{KeptConversation}
use Rattle.scrib_reported.specs.declared.kept.KeptConversations.{KeptConversations}

-- no event has a line, and no offence was reported
abbrev pub nothing_kept : KeptConversation
nothing_kept = record { lines = []; offence = None }

-- what is kept of each conversation: the line of each of its events, and the offence that was reported last
abbrev pub Keeping : Type 0
Keeping = ℕ → KeptConversation

-- what is kept where there is an entry, and nothing where there is none
abbrev pub kept_or_nothing : Option KeptConversation → KeptConversation
kept_or_nothing None = nothing_kept
kept_or_nothing (Some k) = k

-- what the table keeps of a conversation
abbrev pub keeping : KeptConversations → Keeping
keeping k id = kept_or_nothing (lookup (nat_eq id) k.table.entries)

-- the place in the table is that of the conversation
abbrev pub IsKeptAt : KeptConversations → (place id : ℕ) → Type 0
IsKeptAt k place id = (kept : KeptConversation) × (slice_get k.table.entries place ≡ Some (id, kept))

-- the same with the line of one more event
abbrev pub with_line : KeptConversation → (line : ℕ) → KeptConversation
with_line k line = record { lines = k.lines ++ line ∷ []; offence = k.offence }

-- the line of the event at this place, from 1; 0 of an event without a line
abbrev pub line_at : List ℕ → (place : ℕ) → ℕ
line_at lines place = unwrap_or (slice_get lines (place - 1)) 0

-- this is kept of the conversation now, and of each other what was kept before
abbrev pub IsKept : (old : Keeping) → (id : ℕ) → (now : KeptConversation) → (new : Keeping) → Type 0
IsKept old id now new = (i : ℕ) → new i ≡ cond (nat_eq id i) now (old i)
