-- The numbers of openings, which tell a conversation from an earlier one of the same id (this project's own).
use Rattle.std.specs.Prelude.{◌≡◌, ◌≢◌, ℕ, ◌+◌, Bool, nat_eq, List, [], cond, unwrap_or}
use Rattle.std.specs.Map.{lookup}
use Rattle.scrib_core.specs.Held.{Records}
use Rattle.scrib_locked_steps.specs.Passes.{PassHeld}
use Rattle.scrib_locked_steps.specs.Shards.{ShardHeld}

-- the number of the opening of the id, or 0 where the id isn't open; numbers begin with 1
abbrev pub opening_of : List (ℕ × ℕ) → ℕ → ℕ
opening_of openings id = unwrap_or (lookup (nat_eq id) openings) 0

-- the pass was made for the present opening of its conversation
abbrev pub is_current : List (ℕ × ℕ) → PassHeld → Bool
is_current openings p = nat_eq (opening_of openings p.conversation) p.opening

-- the records that the pass may use: all, or none where the pass isn't of the present opening
abbrev pub records_for : ShardHeld → PassHeld → Records
records_for s p = cond (is_current s.openings p) s.records []

-- the opening of the id has the next number, and those of other ids keep theirs
pub record IsNumbered (old : List (ℕ × ℕ)) (opened id : ℕ) (new : List (ℕ × ℕ)) (now : ℕ) : Type 0 where
  pub counted : now ≡ opened + 1
  pub own : opening_of new id ≡ now
  pub others : (i : ℕ) → i ≢ id → opening_of new i ≡ opening_of old i

-- the id isn't open any more, and the openings of other ids keep their numbers
pub record IsUnnumbered (old : List (ℕ × ℕ)) (id : ℕ) (new : List (ℕ × ℕ)) : Type 0 where
  pub own : opening_of new id ≡ 0
  pub others : (i : ℕ) → i ≢ id → opening_of new i ≡ opening_of old i

-- the same openings, with the same numbers
abbrev pub HasSameOpenings : (old new : ShardHeld) → Type 0
HasSameOpenings old new = (new.openings ≡ old.openings) × (new.opened ≡ old.opened)
