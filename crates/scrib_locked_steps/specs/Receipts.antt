-- The comparison of receipts with a log (this project's own).
use Rattle.std.specs.Prelude.{◌≡◌, ℕ, zero, suc, ◌<◌, min, List, [], ◌∷◌, Option, Some, None, All, Contains, slice_get, option_to_list}
use Rattle.scrib_types.specs.declared.event.Event.{Event}
use Rattle.scrib_locked_steps.specs.declared.pass.Receipt.{Receipt}

-- the entry at a place of the log, from 1, alone; none if the log has no such place
abbrev pub entry_at : ℕ → List Event → List Event
entry_at zero log = []
entry_at (suc k) log = option_to_list (slice_get log k)

-- the receipt agrees with the log: its event is the entry at its place
abbrev pub AgreesWith : List Event → Receipt → Type 0
AgreesWith log r = entry_at r.place log ≡ r.event ∷ []

-- the least place of a receipt that differs from the log, or none if all agree
abbrev pub IsFirstMismatch : List Event → List Receipt → Option ℕ → Type 0
IsFirstMismatch log rs None = All (AgreesWith log) rs
IsFirstMismatch log rs (Some place) =
    ((r : Receipt) × Contains rs r × (r.place ≡ place) × (AgreesWith log r → ⊥))
    × All (λ r. r.place < place → AgreesWith log r) rs

-- the lesser of the two places, or the first if the second is missing
abbrev pub min_place : ℕ → Option ℕ → ℕ
min_place place None = place
min_place place (Some other) = min other place
