-- How an index of declared protocols finds one by name (this project's own). Only contracts of this crate, the
-- invariant of `Modules`, and private functions of `scrib_elaborate` cite this file.
use Rattle.std.specs.Prelude.{◌≡◌, ◌⊎◌, ℕ, zero, suc, ◌+◌, ◌<◌, nat_lt, if◌then◌else◌, List, [], length, slice_get, slice_set, Option, Some, None}
use Rattle.scrib_types.specs.Hashing.{hash_bytes, hash_names, slot_of}
use Rattle.scrib_static_checks.specs.Names.{Declaration}

-- the slot, out of `size`, of the protocol of this name in the module of this name
abbrev pub protocol_slot : (size : ℕ) → (home : List (List ℕ)) (name : List ℕ) → ℕ
protocol_slot size home name = slot_of (hash_names (hash_bytes 0 name) home) size

-- the slot, out of `size`, of the declared protocol
abbrev pub slot_for : (size : ℕ) → Declaration → ℕ
slot_for size d = protocol_slot size d.home.name d.protocol.name

-- the slot after this one, out of `size`; the first comes after the last
abbrev pub next_slot : (size slot : ℕ) → ℕ
next_slot size s = if nat_lt (s + 1) size then s + 1 else 0

-- the slot that is this number of steps after this one (linear probing: Knuth, The Art of Computer Programming 3, 6.4)
abbrev pub probed : (size slot steps : ℕ) → ℕ
probed size s zero = s
probed size s (suc n) = next_slot size (probed size s n)

-- a search that begins at this slot comes to the protocol at this place, and before it only to protocols at smaller
-- places
pub record IsReached (slots : List (Option ℕ)) (size slot place : ℕ) : Type 0 where
  pub steps : ℕ
  pub there : slice_get slots (probed size slot steps) ≡ Some (Some place)
  pub before : (n : ℕ) → n < steps → (k : ℕ) × (slice_get slots (probed size slot n) ≡ Some (Some k)) × (k < place)

-- where there are slots, a search reaches each protocol from its own slot
abbrev pub IsProtocolIndex : List Declaration → List (Option ℕ) → Type 0
IsProtocolIndex ds slots = 0 < length slots → (k : ℕ) (d : Declaration) → slice_get ds k ≡ Some d
    → IsReached slots (length slots) (slot_for (length slots) d) k

-- The slots are filled for the first n protocols: a search reaches each of them, and the slots have no others.
pub record IsFilled (ds : List Declaration) (size n : ℕ) (slots : List (Option ℕ)) : Type 0 where
  pub long : length slots ≡ size
  pub within : (s k : ℕ) → slice_get slots s ≡ Some (Some k) → k < n
  pub reached : (k : ℕ) (d : Declaration) → slice_get ds k ≡ Some d → k < n
      → IsReached slots size (slot_for size d) k

-- where there are slots, they are filled for all these protocols, and n is their number
abbrev pub IsIndexed : List Declaration → (slots : List (Option ℕ)) → (indexed : ℕ) → Type 0
IsIndexed ds slots n = 0 < length slots → IsFilled ds (length slots) (length ds) slots × (n ≡ length ds)

-- the first `steps` slots from this one on are taken
abbrev pub AreTaken : List (Option ℕ) → (size slot steps : ℕ) → Type 0
AreTaken slots size s n = (m : ℕ) → m < n → (k : ℕ) × (slice_get slots (probed size s m) ≡ Some (Some k))

-- `free` is the first free slot from this one on
pub record IsFirstFree (slots : List (Option ℕ)) (size slot free : ℕ) : Type 0 where
  pub steps : ℕ
  pub at : free ≡ probed size slot steps
  pub empty : slice_get slots free ≡ Some None
  pub before : AreTaken slots size slot steps

-- The first free slot from this one on contains the protocol at this place, and the others are unchanged. Or there are
-- no slots any more.
abbrev pub IsSlotTaken : List (Option ℕ) → (place slot : ℕ) → List (Option ℕ) → Type 0
IsSlotTaken before k s after =
    ((free : ℕ) × IsFirstFree before (length before) s free × (after ≡ slice_set before free (Some k))) ⊎ (after ≡ [])
