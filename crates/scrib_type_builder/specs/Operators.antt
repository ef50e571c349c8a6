-- How branches are found by their operators (this project's own).
use Rattle.std.specs.Prelude.{◌≡◌, ◌≢◌, ℕ, ◌<◌, ◌≤◌, List, length, slice_get, Option, Some, None}
use Rattle.scrib_types.specs.declared.message.Message.{Message}
use Rattle.scrib_types.specs.declared.global.GlobalType.{GlobalType}
use Rattle.scrib_types.specs.Hashing.{hash_bytes, slot_of}

-- the slot of an operator, out of `size`
abbrev pub operator_slot : (size : ℕ) → Option (List ℕ) → ℕ
operator_slot size None = 0
operator_slot size (Some name) = slot_of (hash_bytes 0 name) size

-- the last branch before this index whose operator has the slot, or none
abbrev pub IsLatest : List (Message × GlobalType) → (size slot before : ℕ) → Option ℕ → Type 0
IsLatest bs size s n None =
    (j : ℕ) (b : Message × GlobalType) → slice_get bs j ≡ Some b → j < n → operator_slot size b.0.op ≢ s
IsLatest bs size s n (Some k) =
    (k < n) × ((b : Message × GlobalType) → slice_get bs k ≡ Some b → operator_slot size b.0.op ≡ s)
    × ((j : ℕ) (b : Message × GlobalType) → slice_get bs j ≡ Some b → k < j → j < n → operator_slot size b.0.op ≢ s)

-- Each slot has the last of the first n branches that hashes to it. Each of these has the one before it in its slot.
pub record AreChained (bs : List (Message × GlobalType)) (n : ℕ) (latest earlier : List (Option ℕ)) : Type 0 where
  pub within : n ≤ length bs
  pub counted : length earlier ≡ n
  pub last : (s : ℕ) (o : Option ℕ) → slice_get latest s ≡ Some o → IsLatest bs (length latest) s n o
  pub linked : (i : ℕ) (b : Message × GlobalType) (o : Option ℕ) → slice_get bs i ≡ Some b
      → slice_get earlier i ≡ Some o → IsLatest bs (length latest) (operator_slot (length latest) b.0.op) i o

-- where there are slots, all branches are in the index
abbrev pub AreIndexed : List (Message × GlobalType) → (latest earlier : List (Option ℕ)) → Type 0
AreIndexed bs latest earlier = 0 < length latest → AreChained bs (length bs) latest earlier
