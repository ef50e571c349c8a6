-- Hashes of bytes and names, and the slots of hash tables (this project's own).
use Rattle.std.specs.Prelude.{ℕ, ◌*◌, ◌-◌, ◌/◌, ◌%◌, ◌^◌, bit_and, bit_xor, List, [], ◌∷◌}
use Rattle.std.specs.Int.{w32, w64, rotate_left, from_le_bytes}
use Rattle.scrib_types.specs.declared.hashing.TheConstants.{MULTIPLIER}

-- the hash with the word after it
abbrev pub mix : (hash word : ℕ) → ℕ
mix hash word = (bit_xor (rotate_left w64 hash 5) word * MULTIPLIER) % 2 ^ 64

-- four bytes as one number, the first one lowest
abbrev pub word_of : (a b c d : ℕ) → ℕ
word_of a b c d = from_le_bytes w32 (a ∷ b ∷ c ∷ d ∷ [])

-- the hash with the bytes after it, four at a time, where a byte 1 follows the last one to three
abbrev pub hash_bytes : (before : ℕ) → List ℕ → ℕ
hash_bytes h (a ∷ b ∷ c ∷ d ∷ bs) = hash_bytes (mix h (word_of a b c d)) bs
hash_bytes h (a ∷ b ∷ c ∷ []) = mix h (word_of a b c 1)
hash_bytes h (a ∷ b ∷ []) = mix h (word_of a b 1 0)
hash_bytes h (a ∷ []) = mix h (word_of a 1 0 0)
hash_bytes h [] = h

-- the hash with the bytes of the names after it
abbrev pub hash_names : (before : ℕ) → List (List ℕ) → ℕ
hash_names h [] = h
hash_names h (n ∷ ns) = hash_names (hash_bytes h n) ns

-- the slot of a value with this hash among `count` slots
abbrev pub slot_of : (hash count : ℕ) → ℕ
slot_of hash count = bit_and (hash / 2 ^ 32) (count - 1)
