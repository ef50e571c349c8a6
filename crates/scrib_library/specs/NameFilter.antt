-- Name filters: Bloom filters of 64 bits over names.
-- Only contracts of private functions cite this file.
use Rattle.std.specs.Prelude.{◌≡◌, ℕ, ◌^◌, bit_or, List, [], ◌∷◌, map, Contains}
use Rattle.std.specs.Borrow.{Bor}
use Rattle.std.specs.Int.{bit_at}
use Rattle.scrib_tree.specs.declared.tree.Import.{Import}
use Rattle.scrib_types.specs.Hashing.{hash_bytes, slot_of}
use Rattle.scrib_static_checks.specs.Names.{last_name}

-- the names that the references refer to
abbrev pub names_now : List (Bor (List (List ℕ))) → List (List (List ℕ))
names_now rs = map (λ (r : Bor (List (List ℕ))). r.now) rs

-- the filter bit of the name, by the hash of its last part
abbrev pub filter_bit : List (List ℕ) → ℕ
filter_bit name = slot_of (hash_bytes 0 (last_name name)) 64

-- the filter, extended by the bits of the imported modules' names
abbrev pub filter_from : (so_far : ℕ) → List Import → ℕ
filter_from s [] = s
filter_from s (i ∷ is) = filter_from (bit_or s (2 ^ filter_bit i.module)) is

-- the filter of the imported modules' names
abbrev pub filter_of : List Import → ℕ
filter_of is = filter_from 0 is

-- the filter has the bit of each imported module's name
abbrev pub IsNameFilter : List Import → ℕ → Type 0
IsNameFilter is s = (i : Import) → Contains is i → bit_at s (filter_bit i.module) ≡ 1

-- the filter has the bit of each of the names
abbrev pub IsFilterOfNames : List (List (List ℕ)) → ℕ → Type 0
IsFilterOfNames ns s = (n : List (List ℕ)) → Contains ns n → bit_at s (filter_bit n) ≡ 1

-- the filter lacks the bit
abbrev pub LacksBit : (name_filter bit : ℕ) → Type 0
LacksBit s b = bit_at s b ≡ 0
