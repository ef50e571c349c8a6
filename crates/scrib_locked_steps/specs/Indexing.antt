-- The index of a shard, from protocol names to conversations (this project's own).
use Rattle.std.specs.Prelude.{◌≡◌, ℕ, true, false, nat_eq, List, [], ◌∷◌, ◌++◌, cond, Option, Some, None, Contains, IsPermutation, Vec}
use Rattle.std.specs.declared.alloc.Global.{Global}
use Rattle.std.specs.List.{IsDistinct, flat_map}
use Rattle.std.specs.Map.{lookup}
use Rattle.std.specs.Hash as fed
use Rattle.scrib_static_checks.specs.Names.{dotted_eq}
use Rattle.scrib_static_checks.proofs.NameLemmas.{dotted_eq-Decides}
use Rattle.scrib_record.specs.Stale.{Recorded}
use Rattle.scrib_core.specs.Held.{Records, record_at}
use Rattle.scrib_locked_steps.specs.declared.index.ProtocolName.{ProtocolName}

-- the name of a key
abbrev pub key_name : ProtocolName → List (List ℕ)
key_name k = k.name

-- the contents of an index: lists of ids, by name
abbrev pub Listing : Type 0
Listing = List (ProtocolName × Vec ℕ Global)

-- the ids found under a name
abbrev pub ids_in : Option (Vec ℕ Global) → List ℕ
ids_in None = []
ids_in (Some ids) = ids.items

-- the ids that the index lists under the name
abbrev pub listed_ids : List (List ℕ) → Listing → List ℕ
listed_ids name es = ids_in (lookup (λ k. dotted_eq name k.name) es)

-- the id alone if the names are equal, else none
abbrev pub only_under : List (List ℕ) → List (List ℕ) → ℕ → List ℕ
only_under name n id = cond (dotted_eq n name) (id ∷ []) []

-- the id is added to the list of the name, last
abbrev pub IsListed : List (List ℕ) → ℕ → (old new : Listing) → Type 0
IsListed name id old new = (n : List (List ℕ)) → listed_ids n new ≡ listed_ids n old ++ only_under name n id

-- the ids are those of the protocol's conversations, each once, in any order
pub record AreIdsOf (name : List (List ℕ)) (rs : Records) (ids : List ℕ) : Type 0 where
  pub once : IsDistinct nat_eq ids
  pub only : (id : ℕ) → Contains ids id → (r : Recorded) × (record_at rs id ≡ Some r) × (name ≡ r.name)
  pub all : (id : ℕ) (r : Recorded) → record_at rs id ≡ Some r → name ≡ r.name → Contains ids id

-- the index lists exactly the records by name
abbrev pub IsIndex : Listing → Records → Type 0
IsIndex es rs = (name : List (List ℕ)) → AreIdsOf name rs (listed_ids name es)

-- the id is taken out of the list of the name, if it is there, and the other lists stay
pub record IsUnlisted (name : List (List ℕ)) (id : ℕ) (old new : Listing) : Type 0 where
  pub taken : Contains (listed_ids name old) id → IsPermutation (listed_ids name old) (id ∷ listed_ids name new)
  pub others : (n : List (List ℕ)) → dotted_eq name n ≡ false → listed_ids n new ≡ listed_ids n old

-- equal names have equal hashes
pub same_named : (a b : ProtocolName) → dotted_eq a.name b.name ≡ true
    → flat_map (fed.slice fed.u8) a.name ≡ flat_map (fed.slice fed.u8) b.name
same_named a b t i = flat_map (fed.slice fed.u8) ((dotted_eq-Decides a.name b.name).0 t i)
