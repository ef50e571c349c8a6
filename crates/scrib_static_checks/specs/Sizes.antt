-- The size of a protocol's type, computed from its statements (this project's own).
use Rattle.std.specs.Prelude.{◌≡◌, ◌⊎◌, ℕ, ◌+◌, ◌-◌, ◌<◌, max, List, length, Some, if◌then◌else◌}
use Rattle.scrib_types.specs.declared.message.Message.{Message}
use Rattle.scrib_types.specs.declared.spot.Spot.{Spot}
use Rattle.scrib_tree.specs.declared.tree.ModuleTree.{ModuleTree}
use Rattle.scrib_static_checks.specs.Source.{Body, Done, Then, Sends, Chooses, Repeats, Continues, Calls, Blocks, NoBlock, OrBlock}
use Rattle.scrib_static_checks.specs.SourceView.{body_of}
use Rattle.scrib_static_checks.specs.Names.{Declaration, called}
use Rattle.scrib_static_checks.specs.Elaboration.{continues_in}

mutual
  -- The size of statements of this protocol, from the size of what follows them. It is the number of nodes if the
  -- blocks of a choice are combined by the sum, and the height if by the maximum.
  pub data Size (both : ℕ → ℕ → ℕ) (modules : List ModuleTree) : Declaration → Body → (follows size : ℕ) → Type 0 where
    size_done : {d : Declaration} {k : ℕ} → Size both modules d Done k k
    size_sends : {d : Declaration} {m : Message} {p : List ℕ} {qs : List (List ℕ)} {s : Spot} {b : Body} {k n r : ℕ}
        → Size both modules d b k n → r ≡ length qs + n → Size both modules d (Then (Sends m p qs s) b) k r
    size_chooses : {d : Declaration} {p : List ℕ} {bs : Blocks} {s : Spot} {b : Body} {k n t r : ℕ}
        → Size both modules d b k n → SizeOfBlocks both modules d bs n t → r ≡ 1 + t
        → Size both modules d (Then (Chooses p bs s) b) k r
    size_repeats : {d : Declaration} {x : List ℕ} {c : Body} {s : Spot} {b : Body} {k n t r : ℕ}
        → Size both modules d b k n → Size both modules d c n t → r ≡ (if continues_in x c then 1 + t else t)
        → Size both modules d (Then (Repeats x c s) b) k r
    size_continues : {d : Declaration} {x : List ℕ} {s : Spot} {b : Body} {k : ℕ}
        → Size both modules d (Then (Continues x s) b) k 1
    size_calls : {d : Declaration} {path roles : List (List ℕ)} {s : Spot} {b : Body} {c : Declaration} {k n r : ℕ}
        → Size both modules d b k n → called modules d.home path ≡ Some c
        → Size both modules c (body_of c.protocol.body) n r
        → Size both modules d (Then (Calls path roles s) b) k r

  -- the blocks of a choice combined, each without the communication that they share
  pub data SizeOfBlocks (both : ℕ → ℕ → ℕ) (modules : List ModuleTree) : Declaration → Blocks → (follows together : ℕ)
      → Type 0 where
    size_none : {d : Declaration} {k : ℕ} → SizeOfBlocks both modules d NoBlock k 0
    size_or : {d : Declaration} {b : Body} {s : Spot} {bs : Blocks} {k n t r : ℕ}
        → Size both modules d b k n → SizeOfBlocks both modules d bs k t → r ≡ both (n - 1) t
        → SizeOfBlocks both modules d (OrBlock b s bs) k r

-- the protocol's type would have so many nodes
abbrev pub NodesOf : List ModuleTree → Declaration → ℕ → Type 0
NodesOf modules d n = Size ◌+◌ modules d (body_of d.protocol.body) 1 n

-- the longest path of the protocol's type would have so many nodes
abbrev pub HeightOf : List ModuleTree → Declaration → ℕ → Type 0
HeightOf modules d n = Size max modules d (body_of d.protocol.body) 1 n

-- the protocol's type would have more than 65,536 nodes, or more than 4,096 on a path
abbrev pub IsTooLarge : List ModuleTree → Declaration → Type 0
IsTooLarge modules d =
    ((n : ℕ) × NodesOf modules d n × (65536 < n)) ⊎ ((n : ℕ) × HeightOf modules d n × (4096 < n))
