-- How the sizes of statements depend on those of what follows them (this project's own). Sizes are counted less one
-- here, and compared below a cap alone: 65,536 for nodes, and 4,096 for heights. Only contracts of this crate, and of
-- private functions of `scrib_elaborate`, cite this file.
use Rattle.std.specs.Prelude.{◌≡◌, ℕ, ◌+◌, ◌*◌, min, max, List, Option, Some, None}
use Rattle.scrib_tree.specs.declared.tree.ModuleTree.{ModuleTree}
use Rattle.scrib_static_checks.specs.declared.size_bound.NodeCount.{NodeCount}
use Rattle.scrib_static_checks.specs.declared.size_bound.Height.{Height}
use Rattle.scrib_static_checks.specs.declared.size_bound.SizeBound.{SizeBound}
use Rattle.scrib_static_checks.specs.Source.{Body, Then, Statement, Blocks}
use Rattle.scrib_static_checks.specs.Names.{Declaration}
use Rattle.scrib_static_checks.specs.Sizes.{Size, SizeOfBlocks}

-- the two are equal, or both are at least the cap
abbrev pub Agree : (cap n m : ℕ) → Type 0
Agree cap n m = min cap n ≡ min cap m

-- the number of nodes less one, where that of what follows is k
abbrev pub nodes_at : NodeCount → ℕ → ℕ
nodes_at g k = g.base + g.times * k

-- the given number plus the number of what follows, or 0 where no path leads to what follows
abbrev pub passed : Option ℕ → ℕ → ℕ
passed None k = 0
passed (Some n) k = n + k

-- the height less one, where that of what follows is k
abbrev pub height_at : Height → ℕ → ℕ
height_at r k = max r.deepest (passed r.through k)

-- the size of a block, of a statement, and of the blocks of a choice is this function of the size of what follows

abbrev pub BlockSize : (cap : ℕ) → (ℕ → ℕ → ℕ) → List ModuleTree → Declaration → Body → (ℕ → ℕ) → Type 0
BlockSize cap both modules d b f = (k : ℕ) → (n : ℕ) × Size both modules d b (k + 1) (n + 1) × Agree cap n (f k)

abbrev pub StatementSize : (cap : ℕ) → (ℕ → ℕ → ℕ) → List ModuleTree → Declaration → Statement → (ℕ → ℕ) → Type 0
StatementSize cap both modules d s f =
    (k : ℕ) → (n : ℕ) × Agree cap n (f k) × ((b : Body) (j : ℕ) → Size both modules d b j (k + 1)
    → Size both modules d (Then s b) j (n + 1))

abbrev pub BlocksSize : (cap : ℕ) → (ℕ → ℕ → ℕ) → List ModuleTree → Declaration → Blocks → (ℕ → ℕ) → Type 0
BlocksSize cap both modules d bs f = (k : ℕ) → (n : ℕ) × SizeOfBlocks both modules d bs (k + 1) n × Agree cap n (f k)

-- the nodes and the height are these functions of those of what follows

pub record BlockHasSize (modules : List ModuleTree) (d : Declaration) (b : Body) (e : SizeBound) : Type 0 where
  pub nodes : BlockSize 65536 ◌+◌ modules d b (nodes_at e.nodes)
  pub height : BlockSize 4096 max modules d b (height_at e.height)

pub record StatementHasSize (modules : List ModuleTree) (d : Declaration) (s : Statement) (e : SizeBound) : Type 0 where
  pub nodes : StatementSize 65536 ◌+◌ modules d s (nodes_at e.nodes)
  pub height : StatementSize 4096 max modules d s (height_at e.height)

pub record BlocksHaveSize (modules : List ModuleTree) (d : Declaration) (bs : Blocks) (e : SizeBound) : Type 0 where
  pub nodes : BlocksSize 65536 ◌+◌ modules d bs (nodes_at e.nodes)
  pub height : BlocksSize 4096 max modules d bs (height_at e.height)

-- one of these followed by another, and two beside each other

-- below the cap, the third function is the first after the second
abbrev pub IsComposed : (cap : ℕ) → (outer inner all : ℕ → ℕ) → Type 0
IsComposed cap f g h = (k m n : ℕ) → Agree cap m (g k) → Agree cap n (f m) → Agree cap n (h k)

-- below the cap, the third function combines the first and the second
abbrev pub IsCombined : (cap : ℕ) → (ℕ → ℕ → ℕ) → (one other all : ℕ → ℕ) → Type 0
IsCombined cap both f g h = (k m n : ℕ) → Agree cap m (f k) → Agree cap n (g k) → Agree cap (both m n) (h k)

-- the third bound is that of the first followed by the second
pub record AreComposed (outer inner all : SizeBound) : Type 0 where
  pub nodes : IsComposed 65536 (nodes_at outer.nodes) (nodes_at inner.nodes) (nodes_at all.nodes)
  pub height : IsComposed 4096 (height_at outer.height) (height_at inner.height) (height_at all.height)

-- the third bound is that of the first beside the second
pub record AreJoined (one other all : SizeBound) : Type 0 where
  pub nodes : IsCombined 65536 ◌+◌ (nodes_at one.nodes) (nodes_at other.nodes) (nodes_at all.nodes)
  pub height : IsCombined 4096 max (height_at one.height) (height_at other.height) (height_at all.height)

-- so many nodes one under another, and a node that nothing follows

-- the bound is that of so many nodes one under another, and then what follows
pub record IsRow (count : ℕ) (e : SizeBound) : Type 0 where
  pub nodes : (k : ℕ) → Agree 65536 (count + k) (nodes_at e.nodes k)
  pub height : (k : ℕ) → Agree 4096 (count + k) (height_at e.height k)

-- the bound is that of one node that nothing follows
pub record IsEnd (e : SizeBound) : Type 0 where
  pub nodes : (k : ℕ) → Agree 65536 0 (nodes_at e.nodes k)
  pub height : (k : ℕ) → Agree 4096 0 (height_at e.height k)
