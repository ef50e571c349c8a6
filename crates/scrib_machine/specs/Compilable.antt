-- The local types that have a machine. The projections of protocols do.
use Rattle.std.specs.Prelude.{◌≢◌, ℕ, ◌+◌, ◌<◌, ◌≤◌}
use Rattle.scrib_types.specs.declared.message.Message.{Message}
use Rattle.scrib_types.specs.Trees.{LocalTree, LocalEnd, LocalVar, LocalRec, Send, Recv, LocalBranches, NoChoice, Choice}

-- closed under n recursions: each variable is that of a recursion in the type or of one of n enclosing ones
abbrev mutual
  pub Closed : LocalTree → ℕ → Type 0
  Closed LocalEnd n = Unit {0}
  Closed (LocalVar k) n = k < n
  Closed (LocalRec body) n = Closed body (n + 1)
  Closed (Send q ls) n = ClosedAll ls n
  Closed (Recv p ls) n = ClosedAll ls n

  pub ClosedAll : LocalBranches → ℕ → Type 0
  ClosedAll NoChoice n = Unit {0}
  ClosedAll (Choice m l ls) n = Closed l n × ClosedAll ls n

-- a choice follows its leading recursions
abbrev pub LeadsToChoice : LocalTree → Type 0
LeadsToChoice (LocalRec body) = LeadsToChoice body
LeadsToChoice (Send q ls) = Unit {0}
LeadsToChoice (Recv p ls) = Unit {0}
LeadsToChoice _ = ⊥

-- guarded (Honda, Yoshida and Carbone, POPL 2008): in each recursion a choice follows the leading recursions
abbrev mutual
  pub Guarded : LocalTree → Type 0
  Guarded LocalEnd = Unit {0}
  Guarded (LocalVar k) = Unit {0}
  Guarded (LocalRec body) = LeadsToChoice body × Guarded body
  Guarded (Send q ls) = GuardedAll ls
  Guarded (Recv p ls) = GuardedAll ls

  pub GuardedAll : LocalBranches → Type 0
  GuardedAll NoChoice = Unit {0}
  GuardedAll (Choice m l ls) = Guarded l × GuardedAll ls

-- no branch has the message
abbrev pub Lacks : Message → LocalBranches → Type 0
Lacks m NoChoice = Unit {0}
Lacks m (Choice n l ls) = (m ≢ n) × Lacks m ls

-- no two branches have the same message
abbrev pub Differ : LocalBranches → Type 0
Differ NoChoice = Unit {0}
Differ (Choice m l ls) = Lacks m ls × Differ ls

-- the messages of each choice differ
abbrev mutual
  pub Distinct : LocalTree → Type 0
  Distinct LocalEnd = Unit {0}
  Distinct (LocalVar k) = Unit {0}
  Distinct (LocalRec body) = Distinct body
  Distinct (Send q ls) = Differ ls × DistinctAll ls
  Distinct (Recv p ls) = Differ ls × DistinctAll ls

  pub DistinctAll : LocalBranches → Type 0
  DistinctAll NoChoice = Unit {0}
  DistinctAll (Choice m l ls) = Distinct l × DistinctAll ls

-- the number of its ends, variables, recursions and choices
abbrev mutual
  pub nodes : LocalTree → ℕ
  nodes LocalEnd = 1
  nodes (LocalVar k) = 1
  nodes (LocalRec body) = nodes body + 1
  nodes (Send q ls) = nodes_all ls + 1
  nodes (Recv p ls) = nodes_all ls + 1

  pub nodes_all : LocalBranches → ℕ
  nodes_all NoChoice = 0
  nodes_all (Choice m l ls) = nodes l + nodes_all ls

-- the most nodes of a type that has a machine (this project's own)
abbrev pub max_nodes : ℕ
max_nodes = 65536

-- closed, guarded, with different messages in each choice, and not too large
pub record IsCompilable (l : LocalTree) : Type 0 where
  pub closed : Closed l 0
  pub guarded : Guarded l
  pub distinct : Distinct l
  pub small : nodes l ≤ max_nodes
