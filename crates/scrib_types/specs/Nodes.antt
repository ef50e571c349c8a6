-- The size and the height of a global type (this project's own).
use Rattle.std.specs.Prelude.{ℕ, ◌+◌, max}
use Rattle.scrib_types.specs.Trees.{GlobalTree, GlobalEnd, GlobalVar, GlobalRec, Comm, Flight, GlobalBranches, NoBranch, Branch}

-- an end, a variable, a recursion and a communication are a node each
abbrev mutual
  pub global_nodes : GlobalTree → ℕ
  global_nodes GlobalEnd = 1
  global_nodes (GlobalVar n) = 1
  global_nodes (GlobalRec g) = 1 + global_nodes g
  global_nodes (Comm p q bs) = 1 + branch_nodes bs
  global_nodes (Flight p q j bs) = 1 + branch_nodes bs

  pub branch_nodes : GlobalBranches → ℕ
  branch_nodes NoBranch = 0
  branch_nodes (Branch m g bs) = global_nodes g + branch_nodes bs

-- the nodes on the longest path from the type's root to an end or a variable, both counted
abbrev mutual
  pub global_height : GlobalTree → ℕ
  global_height GlobalEnd = 1
  global_height (GlobalVar n) = 1
  global_height (GlobalRec g) = 1 + global_height g
  global_height (Comm p q bs) = 1 + branch_height bs
  global_height (Flight p q j bs) = 1 + branch_height bs

  pub branch_height : GlobalBranches → ℕ
  branch_height NoBranch = 0
  branch_height (Branch m g bs) = max (global_height g) (branch_height bs)
