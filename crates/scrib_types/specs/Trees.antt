-- Global and local types as pure trees (Honda, Yoshida and Carbone, POPL 2008). A variable counts the
-- recursions between it and its own. A flight is a communication of which branch j, from 0, was sent and not yet
-- received. It occurs in the states of runs alone, not in global types (Deniélou and Yoshida, ICALP 2013).
use Rattle.std.specs.Prelude.{ℕ, List}
use Rattle.scrib_types.specs.declared.message.Message.{Message}

mutual
  pub data GlobalTree : Type 0 where
    GlobalEnd : GlobalTree
    GlobalVar : ℕ → GlobalTree
    GlobalRec : GlobalTree → GlobalTree
    Comm : (sender receiver : List ℕ) → GlobalBranches → GlobalTree
    Flight : (sender receiver : List ℕ) → ℕ → GlobalBranches → GlobalTree

  pub data GlobalBranches : Type 0 where
    NoBranch : GlobalBranches
    Branch : Message → GlobalTree → GlobalBranches → GlobalBranches

mutual
  pub data LocalTree : Type 0 where
    LocalEnd : LocalTree
    LocalVar : ℕ → LocalTree
    LocalRec : LocalTree → LocalTree
    Send : List ℕ → LocalBranches → LocalTree
    Recv : List ℕ → LocalBranches → LocalTree

  pub data LocalBranches : Type 0 where
    NoChoice : LocalBranches
    Choice : Message → LocalTree → LocalBranches → LocalBranches
