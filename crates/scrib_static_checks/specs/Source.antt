-- The statements of a protocol as pure trees, in the order of the text (Scribble Language Reference 0.3).
use Rattle.std.specs.Prelude.{ℕ, List}
use Rattle.scrib_types.specs.declared.message.Message.{Message}
use Rattle.scrib_types.specs.declared.spot.Spot.{Spot}

mutual
  -- the statements of a block
  pub data Body : Type 0 where
    Done : Body
    Then : Statement → Body → Body

  -- a statement, and the position of its first byte
  pub data Statement : Type 0 where
    Sends : Message → (sender : List ℕ) → (receivers : List (List ℕ)) → Spot → Statement
    Chooses : (chooser : List ℕ) → Blocks → Spot → Statement
    Repeats : (name : List ℕ) → Body → Spot → Statement
    Continues : (name : List ℕ) → Spot → Statement
    Calls : (path : List (List ℕ)) → (roles : List (List ℕ)) → Spot → Statement

  -- the blocks of a choice, and the positions of their opening braces
  pub data Blocks : Type 0 where
    NoBlock : Blocks
    OrBlock : Body → Spot → Blocks → Blocks
