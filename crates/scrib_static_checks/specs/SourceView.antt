-- The pure tree of a parsed statement.
use Rattle.std.specs.Prelude.{◌≡◌, ℕ, List, [], ◌∷◌, refl}
use Rattle.std.proofs.Common.{ap}
use Rattle.scrib_types.specs.declared.message.Message.{Message}
use Rattle.scrib_types.specs.declared.spot.Spot.{Spot}
use Rattle.scrib_tree.specs.declared.tree.Statement as tree
use Rattle.scrib_tree.specs.declared.tree.Statement.{Statement as ParsedStatement, Row_of-Statement, end_of-Statement, more_of-Statement, Row_of-Block, end_of-Block, more_of-Block}
use Rattle.scrib_tree.specs.declared.tree.Statement.TheBlock.{hidden-the_row-Statement-0, hidden-the_row-Block-1}
use Rattle.scrib_tree.specs.declared.tree.Block.{Block}
use denote.Hole.Carrier.{hidden}
use Rattle.scrib_static_checks.specs.Source.{Body, Done, Then, Statement, Sends, Chooses, Repeats, Continues, Calls, Blocks, NoBlock, OrBlock}

unfoldable mutual
  pub statement_of : ParsedStatement → Statement
  statement_of (tree.Message m p qs s) = Sends m p qs s
  statement_of (tree.Choice' p n row s) = Chooses p (blocks_in row) s
  statement_of (tree.Rec' x n row s) = Repeats x (body_in row) s
  statement_of (tree.Continue x s) = Continues x s
  statement_of (tree.Do path qs s) = Calls path qs s

  pub body_in : {n : _} → Row_of-Statement n → Body
  body_in end_of-Statement = Done
  body_in (more_of-Statement s rest) = Then (statement_of s) (body_in rest)

  pub blocks_in : {n : _} → Row_of-Block n → Blocks
  blocks_in end_of-Block = NoBlock
  blocks_in (more_of-Block n row s rest) = OrBlock (body_in row) s (blocks_in rest)

-- the pure tree of a list of statements, or of blocks
abbrev pub body_of : List ParsedStatement → Body
body_of [] = Done
body_of (s ∷ ss) = Then (statement_of s) (body_of ss)

-- the pure trees of a list of blocks
abbrev pub blocks_of : List Block → Blocks
blocks_of [] = NoBlock
blocks_of (b ∷ bs) = OrBlock (body_of b.body) b.spot (blocks_of bs)

unfoldable body_at : Statement → Body
body_at (Sends m p qs s) = Done
body_at (Chooses p bs s) = Done
body_at (Repeats x b s) = b
body_at (Continues x s) = Done
body_at (Calls path qs s) = Done

unfoldable blocks_at : Statement → Blocks
blocks_at (Sends m p qs s) = NoBlock
blocks_at (Chooses p bs s) = bs
blocks_at (Repeats x b s) = NoBlock
blocks_at (Continues x s) = NoBlock
blocks_at (Calls path qs s) = NoBlock

pub rec_of : (x : List ℕ) (ss : List ParsedStatement) (s : Spot)
    → statement_of (tree.Rec x ss s) ≡ Repeats x (body_of ss) s
unfolding hidden-the_row-Statement-0 hidden statement_of body_in blocks_in body_at
rec_of x [] s = refl
rec_of x (t ∷ ss) s = ap (λ r. Repeats x (Then (statement_of t) (body_at r)) s) (rec_of x ss s)

pub choice_of : (p : List ℕ) (bs : List Block) (s : Spot)
    → statement_of (tree.Choice p bs s) ≡ Chooses p (blocks_of bs) s
unfolding hidden-the_row-Block-1 hidden-the_row-Statement-0 hidden statement_of body_in blocks_in body_at blocks_at
choice_of p [] s = refl
choice_of p (b ∷ bs) s =
    λ i. Chooses p (OrBlock (body_at (rec_of p b.body s i)) b.spot (blocks_at (choice_of p bs s i))) s

pub message_of : (m : Message) (p : List ℕ) (qs : List (List ℕ)) (s : Spot)
    → statement_of (tree.Message m p qs s) ≡ Sends m p qs s
unfolding statement_of
message_of m p qs s = refl

pub continue_of : (x : List ℕ) (s : Spot) → statement_of (tree.Continue x s) ≡ Continues x s
unfolding statement_of
continue_of x s = refl

pub do_of : (path qs : List (List ℕ)) (s : Spot) → statement_of (tree.Do path qs s) ≡ Calls path qs s
unfolding statement_of
do_of path qs s = refl

-- the equation for each form of statement
pub ruleset statement_views = (message_of, choice_of, rec_of, continue_of, do_of)
