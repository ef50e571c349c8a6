-- Where a statement begins, by its form.
use Rattle.std.proofs.Common.{◌≡◌, ℕ, List, ap}
use Rattle.scrib_types.specs.declared.message.Message.{Message}
use Rattle.scrib_types.specs.declared.spot.Spot.{Spot}
use Rattle.scrib_tree.specs.declared.tree.Statement as tree
use Rattle.scrib_tree.specs.declared.tree.Statement.{Statement}
use Rattle.scrib_tree.specs.declared.tree.Block.{Block}
use Rattle.scrib_static_checks.specs.SourceView.{statement_of, message_of, choice_of, rec_of, continue_of, do_of}
use Rattle.scrib_static_checks.specs.Faults.{spot_of}

pub spot-message : (m : Message) (p : List ℕ) (qs : List (List ℕ)) (s : Spot) → spot_of (statement_of (tree.Message m p qs s)) ≡ s
spot-message m p qs s = ap spot_of (message_of m p qs s)

pub spot-choice : (p : List ℕ) (bs : List Block) (s : Spot) → spot_of (statement_of (tree.Choice p bs s)) ≡ s
spot-choice p bs s = ap spot_of (choice_of p bs s)

pub spot-rec : (x : List ℕ) (ss : List Statement) (s : Spot) → spot_of (statement_of (tree.Rec x ss s)) ≡ s
spot-rec x ss s = ap spot_of (rec_of x ss s)

pub spot-continue : (x : List ℕ) (s : Spot) → spot_of (statement_of (tree.Continue x s)) ≡ s
spot-continue x s = ap spot_of (continue_of x s)

pub spot-do : (path qs : List (List ℕ)) (s : Spot) → spot_of (statement_of (tree.Do path qs s)) ≡ s
spot-do path qs s = ap spot_of (do_of path qs s)

pub ruleset spots_of = (spot-message, spot-choice, spot-rec, spot-continue, spot-do)
