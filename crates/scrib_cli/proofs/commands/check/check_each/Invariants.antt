use Rattle.std.proofs.Common.{ℕ, List, Option, Bool, ◌&&◌, drop}
use Rattle.scrib_core.specs.Answers.{State}
use Rattle.scrib_core.specs.Held.{state_of}
use Rattle.scrib_cli.specs.Commands.{AreChecked, ArePartChecked}
use Rattle.scrib_cli.proofs.commands.check.check_each.Given as goal

abbrev pub invariant-loop-path : goal.invariant-loop-path
invariant-loop-path g l = record {
  checked : (others : Bool) (after : State) (now : Option (List ℕ)) → AreChecked (g.F.Folder.text l.fn.folder) (drop l.path-index l.paths) (state_of l.core) others after (g.W.Write.contents l.writer) now
      → AreChecked (g.F.Folder.text l.fn.folder) l.paths (state_of l.fn.core) (l.accepted && others) after (g.W.Write.contents l.fn.writer) now;
  part : (now : Option (List ℕ)) → ArePartChecked (g.F.Folder.text l.fn.folder) (drop l.path-index l.paths) (state_of l.core) (g.W.Write.contents l.writer) now
      → ArePartChecked (g.F.Folder.text l.fn.folder) l.paths (state_of l.fn.core) (g.W.Write.contents l.fn.writer) now;
}
