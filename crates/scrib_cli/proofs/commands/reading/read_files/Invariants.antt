use Rattle.std.proofs.Common.{List, Option, ◌++◌, drop}
use Rattle.scrib_cli.specs.Commands.{AreRead}
use Rattle.scrib_cli.proofs.commands.reading.read_files.Given as goal

abbrev pub invariant-loop-path : goal.invariant-loop-path
invariant-loop-path g l = (texts : List (Option (List _))) → AreRead (g.F.Folder.text l.fn.folder) (drop l.path-index l.paths) texts → AreRead (g.F.Folder.text l.fn.folder) l.paths (l.texts.items ++ texts)
