use Rattle.std.proofs.Common.{List, drop}
use Rattle.scrib_tree.specs.declared.tree.ModuleTree.{ModuleTree}
use Rattle.scrib_library.specs.declared.fault.EditFault.{EditFault}
use Rattle.scrib_cli.specs.Projections.{AreAdded, FailsAmong, StopsUnread}
use Rattle.scrib_cli.proofs.modules.add_texts.Given as goal

abbrev pub invariant-loop-text : goal.invariant-loop-text
invariant-loop-text l = record {
  added : (after : List ModuleTree) → AreAdded l.modules (drop l.text-index l.texts) after → AreAdded l.fn.modules l.texts after;
  failed : (f : EditFault) → FailsAmong (drop l.text-index l.texts) f → FailsAmong l.texts f;
  unread : StopsUnread (drop l.text-index l.texts) → StopsUnread l.texts;
}
