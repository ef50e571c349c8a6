use Rattle.std.proofs.Common.{sym, ◌∙◌}
use Rattle.scrib_elaborate.proofs.FaultLemmas.{absent_fails, no_module, no_protocol}
use Rattle.scrib_elaborate.proofs.elaborate.find_root.Goals as goal

pub returns-in-None : goal.returns-in-None
returns-in-None c =
    absent_fails c.args.table.now.modules.now c.args.module.now c.args.protocol.now _ c.absent.result (no_protocol c.args.table.now.modules.now c.args.module.now c.args.protocol.now _ c.requires.all (sym c.has_module.ensures ∙ c.if-has_module.true) c.in-None.ensures) c.absent.ensures

pub returns-in-None-2 : goal.returns-in-None-2
returns-in-None-2 c =
    absent_fails c.args.table.now.modules.now c.args.module.now c.args.protocol.now _ c.absent-in-None-2.result (no_module c.args.table.now.modules.now c.args.module.now c.args.protocol.now (sym c.has_module.ensures ∙ c.if-has_module.false)) c.absent-in-None-2.ensures
