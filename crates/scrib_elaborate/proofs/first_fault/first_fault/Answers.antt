use Rattle.std.proofs.Common.{sym, subst}
use Rattle.scrib_static_checks.specs.Table.{declaration_of}
use Rattle.scrib_elaborate.specs.Typing.{StopsAhead}
use Rattle.scrib_elaborate.proofs.FaultPrefixes.{turned_stops, stops_ahead, broken_ahead, less_ahead}
use Rattle.scrib_elaborate.proofs.first_fault.first_fault.Goals.{in-Err, in_default-visit_task}
use Rattle.scrib_elaborate.proofs.first_fault.first_fault.Goals as goal

pub loop-init : goal.loop-init
loop-init c =
    turned_stops c.args.context.now.modules.now (declaration_of c.args.context.now.root) c.args.left.items c.reverse.new.self.items c.args.found c.reverse.ensures.permutation c.requires.found

pub loop-preserved : goal.loop-preserved
loop-preserved c =
    let ms = c.args.context.now.modules.now in
    let root = declaration_of c.args.context.now.root in
    let broken = broken_ahead ms root c.loop.ahead.items c.loop.reported c.in_default.not-OutOfMemory c.loop.invariant in
    let parts = less_ahead ms root c.loop.ahead.items c.pop.new.self.items c.in-Some.task c.in-Some.ensures.items broken.1 in
    elim c.match-visit_task.branch [
      | in-Err w ↦ subst (λ e. StopsAhead ms root c.visit_task.new.ahead.items e) (sym w.reported-is) (w.in-Err.ensures root c.requires.kept.0 c.requires.kept.1 parts.1 parts.0)
      | in_default-visit_task w ↦ subst (λ e. StopsAhead ms root c.visit_task.new.ahead.items e) (sym w.reported-is) (stops_ahead ms root c.visit_task.new.ahead.items c.loop.reported broken.0 (w.in_default-visit_task.ensures root c.requires.kept.0 c.requires.kept.1 parts.1 parts.0))
    ]
