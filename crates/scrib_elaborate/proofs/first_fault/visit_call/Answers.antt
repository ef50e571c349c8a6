use Rattle.scrib_elaborate.specs.declared.tasks.Task.TheVariants.{Front}
use Rattle.scrib_static_checks.specs.Table.{declaration_of}
use Rattle.scrib_elaborate.proofs.FaultPrefixes.{call_ahead, more_ahead}
use Rattle.scrib_elaborate.proofs.first_fault.visit_call.Goals as goal

pub returns : goal.returns
returns c = λ root spot rest a old.
    let ms = c.args.context.now.modules.now in
    let inside = c.in_ok-inside.inside in
    let d = declaration_of c.in-Some.callee.declared in
    more_ahead ms root c.args.ahead.now.items c.push-2.new.self.items (Front inside c.as_slice.result) c.in_ok-push-2.ensures.items old (call_ahead ms root c.args.scope.now inside c.as_slice.result c.args.call.path.now c.args.call.roles.now spot rest d c.in-Some.ensures.called c.in_ok-inside.ensures c.as_slice.ensures a)
