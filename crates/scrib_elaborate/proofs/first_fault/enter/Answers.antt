use Rattle.std.proofs.Common.{sym, ◌∙◌}
use Rattle.scrib_elaborate.specs.declared.tasks.Task.TheVariants.{Front}
use Rattle.scrib_elaborate.proofs.FaultPrefixes.{more_ahead, passes_ahead, repeats_ahead}
use Rattle.scrib_elaborate.proofs.first_fault.enter.Goals as goal

pub returns-then-continues_in : goal.returns-then-continues_in
returns-then-continues_in c = λ modules root spot rest a old.
    let inside = c.in_ok-inside.inside in
    more_ahead modules root c.args.ahead.now.items c.push.new.self.items (Front inside c.args.body) c.in_ok-push.ensures.items old (repeats_ahead modules root c.args.scope inside c.args.body c.args.name.now spot rest (sym c.continues_in.ensures ∙ c.if-continues_in.true) c.in_ok-inside.ensures a)

pub returns : goal.returns
returns c = λ modules root spot rest a old.
    more_ahead modules root c.args.ahead.now.items c.push-2.new.self.items (Front c.args.scope c.args.body) c.in_ok-push-2.ensures.items old (passes_ahead modules root c.args.scope c.args.body c.args.name.now spot rest (sym c.continues_in.ensures ∙ c.if-continues_in.false) a)
