use Rattle.std.proofs.Common.{◌<◌, length, subst, arith}
use Rattle.std.proofs.lemmas.Bool.Decides.{nat_tests}
use Rattle.scrib_elaborate.specs.declared.tasks.Task.TheVariants.{Front}
use Rattle.scrib_elaborate.specs.Typing.{IsTaskAhead, AreAhead}
use Rattle.scrib_elaborate.proofs.FaultPrefixes.{first_ahead, rest_ahead, more_ahead}
use Rattle.scrib_elaborate.proofs.first_fault.visit_task.Goals.{then-not-is_empty+in_ok-again+in_ok-push, else-not-is_empty}
use Rattle.scrib_elaborate.proofs.first_fault.visit_task.Goals as goal

pub returns : goal.returns
returns c = λ root e kept a old.
    let ms = c.args.context.now.modules.now in
    let m = c.in-Front in
    let here = subst (IsTaskAhead ms root) m.is a in
    let first = first_ahead ms root m.scope m.statements c.in-Some.rest c.in-Some.first.now c.in-Some.ensures.cases.0 here in
    let more : AreAhead ms root c.if-not-is_empty.ahead.items =
    elim c.if-not-is_empty.branch [
      | then-not-is_empty+in_ok-again+in_ok-push w ↦ let some : 0 < length c.in-Some.rest.now = grind (arith, nat_tests, c.is_empty.ensures, w.if-not-is_empty.true) in
          rw w.ahead-is (more_ahead ms root c.args.ahead.now.items w.push.new.self.items (Front w.in_ok-again.again c.in-Some.rest) w.in_ok-push.ensures.items old (rest_ahead ms root e m.scope w.in_ok-again.again m.statements c.in-Some.rest c.in-Some.first.now kept c.in-Some.ensures.cases.0 some w.in_ok-again.ensures here))
      | else-not-is_empty w ↦ rw w.ahead-is old
    ] in
    c.visit_statement.ensures root e first.0 kept first.1 more
