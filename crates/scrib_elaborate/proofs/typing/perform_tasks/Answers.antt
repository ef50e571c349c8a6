use Rattle.std.proofs.Common.{◌≡◌, [], length, reverse, sym, subst, arith}
use Rattle.std.proofs.lemmas.Grind.{common_steps}
use Rattle.std.proofs.lemmas.List.{nil_from_length}
use Rattle.scrib_elaborate.specs.Typing.{made_of, nothing_made, IsState}
use Rattle.scrib_elaborate.proofs.SiteLemmas.{made_is}
use Rattle.scrib_elaborate.proofs.Steps.{popped, ended}
use Rattle.scrib_elaborate.proofs.typing.perform_tasks.Goals as goal

pub loop-init : goal.loop-init
loop-init c = λ target e kept s.
    subst (λ g. IsState c.args.context.now.modules.now target (reverse c.args.tasks.now.items) g) (sym (made_is (made_of c.end-typed.result) nothing_made c.end-typed.ensures.global c.end-typed.ensures.origins)) s

pub loop-preserved : goal.loop-preserved
loop-preserved c = λ target e kept s.
    c.in_ok-typed.ensures target e kept (popped c.args.context.now.modules.now target c.loop.tasks.items c.pop.new.self.items c.in-Some.task (made_of c.loop.typed) c.in-Some.ensures.items (c.loop.invariant target e kept s))

pub returns-in_default : goal.returns-in_default
returns-in_default c = λ target e kept s.
    let long : length c.loop.tasks.items ≡ 0 = omega (arith, c.in_default.ensures.cases, c.loop.tasks.ok.0) in
    let none : c.loop.tasks.items ≡ [] = nil_from_length c.loop.tasks.items long in
    ended c.args.context.now.modules.now target c.loop.tasks.items (made_of c.loop.typed) none (c.loop.invariant target e kept s)

pub returns-in_err-typed : goal.returns-in_err-typed
returns-in_err-typed c = grind (arith, common_steps)
