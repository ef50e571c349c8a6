use Rattle.std.proofs.Common.{reverse, refl, sym, ◌∙◌}
use Rattle.scrib_elaborate.specs.declared.tasks.Task.TheVariants.{Front, Close}
use Rattle.scrib_static_checks.specs.Elaboration.{Under}
use Rattle.scrib_elaborate.specs.Scope.{scope_of}
use Rattle.scrib_elaborate.specs.Typing.{made_of}
use Rattle.scrib_elaborate.proofs.Steps.{pushed, pushed_twice, passes_put, repeats_put}
use Rattle.scrib_elaborate.proofs.typing.begin_recursion.Goals as goal

pub returns-then-continues_in : goal.returns-then-continues_in
returns-then-continues_in c = λ modules target b.
    let g = made_of c.in_ok-follows.follows in
    let scope = c.args.scope in
    let old = c.args.tasks.now.items in
    let inside = c.in_ok-inside.inside in
    pushed_twice modules target old c.push.new.self.items c.push-then-continues_in.new.self.items (Close scope.within.home c.args.statement.spot) (Front inside c.args.statement.body) g g c.in_ok-push.ensures.items c.in_ok-push-2.ensures.items refl (repeats_put modules target (reverse old) scope inside c.args.statement.body scope.within.home c.args.statement.name.now c.args.statement.spot (made_of c.args.typed) g refl (sym c.continues_in.ensures ∙ c.if-continues_in.true) c.in_ok-inside.ensures (c.in_ok-follows.ensures.global modules (Under (scope_of scope) b.rest b.outer) b.made.typed) c.in_ok-follows.ensures.origins b)

pub returns : goal.returns
returns c = λ modules target b.
    let g = made_of c.args.typed in
    let scope = c.args.scope in
    let old = c.args.tasks.now.items in
    pushed modules target old c.push-2.new.self.items (Front scope c.args.statement.body) g g c.in_ok-push-3.ensures.items refl (passes_put modules target (reverse old) scope c.args.statement.body c.args.statement.name.now c.args.statement.spot g (sym c.continues_in.ensures ∙ c.if-continues_in.false) b)
