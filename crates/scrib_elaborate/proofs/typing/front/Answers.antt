use Rattle.std.proofs.Common.{reverse}
use Rattle.std.proofs.lemmas.List.{nil_from_length}
use Rattle.scrib_elaborate.specs.declared.tasks.Task.TheVariants.{Front}
use Rattle.scrib_static_checks.specs.SourceView.{statement_of}
use Rattle.scrib_elaborate.specs.Scope.{scope_of}
use Rattle.scrib_elaborate.specs.Typing.{made_of}
use Rattle.scrib_elaborate.proofs.Steps.{front_done, front_step, pushed_before}
use Rattle.scrib_elaborate.proofs.typing.front.Goals as goal

pub returns : goal.returns
returns c = λ target e kept s.
    let ms = c.args.context.now.modules.now in
    let old = c.args.tasks.now.items in
    let scope = c.args.scope in
    let again = c.in_ok-again.again in
    let statements = c.in_ok-typed.statements in
    let g = made_of c.in_ok-typed.typed in
    let last = c.in-Some.last.now in
    let state = c.in_ok-typed.ensures ms target e (reverse old) kept s in
    c.prepend.ensures target e kept (pushed_before ms target old c.push.new.self.items (Front again c.in-Some.rest) (scope_of scope) scope.depth (statement_of last) g c.in_ok-push.ensures.items (front_step ms target (reverse old) scope again statements c.in-Some.rest last g e kept c.in-Some.ensures.cases.0 c.in_ok-again.ensures state))

pub returns-in_default : goal.returns-in_default
returns-in_default c = λ target e kept s.
    let ms = c.args.context.now.modules.now in
    let old = reverse c.args.tasks.now.items in
    let statements = c.in_ok-typed.statements in
    front_done ms target old c.args.scope statements (made_of c.in_ok-typed.typed) (nil_from_length statements.now c.in_default.ensures.cases) (c.in_ok-typed.ensures ms target e old kept s)
