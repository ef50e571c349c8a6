use Rattle.std.proofs.Common.{reverse, refl, ap, ◌∙◌}
use Rattle.scrib_elaborate.specs.declared.tasks.Task.TheVariants.{Front}
use Rattle.scrib_static_checks.specs.Names.{role_names}
use Rattle.scrib_static_checks.specs.Elaboration.{Scope, given_for}
use Rattle.scrib_type_builder.specs.Renaming.{renamed}
use Rattle.scrib_static_checks.specs.CallEffect.{names_of}
use Rattle.scrib_static_checks.specs.Table.{declaration_of}
use Rattle.scrib_elaborate.specs.Scope.{scope_of}
use Rattle.scrib_elaborate.specs.Typing.{made_of}
use Rattle.scrib_elaborate.proofs.SkippedCalls.{call_skipped, call_memoized}
use Rattle.scrib_elaborate.proofs.Steps.{pushed, call_put}
use Rattle.scrib_elaborate.proofs.typing.call.Goals as goal

pub returns : goal.returns
returns c = λ target e path spot kept there at has_effect b.
    let ms = c.args.context.now.modules.now in
    let g = made_of c.args.typed in
    let inside = c.in_ok-inside.inside in
    let scope = c.args.scope.now in
    let old = c.args.tasks.now.items in
    pushed ms target old c.push.new.self.items (Front inside c.as_slice-2.result) g g c.in_ok-push.ensures.items refl (call_put ms target (reverse old) inside c.as_slice-2.result (scope_of scope) scope.depth path c.args.call.roles.now spot (declaration_of c.args.call.callee.declared) g there c.in_ok-inside.ensures.scope c.in_ok-inside.ensures.depth c.as_slice-2.ensures b)

pub returns-then-passes : goal.returns-then-passes
returns-then-passes c = λ target e path spot kept there at has_effect b.
    let scope = c.args.scope.now in
    let context = c.args.context.now in
    let named = ap names_of c.deref.ensures.value ∙ ap (λ (x : Scope). x.given) c.in_ok-inside.ensures.scope in
    let passed = c.passes.ensures.0 c.if-passes.true in
    call_skipped context.modules.now target (reverse c.args.tasks.now.items) (scope_of scope) scope.depth path c.args.call.roles.now _ spot (declaration_of c.args.call.callee.declared) c.args.call.callee.effect context.declared.now (made_of c.args.typed) (made_of c.passed.result) there has_effect named passed c.requires.all c.passed.ensures b

pub returns-in-Some : goal.returns-in-Some
returns-in-Some c = λ target e path spot kept there at has_effect b.
    let context = c.args.context.now in
    let scope = c.args.scope.now in
    let callee = declaration_of c.args.call.callee.declared in
    let named = ap names_of c.deref-in-Some.ensures.value ∙ ap (λ (x : Scope). x.given) c.in_ok-inside.ensures.scope in
    let at_memo = c.requires.memo c.args.call.callee.place callee c.in-Some.alone.now at c.in-Some.ensures.memo in
    let type = c.in_ok-copied.ensures.global ∙ ap (λ rs. renamed (given_for (role_names rs) (names_of c.deref-in-Some.result.now)) (made_of c.in-Some.alone.now).type) c.as_slice.ensures in
    call_memoized context.modules.now target e (reverse c.args.tasks.now.items) (scope_of scope) scope.depth path c.args.call.roles.now _ spot callee (made_of c.args.typed) (made_of c.in-Some.alone.now) (made_of c.in_ok-copied.copied) kept there at_memo named c.in-Some.ensures.ends type c.in_ok-copied.ensures.origins b
