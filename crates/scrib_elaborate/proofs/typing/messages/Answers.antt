use Rattle.std.proofs.Common.{[], ◌∷◌, ◌++◌, map, refl, sym, ap, ◌∙◌, subst}
use Rattle.scrib_static_checks.specs.SourceView.{statement_of, message_of}
use Rattle.scrib_static_checks.specs.Elaboration.{role_in, prefix_message}
use Rattle.scrib_elaborate.specs.Scope.{scope_of}
use Rattle.scrib_type_builder.specs.BuiltType.{add_no_origins}
use Rattle.scrib_elaborate.specs.Typing.{made_of, IsTypedRest}
use Rattle.scrib_elaborate.specs.declared.tasks.Task.TheVariants.{Front}
use Rattle.scrib_elaborate.proofs.Steps.{front_same, front_step, message_put}
use Rattle.scrib_elaborate.proofs.typing.messages.Goals as goal

pub loop-last-init : goal.loop-last-init
loop-last-init c = λ ms target e ts all left kept a l s. front_same ms target ts c.args.scope.now all left (made_of c.args.typed) (a ∙ sym l) s

pub loop-last-preserved : goal.loop-last-preserved
loop-last-preserved c = λ ms target e ts all left kept a l s.
    let st = c.args.scope.now in
    let sc = scope_of st in
    let g = made_of c.loop-last.typed in
    let m = c.in-Message in
    let last = c.in-Some.last.now in
    let is = c.in-Some.ensures.cases.0 ∙ ap (λ xs. xs ++ last ∷ []) (sym l) in
    let state = c.loop-last.invariant ms target e ts all c.loop-last.left kept a refl s in
    let before = front_step ms target ts st st c.loop-last.left left last g e kept is (record { scope = refl; depth = refl }) state in
    let same = ap statement_of m.is ∙ message_of m.message m.from m.to m.spot in
    let at = subst (λ x. IsTypedRest ms target (Front st left ∷ ts) sc st.depth x g) same before in
    message_put ms target (Front st left ∷ ts) sc st.depth m.message m.from m.to m.spot g (made_of c.in_ok-typed.typed) (c.in_ok-typed.ensures.global ∙ ap (λ qs. prefix_message m.message (role_in sc m.from) (map (role_in sc) qs) g.type) c.as_slice-to.ensures) (c.in_ok-typed.ensures.origins ∙ ap (λ qs. add_no_origins (map (role_in sc) qs) g.origins) c.as_slice-to.ensures) at

pub returns : goal.returns
returns c = λ ms target e ts kept s. c.loop-last.invariant ms target e ts c.args.statements c.loop-last.left kept refl refl s
