use Rattle.std.proofs.Common.{map, reverse, sym, ap, ◌∙◌, subst}
use Rattle.scrib_static_checks.specs.Source.{Chooses, Repeats, Calls}
use Rattle.scrib_static_checks.specs.SourceView.{statement_of, body_of, blocks_of, message_of, choice_of, rec_of, continue_of, do_of}
use Rattle.scrib_static_checks.specs.Elaboration.{role_in, prefix_message}
use Rattle.scrib_elaborate.specs.Scope.{scope_of}
use Rattle.scrib_type_builder.specs.BuiltType.{add_no_origins}
use Rattle.scrib_elaborate.specs.Typing.{made_of, IsTypedRest}
use Rattle.scrib_elaborate.proofs.Steps.{message_put, variable_put, enclosing_found, callee_found}
use Rattle.scrib_elaborate.proofs.typing.prepend.Goals as goal

pub returns-in-Message : goal.returns-in-Message
returns-in-Message c = λ target e kept b.
    let ms = c.args.context.now.modules.now in
    let ts = reverse c.args.tasks.now.items in
    let sc = scope_of c.args.scope in
    let n = c.args.scope.depth in
    let g = made_of c.args.typed in
    let m = c.in-Message in
    let same = ap statement_of m.is ∙ message_of m.message m.from m.to m.spot in
    let at = subst (λ s. IsTypedRest ms target ts sc n s g) same b in
    message_put ms target ts sc n m.message m.from m.to m.spot g (made_of c.in_ok-longer-in-Message.longer) (c.in_ok-longer-in-Message.ensures.global ∙ ap (λ qs. prefix_message m.message (role_in sc m.from) (map (role_in sc) qs) g.type) c.as_slice-to.ensures) (c.in_ok-longer-in-Message.ensures.origins ∙ ap (λ qs. add_no_origins (map (role_in sc) qs) g.origins) c.as_slice-to.ensures) at

pub returns-in-Choice : goal.returns-in-Choice
returns-in-Choice c = λ target e kept b.
    let ms = c.args.context.now.modules.now in
    let ts = reverse c.args.tasks.now.items in
    let sc = scope_of c.args.scope in
    let n = c.args.scope.depth in
    let g = made_of c.args.typed in
    let m = c.in-Choice in
    let same = ap statement_of m.is ∙ choice_of m.at m.branches m.spot ∙ ap (λ bs. Chooses m.at (blocks_of bs) m.spot) (sym c.as_slice.ensures) in
    c.choose.ensures ms target (subst (λ s. IsTypedRest ms target ts sc n s g) same b)

pub returns-in-Rec : goal.returns-in-Rec
returns-in-Rec c = λ target e kept b.
    let ms = c.args.context.now.modules.now in
    let ts = reverse c.args.tasks.now.items in
    let sc = scope_of c.args.scope in
    let n = c.args.scope.depth in
    let g = made_of c.args.typed in
    let m = c.in-Rec in
    let same = ap statement_of m.is ∙ rec_of m.name m.body m.spot ∙ ap (λ ss. Repeats m.name (body_of ss) m.spot) (sym c.as_slice-in-Rec.ensures) in
    c.in_ok-begun-in-Rec.ensures ms target (subst (λ s. IsTypedRest ms target ts sc n s g) same b)

pub returns-in-Continue : goal.returns-in-Continue
returns-in-Continue c = λ target e kept b.
    let ms = c.args.context.now.modules.now in
    let ts = reverse c.args.tasks.now.items in
    let sc = scope_of c.args.scope in
    let n = c.args.scope.depth in
    let g = made_of c.args.typed in
    let m = c.in-Continue in
    let same = ap statement_of m.is ∙ continue_of m.name m.spot in
    let at = subst (λ s. IsTypedRest ms target ts sc n s g) same b in
    let r = enclosing_found ms target ts sc n m.name m.spot g e kept at in
    let v = c.continued_variable.ensures r.level r.there r.low in
    variable_put ms target ts sc n v.level v.index m.name m.spot g (made_of c.continued_variable.result) v.there v.deep v.is v.alone at

pub returns-in_default : goal.returns-in_default
returns-in_default c = λ target e kept b.
    let ms = c.args.context.now.modules.now in
    let ts = reverse c.args.tasks.now.items in
    let sc = scope_of c.args.scope in
    let n = c.args.scope.depth in
    let g = made_of c.args.typed in
    let m = c.in-Do in
    let same = ap statement_of m.is ∙ do_of m.protocol m.roles m.spot in
    absurd (callee_found ms target ts sc n m.protocol m.roles m.spot g e kept (subst (λ s. IsTypedRest ms target ts sc n s g) same b) (c.callee.ensures.none c.in_default.is))

pub returns : goal.returns
returns c = λ target e kept b.
    let ms = c.args.context.now.modules.now in
    let ts = reverse c.args.tasks.now.items in
    let sc = scope_of c.args.scope in
    let n = c.args.scope.depth in
    let g = made_of c.args.typed in
    let m = c.in-Do in
    let same = ap statement_of m.is ∙ do_of m.protocol m.roles m.spot ∙ ap (λ qs. Calls m.protocol qs m.spot) (sym c.as_slice-in-Do.ensures) in
    c.in_ok-entered-in-Do.ensures target e m.protocol m.spot kept c.in-Some.ensures.called c.in-Some.ensures.place c.in-Some.ensures.effect (subst (λ s. IsTypedRest ms target ts sc n s g) same b)
