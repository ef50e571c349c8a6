use Rattle.std.proofs.Common.{sym, ap, ◌∙◌, subst}
use Rattle.scrib_static_checks.specs.Source.{Then, Chooses, Repeats, Calls}
use Rattle.scrib_static_checks.specs.SourceView.{statement_of, body_of, blocks_of, choice_of, rec_of, do_of}
use Rattle.scrib_elaborate.specs.Scope.{scope_of}
use Rattle.scrib_elaborate.specs.Typing.{IsAhead}
use Rattle.scrib_elaborate.proofs.first_fault.visit_statement.Goals as goal

pub returns-in-Choice : goal.returns-in-Choice
returns-in-Choice c = λ root e rest kept a old.
    let scope = c.args.scope in
    let m = c.in-Choice in
    let same = ap statement_of m.is ∙ choice_of m.at m.branches m.spot ∙ ap (λ bs. Chooses m.at (blocks_of bs) m.spot) (sym c.as_slice.ensures) in
    let at = subst (λ s. IsAhead c.args.context.now.modules.now root (scope_of scope) scope.depth (Then s rest)) same a in
    c.visit_choice.ensures root e m.at m.spot rest kept at old

pub returns-in-Rec : goal.returns-in-Rec
returns-in-Rec c = λ root e rest kept a old.
    let ms = c.args.context.now.modules.now in
    let scope = c.args.scope in
    let m = c.in-Rec in
    let same = ap statement_of m.is ∙ rec_of m.name m.body m.spot ∙ ap (λ ss. Repeats m.name (body_of ss) m.spot) (sym c.as_slice-in-Rec.ensures) in
    let at = subst (λ s. IsAhead ms root (scope_of scope) scope.depth (Then s rest)) same a in
    c.in_ok-enter-in-Rec.ensures ms root m.spot rest at old

pub returns : goal.returns
returns c = λ root e rest kept a old.
    let scope = c.args.scope in
    let m = c.in-Do in
    let same = ap statement_of m.is ∙ do_of m.protocol m.roles m.spot ∙ ap (λ qs. Calls m.protocol qs m.spot) (sym c.as_slice-in-Do.ensures) in
    let at = subst (λ s. IsAhead c.args.context.now.modules.now root (scope_of scope) scope.depth (Then s rest)) same a in
    c.in_ok-visit_call-in-Do.ensures root m.spot rest at old
