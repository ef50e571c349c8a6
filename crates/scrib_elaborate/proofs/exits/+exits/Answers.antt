use Rattle.std.proofs.Common.{refl, sym, ap, ◌∙◌, subst}
use Rattle.std.proofs.lemmas.List.{drop_all}
use Rattle.scrib_static_checks.specs.SourceView.{statement_of, body_of, blocks_of, choice_of, rec_of, continue_of, do_of}
use Rattle.scrib_static_checks.specs.Table.{shown, declaration_of}
use Rattle.scrib_elaborate.specs.NoExit.{Stays, StatementStays, chooses_stays, repeats_stays, continues_stays, calls_stays, AllStay, none_stays}
use Rattle.scrib_elaborate.proofs.ExitLemmas.{protocol_stays, stays_at, stays_more, all_more}
use Rattle.scrib_elaborate.proofs.exits.+exits.Goals as goal

-- the statements of a block

pub has_exit-returns-then-not-leads_on : goal.has_exit-returns-then-not-leads_on
has_exit-returns-then-not-leads_on t c = λ none.
    let here = c.if-not-leads_on.ensures refl in
    c.loop-statement.invariant (stays_at c.args.context.now.modules.now c.args.home.now c.args.body.now c.loop-statement.statement-index c.statement-item.result c.loop-statement-test.true c.statement-item.is here)

pub has_exit-loop-statement-preserved : goal.has_exit-loop-statement-preserved
has_exit-loop-statement-preserved t c = λ h.
    c.loop-statement.invariant (stays_more c.args.context.now.modules.now c.args.home.now c.args.body.now c.loop-statement.statement-index c.statement-item.result c.loop-statement-test.true c.statement-item.is h)

-- a statement

pub leads_on-returns-in-Choice : goal.leads_on-returns-in-Choice
leads_on-returns-in-Choice t c = λ none.
    let ms = c.args.context.now.modules.now in
    let m = c.in-Choice in
    let same = ap statement_of m.is ∙ choice_of m.at m.branches m.spot in
    let all = subst (λ bs. AllStay ms c.args.home.now (blocks_of bs)) c.as_slice.ensures (c.some_exit.ensures none) in
    subst (StatementStays ms c.args.home.now) (sym same) (chooses_stays all)

pub leads_on-returns-in-Rec : goal.leads_on-returns-in-Rec
leads_on-returns-in-Rec t c = λ none.
    let ms = c.args.context.now.modules.now in
    let m = c.in-Rec in
    let same = ap statement_of m.is ∙ rec_of m.name m.body m.spot in
    let body = subst (λ ss. Stays ms c.args.home.now (body_of ss)) c.as_slice-in-Rec.ensures (c.has_exit.ensures none) in
    subst (StatementStays ms c.args.home.now) (sym same) (repeats_stays body)

pub leads_on-returns-in-Continue : goal.leads_on-returns-in-Continue
leads_on-returns-in-Continue t c = λ none.
    let m = c.in-Continue in
    let same = ap statement_of m.is ∙ continue_of m.name m.spot in
    subst (StatementStays c.args.context.now.modules.now c.args.home.now) (sym same) continues_stays

pub leads_on-returns-in-Some : goal.leads_on-returns-in-Some
leads_on-returns-in-Some t c = λ none.
    let context = c.args.context.now in
    let m = c.in-Do in
    let callee = c.in-Some.callee in
    let same = ap statement_of m.is ∙ do_of m.protocol m.roles m.spot in
    let kept = c.exits_at.ensures context.modules.now (shown context.declared.now) (declaration_of callee.declared) c.requires.kept c.in-Some.ensures.place none in
    subst (StatementStays context.modules.now c.args.home.now) (sym same) (calls_stays c.in-Some.ensures.called (protocol_stays kept refl))

-- the branches of a choice

pub some_exit-loop-branch-preserved : goal.some_exit-loop-branch-preserved
some_exit-loop-branch-preserved t c = λ h.
    let ms = c.args.context.now.modules.now in
    let here = subst (λ ss. Stays ms c.args.home.now (body_of ss)) c.as_slice.ensures (c.if-has_exit.ensures refl) in
    c.loop-branch.invariant (all_more ms c.args.home.now c.args.branches.now c.loop-branch.branch-index c.branch-item.result c.loop-branch-test.true c.branch-item.is here h)

pub some_exit-returns : goal.some_exit-returns
some_exit-returns t c = λ none.
    let nil = ap blocks_of (drop_all c.loop-branch.branch-index c.args.branches.now c.loop-branch-test.false) in
    c.loop-branch.invariant (subst (AllStay c.args.context.now.modules.now c.args.home.now) (sym nil) none_stays)
