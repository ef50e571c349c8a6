use denote.Param.Weighed.{at_most, most as most_of}
use Rattle.scrib_tree.specs.declared.tree.Statement.TheViews.{size-Statement, size-Block, size_is-Block, sized-Choice, sized-Rec}
use Rattle.std.proofs.Common.{rules, sym, ap, ◌∙◌, subst}
use Rattle.std.proofs.lemmas.List.{drop_all}
use Rattle.scrib_static_checks.specs.Source.{Calls}
use Rattle.scrib_static_checks.specs.SourceView.{statement_of, body_of, blocks_of, message_of, choice_of, rec_of, continue_of, do_of}
use Rattle.scrib_static_checks.specs.Elaboration.{continues_in}
use Rattle.scrib_static_checks.specs.SizeFunctions.{BlockHasSize, IsRow}
use Rattle.scrib_static_checks.specs.Table.{protocol_at, IsPartSomewhere}
use Rattle.scrib_static_checks.proofs.Checks.{body_more, blocks_more}
use Rattle.scrib_static_checks.proofs.SizeFunctionLemmas.{begin_size, step_size, end_size, begin_blocks, step_blocks, end_blocks, message_size, continue_size, choice_size, loop_size, pass_size, call_size}
use Rattle.scrib_static_checks.proofs.PartLemmas.{first_somewhere, rest_somewhere, block_somewhere, others_somewhere, choice_somewhere, rec_somewhere, step_occurs}
use Rattle.scrib_static_checks.proofs.size.+sizes.Goals as goal

-- the statements of a block

pub size_block-loop-statement-init : goal.size_block-loop-statement-init
size_block-loop-statement-init g c = record {
  sizing = begin_size _ _ _ _ c.row-size.ensures;
  part = c.requires.part;
}

pub size_block-size_statement-requires : goal.size_block-size_statement-requires
size_block-size_statement-requires g c =
    let more = body_more c.args.body.now c.loop-statement.statement-index c.statement-item.result c.loop-statement-test.true c.statement-item.is in
    let most = at_most size-Statement c.args.body.now c.loop-statement.statement-index c.statement-item.result c.loop-statement-test.true in
    let same = ap size-Statement c.statement-item.is in
    (search (rules, most, same), (c.requires.consistent, first_somewhere (protocol_at c.args.context.now) _ _ _ more c.loop-statement.invariant.part))

pub size_block-loop-statement-preserved : goal.size_block-loop-statement-preserved
size_block-loop-statement-preserved g c =
    let more = body_more c.args.body.now c.loop-statement.statement-index c.statement-item.result c.loop-statement-test.true c.statement-item.is in
    record {
      sizing = step_size _ _ _ _ c.in_ok-step.step _ _ _ _ more c.compose-size.ensures c.in_ok-step.ensures c.loop-statement.invariant.sizing;
      part = rest_somewhere (protocol_at c.args.context.now) _ _ _ more c.loop-statement.invariant.part;
    }

pub size_block-returns : goal.size_block-returns
size_block-returns g c =
    let none = ap body_of (drop_all c.loop-statement.statement-index c.args.body.now c.loop-statement-test.false) in
    end_size _ _ _ _ _ none c.loop-statement.invariant.sizing

-- the branches of a choice

pub size_branches-loop-branch-init : goal.size_branches-loop-branch-init
size_branches-loop-branch-init g c = record {
  sizing = begin_blocks _ _ _ _ c.end-size.ensures;
  part = c.requires.part;
}

pub size_branches-size_block-requires : goal.size_branches-size_block-requires
size_branches-size_block-requires g c =
    let more = blocks_more c.args.branches.now c.loop-branch.branch-index c.branch-item.result c.loop-branch-test.true c.branch-item.is in
    let most = at_most size-Block c.args.branches.now c.loop-branch.branch-index c.branch-item.result c.loop-branch-test.true in
    let same = ap size-Block c.branch-item.is in
    let size = size_is-Block c.branch-item.result in
    let body = ap (most_of size-Statement) c.as_slice.ensures in
    (search (rules, most, same, size, body), (c.requires.consistent, subst (λ x. IsPartSomewhere (protocol_at c.args.context.now) (body_of x)) (sym c.as_slice.ensures) (block_somewhere (protocol_at c.args.context.now) _ _ _ _ more c.loop-branch.invariant.part)))

pub size_branches-loop-branch-preserved : goal.size_branches-loop-branch-preserved
size_branches-loop-branch-preserved g c =
    let more = blocks_more c.args.branches.now c.loop-branch.branch-index c.branch-item.result c.loop-branch-test.true c.branch-item.is in
    record {
      sizing = step_blocks _ _ _ _ c.in_ok-more.more _ _ _ _ _ more c.or-size.ensures (subst (λ x. BlockHasSize c.args.context.now.modules.now (protocol_at c.args.context.now) (body_of x) c.in_ok-more.more) c.as_slice.ensures c.in_ok-more.ensures) c.loop-branch.invariant.sizing;
      part = others_somewhere (protocol_at c.args.context.now) _ _ _ _ more c.loop-branch.invariant.part;
    }

pub size_branches-returns : goal.size_branches-returns
size_branches-returns g c =
    let none = ap blocks_of (drop_all c.loop-branch.branch-index c.args.branches.now c.loop-branch-test.false) in
    end_blocks _ _ _ _ _ none c.loop-branch.invariant.sizing

-- a statement

pub size_statement-size_branches-requires : goal.size_statement-size_branches-requires
size_statement-size_branches-requires g c =
    let same = ap statement_of c.in-Choice.is ∙ choice_of c.in-Choice.at c.in-Choice.branches c.in-Choice.spot in
    (search (rules, sized-Choice, sized-Rec), (c.requires.consistent, choice_somewhere (protocol_at c.args.context.now) _ _ _ _ _ same (ap blocks_of c.as_slice.ensures) c.requires.part))

pub size_statement-size_block-requires : goal.size_statement-size_block-requires
size_statement-size_block-requires g c =
    let same = ap statement_of c.in-Rec.is ∙ rec_of c.in-Rec.name c.in-Rec.body c.in-Rec.spot in
    (search (rules, sized-Choice, sized-Rec), (c.requires.consistent, rec_somewhere (protocol_at c.args.context.now) _ _ _ _ _ same (ap body_of c.as_slice-in-Rec.ensures) c.requires.part))

pub size_statement-check_call-requires-clause-occurs : goal.size_statement-check_call-requires-clause-occurs
size_statement-check_call-requires-clause-occurs g c =
    let same = ap statement_of c.in-Do.is ∙ do_of c.in-Do.protocol c.in-Do.roles c.in-Do.spot ∙ ap (λ qs. Calls c.in-Do.protocol qs c.in-Do.spot) (sym c.as_slice-in-Do.ensures) in
    step_occurs (protocol_at c.args.context.now) _ _ same c.requires.part

pub size_statement-returns-in-Message : goal.size_statement-returns-in-Message
size_statement-returns-in-Message g c =
    let same = ap statement_of c.in-Message.is ∙ message_of c.in-Message.message c.in-Message.from c.in-Message.to c.in-Message.spot in
    message_size _ (protocol_at c.args.context.now) _ _ _ _ _ c.row.result same (subst (λ n. IsRow n c.row.result) c.len.ensures c.row.ensures)

pub size_statement-returns-in_ok-size-in-Choice : goal.size_statement-returns-in_ok-size-in-Choice
size_statement-returns-in_ok-size-in-Choice g c =
    let same = ap statement_of c.in-Choice.is ∙ choice_of c.in-Choice.at c.in-Choice.branches c.in-Choice.spot in
    choice_size _ (protocol_at c.args.context.now) _ _ _ _ _ c.in_ok-size-in-Choice.size same (ap blocks_of c.as_slice.ensures) c.in_ok-size-in-Choice.ensures

pub size_statement-returns-then-continues_in : goal.size_statement-returns-then-continues_in
size_statement-returns-then-continues_in g c =
    let same = ap statement_of c.in-Rec.is ∙ rec_of c.in-Rec.name c.in-Rec.body c.in-Rec.spot in
    let used = sym (c.continues_in.ensures ∙ ap (λ b. continues_in c.in-Rec.name (body_of b)) c.as_slice-in-Rec-2.ensures) ∙ c.if-continues_in.true in
    loop_size _ (protocol_at c.args.context.now) _ _ _ _ _ c.row-then-continues_in.result c.in_ok-size-in-Rec.size c.compose.result same (ap body_of c.as_slice-in-Rec.ensures) used c.row-then-continues_in.ensures c.compose.ensures c.in_ok-size-in-Rec.ensures

pub size_statement-returns-else-continues_in : goal.size_statement-returns-else-continues_in
size_statement-returns-else-continues_in g c =
    let same = ap statement_of c.in-Rec.is ∙ rec_of c.in-Rec.name c.in-Rec.body c.in-Rec.spot in
    let unused = sym (c.continues_in.ensures ∙ ap (λ b. continues_in c.in-Rec.name (body_of b)) c.as_slice-in-Rec-2.ensures) ∙ c.if-continues_in.false in
    pass_size _ (protocol_at c.args.context.now) _ _ _ _ _ c.in_ok-size-in-Rec.size same (ap body_of c.as_slice-in-Rec.ensures) unused c.in_ok-size-in-Rec.ensures

pub size_statement-returns-in-Continue : goal.size_statement-returns-in-Continue
size_statement-returns-in-Continue g c =
    let same = ap statement_of c.in-Continue.is ∙ continue_of c.in-Continue.name c.in-Continue.spot in
    continue_size _ (protocol_at c.args.context.now) _ _ _ c.end.result same c.end.ensures

pub size_statement-returns-in_ok-called-in-Do : goal.size_statement-returns-in_ok-called-in-Do
size_statement-returns-in_ok-called-in-Do g c =
    let same = ap statement_of c.in-Do.is ∙ do_of c.in-Do.protocol c.in-Do.roles c.in-Do.spot ∙ ap (λ qs. Calls c.in-Do.protocol qs c.in-Do.spot) (sym c.as_slice-in-Do.ensures) in
    let kept = c.in_ok-called-in-Do.ensures in
    call_size _ (protocol_at c.args.context.now) _ _ _ _ kept.to c.in_ok-called-in-Do.called.size same kept.there kept.has_size
