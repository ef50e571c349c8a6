use denote.Param.Weighed.{at_most, most as most_of}
use Rattle.scrib_tree.specs.declared.tree.Statement.TheViews.{size-Statement, size-Block, size_is-Block, sized-Choice, sized-Rec}
use Rattle.std.proofs.Common.{rules, drop, ◌+◌, true, refl, sym, ap, ◌∙◌, subst}
use Rattle.std.proofs.lemmas.List.{drop_all}
use Rattle.scrib_types.specs.WellFormed.{has_role}
use Rattle.scrib_static_checks.specs.Source.{Sends, Calls}
use Rattle.scrib_static_checks.specs.SourceView.{statement_of, body_of, blocks_of, message_of, choice_of, rec_of, continue_of, do_of}
use Rattle.scrib_static_checks.specs.Names.{role_names}
use Rattle.scrib_static_checks.specs.Statements.{BlockKeeps}
use Rattle.scrib_static_checks.specs.Faults.{choice}
use Rattle.scrib_static_checks.specs.Table.{protocol_at, enclosing_names, IsPart, AreParts}
use Rattle.scrib_static_checks.proofs.Checks.{body_more, blocks_more, begin_left, step_left, end_left, stops_unreachable, begin_branches, step_branches, end_branches, branch_part, occurs_as, loose_as, choice_parts, rec_part, keeps_as, rec_keeps, choice_keeps, continue_keeps}
use Rattle.scrib_static_checks.proofs.statements.+statements.Goals as goal

-- the statements of a block

pub check_block-loop-statement-init : goal.check_block-loop-statement-init
check_block-loop-statement-init g c =
    begin_left c.args.context.now.modules.now (protocol_at c.args.context.now) (enclosing_names c.args.recs.now) (body_of c.args.body.now) c.requires.part

pub check_block-returns-then-not-exits : goal.check_block-returns-then-not-exits
check_block-returns-then-not-exits g c =
    let more = body_more c.args.body.now c.loop-statement.statement-index c.statement-item.result c.loop-statement-test.true c.statement-item.is in
    rw c.broken.ensures (stops_unreachable _ _ _ _ c.loop-statement.exits _ _ _ c.spot_of.result more c.if-not-exits.true c.spot_of.ensures c.loop-statement.invariant)

pub check_block-check_statement-requires : goal.check_block-check_statement-requires
check_block-check_statement-requires g c =
    let more = body_more c.args.body.now c.loop-statement.statement-index c.statement-item.result c.loop-statement-test.true c.statement-item.is in
    let most = at_most size-Statement c.args.body.now c.loop-statement.statement-index c.statement-item.result c.loop-statement-test.true in
    let same = ap size-Statement c.statement-item.is in
    (search (rules, most, same), (c.requires.consistent, (body_of (drop (c.loop-statement.statement-index + 1) c.args.body.now), subst (λ x. IsPart (protocol_at c.args.context.now) (enclosing_names c.args.recs.now) x) more c.loop-statement.invariant.part)))

pub check_block-loop-statement-preserved : goal.check_block-loop-statement-preserved
check_block-loop-statement-preserved g c =
    let more = body_more c.args.body.now c.loop-statement.statement-index c.statement-item.result c.loop-statement-test.true c.statement-item.is in
    step_left _ _ _ _ c.loop-statement.exits c.in_ok-exits.exits _ _ _ more c.if-not-exits.false c.loop-statement.invariant c.in_ok-exits.ensures

pub check_block-returns : goal.check_block-returns
check_block-returns g c =
    let none = ap body_of (drop_all c.loop-statement.statement-index c.args.body.now c.loop-statement-test.false) in
    end_left _ _ _ _ c.loop-statement.exits _ none c.loop-statement.invariant

-- the branches of a choice

pub check_branches-loop-branch-init : goal.check_branches-loop-branch-init
check_branches-loop-branch-init g c =
    begin_branches c.args.context.now.modules.now (protocol_at c.args.context.now) (enclosing_names c.args.recs.now) (blocks_of c.args.branches.now) c.requires.part

pub check_branches-check_block-requires : goal.check_branches-check_block-requires
check_branches-check_block-requires g c =
    let more = blocks_more c.args.branches.now c.loop-branch.branch-index c.branch-item.result c.loop-branch-test.true c.branch-item.is in
    let most = at_most size-Block c.args.branches.now c.loop-branch.branch-index c.branch-item.result c.loop-branch-test.true in
    let same = ap size-Block c.branch-item.is in
    let size = size_is-Block c.branch-item.result in
    let body = ap (most_of size-Statement) c.as_slice.ensures in
    (search (rules, most, same, size, body), (c.requires.consistent, subst (λ x. IsPart (protocol_at c.args.context.now) (enclosing_names c.args.recs.now) (body_of x)) (sym c.as_slice.ensures) (branch_part _ _ _ _ c.loop-branch.exits _ _ _ _ more c.loop-branch.invariant)))

pub check_branches-loop-branch-preserved : goal.check_branches-loop-branch-preserved
check_branches-loop-branch-preserved g c =
    let more = blocks_more c.args.branches.now c.loop-branch.branch-index c.branch-item.result c.loop-branch-test.true c.branch-item.is in
    step_branches _ _ _ _ c.loop-branch.exits c.in_ok-leaves.leaves _ _ _ _ _ more c.loop-branch.invariant (subst (λ x. BlockKeeps c.args.context.now.modules.now (protocol_at c.args.context.now) (enclosing_names c.args.recs.now) true (body_of x) c.in_ok-leaves.leaves) c.as_slice.ensures c.in_ok-leaves.ensures) refl

pub check_branches-returns : goal.check_branches-returns
check_branches-returns g c =
    let none = ap blocks_of (drop_all c.loop-branch.branch-index c.args.branches.now c.loop-branch-test.false) in
    end_branches _ _ _ _ c.loop-branch.exits _ none c.loop-branch.invariant

-- a statement

pub check_statement-check_message-requires : goal.check_statement-check_message-requires
check_statement-check_message-requires g c =
    let same = ap statement_of c.in-Message.is ∙ message_of c.in-Message.message c.in-Message.from c.in-Message.to c.in-Message.spot ∙ ap (λ qs. Sends c.in-Message.message c.in-Message.from qs c.in-Message.spot) (sym c.as_slice.ensures) in
    (c.in-Message.message, occurs_as _ _ _ _ _ c.requires.part.1 same)

pub check_statement-returns-in_ok-check_message-in-Message : goal.check_statement-returns-in_ok-check_message-in-Message
check_statement-returns-in_ok-check_message-in-Message g c =
    let same = ap statement_of c.in-Message.is ∙ message_of c.in-Message.message c.in-Message.from c.in-Message.to c.in-Message.spot ∙ ap (λ qs. Sends c.in-Message.message c.in-Message.from qs c.in-Message.spot) (sym c.as_slice.ensures) in
    keeps_as _ _ _ _ _ _ same (c.in_ok-check_message-in-Message.ensures (enclosing_names c.args.recs.now) c.in-Message.message)

pub check_statement-returns-then-not-has_role : goal.check_statement-returns-then-not-has_role
check_statement-returns-then-not-has_role g c =
    let same = ap statement_of c.in-Choice.is ∙ choice_of c.in-Choice.at c.in-Choice.branches c.in-Choice.spot in
    let none = sym (c.has_role.ensures ∙ ap (λ rs. has_role c.in-Choice.at (role_names rs)) c.as_slice-in-Choice.ensures) ∙ c.if-not-has_role.true in
    rw c.broken.ensures (λ root. choice (occurs_as _ _ _ _ _ c.requires.part.1 same) none)

pub check_statement-check_branches-requires : goal.check_statement-check_branches-requires
check_statement-check_branches-requires g c =
    let same = ap statement_of c.in-Choice.is ∙ choice_of c.in-Choice.at c.in-Choice.branches c.in-Choice.spot in
    (search (rules, sized-Choice, sized-Rec), (c.requires.consistent, subst (λ x. AreParts (protocol_at c.args.context.now) (enclosing_names c.args.recs.now) (blocks_of x)) (sym c.as_slice-in-Choice-2.ensures) (choice_parts (protocol_at c.args.context.now) (enclosing_names c.args.recs.now) _ _ _ _ _ c.requires.part.1 same)))

pub check_statement-returns-in_ok-exits-in-Choice : goal.check_statement-returns-in_ok-exits-in-Choice
check_statement-returns-in_ok-exits-in-Choice g c =
    let same = ap statement_of c.in-Choice.is ∙ choice_of c.in-Choice.at c.in-Choice.branches c.in-Choice.spot in
    let some = sym (c.has_role.ensures ∙ ap (λ rs. has_role c.in-Choice.at (role_names rs)) c.as_slice-in-Choice.ensures) ∙ c.if-not-has_role.false in
    choice_keeps _ _ _ _ _ _ _ _ _ same (ap blocks_of c.as_slice-in-Choice-2.ensures) some c.in_ok-exits-in-Choice.ensures

pub check_statement-check_block-requires : goal.check_statement-check_block-requires
check_statement-check_block-requires g c =
    let same = ap statement_of c.in-Rec.is ∙ rec_of c.in-Rec.name c.in-Rec.body c.in-Rec.spot in
    (search (rules, sized-Choice, sized-Rec), (c.requires.consistent, rec_part (protocol_at c.args.context.now) (enclosing_names c.args.recs.now) _ _ _ _ _ _ _ c.requires.part.1 same (ap enclosing_names c.deref.ensures.value ∙ c.in_ok-inner-in-Rec.ensures) (ap body_of c.as_slice-in-Rec.ensures)))

pub check_statement-returns-in_ok-exits-in-Rec : goal.check_statement-returns-in_ok-exits-in-Rec
check_statement-returns-in_ok-exits-in-Rec g c =
    let same = ap statement_of c.in-Rec.is ∙ rec_of c.in-Rec.name c.in-Rec.body c.in-Rec.spot in
    rec_keeps _ _ _ _ _ _ _ _ _ _ same (ap enclosing_names c.deref.ensures.value ∙ c.in_ok-inner-in-Rec.ensures) (ap body_of c.as_slice-in-Rec.ensures) c.in_ok-exits-in-Rec.ensures

pub check_statement-returns-then-not-is_enclosing : goal.check_statement-returns-then-not-is_enclosing
check_statement-returns-then-not-is_enclosing g c =
    let same = ap statement_of c.in-Continue.is ∙ continue_of c.in-Continue.name c.in-Continue.spot in
    rw c.broken-then-not-is_enclosing.ensures (λ root. loose_as _ _ _ _ _ _ c.requires.part.1 same (sym c.is_enclosing.ensures ∙ c.if-not-is_enclosing.true))

pub check_statement-returns-else-not-is_enclosing : goal.check_statement-returns-else-not-is_enclosing
check_statement-returns-else-not-is_enclosing g c =
    let same = ap statement_of c.in-Continue.is ∙ continue_of c.in-Continue.name c.in-Continue.spot in
    continue_keeps _ _ _ _ _ _ same (sym c.is_enclosing.ensures ∙ c.if-not-is_enclosing.false)

pub check_statement-check_call-requires-clause-occurs : goal.check_statement-check_call-requires-clause-occurs
check_statement-check_call-requires-clause-occurs g c =
    let same = ap statement_of c.in-Do.is ∙ do_of c.in-Do.protocol c.in-Do.roles c.in-Do.spot ∙ ap (λ qs. Calls c.in-Do.protocol qs c.in-Do.spot) (sym c.as_slice-in-Do.ensures) in
    occurs_as _ _ _ _ _ c.requires.part.1 same

pub check_statement-returns-in_ok-called-in-Do : goal.check_statement-returns-in_ok-called-in-Do
check_statement-returns-in_ok-called-in-Do g c =
    let same = ap statement_of c.in-Do.is ∙ do_of c.in-Do.protocol c.in-Do.roles c.in-Do.spot ∙ ap (λ qs. Calls c.in-Do.protocol qs c.in-Do.spot) (sym c.as_slice-in-Do.ensures) in
    keeps_as _ _ _ _ _ _ same (c.in_ok-called-in-Do.ensures.keeps (enclosing_names c.args.recs.now))
