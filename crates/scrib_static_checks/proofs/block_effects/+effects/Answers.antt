use denote.Param.Weighed.{at_most, most as most_of}
use Rattle.scrib_tree.specs.declared.tree.Block.{Block}
use Rattle.scrib_tree.specs.declared.tree.Statement.TheViews.{size-Statement, size-Block, size_is-Block, sized-Choice, sized-Rec}
use Rattle.std.proofs.Common.{rules, length, ◌<◌, sym, ap, ◌∙◌, subst, arith}
use Rattle.std.proofs.lemmas.List.{drop_all}
use Rattle.scrib_static_checks.specs.Source.{Chooses, Calls}
use Rattle.scrib_static_checks.specs.SourceView.{statement_of, body_of, blocks_of, message_of, choice_of, rec_of, continue_of, do_of}
use Rattle.scrib_static_checks.specs.Names.{role_names}
use Rattle.scrib_static_checks.specs.CallEffect.{HasEffect, place_of, joining_at, IsGiven}
use Rattle.scrib_static_checks.specs.Table.{protocol_at, IsPartSomewhere}
use Rattle.scrib_static_checks.proofs.Checks.{body_more}
use Rattle.scrib_static_checks.proofs.CallEffectLemmas.{step_effect, end_effect, rec_effect_of, choice_effect_of, message_effect_of, continue_effect_of, several_effect_of, call_effect_of, called_roles, own_place, one_block}
use Rattle.scrib_static_checks.proofs.PartLemmas.{first_somewhere, rest_somewhere, block_somewhere, choice_somewhere, rec_somewhere, step_occurs}
use Rattle.scrib_static_checks.proofs.block_effects.+effects.Goals as goal

-- the statements of a block

pub block_effect-statement_effect-requires : goal.block_effect-statement_effect-requires
block_effect-statement_effect-requires g c =
    let more = body_more c.args.body.now c.loop-statement.statement-index c.statement-item.result c.loop-statement-test.true c.statement-item.is in
    let most = at_most size-Statement c.args.body.now c.loop-statement.statement-index c.statement-item.result c.loop-statement-test.true in
    let same = ap size-Statement c.statement-item.is in
    (search (rules, most, same), (c.requires.consistent, (c.requires.own, first_somewhere (protocol_at c.args.context.now) _ _ _ more c.loop-statement.invariant.part)))

pub block_effect-loop-statement-preserved : goal.block_effect-loop-statement-preserved
block_effect-loop-statement-preserved g c =
    let more = body_more c.args.body.now c.loop-statement.statement-index c.statement-item.result c.loop-statement-test.true c.statement-item.is in
    record {
      effect_so_far = step_effect _ _ _ c.loop-statement.effect c.in_ok-step.step c.before-effect.result _ _ _ more c.before-effect.ensures c.in_ok-step.ensures c.loop-statement.invariant.effect_so_far;
      part = rest_somewhere (protocol_at c.args.context.now) _ _ _ more c.loop-statement.invariant.part;
    }

pub block_effect-returns : goal.block_effect-returns
block_effect-returns g c =
    let none = ap body_of (drop_all c.loop-statement.statement-index c.args.body.now c.loop-statement-test.false) in
    end_effect _ (protocol_at c.args.context.now) _ c.loop-statement.effect _ none c.loop-statement.invariant.effect_so_far

-- a statement

pub statement_effect-block_effect-requires : goal.statement_effect-block_effect-requires
statement_effect-block_effect-requires g c =
    let same = ap statement_of c.in-Choice.is ∙ choice_of c.in-Choice.at c.in-Choice.branches c.in-Choice.spot in
    let one = one_block c.as_slice-branches.result.now c.index-branches-0.result c.if-branches-ne1.false c.index-branches-0.is in
    let within : 0 < length c.as_slice-branches.result.now = omega (arith, c.if-branches-ne1.false) in
    let most = at_most size-Block c.as_slice-branches.result.now 0 c.index-branches-0.result within in
    let here = ap size-Block c.index-branches-0.is in
    let size = size_is-Block c.index-branches-0.result in
    let body = ap (most_of size-Statement) c.as_slice.ensures in
    let blocks = ap (most_of size-Block) c.as_slice-branches.ensures in
    let text = c.as_slice.ensures ∙ ap (λ (b : Block). b.body) (sym c.index-branches-0.is) in
    let parts = choice_somewhere (protocol_at c.args.context.now) _ _ _ _ _ same (ap blocks_of c.as_slice-branches.ensures) c.requires.part in
    (search (rules, sized-Choice, sized-Rec, most, here, size, body, blocks), (c.requires.consistent, (c.requires.own, subst (λ x. IsPartSomewhere (protocol_at c.args.context.now) (body_of x)) (sym text) (block_somewhere (protocol_at c.args.context.now) _ _ _ _ one parts))))

pub statement_effect-block_effect-requires-in-Rec : goal.statement_effect-block_effect-requires-in-Rec
statement_effect-block_effect-requires-in-Rec g c =
    let same = ap statement_of c.in-Rec.is ∙ rec_of c.in-Rec.name c.in-Rec.body c.in-Rec.spot in
    (search (rules, sized-Choice, sized-Rec), (c.requires.consistent, (c.requires.own, rec_somewhere (protocol_at c.args.context.now) _ _ _ _ _ same (ap body_of c.as_slice-in-Rec.ensures) c.requires.part)))

pub statement_effect-check_call-requires-clause-occurs : goal.statement_effect-check_call-requires-clause-occurs
statement_effect-check_call-requires-clause-occurs g c =
    let same = ap statement_of c.in-Do.is ∙ do_of c.in-Do.protocol c.in-Do.roles c.in-Do.spot ∙ ap (λ qs. Calls c.in-Do.protocol qs c.in-Do.spot) (sym c.as_slice-in-Do.ensures) in
    step_occurs (protocol_at c.args.context.now) _ _ same c.requires.part

pub statement_effect-returns-in_ok-inner-in-Choice : goal.statement_effect-returns-in_ok-inner-in-Choice
statement_effect-returns-in_ok-inner-in-Choice g c =
    let d = protocol_at c.args.context.now in
    let same = ap statement_of c.in-Choice.is ∙ choice_of c.in-Choice.at c.in-Choice.branches c.in-Choice.spot in
    let one = ap blocks_of (sym c.as_slice-branches.ensures) ∙ one_block c.as_slice-branches.result.now c.index-branches-0.result c.if-branches-ne1.false c.index-branches-0.is in
    let by = c.joining-outer.ensures ∙ ap (λ rs. joining_at (place_of c.in-Choice.at (role_names rs)) c.args.own c.in-Choice.spot) c.as_slice-declared.ensures in
    let first = own_place c.args.context.now c.args.own c.requires.consistent c.requires.own in
    let text = c.as_slice.ensures ∙ ap (λ (b : Block). b.body) (sym c.index-branches-0.is) in
    let inner = subst (λ b. HasEffect c.args.context.now.modules.now d (body_of b) c.in_ok-inner-in-Choice.inner) text c.in_ok-inner-in-Choice.ensures in
    choice_effect_of _ d _ _ _ _ _ c.in-Choice.spot c.args.own c.joining-outer.result c.in_ok-inner-in-Choice.inner c.before-in-Choice.result same one by first inner c.before-in-Choice.ensures

pub statement_effect-returns-in_ok-effect-in-Rec : goal.statement_effect-returns-in_ok-effect-in-Rec
statement_effect-returns-in_ok-effect-in-Rec g c =
    let same = ap statement_of c.in-Rec.is ∙ rec_of c.in-Rec.name c.in-Rec.body c.in-Rec.spot in
    rec_effect_of _ (protocol_at c.args.context.now) _ _ _ _ _ c.in_ok-effect-in-Rec.effect same (ap body_of c.as_slice-in-Rec.ensures) c.in_ok-effect-in-Rec.ensures

pub statement_effect-returns-in_ok-called-in-Do : goal.statement_effect-returns-in_ok-called-in-Do
statement_effect-returns-in_ok-called-in-Do g c =
    let d = protocol_at c.args.context.now in
    let same = ap statement_of c.in-Do.is ∙ do_of c.in-Do.protocol c.in-Do.roles c.in-Do.spot ∙ ap (λ qs. Calls c.in-Do.protocol qs c.in-Do.spot) (sym c.as_slice-in-Do.ensures) in
    let kept = c.in_ok-called-in-Do.ensures in
    let roles = called_roles c.args.context.now _ _ _ c.in_ok-called-in-Do.called kept in
    let again = c.as_slice-in-Do-2.ensures ∙ sym c.as_slice-in-Do.ensures in
    let given = subst (λ rs. IsGiven (role_names rs) c.as_slice-in-Do.result.now c.in_ok-called-in-Do.called.effect c.given.result) c.as_slice-declared.ensures (subst (λ qs. IsGiven (role_names c.as_slice-declared.result.now) qs c.in_ok-called-in-Do.called.effect c.given.result) again c.given.ensures) in
    call_effect_of _ d _ _ _ _ kept.to c.in_ok-called-in-Do.called.effect c.given.result same kept.there roles.0 roles.1 kept.has_effect given

pub statement_effect-returns-in-Message : goal.statement_effect-returns-in-Message
statement_effect-returns-in-Message g c =
    let same = ap statement_of c.in-Message.is ∙ message_of c.in-Message.message c.in-Message.from c.in-Message.to c.in-Message.spot in
    message_effect_of _ (protocol_at c.args.context.now) _ _ _ _ _ same

pub statement_effect-returns-in-Continue : goal.statement_effect-returns-in-Continue
statement_effect-returns-in-Continue g c =
    let same = ap statement_of c.in-Continue.is ∙ continue_of c.in-Continue.name c.in-Continue.spot in
    continue_effect_of _ (protocol_at c.args.context.now) _ _ _ same

pub statement_effect-returns-then-branches-ne1 : goal.statement_effect-returns-then-branches-ne1
statement_effect-returns-then-branches-ne1 g c =
    let same = ap statement_of c.in-Choice.is ∙ choice_of c.in-Choice.at c.in-Choice.branches c.in-Choice.spot ∙ ap (λ bs. Chooses c.in-Choice.at (blocks_of bs) c.in-Choice.spot) (sym c.as_slice-branches.ensures) in
    several_effect_of _ (protocol_at c.args.context.now) _ _ c.as_slice-branches.result.now _ same c.if-branches-ne1.true
