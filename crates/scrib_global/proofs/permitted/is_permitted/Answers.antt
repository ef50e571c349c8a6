use Rattle.scrib_types.specs.Meaning.{agreement_of}
use Rattle.scrib_types.specs.GlobalView.{global_of}
use Rattle.scrib_global.proofs.LogPrefixes.{not_whole, true_part}
use Rattle.scrib_global.proofs.JudgementLemmas.{permitted_traced, permitted_from}
use Rattle.scrib_global.proofs.permitted.is_permitted.Goals as goal

pub returns-then-not-branch : goal.returns-then-not-branch
returns-then-not-branch c =
    not_whole c.in_ok-all_traced.field-0 c.in_ok-all_traced.ensures c.if-not-branch.true (permitted_traced (agreement_of c.args.protocol.now) c.args.log.now (global_of c.global.result.now) c.roles-roles.result.now c.global.ensures.global c.roles-roles.ensures.roles)

pub returns : goal.returns
returns c =
    permitted_from (agreement_of c.args.protocol.now) c.args.log.now (global_of c.global.result.now) c.roles-roles.result.now c.is_queued.result c.global.ensures.global c.roles-roles.ensures.roles
    (true_part c.all_joined.result c.all_joined.ensures c.if-not-all_joined.false) (true_part c.in_ok-all_traced.field-0 c.in_ok-all_traced.ensures c.if-not-branch.false) c.is_queued.ensures
