use Rattle.scrib_types.specs.Meaning.{agreement_of}
use Rattle.scrib_global.proofs.LogPrefixes.{true_part}
use Rattle.scrib_global.proofs.JudgementLemmas.{first_none, first_more, first_all}
use Rattle.scrib_global.proofs.permitted.first_offence.Goals as goal

pub loop-i-init : goal.loop-i-init
loop-i-init c = first_none (agreement_of c.args.protocol.now) c.args.protocol.now.valid c.args.log.now

pub loop-i-preserved : goal.loop-i-preserved
loop-i-preserved c =
    first_more (agreement_of c.args.protocol.now) c.args.log.now c.loop-i.i c.loop-i.invariant (true_part c.in_ok-is_permitted.field-0 c.in_ok-is_permitted.ensures c.if-not-branch.false)

pub returns : goal.returns
returns c = first_all (agreement_of c.args.protocol.now) c.args.log.now c.loop-i.i c.loop-i-test.false c.loop-i.invariant
