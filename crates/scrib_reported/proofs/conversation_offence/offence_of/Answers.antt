use Rattle.std.proofs.Common.{Option, ◌∙◌, subst}
use Rattle.scrib_types.specs.declared.event.Verdict.TheVariants.{Offence}
use Rattle.scrib_offences.specs.declared.explained_offence.ExplainedOffence.{ExplainedOffence}
use Rattle.scrib_offences.specs.ExplainedOffences.{ExplainsRecord}
use Rattle.scrib_reported.specs.Kept.{keeping}
use Rattle.scrib_reported.proofs.OffenceLemmas.{has_record, is_explained, offence_found}
use Rattle.scrib_reported.proofs.conversation_offence.offence_of.Goals as goal

pub unreachable-requires : goal.unreachable-requires
unreachable-requires c = has_record c.args.core.now c.args.id (Offence c.requires.0 c.requires.1 c.args.allowed) c.requires.2 c.in_default.ensures

pub unreachable-requires-in_default-2 : goal.unreachable-requires-in_default-2
unreachable-requires-in_default-2 c =
    is_explained c.args.core.now c.args.id c.in-Some.record.now c.in-Some.ensures c.requires.0 c.requires.1 c.args.allowed c.requires.2
    (subst (λ (o : Option ExplainedOffence). ExplainsRecord c.in-Some.record.now o) c.in_default-2.is c.in_ok-explained.ensures)

pub returns : goal.returns
returns c = λ place role reported.
    offence_found c.args.core.now c.args.id c.in-Some.record.now c.in-Some.ensures place role c.args.allowed reported (keeping c.args.kept.now c.args.id).lines c.in-Some-2.explained
    (subst (λ (o : Option ExplainedOffence). ExplainsRecord c.in-Some.record.now o) c.in-Some-2.is c.in_ok-explained.ensures)
    c.in_ok-protocol.protocol (c.in_ok-protocol.ensures ∙ c.name.ensures) c.line_at-line.result c.line_at-line.ensures
