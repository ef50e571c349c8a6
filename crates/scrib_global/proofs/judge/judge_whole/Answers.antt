use Rattle.std.proofs.Common.{Some, None, ap, ◌∙◌, subst, sym, take}
use Rattle.scrib_types.specs.Judgement.{AreAllowed}
use Rattle.scrib_types.specs.Logs.{subject_of}
use Rattle.scrib_types.specs.Meaning.{agreement_of}
use Rattle.scrib_global.specs.Offences.{FirstOffence}
use Rattle.scrib_global.proofs.JudgementLemmas.{run_verdict, offence_verdict, is_offence}
use Rattle.scrib_global.proofs.judge.judge_whole.Goals as goal

pub returns-in-None-clause-runs : goal.returns-in-None-clause-runs
returns-in-None-clause-runs c =
    let a = agreement_of c.args.protocol.now in
    let first : FirstOffence a c.args.log.now None = subst (FirstOffence a c.args.log.now) c.in-None.is c.in_ok-first_offence.ensures in
    run_verdict a c.args.protocol.now.valid c.args.log.now first

pub returns-in_ok-allowed-in-Some-clause-verdict : goal.returns-in_ok-allowed-in-Some-clause-verdict
returns-in_ok-allowed-in-Some-clause-verdict c =
    let a = agreement_of c.args.protocol.now in
    let first : FirstOffence a c.args.log.now (Some c.in-Some.at) = subst (FirstOffence a c.args.log.now) c.in-Some.is c.in_ok-first_offence.ensures in
    is_offence a c.args.log.now c.in-Some.at c.index-log-at.result c.in_ok-role-in-Some.role c.in_ok-allowed-in-Some.allowed first c.index-log-at.is (c.in_ok-role-in-Some.ensures ∙ c.subject.ensures ∙ ap subject_of c.get.ensures)
    (subst (AreAllowed a (take c.in-Some.at c.args.log.now) c.in_ok-role-in-Some.role) (sym c.in_ok-allowed-in-Some.ensures) c.in_ok-list-in-Some.ensures)

pub returns-in_ok-allowed-in-Some-clause-runs : goal.returns-in_ok-allowed-in-Some-clause-runs
returns-in_ok-allowed-in-Some-clause-runs c =
    let a = agreement_of c.args.protocol.now in
    let first : FirstOffence a c.args.log.now (Some c.in-Some.at) = subst (FirstOffence a c.args.log.now) c.in-Some.is c.in_ok-first_offence.ensures in
    offence_verdict a c.args.protocol.now.valid c.args.log.now c.in-Some.at _ c.in_ok-role-in-Some.role c.in_ok-allowed-in-Some.allowed first
