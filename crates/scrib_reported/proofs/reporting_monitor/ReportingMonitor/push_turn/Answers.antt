use Rattle.std.proofs.Common.{refl}
use Rattle.scrib_core.specs.declared.reply.Reply.TheVariants as reply
use Rattle.scrib_core.specs.declared.step.Step.TheVariants.{Turn}
use Rattle.scrib_reported.specs.CountedCores.{state_of}
use Rattle.scrib_reported.specs.Monitors.{state_in}
use Rattle.scrib_reported.proofs.StepLemmas.{turn_replies}
use Rattle.scrib_reported.proofs.reporting_monitor.ReportingMonitor.push_turn.Goals as goal

pub push_turned-requires : goal.push_turned-requires
push_turned-requires c = c.in-Judged.ensures.answered.replies.1.reported

pub returns-in_ok-push_turned-in-Judged-clause-ok : goal.returns-in_ok-push_turned-in-Judged-clause-ok
returns-in_ok-push_turned-in-Judged-clause-ok c = record {
  reply = reply.Judged c.in-Judged.id c.in-Judged.name c.in-Judged.events c.in-Judged.told;
  answered = c.in-Judged.ensures.answered;
  adds = c.in_ok-push_turned-in-Judged.ensures c.in-Judged.id c.in-Judged.events;
  counted = c.in-Judged.ensures.counted;
  change_is = refl;
  accepted_is = refl;
}

pub returns-in_ok-push_refusal-in-Refused-clause-ok : goal.returns-in_ok-push_refusal-in-Refused-clause-ok
returns-in_ok-push_refusal-in-Refused-clause-ok c = record {
  reply = reply.Refused c.in-Refused.refusal;
  answered = c.in-Refused.ensures.answered;
  adds = c.in_ok-push_refusal-in-Refused.ensures (state_of c.apply.new.self) (Turn c.args.id) refl;
  counted = c.in-Refused.ensures.counted;
  change_is = refl;
  accepted_is = refl;
}

pub unreachable-requires : goal.unreachable-requires
unreachable-requires c = turn_replies (state_in c.args.self.now) (state_of c.apply.new.self) c.args.id c.apply.result c.apply.ensures.answered c.in_default.not-Judged c.in_default.not-Refused
