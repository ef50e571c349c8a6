use Rattle.std.proofs.Common.{refl, sym}
use Rattle.scrib_core.specs.declared.reply.Reply.TheVariants as reply
use Rattle.scrib_reported.specs.CountedCores.{state_of}
use Rattle.scrib_reported.specs.Monitors.{state_in}
use Rattle.scrib_reported.proofs.StepLemmas.{not_refused}
use Rattle.scrib_reported.proofs.reporting_monitor.ReportingMonitor.push_other.Goals as goal

pub push_accepted-requires : goal.push_accepted-requires
push_accepted-requires c = not_refused c.apply.result c.in_default.not-Refused

pub returns-in_ok-push_refusal-in-Refused-clause-ok : goal.returns-in_ok-push_refusal-in-Refused-clause-ok
returns-in_ok-push_refusal-in-Refused-clause-ok c = record {
  reply = reply.Refused c.in-Refused.refusal;
  answered = c.in-Refused.ensures.answered;
  adds = c.in_ok-push_refusal-in-Refused.ensures (state_of c.apply.new.self) c.args.step (sym c.concerned-id.ensures);
  counted = c.in-Refused.ensures.counted;
  change_is = refl;
  accepted_is = refl;
}

pub returns-in_ok-change-in_default-clause-ok : goal.returns-in_ok-change-in_default-clause-ok
returns-in_ok-change-in_default-clause-ok c = record {
  reply = c.apply.result;
  answered = c.apply.ensures.answered;
  adds = c.in_ok-change-in_default.ensures.ok (state_in c.args.self.now) (state_of c.apply.new.self) c.args.step (sym c.concerned-id.ensures) c.requires c.apply.ensures.answered;
  counted = c.apply.ensures.counted;
  change_is = c.in_ok-change-in_default.ensures.change;
  accepted_is = sym (not_refused c.apply.result c.in_default.not-Refused);
}
