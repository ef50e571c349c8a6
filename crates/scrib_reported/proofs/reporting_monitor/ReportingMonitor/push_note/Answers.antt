use Rattle.std.proofs.Common.{◌∙◌}
use Rattle.scrib_reported.specs.CountedCores.{state_of}
use Rattle.scrib_core.specs.ReplyValues.{note_reply_of}
use Rattle.scrib_reported.specs.Monitors.{state_in}
use Rattle.scrib_reported.proofs.StepLemmas.{note_accepted, note_change, note_reported}
use Rattle.scrib_reported.proofs.reporting_monitor.ReportingMonitor.push_note.Goals as goal

pub push_noted-requires : goal.push_noted-requires
push_noted-requires c =
    note_reported (state_in c.args.self.now) (state_of c.note_event-noted.new.self) c.args.id c.args.event c.note_event-noted.result c.note_event-noted.ensures.answered

pub returns-clause-ok : goal.returns-clause-ok
returns-clause-ok c = record {
  reply = note_reply_of c.args.id c.note_event-noted.result;
  answered = c.note_event-noted.ensures.answered;
  adds = c.in_ok-push_noted.ensures c.args.event;
  counted = c.note_event-noted.ensures.counted;
  change_is = note_change c.args.id c.note_event-noted.result;
  accepted_is = c.is_ok-accepted.ensures.value ∙ note_accepted c.args.id c.note_event-noted.result;
}
