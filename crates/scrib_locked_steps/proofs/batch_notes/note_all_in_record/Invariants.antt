use Rattle.std.proofs.Common.{◌≡◌, length}
use Rattle.std.specs.Prelude.{vec_capacity}
use Rattle.std.specs.Option.{option_copied}
use Rattle.scrib_record.specs.Comparisons.{ServesFor}
use Rattle.scrib_locked_steps.specs.Noting.{AnswersIn}
use Rattle.scrib_locked_steps.specs.OneByOne.{OneByOne}
use Rattle.scrib_locked_steps.specs.Passes.{newest_of}
use Rattle.scrib_locked_steps.specs.Receipts.{IsFirstMismatch}
use Rattle.scrib_locked_steps.proofs.batch_notes.note_all_in_record.Given as goal

abbrev pub invariant-loop-event : goal.invariant-loop-event
invariant-loop-event l = record {
  answered : OneByOne (AnswersIn (option_copied l.present)) (l.initial.conversation, l.initial.pass) l.yielded l.answers.items (l.conversation, l.pass);
  mismatch : IsFirstMismatch l.conversation.log (newest_of l.pass.receipts) l.checks.mismatch;
  serves : ServesFor l.checks.comparison (option_copied l.present) l.conversation.held;
  each : length l.answers.items ≡ length l.yielded;
  room : vec_capacity l.answers ≡ vec_capacity l.fn.batch.room;
}
