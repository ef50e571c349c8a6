use Rattle.std.proofs.Common.{◌≡◌, None, length}
use Rattle.std.specs.Prelude.{vec_capacity}
use Rattle.scrib_library.specs.Holdings.{Holdings}
use Rattle.scrib_core.specs.Held.{Records, record_at}
use Rattle.scrib_locked_steps.specs.OneByOne.{OneByOne}
use Rattle.scrib_locked_steps.specs.Passing.{AnswersBy}
use Rattle.scrib_locked_steps.proofs.batch_notes.refuse_all.Given as goal

abbrev pub invariant-loop-event : goal.invariant-loop-event
invariant-loop-event l = record {
  answered : (h : Holdings) (rs : Records) → record_at rs l.pass.conversation ≡ None → OneByOne (AnswersBy h) (rs, l.pass) l.yielded l.answers.items (rs, l.pass);
  each : length l.answers.items ≡ length l.yielded;
  room : vec_capacity l.answers ≡ vec_capacity l.fn.batch.room;
}
