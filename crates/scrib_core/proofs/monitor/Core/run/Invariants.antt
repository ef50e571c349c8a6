use Rattle.std.proofs.Common.{◌≡◌, ◌≤◌, length, take, vec_len, vec_capacity}
use Rattle.scrib_core.specs.Answers.{AnswersAsDue}
use Rattle.scrib_core.specs.Held.{state_of, AnswersHeld}
use Rattle.scrib_core.proofs.monitor.Core.run.Given as goal

abbrev pub invariant-loop-step : goal.invariant-loop-step
invariant-loop-step l = record {
  answered : AnswersAsDue (state_of l.fn.self) (take l.step-index l.steps) l.replies.items (state_of l.self);
  held : AnswersHeld l.fn.self (take l.step-index l.steps) l.replies.items l.self;
  room : length l.steps ≤ vec_capacity l.replies;
  count : vec_len l.replies ≡ l.step-index;
}
