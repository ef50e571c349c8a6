use Rattle.std.proofs.Common.{◌≡◌, ◌<◌, ◌+◌, ◌++◌, ◌∷◌, [], length, take, sym, ap, ◌∙◌, arith}
use Rattle.std.proofs.lemmas.Grind.{common_steps}
use Rattle.std.proofs.lemmas.List.{take_more}
use Rattle.scrib_core.specs.declared.step.Step.{Step}
use Rattle.scrib_core.specs.Held.{world_of, state_of}
use Rattle.scrib_core.proofs.Runs.{permits_runs}
use Rattle.scrib_core.proofs.Steps.{answers_push, held_push}
use Rattle.scrib_core.proofs.monitor.Core.run.Goals as goal

pub loop-step-preserved : goal.loop-step-preserved
loop-step-preserved c =
    let steps = c.args.steps.now in
    let i = c.loop-step.step-index in
    let within : c.loop-step.step-index < length c.args.steps.now = omega arith in
    let taken : take (c.loop-step.step-index + 1) c.args.steps.now ≡ take c.loop-step.step-index c.args.steps.now ++ c.step-item.result ∷ [] =
    take_more steps i c.step-item.result within ∙ ap (λ (s : Step). take i steps ++ s ∷ []) (sym c.step-item.is) in
    let more = answers_push (take i steps) c.loop-step.replies.items (state_of c.args.self.now) (state_of c.loop-step.self) (state_of c.apply_ref-reply.new.self) c.step-item.result c.apply_ref-reply.result
    c.loop-step.invariant.answered c.apply_ref-reply.ensures.answered c.apply_ref-reply.ensures.memory in
    let kept = held_push (take i steps) c.loop-step.replies.items c.args.self.now c.loop-step.self c.apply_ref-reply.new.self c.step-item.result c.apply_ref-reply.result
    c.loop-step.invariant.held c.apply_ref-reply.ensures.answered c.apply_ref-reply.ensures.memory c.apply_ref-reply.ensures.refused in
    record {
      answered = rw (taken, c.push_reserved.ensures.items) more;
      held = rw (taken, c.push_reserved.ensures.items) kept;
      room = omega (arith, c.push_reserved.ensures.capacity, c.loop-step.invariant.room);
      count = omega (arith, c.push_reserved.ensures.len, c.loop-step.invariant.count);
    }

pub returns-in_err-replies-clause-runs : goal.returns-in_err-replies-clause-runs
returns-in_err-replies-clause-runs c = rw (sym c.self.view_is) (permits_runs (world_of c.self.inside.library c.self.inside.records.entries) c.means_protocols.ensures)

pub returns-clause-runs : goal.returns-clause-runs
returns-clause-runs c = rw (sym c.self-2.view_is) (permits_runs (world_of c.self-2.inside.library c.self-2.inside.records.entries) c.means_protocols-2.ensures)

pub returns-clause-answered : goal.returns-clause-answered
returns-clause-answered c = grind (arith, common_steps)

pub returns-clause-held : goal.returns-clause-held
returns-clause-held c = grind (arith, common_steps)
