use Rattle.std.proofs.Common.{◌≡◌, ℕ, List, [], length, refl, subst}
use Rattle.std.proofs.lemmas.Result.{err_from_is_err_and}
use Rattle.scrib_hold_stage.specs.declared.noted.Noted.{Noted}
use Rattle.scrib_hold_stage.specs.declared.stage.HoldStage.{HoldStage}
use Rattle.scrib_hold_stage.specs.Entries.{Entry, Closings, noted_in}
use Rattle.scrib_hold_stage.specs.Stages as stages
use Rattle.scrib_hold_stage.specs.Stages.{HasStaged, IsFinished}
use Rattle.scrib_hold.specs.HeldScripts.{Asked, event_in}
use Rattle.scrib_hold_lines.proofs.StageLemmas.{ended, failed_last, failed_closings, failed_text, failed_unfinished}
use Rattle.scrib_hold_lines.proofs.held_lines.HeldLines.finish.Goals as goal

pub returns-in_err-counts-clause-err : goal.returns-in_err-counts-clause-err
returns-in_err-counts-clause-err c =
    let p = err_from_is_err_and c.from_residual.result c.from_residual.ensures.1 in
    rw p.1 (failed_unfinished c.args.self.now _ refl)

pub returns-in_err-append_released-clause-err : goal.returns-in_err-append_released-clause-err
returns-in_err-append_released-clause-err c =
    let p = err_from_is_err_and c.from_residual-in_err-append_released.result c.from_residual-in_err-append_released.ensures.1 in
    let law = subst (λ (l : List (Noted Asked)). IsFinished event_in (stages.stage_state c.replace-stage.result) l c.finish.new.released.items) c.clear.ensures.items c.in_ok-counts.ensures.law in
    let finished = subst (λ (s : HoldStage Asked). IsFinished event_in (stages.stage_state s) [] c.finish.new.released.items) c.replace-stage.ensures.value law in
    rw p.1 (failed_last c.args.self.now c.finish.new.released.items finished _ c.in_err-append_released.ensures.err)

pub returns-in_err-append_closings-clause-err : goal.returns-in_err-append_closings-clause-err
returns-in_err-append_closings-clause-err c =
    let p = err_from_is_err_and c.from_residual-in_err-append_closings.result c.from_residual-in_err-append_closings.ensures.1 in
    let law = subst (λ (l : List (Noted Asked)). IsFinished event_in (stages.stage_state c.replace-stage.result) l c.finish.new.released.items) c.clear.ensures.items c.in_ok-counts.ensures.law in
    let finished = subst (λ (s : HoldStage Asked). IsFinished event_in (stages.stage_state s) [] c.finish.new.released.items) c.replace-stage.ensures.value law in
    rw p.1 (failed_closings c.args.self.now c.finish.new.released.items finished _ c.append_released.new.output.items c.in_ok-append_released.ensures.ok c.in_err-append_closings.ensures.err)

pub returns-in_err-append_end-clause-err : goal.returns-in_err-append_end-clause-err
returns-in_err-append_end-clause-err c =
    let p = err_from_is_err_and c.from_residual-in_err-append_end.result c.from_residual-in_err-append_end.ensures.1 in
    let law = subst (λ (l : List (Noted Asked)). IsFinished event_in (stages.stage_state c.replace-stage.result) l c.finish.new.released.items) c.clear.ensures.items c.in_ok-counts.ensures.law in
    let finished = subst (λ (s : HoldStage Asked). IsFinished event_in (stages.stage_state s) [] c.finish.new.released.items) c.replace-stage.ensures.value law in
    rw p.1 (failed_text c.args.self.now c.finish.new.released.items finished _ c.append_released.new.output.items c.append_closings.new.output.items c.in_ok-append_released.ensures.ok c.in_ok-append_closings.ensures.ok c.in_err-append_end.ensures.err)

pub returns-clause-ok : goal.returns-clause-ok
returns-clause-ok c =
    let law = subst (λ (l : List (Noted Asked)). IsFinished event_in (stages.stage_state c.replace-stage.result) l c.finish.new.released.items) c.clear.ensures.items c.in_ok-counts.ensures.law in
    let finished = subst (λ (s : HoldStage Asked). IsFinished event_in (stages.stage_state s) [] c.finish.new.released.items) c.replace-stage.ensures.value law in
    let counted =
    subst (λ (s : HoldStage Asked). (bound : ℕ) (entries : List (Entry Asked)) (closed : Closings) (earlier expired : List (Noted Asked)) → HasStaged event_in bound entries closed earlier expired (stages.stage_state s)
    → (c.in_ok-counts.counts.events ≡ length (noted_in entries)) × (c.in_ok-counts.counts.expired ≡ length expired)) c.replace-stage.ensures.value c.in_ok-counts.ensures.counts in
    ended c.args.self.now c.finish.new.released.items finished _ c.in_ok-counts.counts c.append_released.new.output.items c.append_closings.new.output.items counted c.in_ok-append_released.ensures.ok c.in_ok-append_closings.ensures.ok c.in_ok-append_end.ensures.ok
