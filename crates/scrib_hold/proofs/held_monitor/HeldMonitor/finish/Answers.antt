use Rattle.std.proofs.Common.{◌≡◌, ℕ, List, [], ◌++◌, map, length, refl, subst}
use Rattle.std.proofs.lemmas.Result.{err_from_is_err_and}
use Rattle.scrib_script_reader.specs.Scripts.{item_list}
use Rattle.scrib_hold_stage.specs.declared.noted.Noted.{Noted}
use Rattle.scrib_hold_stage.specs.declared.stage.HoldStage.{HoldStage}
use Rattle.scrib_hold_stage.specs.Entries.{Entry, Closings, noted_in}
use Rattle.scrib_hold_stage.specs.PendingClosings.{closings_in}
use Rattle.scrib_hold_stage.specs.Stages as stages
use Rattle.scrib_hold_stage.specs.Stages.{HasStaged, IsFinished}
use Rattle.scrib_hold.specs.HeldScripts.{Asked, event_in}
use Rattle.scrib_hold.specs.NumberedItems.{numbered_at, numbered_event, numbered_closing}
use Rattle.scrib_hold.proofs.SinkLemmas.{gathers_more, fails_extended, fails_after}
use Rattle.scrib_hold.proofs.MonitorLemmas.{ended, failed_with, failed_last, failed_unfinished}
use Rattle.scrib_hold.proofs.held_monitor.HeldMonitor.finish.Goals as goal

pub returns-in_err-counts-clause-err : goal.returns-in_err-counts-clause-err
returns-in_err-counts-clause-err g c =
    let p = err_from_is_err_and c.from_residual.result c.from_residual.ensures.1 in
    rw p.1 (failed_unfinished g.S.ItemSink.carries g.S.ItemSink.gathered c.args.self.now _ refl)

pub returns-in_err-take_released-clause-err : goal.returns-in_err-take_released-clause-err
returns-in_err-take_released-clause-err g c =
    let p = err_from_is_err_and c.from_residual-in_err-take_released.result c.from_residual-in_err-take_released.ensures.1 in
    let old = c.args.self.now in
    let released = c.finish.new.released.items in
    let law = subst (λ (l : List (Noted Asked)). IsFinished event_in (stages.stage_state c.replace-stage.result) l released) c.clear.ensures.items c.in_ok-counts.ensures.law in
    let finished = subst (λ (s : HoldStage Asked). IsFinished event_in (stages.stage_state s) [] released) c.replace-stage.ensures.value law in
    rw p.1 (failed_with g.S.ItemSink.carries g.S.ItemSink.gathered old released finished _
    (fails_extended g.S.ItemSink.carries g.S.ItemSink.gathered old.sink c.take_released.new.sink (map numbered_event released) _ c.in_err-take_released.ensures.err))

pub returns-in_err-take_end-clause-err : goal.returns-in_err-take_end-clause-err
returns-in_err-take_end-clause-err g c =
    let p = err_from_is_err_and c.from_residual-in_err-take_end.result c.from_residual-in_err-take_end.ensures.1 in
    let old = c.args.self.now in
    let released = c.finish.new.released.items in
    let law = subst (λ (l : List (Noted Asked)). IsFinished event_in (stages.stage_state c.replace-stage.result) l released) c.clear.ensures.items c.in_ok-counts.ensures.law in
    let finished = subst (λ (s : HoldStage Asked). IsFinished event_in (stages.stage_state s) [] released) c.replace-stage.ensures.value law in
    rw p.1 (failed_last g.S.ItemSink.carries g.S.ItemSink.gathered old released finished _ c.time-number.result c.end_of.result c.time-number.ensures c.end_of.ensures
    (fails_after g.S.ItemSink.carries g.S.ItemSink.gathered old.sink c.take_released.new.sink c.take_end.new.sink (map numbered_event released)
    (map numbered_closing (closings_in old.pending) ++ numbered_at c.time-number.result (item_list c.end_of.result)) c.in_ok-take_released.ensures.ok c.in_err-take_end.ensures.err))

pub returns-clause-ok : goal.returns-clause-ok
returns-clause-ok g c =
    let old = c.args.self.now in
    let released = c.finish.new.released.items in
    let law = subst (λ (l : List (Noted Asked)). IsFinished event_in (stages.stage_state c.replace-stage.result) l released) c.clear.ensures.items c.in_ok-counts.ensures.law in
    let finished = subst (λ (s : HoldStage Asked). IsFinished event_in (stages.stage_state s) [] released) c.replace-stage.ensures.value law in
    let counted =
    subst (λ (s : HoldStage Asked). (bound : ℕ) (entries : List (Entry Asked)) (closed : Closings) (earlier expired : List (Noted Asked)) → HasStaged event_in bound entries closed earlier expired (stages.stage_state s)
    → (c.in_ok-counts.counts.events ≡ length (noted_in entries)) × (c.in_ok-counts.counts.expired ≡ length expired)) c.replace-stage.ensures.value c.in_ok-counts.ensures.counts in
    ended g.S.ItemSink.carries g.S.ItemSink.gathered old released finished _ c.in_ok-counts.counts c.time-number.result c.end_of.result c.time-number.ensures c.end_of.ensures counted
    (gathers_more g.S.ItemSink.carries g.S.ItemSink.gathered old.sink c.take_released.new.sink c.take_end.new.sink (map numbered_event released)
    (map numbered_closing (closings_in old.pending) ++ numbered_at c.time-number.result (item_list c.end_of.result)) c.in_ok-take_released.ensures.ok c.in_ok-take_end.ensures.ok)
