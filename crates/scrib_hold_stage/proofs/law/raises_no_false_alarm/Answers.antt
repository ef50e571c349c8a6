use Rattle.scrib_hold_stage.specs.Changes.{conversation_at}
use Rattle.scrib_hold_stage.specs.Entries.{noted_since, noted_in, opening_since}
use Rattle.scrib_hold_stage.specs.Stages.{stage_state}
use Rattle.scrib_hold_stage.proofs.FinishLemmas.{no_alarm_yet}
use Rattle.scrib_hold_stage.proofs.law.raises_no_false_alarm.Goals as goal

pub returns : goal.returns
returns g c = λ bound entries closed released expired a id n opened unexpired.
    no_alarm_yet g.A.Arrival.event bound n (opening_since (closed id) id entries) (noted_since (closed id) id (noted_in entries)) (noted_since (closed id) id released) (noted_since (closed id) id expired)
    (conversation_at (stage_state c.args.stage.now).conversations id) (a.kept.held id) opened unexpired
