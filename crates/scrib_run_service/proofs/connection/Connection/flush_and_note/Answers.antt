use Rattle.std.proofs.Common.{◌∷◌, [], refl}
use Rattle.scrib_run_service.specs.Outcomes.{note_items}
use Rattle.scrib_run_service.proofs.ConnectionLemmas.{takes_one, takes_turned}
use Rattle.scrib_run_service.proofs.connection.Connection.flush_and_note.Goals as goal

pub returns-clause-took : goal.returns-clause-took
returns-clause-took g c =
    let m = c.flush.new.self in
    let before = takes_turned c.args.self.now m _ [] c.in_ok-flush.ensures.took c.in_ok-flush.ensures.none c.in_ok-flush.ensures.none refl refl refl in
    takes_one c.note_now.result c.args.self.now _ c.note_now.new.self (note_items c.args.id (c.args.event ∷ [])) before c.in_ok-flush.ensures.none c.note_now.ensures.yielded
