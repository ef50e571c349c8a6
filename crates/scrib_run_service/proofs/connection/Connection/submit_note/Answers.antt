use Rattle.std.proofs.Common.{◌≡◌, ◌++◌, ◌∷◌, [], ◌∙◌, List, refl, ap, arith}
use Rattle.scrib_types.specs.declared.event.Event.{Event}
use Rattle.scrib_run_service.proofs.ConnectionLemmas.{takes_pushed}
use Rattle.scrib_run_service.proofs.connection.Connection.submit_note.Goals as goal

pub returns-clause-took : goal.returns-clause-took
returns-clause-took g c =
    let same : c.args.self.now.pending_id ≡ c.args.id = omega (arith, c.if-self-id.false) in
    let pushed = c.push_reserved.ensures.items ∙ ap (λ (l : List Event). l ++ c.args.event ∷ []) c.make_room.ensures.items in
    takes_pushed c.args.self.now _ c.args.id c.args.event same same pushed refl refl refl
