use Rattle.std.proofs.Common.{◌∙◌, ◌++◌, ◌∷◌, [], ℕ, List, refl, sym, ap}
use Rattle.scrib_holdback.proofs.SlotLemmas.{positions_read, has_positions}
use Rattle.scrib_holdback.proofs.WaitingLemmas.{on_err}
use Rattle.scrib_holdback.proofs.lanes.push_position.Goals as goal

pub returns-in_err-push_back-clause-err : goal.returns-in_err-push_back-clause-err
returns-in_err-push_back-clause-err c =
    let lane = c.index_mut-lane.result.now in
    let at = positions_read c.args.lanes.now.items c.args.place lane c.requires c.index_mut-lane.ensures.value in
    on_err c.from_residual.result _
    (has_positions c.args.lanes.now.items c.args.place lane record { role = lane.role; positions = c.push_back.new.self } _ c.requires c.index_mut-lane.ensures.value refl
    (c.in_err-push_back.ensures.items ∙ sym at))

pub returns-clause-ok : goal.returns-clause-ok
returns-clause-ok c =
    let lane = c.index_mut-lane.result.now in
    let at = positions_read c.args.lanes.now.items c.args.place lane c.requires c.index_mut-lane.ensures.value in
    has_positions c.args.lanes.now.items c.args.place lane record { role = lane.role; positions = c.push_back.new.self } _ c.requires c.index_mut-lane.ensures.value refl
    (c.in_ok-push_back.ensures.items ∙ ap (λ (z : List ℕ). z ++ c.args.position ∷ []) (sym at))
