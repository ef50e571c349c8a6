use Rattle.std.proofs.Common.{◌∙◌, Some, sym, ap, eqb-true}
use Rattle.std.proofs.lemmas.Option.{slice_get-get_or}
use Rattle.scrib_hold_stage.proofs.stage.is_at.Goals as goal

pub returns-in-Some : goal.returns-in-Some
returns-in-Some g c = λ same. (
  c.in-Some.noted.now,
  slice_get-get_or c.args.released.now c.args.index c.in-Some.noted.now c.in-Some.ensures.lookup.3.0 ∙ ap Some (sym c.in-Some.ensures.lookup.1),
  eqb-true c.in-Some.noted.now.time c.args.time same,
)
