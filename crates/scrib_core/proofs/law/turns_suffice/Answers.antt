use Rattle.scrib_core.proofs.TurnLemmas.{stays_fresh, turns_suffice}
use Rattle.scrib_core.proofs.law.turns_suffice.Goals as goal

pub returns : goal.returns
returns c = record { stays = stays_fresh; enough = turns_suffice }
