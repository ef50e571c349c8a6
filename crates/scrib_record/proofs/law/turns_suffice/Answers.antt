use Rattle.scrib_record.specs.Turns.{new_fresh, enough_turns}
use Rattle.scrib_record.proofs.law.turns_suffice.Goals as goal

pub returns : goal.returns
returns c = record { new = new_fresh; enough = enough_turns }
