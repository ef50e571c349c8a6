use Rattle.std.proofs.Common.{refl}
use Rattle.scrib_held_labels.proofs.held_stage.HeldStage.has_left.Goals as goal

pub returns-else-is_open : goal.returns-else-is_open
returns-else-is_open c = λ f. (c.if-is_open.ensures refl, c.has_left.ensures f)
