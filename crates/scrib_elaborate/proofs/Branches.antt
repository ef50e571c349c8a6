-- Several branches, by their number.
use Rattle.std.proofs.Common.{◌≡◌, ◌<◌, ◌≤◌, true, false, List, [], ◌∷◌, length, refl, arith}
use Rattle.scrib_types.specs.declared.message.Message.{Message}
use Rattle.scrib_types.specs.declared.global.GlobalType.{GlobalType}
use Rattle.scrib_types.specs.GlobalView.{global_branches}
use Rattle.scrib_elaborate.specs.Sites.{has_several}

pub several_many : (bs : List (Message × GlobalType)) → 1 < length bs → has_several (global_branches bs) ≡ true
several_many [] h = absurd (omega arith)
several_many (b ∷ []) h = absurd (omega arith)
several_many (b ∷ c ∷ bs) h = refl

pub several_few : (bs : List (Message × GlobalType)) → length bs ≤ 1 → has_several (global_branches bs) ≡ false
several_few [] h = refl
several_few (b ∷ []) h = refl
several_few (b ∷ c ∷ bs) h = absurd (omega arith)
