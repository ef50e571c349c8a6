-- Frames whose recursions have levels below a number (this project's own).
-- Only contracts of private functions cite this file.
use Rattle.std.specs.Prelude.{ℕ, ◌<◌, List, [], ◌∷◌}
use Rattle.scrib_static_checks.specs.Elaboration.{Frames, NoFrame, Under}

-- all levels in the frames are below n

abbrev pub LevelsBelow : (n : ℕ) → List (List ℕ × ℕ) → Type 0
LevelsBelow n [] = Unit {0}
LevelsBelow n (r ∷ rs) = (r.1 < n) × LevelsBelow n rs

abbrev pub AreBelow : (n : ℕ) → Frames → Type 0
AreBelow n NoFrame = Unit {0}
AreBelow n (Under sc b fs) = LevelsBelow n sc.recs × AreBelow n fs
