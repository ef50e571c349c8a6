-- The first two bytes of a line that has a meaning (this project's own). Only contracts of private functions cite this
-- file.
use Rattle.std.specs.Prelude.{ℕ, Bool, ◌&&◌, ◌||◌, ◌==◌}

-- a line that has a meaning may begin with these two bytes: with a blank, a `#`, or the first two of its word
abbrev pub may_begin : (first second : ℕ) → Bool
may_begin first second =
    (first == 32) || (first == 9) || (first == 35)
    || (first == 97 && second == 115)
    || (first == 99 && second == 108)
    || (first == 106 && (second == 115 || second == 111))
    || (first == 112 && (second == 117 || second == 114))
    || (first == 115 && (second == 101 || second == 119))
    || (first == 114 && second == 101)
    || (first == 111 && second == 112)
    || (first == 116 && second == 117)
    || (first == 119 && second == 105)
