-- Lines that are read without an item, and without fields (this project's own). Only contracts of private functions cite
-- this file.
use Rattle.std.specs.Prelude.{◌≡◌, ℕ, List}
use Rattle.scrib_core.specs.declared.format.Format.TheVariants as format
use Rattle.scrib_core.specs.declared.step.Step.TheVariants.{Note, Ask, Open}
use Rattle.scrib_script_reader.specs.declared.line.Line.{Line}
use Rattle.scrib_script_reader.specs.declared.line.Line.TheVariants as line
use Rattle.scrib_script_reader.specs.declared.plain_line.PlainLine.{PlainLine}
use Rattle.scrib_script_reader.specs.declared.plain_line.PlainLine.TheVariants as plain
use Rattle.scrib_script_reader.specs.declared.short_line.ShortLine.{ShortLine}
use Rattle.scrib_script_reader.specs.declared.short_line.ShortLine.TheVariants as short
use Rattle.scrib_script_reader.specs.Says.{Says}

-- the meaning of a line that needs no fields, among the meanings of all lines
abbrev pub plain_meaning : PlainLine → Line
plain_meaning plain.Skipped = line.Skipped
plain_meaning (plain.Ask id) = line.Step format.Line (Ask id)
plain_meaning plain.Bad = line.Bad

-- line n, which has these bytes without its end, is this short line
abbrev pub IsShort : List ℕ → ℕ → ShortLine → Type 0
IsShort bytes n (short.Note id e) = Says bytes (line.Step format.Line (Note id e))
IsShort bytes n (short.Ask id) = Says bytes (line.Step format.Line (Ask id))
IsShort bytes n (short.Open id name) = Says bytes (line.Step format.Line (Open id name))
IsShort bytes n (short.Bad number) = (number ≡ n) × Says bytes line.Bad
IsShort bytes n short.Skipped = Says bytes line.Skipped
