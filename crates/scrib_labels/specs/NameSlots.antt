-- Names at numbers (this project's own). Only contracts of private functions cite this file.
use Rattle.std.specs.Prelude.{ℕ, List, Option, String, option_map, string_bytes}
use Rattle.std.specs.declared.alloc.Global.{Global}
use Rattle.slab.specs.Slab.{Slab, get}

-- the name at a number
abbrev pub name_at : Slab (String Global) → ℕ → Option (List ℕ)
name_at names number = option_map string_bytes (get names number)
