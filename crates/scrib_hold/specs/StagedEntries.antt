-- What a stage does with an entry (this project's own). Only contracts of private functions cite this file.
use Rattle.std.specs.Prelude.{ℕ, List, [], ◌∷◌, Some}
use Rattle.scrib_script_reader.specs.declared.item.Item.{Item}
use Rattle.scrib_script_reader.specs.Scripts.{item_list}
use Rattle.scrib_hold_stage.specs.Entries as stage
use Rattle.scrib_hold_stage.specs.Entries.{note, Opens, Passes}
use Rattle.scrib_hold.specs.declared.staged.Staged.{Staged}
use Rattle.scrib_hold.specs.declared.staged.Staged.TheVariants as kind
use Rattle.scrib_hold.specs.HeldScripts.{Asked, Pending}

-- as entry n of a stage
abbrev pub as_entry : ℕ → Staged → stage.Entry Asked
as_entry n (kind.Event id e f) = note id n (e, f)
as_entry n (kind.Opening id i) = Opens id
as_entry n (kind.Closing id f) = Passes
as_entry n (kind.Other found) = Passes

-- what passes at once
abbrev pub passing_of : Staged → List Item
passing_of (kind.Event id e f) = []
passing_of (kind.Opening id i) = item_list (Some i)
passing_of (kind.Closing id f) = []
passing_of (kind.Other found) = item_list found

-- the closing of entry n, if there is one
abbrev pub closing_of : ℕ → Staged → List Pending
closing_of n (kind.Closing id f) = record { conversation = id; time = n; line = f } ∷ []
closing_of n _ = []
