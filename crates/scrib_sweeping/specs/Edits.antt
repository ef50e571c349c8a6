-- Which items edit the library (this project's own). Only contracts of private functions cite this file.
use Rattle.std.specs.Prelude.{Bool, true, false}
use Rattle.scrib_core.specs.declared.step.Step.TheVariants.{Put, Withdraw}
use Rattle.scrib_script_reader.specs.declared.item.Item.{Item}
use Rattle.scrib_script_reader.specs.declared.item.Item.TheVariants as item

-- whether the item is a put or a withdrawal
abbrev pub is_edit : Item → Bool
is_edit (item.Step f (Put text)) = true
is_edit (item.Step f (Withdraw name)) = true
is_edit _ = false
