-- The items of a script that a connection took (this project's own). `r` holds the bytes that a reader has left, where
-- they are known.
use Rattle.std.specs.Prelude.{◌≡◌, ℕ, Bool, true, false, List, ◌++◌, Option, None, IfSome}
use Rattle.scrib_script_reader.specs.declared.item.Item.{Item}
use Rattle.scrib_script_reader.specs.declared.script.Script.{Script}
use Rattle.scrib_script_reader.specs.Scripts.{Spells, lines}
use Rattle.scrib_script_reader.specs.Positions.{EndSpells, TakesBytes, TakesFront}
use Rattle.scrib_script_io.specs.declared.fault.ScriptFault.{ScriptFault}
use Rattle.scrib_script_io.specs.declared.fault.ScriptFault.TheVariants as fault
use Rattle.scrib_run_service.specs.declared.connection.Connection.{Connection}
use Rattle.scrib_run_service.specs.Outcomes.{TakesItems, Appends}

-- whether the fault comes from reading or from refused memory
abbrev pub of_reading : ScriptFault → Bool
of_reading fault.Read = true
of_reading fault.Write = false
of_reading fault.Settle = false
of_reading fault.OutOfMemory = true

-- the script consumed these bytes, and the connection took the items that they spell
pub record Carries (old new : Connection) (was now : Script) (bytes : List ℕ) : Type 0 where
  pub items : List Item
  pub spelled : TakesBytes was now bytes items
  pub took : TakesItems old new items

-- the script consumed all of the piece but the rest, and the connection took the items that the bytes before it spell
pub record CarriesTo (old new : Connection) (was now : Script) (piece rest : List ℕ) : Type 0 where
  pub items : List Item
  pub spelled : TakesFront was now piece rest items
  pub took : TakesItems old new items

-- the same of a beginning of the bytes, which ends at a fault
pub record CarriesFront (old new : Connection) (was : Script) (piece : List ℕ) : Type 0 where
  pub front : List ℕ
  pub rest : List ℕ
  pub is : piece ≡ front ++ rest
  pub now : Script
  pub carries : Carries old new was now front

-- the script consumed these bytes, and the connection appended the lines of the outcomes of the items that they spell
pub record AppendsSpelled (old new : Connection) (was now : Script) (bytes : List ℕ) : Type 0 where
  pub items : List Item
  pub spelled : TakesBytes was now bytes items
  pub appends : Appends old new items

-- the same of a beginning of the bytes, which ends at a fault
pub record AppendsFront (old new : Connection) (was : Script) (piece : List ℕ) : Type 0 where
  pub front : List ℕ
  pub rest : List ℕ
  pub is : piece ≡ front ++ rest
  pub now : Script
  pub appends : AppendsSpelled old new was now front

-- the connection appended the lines of the outcomes of the items that the end of the script spells
pub record AppendsEnd (old new : Connection) (was : Script) : Type 0 where
  pub items : List Item
  pub spelled : EndSpells was items
  pub appends : Appends old new items

-- the connection appended the lines of the outcomes of all items of the script
pub record Ran (old new : Connection) (r : Option (List ℕ)) : Type 0 where
  pub items : List Item
  pub appends : Appends old new items
  pub spelled : IfSome r (λ input. Spells 1 None (lines input) items)

-- the connection appended the lines of the outcomes of the script's first items
pub record RanPart (old new : Connection) (r : Option (List ℕ)) : Type 0 where
  pub items : List Item
  pub appends : Appends old new items
  pub spelled : IfSome r (λ input. (rest : List Item) × Spells 1 None (lines input) (items ++ rest))
