-- What `list` prints of a text (this project's own).
use Rattle.std.specs.Prelude.{◌≡◌, ◌++◌, ℕ, List}
use Rattle.scrib_tree.specs.declared.tree.ModuleTree.{ModuleTree}
use Rattle.scrib_library.specs.declared.fault.EditFault.{EditFault}
use Rattle.scrib_library.specs.Edits.{Reads}
use Rattle.scrib_core.specs.declared.format.Format.{Format}
use Rattle.scrib_core.specs.declared.reply.Reply.TheVariants as reply
use Rattle.scrib_core.specs.declared.reply.Refusal.TheVariants as refusal
use Rattle.scrib_report.specs.ReplyTexts.{reply_text}
use Rattle.scrib_list.specs.declared.listed.Listed.{Listed}
use Rattle.scrib_list.specs.declared.listed.Listed.TheVariants.{Protocols, Refusal}
use Rattle.scrib_list.specs.Readings.{IsNoModule}
use Rattle.scrib_list.specs.Protocols.{protocol_texts}

-- The lines are those of the text: the protocols of the module that it is, or the refusal where it is no module. The
-- refusal is that of a put.
abbrev pub IsListing : Format → (text : List ℕ) → Listed → (lines : List ℕ) → Type 0
IsListing f text Protocols lines =
    (m : ModuleTree) × Reads text m × (lines ≡ protocol_texts f m.name m.protocols)
IsListing f text Refusal lines =
    (fault : EditFault) × IsNoModule text fault × (lines ≡ reply_text f (reply.Refused (refusal.Edit fault)))

-- the lines of the text were appended
abbrev pub IsListed : Format → (text : List ℕ) → Listed → (was now : List ℕ) → Type 0
IsListed f text listed was now = (lines : List ℕ) × IsListing f text listed lines × (now ≡ was ++ lines)
