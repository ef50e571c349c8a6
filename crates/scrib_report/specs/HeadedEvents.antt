-- Lines of permitted events with what is put in front of them (this project's own). Only contracts of functions that print
-- such lines cite this file.
use Rattle.std.specs.Prelude.{ℕ, List, ◌++◌}
use Rattle.scrib_types.specs.declared.event.Told.TheVariants.{Judged}
use Rattle.scrib_types.specs.declared.event.Verdict.TheVariants.{Permitted}
use Rattle.scrib_core.specs.declared.format.Format.TheVariants as format
use Rattle.scrib_core.specs.declared.reply.Reply.TheVariants.{Noted}
use Rattle.scrib_report.specs.declared.reply_head.ReplyHead.{ReplyHead}
use Rattle.scrib_report.specs.PutBack.{bytes_of, with_name}
use Rattle.scrib_report.specs.ReplyTexts.{reply_text}

-- the line of the permitted event at this place of a conversation, with its LF
abbrev pub permitted_text : (id place : ℕ) → List ℕ
permitted_text id place = reply_text format.Line (Noted id place (Judged Permitted))

-- the same behind the text of a tag, with a name in the place of the conversation's number
abbrev pub headed_permitted : ReplyHead → (id place : ℕ) → List ℕ
headed_permitted h id place = h.tag_text.now ++ with_name (bytes_of h.name) (permitted_text id place)
