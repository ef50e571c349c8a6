-- The conversion of a record's answer.
use Rattle.std.proofs.Common.{◌≡◌, Option, sym, subst}
use Rattle.scrib_types.specs.declared.event.Told.{Told}
use Rattle.scrib_record.specs.declared.answer.Answer.{Answer}
use Rattle.scrib_record.specs.declared.answer.Answer.TheVariants as answer
use Rattle.scrib_record.specs.declared.version.Version.{Version}
use Rattle.scrib_record.specs.Stale.{Recorded}
use Rattle.scrib_record.specs.Told.{IsReported, IsReportedAnswer}
use Rattle.scrib_core.specs.ReplyValues.{told_of}

verdict_as : (p : Option Version) (r : Recorded) (a : Answer) → IsReportedAnswer p r a → IsReported p r (told_of a)
verdict_as p r answer.Stale h = h
verdict_as p r answer.Permitted h = (h.0, sym h.1, h.2)
verdict_as p r (answer.Offence place role allowed) h = (h.0, sym h.1, h.2)
verdict_as p r answer.Withdrawn h = (h.0, sym h.1, h.2)

pub verdict_from : (p : Option Version) (r : Recorded) (a : Answer) (t : Told) → IsReportedAnswer p r a → t ≡ told_of a → IsReported p r t
verdict_from p r a t h e = subst (IsReported p r) (sym e) (verdict_as p r a h)
