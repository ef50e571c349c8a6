use Rattle.std.proofs.Common.{sym}
use Rattle.std.proofs.lemmas.Bool.{true≢false}
use Rattle.scrib_record.specs.Versions.{meaning_of}
use Rattle.scrib_record.proofs.CompleteLogLemmas.{complete_test, not_complete}
use Rattle.scrib_record.proofs.configuration.Configuration.is_complete.Goals as goal

pub returns-then-not-have_ended : goal.returns-then-not-have_ended
returns-then-not-have_ended c log st permitted =
    let a = meaning_of c.args.version.now in (
      λ f. absurd (true≢false (sym f)),
      λ h. absurd (not_complete a log c.have_ended.result (c.have_ended.ensures.ended log st) c.if-not-have_ended.true h),
    )

pub returns : goal.returns
returns c log st permitted =
    let v = c.args.version.now in
    complete_test (meaning_of v) v.machines log c.args.self.now st c.have_ended.result c.are_empty.result c.have_ended.ensures.valid permitted (c.have_ended.ensures.ended log st)
    c.if-not-have_ended.false c.are_empty.ensures
