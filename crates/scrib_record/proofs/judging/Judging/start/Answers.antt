use Rattle.std.proofs.Common.{◌∙◌}
use Rattle.scrib_record.proofs.VerdictLemmas.{kept_start}
use Rattle.scrib_record.proofs.judging.Judging.start.Goals as goal

pub returns-clause-kept : goal.returns-clause-kept
returns-clause-kept c log =
    let start = c.in_ok-configuration.ensures in
    kept_start c.args.numbering.version c.in_ok-share.field-0 log c.in_ok-configuration.configuration (c.in_ok-share.ensures ∙ c.version.ensures.version) start.led_to start.permitted
