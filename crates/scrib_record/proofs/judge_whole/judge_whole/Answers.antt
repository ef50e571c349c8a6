use Rattle.std.proofs.Common.{◌∙◌, [], subst}
use Rattle.scrib_record.specs.Judgings.{RunsFrom}
use Rattle.scrib_record.proofs.WholeVerdictLemmas.{starts_as, permits_as, led_to_end, whole_permitted, whole_offence}
use Rattle.scrib_record.proofs.judge_whole.judge_whole.Goals as goal

pub perform-passed-requires : goal.perform-passed-requires
perform-passed-requires c =
    let same = c.in_ok-version.ensures ∙ c.version.ensures.version in
    ([], starts_as c.args.numbering.version c.in_ok-version.version c.in_ok-configuration.configuration same c.in_ok-configuration.ensures.led_to)

pub is_complete-requires : goal.is_complete-requires
is_complete-requires c =
    let v = c.args.numbering.version in
    let w = c.in_ok-version.version in
    let log = c.args.log.now in
    let before = c.in_ok-configuration.configuration in
    let same = c.in_ok-version.ensures ∙ c.version.ensures.version in
    let start = c.in_ok-configuration.ensures in
    let runs = subst (RunsFrom w log before c.perform-passed.new.configuration c.perform-passed.result.0) c.in-AtEnd.is c.perform-passed.ensures in
    (log, (led_to_end w log before c.perform-passed.new.configuration c.perform-passed.result.0 (starts_as v w before same start.led_to) (permits_as v w same start.permitted) runs).0)

pub returns-in-AtEnd : goal.returns-in-AtEnd
returns-in-AtEnd c =
    let v = c.args.numbering.version in
    let w = c.in_ok-version.version in
    let log = c.args.log.now in
    let before = c.in_ok-configuration.configuration in
    let same = c.in_ok-version.ensures ∙ c.version.ensures.version in
    let start = c.in_ok-configuration.ensures in
    let runs = subst (RunsFrom w log before c.perform-passed.new.configuration c.perform-passed.result.0) c.in-AtEnd.is c.perform-passed.ensures in
    whole_permitted v w log before c.perform-passed.new.configuration c.perform-passed.result.0 c.is_complete.result same start.led_to start.permitted runs c.is_complete.ensures

pub offence-requires : goal.offence-requires
offence-requires c =
    let v = c.args.numbering.version in
    let w = c.in_ok-version.version in
    let before = c.in_ok-configuration.configuration in
    let same = c.in_ok-version.ensures ∙ c.version.ensures.version in
    (_, (c.perform-passed.ensures.runs [] (starts_as v w before same c.in_ok-configuration.ensures.led_to)).led_to)

pub returns-in-Refused : goal.returns-in-Refused
returns-in-Refused c =
    let v = c.args.numbering.version in
    let w = c.in_ok-version.version in
    let log = c.args.log.now in
    let before = c.in_ok-configuration.configuration in
    let same = c.in_ok-version.ensures ∙ c.version.ensures.version in
    let start = c.in_ok-configuration.ensures in
    let runs = subst (RunsFrom w log before c.perform-passed.new.configuration c.perform-passed.result.0) c.in-Refused.is c.perform-passed.ensures in
    whole_offence v w log before c.perform-passed.new.configuration c.perform-passed.result.0 c.index-log-passed.result c.in_ok-verdict-in-Refused.verdict same start.led_to start.permitted runs c.index-log-passed.is c.in_ok-verdict-in-Refused.ensures
