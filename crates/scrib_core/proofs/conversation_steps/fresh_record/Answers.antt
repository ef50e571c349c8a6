use Rattle.std.proofs.Common.{◌≡◌, Some, sym, ap, ◌∙◌}
use Rattle.std.specs.Option.{option_copied}
use Rattle.scrib_core.specs.Held.{record_at}
use Rattle.scrib_core.proofs.ComparisonLemmas.{serves_for, serves_record}
use Rattle.scrib_core.proofs.conversation_steps.fresh_record.Goals as goal

pub present_of-requires : goal.present_of-requires
present_of-requires c =
    let there : record_at c.args.records.now.entries c.args.key.id ≡ Some c.in_ok-record.record.now = sym c.record_of.ensures ∙ ap option_copied c.in_ok-record.was in
    serves_record c.args.comparison c.args.library.now c.args.records.now.entries c.args.key.id c.in_ok-record.record.now c.requires there

pub ask-requires : goal.ask-requires
ask-requires c =
    let there : record_at c.args.records.now.entries c.args.key.id ≡ Some c.in_ok-record.record.now = sym c.record_of.ensures ∙ ap option_copied c.in_ok-record.was in
    serves_for c.args.comparison c.args.library.now c.args.records.now.entries c.args.key.id c.in_ok-record.record.now (option_copied c.present_of.result.1) c.requires there c.present_of.ensures
