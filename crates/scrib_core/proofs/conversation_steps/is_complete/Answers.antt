use Rattle.std.proofs.Common.{◌≡◌, Some, sym, ap, ◌∙◌}
use Rattle.std.specs.Option.{option_copied}
use Rattle.scrib_core.specs.Held.{record_at}
use Rattle.scrib_core.proofs.ComparisonLemmas.{serves_for}
use Rattle.scrib_core.proofs.conversation_steps.is_complete.Goals as goal

pub ask-requires : goal.ask-requires
ask-requires c =
    let there : record_at c.args.records.now.entries c.args.key.id ≡ Some c.in-Some.record.now = sym c.record_of.ensures ∙ ap option_copied c.in-Some.is in
    serves_for c.args.comparison c.args.library.now c.args.records.now.entries c.args.key.id c.in-Some.record.now (option_copied c.present_of.result.1) c.requires there c.present_of.ensures
