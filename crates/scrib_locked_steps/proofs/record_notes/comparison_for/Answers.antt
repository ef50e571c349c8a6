use Rattle.std.specs.Option.{option_copied}
use Rattle.scrib_locked_steps.proofs.ServingLemmas.{reported_serves}
use Rattle.scrib_locked_steps.proofs.record_notes.comparison_for.Goals as goal

pub returns-in_default-clause-serves : goal.returns-in_default-clause-serves
returns-in_default-clause-serves c = reported_serves (option_copied c.args.present) c.args.conversation.now c.ask.result c.ask.ensures c.in_default.not-Stale
