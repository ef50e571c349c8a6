use Rattle.std.proofs.Common.{sym, subst, ◌∙◌}
use Rattle.scrib_record.specs.declared.comparison.Comparison.{Comparison}
use Rattle.scrib_core.specs.ConversationSteps.{IsSoundForRecord}
use Rattle.scrib_core.proofs.ComparisonLemmas.{held_present}
use Rattle.scrib_core.proofs.conversation_steps.present_of.Goals as goal

pub returns-in-Some : goal.returns-in-Some
returns-in-Some c =
    let known = subst (λ (x : Comparison). IsSoundForRecord x c.args.library.now c.args.conversation.now) c.in-Numbers-Some.is-0 c.requires in
    held_present c.args.library.now c.args.conversation.now c.in-Some.version.now c.in-Numbers-Some.number known (sym c.held_number.ensures ∙ c.in-Numbers-Some.is-1) c.in-Some.ensures.numbered c.in-Some.ensures.stamp
