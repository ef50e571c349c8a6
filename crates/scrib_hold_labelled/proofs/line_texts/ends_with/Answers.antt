use Rattle.scrib_hold_labelled.proofs.TextLemmas.{ends_at}
use Rattle.scrib_hold_labelled.proofs.line_texts.ends_with.Goals as goal

pub returns-in-Some : goal.returns-in-Some
returns-in-Some c = ends_at c.args.byte c.args.text.now c.in-Some._front.now c.in-Some.last.now c.in-Some.ensures.cases.0
