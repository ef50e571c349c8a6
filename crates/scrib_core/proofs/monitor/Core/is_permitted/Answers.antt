use Rattle.std.proofs.Common.{sym}
use Rattle.scrib_core.proofs.ConversationLemmas.{ask_answered}
use Rattle.scrib_core.proofs.monitor.Core.is_permitted.Goals as goal

pub returns : goal.returns
returns c =
    let test = c.is_permitted.ensures in
    let made = ask_answered c.self.inside.library c.self.inside.records.entries c.are_numbered.ensures.numbers c.are_numbered.ensures.once c.self.invariant c.args.id test.outcome test.ok test.fault in
    record { outcome = test.outcome; answered = rw (sym c.self.view_is) made.answered; is = test.is }
