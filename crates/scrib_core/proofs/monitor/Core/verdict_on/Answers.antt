use Rattle.std.proofs.Common.{sym}
use Rattle.scrib_core.proofs.ConversationLemmas.{ask_answered}
use Rattle.scrib_core.proofs.monitor.Core.verdict_on.Goals as goal

pub returns-clause-answered : goal.returns-clause-answered
returns-clause-answered c =
    let made = ask_answered c.self.inside.library c.self.inside.records.entries c.are_numbered.ensures.numbers c.are_numbered.ensures.once c.self.invariant c.args.id c.ask.result c.ask.ensures.ok c.ask.ensures.fault in
    rw (sym c.self.view_is) made.answered

pub returns-clause-memory : goal.returns-clause-memory
returns-clause-memory c =
    let made = ask_answered c.self.inside.library c.self.inside.records.entries c.are_numbered.ensures.numbers c.are_numbered.ensures.once c.self.invariant c.args.id c.ask.result c.ask.ensures.ok c.ask.ensures.fault in
    rw (sym c.self.view_is) made.due

pub returns-clause-refused : goal.returns-clause-refused
returns-clause-refused c =
    let made = ask_answered c.self.inside.library c.self.inside.records.entries c.are_numbered.ensures.numbers c.are_numbered.ensures.once c.self.invariant c.args.id c.ask.result c.ask.ensures.ok c.ask.ensures.fault in
    rw (sym c.self.view_is) made.left
