use Rattle.std.proofs.Common.{sym}
use Rattle.scrib_core.proofs.ConversationLemmas.{close_answered}
use Rattle.scrib_core.proofs.monitor.Core.close_conversation.Goals as goal

pub invariant_of-self : goal.invariant_of-self
invariant_of-self c = (close_answered c.self.inside.library c.self.inside.records.entries c.are_numbered.ensures.numbers c.are_numbered.ensures.once c.self.invariant c.args.id c.close-closed.new.records.entries c.close-closed.result c.close-closed.ensures.ok c.close-closed.ensures.fault c.close-closed.ensures.err).known

pub returns-clause-answered : goal.returns-clause-answered
returns-clause-answered c =
    let made = close_answered c.self.inside.library c.self.inside.records.entries c.are_numbered.ensures.numbers c.are_numbered.ensures.once c.self.invariant c.args.id c.close-closed.new.records.entries c.close-closed.result c.close-closed.ensures.ok c.close-closed.ensures.fault c.close-closed.ensures.err in
    rw (sym c.self.view_is) made.answered

pub returns-clause-memory : goal.returns-clause-memory
returns-clause-memory c =
    let made = close_answered c.self.inside.library c.self.inside.records.entries c.are_numbered.ensures.numbers c.are_numbered.ensures.once c.self.invariant c.args.id c.close-closed.new.records.entries c.close-closed.result c.close-closed.ensures.ok c.close-closed.ensures.fault c.close-closed.ensures.err in
    rw (sym c.self.view_is) made.due

pub returns-clause-refused : goal.returns-clause-refused
returns-clause-refused c =
    let made = close_answered c.self.inside.library c.self.inside.records.entries c.are_numbered.ensures.numbers c.are_numbered.ensures.once c.self.invariant c.args.id c.close-closed.new.records.entries c.close-closed.result c.close-closed.ensures.ok c.close-closed.ensures.fault c.close-closed.ensures.err in
    rw (sym c.self.view_is) made.left
