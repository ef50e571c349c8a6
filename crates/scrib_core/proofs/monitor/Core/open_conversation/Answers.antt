use Rattle.std.proofs.Common.{sym}
use Rattle.scrib_core.proofs.ConversationLemmas.{open_answered}
use Rattle.scrib_core.proofs.monitor.Core.open_conversation.Goals as goal

pub invariant_of-self : goal.invariant_of-self
invariant_of-self c = (open_answered c.self.inside.library c.self.inside.records.entries c.are_numbered.ensures.numbers c.are_numbered.ensures.once c.self.invariant c.args.id c.args.name.now c.open-opened.new.records.entries c.open-opened.result c.open-opened.ensures.name c.open-opened.ensures.ok c.open-opened.ensures.fault c.open-opened.ensures.err).known

pub returns-clause-answered : goal.returns-clause-answered
returns-clause-answered c =
    let made = open_answered c.self.inside.library c.self.inside.records.entries c.are_numbered.ensures.numbers c.are_numbered.ensures.once c.self.invariant c.args.id c.args.name.now c.open-opened.new.records.entries c.open-opened.result c.open-opened.ensures.name c.open-opened.ensures.ok c.open-opened.ensures.fault c.open-opened.ensures.err in
    rw (sym c.self.view_is) made.answered

pub returns-clause-memory : goal.returns-clause-memory
returns-clause-memory c =
    let made = open_answered c.self.inside.library c.self.inside.records.entries c.are_numbered.ensures.numbers c.are_numbered.ensures.once c.self.invariant c.args.id c.args.name.now c.open-opened.new.records.entries c.open-opened.result c.open-opened.ensures.name c.open-opened.ensures.ok c.open-opened.ensures.fault c.open-opened.ensures.err in
    rw (sym c.self.view_is) made.due

pub returns-clause-refused : goal.returns-clause-refused
returns-clause-refused c =
    let made = open_answered c.self.inside.library c.self.inside.records.entries c.are_numbered.ensures.numbers c.are_numbered.ensures.once c.self.invariant c.args.id c.args.name.now c.open-opened.new.records.entries c.open-opened.result c.open-opened.ensures.name c.open-opened.ensures.ok c.open-opened.ensures.fault c.open-opened.ensures.err in
    rw (sym c.self.view_is) made.left
