use Rattle.std.proofs.Common.{sym}
use Rattle.scrib_core.proofs.ConversationLemmas.{turn_answered}
use Rattle.scrib_core.proofs.monitor.Core.turn.Goals as goal

pub invariant_of-self : goal.invariant_of-self
invariant_of-self c = (turn_answered c.self.inside.library c.self.inside.records.entries c.are_numbered.ensures.numbers c.are_numbered.ensures.once c.self.invariant c.args.id c.turn-turned.new.records.entries c.turn-turned.result c.turn-turned.ensures.ok c.turn-turned.ensures.fault c.turn-turned.ensures.err).known

pub returns-clause-answered : goal.returns-clause-answered
returns-clause-answered c =
    let made = turn_answered c.self.inside.library c.self.inside.records.entries c.are_numbered.ensures.numbers c.are_numbered.ensures.once c.self.invariant c.args.id c.turn-turned.new.records.entries c.turn-turned.result c.turn-turned.ensures.ok c.turn-turned.ensures.fault c.turn-turned.ensures.err in
    rw (sym c.self.view_is, c.verdict_reply.ensures) made.answered

pub returns-clause-memory : goal.returns-clause-memory
returns-clause-memory c =
    let made = turn_answered c.self.inside.library c.self.inside.records.entries c.are_numbered.ensures.numbers c.are_numbered.ensures.once c.self.invariant c.args.id c.turn-turned.new.records.entries c.turn-turned.result c.turn-turned.ensures.ok c.turn-turned.ensures.fault c.turn-turned.ensures.err in
    rw (sym c.self.view_is, c.verdict_reply.ensures) made.due

pub returns-clause-refused : goal.returns-clause-refused
returns-clause-refused c =
    let made = turn_answered c.self.inside.library c.self.inside.records.entries c.are_numbered.ensures.numbers c.are_numbered.ensures.once c.self.invariant c.args.id c.turn-turned.new.records.entries c.turn-turned.result c.turn-turned.ensures.ok c.turn-turned.ensures.fault c.turn-turned.ensures.err in
    rw (sym c.self.view_is, c.verdict_reply.ensures) made.left
