use Rattle.std.proofs.Common.{sym}
use Rattle.scrib_core.proofs.EditLemmas.{withdraw_answered}
use Rattle.scrib_core.proofs.monitor.Core.withdraw.Goals as goal

pub invariant_of-self : goal.invariant_of-self
invariant_of-self c = (withdraw_answered c.self.inside.library c.self.inside.records.entries c.are_numbered.ensures.numbers c.are_numbered.ensures.once c.self.invariant c.withdraw-edited.new.self c.are_numbered-2.ensures.numbers c.args.name.now c.withdraw-edited.result c.withdraw-edited.ensures.ok c.withdraw-edited.ensures.versions c.withdraw-edited.ensures.profile c.withdraw-edited.ensures.fault c.withdraw-edited.ensures.err).known

pub returns-clause-answered : goal.returns-clause-answered
returns-clause-answered c =
    let made = withdraw_answered c.self.inside.library c.self.inside.records.entries c.are_numbered.ensures.numbers c.are_numbered.ensures.once c.self.invariant c.withdraw-edited.new.self c.are_numbered-2.ensures.numbers c.args.name.now c.withdraw-edited.result c.withdraw-edited.ensures.ok c.withdraw-edited.ensures.versions c.withdraw-edited.ensures.profile c.withdraw-edited.ensures.fault c.withdraw-edited.ensures.err in
    rw (sym c.self.view_is, c.edit_reply.ensures) made.answered

pub returns-clause-memory : goal.returns-clause-memory
returns-clause-memory c =
    let made = withdraw_answered c.self.inside.library c.self.inside.records.entries c.are_numbered.ensures.numbers c.are_numbered.ensures.once c.self.invariant c.withdraw-edited.new.self c.are_numbered-2.ensures.numbers c.args.name.now c.withdraw-edited.result c.withdraw-edited.ensures.ok c.withdraw-edited.ensures.versions c.withdraw-edited.ensures.profile c.withdraw-edited.ensures.fault c.withdraw-edited.ensures.err in
    rw (sym c.self.view_is, c.edit_reply.ensures) made.due

pub returns-clause-refused : goal.returns-clause-refused
returns-clause-refused c =
    let made = withdraw_answered c.self.inside.library c.self.inside.records.entries c.are_numbered.ensures.numbers c.are_numbered.ensures.once c.self.invariant c.withdraw-edited.new.self c.are_numbered-2.ensures.numbers c.args.name.now c.withdraw-edited.result c.withdraw-edited.ensures.ok c.withdraw-edited.ensures.versions c.withdraw-edited.ensures.profile c.withdraw-edited.ensures.fault c.withdraw-edited.ensures.err in
    rw (sym c.self.view_is, c.edit_reply.ensures) made.left
