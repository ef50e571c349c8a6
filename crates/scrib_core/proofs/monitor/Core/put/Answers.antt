use Rattle.std.proofs.Common.{sym}
use Rattle.scrib_core.proofs.EditLemmas.{put_answered}
use Rattle.scrib_core.proofs.monitor.Core.put.Goals as goal

pub invariant_of-self : goal.invariant_of-self
invariant_of-self c = (put_answered c.self.inside.library c.self.inside.records.entries c.are_numbered.ensures.numbers c.are_numbered.ensures.once c.self.invariant c.put-edited.new.self c.are_numbered-2.ensures.numbers c.args.text.now c.put-edited.result c.put-edited.ensures.ok c.put-edited.ensures.versions c.put-edited.ensures.profile c.put-edited.ensures.fault c.put-edited.ensures.err).known

pub returns-clause-answered : goal.returns-clause-answered
returns-clause-answered c =
    let made = put_answered c.self.inside.library c.self.inside.records.entries c.are_numbered.ensures.numbers c.are_numbered.ensures.once c.self.invariant c.put-edited.new.self c.are_numbered-2.ensures.numbers c.args.text.now c.put-edited.result c.put-edited.ensures.ok c.put-edited.ensures.versions c.put-edited.ensures.profile c.put-edited.ensures.fault c.put-edited.ensures.err in
    rw (sym c.self.view_is, c.edit_reply.ensures) made.answered

pub returns-clause-memory : goal.returns-clause-memory
returns-clause-memory c =
    let made = put_answered c.self.inside.library c.self.inside.records.entries c.are_numbered.ensures.numbers c.are_numbered.ensures.once c.self.invariant c.put-edited.new.self c.are_numbered-2.ensures.numbers c.args.text.now c.put-edited.result c.put-edited.ensures.ok c.put-edited.ensures.versions c.put-edited.ensures.profile c.put-edited.ensures.fault c.put-edited.ensures.err in
    rw (sym c.self.view_is, c.edit_reply.ensures) made.due

pub returns-clause-refused : goal.returns-clause-refused
returns-clause-refused c =
    let made = put_answered c.self.inside.library c.self.inside.records.entries c.are_numbered.ensures.numbers c.are_numbered.ensures.once c.self.invariant c.put-edited.new.self c.are_numbered-2.ensures.numbers c.args.text.now c.put-edited.result c.put-edited.ensures.ok c.put-edited.ensures.versions c.put-edited.ensures.profile c.put-edited.ensures.fault c.put-edited.ensures.err in
    rw (sym c.self.view_is, c.edit_reply.ensures) made.left
