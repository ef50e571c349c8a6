use Rattle.std.proofs.Common.{sym}
use Rattle.scrib_core.specs.Held.{world_of}
use Rattle.scrib_core.proofs.ConversationLemmas.{note_answered}
use Rattle.scrib_core.proofs.Runs.{permits_runs}
use Rattle.scrib_core.proofs.monitor.Core.note_event.Goals as goal

pub invariant_of-self : goal.invariant_of-self
invariant_of-self c = (note_answered c.self.inside.library c.self.inside.records.entries c.are_numbered.ensures.numbers c.are_numbered.ensures.once c.self.invariant c.args.id c.args.event c.note.new.records.entries c.note.result c.note.ensures.ok c.note.ensures.fault c.note.ensures.err).known

pub returns-clause-answered : goal.returns-clause-answered
returns-clause-answered c =
    let made = note_answered c.self.inside.library c.self.inside.records.entries c.are_numbered.ensures.numbers c.are_numbered.ensures.once c.self.invariant c.args.id c.args.event c.note.new.records.entries c.note.result c.note.ensures.ok c.note.ensures.fault c.note.ensures.err in
    rw (sym c.self.view_is) made.answered

pub returns-clause-memory : goal.returns-clause-memory
returns-clause-memory c =
    let made = note_answered c.self.inside.library c.self.inside.records.entries c.are_numbered.ensures.numbers c.are_numbered.ensures.once c.self.invariant c.args.id c.args.event c.note.new.records.entries c.note.result c.note.ensures.ok c.note.ensures.fault c.note.ensures.err in
    rw (sym c.self.view_is) made.due

pub returns-clause-refused : goal.returns-clause-refused
returns-clause-refused c =
    let made = note_answered c.self.inside.library c.self.inside.records.entries c.are_numbered.ensures.numbers c.are_numbered.ensures.once c.self.invariant c.args.id c.args.event c.note.new.records.entries c.note.result c.note.ensures.ok c.note.ensures.fault c.note.ensures.err in
    rw (sym c.self.view_is) made.left

pub returns-clause-runs : goal.returns-clause-runs
returns-clause-runs c = permits_runs (world_of c.self.inside.library c.note.new.records.entries) c.means_protocols.ensures
