use Rattle.std.proofs.Common.{sym}
use Rattle.scrib_core.specs.Held.{world_of}
use Rattle.scrib_core.proofs.ConversationLemmas.{tested_answered}
use Rattle.scrib_core.proofs.NoteTestLemmas.{tests_complete}
use Rattle.scrib_core.proofs.Runs.{permits_runs}
use Rattle.scrib_core.proofs.monitor.Core.note_and_test.Goals as goal

pub invariant_of-self : goal.invariant_of-self
invariant_of-self c = (tested_answered c.self.inside.library c.self.inside.records.entries c.are_numbered.ensures.numbers c.are_numbered.ensures.once c.self.invariant c.args.id c.args.event c.note_and_test.new.records.entries c.note_and_test.result c.note_and_test.ensures.ok c.note_and_test.ensures.fault c.note_and_test.ensures.err).known

pub returns-clause-answered : goal.returns-clause-answered
returns-clause-answered c =
    let made = tested_answered c.self.inside.library c.self.inside.records.entries c.are_numbered.ensures.numbers c.are_numbered.ensures.once c.self.invariant c.args.id c.args.event c.note_and_test.new.records.entries c.note_and_test.result c.note_and_test.ensures.ok c.note_and_test.ensures.fault c.note_and_test.ensures.err in
    rw (sym c.self.view_is) made.answered

pub returns-clause-memory : goal.returns-clause-memory
returns-clause-memory c =
    let made = tested_answered c.self.inside.library c.self.inside.records.entries c.are_numbered.ensures.numbers c.are_numbered.ensures.once c.self.invariant c.args.id c.args.event c.note_and_test.new.records.entries c.note_and_test.result c.note_and_test.ensures.ok c.note_and_test.ensures.fault c.note_and_test.ensures.err in
    rw (sym c.self.view_is) made.due

pub returns-clause-refused : goal.returns-clause-refused
returns-clause-refused c =
    let made = tested_answered c.self.inside.library c.self.inside.records.entries c.are_numbered.ensures.numbers c.are_numbered.ensures.once c.self.invariant c.args.id c.args.event c.note_and_test.new.records.entries c.note_and_test.result c.note_and_test.ensures.ok c.note_and_test.ensures.fault c.note_and_test.ensures.err in
    rw (sym c.self.view_is) made.left

pub returns-clause-runs : goal.returns-clause-runs
returns-clause-runs c = permits_runs (world_of c.self.inside.library c.note_and_test.new.records.entries) c.means_protocols.ensures

pub returns-clause-complete : goal.returns-clause-complete
returns-clause-complete c =
    let made = tested_answered c.self.inside.library c.self.inside.records.entries c.are_numbered.ensures.numbers c.are_numbered.ensures.once c.self.invariant c.args.id c.args.event c.note_and_test.new.records.entries c.note_and_test.result c.note_and_test.ensures.ok c.note_and_test.ensures.fault c.note_and_test.ensures.err in
    tests_complete c.self.inside.library c.note_and_test.new.records.entries c.args.id c.are_numbered.ensures.numbers c.are_numbered.ensures.once made.known c.note_and_test.result c.note_and_test.ensures.complete
