use Rattle.std.proofs.Common.{◌≡◌, ◌≤◌, ◌<◌, length, Some, None, refl, sym, ap, ◌∙◌, arith}
use Rattle.std.specs.Option.{option_copied}
use Rattle.scrib_core.specs.Held.{record_at, conversation_of}
use Rattle.scrib_core.proofs.ConversationLemmas.{seen}
use Rattle.scrib_core.proofs.monitor.Core.note_ref.Goals as goal

pub returns-in_default-clause-answered : goal.returns-in_default-clause-answered
returns-in_default-clause-answered c =
    let none : record_at c.self.inside.records.entries c.args.id ≡ None = sym c.get.ensures.value ∙ ap option_copied c.in_default.is in
    rw (sym c.self.view_is) (seen c.self.inside.library c.self.inside.records.entries c.args.id None none, refl)

pub returns-then-log-ge-MAX_EVENTS-clause-answered : goal.returns-then-log-ge-MAX_EVENTS-clause-answered
returns-then-log-ge-MAX_EVENTS-clause-answered c =
    let there : record_at c.self.inside.records.entries c.args.id ≡ Some c.in-Some.record.now = sym c.get.ensures.value ∙ ap option_copied c.in-Some.is in
    let full : 1048576 ≤ length c.in-Some.record.now.log = omega (arith, c.if-log-ge-MAX_EVENTS.true, ap length c.log.ensures.log) in
    rw (sym c.self.view_is) ((conversation_of c.in-Some.record.now, seen c.self.inside.library c.self.inside.records.entries c.args.id (Some c.in-Some.record.now) there, full), refl)

pub returns-in-Err-clause-memory : goal.returns-in-Err-clause-memory
returns-in-Err-clause-memory c =
    let there : record_at c.self.inside.records.entries c.args.id ≡ Some c.in-Some.record.now = sym c.get.ensures.value ∙ ap option_copied c.in-Some.is in
    let room : length c.in-Some.record.now.log < 1048576 = omega (arith, c.if-log-ge-MAX_EVENTS.false, ap length c.log.ensures.log) in
    rw (sym c.self.view_is) (conversation_of c.in-Some.record.now, seen c.self.inside.library c.self.inside.records.entries c.args.id (Some c.in-Some.record.now) there, room)
