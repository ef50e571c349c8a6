use Rattle.std.proofs.Common.{refl}
use Rattle.std.proofs.lemmas.Result.{on_ok_weaker, on_err_weaker}
use Rattle.scrib_script_reader.specs.declared.short_line.ShortLine.TheVariants as short
use Rattle.scrib_script_reader.specs.ShortLines.{short_entry}
use Rattle.scrib_hold.specs.declared.held_monitor.HeldMonitor.{HeldMonitor}
use Rattle.scrib_hold.proofs.MonitorLemmas.{uncounted}
use Rattle.scrib_hold.proofs.LineLemmas.{took_event, failed_event, took_later, failed_later}
use Rattle.scrib_hold.proofs.held_monitor.HeldMonitor.take_event.Goals as goal

pub returns-in_default-clause-err : goal.returns-in_default-clause-err
returns-in_default-clause-err g c = uncounted g.S.ItemSink.carries g.S.ItemSink.gathered c.args.self.now (short_entry (short.Note c.args.id c.args.event))

pub returns-then-passes_event-clause-ok : goal.returns-then-passes_event-clause-ok
returns-then-passes_event-clause-ok g c =
    let new : HeldMonitor g.row.S.Denot = record c.args.self.now { stage = c.passes_event.new.stage; sink = c.note.new.self } in
    on_ok_weaker c.note.result
    (λ done. took_event g.S.ItemSink.carries g.S.ItemSink.gathered c.args.self.now new c.args.id c.args.event (c.if-passes_event.ensures.passed refl) (c.if-passes_event.ensures.none_wait refl) c.in-Some.number c.in-Some.ensures refl refl done)
    c.note.ensures.ok

pub returns-then-passes_event-clause-err : goal.returns-then-passes_event-clause-err
returns-then-passes_event-clause-err g c =
    let new : HeldMonitor g.row.S.Denot = record c.args.self.now { stage = c.passes_event.new.stage; sink = c.note.new.self } in
    on_err_weaker c.note.result
    (λ same. failed_event g.S.ItemSink.carries g.S.ItemSink.gathered c.args.self.now new (short_entry (short.Note c.args.id c.args.event)) (c.if-passes_event.ensures.none_wait refl) same)
    c.note.ensures.err

pub returns-clause-ok : goal.returns-clause-ok
returns-clause-ok g c =
    on_ok_weaker c.take_other.result
    (λ took. took_later g.S.ItemSink.carries g.S.ItemSink.gathered c.args.self.now c.take_other.new.self c.passes_event.new.stage (short_entry (short.Note c.args.id c.args.event)) (c.if-passes_event.ensures.same refl) took)
    c.take_other.ensures.ok

pub returns-clause-err : goal.returns-clause-err
returns-clause-err g c =
    on_err_weaker c.take_other.result
    (λ failed. failed_later g.S.ItemSink.carries g.S.ItemSink.gathered c.args.self.now c.take_other.new.self c.passes_event.new.stage (short_entry (short.Note c.args.id c.args.event)) (c.if-passes_event.ensures.same refl) failed)
    c.take_other.ensures.err
