use Rattle.std.proofs.Common.{◌≡◌, [], ◌∷◌, refl}
use Rattle.std.proofs.lemmas.Result.{on_ok_weaker, on_err_weaker}
use Rattle.scrib_core.specs.Held.{state_of}
use Rattle.scrib_script_reader.specs.declared.short_line.ShortLine.TheVariants as short
use Rattle.scrib_script_reader.specs.Entries.{entry_items}
use Rattle.scrib_script_reader.specs.ShortLines.{short_entry}
use Rattle.scrib_closing.specs.declared.closing_monitor.ClosingMonitor.{ClosingMonitor}
use Rattle.scrib_closing.proofs.ClosingLemmas.{part_none}
use Rattle.scrib_closing.proofs.MonitorLemmas.{took_items, failed_items, took_line, unjudged_line}
use Rattle.scrib_closing.proofs.closing_monitor.ClosingMonitor.take_short.Goals as goal

pub returns-in-Note-clause-ok : goal.returns-in-Note-clause-ok
returns-in-Note-clause-ok c =
    let new : ClosingMonitor = record c.args.self.now { core = c.gather_note.new.core; gathered = c.gather_note.new.gathered } in
    let e = short_entry (short.Note c.in-Note.id c.in-Note.event) in
    on_ok_weaker c.gather_note.result
    (λ done. rw c.in-Note.is (took_items c.args.self.now new e refl done))
    c.gather_note.ensures.ok

pub returns-in-Note-clause-err : goal.returns-in-Note-clause-err
returns-in-Note-clause-err c =
    let new : ClosingMonitor = record c.args.self.now { core = c.gather_note.new.core; gathered = c.gather_note.new.gathered } in
    let e = short_entry (short.Note c.in-Note.id c.in-Note.event) in
    on_err_weaker c.gather_note.result
    (λ part. rw c.in-Note.is (failed_items c.args.self.now new e part))
    c.gather_note.ensures.err

pub returns-in_default : goal.returns-in_default
returns-in_default c =
    let old = c.args.self.now in
    let new : ClosingMonitor = record c.args.self.now { core = c.gather_short.new.core; gathered = c.gather_short.new.gathered } in
    record {
      ok =
          on_ok_weaker c.gather_short.result
          (λ d. took_line c.args.self.now new c.args.line refl (unjudged_line c.args.line c.in_default.not-Note) d)
          c.gather_short.ensures.ok;
      err =
          on_err_weaker c.gather_short.result
          (λ same. failed_items c.args.self.now new (short_entry c.args.line)
          (part_none old.format (entry_items (short_entry c.args.line ∷ [])) (state_of old.core) old.gathered.bytes.items c.gather_short.new.gathered.bytes.items same))
          c.gather_short.ensures.err;
      fault = c.gather_short.ensures.fault;
    }
