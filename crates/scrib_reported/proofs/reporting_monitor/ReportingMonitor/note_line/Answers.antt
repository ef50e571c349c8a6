use Rattle.std.proofs.Common.{◌∙◌, sym}
use Rattle.std.proofs.lemmas.Result.{on_ok_weaker}
use Rattle.scrib_reported.proofs.StepLemmas.{exchange_line, noted_carried, permitted_carried, permitted_note}
use Rattle.scrib_reported.proofs.reporting_monitor.ReportingMonitor.note_line.Goals as goal

pub returns-then-is_permitted-clause-ok : goal.returns-then-is_permitted-clause-ok
returns-then-is_permitted-clause-ok c =
    let l = c.args.line in
    let found = permitted_note c.note_event-noted.result (sym c.is_permitted.ensures ∙ c.if-is_permitted.true) in
    on_ok_weaker c.add_line.result
    (λ kept. permitted_carried c.args.self.now c.note_event-noted.new.self l.line l.text.now l.tag l.name l.id l.event c.note_event-noted.result c.note_event-noted.ensures.answered c.note_event-noted.ensures.counted (sym c.may_close.ensures ∙ c.if-may_close.false) c.add_line.new.self found.0 found.1 kept)
    c.add_line.ensures

pub returns-clause-ok : goal.returns-clause-ok
returns-clause-ok c =
    let l = c.args.line in
    on_ok_weaker c.gather_noted.result
    (λ h. noted_carried c.args.self.now c.note_event-noted.new.self l.line l.text.now l.tag l.name l.id l.event c.note_event-noted.result c.note_event-noted.ensures.answered c.note_event-noted.ensures.counted (sym c.may_close.ensures ∙ c.if-may_close.false) c.gather_noted.new.self
    c.head-head.result (exchange_line c.head-head.result c.label-label.result c.args.self.now.style l.line l.text.now l.tag l.name l.id c.label-label.ensures c.head-head.ensures) (h l.event) c.gather_noted.ensures.same)
    c.gather_noted.ensures.ok
