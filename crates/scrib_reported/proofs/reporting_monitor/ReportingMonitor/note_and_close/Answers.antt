use Rattle.std.proofs.Common.{◌∙◌, ◌++◌, ℕ, List, ap}
use Rattle.std.proofs.lemmas.Result.{on_ok_weaker}
use Rattle.scrib_reported.proofs.StepLemmas.{closed_carried, exchange_line, named_of}
use Rattle.scrib_reported.proofs.reporting_monitor.ReportingMonitor.note_and_close.Goals as goal

pub release-requires : goal.release-requires
release-requires c = named_of c.args.self.now.names c.args.line.name c.args.line.id c.requires

pub returns-clause-ok : goal.returns-clause-ok
returns-clause-ok c =
    let l = c.args.line in
    on_ok_weaker c.add_bytes.result
    (λ g. closed_carried c.args.self.now c.push_all.new.self c.release.new.self c.clear.new.self c.add_bytes.new.self c.head-head.result l.line l.text.now l.tag l.name l.id l.event
    c.in_ok-change.change (exchange_line c.head-head.result c.label-label.result c.args.self.now.style l.line l.text.now l.tag l.name l.id c.label-label.ensures c.head-head.ensures) c.clear.ensures.items c.in_ok-change.ensures.ok c.push_all.ensures.same c.release.ensures.same
    (λ o n. c.release.ensures.named o l.id n) (g ∙ ap (λ (t : List ℕ). c.release.new.self.gathered.bytes.items ++ t) c.as_slice.ensures.value))
    c.add_bytes.ensures.ok
