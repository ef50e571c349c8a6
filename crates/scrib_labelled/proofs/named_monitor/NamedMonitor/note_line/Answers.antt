use Rattle.std.proofs.Common.{◌≡◌, ◌∙◌, inl, inr, sym, ap, subst}
use Rattle.scrib_labels.specs.Naming.{number_of}
use Rattle.scrib_labelled.specs.declared.labelled_monitor.Change.{Change}
use Rattle.scrib_labelled.specs.declared.labelled_monitor.Change.TheVariants as change
use Rattle.scrib_labelled.specs.declared.labelled_monitor.LabelledMonitor.{LabelledMonitor}
use Rattle.scrib_labelled.specs.declared.named_monitor.NamedMonitor.{NamedMonitor}
use Rattle.scrib_labelled.specs.ExchangeLines.{exchange_label}
use Rattle.scrib_labelled.specs.LabelledRuns.{put_back}
use Rattle.scrib_labelled.specs.Changes.{NotesEvent, after_change}
use Rattle.scrib_labelled.proofs.ItemLemmas.{carries_note, unchanged}
use Rattle.scrib_labelled.proofs.named_monitor.NamedMonitor.note_line.Goals as goal

pub returns-in-Closed-clause-ok : goal.returns-in-Closed-clause-ok
returns-in-Closed-clause-ok c =
    let line = c.args.line in
    let label = exchange_label line in
    let changed = c.in_ok-change.change in
    let style = c.args.self.now.monitor.style in
    let monitor : c.note.new.self ≡ c.forget.new.self.monitor = sym (ap (λ (n : NamedMonitor). n.monitor) c.forget.ensures.same) in
    carries_note c.args.self.now c.forget.new.self label line.id line.event changed
    (subst (λ (m : LabelledMonitor). NotesEvent c.args.self.now.monitor m (put_back style label) line.id line.event changed) monitor c.in_ok-change.ensures.ok)
    (λ n. c.forget.ensures.named line.id n ∙ ap (λ (x : Change). after_change (number_of c.args.self.now.names) label.session x n) (sym c.in-Closed.is))

pub returns-in-Opened-clause-ok : goal.returns-in-Opened-clause-ok
returns-in-Opened-clause-ok c =
    let line = c.args.line in
    let label = exchange_label line in
    let changed = c.in_ok-change.change in
    let noted = c.in_ok-change.ensures.ok in
    let same : changed ≡ change.Unchanged = elim c.in-Opened.is [
      | inl opened ↦ absurd (noted.opens opened)
      | inr same ↦ same
    ] in
    carries_note c.args.self.now _ label line.id line.event changed noted
    (λ n. unchanged (number_of c.args.self.now.names) label.session n ∙ ap (λ (x : Change). after_change (number_of c.args.self.now.names) label.session x n) (sym same))
