use Rattle.std.proofs.Common.{◌≡◌, ◌∙◌, ◌∷◌, ◌++◌, List, ℕ, [], refl, sym, ap, subst}
use Rattle.scrib_core.specs.declared.format.Format.TheVariants as format
use Rattle.scrib_core.specs.ReplyValues.{note_reply_of}
use Rattle.scrib_labelled.specs.declared.checked_core.CheckedCore.{CheckedCore}
use Rattle.scrib_labelled.specs.CheckedCores.{GotMemory, state_of}
use Rattle.scrib_labelled.specs.Changes.{put_back_in_text}
use Rattle.scrib_labelled.specs.ExchangeLines.{exchange_label}
use Rattle.scrib_labelled.specs.LabelledRuns.{put_back}
use Rattle.scrib_report.specs.PutBack.{bytes_of}
use Rattle.scrib_labelled.proofs.ItemLemmas.{name_back, note_stays, notes_open, same_line}
use Rattle.scrib_labelled.proofs.labelled_monitor.LabelledMonitor.note.Goals as goal

pub returns-clause-ok : goal.returns-clause-ok
returns-clause-ok c =
    let old = c.args.self.now in
    let line = c.args.line in
    let w = state_of old.core in
    let u = state_of c.note_event-noted.new.self in
    let outcome = c.note_event-noted.result in
    let answered = c.note_event-noted.ensures.answered in
    let h = c.in_ok-gather_noted.ensures in
    let text = put_back_in_text (bytes_of line.tag) (bytes_of line.name) in
    let label = put_back old.style (exchange_label line) in
    let same = same_line text label refl (sym (name_back line.name line.id)) (note_reply_of line.id outcome) in
    notes_open old c.gather_noted.new.self label line.id line.event outcome u (c.if-not-prints_lines.ensures refl) h.style answered
    (ap (λ (k : CheckedCore). state_of k) (sym h.core))
    (note_stays old.style.closes line.id line.event outcome w u (sym c.may_close.ensures ∙ c.if-may_close.false) answered)
    (λ off. subst (λ (k : CheckedCore). GotMemory old.core k (note_reply_of line.id outcome ∷ [])) (sym h.core) c.note_event-noted.ensures.memory)
    (h.ok ∙ ap (λ (t : List ℕ). old.gathered.bytes.items ++ t) same)
