use Rattle.std.proofs.Common.{◌≡◌, ◌∙◌, ◌++◌, ℕ, List, Option, Some, sym, ap, subst}
use Rattle.std.proofs.lemmas.Result.{on_ok_weaker}
use Rattle.scrib_labels.specs.Naming.{number_of}
use Rattle.scrib_report.specs.PutBack.{ReplyLabel, bytes_of}
use Rattle.scrib_labelled.specs.declared.labelled_monitor.LabelledMonitor.{LabelledMonitor}
use Rattle.scrib_labelled.specs.declared.line_parts.Session.{Session}
use Rattle.scrib_labelled.specs.declared.named_monitor.NamedMonitor.{NamedMonitor}
use Rattle.scrib_labelled.specs.LabelledRuns.{session_name}
use Rattle.scrib_labelled.specs.NamedLines.{label_of, session_of}
use Rattle.scrib_labelled.specs.Changes.{TakesItem, after_change}
use Rattle.scrib_labelled.proofs.ItemLemmas.{carries_item, put_back_is}
use Rattle.scrib_labelled.proofs.named_monitor.NamedMonitor.carry_out.Goals.{in-Some, in-None, in-Some-session+in_ok-rename, in_default}
use Rattle.scrib_labelled.proofs.named_monitor.NamedMonitor.carry_out.Goals as goal

pub returns-clause-ok : goal.returns-clause-ok
returns-clause-ok c =
    let name_in : Option Session → Option (List ℕ) = λ s. session_name (session_of s) in
    let name : bytes_of c.match-parts.name ≡ name_in c.args.parts.session = elim c.match-parts.branch [
      | in-Some w ↦ ap bytes_of w.name-is ∙ ap Some w.as_bytes.ensures.value ∙ sym (ap name_in w.in-Some.is)
      | in-None w ↦ ap bytes_of w.name-is ∙ sym (ap name_in w.in-None.is)
    ] in
    let monitor : c.match-parts-2.self.monitor ≡ c.take.new.self = elim c.match-parts-2.branch [
      | in-Some-session+in_ok-rename w ↦ ap (λ (m : NamedMonitor). m.monitor) (w.self-is ∙ w.in_ok-rename.ensures.same)
      | in_default w ↦ ap (λ (m : NamedMonitor). m.monitor) w.self-is
    ] in
    let names : (n : List ℕ) → number_of c.match-parts-2.self.names n ≡ after_change (number_of c.args.self.now.names) (session_of c.args.parts.session) c.in_ok-change.change n = λ n. elim c.match-parts-2.branch [
      | in-Some-session+in_ok-rename w ↦
          ap (λ (m : NamedMonitor). number_of m.names n) w.self-is ∙ w.in_ok-rename.ensures.named n
          ∙ sym (ap (λ (s : Option Session). after_change (number_of c.args.self.now.names) (session_of s) c.in_ok-change.change n) w.in-Some-session.is)
      | in_default w ↦
          ap (λ (m : NamedMonitor). number_of m.names n) w.self-is
          ∙ sym (ap (λ (s : Option Session). after_change (number_of c.args.self.now.names) (session_of s) c.in_ok-change.change n) w.in_default.is)
    ] in
    let back = put_back_is c.args.self.now.monitor.style (label_of c.args.parts) (bytes_of c.match-parts.name) c.printed.result name c.printed.ensures in
    on_ok_weaker c.gather.result
    (λ h. carries_item c.args.self.now _ c.take.new.self (label_of c.args.parts) c.args.item c.in_ok-change.change
    (subst (λ (l : ReplyLabel). TakesItem c.args.self.now.monitor c.take.new.self l c.args.item c.take.new.self.text.items c.in_ok-change.change) back c.in_ok-change.ensures.ok)
    c.in_ok-change.ensures.same
    (c.gather.ensures.same ∙ ap (λ (m : LabelledMonitor). record m { gathered = c.gather.new.self.gathered }) monitor)
    (h ∙ ap (λ (m : LabelledMonitor). m.gathered.bytes.items ++ m.text.items) monitor) names)
    c.gather.ensures.ok
