use Rattle.std.proofs.Common.{◌∙◌, ◌++◌, ℕ, List, [], Option, ap, refl, subst, sym}
use Rattle.std.proofs.lemmas.Result.{IfOk-weaker}
use Rattle.scrib_script_reader.specs.declared.item.Item.{Item}
use Rattle.scrib_report.specs.LabelledReplies.{labelled_bad_line, labelled_end}
use Rattle.scrib_report.specs.PutBack.{ReplyLabel, bytes_of, put_back_by}
use Rattle.scrib_labelled.specs.declared.labelled_monitor.Change.TheVariants as change
use Rattle.scrib_labelled.specs.NamedLines.{label_of}
use Rattle.scrib_reported.specs.declared.counted_core.CountedCore.{CountedCore}
use Rattle.scrib_reported.specs.CountedCores.{state_of}
use Rattle.scrib_reported.specs.Monitors.{CarriesItem, label_with}
use Rattle.scrib_reported.proofs.StepLemmas.{head_line, item_step, renames_nothing}
use Rattle.scrib_reported.proofs.SweepLemmas.{item_sweep, swept_line}
use Rattle.scrib_reported.proofs.reporting_monitor.ReportingMonitor.push_item.Goals as goal

pub returns-in-Step-clause-ok : goal.returns-in-Step-clause-ok
returns-in-Step-clause-ok c =
    let old = c.args.self.now in
    let new = c.push_all.new.self in
    let label = label_of c.args.parts in
    let same = c.label-label.ensures ∙ ap (λ (n : Option (List ℕ)). label_with old.style c.args.parts.line (bytes_of c.args.parts.tag) n) c.name_of.ensures in
    let line = head_line c.head-head.result c.label-label.result old.style label c.in-Step.asked same c.head-head.ensures in
    IfOk-weaker c.push_all.result _ _
    (λ changed m. subst (λ (i : Item). CarriesItem old new label i changed) (sym c.in-Step.is) (item_step old new c.clear.new.self label _ c.in-Step.asked c.in-Step.step changed line c.clear.ensures.items m))
    c.push_all.ensures.ok

pub returns-in_ok-push_labelled_bad_line-in-BadLine-clause-ok : goal.returns-in_ok-push_labelled_bad_line-in-BadLine-clause-ok
returns-in_ok-push_labelled_bad_line-in-BadLine-clause-ok c =
    let old = c.args.self.now in
    let same = c.label-label.ensures ∙ ap (λ (n : Option (List ℕ)). label_with old.style c.args.parts.line (bytes_of c.args.parts.tag) n) c.name_of.ensures in
    let text = labelled_bad_line old.style.format (put_back_by c.label-label.result) c.in-BadLine.number in
    let written = ap (λ (t : List ℕ). t ++ text) c.clear.ensures.items ∙ ap (λ (l : ReplyLabel). labelled_bad_line old.style.format l c.in-BadLine.number) same in
    subst (λ (i : Item). CarriesItem old (record old { core = c.count_bad_line.new.self; reporter = record old.reporter { text = c.push_labelled_bad_line.new.out } }) (label_of c.args.parts) i change.Unchanged) (sym c.in-BadLine.is)
    (record { replies = []; carries = (refl, ap (λ (k : CountedCore). state_of k) c.count_bad_line.ensures, λ i. refl, c.in_ok-push_labelled_bad_line-in-BadLine.ensures ∙ written); renames = renames_nothing; counted = ap (λ (k : CountedCore). k.summary) c.count_bad_line.ensures })

pub returns-in_ok-push_labelled_end-in-EndOfText-clause-ok : goal.returns-in_ok-push_labelled_end-in-EndOfText-clause-ok
returns-in_ok-push_labelled_end-in-EndOfText-clause-ok c =
    let old = c.args.self.now in
    let same = c.label-label.ensures ∙ ap (λ (n : Option (List ℕ)). label_with old.style c.args.parts.line (bytes_of c.args.parts.tag) n) c.name_of.ensures in
    let text = labelled_end old.style.format (put_back_by c.label-label.result) in
    let written = ap (λ (t : List ℕ). t ++ text) c.clear.ensures.items ∙ ap (λ (l : ReplyLabel). labelled_end old.style.format l) same in
    subst (λ (i : Item). CarriesItem old (record old { core = c.count_bad_line-in-EndOfText.new.self; reporter = record old.reporter { text = c.push_labelled_end.new.out } }) (label_of c.args.parts) i change.Unchanged) (sym c.in-EndOfText.is)
    (record { replies = []; carries = (refl, ap (λ (k : CountedCore). state_of k) c.count_bad_line-in-EndOfText.ensures, λ i. refl, c.in_ok-push_labelled_end-in-EndOfText.ensures ∙ written); renames = renames_nothing; counted = ap (λ (k : CountedCore). k.summary) c.count_bad_line-in-EndOfText.ensures })

pub returns-in_ok-push_sweep-in-Sweep-clause-ok : goal.returns-in_ok-push_sweep-in-Sweep-clause-ok
returns-in_ok-push_sweep-in-Sweep-clause-ok c =
    let old = c.args.self.now in
    let new = c.push_sweep.new.self in
    let label = label_of c.args.parts in
    let same = c.label-label.ensures ∙ ap (λ (n : Option (List ℕ)). label_with old.style c.args.parts.line (bytes_of c.args.parts.tag) n) c.name_of.ensures in
    let line = head_line c.head-head-in-Sweep.result c.label-label.result old.style label c.in-Sweep.asked same c.head-head-in-Sweep.ensures in
    let nameless = swept_line c.head-head-in-Sweep.result c.named.result old.style label c.in-Sweep.asked line c.named.ensures in
    subst (λ (i : Item). CarriesItem old new label i change.Unchanged) (sym c.in-Sweep.is) (item_sweep old new c.clear.new.self label _ c.in-Sweep.asked nameless c.clear.ensures.items c.in_ok-push_sweep-in-Sweep.ensures.ok)
