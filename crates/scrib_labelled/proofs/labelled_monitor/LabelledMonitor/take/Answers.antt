use Rattle.std.proofs.Common.{◌∙◌, ◌++◌, ℕ, List, [], ap, refl, subst, sym}
use Rattle.std.proofs.lemmas.Result.{IfOk-weaker}
use Rattle.scrib_report.specs.PutBack.{put_back_by}
use Rattle.scrib_report.specs.ReplyTexts.{reply_format}
use Rattle.scrib_script_reader.specs.declared.item.Item.{Item}
use Rattle.scrib_script_reader.specs.declared.item.Item.TheVariants as item
use Rattle.scrib_labelled.specs.CheckedCores.{state_of}
use Rattle.scrib_labelled.specs.LabelledRuns.{Takes, labelled_sweep}
use Rattle.scrib_labelled.specs.declared.labelled_monitor.LabelledMonitor.{LabelledMonitor}
use Rattle.scrib_labelled.proofs.labelled_monitor.LabelledMonitor.take.Goals as goal

pub returns-in-Step-clause-ok : goal.returns-in-Step-clause-ok
returns-in-Step-clause-ok c =
    let o = c.args.self.now.style in
    let l = put_back_by c.args.label in
    let w = state_of c.args.self.now.core in
    let u = state_of c.push_step.new.self.core in
    let step = item.Step c.in-Step.asked c.in-Step.step in
    IfOk-weaker c.push_step.result _ _
    (λ change k. record {
      style = ap (λ (m : LabelledMonitor). m.style) c.push_step.ensures.same;
      replies = k.0;
      takes =
          subst (λ (i : Item). Takes o l w i u k.0 c.push_step.new.self.text.items) (sym c.in-Step.is)
          (subst (λ (t : List ℕ). Takes o l w step u k.0 t) (sym (k.5 ∙ ap (λ (t : List ℕ). t ++ k.1) c.clear.ensures.items)) k.2);
      changes = k.3;
      memory = k.4;
    })
    c.push_step.ensures.ok

pub returns-in-Sweep-clause-ok : goal.returns-in-Sweep-clause-ok
returns-in-Sweep-clause-ok c =
    let o = c.args.self.now.style in
    let l = put_back_by c.args.label in
    let w = state_of c.args.self.now.core in
    let u = state_of c.push_sweep.new.self.core in
    IfOk-weaker c.push_sweep.result _ _
    (λ change k. record {
      style = ap (λ (m : LabelledMonitor). m.style) c.push_sweep.ensures.same;
      replies = [];
      takes =
          subst (λ (i : Item). Takes o l w i u [] c.push_sweep.new.self.text.items) (sym c.in-Sweep.is)
          (k.1, k.2, refl, k.4 ∙ ap (λ (t : List ℕ). t ++ labelled_sweep (reply_format o.format c.in-Sweep.asked) l k.1) c.clear.ensures.items);
      changes = k.0;
      memory = λ open_ones. k.3;
    })
    c.push_sweep.ensures.ok
