use Rattle.std.proofs.Common.{◌∙◌, ◌++◌, List, sym, ap, subst}
use Rattle.scrib_core.specs.declared.format.Format.TheVariants as format
use Rattle.scrib_core.specs.declared.reply.Reply.{Reply}
use Rattle.scrib_core.specs.declared.step.Step.TheVariants.{Note}
use Rattle.scrib_cli.specs.declared.gathered.Gathered.{Gathered}
use Rattle.scrib_script_reader.specs.declared.item.Item.TheVariants as item
use Rattle.scrib_report.specs.PutBack.{put_back_by}
use Rattle.scrib_labelled.specs.declared.labelled_monitor.LabelledMonitor.{LabelledMonitor}
use Rattle.scrib_labelled.specs.CheckedCores.{state_of}
use Rattle.scrib_labelled.specs.Changes.{IsChangeBy, TakesItem}
use Rattle.scrib_labelled.proofs.ItemLemmas.{note_opens}
use Rattle.scrib_labelled.proofs.labelled_monitor.LabelledMonitor.note_as_object.Goals as goal

pub returns-clause-ok : goal.returns-clause-ok
returns-clause-ok c =
    let old = c.args.self.now in
    let took = c.in_ok-change.ensures.ok in
    let by = subst (λ (rs : List Reply). IsChangeBy rs c.in_ok-change.change) took.takes.5 took.changes in
    record {
      text = c.take.new.self.text.items;
      takes =
          subst (λ (m : LabelledMonitor). TakesItem old m (put_back_by c.args.label) (item.Step format.Line (Note c.args.id c.args.event)) c.take.new.self.text.items c.in_ok-change.change) (sym c.gather.ensures.same)
          (record { style = took.style; replies = took.replies; takes = took.takes; changes = took.changes; memory = took.memory });
      opens = note_opens old.style.closes (state_of old.core) took.takes.1 (state_of c.take.new.self.core) c.args.id c.args.event took.takes.0 c.in_ok-change.change took.takes.2 took.takes.3 took.takes.4 by;
      grows = c.in_ok-gather.ensures.ok ∙ ap (λ (g : Gathered). g.bytes.items ++ c.take.new.self.text.items) c.in_ok-change.ensures.same;
    }
