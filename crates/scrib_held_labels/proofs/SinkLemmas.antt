-- The item that a sink carries out.
use Rattle.std.proofs.Common.{◌≡◌, ◌++◌, ℕ, List, Option, Some, None, Bool, false, ap, refl, subst, sym, ◌∙◌, nat_eq, true, if◌then◌else◌}
use Rattle.std.specs.Map.{update}
use Rattle.scrib_script_reader.specs.declared.item.Item.{Item}
use Rattle.scrib_report.specs.PutBack.{ReplyLabel}
use Rattle.scrib_hold.specs.Sinks.{GathersItem}
use Rattle.scrib_labelled.specs.declared.labelled_monitor.Change.{Change}
use Rattle.scrib_labelled.specs.declared.labelled_monitor.LabelledMonitor.{LabelledMonitor}
use Rattle.scrib_labelled.specs.CheckedCores as cores
use Rattle.scrib_labelled.specs.LabelledLines.{LineLabel}
use Rattle.scrib_labelled.specs.Changes.{TakesItem}
use Rattle.scrib_labelled.specs.LabelledRuns.{Takes, put_back}
use Rattle.scrib_held_labels.specs.declared.labelled_sink.LabelledSink.{LabelledSink}
use Rattle.scrib_held_labels.specs.declared.waiting_labels.KeptLabel.{KeptLabel}
use Rattle.scrib_held_labels.specs.Sinks.{CarriesItem, gathered_in, state_of}
use Rattle.scrib_held_labels.specs.WaitingLabels.{kept_at, label_kept}

-- no label is kept behind the taking of one that was not
taken_away : (b : Bool) (x : Option KeptLabel) (kept : KeptLabel) → (if b then None else x) ≡ Some kept → x ≡ Some kept
taken_away false x kept h = h
taken_away true x kept h = absurd (cc)

pub carries : (old new : LabelledSink) (n : ℕ) (i : Item) (kept : KeptLabel) (l : ReplyLabel) (m : LabelledMonitor) (change : Change)
    → kept_at old.waiting n ≡ Some kept → ((k : ℕ) → kept_at new.waiting k ≡ update nat_eq (kept_at old.waiting) n None k)
    → l ≡ put_back old.monitor.style (label_kept kept)
    → TakesItem old.monitor m l i m.text.items change → m.gathered ≡ old.monitor.gathered
    → new.monitor ≡ record m { gathered = new.monitor.gathered } → new.monitor.gathered.bytes.items ≡ m.gathered.bytes.items ++ m.text.items
    → GathersItem CarriesItem gathered_in old new n i
carries old new n i kept l m change found rest label_is t same is grows =
    let state : state_of new ≡ cores.state_of m.core = ap (λ (x : LabelledMonitor). cores.state_of x.core) is in (
      m.text.items,
      record {
        style = ap (λ (x : LabelledMonitor). x.style) is ∙ t.style;
        carried = λ labels of. record {
          replies = t.replies;
          takes = subst (λ (x : ReplyLabel). Takes old.monitor.style x (cores.state_of old.monitor.core) i (state_of new) t.replies m.text.items)
              (label_is ∙ ap (λ (x : LineLabel). put_back old.monitor.style x) (of n kept found))
              (subst (λ x. Takes old.monitor.style l (cores.state_of old.monitor.core) i x t.replies m.text.items) (sym state) t.takes);
        };
        fewer = λ k x q. taken_away _ _ x (sym (rest k) ∙ q);
      },
      grows ∙ ap (λ (g : List ℕ). g ++ m.text.items) (ap (λ g. g.bytes.items) same),
    )
