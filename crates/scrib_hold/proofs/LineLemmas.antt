-- Events that the stage lets out at once, and alone.
use Rattle.std.proofs.Common.{◌≡◌, ◌∙◌, ℕ, ◌+◌, Bool, true, false, cond, List, [], ◌∷◌, refl, sym, ap, subst}
use Rattle.std.specs.List.{AllByRecursion}
use Rattle.std.proofs.lemmas.List.{append-nil}
use Rattle.scrib_types.specs.declared.event.Event.{Event}
use Rattle.scrib_core.specs.declared.format.Format.TheVariants.{Line}
use Rattle.scrib_core.specs.declared.step.Step.TheVariants.{Note}
use Rattle.scrib_script_reader.specs.declared.item.Item.{Item}
use Rattle.scrib_script_reader.specs.declared.item.Item.TheVariants as item
use Rattle.scrib_script_reader.specs.declared.entry.Entry.{Entry}
use Rattle.scrib_script_reader.specs.declared.short_line.ShortLine.TheVariants as short
use Rattle.scrib_script_reader.specs.ShortLines.{short_entry}
use Rattle.scrib_hold_stage.specs.declared.noted.Noted.{Noted}
use Rattle.scrib_hold_stage.specs.declared.stage.HoldStage.{HoldStage}
use Rattle.scrib_hold_stage.specs.PendingClosings.{IsNotReady, closings_in}
use Rattle.scrib_hold_stage.specs.Stages as stages
use Rattle.scrib_hold.specs.declared.held_monitor.HeldMonitor.{HeldMonitor}
use Rattle.scrib_hold.specs.HeldScripts.{Asked, Pending, event_in}
use Rattle.scrib_hold.specs.NumberedItems.{Numbered}
use Rattle.scrib_hold.specs.Sinks.{GathersItem}
use Rattle.scrib_hold.specs.HeldMonitors.{HasTaken, TakesEntry, FailsAtEntry}
use Rattle.scrib_hold.proofs.SinkLemmas.{gathers_item}
use Rattle.scrib_hold.proofs.LetOutLemmas.{so_far_same}
use Rattle.scrib_hold.proofs.MonitorLemmas.{read_items, unread}
use Rattle.scrib_hold.proofs.ClosingLemmas.{before_none, ready_none, took, took_not}

same_end : (b : Bool) → b ≡ cond b true false
same_end true = refl
same_end false = refl

stage_moved : {S : Type 0} (bound : ℕ) (m : HeldMonitor S) (s : HoldStage Asked) (entries : List Entry) (numbered : List Numbered) → stages.stage_state s ≡ stages.stage_state m.stage → HasTaken bound m entries numbered
    → HasTaken bound (record m { stage = s }) entries numbered
stage_moved bound m s entries numbered same c = record {
  at = record {
    so_far = so_far_same bound (stages.stage_state m.stage) (stages.stage_state s) (closings_in m.pending) (closings_in m.pending) entries [] numbered same refl c.at.so_far;
    inside = c.at.inside;
  };
  wait = subst (λ (z : stages.StageState Asked). AllByRecursion (λ (d : Pending). IsNotReady d z) (closings_in m.pending)) (sym same) c.wait;
}

module _ {S : Type 0} (carries : S → S → ℕ → Item → List ℕ → Type 0) (gathered : S → List ℕ) where
  module _ (old new : HeldMonitor S) (id : ℕ) (e : Event) (passed : stages.PassesStageAlone event_in id e (stages.stage_state old.stage) (stages.stage_state new.stage)) (none : closings_in old.pending ≡ []) where
    -- the event, as it is released
    abbrev alone : Noted Asked
    alone = record { conversation = id; time = old.stage.time + 1; arrival = (e, Line) }

    pub took_event : (n : ℕ) → n ≡ old.stage.time + 1 → closings_in new.pending ≡ closings_in old.pending → new.ended_inside ≡ old.ended_inside → GathersItem carries gathered old.sink new.sink n (item.Step Line (Note id e))
        → TakesEntry carries gathered old new (short_entry (short.Note id e))
    took_event n number same inside gathers =
        let here = subst (λ (k : ℕ). GathersItem carries gathered old.sink new.sink k (item.Step Line (Note id e))) number gathers in
        took carries gathered old old new new (short_entry (short.Note id e)) (before_none carries gathered old (short_entry (short.Note id e)) none)
        (read_items carries gathered old (short_entry (short.Note id e)) (stages.stage_state new.stage) (alone ∷ []) (closings_in old.pending) (passed (e, Line) refl []) (sym (append-nil (closings_in old.pending))) new
        refl same (inside ∙ same_end old.ended_inside) (gathers_item carries gathered old.sink new.sink (old.stage.time + 1) (item.Step Line (Note id e)) here))
        (ready_none carries gathered new (same ∙ none))

  -- the sink failed
  pub failed_event : (old new : HeldMonitor S) (e : Entry) → closings_in old.pending ≡ [] → gathered new.sink ≡ gathered old.sink → FailsAtEntry carries gathered old new e
  failed_event old new e none same = took_not carries gathered old old new e (before_none carries gathered old e none) (unread carries gathered old new e same)

  -- ---- an event that does not pass at the first attempt

  pub took_later : (old new : HeldMonitor S) (s : HoldStage Asked) (e : Entry) → stages.stage_state s ≡ stages.stage_state old.stage → TakesEntry carries gathered (record old { stage = s }) new e → TakesEntry carries gathered old new e
  took_later old new s e same t = record {
    numbered = t.numbered;
    gathers = t.gathers;
    after = λ bound entries before c. t.after bound entries before (stage_moved bound old s entries before same c);
  }

  pub failed_later : (old new : HeldMonitor S) (s : HoldStage Asked) (e : Entry) → stages.stage_state s ≡ stages.stage_state old.stage → FailsAtEntry carries gathered (record old { stage = s }) new e → FailsAtEntry carries gathered old new e
  failed_later old new s e same t = record {
    numbered = t.numbered;
    fails = t.fails;
    after = λ bound entries before c. t.after bound entries before (stage_moved bound old s entries before same c);
  }
