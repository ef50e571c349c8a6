-- What a monitor that sweeps does with an entry, and at the end of its script.
use Rattle.std.proofs.Common.{◌≡◌, ℕ, List, [], ◌∷◌, ◌++◌, ◌∙◌, inl, inr, Option, Some, None, refl, sym, ap, subst}
use Rattle.std.proofs.lemmas.List.{append-nil}
use Rattle.scrib_core.specs.Answers.{State, initial}
use Rattle.scrib_script_reader.specs.declared.entry.Entry.{Entry}
use Rattle.scrib_script_reader.specs.declared.entry.Entry.TheVariants as entry
use Rattle.scrib_script_reader.specs.declared.item.Item.{Item}
use Rattle.scrib_labels.specs.declared.session_names.SessionNames.{SessionNames}
use Rattle.scrib_labels.specs.Naming.{IsNumberFor, number_of}
use Rattle.scrib_labelled.specs.declared.label_options.LabelledStyle.{LabelledStyle}
use Rattle.scrib_labelled.specs.declared.named_monitor.NamedMonitor.{NamedMonitor}
use Rattle.scrib_labelled.specs.LabelledEntries.{LabelledEntry}
use Rattle.scrib_labelled.specs.LabelledLines.{LineLabel}
use Rattle.scrib_labelled.specs.LabelledRuns.{IsNumberIn, Takes, after_replies, put_back}
use Rattle.scrib_labelled.specs.NamedLines.{IsNumbersOf}
use Rattle.scrib_labelled.specs.Stages.{FailsEntry, TakesEnd, TakesEntry}
use Rattle.scrib_sweeping.specs.declared.sweep_counts.SweepCounts.{SweepCounts}
use Rattle.scrib_sweeping.specs.declared.sweeping_monitor.SweepingMonitor.{SweepingMonitor}
use Rattle.scrib_sweeping.specs.SweepingMonitors.{CarriesItem, SweptAll, SweptEntries, SweptPart, Sweeps, SweepsRest, entries_are_part, gathered_in, naming_of, state_in, style_of}
use Rattle.scrib_sweeping.specs.SweptRuns.{SweptRuns, no_sweeps, nothing, skips, takes, with_sweep}
use Rattle.scrib_sweeping.specs.SweptScripts.{AreAllSwept}

-- the number of a line's name
number_for : (names : SessionNames) (s : List ℕ × ℕ) → IsNumberFor names s.0 s.1 → IsNumberIn (number_of names) (Some s)
number_for names s (inl e) = inl e
number_for names s (inr h) = inr (h.0, h.2)

number_in : (names : SessionNames) (session : Option (List ℕ × ℕ)) → IsNumbersOf names session → IsNumberIn (number_of names) session
number_in names None h = tt
number_in names (Some s) h = number_for names s h.0

-- a new monitor has taken nothing
pub taken_nothing : (s : SweepingMonitor) → ((name : List ℕ) → naming_of s name ≡ None) → state_in s ≡ initial → s.counts ≡ no_sweeps → SweptEntries s s [] []
taken_nothing s unnamed state counts = record {
  style = refl;
  sums = no_sweeps;
  counted = counts;
  runs = subst (λ (w : State). SweptRuns (style_of s) [] (naming_of s) w no_sweeps []) (sym state) (nothing (naming_of s) unnamed);
}

-- ---- an entry

module _ (old mid : SweepingMonitor) (s : Sweeps old mid) where
  gathered_mid : gathered_in mid ≡ gathered_in old
  gathered_mid = ap (λ (n : NamedMonitor). n.monitor.gathered.bytes.items) s.same

  style_mid : style_of mid ≡ style_of old
  style_mid = ap (λ (n : NamedMonitor). n.monitor.style) s.same

  names_mid : mid.named.names ≡ old.named.names
  names_mid = ap (λ (n : NamedMonitor). n.names) s.same

  -- the sweep alone
  pub takes_skipped : (label : LineLabel) → TakesEntry SweptEntries gathered_in old mid label entry.Skipped
  takes_skipped label = record {
    more = [];
    grows = gathered_mid ∙ sym (append-nil (gathered_in old));
    took = λ first entries out h. record {
      style = style_mid ∙ h.style;
      sums = with_sweep h.sums s.judged s.refused;
      counted = s.counts h.sums h.counted;
      runs =
          subst (λ (x : List ℕ). SweptRuns (style_of first) (entries ++ (label, entry.Skipped) ∷ []) (naming_of mid) (state_in mid) (with_sweep h.sums s.judged s.refused) x) (sym (append-nil out))
          (subst (λ (n : SessionNames). SweptRuns (style_of first) (entries ++ (label, entry.Skipped) ∷ []) (number_of n) (state_in mid) (with_sweep h.sums s.judged s.refused) out) (sym names_mid)
          (skips entries (naming_of old) (state_in old) (state_in mid) h.sums out label s.judged s.refused h.runs s.swept));
    };
  }

  module _ (new : SweepingMonitor) (label : LineLabel) (i : Item) (number : IsNumbersOf old.named.names label.session) (c : CarriesItem mid new label i) where
    -- the item, behind the sweep
    ran : (o : LabelledStyle) → style_of mid ≡ o → (entries : List LabelledEntry) (sums : SweepCounts) (out : List ℕ) → SweptRuns o entries (naming_of old) (state_in old) sums out
        → SweptRuns o (entries ++ (label, entry.Item i) ∷ []) (naming_of new) (state_in new) (with_sweep sums s.judged s.refused) (out ++ c.carries.more)
    ran o is entries sums out runs =
        takes entries (naming_of old) (naming_of new) (state_in old) (state_in mid) (state_in new) sums out c.carries.more label i c.carries.replies s.judged s.refused runs s.swept (number_in old.named.names label.session number)
        (subst (λ (k : LabelledStyle). Takes k (put_back k label) (state_in mid) i (state_in new) c.carries.replies c.carries.more) is c.carries.takes)
        (λ name. c.carries.named name ∙ ap (λ (n : SessionNames). after_replies (number_of n) label.session c.carries.replies name) names_mid)

    pub takes_item : TakesEntry SweptEntries gathered_in old new label (entry.Item i)
    takes_item = record {
      more = c.carries.more;
      grows = c.carries.grows ∙ ap (λ (g : List ℕ). g ++ c.carries.more) gathered_mid;
      took = λ first entries out h. record {
        style = c.carries.style ∙ style_mid ∙ h.style;
        sums = with_sweep h.sums s.judged s.refused;
        counted = c.counts ∙ s.counts h.sums h.counted;
        runs = ran (style_of first) (style_mid ∙ h.style) entries h.sums out h.runs;
      };
    }

  -- a monitor that fails behind its sweep gathers nothing
  pub fails_entry : (new : SweepingMonitor) (label : LineLabel) (e : Entry) → gathered_in new ≡ gathered_in mid → FailsEntry SweptEntries SweptPart gathered_in old new label e
  fails_entry new label e same = record {
    more = [];
    grows = same ∙ gathered_mid ∙ sym (append-nil (gathered_in old));
    part = λ first entries out h. inl (subst (SweptPart first entries) (sym (append-nil out)) (entries_are_part first old entries out h));
  }

-- ---- the end of the script

pub takes_end : (old new : SweepingMonitor) → SweepsRest old new → TakesEnd SweptEntries SweptAll gathered_in old new
takes_end old new s = record {
  more = [];
  grows = ap (λ (n : NamedMonitor). n.monitor.gathered.bytes.items) s.same ∙ sym (append-nil (gathered_in old));
  took = λ first entries out h.
      subst (AreAllSwept (style_of first) entries new.counts) (sym (append-nil out))
      (record {
        names = naming_of old;
        state = state_in old;
        before = h.sums;
        runs = h.runs;
        judged = s.judged;
        after = state_in new;
        last = s.swept;
        counts_are = s.counts h.sums h.counted;
      });
}
