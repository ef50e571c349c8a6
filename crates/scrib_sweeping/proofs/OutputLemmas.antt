-- What a reading of a script into a monitor that sweeps wrote.
use Rattle.std.proofs.Common.{◌≡◌, ℕ, List, [], inl, inr, Option, Some, None, rules, refl, sym, subst}
use Rattle.std.specs.Prelude.{IfSome}
use Rattle.std.specs.Io.KnownBytes.{Appends, Keeps}
use Rattle.std.proofs.lemmas.List.{append-nil}
use Rattle.scrib_core.specs.Answers.{initial}
use Rattle.scrib_script_reader.specs.declared.limits.Limits.{Limits}
use Rattle.scrib_script_reader.specs.Limits.{IsWithinLimits}
use Rattle.scrib_script_reader.specs.Scripts.{lines}
use Rattle.scrib_script_io.proofs.WriterLemmas.{appends_kept, appends_none}
use Rattle.scrib_labelled.specs.declared.label_options.LabelOptions.{LabelOptions}
use Rattle.scrib_labelled.specs.declared.label_options.LabelledStyle.{LabelledStyle}
use Rattle.scrib_labelled.specs.LabelledEntries.{SpellsLabelledEntries, all_entries, no_line}
use Rattle.scrib_labelled.specs.Readings.{Beginning, IsPartOf, IsWholeOf, ReadingFails, ReadingSucceeds}
use Rattle.scrib_sweeping.specs.declared.sweep_counts.SweepCounts.{SweepCounts}
use Rattle.scrib_sweeping.specs.declared.sweeping_monitor.SweepingMonitor.{SweepingMonitor}
use Rattle.scrib_sweeping.specs.SweepingMonitors.{SweptAll, SweptPart, all_swept_is_part, style_of}
use Rattle.scrib_sweeping.specs.SweptRuns.{no_sweeps, nothing}
use Rattle.scrib_sweeping.specs.SweptScripts.{AreAllSwept, IsSweptOutput, IsSweptPart, IsSweptPartOf}

-- the style of a reading into a new monitor
pub record IsNewReading (o : LabelledStyle) (m : Limits) (b : Beginning SweepingMonitor) : Type 0 where
  pub style : style_of b.stage ≡ o
  pub labels : b.labels ≡ o.labels
  pub limits : b.limits ≡ m

module _ (o : LabelledStyle) (m : Limits) (b : Beginning SweepingMonitor) (new : IsNewReading o m b) where
  -- what a whole run gave is an output
  whole_output : (after : SweepingMonitor) (input out : List ℕ) → IsWholeOf SweptAll b after input out → IsSweptOutput o input out after.counts
  whole_output after input out h = (
    h.0,
    h.1,
    h.2,
    subst (λ (l : LabelOptions). SpellsLabelledEntries l (lines input) h.0 h.1 h.2) new.labels h.3,
    subst (λ (s : LabelledStyle). AreAllSwept s (all_entries h.1 h.2) after.counts out) new.style h.4,
  )

  -- a part of what a stage gives for a script is one of an output
  part_of : (input out : List ℕ) → IsPartOf SweptPart b input out → IsSweptPart o input out
  part_of input out (inl p) = record {
    first = p.read;
    later = p.later;
    is = p.is;
    number = p.number;
    unended = p.unended;
    entries = p.entries;
    spells = subst (λ (l : LabelOptions). SpellsLabelledEntries l p.read p.number p.unended p.entries) new.labels p.spells;
    taken = p.entries;
    these = inl refl;
    part_is = subst (λ (s : LabelledStyle). IsSweptPartOf s p.entries out) new.style p.part;
  }
  part_of input out (inr p) = record {
    first = lines input;
    later = [];
    is = sym (append-nil (lines input));
    number = p.0;
    unended = p.1;
    entries = p.2;
    spells = subst (λ (l : LabelOptions). SpellsLabelledEntries l (lines input) p.0 p.1 p.2) new.labels p.3;
    taken = all_entries p.1 p.2;
    these = inr (refl, refl);
    part_is = subst (λ (s : LabelledStyle). IsSweptPartOf s (all_entries p.1 p.2) out) new.style p.4;
  }

-- all of an output is a part of it
part_whole : (o : LabelledStyle) (input output : List ℕ) (counts : SweepCounts) → IsSweptOutput o input output counts → IsSweptPart o input output
part_whole o input output counts h = record {
  first = lines input;
  later = [];
  is = sym (append-nil (lines input));
  number = h.0;
  unended = h.1;
  entries = h.2;
  spells = h.3;
  taken = all_entries h.1 h.2;
  these = inr (refl, refl);
  part_is = all_swept_is_part o (all_entries h.1 h.2) counts output h.4;
}

-- nothing is a part of each output
part_nothing : (o : LabelledStyle) (input : List ℕ) → IsSweptPart o input []
part_nothing o input = record {
  first = [];
  later = lines input;
  is = refl;
  number = 1;
  unended = None;
  entries = [];
  spells = no_line;
  taken = [];
  these = inl refl;
  part_is = record {
    names = λ name. None;
    state = initial;
    counts = no_sweeps;
    output = [];
    runs = nothing (λ name. None) (λ name. refl);
    rest = [];
    begins = refl;
  };
}

-- ---- for the proofs of functions

-- a script that was run is within the limits
pub ran_within : (o : LabelledStyle) (m : Limits) (b : Beginning SweepingMonitor) (after : SweepingMonitor) (r was now : Option (List ℕ)) → IsNewReading o m b → ReadingSucceeds SweptAll b after r was now → IfSome r (λ input. IsWithinLimits m input)
ran_within o m b after None was now new h = search rules
ran_within o m b after (Some input) was now new h = subst (λ (k : Limits). IsWithinLimits k input) new.limits h.1

-- all of an output was written, with these counts
abbrev pub WritesOutput : LabelledStyle → SweepCounts → Option (List ℕ) → Option (List ℕ) → Option (List ℕ) → Type 0
WritesOutput o counts r old new = IfSome r (λ input. (output : List ℕ) × IsSweptOutput o input output counts × Appends old new output)

-- a part of one was written
abbrev pub WritesPart : LabelledStyle → Option (List ℕ) → Option (List ℕ) → Option (List ℕ) → Type 0
WritesPart o r old new = IfSome r (λ input. (part : List ℕ) × IsSweptPart o input part × Appends old new part)

-- a flush keeps what was written
pub flushed : (o : LabelledStyle) (m : Limits) (b : Beginning SweepingMonitor) (after : SweepingMonitor) (r was mid now : Option (List ℕ)) → IsNewReading o m b → ReadingSucceeds SweptAll b after r was mid → Keeps mid now
    → WritesOutput o after.counts r was now
flushed o m b after None was mid now new h keeps = search rules
flushed o m b after (Some input) was mid now new h keeps = (h.0.0, whole_output o m b new after input h.0.0 h.0.1, appends_kept was mid now h.0.0 h.0.2 keeps)

-- a flush that fails after all was written
pub flush_failed : (o : LabelledStyle) (m : Limits) (b : Beginning SweepingMonitor) (after : SweepingMonitor) (r was mid now : Option (List ℕ)) → IsNewReading o m b → ReadingSucceeds SweptAll b after r was mid → Keeps mid now → WritesPart o r was now
flush_failed o m b after None was mid now new h keeps = search rules
flush_failed o m b after (Some input) was mid now new h keeps =
    (h.0.0, part_whole o input h.0.0 after.counts (whole_output o m b new after input h.0.0 h.0.1), appends_kept was mid now h.0.0 h.0.2 keeps)

-- a reading that failed
pub reading_failed : (o : LabelledStyle) (m : Limits) (b : Beginning SweepingMonitor) (r was now : Option (List ℕ)) → IsNewReading o m b → ReadingFails SweptPart b r was now → WritesPart o r was now
reading_failed o m b None was now new h = search rules
reading_failed o m b (Some input) was now new h = (h.0, part_of o m b new input h.0 h.1, h.2)

-- nothing was read or written
pub never_started : (o : LabelledStyle) (r0 w0 : Option (List ℕ)) → WritesPart o r0 w0 w0
never_started o None w0 = search rules
never_started o (Some input) w0 = ([], part_nothing o input, appends_none w0)
