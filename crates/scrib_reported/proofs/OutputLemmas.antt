-- What a reading of a script into a monitor that reports wrote.
use Rattle.std.proofs.Common.{◌≡◌, ℕ, List, [], ◌∙◌, inl, inr, Option, Some, None, Result, Ok, Err, true, rules, refl, sym, ap, subst}
use Rattle.std.specs.Prelude.{IfErr, IfSome}
use Rattle.std.specs.Io.KnownBytes.{Appends, Keeps}
use Rattle.std.proofs.lemmas.List.{append-nil}
use Rattle.scrib_core.specs.Answers.{initial}
use Rattle.scrib_script_reader.specs.declared.limits.Limits.{Limits}
use Rattle.scrib_script_reader.specs.Limits.{IsWithinLimits}
use Rattle.scrib_script_reader.specs.Scripts.{lines}
use Rattle.scrib_script_io.specs.Faults.{of_script}
use Rattle.scrib_script_io.specs.declared.fault.ScriptFault.{ScriptFault}
use Rattle.scrib_script_io.specs.declared.fault.ScriptFault.TheVariants as fault
use Rattle.scrib_script_io.proofs.WriterLemmas.{appends_kept, appends_none}
use Rattle.scrib_labels.specs.Naming.{number_of}
use Rattle.scrib_labelled.specs.declared.label_options.LabelOptions.{LabelOptions}
use Rattle.scrib_labelled.specs.declared.label_options.LabelledStyle.{LabelledStyle}
use Rattle.scrib_labelled.specs.LabelledEntries.{SpellsLabelledEntries, all_entries, items_among, no_line}
use Rattle.scrib_labelled.specs.Readings.{Beginning, IsPartOf, IsWholeOf, ReadingFails, ReadingSucceeds}
use Rattle.scrib_summary.specs.declared.summary.Summary.{Summary}
use Rattle.scrib_summary.specs.Summaries.{no_replies}
use Rattle.scrib_reported.specs.declared.reporting_monitor.ReportingMonitor.{ReportingMonitor}
use Rattle.scrib_reported.specs.Kept.{nothing_kept}
use Rattle.scrib_reported.specs.Monitors.{BeginsOutput, RanEntries, counted_in, kept_in, state_in}
use Rattle.scrib_reported.specs.ReportedRuns.{IsReportedOutput, IsReportedPart, IsTotal, ReportedRuns, nothing}

-- the style of a reading into a new monitor
pub record IsNewReading (o : LabelledStyle) (m : Limits) (b : Beginning ReportingMonitor) : Type 0 where
  pub style : b.stage.style ≡ o
  pub labels : b.labels ≡ o.labels
  pub limits : b.limits ≡ m

module _ (o : LabelledStyle) (m : Limits) (b : Beginning ReportingMonitor) (new : IsNewReading o m b) where
  -- what a whole run gave is an output
  whole_output : (after : ReportingMonitor) (input out : List ℕ) (total : Summary) → IsTotal (state_in after) (counted_in after) total → IsWholeOf RanEntries b after input out → IsReportedOutput o input out total
  whole_output after input out total t h = (
    h.0,
    h.1,
    h.2,
    number_of after.names,
    kept_in after,
    state_in after,
    counted_in after,
    subst (λ (l : LabelOptions). SpellsLabelledEntries l (lines input) h.0 h.1 h.2) new.labels h.3,
    subst (λ (s : LabelledStyle). ReportedRuns s (items_among (all_entries h.1 h.2)) (number_of after.names) (kept_in after) (state_in after) (counted_in after) out) new.style h.4.1,
    t,
  )

  -- and a part of one
  whole_part : (after : ReportingMonitor) (input out : List ℕ) → IsWholeOf RanEntries b after input out → IsReportedPart o input out
  whole_part after input out h = record {
    first = lines input;
    later = [];
    is = sym (append-nil (lines input));
    number = h.0;
    unended = h.1;
    entries = h.2;
    spells = subst (λ (l : LabelOptions). SpellsLabelledEntries l (lines input) h.0 h.1 h.2) new.labels h.3;
    taken = all_entries h.1 h.2;
    these = inr (refl, refl);
    names = number_of after.names;
    kept = kept_in after;
    after = state_in after;
    counted = counted_in after;
    output = out;
    runs = subst (λ (s : LabelledStyle). ReportedRuns s (items_among (all_entries h.1 h.2)) (number_of after.names) (kept_in after) (state_in after) (counted_in after) out) new.style h.4.1;
    rest = [];
    begins = sym (append-nil out);
  }

  -- a part of what a monitor gives for a script is one of an output
  part_of : (input out : List ℕ) → IsPartOf BeginsOutput b input out → IsReportedPart o input out
  part_of input out (inl p) = record {
    first = p.read;
    later = p.later;
    is = p.is;
    number = p.number;
    unended = p.unended;
    entries = p.entries;
    spells = subst (λ (l : LabelOptions). SpellsLabelledEntries l p.read p.number p.unended p.entries) new.labels p.spells;
    taken = p.entries;
    these = inl refl;
    names = p.part.names;
    kept = p.part.kept;
    after = p.part.after;
    counted = p.part.counted;
    output = p.part.output;
    runs = subst (λ (s : LabelledStyle). ReportedRuns s (items_among p.entries) p.part.names p.part.kept p.part.after p.part.counted p.part.output) new.style p.part.runs;
    rest = p.part.rest;
    begins = p.part.begins;
  }
  part_of input out (inr p) = record {
    first = lines input;
    later = [];
    is = sym (append-nil (lines input));
    number = p.0;
    unended = p.1;
    entries = p.2;
    spells = subst (λ (l : LabelOptions). SpellsLabelledEntries l (lines input) p.0 p.1 p.2) new.labels p.3;
    taken = all_entries p.1 p.2;
    these = inr (refl, refl);
    names = p.4.names;
    kept = p.4.kept;
    after = p.4.after;
    counted = p.4.counted;
    output = p.4.output;
    runs = subst (λ (s : LabelledStyle). ReportedRuns s (items_among (all_entries p.1 p.2)) p.4.names p.4.kept p.4.after p.4.counted p.4.output) new.style p.4.runs;
    rest = p.4.rest;
    begins = p.4.begins;
  }

-- nothing is a part of each output
part_nothing : (o : LabelledStyle) (input : List ℕ) → IsReportedPart o input []
part_nothing o input = record {
  first = [];
  later = lines input;
  is = refl;
  number = 1;
  unended = None;
  entries = [];
  spells = no_line;
  taken = [];
  these = inl refl;
  names = λ name. None;
  kept = λ id. nothing_kept;
  after = initial;
  counted = no_replies;
  output = [];
  runs = nothing (λ name. None) (λ id. nothing_kept) (λ name. refl) (λ id. refl);
  rest = [];
  begins = refl;
}

-- ---- for the proofs of functions

-- a script that was run is within the limits
pub ran_within : (o : LabelledStyle) (m : Limits) (b : Beginning ReportingMonitor) (after : ReportingMonitor) (r was now : Option (List ℕ)) → IsNewReading o m b → ReadingSucceeds RanEntries b after r was now → IfSome r (λ input. IsWithinLimits m input)
ran_within o m b after None was now new h = search rules
ran_within o m b after (Some input) was now new h = subst (λ (k : Limits). IsWithinLimits k input) new.limits h.1

-- a flush fails as a write does
pub written_fault : {T : Type 0} (r : Result T ScriptFault) → IfErr r (λ e. e ≡ fault.Write) → IfErr r (λ e. of_script e ≡ true)
written_fault (Ok x) h = tt
written_fault (Err e) h = ap of_script h

-- all of an output was written, and this is what the script comes to
abbrev pub WritesOutput : LabelledStyle → Option (List ℕ) → Option (List ℕ) → Option (List ℕ) → Summary → Type 0
WritesOutput o r old new total = IfSome r (λ input. (output : List ℕ) × IsReportedOutput o input output total × Appends old new output)

-- a part of one was written
abbrev pub WritesPart : LabelledStyle → Option (List ℕ) → Option (List ℕ) → Option (List ℕ) → Type 0
WritesPart o r old new = IfSome r (λ input. (part : List ℕ) × IsReportedPart o input part × Appends old new part)

-- a flush keeps what was written
pub flushed : (o : LabelledStyle) (m : Limits) (b : Beginning ReportingMonitor) (after : ReportingMonitor) (r was mid now : Option (List ℕ)) (total : Summary) → IsNewReading o m b → ReadingSucceeds RanEntries b after r was mid → Keeps mid now
    → IsTotal (state_in after) (counted_in after) total → WritesOutput o r was now total
flushed o m b after None was mid now total new h keeps t = search rules
flushed o m b after (Some input) was mid now total new h keeps t = (h.0.0, whole_output o m b new after input h.0.0 total t h.0.1, appends_kept was mid now h.0.0 h.0.2 keeps)

-- a flush or a count that fails after all was written
pub failed_after : (o : LabelledStyle) (m : Limits) (b : Beginning ReportingMonitor) (after : ReportingMonitor) (r was mid now : Option (List ℕ)) → IsNewReading o m b → ReadingSucceeds RanEntries b after r was mid → Keeps mid now → WritesPart o r was now
failed_after o m b after None was mid now new h keeps = search rules
failed_after o m b after (Some input) was mid now new h keeps = (h.0.0, whole_part o m b new after input h.0.0 h.0.1, appends_kept was mid now h.0.0 h.0.2 keeps)

-- a reading that failed
pub reading_failed : (o : LabelledStyle) (m : Limits) (b : Beginning ReportingMonitor) (r was now : Option (List ℕ)) → IsNewReading o m b → ReadingFails BeginsOutput b r was now → WritesPart o r was now
reading_failed o m b None was now new h = search rules
reading_failed o m b (Some input) was now new h = (h.0, part_of o m b new input h.0 h.1, h.2)

-- nothing was read or written
pub never_started : (o : LabelledStyle) (r0 w0 : Option (List ℕ)) → WritesPart o r0 w0 w0
never_started o None w0 = search rules
never_started o (Some input) w0 = ([], part_nothing o input, appends_none w0)
