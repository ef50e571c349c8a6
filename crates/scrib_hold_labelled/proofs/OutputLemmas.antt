-- What a reading of a script into a stage wrote.
use Rattle.std.proofs.Common.{◌≡◌, ℕ, Bool, List, [], ◌∙◌, inl, inr, Option, Some, None, rules, refl, sym, subst}
use Rattle.std.specs.Prelude.{IfSome}
use Rattle.std.specs.Io.KnownBytes.{Appends, Keeps}
use Rattle.std.proofs.lemmas.List.{append-nil}
use Rattle.scrib_script_reader.specs.declared.limits.Limits.{Limits}
use Rattle.scrib_script_reader.specs.Limits.{IsWithinLimits}
use Rattle.scrib_script_reader.specs.Scripts.{lines}
use Rattle.scrib_script_io.proofs.WriterLemmas.{appends_kept, appends_none}
use Rattle.scrib_hold_stage.specs.declared.stage.Counts.{Counts}
use Rattle.scrib_hold.proofs.NumberedLemmas.{first_none}
use Rattle.scrib_labelled.specs.declared.label_options.LabelOptions.{LabelOptions}
use Rattle.scrib_labelled.specs.LabelledEntries.{LabelledEntry, SpellsLabelledEntries, all_entries, no_line}
use Rattle.scrib_labelled.specs.LabelledScripts.{LabelledText}
use Rattle.scrib_labelled.specs.LabelledScripts as scripts
use Rattle.scrib_labelled.specs.Readings.{Beginning, IsPartOf, IsWholeOf, ReadingFails, ReadingSucceeds}
use Rattle.scrib_hold_labelled.specs.declared.line_stage.LineStage.{LineStage}
use Rattle.scrib_hold_labelled.specs.HeldLabelledScripts.{IsHeldLabelledScript, IsHeldLabelledScriptPart, nothing}
use Rattle.scrib_hold_labelled.specs.StageLaws.{all_lines_are_part}
use Rattle.scrib_hold_labelled.specs.Stages.{AreAllLines, ArePartOfLines, WroteAll, WrotePart, bound_of}
use Rattle.scrib_hold_labelled.proofs.ScriptLemmas.{all_spelled, beginning_of, first_spelled, script_of}
use Rattle.scrib_hold_labelled.proofs.ShapeLemmas.{first_ended, lines_ended}

-- the labels and the bound of a reading into a new stage
pub record IsNewReading (o : LabelOptions) (bound : ℕ) (m : Limits) (b : Beginning LineStage) : Type 0 where
  pub objects : b.stage.objects ≡ o.objects
  pub bound_is : bound_of b.stage ≡ bound
  pub labels : b.labels ≡ o
  pub limits : b.limits ≡ m

module _ (o : LabelOptions) (bound : ℕ) (m : Limits) (b : Beginning LineStage) (new : IsNewReading o bound m b) where
  all-lines : (entries : List LabelledEntry) (counts : Counts) (out : List ℕ) → AreAllLines b.stage.objects (bound_of b.stage) entries counts out → AreAllLines o.objects bound entries counts out
  all-lines entries counts out h =
      subst (λ (k : ℕ). AreAllLines o.objects k entries counts out) new.bound_is (subst (λ (on : Bool). AreAllLines on (bound_of b.stage) entries counts out) new.objects h)

  part-of-lines : (entries : List LabelledEntry) (out : List ℕ) → WrotePart b.stage entries out → ArePartOfLines o.objects bound entries out
  part-of-lines entries out h =
      subst (λ (k : ℕ). ArePartOfLines o.objects k entries out) new.bound_is (subst (λ (on : Bool). ArePartOfLines on (bound_of b.stage) entries out) new.objects h)

  spelled-by : (ls : List (List ℕ)) (n : ℕ) (t : Option LabelledText) (es : List LabelledEntry) → SpellsLabelledEntries b.labels ls n t es → SpellsLabelledEntries o ls n t es
  spelled-by ls n t es h = subst (λ (l : LabelOptions). SpellsLabelledEntries l ls n t es) new.labels h

  -- what a whole run gave is a script
  whole_output : (after : LineStage) (input out : List ℕ) (h : IsWholeOf WroteAll b after input out) → IsHeldLabelledScript o bound input h.4.0 out
  whole_output after input out h =
      let s = spelled-by (lines input) h.0 h.1 h.2 h.3 in
      (h.0, h.1, h.2, s, script_of o bound (lines input) h.0 h.1 h.2 h.4.0 out s (lines_ended input) (all-lines (all_entries h.1 h.2) h.4.0 out h.4.2))

  -- a part of what a stage gives for a script is one of a script
  part_of : (input out : List ℕ) → IsPartOf WrotePart b input out → IsHeldLabelledScriptPart o bound input out
  part_of input out (inl p) =
      let s = spelled-by p.read p.number p.unended p.entries p.spells in
      let part = part-of-lines p.entries out p.part in
      record {
        first = p.read;
        later = p.later;
        is = p.is;
        number = p.number;
        unended = p.unended;
        entries = p.entries;
        spells = s;
        taken = p.entries;
        these = inl refl;
        part_is = beginning_of o bound p.entries out part (first_spelled o p.read p.number p.unended p.entries _ s (first_ended (lines input) p.read p.later p.is (lines_ended input)) part.written);
      }
  part_of input out (inr p) =
      let s = spelled-by (lines input) p.0 p.1 p.2 p.3 in
      let part = part-of-lines (all_entries p.1 p.2) out p.4 in
      record {
        first = lines input;
        later = [];
        is = sym (append-nil (lines input));
        number = p.0;
        unended = p.1;
        entries = p.2;
        spells = s;
        taken = all_entries p.1 p.2;
        these = inr (refl, refl);
        part_is = beginning_of o bound (all_entries p.1 p.2) out part (all_spelled o (lines input) p.0 p.1 p.2 _ s (lines_ended input) part.ends part.written);
      }

  -- all of a script is a part of it
  whole_part : (after : LineStage) (input out : List ℕ) → IsWholeOf WroteAll b after input out → IsHeldLabelledScriptPart o bound input out
  whole_part after input out h = part_of input out (inr (h.0, h.1, h.2, h.3, all_lines_are_part b.stage.objects (bound_of b.stage) (all_entries h.1 h.2) h.4.0 out h.4.2))

-- nothing is a part of each script
part_nothing : (o : LabelOptions) (bound : ℕ) (input : List ℕ) → IsHeldLabelledScriptPart o bound input []
part_nothing o bound input = record {
  first = [];
  later = lines input;
  is = refl;
  number = 1;
  unended = None;
  entries = [];
  spells = no_line;
  taken = [];
  these = inl refl;
  part_is = record {
    taken = [];
    later = [];
    are = refl;
    numbered = [];
    names = λ name. None;
    named = nothing (λ name. None) (λ name. refl);
    number = tt;
    given = [];
    first = first_none bound [];
    unwritten = [];
    spells = (1, None, [], scripts.no_line, refl);
  };
}

-- ---- for the proofs of functions

-- a script that was read is within the limits
pub ran_within : (o : LabelOptions) (bound : ℕ) (m : Limits) (b : Beginning LineStage) (after : LineStage) (r was now : Option (List ℕ)) → IsNewReading o bound m b → ReadingSucceeds WroteAll b after r was now
    → IfSome r (λ input. IsWithinLimits m input)
ran_within o bound m b after None was now new h = search rules
ran_within o bound m b after (Some input) was now new h = subst (λ (k : Limits). IsWithinLimits k input) new.limits h.1

-- all of a script was written, with these counts
abbrev pub WritesScript : LabelOptions → (bound : ℕ) → Counts → Option (List ℕ) → Option (List ℕ) → Option (List ℕ) → Type 0
WritesScript o bound counts r old new = IfSome r (λ input. (output : List ℕ) × IsHeldLabelledScript o bound input counts output × Appends old new output)

-- a part of one was written
abbrev pub WritesPart : LabelOptions → (bound : ℕ) → Option (List ℕ) → Option (List ℕ) → Option (List ℕ) → Type 0
WritesPart o bound r old new = IfSome r (λ input. (part : List ℕ) × IsHeldLabelledScriptPart o bound input part × Appends old new part)

some_counts : (a b : Counts) → Some a ≡ Some b → a ≡ b
some_counts a b e = cc

-- a flush keeps what was written
pub flushed : (o : LabelOptions) (bound : ℕ) (m : Limits) (b : Beginning LineStage) (after : LineStage) (counts : Counts) (r was mid now : Option (List ℕ)) → IsNewReading o bound m b → ReadingSucceeds WroteAll b after r was mid
    → after.counts ≡ Some counts → Keeps mid now → WritesScript o bound counts r was now
flushed o bound m b after counts None was mid now new h is keeps = search rules
flushed o bound m b after counts (Some input) was mid now new h is keeps =
    let whole = h.0.1 in (
      h.0.0,
      subst (λ (k : Counts). IsHeldLabelledScript o bound input k h.0.0) (some_counts whole.4.0 counts (sym whole.4.1 ∙ is)) (whole_output o bound m b new after input h.0.0 whole),
      appends_kept was mid now h.0.0 h.0.2 keeps,
    )

-- a flush that fails after all was written
pub flush_failed : (o : LabelOptions) (bound : ℕ) (m : Limits) (b : Beginning LineStage) (after : LineStage) (r was mid now : Option (List ℕ)) → IsNewReading o bound m b → ReadingSucceeds WroteAll b after r was mid → Keeps mid now
    → WritesPart o bound r was now
flush_failed o bound m b after None was mid now new h keeps = search rules
flush_failed o bound m b after (Some input) was mid now new h keeps = (h.0.0, whole_part o bound m b new after input h.0.0 h.0.1, appends_kept was mid now h.0.0 h.0.2 keeps)

-- a reading that failed
pub reading_failed : (o : LabelOptions) (bound : ℕ) (m : Limits) (b : Beginning LineStage) (r was now : Option (List ℕ)) → IsNewReading o bound m b → ReadingFails WrotePart b r was now → WritesPart o bound r was now
reading_failed o bound m b None was now new h = search rules
reading_failed o bound m b (Some input) was now new h = (h.0, part_of o bound m b new input h.0 h.1, h.2)

-- nothing was read or written
pub never_started : (o : LabelOptions) (bound : ℕ) (r0 w0 : Option (List ℕ)) → WritesPart o bound r0 w0 w0
never_started o bound None w0 = search rules
never_started o bound (Some input) w0 = ([], part_nothing o bound input, appends_none w0)
