-- What a reading of a script into a stage wrote.
use Rattle.std.proofs.Common.{◌≡◌, ℕ, List, [], ◌∙◌, inl, inr, Option, Some, None, rules, refl, sym, subst}
use Rattle.std.specs.Prelude.{IfSome}
use Rattle.std.specs.Io.KnownBytes.{Appends, Keeps}
use Rattle.std.proofs.lemmas.List.{append-nil}
use Rattle.scrib_core.specs.Answers.{initial}
use Rattle.scrib_script_reader.specs.declared.limits.Limits.{Limits}
use Rattle.scrib_script_reader.specs.Limits.{IsWithinLimits}
use Rattle.scrib_script_reader.specs.Scripts.{lines}
use Rattle.scrib_script_io.proofs.WriterLemmas.{appends_kept, appends_none}
use Rattle.scrib_hold_stage.specs.declared.stage.Counts.{Counts}
use Rattle.scrib_hold.proofs.NumberedLemmas.{first_none}
use Rattle.scrib_labelled.specs.declared.label_options.LabelOptions.{LabelOptions}
use Rattle.scrib_labelled.specs.declared.label_options.LabelledStyle.{LabelledStyle}
use Rattle.scrib_labelled.specs.LabelledEntries.{SpellsLabelledEntries, all_entries, no_line}
use Rattle.scrib_labelled.specs.Readings.{Beginning, IsPartOf, IsWholeOf, ReadingFails, ReadingSucceeds}
use Rattle.scrib_held_labels.specs.declared.held_stage.HeldStage.{HeldStage}
use Rattle.scrib_held_labels.specs.HeldLabels.{AreAllHeld, IsHeldLabelledOutput, IsHeldLabelledPart, IsHeldPartOf}
use Rattle.scrib_held_labels.specs.HeldRuns.{nothing}
use Rattle.scrib_held_labels.specs.StageLaws.{all_held_is_part}
use Rattle.scrib_held_labels.specs.Stages.{HeldAll, HeldPart, bound_of, style_of}

-- the style and the bound of a reading into a new stage
pub record IsNewReading (o : LabelledStyle) (bound : ℕ) (m : Limits) (b : Beginning HeldStage) : Type 0 where
  pub style : style_of b.stage ≡ o
  pub bound_is : bound_of b.stage ≡ bound
  pub labels : b.labels ≡ o.labels
  pub limits : b.limits ≡ m

module _ (o : LabelledStyle) (bound : ℕ) (m : Limits) (b : Beginning HeldStage) (new : IsNewReading o bound m b) where
  -- what a whole run gave is an output
  whole_output : (after : HeldStage) (input out : List ℕ) (h : IsWholeOf HeldAll b after input out) → IsHeldLabelledOutput o bound input h.4.0 out
  whole_output after input out h = (
    h.0,
    h.1,
    h.2,
    subst (λ (l : LabelOptions). SpellsLabelledEntries l (lines input) h.0 h.1 h.2) new.labels h.3,
    subst (λ (k : ℕ). AreAllHeld o k (all_entries h.1 h.2) h.4.0 out) new.bound_is
        (subst (λ (s : LabelledStyle). AreAllHeld s (bound_of b.stage) (all_entries h.1 h.2) h.4.0 out) new.style h.4.2),
  )

  -- a part of what a stage gives for a script is one of an output
  part_of : (input out : List ℕ) → IsPartOf HeldPart b input out → IsHeldLabelledPart o bound input out
  part_of input out (inl p) = record {
    first = p.read;
    later = p.later;
    is = p.is;
    number = p.number;
    unended = p.unended;
    entries = p.entries;
    spells = subst (λ (l : LabelOptions). SpellsLabelledEntries l p.read p.number p.unended p.entries) new.labels p.spells;
    taken = p.entries;
    these = inl refl;
    part_is =
        subst (λ (k : ℕ). IsHeldPartOf o k p.entries out) new.bound_is
        (subst (λ (s : LabelledStyle). IsHeldPartOf s (bound_of b.stage) p.entries out) new.style p.part);
  }
  part_of input out (inr p) = record {
    first = lines input;
    later = [];
    is = sym (append-nil (lines input));
    number = p.0;
    unended = p.1;
    entries = p.2;
    spells = subst (λ (l : LabelOptions). SpellsLabelledEntries l (lines input) p.0 p.1 p.2) new.labels p.3;
    taken = all_entries p.1 p.2;
    these = inr (refl, refl);
    part_is =
        subst (λ (k : ℕ). IsHeldPartOf o k (all_entries p.1 p.2) out) new.bound_is
        (subst (λ (s : LabelledStyle). IsHeldPartOf s (bound_of b.stage) (all_entries p.1 p.2) out) new.style p.4);
  }

-- all of an output is a part of it
part_whole : (o : LabelledStyle) (bound : ℕ) (input : List ℕ) (counts : Counts) (output : List ℕ) → IsHeldLabelledOutput o bound input counts output → IsHeldLabelledPart o bound input output
part_whole o bound input counts output h = record {
  first = lines input;
  later = [];
  is = sym (append-nil (lines input));
  number = h.0;
  unended = h.1;
  entries = h.2;
  spells = h.3;
  taken = all_entries h.1 h.2;
  these = inr (refl, refl);
  part_is = all_held_is_part o bound (all_entries h.1 h.2) counts output h.4;
}

-- nothing is a part of each output
part_nothing : (o : LabelledStyle) (bound : ℕ) (input : List ℕ) → IsHeldLabelledPart o bound input []
part_nothing o bound input = record {
  first = [];
  later = lines input;
  is = refl;
  number = 1;
  unended = None;
  entries = [];
  spells = no_line;
  taken = [];
  these = inl refl;
  part_is = record {
    taken = [];
    later = [];
    are = refl;
    numbered = [];
    names = λ name. None;
    state = initial;
    out = [];
    runs = nothing (λ name. None) (λ name. refl);
    number = tt;
    given = [];
    after = initial;
    more = [];
    first = first_none bound [];
    carried = (refl, refl);
    rest = [];
    begins = refl;
  };
}

-- ---- for the proofs of functions

-- a script that was run is within the limits
pub ran_within : (o : LabelledStyle) (bound : ℕ) (m : Limits) (b : Beginning HeldStage) (after : HeldStage) (r was now : Option (List ℕ)) → IsNewReading o bound m b → ReadingSucceeds HeldAll b after r was now
    → IfSome r (λ input. IsWithinLimits m input)
ran_within o bound m b after None was now new h = search rules
ran_within o bound m b after (Some input) was now new h = subst (λ (k : Limits). IsWithinLimits k input) new.limits h.1

-- all of an output was written, with these counts
abbrev pub WritesOutput : LabelledStyle → (bound : ℕ) → Counts → Option (List ℕ) → Option (List ℕ) → Option (List ℕ) → Type 0
WritesOutput o bound counts r old new = IfSome r (λ input. (output : List ℕ) × IsHeldLabelledOutput o bound input counts output × Appends old new output)

-- a part of one was written
abbrev pub WritesPart : LabelledStyle → (bound : ℕ) → Option (List ℕ) → Option (List ℕ) → Option (List ℕ) → Type 0
WritesPart o bound r old new = IfSome r (λ input. (part : List ℕ) × IsHeldLabelledPart o bound input part × Appends old new part)

some_counts : (a b : Counts) → Some a ≡ Some b → a ≡ b
some_counts a b e = cc

-- a flush keeps what was written
pub flushed : (o : LabelledStyle) (bound : ℕ) (m : Limits) (b : Beginning HeldStage) (after : HeldStage) (counts : Counts) (r was mid now : Option (List ℕ)) → IsNewReading o bound m b → ReadingSucceeds HeldAll b after r was mid
    → after.counts ≡ Some counts → Keeps mid now → WritesOutput o bound counts r was now
flushed o bound m b after counts None was mid now new h is keeps = search rules
flushed o bound m b after counts (Some input) was mid now new h is keeps =
    let whole = h.0.1 in (
      h.0.0,
      subst (λ (k : Counts). IsHeldLabelledOutput o bound input k h.0.0) (some_counts whole.4.0 counts (sym whole.4.1 ∙ is)) (whole_output o bound m b new after input h.0.0 whole),
      appends_kept was mid now h.0.0 h.0.2 keeps,
    )

-- a flush that fails after all was written
pub flush_failed : (o : LabelledStyle) (bound : ℕ) (m : Limits) (b : Beginning HeldStage) (after : HeldStage) (r was mid now : Option (List ℕ)) → IsNewReading o bound m b → ReadingSucceeds HeldAll b after r was mid → Keeps mid now
    → WritesPart o bound r was now
flush_failed o bound m b after None was mid now new h keeps = search rules
flush_failed o bound m b after (Some input) was mid now new h keeps =
    (h.0.0, part_whole o bound input h.0.1.4.0 h.0.0 (whole_output o bound m b new after input h.0.0 h.0.1), appends_kept was mid now h.0.0 h.0.2 keeps)

-- a reading that failed
pub reading_failed : (o : LabelledStyle) (bound : ℕ) (m : Limits) (b : Beginning HeldStage) (r was now : Option (List ℕ)) → IsNewReading o bound m b → ReadingFails HeldPart b r was now → WritesPart o bound r was now
reading_failed o bound m b None was now new h = search rules
reading_failed o bound m b (Some input) was now new h = (h.0, part_of o bound m b new input h.0 h.1, h.2)

-- nothing was read or written
pub never_started : (o : LabelledStyle) (bound : ℕ) (r0 w0 : Option (List ℕ)) → WritesPart o bound r0 w0 w0
never_started o bound None w0 = search rules
never_started o bound (Some input) w0 = ([], part_nothing o bound input, appends_none w0)
