-- What a reading of a script into a monitor with names wrote.
use Rattle.std.proofs.Common.{◌≡◌, ℕ, List, [], ◌++◌, ◌∷◌, ◌∙◌, inl, inr, Option, Some, None, Result, Ok, Err, true, rules, refl, sym, ap, subst}
use Rattle.std.specs.Prelude.{IfErr, IfSome}
use Rattle.std.specs.Io.KnownBytes.{Appends, Keeps}
use Rattle.std.proofs.lemmas.List.{append-nil}
use Rattle.scrib_core.specs.Answers.{State, initial}
use Rattle.scrib_script_reader.specs.declared.entry.Entry.{Entry}
use Rattle.scrib_script_reader.specs.declared.entry.Entry.TheVariants as entry
use Rattle.scrib_script_reader.specs.declared.item.Item.{Item}
use Rattle.scrib_script_reader.specs.declared.limits.Limits.{Limits}
use Rattle.scrib_script_reader.specs.Limits.{IsWithinLimits}
use Rattle.scrib_script_reader.specs.Scripts.{lines}
use Rattle.scrib_script_io.specs.Faults.{of_script}
use Rattle.scrib_script_io.specs.declared.fault.ScriptFault.{ScriptFault}
use Rattle.scrib_script_io.specs.declared.fault.ScriptFault.TheVariants as fault
use Rattle.scrib_script_io.proofs.WriterLemmas.{appends_kept, appends_none}
use Rattle.scrib_labels.specs.declared.session_names.SessionNames.{SessionNames}
use Rattle.scrib_labels.specs.Naming.{IsNumberFor, number_of}
use Rattle.scrib_labelled.specs.declared.label_options.LabelOptions.{LabelOptions}
use Rattle.scrib_labelled.specs.declared.label_options.LabelledStyle.{LabelledStyle}
use Rattle.scrib_labelled.specs.declared.named_monitor.NamedMonitor.{NamedMonitor}
use Rattle.scrib_labelled.specs.Behind.{BeginsOutput, CarriesOut, Ran, RanEntries, behind, gathered_by, ran_begins, style_of}
use Rattle.scrib_labelled.specs.CheckedCores.{state_of}
use Rattle.scrib_labelled.specs.LabelledEntries.{all_entries, items_among}
use Rattle.scrib_labelled.specs.LabelledLines.{LineLabel}
use Rattle.scrib_labelled.specs.LabelledRuns.{IsLabelledOutput, IsLabelledPart, IsNumberIn, Runs, nothing, takes}
use Rattle.scrib_labelled.specs.LabelledScripts.{LabelledText, SpellsLabelled, all_items, no_line}
use Rattle.scrib_labelled.specs.NamedLines.{IsNumbersOf}
use Rattle.scrib_labelled.specs.Readings.{Beginning, IsPartOf, IsWholeOf, ReadingFails, ReadingSucceeds}
use Rattle.scrib_labelled.specs.Stages.{FailsEntry, TakesEnd, TakesEntry}
use Rattle.scrib_labelled.proofs.EntryLemmas.{all_items_among, items_spelled, items_with_item, items_with_skipped}

-- ---- the monitor as a stage

-- the number of a line's name
number-of-name : (names : SessionNames) (s : List ℕ × ℕ) → IsNumberFor names s.0 s.1 → IsNumberIn (number_of names) (Some s)
number-of-name names s (inl e) = inl e
number-of-name names s (inr h) = inr (h.0, h.2)

number-in : (names : SessionNames) (session : Option (List ℕ × ℕ)) → IsNumbersOf names session → IsNumberIn (number_of names) session
number-in names None h = tt
number-in names (Some s) h = number-of-name names s h.0

-- what an item that is carried out adds
ran : (o : LabelledStyle) (old new : NamedMonitor) (label : LineLabel) (i : Item) → (c : CarriesOut old new label i) → old.monitor.style ≡ o → IsNumberIn (number_of old.names) label.session
    → (items : List (LineLabel × Item)) (out : List ℕ) → Ran o items (behind old) out → Ran o (items ++ (label, i) ∷ []) (behind new) (out ++ c.more)
ran o old new label i c is number items out r = subst (λ (o : LabelledStyle). Ran o items (behind old) out → Ran o (items ++ (label, i) ∷ []) (behind new) (out ++ c.more)) is here r
  where
    here : Ran old.monitor.style items (behind old) out → Ran old.monitor.style (items ++ (label, i) ∷ []) (behind new) (out ++ c.more)
    here r =
        (takes items (number_of old.names) (number_of new.names) (state_of old.monitor.core) (state_of new.monitor.core) out c.more label i c.replies r.0 number c.takes c.named, λ off none. (r.1 off (c.memory off none).0, (c.memory off none).1))

-- an entry with an item was carried out
pub takes_item : (old new : NamedMonitor) (label : LineLabel) (i : Item) → IsNumbersOf old.names label.session → CarriesOut old new label i → TakesEntry RanEntries gathered_by old new label (entry.Item i)
takes_item old new label i number c = record {
  more = c.more;
  grows = c.grows;
  took = λ first entries out t. (
    c.style ∙ t.0,
    subst (λ (is : List (LineLabel × Item)). Ran (style_of first) is (behind new) (out ++ c.more)) (sym (items_with_item entries label i))
        (ran (style_of first) old new label i c t.0 (number-in old.names label.session number) (items_among entries) out t.1),
  );
}

-- an entry without one does nothing
pub takes_skipped : (now : NamedMonitor) (label : LineLabel) → TakesEntry RanEntries gathered_by now now label entry.Skipped
takes_skipped now label = record {
  more = [];
  grows = sym (append-nil (gathered_by now));
  took = λ first entries out t. (
    t.0,
    subst (λ (is : List (LineLabel × Item)). Ran (style_of first) is (behind now) (out ++ [])) (sym (items_with_skipped entries label))
        (subst (λ (x : List ℕ). Ran (style_of first) (items_among entries) (behind now) x) (sym (append-nil out)) t.1),
  );
}

-- a monitor that fails at an entry gathers nothing
pub fails_entry : (old new : NamedMonitor) (label : LineLabel) (e : Entry) → gathered_by new ≡ gathered_by old → FailsEntry RanEntries BeginsOutput gathered_by old new label e
fails_entry old new label e same = record {
  more = [];
  grows = same ∙ sym (append-nil (gathered_by old));
  part = λ first entries out t. inl (subst (λ (x : List ℕ). BeginsOutput first entries x) (sym (append-nil out)) (ran_begins first old entries out t));
}

-- the end of a script does nothing
pub takes_end : (now : NamedMonitor) → TakesEnd RanEntries RanEntries gathered_by now now
takes_end now = record {
  more = [];
  grows = sym (append-nil (gathered_by now));
  took = λ first entries out t. (t.0, subst (λ (x : List ℕ). Ran (style_of first) (items_among entries) (behind now) x) (sym (append-nil out)) t.1);
}

-- a new monitor has carried nothing out
pub ran_nothing : (n : NamedMonitor) → ((name : List ℕ) → number_of n.names name ≡ None) → state_of n.monitor.core ≡ initial → RanEntries n n [] []
ran_nothing n names state = (
  refl,
  subst (λ (w : State). Ran (style_of n) [] (record { names = number_of n.names; state = w; lacked = n.monitor.core.lacked }) []) (sym state) (nothing (number_of n.names) names, λ off none. tt),
)

-- ---- a whole script

-- the style of a reading into a new monitor
pub record IsNewReading (o : LabelledStyle) (m : Limits) (b : Beginning NamedMonitor) : Type 0 where
  pub style : style_of b.stage ≡ o
  pub labels : b.labels ≡ o.labels
  pub limits : b.limits ≡ m

-- all items were carried out
abbrev pub RanWhole : LabelledStyle → (input : List ℕ) → (after : NamedMonitor) → (output : List ℕ) → Type 0
RanWhole o input after output =
    (n : ℕ) × (unended : Option LabelledText) × (items : List (LineLabel × Item)) × SpellsLabelled o.labels (lines input) n unended items × Ran o (all_items unended items) (behind after) output

pub whole_output : (o : LabelledStyle) (m : Limits) (b : Beginning NamedMonitor) (after : NamedMonitor) (input out : List ℕ) → IsNewReading o m b → IsWholeOf RanEntries b after input out → RanWhole o input after out
whole_output o m b after input out new h = (
  h.0,
  h.1,
  items_among h.2,
  subst (λ (l : LabelOptions). SpellsLabelled l (lines input) h.0 h.1 (items_among h.2)) new.labels (items_spelled b.labels (lines input) h.0 h.1 h.2 h.3),
  subst (λ (is : List (LineLabel × Item)). Ran o is (behind after) out) (all_items_among h.1 h.2)
      (subst (λ (s : LabelledStyle). Ran s (items_among (all_entries h.1 h.2)) (behind after) out) new.style h.4.1),
)

-- what a whole run gave is an output
pub output_of : (o : LabelledStyle) (input : List ℕ) (after : NamedMonitor) (output : List ℕ) → RanWhole o input after output → IsLabelledOutput o input output
output_of o input after output h = (h.0, h.1, h.2, (behind after).names, (behind after).state, h.3, h.4.0)

-- all of an output is a part of it
part_whole : (o : LabelledStyle) (input output : List ℕ) → IsLabelledOutput o input output → IsLabelledPart o input output
part_whole o input output h = record {
  first = lines input;
  later = [];
  is = sym (append-nil (lines input));
  number = h.0;
  unended = h.1;
  items = h.2;
  spells = h.5;
  carried = all_items h.1 h.2;
  these = inr (refl, refl);
  names = h.3;
  after = h.4;
  output = output;
  runs = h.6;
  rest = [];
  begins = sym (append-nil output);
}

-- nothing is a part of each output
part_nothing : (o : LabelledStyle) (input : List ℕ) → IsLabelledPart o input []
part_nothing o input = record {
  first = [];
  later = lines input;
  is = refl;
  number = 1;
  unended = None;
  items = [];
  spells = no_line;
  carried = [];
  these = inl refl;
  names = λ name. None;
  after = initial;
  output = [];
  runs = nothing (λ name. None) (λ name. refl);
  rest = [];
  begins = refl;
}

-- a part of what a monitor gives for a script is one of an output
part_of : (o : LabelledStyle) (m : Limits) (b : Beginning NamedMonitor) (input out : List ℕ) → IsNewReading o m b → IsPartOf BeginsOutput b input out → IsLabelledPart o input out
part_of o m b input out new (inl p) = record {
  first = p.read;
  later = p.later;
  is = p.is;
  number = p.number;
  unended = p.unended;
  items = items_among p.entries;
  spells = subst (λ (l : LabelOptions). SpellsLabelled l p.read p.number p.unended (items_among p.entries)) new.labels (items_spelled b.labels p.read p.number p.unended p.entries p.spells);
  carried = items_among p.entries;
  these = inl refl;
  names = p.part.names;
  after = p.part.after;
  output = p.part.output;
  runs = subst (λ (s : LabelledStyle). Runs s (items_among p.entries) p.part.names p.part.after p.part.output) new.style p.part.runs;
  rest = p.part.rest;
  begins = p.part.begins;
}
part_of o m b input out new (inr p) = record {
  first = lines input;
  later = [];
  is = sym (append-nil (lines input));
  number = p.0;
  unended = p.1;
  items = items_among p.2;
  spells = subst (λ (l : LabelOptions). SpellsLabelled l (lines input) p.0 p.1 (items_among p.2)) new.labels (items_spelled b.labels (lines input) p.0 p.1 p.2 p.3);
  carried = items_among (all_entries p.1 p.2);
  these = inr (refl, all_items_among p.1 p.2);
  names = p.4.names;
  after = p.4.after;
  output = p.4.output;
  runs = subst (λ (s : LabelledStyle). Runs s (items_among (all_entries p.1 p.2)) p.4.names p.4.after p.4.output) new.style p.4.runs;
  rest = p.4.rest;
  begins = p.4.begins;
}

-- ---- for the proofs of functions

-- a script that was run is within the limits
pub ran_within : (o : LabelledStyle) (m : Limits) (b : Beginning NamedMonitor) (after : NamedMonitor) (r was now : Option (List ℕ)) → IsNewReading o m b → ReadingSucceeds RanEntries b after r was now → IfSome r (λ input. IsWithinLimits m input)
ran_within o m b after None was now new h = search rules
ran_within o m b after (Some input) was now new h = subst (λ (k : Limits). IsWithinLimits k input) new.limits h.1

-- a flush fails as a write does
pub written_fault : {T : Type 0} (r : Result T ScriptFault) → IfErr r (λ e. e ≡ fault.Write) → IfErr r (λ e. of_script e ≡ true)
written_fault (Ok x) h = tt
written_fault (Err e) h = ap of_script h

-- all of an output was written
abbrev pub WritesOutput : LabelledStyle → Option (List ℕ) → Option (List ℕ) → Option (List ℕ) → Type 0
WritesOutput o r old new = IfSome r (λ input. (output : List ℕ) × IsLabelledOutput o input output × Appends old new output)

-- a part of one was written
abbrev pub WritesPart : LabelledStyle → Option (List ℕ) → Option (List ℕ) → Option (List ℕ) → Type 0
WritesPart o r old new = IfSome r (λ input. (part : List ℕ) × IsLabelledPart o input part × Appends old new part)

-- a flush keeps what was written
pub flushed : (o : LabelledStyle) (m : Limits) (b : Beginning NamedMonitor) (after : NamedMonitor) (r was mid now : Option (List ℕ)) → IsNewReading o m b → ReadingSucceeds RanEntries b after r was mid → Keeps mid now → WritesOutput o r was now
flushed o m b after None was mid now new h keeps = search rules
flushed o m b after (Some input) was mid now new h keeps =
    (h.0.0, output_of o input after h.0.0 (whole_output o m b after input h.0.0 new h.0.1), appends_kept was mid now h.0.0 h.0.2 keeps)

-- a flush that fails after all was written
pub flush_failed : (o : LabelledStyle) (m : Limits) (b : Beginning NamedMonitor) (after : NamedMonitor) (r was mid now : Option (List ℕ)) → IsNewReading o m b → ReadingSucceeds RanEntries b after r was mid → Keeps mid now → WritesPart o r was now
flush_failed o m b after None was mid now new h keeps = search rules
flush_failed o m b after (Some input) was mid now new h keeps =
    (h.0.0, part_whole o input h.0.0 (output_of o input after h.0.0 (whole_output o m b after input h.0.0 new h.0.1)), appends_kept was mid now h.0.0 h.0.2 keeps)

-- a reading that failed
pub reading_failed : (o : LabelledStyle) (m : Limits) (b : Beginning NamedMonitor) (r was now : Option (List ℕ)) → IsNewReading o m b → ReadingFails BeginsOutput b r was now → WritesPart o r was now
reading_failed o m b None was now new h = search rules
reading_failed o m b (Some input) was now new h = (h.0, part_of o m b input h.0 new h.1, h.2)

-- nothing was read or written
pub never_started : (o : LabelledStyle) (r0 w0 : Option (List ℕ)) → WritesPart o r0 w0 w0
never_started o None w0 = search rules
never_started o (Some input) w0 = ([], part_nothing o input, appends_none w0)
