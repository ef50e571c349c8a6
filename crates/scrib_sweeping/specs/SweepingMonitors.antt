-- What a monitor that sweeps before each entry has taken (this project's own). Only contracts of private functions and
-- the laws of a private stage cite this file.
use Rattle.std.specs.Prelude.{◌≡◌, ℕ, Bool, List, [], ◌++◌, Option}
use Rattle.std.proofs.Common.{◌∙◌, sym}
use Rattle.std.proofs.lemmas.List.{append-nil, append_assoc}
use Rattle.scrib_core.specs.Answers.{State}
use Rattle.scrib_script_reader.specs.declared.item.Item.{Item}
use Rattle.scrib_sweep.specs.Sweeps.{IsSwept}
use Rattle.scrib_labels.specs.Naming.{number_of}
use Rattle.scrib_labelled.specs.declared.label_options.LabelledStyle.{LabelledStyle}
use Rattle.scrib_labelled.specs.declared.named_monitor.NamedMonitor.{NamedMonitor}
use Rattle.scrib_labelled.specs.Behind.{CarriesOut}
use Rattle.scrib_labelled.specs.CheckedCores as cores
use Rattle.scrib_labelled.specs.LabelledEntries.{LabelledEntry}
use Rattle.scrib_labelled.specs.LabelledLines.{LineLabel}
use Rattle.scrib_labelled.specs.LabelledRuns.{Naming}
use Rattle.scrib_sweeping.specs.declared.sweep_counts.SweepCounts.{SweepCounts}
use Rattle.scrib_sweeping.specs.declared.sweeping_monitor.SweepingMonitor.{SweepingMonitor}
use Rattle.scrib_sweeping.specs.SweptRuns.{IsSweptBefore, SweptRuns, with_sweep}
use Rattle.scrib_sweeping.specs.SweptScripts.{AreAllSwept, IsSweptPartOf, capped, with_last}

-- the style of a monitor
abbrev pub style_of : SweepingMonitor → LabelledStyle
style_of s = s.named.monitor.style

-- its state
abbrev pub state_in : SweepingMonitor → State
state_in s = cores.state_of s.named.monitor.core

-- the numbers of names
abbrev pub naming_of : SweepingMonitor → Naming
naming_of s = number_of s.named.names

-- the replies that are not written yet
abbrev pub gathered_in : SweepingMonitor → List ℕ
gathered_in s = s.named.monitor.gathered.bytes.items

-- since it was new the monitor took these entries, and gave this output
pub record SweptEntries (first now : SweepingMonitor) (entries : List LabelledEntry) (out : List ℕ) : Type 0 where
  pub style : style_of now ≡ style_of first
  pub sums : SweepCounts
  pub counted : now.counts ≡ capped sums
  pub runs : SweptRuns (style_of first) entries (naming_of now) (state_in now) sums out

-- it took all entries of a script, and gave this output
abbrev pub SweptAll : (first now : SweepingMonitor) → List LabelledEntry → (out : List ℕ) → Type 0
SweptAll first now entries out = AreAllSwept (style_of first) entries now.counts out

-- the output is a beginning of what these entries give
abbrev pub SweptPart : (first : SweepingMonitor) → List LabelledEntry → (part : List ℕ) → Type 0
SweptPart first entries part = IsSweptPartOf (style_of first) entries part

-- nothing has changed in the monitor with its names but its state
abbrev pub IsSameBut : (old new : NamedMonitor) → Type 0
IsSameBut old new = new ≡ record old { monitor = record old.monitor { core = new.monitor.core } }

-- a sweep before an entry, which is counted
pub record Sweeps (old new : SweepingMonitor) : Type 0 where
  pub judged : ℕ
  pub refused : Bool
  pub swept : IsSweptBefore (state_in old) judged refused (state_in new)
  pub counts : (sums : SweepCounts) → old.counts ≡ capped sums → new.counts ≡ capped (with_sweep sums judged refused)
  pub same : IsSameBut old.named new.named

-- the last sweep, which is counted
pub record SweepsRest (old new : SweepingMonitor) : Type 0 where
  pub judged : Option ℕ
  pub swept : IsSwept (state_in old) judged (state_in new)
  pub counts : (sums : SweepCounts) → old.counts ≡ capped sums → new.counts ≡ capped (with_last sums judged)
  pub same : IsSameBut old.named new.named

-- the item of a line with this label was carried out, and its output gathered
pub record CarriesItem (old new : SweepingMonitor) (label : LineLabel) (i : Item) : Type 0 where
  pub carries : CarriesOut old.named new.named label i
  pub counts : new.counts ≡ old.counts

-- what was given for some entries is a part of it
pub entries_are_part : (first now : SweepingMonitor) (entries : List LabelledEntry) (out : List ℕ)
    → SweptEntries first now entries out → SweptPart first entries out
entries_are_part first now entries out h = record {
  names = naming_of now;
  state = state_in now;
  counts = h.sums;
  output = out;
  runs = h.runs;
  rest = [];
  begins = sym (append-nil out);
}

-- all that entries give is a part of it
pub all_swept_is_part : (o : LabelledStyle) (entries : List LabelledEntry) (counts : SweepCounts) (out : List ℕ)
    → AreAllSwept o entries counts out → IsSweptPartOf o entries out
all_swept_is_part o entries counts out a = record {
  names = a.names;
  state = a.state;
  counts = a.before;
  output = out;
  runs = a.runs;
  rest = [];
  begins = sym (append-nil out);
}

-- what was given for a script is a part of it
pub all_is_part : (first now : SweepingMonitor) (entries : List LabelledEntry) (out : List ℕ)
    → SweptAll first now entries out → SweptPart first entries out
all_is_part first now entries out a = all_swept_is_part (style_of first) entries now.counts out a

-- a beginning of a part is one
pub less_is_part : (first : SweepingMonitor) (entries : List LabelledEntry) (part rest : List ℕ)
    → SweptPart first entries (part ++ rest) → SweptPart first entries part
less_is_part first entries part rest h = record {
  names = h.names;
  state = h.state;
  counts = h.counts;
  output = h.output;
  runs = h.runs;
  rest = rest ++ h.rest;
  begins = h.begins ∙ append_assoc part rest h.rest;
}
