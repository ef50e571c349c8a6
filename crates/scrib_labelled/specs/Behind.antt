-- What a monitor with names has carried out (this project's own).
use Rattle.std.specs.Prelude.{◌≡◌, ℕ, Bool, false, List, [], ◌++◌}
use Rattle.std.proofs.Common.{◌∙◌, sym}
use Rattle.std.proofs.lemmas.List.{append-nil, append_assoc}
use Rattle.scrib_core.specs.Answers.{State}
use Rattle.scrib_core.specs.declared.reply.Reply.{Reply}
use Rattle.scrib_script_reader.specs.declared.item.Item.{Item}
use Rattle.scrib_labels.specs.Naming.{number_of}
use Rattle.scrib_labelled.specs.declared.label_options.LabelledStyle.{LabelledStyle}
use Rattle.scrib_labelled.specs.declared.named_monitor.NamedMonitor.{NamedMonitor}
use Rattle.scrib_labelled.specs.CheckedCores.{GotMemory, state_of}
use Rattle.scrib_labelled.specs.LabelledEntries.{LabelledEntry, items_among}
use Rattle.scrib_labelled.specs.LabelledLines.{LineLabel}
use Rattle.scrib_labelled.specs.LabelledQueries.{HadMemory}
use Rattle.scrib_labelled.specs.LabelledRuns.{Naming, Runs, Takes, after_replies, put_back}

-- the numbers of names and the state behind a run, and whether a step was refused memory
pub record Behind : Type 0 where
  pub names : Naming
  pub state : State
  pub lacked : Bool

-- those of a monitor
abbrev pub behind : NamedMonitor → Behind
behind n = record { names = number_of n.names; state = state_of n.monitor.core; lacked = n.monitor.core.lacked }

-- The items were carried out to this, with this output. Whether a step was refused memory is known where no
-- conversation is closed because it is complete.
abbrev pub Ran : LabelledStyle → List (LineLabel × Item) → Behind → (output : List ℕ) → Type 0
Ran o items b output =
    (runs : Runs o items b.names b.state output)
    × (o.closes ≡ false → b.lacked ≡ false → HadMemory o items b.names b.state output runs)

-- the style of a monitor
abbrev pub style_of : NamedMonitor → LabelledStyle
style_of n = n.monitor.style

-- the bytes that a monitor gathered
abbrev pub gathered_by : NamedMonitor → List ℕ
gathered_by n = n.monitor.gathered.bytes.items

-- the items of these entries were carried out since the monitor was new, with this output
abbrev pub RanEntries : (new now : NamedMonitor) → List LabelledEntry → (output : List ℕ) → Type 0
RanEntries new now entries output =
    (style_of now ≡ style_of new) × Ran (style_of new) (items_among entries) (behind now) output

-- the output is a beginning of what the items of these entries give where a new monitor carries them out
pub record BeginsOutput (new : NamedMonitor) (entries : List LabelledEntry) (part : List ℕ) : Type 0 where
  pub names : Naming
  pub after : State
  pub output : List ℕ
  pub runs : Runs (style_of new) (items_among entries) names after output
  pub rest : List ℕ
  pub begins : output ≡ part ++ rest

-- what was carried out is a beginning of itself
pub ran_begins : (new now : NamedMonitor) (entries : List LabelledEntry) (out : List ℕ) → RanEntries new now entries out
    → BeginsOutput new entries out
ran_begins new now entries out h = record {
  names = number_of now.names;
  after = state_of now.monitor.core;
  output = out;
  runs = h.1.0;
  rest = [];
  begins = sym (append-nil out);
}

-- a beginning of a beginning is one
pub less_begins : (new : NamedMonitor) (entries : List LabelledEntry) (part rest : List ℕ)
    → BeginsOutput new entries (part ++ rest) → BeginsOutput new entries part
less_begins new entries part rest h = record {
  names = h.names;
  after = h.after;
  output = h.output;
  runs = h.runs;
  rest = rest ++ h.rest;
  begins = h.begins ∙ append_assoc part rest h.rest;
}

-- the monitor carried the item of a line with this label out, and gathered its output
pub record CarriesOut (old new : NamedMonitor) (label : LineLabel) (i : Item) : Type 0 where
  pub style : new.monitor.style ≡ old.monitor.style
  pub replies : List Reply
  pub more : List ℕ
  pub takes : Takes old.monitor.style (put_back old.monitor.style label) (state_of old.monitor.core) i
      (state_of new.monitor.core) replies more
  pub named : (name : List ℕ)
      → number_of new.names name ≡ after_replies (number_of old.names) label.session replies name
  pub memory : old.monitor.style.closes ≡ false → GotMemory old.monitor.core new.monitor.core replies
  pub grows : new.monitor.gathered.bytes.items ≡ old.monitor.gathered.bytes.items ++ more
