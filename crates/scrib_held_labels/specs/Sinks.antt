-- What the sink of a script with labels carries out (this project's own). Only contracts of private functions cite this
-- file.
use Rattle.std.specs.Prelude.{◌≡◌, ℕ, List, Some}
use Rattle.scrib_core.specs.declared.reply.Reply.{Reply}
use Rattle.scrib_core.specs.Answers.{State}
use Rattle.scrib_script_reader.specs.declared.item.Item.{Item}
use Rattle.scrib_labelled.specs.declared.label_options.LabelledStyle.{LabelledStyle}
use Rattle.scrib_labelled.specs.CheckedCores as cores
use Rattle.scrib_labelled.specs.LabelledLines.{LineLabel}
use Rattle.scrib_labelled.specs.LabelledRuns.{Takes, put_back}
use Rattle.scrib_held_labels.specs.declared.labelled_sink.LabelledSink.{LabelledSink}
use Rattle.scrib_held_labels.specs.declared.waiting_labels.KeptLabel.{KeptLabel}
use Rattle.scrib_held_labels.specs.WaitingLabels.{AreOf, kept_at}

-- the style of a sink
abbrev pub style_of : LabelledSink → LabelledStyle
style_of s = s.monitor.style

-- the state of its monitor
abbrev pub state_of : LabelledSink → State
state_of s = cores.state_of s.monitor.core

-- the replies that are not written yet
abbrev pub gathered_in : LabelledSink → List ℕ
gathered_in s = s.monitor.gathered.bytes.items

-- the item of entry n was carried out with the label that is its own, and this was written for it
pub record CarriesLabelled (labels : ℕ → LineLabel) (old new : LabelledSink) (n : ℕ) (i : Item) (more : List ℕ)
    : Type 0 where
  pub replies : List Reply
  pub takes : Takes (style_of old) (put_back (style_of old) (labels n)) (state_of old) i (state_of new) replies more

-- the same, whatever the labels of the entries are, where those that are kept are among them
pub record CarriesItem (old new : LabelledSink) (n : ℕ) (i : Item) (more : List ℕ) : Type 0 where
  pub style : style_of new ≡ style_of old
  pub carried : (labels : ℕ → LineLabel) → AreOf old.waiting labels → CarriesLabelled labels old new n i more
  pub fewer : (m : ℕ) (kept : KeptLabel) → kept_at new.waiting m ≡ Some kept → kept_at old.waiting m ≡ Some kept
