-- What scripts with tags and names write (this project's own).
use Rattle.std.specs.Prelude.{◌≡◌, ◌≢◌, ◌⊎◌, ℕ, Bool, true, false, List, [], ◌∷◌, ◌++◌, Option, Some, None, is_some, option_map, if◌then◌else◌}
use Rattle.std.specs.Map.{update}
use Rattle.std.specs.Str.{bytes_eq}
use Rattle.scrib_core.specs.declared.format.Format.{Format}
use Rattle.scrib_core.specs.declared.reply.Reply.{Reply}
use Rattle.scrib_core.specs.declared.reply.Reply.TheVariants as reply
use Rattle.scrib_core.specs.declared.reply.Refusal.TheVariants.{OutOfMemory}
use Rattle.scrib_core.specs.declared.step.Step.{Step}
use Rattle.scrib_core.specs.declared.step.Step.TheVariants.{Ask, Close, Note, Open, Turn}
use Rattle.scrib_core.specs.Answers.{State, initial, IsAnswered}
use Rattle.scrib_script_reader.specs.declared.item.Item.{Item}
use Rattle.scrib_script_reader.specs.declared.item.Item.TheVariants as item
use Rattle.scrib_script_reader.specs.Scripts.{lines}
use Rattle.scrib_report.specs.ReplyTexts.{reply_format}
use Rattle.scrib_report.specs.PutBack.{ReplyLabel, without_name}
use Rattle.scrib_report.specs.LabelledReplies.{labelled_bad_line, labelled_end, labelled_reply, labelled_swept}
use Rattle.scrib_sweep.specs.Sweeps.{IsSwept}
use Rattle.scrib_closing.specs.ClosingScripts.{Completes}
use Rattle.scrib_labelled.specs.declared.label_options.LabelledStyle.{LabelledStyle}
use Rattle.scrib_labelled.specs.LabelledLines.{LineLabel}
use Rattle.scrib_labelled.specs.LabelledScripts.{LabelledText, SpellsLabelled, all_items}

-- the numbers that stand for names
abbrev pub Naming : Type 0
Naming = List ℕ → Option ℕ

-- the name of a session
abbrev pub session_name : Option (List ℕ × ℕ) → Option (List ℕ)
session_name session = option_map (λ s. s.0) session

-- What is done behind a step with this reply: from the state behind the step to another, with these replies. Where
-- complete conversations are closed, that which the step completes is closed. In all other cases nothing is done.
abbrev pub ClosesBehind : (closes : Bool) → Step → Reply → (u v : State) → List Reply → Type 0
ClosesBehind false s r u v replies = (replies ≡ []) × (v ≡ u)
ClosesBehind true s r u v replies =
    (((id : ℕ) → Completes s r u id → ⊥) × (replies ≡ []) × (v ≡ u))
    ⊎ ((id : ℕ) × (c : Reply) × Completes s r u id × IsAnswered u (Close id) c v × (replies ≡ c ∷ []))

-- the conversation of a step, if it has one
abbrev pub concerned : Step → Option ℕ
concerned (Open id name) = Some id
concerned (Note id e) = Some id
concerned (Turn id) = Some id
concerned (Ask id) = Some id
concerned (Close id) = Some id
concerned _ = None

-- what is put back into the replies to a line with this label: objects have its number where the style has lines
abbrev pub put_back : LabelledStyle → LineLabel → ReplyLabel
put_back o label = record {
  tag = label.tag;
  name = session_name label.session;
  line = if o.lines then Some label.line else None;
  conversation = None;
}

-- what is put back into the replies to a step: with the number of the line also that of its conversation
abbrev pub of_step : ReplyLabel → Step → ReplyLabel
of_step l s = record {
  tag = l.tag;
  name = l.name;
  line = l.line;
  conversation = if is_some l.line then concerned s else None;
}

-- what is written for replies, one after another, with this label
abbrev pub labelled_replies : Format → ReplyLabel → List Reply → List ℕ
labelled_replies o l [] = []
labelled_replies o l (r ∷ rs) = labelled_reply o l r ++ labelled_replies o l rs

-- what is written for a sweep with this label: how many conversations it judged, or the refusal of a turn
abbrev pub labelled_sweep : Format → ReplyLabel → Option ℕ → List ℕ
labelled_sweep o l (Some judged) = labelled_swept o l judged
labelled_sweep o l None = labelled_reply o (without_name l) (reply.Refused OutOfMemory)

-- The item is carried out: from a state to another, with these replies and this output. Each reply to the line has the
-- label, and the format that the line asks for. A sweep makes its turns, and has a reply of its own.
abbrev pub Takes : LabelledStyle → ReplyLabel → State → Item → State → List Reply → List ℕ → Type 0
Takes o l w (item.Step f s) v replies out =
    (r : Reply) × (u : State) × (later : List Reply) × IsAnswered w s r u × ClosesBehind o.closes s r u v later
    × (replies ≡ r ∷ later) × (out ≡ labelled_replies (reply_format o.format f) (of_step l s) replies)
Takes o l w (item.Sweep f) v replies out =
    (judged : Option ℕ) × IsSwept w judged v × (replies ≡ [])
    × (out ≡ labelled_sweep (reply_format o.format f) l judged)
Takes o l w (item.BadLine n) v replies out = (replies ≡ []) × (v ≡ w) × (out ≡ labelled_bad_line o.format l n)
Takes o l w item.EndOfText v replies out = (replies ≡ []) × (v ≡ w) × (out ≡ labelled_end o.format l)

-- the number of a line's name: that of the name, or one that no name has where the name has none
abbrev pub IsNumberIn : Naming → Option (List ℕ × ℕ) → Type 0
IsNumberIn names None = Unit {0}
IsNumberIn names (Some s) =
    (names s.0 ≡ Some s.1) ⊎ ((names s.0 ≡ None) × ((other : List ℕ) → names other ≢ Some s.1))

-- the numbers of names behind a reply: that to an opening gives the name its number, and that to a close takes it away
abbrev pub after_reply : Naming → Option (List ℕ × ℕ) → Reply → Naming
after_reply names None r = names
after_reply names (Some s) (reply.Opened id name) = update bytes_eq names s.0 (Some s.1)
after_reply names (Some s) (reply.Closed id name events verdict complete) = update bytes_eq names s.0 None
after_reply names (Some s) _ = names

-- the same behind these replies to a line
abbrev pub after_replies : Naming → Option (List ℕ × ℕ) → List Reply → Naming
after_replies names session [] = names
after_replies names session (r ∷ rs) = after_replies (after_reply names session r) session rs

-- The items with these labels are carried out one after another over a new monitor: the numbers of names then, the
-- state, and the output. A name has a number from the reply that opens its conversation to the one that closes it. At
-- each moment no two have the same.
pub data Runs (o : LabelledStyle) : List (LineLabel × Item) → Naming → State → List ℕ → Type 0 where
  nothing : (names : Naming) → ((name : List ℕ) → names name ≡ None) → Runs o [] names initial []
  takes : (items : List (LineLabel × Item)) (names after : Naming) (w v : State) (out more : List ℕ)
      (label : LineLabel) (i : Item) (replies : List Reply) → Runs o items names w out
      → IsNumberIn names label.session → Takes o (put_back o label) w i v replies more
      → ((name : List ℕ) → after name ≡ after_replies names label.session replies name)
      → Runs o (items ++ (label, i) ∷ []) after v (out ++ more)

-- An output of a script with labels in a style: its items are carried out. What is written for an item is what a script
-- with numbers and without tags gives for the line that the item's line stands for, with the label put back.
abbrev pub IsLabelledOutput : LabelledStyle → (input output : List ℕ) → Type 0
IsLabelledOutput o input output =
    (n : ℕ) × (unended : Option LabelledText) × (items : List (LineLabel × Item)) × (names : Naming) × (after : State)
    × SpellsLabelled o.labels (lines input) n unended items
    × Runs o (all_items unended items) names after output

-- the part is a beginning of what some first lines of the script give, or of what all of it gives
pub record IsLabelledPart (o : LabelledStyle) (input part : List ℕ) : Type 0 where
  pub first : List (List ℕ)
  pub later : List (List ℕ)
  pub is : lines input ≡ first ++ later
  pub number : ℕ
  pub unended : Option LabelledText
  pub items : List (LineLabel × Item)
  pub spells : SpellsLabelled o.labels first number unended items
  pub carried : List (LineLabel × Item)
  pub these : (carried ≡ items) ⊎ ((later ≡ []) × (carried ≡ all_items unended items))
  pub names : Naming
  pub after : State
  pub output : List ℕ
  pub runs : Runs o carried names after output
  pub rest : List ℕ
  pub begins : output ≡ part ++ rest
