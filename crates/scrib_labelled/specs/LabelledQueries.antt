-- What `explain` and `next` write for scripts with tags and names (this project's own).
use Rattle.std.specs.Prelude.{◌≡◌, ◌≢◌, ℕ, Bool, false, List, Option, Some, None, All, codes}
use Rattle.scrib_core.specs.declared.format.Format.TheVariants.{Line}
use Rattle.scrib_core.specs.declared.reply.Refusal.TheVariants.{OutOfMemory}
use Rattle.scrib_core.specs.declared.reply.Reply.TheVariants as reply
use Rattle.scrib_core.specs.Answers.{State}
use Rattle.scrib_core.specs.World.{World}
use Rattle.scrib_script_reader.specs.declared.item.Item.{Item}
use Rattle.scrib_script_reader.specs.Scripts.{lines}
use Rattle.scrib_cli.specs.declared.explanation.Explained.{Explained}
use Rattle.scrib_cli.specs.declared.explanation.Explained.TheVariants.{Refused}
use Rattle.scrib_cli.specs.Explanations.{Explanation, refusal_line}
use Rattle.scrib_cli.specs.NextLines.{NextSteps}
use Rattle.scrib_labelled.specs.declared.label_options.LabelOptions.{LabelOptions}
use Rattle.scrib_labelled.specs.declared.label_options.LabelledStyle.{LabelledStyle}
use Rattle.scrib_labelled.specs.declared.session_key.SessionKey.{SessionKey}
use Rattle.scrib_labelled.specs.declared.session_key.SessionKey.TheVariants.{Number, Name}
use Rattle.scrib_labelled.specs.LabelledLines.{LineLabel}
use Rattle.scrib_labelled.specs.LabelledRuns.{Naming, Runs, nothing, takes}
use Rattle.scrib_labelled.specs.LabelledScripts.{LabelledText, SpellsLabelled, all_items}

-- no step of this run was refused memory
abbrev pub HadMemory : (o : LabelledStyle) (items : List (LineLabel × Item)) (names : Naming) (after : State) (output : List ℕ)
    → Runs o items names after output → Type 0
HadMemory o items names after output (nothing unnamed none) = Unit {0}
HadMemory o items names after output (takes front old new w v out more label i replies earlier number took renamed) =
    HadMemory o front old w out earlier × All (λ r. r ≢ reply.Refused OutOfMemory) replies

-- the style of a run whose output does not matter, and which closes no conversation because it is complete
abbrev pub silent_style : LabelOptions → LabelledStyle
silent_style labels = record { labels = labels; closes = false; format = Line; lines = false }

-- All of a script with labels is carried out, and no step is refused memory: the numbers of names and the state then.
-- What it would write does not matter.
abbrev pub LeavesBehind : LabelOptions → (input : List ℕ) → Naming → State → Type 0
LeavesBehind labels input names after =
    (n : ℕ) × (unended : Option LabelledText) × (items : List (LineLabel × Item)) × (output : List ℕ)
    × SpellsLabelled labels (lines input) n unended items
    × ((runs : Runs (silent_style labels) (all_items unended items) names after output)
    × HadMemory (silent_style labels) (all_items unended items) names after output runs)

-- the number of the conversation that is meant: this one, or that of the name, if it has one
abbrev pub number_meant : Naming → SessionKey → Option ℕ
number_meant names (Number id) = Some id
number_meant names (Name name) = names name.now

-- the explanation of the conversation with this number; without a number there is no conversation
abbrev pub ExplanationOf : World → Option ℕ → Explained → (text : List ℕ) → Type 0
ExplanationOf w (Some id) e text = Explanation w id e text
ExplanationOf w None e text = (e ≡ Refused) × (text ≡ refusal_line (codes "NoConversation"))

-- the same of what its roles may do next
abbrev pub NextStepsOf : World → Option ℕ → (listed : Bool) → (text : List ℕ) → Type 0
NextStepsOf w (Some id) listed text = NextSteps w id listed text
NextStepsOf w None listed text = (listed ≡ false) × (text ≡ refusal_line (codes "NoConversation"))

-- An explanation of a conversation of a script with labels, which is carried out, and whose steps are not refused
-- memory. The conversation is explained in the world after them, with the number that its name has then.
abbrev pub IsLabelledExplanation : LabelOptions → (input : List ℕ) → SessionKey → Explained → (output : List ℕ) → Type 0
IsLabelledExplanation labels input key e output =
    (names : Naming) × (after : State) × LeavesBehind labels input names after
    × ExplanationOf after.world (number_meant names key) e output

-- An output of `next` for a conversation of a script with labels, in the same way.
abbrev pub IsLabelledNext : LabelOptions → (input : List ℕ) → SessionKey → (listed : Bool) → (output : List ℕ) → Type 0
IsLabelledNext labels input key listed output =
    (names : Naming) × (after : State) × LeavesBehind labels input names after
    × NextStepsOf after.world (number_meant names key) listed output
