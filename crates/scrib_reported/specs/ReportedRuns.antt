-- What scripts write with findings in place of replies (this project's own).
use Rattle.std.specs.Map.{keys_of}
use Rattle.std.specs.Prelude.{◌≡◌, ◌≢◌, ◌⊎◌, ℕ, Bool, true, false, List, [], ◌∷◌, ◌++◌, Option, Some, None}
use Rattle.scrib_core.specs.declared.format.Format.{Format}
use Rattle.scrib_core.specs.declared.reply.Reply.{Reply}
use Rattle.scrib_core.specs.declared.step.Step.{Step}
use Rattle.scrib_core.specs.declared.step.Step.TheVariants.{Close, Turn}
use Rattle.scrib_core.specs.Answers.{State, initial, IsAnswered}
use Rattle.scrib_script_reader.specs.declared.item.Item.{Item}
use Rattle.scrib_script_reader.specs.declared.item.Item.TheVariants as item
use Rattle.scrib_script_reader.specs.Scripts.{lines}
use Rattle.scrib_report.specs.ReplyTexts.{reply_format}
use Rattle.scrib_report.specs.LabelledReplies.{labelled_bad_line, labelled_end, labelled_swept}
use Rattle.scrib_report.specs.PutBack.{without_name}
use Rattle.scrib_sweep.specs.Sweeps.{IsAllFresh, IsFirstStale, IsStaleCount}
use Rattle.scrib_summary.specs.declared.summary.Summary.{Summary}
use Rattle.scrib_summary.specs.Summaries.{no_replies, with_refusal, with_replies}
use Rattle.scrib_summary.specs.VerdictCounts.{CountsVerdicts}
use Rattle.scrib_closing.specs.ClosingScripts.{Completes, is_accepted}
use Rattle.scrib_labelled.specs.declared.label_options.LabelledStyle.{LabelledStyle}
use Rattle.scrib_labelled.specs.LabelledEntries.{LabelledEntry, SpellsLabelledEntries, all_entries, items_among}
use Rattle.scrib_labelled.specs.LabelledLines.{LineLabel}
use Rattle.scrib_labelled.specs.LabelledRuns.{IsNumberIn, Naming, after_replies, put_back}
use Rattle.scrib_labelled.specs.LabelledScripts.{LabelledText}
use Rattle.scrib_reported.specs.Kept.{Keeping, nothing_kept}
use Rattle.scrib_reported.specs.ReportedReplies.{IsReported, StepLine}

-- the line of a step with this label, which asks for this format
abbrev pub step_line : LabelledStyle → LineLabel → (asked : Format) → StepLine
step_line o label asked =
    record { number = label.line; label = put_back o label; format = reply_format o.format asked }

-- A step is made: from what is kept and a state to others, with these replies and this text. Where complete
-- conversations are closed, that which the step completes is closed behind it, and this reply is reported too.
pub data Makes (closes : Bool) (l : StepLine) (old : Keeping) (w : State) (made : Step)
    : Keeping → State → List Reply → List ℕ → Type 0 where
  alone : (new : Keeping) (u : State) (r : Reply) (text : List ℕ) → IsAnswered w made r u
      → (closes ≡ true → (id : ℕ) → Completes made r u id → ⊥) → IsReported l u old new made r text
      → Makes closes l old w made new u (r ∷ []) text
  with_close : (mid new : Keeping) (u v : State) (id : ℕ) (r c : Reply) (text more : List ℕ) → IsAnswered w made r u
      → closes ≡ true → Completes made r u id → IsReported l u old mid made r text → IsAnswered u (Close id) c v
      → IsReported l v mid new (Close id) c more → Makes closes l old w made new v (r ∷ c ∷ []) (text ++ more)

-- the line of a sweep with this label, which has no name, since it is of no single conversation
abbrev pub sweep_line : LabelledStyle → LineLabel → (asked : Format) → StepLine
sweep_line o label asked =
    record { number = label.line; label = without_name (put_back o label); format = reply_format o.format asked }

-- the name whose number this is; none where no name has it
abbrev pub IsNameOf : Naming → (id : ℕ) → Option (List ℕ) → Type 0
IsNameOf names id None = (name : List ℕ) → names name ≢ Some id
IsNameOf names id (Some name) = names name ≡ Some id

-- the line of a turn of a sweep: that of the sweep, with the name of the turn's conversation
abbrev pub turn_line : StepLine → (name : Option (List ℕ)) → StepLine
turn_line l name = record l { label = record l.label { name = name } }

-- Turns of a sweep at this line: from what is kept and a state to others, with these replies and this text, and whether
-- each turn was accepted. A turn is of the stale conversation of the least id, and is reported as that of any line is,
-- with the conversation's name. So the turns go by rising ids, and a conversation has turns until it is not stale. A
-- turn that is refused is the last one.
pub data SweepTurns (names : Naming) (l : StepLine) (old : Keeping) (w : State)
    : (accepted : Bool) → Keeping → State → List Reply → List ℕ → Type 0 where
  no_turn : SweepTurns names l old w true old w [] []
  one_more : (mid new : Keeping) (u v : State) (replies : List Reply) (text : List ℕ) (id : ℕ)
      (name : Option (List ℕ)) (r : Reply) (more : List ℕ) → SweepTurns names l old w true mid u replies text
      → IsFirstStale u id → IsNameOf names id name → IsAnswered u (Turn id) r v
      → IsReported (turn_line l name) v mid new (Turn id) r more
      → SweepTurns names l old w (is_accepted r) new v (replies ++ r ∷ []) (text ++ more)

-- A sweep at this line, with the replies to its turns: these turns, until no conversation is stale, and behind their
-- text how many were stale before them. Where a turn was refused, nothing is written behind the report of this.
pub data ReportedSweep (names : Naming) (l : StepLine) (old : Keeping) (w : State)
    : Keeping → State → List Reply → List ℕ → Type 0 where
  judges : (new : Keeping) (v : State) (replies : List Reply) (text : List ℕ) (judged : ℕ)
      → SweepTurns names l old w true new v replies text → IsAllFresh v → IsStaleCount w judged
      → ReportedSweep names l old w new v replies (text ++ labelled_swept l.format l.label judged)
  stops : (new : Keeping) (v : State) (replies : List Reply) (text : List ℕ)
      → SweepTurns names l old w false new v replies text → ReportedSweep names l old w new v replies text

-- The item of a line with this label is carried out in the same way, where names have these numbers. A sweep makes its
-- turns, and closes no conversation. Bad lines and an end inside a module text are printed as without reports.
abbrev pub Carries : LabelledStyle → Naming → LineLabel → Keeping → State → Item → Keeping → State → List Reply
    → List ℕ → Type 0
Carries o names label old w (item.Step f s) new v replies text =
    Makes o.closes (step_line o label f) old w s new v replies text
Carries o names label old w (item.Sweep f) new v replies text =
    ReportedSweep names (sweep_line o label f) old w new v replies text
Carries o names label old w (item.BadLine n) new v replies text =
    (replies ≡ []) × (v ≡ w) × ((i : ℕ) → new i ≡ old i) × (text ≡ labelled_bad_line o.format (put_back o label) n)
Carries o names label old w item.EndOfText new v replies text =
    (replies ≡ []) × (v ≡ w) × ((i : ℕ) → new i ≡ old i) × (text ≡ labelled_end o.format (put_back o label))

-- what the replies to an item come to behind others: bad lines and an end inside a module text are refused
abbrev pub with_item : Item → List Reply → Summary → Summary
with_item (item.Step f s) replies counted = with_replies replies counted
with_item (item.Sweep f) replies counted = with_replies replies counted
with_item (item.BadLine n) replies counted = with_refusal counted
with_item item.EndOfText replies counted = with_refusal counted

-- The items with these labels are carried out one after another over a new monitor: the numbers of names then, what is
-- kept, the state, what all replies come to, and the output. Names have numbers as without reports.
pub data ReportedRuns (o : LabelledStyle)
    : List (LineLabel × Item) → Naming → Keeping → State → Summary → List ℕ → Type 0 where
  nothing : (names : Naming) (kept : Keeping) → ((name : List ℕ) → names name ≡ None)
      → ((id : ℕ) → kept id ≡ nothing_kept) → ReportedRuns o [] names kept initial no_replies []
  takes : (items : List (LineLabel × Item)) (names after : Naming) (old new : Keeping) (w v : State)
      (counted : Summary) (out more : List ℕ) (label : LineLabel) (i : Item) (replies : List Reply)
      → ReportedRuns o items names old w counted out
      → IsNumberIn names label.session → Carries o names label old w i new v replies more
      → ((name : List ℕ) → after name ≡ after_replies names label.session replies name)
      → ReportedRuns o (items ++ (label, i) ∷ []) after new v (with_item i replies counted) (out ++ more)

-- what a script comes to: what its replies come to, with the verdicts on the conversations that are open at its end
pub record IsTotal (end : State) (counted total : Summary) : Type 0 where
  pub verdicts : CountsVerdicts end (keys_of end.world.conversations) counted.verdicts total.verdicts
  pub others : total ≡ record counted { verdicts = total.verdicts }

-- An output of a script in a style with findings in place of replies, and what the script comes to: the items of its
-- lines are carried out.
abbrev pub IsReportedOutput : LabelledStyle → (input output : List ℕ) → Summary → Type 0
IsReportedOutput o input output total =
    (n : ℕ) × (unended : Option LabelledText) × (entries : List LabelledEntry) × (names : Naming) × (kept : Keeping)
    × (after : State) × (counted : Summary) × SpellsLabelledEntries o.labels (lines input) n unended entries
    × ReportedRuns o (items_among (all_entries unended entries)) names kept after counted output
    × IsTotal after counted total

-- the part is a beginning of what some first lines of the script give, or of what all of it gives
pub record IsReportedPart (o : LabelledStyle) (input part : List ℕ) : Type 0 where
  pub first : List (List ℕ)
  pub later : List (List ℕ)
  pub is : lines input ≡ first ++ later
  pub number : ℕ
  pub unended : Option LabelledText
  pub entries : List LabelledEntry
  pub spells : SpellsLabelledEntries o.labels first number unended entries
  pub taken : List LabelledEntry
  pub these : (taken ≡ entries) ⊎ ((later ≡ []) × (taken ≡ all_entries unended entries))
  pub names : Naming
  pub kept : Keeping
  pub after : State
  pub counted : Summary
  pub output : List ℕ
  pub runs : ReportedRuns o (items_among taken) names kept after counted output
  pub rest : List ℕ
  pub begins : output ≡ part ++ rest
