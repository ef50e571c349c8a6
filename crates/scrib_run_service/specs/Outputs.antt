-- The output of a run (this project's own). `r` holds the bytes that a reader has left, where they are known, and `was`
-- and `now` the bytes that the writer holds.
use Rattle.std.specs.Prelude.{◌≡◌, ◌⊎◌, ℕ, ◌+◌, List, [], ◌∷◌, ◌++◌, Option, None, Result, Ok, Err, IfSome}
use Rattle.std.specs.List.{AllZip}
use Rattle.std.specs.Io.KnownBytes.{Appends}
use Rattle.scrib_library.specs.Holdings.{Holdings}
use Rattle.scrib_locked_steps.specs.Passes.{PassHeld}
use Rattle.scrib_locked_steps.specs.Shards.{ShardHeld}
use Rattle.scrib_core.specs.declared.ended.Ended.{Ended}
use Rattle.scrib_settlement.specs.declared.fault.SettleFault.{SettleFault}
use Rattle.scrib_shards.specs.Settling.{IsSettledSome, IsFaultSome}
use Rattle.scrib_report.specs.ReplyTexts.{heading, printed_table, read_fault_line}
use Rattle.scrib_core.specs.declared.format.Format.{Format}
use Rattle.scrib_script_reader.specs.declared.item.Item.{Item}
use Rattle.scrib_script_reader.specs.Scripts.{Spells, lines}
use Rattle.scrib_script_io.specs.declared.fault.ScriptFault.{ScriptFault}
use Rattle.scrib_script_io.specs.declared.fault.ScriptFault.TheVariants as fault
use Rattle.scrib_script_io.specs.Writes.{AppendsPart}
use Rattle.scrib_run_service.specs.Outcomes.{Outcome, outcomes_text, IsOutcome}

-- the lines of the connections, each after its heading; the first has this number
abbrev pub connections_text : Format → ℕ → List (List ℕ) → List ℕ
connections_text f n [] = []
connections_text f n (text ∷ more) = (heading f n ++ text) ++ connections_text f (n + 1) more

-- the text has the lines of the outcomes of all items of a script
pub record IsTranscript (f : Format) (r : Option (List ℕ)) (text : List ℕ) : Type 0 where
  pub items : List Item
  pub outcomes : List Outcome
  pub spelled : IfSome r (λ input. Spells 1 None (lines input) items)
  pub matched : AllZip IsOutcome items outcomes
  pub is : text ≡ outcomes_text f outcomes

-- the text has the lines of the outcomes of a script's first items
pub record IsTranscriptStart (f : Format) (r : Option (List ℕ)) (text : List ℕ) : Type 0 where
  pub items : List Item
  pub outcomes : List Outcome
  pub spelled : IfSome r (λ input. (rest : List Item) × Spells 1 None (lines input) (items ++ rest))
  pub matched : AllZip IsOutcome items outcomes
  pub is : text ≡ outcomes_text f outcomes

-- the text of a connection: the lines of its script, or those of its first items and the line of a failed reader
abbrev pub IsConnectionText : Format → Option (List ℕ) → List ℕ → Type 0
IsConnectionText f r text =
    IsTranscript f r text ⊎ ((part : List ℕ) × IsTranscriptStart f r part × (text ≡ part ++ read_fault_line f))

-- all lines of a script were written
abbrev pub WritesAll : Format → Option (List ℕ) → (was now : Option (List ℕ)) → Type 0
WritesAll f r was now = (text : List ℕ) × IsTranscript f r text × Appends was now text

-- the lines of a script's first items were written
abbrev pub WritesFirst : Format → Option (List ℕ) → (was now : Option (List ℕ)) → Type 0
WritesFirst f r was now = (text : List ℕ) × IsTranscriptStart f r text × Appends was now text

-- a beginning of the lines of a script's first items was written
abbrev pub WritesPart : Format → Option (List ℕ) → (was now : Option (List ℕ)) → Type 0
WritesPart f r was now = (text : List ℕ) × IsTranscriptStart f r text × AppendsPart was now text

-- the fault of the writer if there is one, and else this fault
abbrev pub or_fault : ScriptFault → Result (Unit {0}) ScriptFault → Result (Unit {0}) ScriptFault
or_fault f (Ok x) = Err f
or_fault f (Err g) = Err g

-- The fault of a script and of the writing of its lines. `OutOfMemory` of the script comes first, since its last line
-- may be cut then.
abbrev pub first_fault : (ran written : Result (Unit {0}) ScriptFault) → Result (Unit {0}) ScriptFault
first_fault (Ok x) written = written
first_fault (Err fault.Read) written = or_fault fault.Read written
first_fault (Err fault.Write) written = or_fault fault.Write written
first_fault (Err fault.Settle) written = or_fault fault.Settle written
first_fault (Err fault.OutOfMemory) written = Err fault.OutOfMemory

-- the text is the table of `count` shards that these passes settle
abbrev pub IsRunTable : Format → ℕ → List PassHeld → List ℕ → Type 0
IsRunTable f count passes text =
    (h : Holdings) × (shards : List ShardHeld) × (list : List Ended)
    × IsSettledSome count h shards passes list × (text ≡ printed_table f list)

-- the passes do not settle some values of `count` shards
abbrev pub IsUnsettled : ℕ → List PassHeld → Type 0
IsUnsettled count passes = (f : SettleFault) × IsFaultSome count passes f

-- the lines of the connections and a table were written
abbrev pub Prints : Format → List (List ℕ) → ℕ → List PassHeld → (was now : Option (List ℕ)) → Type 0
Prints f texts count passes was now =
    (table : List ℕ) × IsRunTable f count passes table × Appends was now (connections_text f 1 texts ++ table)

-- a beginning of the lines of the connections and of a table was written; there may be no table
abbrev pub PrintsPart : Format → List (List ℕ) → ℕ → List PassHeld → (was now : Option (List ℕ)) → Type 0
PrintsPart f texts count passes was now =
    (table : List ℕ) × ((table ≡ []) ⊎ IsRunTable f count passes table)
    × AppendsPart was now (connections_text f 1 texts ++ table)

-- the whole output of a run was written: the lines of the setup, those of the connections, a table of `count` shards
abbrev pub PrintsRun : Format → ℕ → Option (List ℕ) → List (Option (List ℕ)) → (was now : Option (List ℕ))
    → Type 0
PrintsRun f count setup readers was now =
    (first : List ℕ) × (texts : List (List ℕ)) × (passes : List PassHeld) × (table : List ℕ)
    × IsTranscript f setup first × AllZip (IsConnectionText f) readers texts × IsRunTable f count passes table
    × Appends was now (first ++ (connections_text f 1 texts ++ table))

-- A beginning of the output of a run was written: a beginning of the setup's lines, or all of these and a beginning of
-- the connections' lines and the table. There may be no table.
abbrev pub PrintsRunPart : Format → ℕ → Option (List ℕ) → List (Option (List ℕ)) → (was now : Option (List ℕ))
    → Type 0
PrintsRunPart f count setup readers was now =
    WritesPart f setup was now
    ⊎ ((first : List ℕ) × (texts : List (List ℕ)) × (passes : List PassHeld) × (table : List ℕ)
    × IsTranscript f setup first × AllZip (IsConnectionText f) readers texts
    × ((table ≡ []) ⊎ IsRunTable f count passes table)
    × AppendsPart was now (first ++ (connections_text f 1 texts ++ table)))
