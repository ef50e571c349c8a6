-- What the commands do with their files, and the exit status (this project's own). `text` maps a path to the contents
-- of its file, where they are known.
use Rattle.std.specs.Prelude.{◌≡◌, ◌⊎◌, ℕ, Bool, true, false, ◌&&◌, List, [], ◌∷◌, take, Option, Some, None, Result, Ok, Err, IfSome, codes}
use Rattle.std.specs.Borrow.{Bor}
use Rattle.std.specs.Io.KnownBytes.{Appends}
use Rattle.scrib_core.specs.declared.format.Format.{Format}
use Rattle.scrib_core.specs.Answers.{State}
use Rattle.scrib_cli.specs.Checks.{IsChecked, IsPartChecked}
use Rattle.scrib_cli.specs.Explanations.{IsExplanation}
use Rattle.scrib_cli.specs.NextLines.{IsNextOutput}
use Rattle.scrib_cli.specs.Projections.{IsQueryOutput}
use Rattle.scrib_script_io.specs.Writes.{AppendsPart}
use Rattle.scrib_cli.specs.Scripts.{IsOutput}
use Rattle.scrib_cli.specs.declared.role_query.RoleQuery.{RoleQuery}
use Rattle.scrib_cli.specs.declared.explanation.Explained.{Explained}
use Rattle.scrib_cli.specs.declared.explanation.Explained.TheVariants.{Flights, Refused}
use Rattle.scrib_script_io.specs.declared.fault.ScriptFault.{ScriptFault}
use Rattle.scrib_script_io.specs.declared.fault.ScriptFault.TheVariants as fault
use Rattle.scrib_cli.specs.declared.commands.fault.CommandFault.{CommandFault}

-- the module texts of these files were put one after the other, their lines were written, and the flag says whether all
-- were accepted
abbrev pub AreChecked : (text : List ℕ → Option (List ℕ)) → (paths : List (Bor (List ℕ)))
    → State → Bool → State → (was now : Option (List ℕ)) → Type 0
AreChecked text [] w accepted after was now = (accepted ≡ true) × (after ≡ w) × Appends was now []
AreChecked text (p ∷ ps) w accepted after was now =
    (first : Bool) × (others : Bool) × (v : State) × (mid : Option (List ℕ)) × (accepted ≡ (first && others))
    × IfSome (text p.now) (λ input. IsChecked input w first v was mid)
    × AreChecked text ps v others after mid now

-- some of the files, from the first on, were checked so, and for the next one nothing or a prefix of its line was
-- written
abbrev pub ArePartChecked : (text : List ℕ → Option (List ℕ)) → (paths : List (Bor (List ℕ)))
    → State → (was now : Option (List ℕ)) → Type 0
ArePartChecked text [] w was now = Appends was now []
ArePartChecked text (p ∷ ps) w was now =
    Appends was now [] ⊎ IfSome (text p.now) (λ input. (after : State) × IsPartChecked input w after was now)
    ⊎ ((first : Bool) × (v : State) × (mid : Option (List ℕ))
    × IfSome (text p.now) (λ input. IsChecked input w first v was mid)
    × ArePartChecked text ps v mid now)

-- the first 1,048,577 bytes of each of these files, up to the first that can't be opened or read, which is `None`
pub data AreRead (text : List ℕ → Option (List ℕ)) : (paths : List (Bor (List ℕ)))
    → List (Option (List ℕ)) → Type 0 where
  reads_none : AreRead text [] []
  reads_no_more : (p : Bor (List ℕ)) (ps : List (Bor (List ℕ))) → AreRead text (p ∷ ps) (None ∷ [])
  reads_next : (p : Bor (List ℕ)) (ps : List (Bor (List ℕ))) (t : List ℕ) (ts : List (Option (List ℕ)))
      → IfSome (text p.now) (λ input. t ≡ take 1_048_577 input) → AreRead text ps ts
      → AreRead text (p ∷ ps) (Some t ∷ ts)

-- the output for the query over the module texts of these files was written
abbrev pub IsQueryWritten : RoleQuery → (text : List ℕ → Option (List ℕ)) → (paths : List (Bor (List ℕ)))
    → Bool → (was now : Option (List ℕ)) → Type 0
IsQueryWritten q text paths has_projection was now =
    (texts : List (Option (List ℕ))) × AreRead text paths texts
    × ((written : List ℕ) × IsQueryOutput q texts has_projection written × Appends was now written)

-- nothing or a prefix of that output was written
abbrev pub IsQueryPartWritten : RoleQuery → (text : List ℕ → Option (List ℕ)) → (paths : List (Bor (List ℕ)))
    → (was now : Option (List ℕ)) → Type 0
IsQueryPartWritten q text paths was now =
    Appends was now []
    ⊎ ((texts : List (Option (List ℕ))) × AreRead text paths texts
    × ((has_projection : Bool) × (written : List ℕ)
    × IsQueryOutput q texts has_projection written × AppendsPart was now written))

-- the script, where it is known: the file of this path, or the input where no path is given
abbrev pub source : (text : List ℕ → Option (List ℕ)) → (path : Option (List ℕ)) → (input : Option (List ℕ))
    → Option (List ℕ)
source text None input = input
source text (Some p) input = text p

-- an output of this script, where it is known, was written
abbrev pub IsWatched : Format → (script : Option (List ℕ)) → (was now : Option (List ℕ)) → Type 0
IsWatched format script was now =
    IfSome script (λ input. (output : List ℕ) × IsOutput format input output × Appends was now output)

-- nothing was written, or a prefix of an output of this script, where it is known
abbrev pub IsPartWatched : Format → (script : Option (List ℕ)) → (was now : Option (List ℕ)) → Type 0
IsPartWatched format script was now =
    Appends was now []
    ⊎ IfSome script (λ input. (output : List ℕ) × IsOutput format input output × AppendsPart was now output)

-- whether an explanation lists messages in flight
abbrev pub is_flights : Explained → Bool
is_flights Flights = true
is_flights Refused = false

-- an explanation of the conversation in this script, where it is known, was written; the flag says whether it lists
-- messages in flight
abbrev pub IsScriptExplained : (id : ℕ) → (script : Option (List ℕ)) → Bool → (was now : Option (List ℕ)) → Type 0
IsScriptExplained id script flights was now =
    IfSome script (λ input. (explained : Explained) × (output : List ℕ) × (flights ≡ is_flights explained)
    × IsExplanation input id explained output × Appends was now output)

-- nothing or a prefix of an explanation was written
abbrev pub IsScriptPartExplained : (id : ℕ) → (script : Option (List ℕ)) → (was now : Option (List ℕ)) → Type 0
IsScriptPartExplained id script was now =
    Appends was now []
    ⊎ IfSome script (λ input. (explained : Explained) × (output : List ℕ)
    × IsExplanation input id explained output × AppendsPart was now output)

-- what each role of the conversation in this script, where it is known, may do next was written, or a refusal; the flag
-- says whether the roles are listed
abbrev pub IsScriptNext : (id : ℕ) → (script : Option (List ℕ)) → Bool → (was now : Option (List ℕ)) → Type 0
IsScriptNext id script listed was now =
    IfSome script (λ input. (output : List ℕ) × IsNextOutput input id listed output × Appends was now output)

-- nothing or a prefix of that output was written
abbrev pub IsScriptPartNext : (id : ℕ) → (script : Option (List ℕ)) → (was now : Option (List ℕ)) → Type 0
IsScriptPartNext id script was now =
    Appends was now []
    ⊎ IfSome script (λ input. (listed : Bool) × (output : List ℕ)
    × IsNextOutput input id listed output × AppendsPart was now output)

-- the exit status of a command: 0 where it succeeded, 1 where it printed a refusal or failed
abbrev pub status_of : Result Bool CommandFault → ℕ
status_of (Ok true) = 0
status_of (Ok false) = 1
status_of (Err f) = 1

-- the fixed line that standard error gets for a fault
abbrev pub fault_line : ScriptFault → List ℕ
fault_line fault.Read = codes "scribmon: read fault"
fault_line fault.Write = codes "scribmon: write fault"
fault_line fault.Settle = codes "scribmon: settle fault"
fault_line fault.OutOfMemory = codes "scribmon: out of memory"
