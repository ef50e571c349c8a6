-- A text about the world that a silent run of a script leaves, and where writing it fails.
use Rattle.std.proofs.Common.{◌≡◌, ◌≢◌, ◌⊎◌, inl, inr, ℕ, List, [], ◌++◌, Option, Some, None, sym, subst, rules}
use Rattle.std.specs.Prelude.{IfSome, All}
use Rattle.std.specs.Io.KnownBytes.{Appends, Keeps}
use Rattle.std.proofs.lemmas.List.{append-nil}
use Rattle.scrib_core.specs.World.{World}
use Rattle.scrib_core.specs.Answers.{State, initial}
use Rattle.scrib_script_reader.specs.declared.item.Item.{Item}
use Rattle.scrib_script_reader.specs.Scripts.{Spells, lines, requests_of}
use Rattle.scrib_cli.specs.Requests.{RequestReply, HasMemory, AnswersRequests}
use Rattle.scrib_script_reader.specs.Limits.{of_scripts}
use Rattle.scrib_script_io.specs.Writes.{AppendsPart}
use Rattle.scrib_cli.specs.declared.output_mode.OutputMode.TheVariants.{Silent}
use Rattle.scrib_cli.specs.Progress.{RunSucceeds, RunFails}
use Rattle.scrib_script_io.proofs.WriterLemmas.{appends_more, appends_kept}

-- The text, of this kind, is one about the world after the script. Its steps and sweeps are made over a new monitor, and
-- are not refused memory.
abbrev pub IsTextAfter : {K : Type 0} (Text : World → K → List ℕ → Type 0) → List ℕ → K → List ℕ → Type 0
IsTextAfter Text input k output =
    (items : List Item) × (replies : List RequestReply) × (s : State)
    × Spells 1 None (lines input) items × AnswersRequests initial (requests_of items) replies s
    × All HasMemory replies × Text s.world k output

-- such a text was written
abbrev pub WritesText : {K : Type 0} (Text : World → K → List ℕ → Type 0) → K → Option (List ℕ) → Option (List ℕ) → Option (List ℕ) → Type 0
WritesText Text k r was now = IfSome r (λ input. (output : List ℕ) × IsTextAfter Text input k output × Appends was now output)

-- nothing was written, or a prefix of such a text
abbrev pub WritesTextPart : {K : Type 0} (Text : World → K → List ℕ → Type 0) → Option (List ℕ) → Option (List ℕ) → Option (List ℕ) → Type 0
WritesTextPart {K} Text r was now =
    IfSome r (λ input. Appends was now [] ⊎ ((k : K) × (output : List ℕ) × IsTextAfter Text input k output × AppendsPart was now output))

-- nothing was written
abbrev pub WritesNothing : Option (List ℕ) → Option (List ℕ) → Option (List ℕ) → Type 0
WritesNothing r was now = IfSome r (λ input. Appends was now [])

-- a silent run writes nothing
silent_appends : (was now : Option (List ℕ)) (output : List ℕ) → output ≡ [] → Appends was now output → Appends was now []
silent_appends was now output e a = subst (λ (u : List ℕ). Appends was now u) e a

-- the run failed
pub run_stopped : (r : Option (List ℕ)) (was now : Option (List ℕ)) → RunFails Silent r was now → WritesNothing r was now
run_stopped None was now h = search rules
run_stopped (Some input) was now h = silent_appends was now h.0 h.1 h.2

-- no text was made
pub wrote_nothing : (r : Option (List ℕ)) (w : State) (was now : Option (List ℕ)) → RunSucceeds of_scripts Silent r w was now → WritesNothing r was now
wrote_nothing None w was now h = search rules
wrote_nothing (Some input) w was now h = let whole = h.1 in silent_appends was now h.0 whole.is h.2

-- no text was written
pub text_unwritten : {K : Type 0} (Text : World → K → List ℕ → Type 0) (r was now : Option (List ℕ)) → WritesNothing r was now → WritesTextPart Text r was now
text_unwritten Text None was now h = search rules
text_unwritten Text (Some input) was now h = inl h

-- the text was written in part
pub text_part : {K : Type 0} (Text : World → K → List ℕ → Type 0) (r : Option (List ℕ)) (w : State) (k : K) (text : List ℕ) (was mid now : Option (List ℕ)) → RunSucceeds of_scripts Silent r w was mid
    → Text w.world k text → AppendsPart mid now text → WritesTextPart Text r was now
text_part Text None w k text was mid now h x part = search rules
text_part Text (Some input) w k text was mid now h x part =
    let whole = h.1 in
    let all : Appends was now ([] ++ part.0) = appends_more was mid now [] part.0 (silent_appends was mid h.0 whole.is h.2) part.3 in
    inr (k, text, (whole.items, whole.replies, w, whole.spelled, whole.answered, whole.goes_on, x), (part.0, part.1, part.2, all))

-- the text was written
pub text_all : {K : Type 0} (Text : World → K → List ℕ → Type 0) (r : Option (List ℕ)) (w : State) (k : K) (text : List ℕ) (was mid now end : Option (List ℕ)) → RunSucceeds of_scripts Silent r w was mid
    → Text w.world k text → Appends mid now text → Keeps now end → WritesText Text k r was end
text_all Text None w k text was mid now end h x all keeps = search rules
text_all Text (Some input) w k text was mid now end h x all keeps =
    let whole = h.1 in
    let written : Appends was now ([] ++ text) = appends_more was mid now [] text (silent_appends was mid h.0 whole.is h.2) all in
    (text, (whole.items, whole.replies, w, whole.spelled, whole.answered, whole.goes_on, x), appends_kept was now end text written keeps)

-- the text was written, and then the flush failed
pub text_unflushed : {K : Type 0} (Text : World → K → List ℕ → Type 0) (r : Option (List ℕ)) (w : State) (k : K) (text : List ℕ) (was mid now end : Option (List ℕ)) → RunSucceeds of_scripts Silent r w was mid
    → Text w.world k text → Appends mid now text → Keeps now end → WritesTextPart Text r was end
text_unflushed Text r w k text was mid now end h x all keeps =
    text_part Text r w k text was mid end h x (text, [], sym (append-nil text), appends_kept mid now end text all keeps)
