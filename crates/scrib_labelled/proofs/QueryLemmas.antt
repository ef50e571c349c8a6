-- A text about what is behind the silent run of a script with labels, and where writing it fails.
use Rattle.std.proofs.Common.{◌≡◌, ◌⊎◌, inl, inr, ℕ, List, [], Option, Some, None, Result, Ok, Err, false, true, refl, sym, ap, subst, rules}
use Rattle.std.specs.Prelude.{IfErr, IfSome}
use Rattle.std.specs.Io.KnownBytes.{Appends, Keeps}
use Rattle.std.proofs.lemmas.List.{append-nil}
use Rattle.scrib_core.specs.Answers.{State}
use Rattle.scrib_script_reader.specs.declared.limits.Limits.{Limits}
use Rattle.scrib_script_reader.specs.Limits.{IsWithinLimits, of_scripts}
use Rattle.scrib_script_io.specs.Faults.{of_script}
use Rattle.scrib_script_io.specs.declared.fault.ScriptFault.{ScriptFault}
use Rattle.scrib_script_io.specs.declared.fault.ScriptFault.TheVariants as fault
use Rattle.scrib_script_io.specs.Writes.{AppendsPart}
use Rattle.scrib_script_io.proofs.WriterLemmas.{appends_kept, appends_none}
use Rattle.scrib_labelled.specs.declared.label_options.LabelOptions.{LabelOptions}
use Rattle.scrib_labelled.specs.declared.named_monitor.NamedMonitor.{NamedMonitor}
use Rattle.scrib_labelled.specs.Behind.{RanEntries}
use Rattle.scrib_labelled.specs.LabelledRuns.{Naming}
use Rattle.scrib_labelled.specs.LabelledQueries.{LeavesBehind, silent_style}
use Rattle.scrib_labelled.specs.Readings.{Beginning, ReadingSucceeds}
use Rattle.scrib_labelled.specs.SilentRuns.{RanSilently, names_behind, state_behind}
use Rattle.scrib_labelled.proofs.OutputLemmas.{IsNewReading, whole_output}

-- ---- the run

-- a run whose replies were dropped, and whose steps were not refused memory
pub ran_silently : (labels : LabelOptions) (b : Beginning NamedMonitor) (r : Option (List ℕ)) (after : NamedMonitor) (was now : Option (List ℕ)) → IsNewReading (silent_style labels) of_scripts b
    → ReadingSucceeds RanEntries b after r was now → after.monitor.core.lacked ≡ false → RanSilently labels r after
ran_silently labels b None after was now new h served = search rules
ran_silently labels b (Some input) after was now new h served =
    let whole = whole_output (silent_style labels) of_scripts b after input h.0.0 new h.0.1 in
    ((whole.0, whole.1, whole.2, h.0.0, whole.3, (whole.4.0, whole.4.1 refl served)), subst (λ (m : Limits). IsWithinLimits m input) new.limits h.1)

-- the text, of this kind, is one about what is behind the script
abbrev pub IsTextBehind : {K : Type 0} (Text : Naming → State → K → List ℕ → Type 0) → LabelOptions → List ℕ → K → List ℕ → Type 0
IsTextBehind Text labels input k output = (names : Naming) × (after : State) × LeavesBehind labels input names after × Text names after k output

-- a text about the run is one about its script, which is within the limits
pub text_behind : {K : Type 0} (Text : Naming → State → K → List ℕ → Type 0) (labels : LabelOptions) (r : Option (List ℕ)) (n : NamedMonitor) (k : K) (text : List ℕ) → RanSilently labels r n
    → Text (names_behind n) (state_behind n) k text → IfSome r (λ input. IsTextBehind Text labels input k text × IsWithinLimits of_scripts input)
text_behind Text labels None n k text h x = search rules
text_behind Text labels (Some input) n k text h x = ((names_behind n, state_behind n, h.0, x), h.1)

-- where memory is refused
pub memory_fault : {T : Type 0} (r : Result T ScriptFault) → IfErr r (λ e. e ≡ fault.OutOfMemory) → IfErr r (λ e. of_script e ≡ true)
memory_fault (Ok x) h = tt
memory_fault (Err e) h = ap of_script h

-- ---- writing the text

-- a text of this kind was made for the script, which is within the limits
abbrev pub MadeText : {K : Type 0} (Text : List ℕ → K → List ℕ → Type 0) → Option (List ℕ) → K → List ℕ → Type 0
MadeText Text r k text = IfSome r (λ input. Text input k text × IsWithinLimits of_scripts input)

-- such a text was written
abbrev pub WritesText : {K : Type 0} (Text : List ℕ → K → List ℕ → Type 0) → Option (List ℕ) → K → Option (List ℕ) → Option (List ℕ) → Type 0
WritesText Text r k was now = IfSome r (λ input. (output : List ℕ) × Text input k output × Appends was now output)

-- nothing was written, or a prefix of such a text
abbrev pub WritesTextPart : {K : Type 0} (Text : List ℕ → K → List ℕ → Type 0) → Option (List ℕ) → Option (List ℕ) → Option (List ℕ) → Type 0
WritesTextPart {K} Text r was now =
    IfSome r (λ input. Appends was now [] ⊎ ((k : K) × (output : List ℕ) × Text input k output × AppendsPart was now output))

-- no text was written
pub text_unwritten : {K : Type 0} (Text : List ℕ → K → List ℕ → Type 0) (r was : Option (List ℕ)) → WritesTextPart Text r was was
text_unwritten Text None was = search rules
text_unwritten Text (Some input) was = inl (appends_none was)

-- the text was written in part
pub text_part : {K : Type 0} (Text : List ℕ → K → List ℕ → Type 0) (r : Option (List ℕ)) (k : K) (text : List ℕ) (was now : Option (List ℕ)) → MadeText Text r k text → AppendsPart was now text
    → WritesTextPart Text r was now
text_part Text None k text was now h part = search rules
text_part Text (Some input) k text was now h part = inr (k, text, h.0, part)

-- the text was written
pub text_all : {K : Type 0} (Text : List ℕ → K → List ℕ → Type 0) (r : Option (List ℕ)) (k : K) (text : List ℕ) (was now end : Option (List ℕ)) → MadeText Text r k text → Appends was now text → Keeps now end
    → WritesText Text r k was end
text_all Text None k text was now end h all keeps = search rules
text_all Text (Some input) k text was now end h all keeps = (text, h.0, appends_kept was now end text all keeps)

-- the text was written, and then the flush failed
pub text_unflushed : {K : Type 0} (Text : List ℕ → K → List ℕ → Type 0) (r : Option (List ℕ)) (k : K) (text : List ℕ) (was now end : Option (List ℕ)) → MadeText Text r k text → Appends was now text → Keeps now end
    → WritesTextPart Text r was end
text_unflushed Text r k text was now end h all keeps = text_part Text r k text was end h (text, [], sym (append-nil text), appends_kept was now end text all keeps)

-- its script is within the limits
pub text_within : {K : Type 0} (Text : List ℕ → K → List ℕ → Type 0) (r : Option (List ℕ)) (k : K) (text : List ℕ) → MadeText Text r k text → IfSome r (λ input. IsWithinLimits of_scripts input)
text_within Text None k text h = search rules
text_within Text (Some input) k text h = h.1
