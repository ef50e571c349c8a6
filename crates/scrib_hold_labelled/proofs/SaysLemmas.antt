-- What is read of the lines of entries says them.
use Rattle.std.proofs.Common.{◌≡◌, ◌≢◌, ◌∙◌, ◌⊎◌, ℕ, ◌+◌, Bool, true, false, List, [], ◌∷◌, ◌++◌, take, length, Option, Some, None, refl, sym, ap, subst, inl, inr, arith}
use Rattle.std.specs.List.{AllByRecursion}
use Rattle.std.proofs.lemmas.List.{append-nil, append_assoc}
use Rattle.scrib_core.specs.declared.format.Format.{Format}
use Rattle.scrib_core.specs.declared.step.Step.{Step}
use Rattle.scrib_core.specs.declared.step.Step.TheVariants.{Put}
use Rattle.scrib_script_reader.specs.declared.entry.Entry.TheVariants as entry
use Rattle.scrib_script_reader.specs.declared.item.Item.{Item}
use Rattle.scrib_script_reader.specs.declared.item.Item.TheVariants as item
use Rattle.scrib_script_reader.specs.declared.line.Line.{Line}
use Rattle.scrib_script_reader.specs.declared.line.Line.TheVariants as line
use Rattle.scrib_script_reader.specs.Scripts.{bare, text_end}
use Rattle.scrib_labelled.specs.declared.label_options.LabelOptions.{LabelOptions}
use Rattle.scrib_labelled.specs.LabelledEntries.{LabelledEntry, SpellsLabelledEntries, all_entries, begins, goes_on, is_bad, makes, no_line, puts, puts_object, skips, sweeps}
use Rattle.scrib_labelled.specs.LabelledLines.{IsCutOf, IsPutObject, LineLabel, line_limit}
use Rattle.scrib_labelled.specs.LabelledScripts.{LabelledText, SaysAs}
use Rattle.scrib_labelled.specs.Splits.{IsEnded}
use Rattle.scrib_hold_lines.specs.Lines.{AreTextLines, IsPutText}
use Rattle.scrib_hold_lines.specs.Lines as lines
use Rattle.scrib_hold_lines.proofs.FirstLines.{no_put}
use Rattle.scrib_hold_lines.proofs.TextLines.{put_of_lines, text_lines_more}
use Rattle.scrib_hold_labelled.specs.WrittenLines.{end_in, end_line, end_lines, ends_in}
use Rattle.scrib_hold_labelled.proofs.EntryLemmas.{all_front, all_push, end_lines_last, ends_last}
use Rattle.scrib_hold_labelled.proofs.ObjectLemmas.{no_line_put}
use Rattle.scrib_hold_labelled.proofs.ShapeLemmas.{AreEndedBefore}

-- what is read of the line of a put puts the text, as an object or with lines behind it
abbrev pub PutSays : (objects : Bool) → LabelOptions → LineLabel → Format → List ℕ → Type 0
PutSays true o label f put = (text : List ℕ) × IsPutObject o label.text label f text × (put ≡ take 1048577 text)
PutSays false o label f put = SaysAs o label.text label (line.Put f) × IsPutText put

-- what is read of a line makes the step
abbrev pub StepSays : LabelOptions → LineLabel → Format → Step → Type 0
StepSays o label f (Put put) = PutSays o.objects o label f put
StepSays o label f s = SaysAs o label.text label (line.Step f s)

-- what is read of the line of an entry says it
abbrev pub TextSays : LabelOptions → LabelledEntry → Type 0
TextSays o (label, entry.Skipped) = Unit {0}
TextSays o (label, entry.Item (item.Step f s)) = StepSays o label f s
TextSays o (label, entry.Item (item.Sweep f)) = SaysAs o label.text label (line.Sweep f)
TextSays o (label, entry.Item (item.BadLine n)) = SaysAs o label.text label line.Bad
TextSays o (label, entry.Item item.EndOfText) = (f : Format) × SaysAs o label.text label (line.Put f)

-- ---- what a line says, what is read of it says

cut_says : (o : LabelOptions) (l : List ℕ) (label : LineLabel) (meaning : Line) → IsCutOf o label.text l → SaysAs o (bare l) label meaning → SaysAs o label.text label meaning
cut_says o l label meaning (inl same) h = subst (λ (t : List ℕ). SaysAs o t label meaning) (sym same) h
cut_says o l label meaning (inr long) h = elim h.1 [
  | inl bad ↦ (h.0, inl (long.0, bad.1, bad.2), h.2)
  | inr short ↦ absurd (omega (arith, long.1, short.0))
]

cut_puts : (o : LabelOptions) (l : List ℕ) (label : LineLabel) (f : Format) (text : List ℕ) → IsCutOf o label.text l → IsPutObject o (bare l) label f text → IsPutObject o label.text label f text
cut_puts o l label f text (inl same) h = subst (λ (t : List ℕ). IsPutObject o t label f text) (sym same) h
cut_puts o l label f text (inr long) h = absurd (omega (arith, long.1, h.0))

-- no line makes the step of a put
step_says : (o : LabelOptions) (label : LineLabel) (f : Format) (s : Step) → SaysAs o label.text label (line.Step f s) → StepSays o label f s
step_says o label f (Put put) h = absurd (no_put h.0 f put h.2)
step_says o label f _ h = h

-- ---- a module text that is read

-- its put's line says a put
abbrev pub UnendedPut : LabelOptions → Option LabelledText → Type 0
UnendedPut o None = Unit {0}
UnendedPut o (Some t) = SaysAs o t.label.text t.label (line.Put t.text.format)

-- so far it is lines of a module text
abbrev UnendedLines : Option LabelledText → Type 0
UnendedLines None = Unit {0}
UnendedLines (Some t) = AreTextLines t.text.bytes

pub unended_put : (o : LabelOptions) (ls : List (List ℕ)) (n : ℕ) (t : Option LabelledText) (es : List LabelledEntry) → SpellsLabelledEntries o ls n t es → UnendedPut o t
unended_put o _ _ _ _ no_line = tt
unended_put o _ _ _ _ (skips ls n es l label s says at) = tt
unended_put o _ _ _ _ (makes ls n es l label f s h says at) = tt
unended_put o _ _ _ _ (sweeps ls n es l label f s says at) = tt
unended_put o _ _ _ _ (is_bad ls n es l label s says at) = tt
unended_put o _ _ _ _ (begins ls n es l label f s says at) = cut_says o l label (line.Put f) at.1 says
unended_put o _ _ _ _ (goes_on ls n es l t s other) = unended_put o ls n (Some t) es s
unended_put o _ _ _ _ (puts ls n es l t s ended) = tt
unended_put o _ _ _ _ (puts_object ls n es l label f text s is at) = tt

more_lines : (text l : List ℕ) → AreTextLines text → IsEnded l → bare l ≢ text_end → AreTextLines (text ++ l)
more_lines text l h is other =
    subst (λ (t : List ℕ). AreTextLines (text ++ t)) (sym is.2) (text_lines_more h is.0 is.1 (subst (λ (t : List ℕ). bare t ≢ text_end) is.2 other))

unended_lines : (o : LabelOptions) (ls : List (List ℕ)) (n : ℕ) (t : Option LabelledText) (es : List LabelledEntry) → SpellsLabelledEntries o ls n t es → AllByRecursion IsEnded ls → UnendedLines t
unended_lines o _ _ _ _ no_line whole = tt
unended_lines o _ _ _ _ (skips ls n es l label s says at) whole = tt
unended_lines o _ _ _ _ (makes ls n es l label f s h says at) whole = tt
unended_lines o _ _ _ _ (sweeps ls n es l label f s says at) whole = tt
unended_lines o _ _ _ _ (is_bad ls n es l label s says at) whole = tt
unended_lines o _ _ _ _ (begins ls n es l label f s says at) whole = lines.no_line
unended_lines o _ _ _ _ (goes_on ls n es l t s other) whole =
    let w = all_front IsEnded ls l whole in
    more_lines t.text.bytes l (unended_lines o ls n (Some t) es s w.0) w.1 other
unended_lines o _ _ _ _ (puts ls n es l t s ended) whole = tt
unended_lines o _ _ _ _ (puts_object ls n es l label f text s is at) whole = tt

-- ---- all entries of a script

put_says : (b : Bool) (o : LabelOptions) (label : LineLabel) (f : Format) (text : List ℕ) → o.objects ≡ b → SaysAs o label.text label (line.Put f) → AreTextLines text → PutSays b o label f (take 1048577 text)
put_says true o label f text on says h = absurd (no_line_put o label.text label f on says)
put_says false o label f text off says h = (says, put_of_lines text h)

put_object_says : (b : Bool) (o : LabelOptions) (label : LineLabel) (f : Format) (text : List ℕ) → o.objects ≡ b → IsPutObject o label.text label f text → PutSays b o label f (take 1048577 text)
put_object_says true o label f text on h = (text, h, refl)
put_object_says false o label f text off h =
    let wrong : true ≡ false = sym h.1 ∙ off in
    absurd (cc)

ended_front : (ls : List (List ℕ)) (l : List ℕ) → AreEndedBefore (ls ++ l ∷ []) → AreEndedBefore ls
ended_front ls l h = λ before m later e. h before m (later ++ l ∷ []) (ap (λ (x : List (List ℕ)). x ++ l ∷ []) e ∙ append_assoc before (m ∷ later) (l ∷ []))

pub texts_say : (o : LabelOptions) (ls : List (List ℕ)) (n : ℕ) (t : Option LabelledText) (es : List LabelledEntry) → SpellsLabelledEntries o ls n t es → AreEndedBefore ls → AllByRecursion (TextSays o) es
texts_say o _ _ _ _ no_line h = tt
texts_say o _ _ _ _ (skips ls n es l label s says at) h = all_push (TextSays o) es (label, entry.Skipped) (texts_say o ls n None es s (ended_front ls l h)) tt
texts_say o _ _ _ _ (makes ls n es l label f s before says at) h =
    all_push (TextSays o) es (label, entry.Item (item.Step f s)) (texts_say o ls n None es before (ended_front ls l h)) (step_says o label f s (cut_says o l label (line.Step f s) at.1 says))
texts_say o _ _ _ _ (sweeps ls n es l label f s says at) h =
    all_push (TextSays o) es (label, entry.Item (item.Sweep f)) (texts_say o ls n None es s (ended_front ls l h)) (cut_says o l label (line.Sweep f) at.1 says)
texts_say o _ _ _ _ (is_bad ls n es l label s says at) h =
    all_push (TextSays o) es (label, entry.Item (item.BadLine n)) (texts_say o ls n None es s (ended_front ls l h)) (cut_says o l label line.Bad at.1 says)
texts_say o _ _ _ _ (begins ls n es l label f s says at) h = texts_say o ls n None es s (ended_front ls l h)
texts_say o _ _ _ _ (goes_on ls n es l t s other) h = texts_say o ls n (Some t) es s (ended_front ls l h)
texts_say o _ _ _ _ (puts ls n es l t s ended) h =
    all_push (TextSays o) es (t.label, entry.Item (item.Step t.text.format (Put (take 1048577 t.text.bytes)))) (texts_say o ls n (Some t) es s (ended_front ls l h))
    (put_says o.objects o t.label t.text.format t.text.bytes refl (unended_put o ls n (Some t) es s) (unended_lines o ls n (Some t) es s (h ls l [] refl)))
texts_say o _ _ _ _ (puts_object ls n es l label f text s is at) h =
    all_push (TextSays o) es (label, entry.Item (item.Step f (Put (take 1048577 text)))) (texts_say o ls n None es s (ended_front ls l h))
    (put_object_says o.objects o label f text refl (cut_puts o l label f text at.1 is))

-- the same of a whole script
pub all_say : (o : LabelOptions) (t : Option LabelledText) (es : List LabelledEntry) → UnendedPut o t → AllByRecursion (TextSays o) es → AllByRecursion (TextSays o) (all_entries t es)
all_say o None es put h = h
all_say o (Some t) es put h = all_push (TextSays o) es (t.label, entry.Item item.EndOfText) h (t.text.format, put)

-- ---- only a whole script has an end inside a module text

abbrev HasNoEnd : List LabelledEntry → Type 0
HasNoEnd es = (end_lines es ≡ []) × (ends_in es ≡ [])

no_end_more : (es : List LabelledEntry) (e : LabelledEntry) → HasNoEnd es → HasNoEnd (e ∷ []) → HasNoEnd (es ++ e ∷ [])
no_end_more es e h k = (
  end_lines_last es e ∙ ap (λ (o : List ℕ). o ++ end_line e) h.0 ∙ sym (append-nil (end_line e)) ∙ k.0,
  ends_last es e ∙ ap (λ (o : List (LineLabel × Item)). o ++ end_in e) h.1 ∙ sym (append-nil (end_in e)) ∙ k.1,
)

pub no_end : (o : LabelOptions) (ls : List (List ℕ)) (n : ℕ) (t : Option LabelledText) (es : List LabelledEntry) → SpellsLabelledEntries o ls n t es → HasNoEnd es
no_end o _ _ _ _ no_line = (refl, refl)
no_end o _ _ _ _ (skips ls n es l label s says at) = no_end_more es (label, entry.Skipped) (no_end o ls n None es s) (refl, refl)
no_end o _ _ _ _ (makes ls n es l label f s h says at) = no_end_more es (label, entry.Item (item.Step f s)) (no_end o ls n None es h) (refl, refl)
no_end o _ _ _ _ (sweeps ls n es l label f s says at) = no_end_more es (label, entry.Item (item.Sweep f)) (no_end o ls n None es s) (refl, refl)
no_end o _ _ _ _ (is_bad ls n es l label s says at) = no_end_more es (label, entry.Item (item.BadLine n)) (no_end o ls n None es s) (refl, refl)
no_end o _ _ _ _ (begins ls n es l label f s says at) = no_end o ls n None es s
no_end o _ _ _ _ (goes_on ls n es l t s other) = no_end o ls n (Some t) es s
no_end o _ _ _ _ (puts ls n es l t s ended) = no_end_more es (t.label, entry.Item (item.Step t.text.format (Put (take 1048577 t.text.bytes)))) (no_end o ls n (Some t) es s) (refl, refl)
no_end o _ _ _ _ (puts_object ls n es l label f text s is at) = no_end_more es (label, entry.Item (item.Step f (Put (take 1048577 text)))) (no_end o ls n None es s) (refl, refl)
