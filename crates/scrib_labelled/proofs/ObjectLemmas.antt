-- What lines that are objects stand for.
use Rattle.std.proofs.Common.{◌≡◌, ◌≤◌, inl, inr, ℕ, Bool, true, List, [], ◌∷◌, Option, Some, None, option_map, cond, length, refl, sym, ap, subst, arith}
use Rattle.scrib_core.specs.declared.format.Format.{Format}
use Rattle.scrib_script_reader.specs.declared.line.Line.TheVariants as line
use Rattle.scrib_script_reader.specs.Scripts.{bare}
use Rattle.scrib_objects.specs.Objects.{IsObjectLine, Spelled, as_bad, as_line, as_put, shown, shown_body}
use Rattle.scrib_objects.specs.declared.object_line.ObjectBody.{ObjectBody}
use Rattle.scrib_objects.specs.declared.object_line.ObjectLine.{ObjectLine}
use Rattle.scrib_labelled.specs.declared.label_options.LabelOptions.{LabelOptions}
use Rattle.scrib_labelled.specs.LabelledLines.{IsCutOf, IsLineOf, IsNumbered, IsObjectBody, IsPutObject, LineLabel, StandsFor, line_limit, object_options}
use Rattle.scrib_labelled.specs.LabelledScripts.{SaysAs}
use Rattle.scrib_labelled.specs.LineEnds.{SaysObject, nameless}
use Rattle.scrib_labelled.specs.ObjectLines.{IsObjectRead}
use Rattle.scrib_labelled.proofs.LineLemmas.{bad_mark}

-- the tag of an object
abbrev pub object_tag : ObjectLine → Option (List ℕ)
object_tag l = option_map (λ t. t.items) l.tag

limit-of-objects : (o : LabelOptions) → o.objects ≡ true → line_limit o ≡ 8388608
limit-of-objects o e = ap (λ (b : Bool). cond b 8388608 131072) e

-- a cut that is an object is the whole line
whole-cut : (o : LabelOptions) (l cut : List ℕ) → o.objects ≡ true → IsCutOf o cut l → length cut ≤ 8388608 → cut ≡ bare l
whole-cut o l cut on (inl same) short = same
whole-cut o l cut on (inr long) short = absurd (omega (arith, long.0, short, limit-of-objects o on))

some-read : (o : LabelOptions) (cut : List ℕ) (s : Spelled) → IsObjectRead o cut (Some s) → (length cut ≤ 8388608) × IsObjectLine (object_options o) cut (Some s)
some-read o cut s (inl h) = absurd (some-none s h.1)
  where
    some-none : (s : Spelled) → Some s ≡ None → ⊥
    some-none s e = cc
some-read o cut s (inr h) = h

object-says : (o : LabelOptions) (whole : List ℕ) (s : Spelled) (label : LineLabel) (plain : List ℕ) → o.objects ≡ true → length whole ≤ 8388608 → IsObjectLine (object_options o) whole (Some s)
    → label.tag ≡ s.tag → IsObjectBody o.names s.body label.session plain → (length whole ≤ line_limit o) × IsLineOf o.objects o whole label plain
object-says o whole s label plain on short is tag body =
    (omega (arith, short, limit-of-objects o on), subst (λ (b : Bool). IsLineOf b o whole label plain) (sym on) (Some s, is, (tag, body)))

-- what was read of an object with this body
pub read_some : (o : LabelOptions) (cut : List ℕ) (found : Option ObjectLine) (object : ObjectLine) (body : ObjectBody) → found ≡ Some object → object.body ≡ body → IsObjectRead o cut (option_map shown found)
    → IsObjectRead o cut (Some (record { tag = object_tag object; body = shown_body body }))
read_some o cut found object body is body_is read =
    subst (λ (b : ObjectBody). IsObjectRead o cut (Some (record { tag = object_tag object; body = shown_body b }))) body_is
    (subst (λ (x : Option ObjectLine). IsObjectRead o cut (option_map shown x)) is read)

-- an object that is spelled as a line
pub says_object : (o : LabelOptions) (cut : List ℕ) (tag : Option (List ℕ)) (bytes : List ℕ) → o.objects ≡ true → IsObjectRead o cut (Some (record { tag = tag; body = as_line bytes }))
    → (l : List ℕ) → IsCutOf o cut l → SaysObject o tag bytes l
says_object o cut tag bytes on read l is = λ label plain meaning t numbered says.
    let found = some-read o cut (record { tag = tag; body = as_line bytes }) read in
    let same = whole-cut o l cut on is found.0 in
    (plain, inr (object-says o (bare l) (record { tag = tag; body = as_line bytes }) label plain on (subst (λ (t : List ℕ). length t ≤ 8388608) same found.0) (subst (λ (t : List ℕ). IsObjectLine (object_options o) t (Some (record { tag = tag; body = as_line bytes }))) same found.1) t numbered), says)

-- a bad object with its tag
pub says_bad_object : (o : LabelOptions) (cut : List ℕ) (n : ℕ) (tag : Option (List ℕ)) → o.objects ≡ true → IsObjectRead o cut (Some (record { tag = tag; body = as_bad }))
    → (l : List ℕ) → IsCutOf o cut l → SaysAs o (bare l) (nameless n cut tag) line.Bad
says_bad_object o cut n tag on read l is =
    let found = some-read o cut (record { tag = tag; body = as_bad }) read in
    let same = whole-cut o l cut on is found.0 in
    (63 ∷ [], inr (object-says o (bare l) (record { tag = tag; body = as_bad }) (nameless n cut tag) (63 ∷ []) on (subst (λ (t : List ℕ). length t ≤ 8388608) same found.0) (subst (λ (t : List ℕ). IsObjectLine (object_options o) t (Some (record { tag = tag; body = as_bad }))) same found.1) refl (refl, bad_mark)), bad_mark)

-- no object
pub says_no_object : (o : LabelOptions) (cut : List ℕ) (n : ℕ) → o.objects ≡ true → IsObjectRead o cut None → (l : List ℕ) → IsCutOf o cut l → SaysAs o (bare l) (nameless n cut None) line.Bad
says_no_object o cut n on (inl long) l (inl same) = (63 ∷ [], inl (omega (arith, long.0, ap length same, limit-of-objects o on), (refl, refl), bad_mark), bad_mark)
says_no_object o cut n on (inl long) l (inr more) = (63 ∷ [], inl (more.1, (refl, refl), bad_mark), bad_mark)
says_no_object o cut n on (inr bad) l is =
    let same = whole-cut o l cut on is bad.0 in
    let short : length (bare l) ≤ 8388608 = subst (λ (t : List ℕ). length t ≤ 8388608) same bad.0 in
    (63 ∷ [], inr (omega (arith, short, limit-of-objects o on), subst (λ (b : Bool). IsLineOf b o (bare l) (nameless n cut None) (63 ∷ [])) (sym on) (None, subst (λ (t : List ℕ). IsObjectLine (object_options o) t None) same bad.1, ((refl, refl), bad_mark))), bad_mark)

-- an object that puts a text
pub says_put_object : (o : LabelOptions) (cut : List ℕ) (n : ℕ) (tag : Option (List ℕ)) (f : Format) (text : List ℕ) → o.objects ≡ true → IsObjectRead o cut (Some (record { tag = tag; body = as_put f text }))
    → (l : List ℕ) → IsCutOf o cut l → IsPutObject o (bare l) (nameless n cut tag) f text
says_put_object o cut n tag f text on read l is =
    let found = some-read o cut (record { tag = tag; body = as_put f text }) read in
    let same = whole-cut o l cut on is found.0 in
    let short : length (bare l) ≤ 8388608 = subst (λ (t : List ℕ). length t ≤ 8388608) same found.0 in
    (omega (arith, short, limit-of-objects o on), on, refl, subst (λ (t : List ℕ). IsObjectLine (object_options o) t (Some (record { tag = tag; body = as_put f text }))) same found.1)

-- an exchange that is read of an object
pub stands_object : (o : LabelOptions) (line : List ℕ) (tag : Option (List ℕ)) (bytes : List ℕ) (label : LineLabel) (plain : List ℕ) → o.objects ≡ true → length line ≤ 8388608
    → IsObjectLine (object_options o) line (Some (record { tag = tag; body = as_line bytes })) → label.tag ≡ tag → IsNumbered o.names bytes label.session plain → StandsFor o line label plain
stands_object o line tag bytes label plain on short is t numbered =
    inr (object-says o line (record { tag = tag; body = as_line bytes }) label plain on short is t numbered)
