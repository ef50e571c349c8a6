-- What a line with a label stands for.
use Rattle.std.proofs.Common.{◌≡◌, ◌∙◌, ◌≤◌, ◌<◌, ◌||◌, ◌⊎◌, inl, inr, ℕ, true, false, Bool, List, [], ◌∷◌, ◌++◌, Option, Some, None, cond, codes, length, refl, sym, ap, subst, arith}
use Rattle.std.specs.Fmt.{decimal}
use Rattle.std.specs.Str.{bytes_eq}
use Rattle.std.proofs.lemmas.Bool.{cases_Bool, or_cases}
use Rattle.std.proofs.lemmas.Slice.Eq.{bytes_eq-Decides}
use Rattle.scrib_core.specs.declared.format.Format.{Format}
use Rattle.scrib_core.specs.declared.format.Format.TheVariants as format
use Rattle.scrib_core.specs.declared.step.Step.{Step}
use Rattle.scrib_script_reader.specs.declared.line.Line.{Line}
use Rattle.scrib_script_reader.specs.declared.line.Line.TheVariants as line
use Rattle.scrib_script_reader.specs.Fields.{fields}
use Rattle.scrib_script_reader.specs.Says.{Asks, IsSkipped, MakesIn, Puts, Says, Sweeps}
use Rattle.scrib_script_reader.specs.Steps.{MakesStep}
use Rattle.scrib_labels.specs.declared.session_line.SessionLine.{SessionLine}
use Rattle.scrib_labels.specs.SessionLines.{IsSessionLine, id_field, bare_id_field, is_event_word, is_id_word, is_state_word, json_field}
use Rattle.scrib_labels.specs.SessionNames.{is_session_name}
use Rattle.std.specs.Borrow.{Bor}
use Rattle.scrib_labels.specs.declared.session_names.SessionNames.{SessionNames}
use Rattle.scrib_report.specs.PutBack.{bytes_of}
use Rattle.scrib_labelled.specs.declared.label_options.LabelOptions.{LabelOptions}
use Rattle.scrib_labelled.specs.declared.line_parts.LineParts.{LineParts}
use Rattle.scrib_labelled.specs.declared.line_parts.Session.{Session}
use Rattle.scrib_labelled.specs.NamedLines.{IsNumbersOf, ReadsAs, ReadsRest, label_of, session_of}
use Rattle.scrib_labelled.specs.LabelledLines.{IsLineOf, IsNumbered, IsNumberedBy, IsObjectBody, IsObjectOf, IsUntagged, LineLabel, StandsFor, bare_with_id, line_limit, with_id}
use Rattle.scrib_objects.specs.Objects.{Spelled, Spelling, as_bad, as_line, as_put}

-- ---- a bad line

abbrev mark_fields : List (List ℕ)
mark_fields = (63 ∷ []) ∷ []

mark-fields : fields (63 ∷ []) ≡ mark_fields
unfolding fields
mark-fields = refl

heads : (x y : List ℕ) (xs ys : List (List ℕ)) → x ∷ xs ≡ y ∷ ys → x ≡ y
heads x y xs ys e = cc

mark-asks : (f : Format) (rest : List (List ℕ)) → Asks mark_fields f rest → rest ≡ mark_fields
mark-asks format.Json rest h = absurd (omega (arith, ap length (heads (63 ∷ []) (codes "json") [] rest h)))
mark-asks format.Line rest h = h.0

mark-puts : (f : Format) → Puts mark_fields f → ⊥
mark-puts f h = omega (arith, ap length (heads (63 ∷ []) (codes "put") [] [] (sym (mark-asks f h.0 h.1) ∙ h.2)))

mark-sweeps : (f : Format) → Sweeps mark_fields f → ⊥
mark-sweeps f h = omega (arith, ap length (heads (63 ∷ []) (codes "sweep") [] [] (sym (mark-asks f h.0 h.1) ∙ h.2)))

mark-makes : (f : Format) (s : Step) → MakesIn mark_fields f s → ⊥
mark-makes f s h = subst (λ (fs : List (List ℕ)). MakesStep fs s) (mark-asks f h.0 h.1) h.2

-- a line that no step has
bad-mark : Says (63 ∷ []) line.Bad
bad-mark = inr (
  λ h. omega (arith, subst IsSkipped mark-fields h),
  λ f h. mark-puts f (subst (λ (fs : List (List ℕ)). Puts fs f) mark-fields h),
  λ f h. mark-sweeps f (subst (λ (fs : List (List ℕ)). Sweeps fs f) mark-fields h),
  λ f s h. mark-makes f s (subst (λ (fs : List (List ℕ)). MakesIn fs f s) mark-fields h),
)

-- ---- the number of a conversation

-- the words that a number is behind are not `json`
apart-from-json : (w known : List ℕ) → bytes_eq w known ≡ true → bytes_eq known (codes "json") ≡ false → bytes_eq w (codes "json") ≡ false
apart-from-json w known h other = ap (λ (x : List ℕ). bytes_eq x (codes "json")) ((bytes_eq-Decides w known).0 h) ∙ other

event-no-json : (w : List ℕ) → is_event_word w ≡ true → bytes_eq w (codes "json") ≡ false
event-no-json w h = elim (or_cases (bytes_eq w (codes "join") || bytes_eq w (codes "send")) (bytes_eq w (codes "recv")) h) [
  | inl more ↦ elim (or_cases (bytes_eq w (codes "join")) (bytes_eq w (codes "send")) more) [
    | inl e ↦ apart-from-json w (codes "join") e refl
    | inr e ↦ apart-from-json w (codes "send") e refl
  ]
  | inr e ↦ apart-from-json w (codes "recv") e refl
]

state-no-json : (w : List ℕ) → is_state_word w ≡ true → bytes_eq w (codes "json") ≡ false
state-no-json w h = elim (or_cases (bytes_eq w (codes "open") || bytes_eq w (codes "turn") || bytes_eq w (codes "ask")) (bytes_eq w (codes "close")) h) [
  | inl more ↦ elim (or_cases (bytes_eq w (codes "open") || bytes_eq w (codes "turn")) (bytes_eq w (codes "ask")) more) [
    | inl most ↦ elim (or_cases (bytes_eq w (codes "open")) (bytes_eq w (codes "turn")) most) [
      | inl e ↦ apart-from-json w (codes "open") e refl
      | inr e ↦ apart-from-json w (codes "turn") e refl
    ]
    | inr e ↦ apart-from-json w (codes "ask") e refl
  ]
  | inr e ↦ apart-from-json w (codes "close") e refl
]

id-no-json : (w : List ℕ) → is_id_word w ≡ true → bytes_eq w (codes "json") ≡ false
id-no-json w h = elim (or_cases (is_event_word w) (is_state_word w) h) [
  | inl e ↦ event-no-json w e
  | inr e ↦ state-no-json w e
]

-- the field in the place of a number, in the parts of a line
parts-field : (j : Bool) (w name : List ℕ) (fs : List (List ℕ)) → is_id_word w ≡ true → id_field (json_field j ++ w ∷ name ∷ fs) ≡ Some name
parts-field true w name fs h = ap (λ (t : Bool). cond t (Some name) None) h
parts-field false w name fs h =
    ap (λ (t : Bool). cond t (bare_id_field (name ∷ fs)) (bare_id_field (w ∷ name ∷ fs))) (id-no-json w h) ∙ ap (λ (t : Bool). cond t (Some name) None) h

parts-with : (j : Bool) (w name digits : List ℕ) (fs : List (List ℕ)) → is_id_word w ≡ true → with_id digits (json_field j ++ w ∷ name ∷ fs) ≡ json_field j ++ w ∷ digits ∷ fs
parts-with true w name digits fs h = refl
parts-with false w name digits fs h = ap (λ (t : Bool). cond t (w ∷ bare_with_id digits (name ∷ fs)) (w ∷ digits ∷ fs)) (id-no-json w h)

-- ---- what a line stands for

whole-numbered : (b : Bool) (rest : List ℕ) → (b ≡ false) ⊎ (id_field (fields rest) ≡ None) → IsNumbered b rest None rest
whole-numbered false rest h = (refl, refl)
whole-numbered true rest (inl e) = absurd (cc)
whole-numbered true rest (inr e) = subst (λ (x : Option (List ℕ)). IsNumberedBy x rest None rest) (sym e) (refl, refl)

bad-numbered : (b : Bool) (rest field : List ℕ) → b ≡ true → id_field (fields rest) ≡ Some field → is_session_name field ≡ false → IsNumbered b rest None (63 ∷ [])
bad-numbered false rest field e f h = absurd (cc)
bad-numbered true rest field e f h = subst (λ (x : Option (List ℕ)). IsNumberedBy x rest None (63 ∷ [])) (sym f) (h, bad-mark)

pub bad_mark : Says (63 ∷ []) line.Bad
bad_mark = bad-mark

-- a line with these fields, in the parts of which the number takes the place of the name
pub numbered_by_parts : (b : Bool) (rest plain : List ℕ) (j : Bool) (w name : List ℕ) (fs : List (List ℕ)) (k : ℕ) → b ≡ true → fields rest ≡ json_field j ++ w ∷ name ∷ fs → is_id_word w ≡ true
    → is_session_name name ≡ true → fields plain ≡ json_field j ++ w ∷ decimal k ∷ fs → IsNumbered b rest (Some (name, k)) plain
numbered_by_parts false rest plain j w name fs k e parts word h f = absurd (cc)
numbered_by_parts true rest plain j w name fs k e parts word h f =
    let field : id_field (fields rest) ≡ Some name = ap id_field parts ∙ parts-field j w name fs word in
    let with : with_id (decimal k) (fields rest) ≡ json_field j ++ w ∷ decimal k ∷ fs = ap (with_id (decimal k)) parts ∙ parts-with j w name (decimal k) fs word in
    subst (λ (x : Option (List ℕ)). IsNumberedBy x rest (Some (name, k)) plain) (sym field)
    (h, refl, f ∙ sym with)

pub session_numbered : (b : Bool) (rest plain : List ℕ) (s : SessionLine) (k : ℕ) → b ≡ true → IsSessionLine rest s → is_session_name s.name.now ≡ true
    → fields plain ≡ json_field s.json ++ s.word.now ∷ decimal k ∷ fields s.rest.now → IsNumbered b rest (Some (s.name.now, k)) plain
session_numbered b rest plain s k e parts h f = numbered_by_parts b rest plain s.json s.word.now s.name.now (fields s.rest.now) k e parts.0 parts.1 h f

-- ---- what is read of a line without its tag

none-numbered : (names : SessionNames) (session : Option Session) → session ≡ None → IsNumbersOf names (session_of session)
none-numbered names session s = subst (λ (x : Option Session). IsNumbersOf names (session_of x)) (sym s) tt

pub rest_whole : (names : SessionNames) (named : Bool) (rest : List ℕ) (meaning : Line) → (named ≡ false) ⊎ (id_field (fields rest) ≡ None) → Says rest meaning → ReadsRest names named rest None meaning
rest_whole names named rest meaning h says = record {
  plain = rest;
  numbered = whole-numbered named rest h;
  says = says;
  numbers = tt;
}

pub rest_bad : (names : SessionNames) (named : Bool) (rest field : List ℕ) → named ≡ true → id_field (fields rest) ≡ Some field → is_session_name field ≡ false → ReadsRest names named rest None line.Bad
rest_bad names named rest field on f h = record {
  plain = 63 ∷ [];
  numbered = bad-numbered named rest field on f h;
  says = bad-mark;
  numbers = tt;
}

-- ---- what is read of a line that is no object

limit-of-lines : (o : LabelOptions) → o.objects ≡ false → line_limit o ≡ 131072
limit-of-lines o e = ap (λ (b : Bool). cond b 8388608 131072) e

-- a line and what is behind its tag
pub stands_line : (o : LabelOptions) (whole rest plain : List ℕ) (label : LineLabel) → o.objects ≡ false → length whole ≤ 131072 → IsUntagged o.tags whole label.tag rest
    → IsNumbered o.names rest label.session plain → StandsFor o whole label plain
stands_line o whole rest plain label lines short cut numbered =
    inr (omega (arith, short, limit-of-lines o lines), subst (λ (b : Bool). IsLineOf b o whole label plain) (sym lines) (rest, cut, numbered))

pub reads_line : (o : LabelOptions) (names : SessionNames) (whole rest : List ℕ) (tag : Option (Bor (List ℕ))) (parts : LineParts) (meaning : Line) → o.objects ≡ false → length whole ≤ 131072
    → IsUntagged o.tags whole (bytes_of tag) rest → parts.tag ≡ tag → ReadsRest names o.names rest (session_of parts.session) meaning → ReadsAs o names whole parts meaning
reads_line o names whole rest tag parts meaning lines short cut t r = record {
  plain = r.plain;
  stands = stands_line o whole rest r.plain (label_of parts) lines short (subst (λ (x : Option (Bor (List ℕ))). IsUntagged o.tags whole (bytes_of x) rest) (sym t) cut) r.numbered;
  says = r.says;
  numbers = r.numbers;
}

-- a line that is too long
pub reads_long : (o : LabelOptions) (names : SessionNames) (whole : List ℕ) (parts : LineParts) → o.objects ≡ false → 131072 < length whole → parts.tag ≡ None → parts.session ≡ None
    → ReadsAs o names whole parts line.Bad
reads_long o names whole parts lines long t s = record {
  plain = 63 ∷ [];
  stands = inl (omega (arith, long, limit-of-lines o lines), (ap bytes_of t, ap session_of s), bad-mark);
  says = bad-mark;
  numbers = none-numbered names parts.session s;
}

-- ---- a put names no conversation

tail-length : (x y : List ℕ) (xs ys : List (List ℕ)) → x ∷ xs ≡ y ∷ ys → length xs ≡ length ys
tail-length x y xs ys e = ap length (tails x y xs ys e)
  where
    tails : (a b : List ℕ) (as_ bs : List (List ℕ)) → a ∷ as_ ≡ b ∷ bs → as_ ≡ bs
    tails a b as_ bs q = cc

three-no-put : (a b c : List ℕ) (r : List (List ℕ)) (f : Format) → Puts (a ∷ b ∷ c ∷ r) f → ⊥
three-no-put a b c r format.Json h = omega (arith, tail-length a (codes "json") (b ∷ c ∷ r) h.0 h.1, ap length h.2)
three-no-put a b c r format.Line h = omega (arith, ap length h.1.0, ap length h.2)

two-no-put : (a b : List ℕ) (r : List (List ℕ)) (f : Format) → bytes_eq a (codes "json") ≡ false → Puts (a ∷ b ∷ r) f → ⊥
two-no-put a b r format.Json other h =
    let same : bytes_eq a (codes "json") ≡ true = (bytes_eq-Decides a (codes "json")).1 (heads a (codes "json") (b ∷ r) h.0 h.1) in
    true-no-false (bytes_eq a (codes "json")) same other
  where
    true-no-false : (t : Bool) → t ≡ true → t ≡ false → ⊥
    true-no-false t p q = cc
two-no-put a b r format.Line other h = omega (arith, ap length h.1.0, ap length h.2)

json-field-is : (first : List ℕ) (more : List (List ℕ)) (t : Bool) → bytes_eq first (codes "json") ≡ t → id_field (first ∷ more) ≡ cond t (bare_id_field more) (bare_id_field (first ∷ more))
json-field-is first more t e = ap (λ (b : Bool). cond b (bare_id_field more) (bare_id_field (first ∷ more))) e

with-is : (d first : List ℕ) (more : List (List ℕ)) (t : Bool) → bytes_eq first (codes "json") ≡ t → with_id d (first ∷ more) ≡ cond t (first ∷ bare_with_id d more) (bare_with_id d (first ∷ more))
with-is d first more t e = ap (λ (b : Bool). cond b (first ∷ bare_with_id d more) (bare_with_id d (first ∷ more))) e

none-some : (field : List ℕ) → None ≡ Some field → ⊥
none-some field e = cc

behind-json : (d first field : List ℕ) (more : List (List ℕ)) (f : Format) → bare_id_field more ≡ Some field → Puts (first ∷ bare_with_id d more) f → ⊥
behind-json d first field [] f e h = none-some field e
behind-json d first field (w ∷ []) f e h = none-some field e
behind-json d first field (w ∷ x ∷ r) f e h = three-no-put first w d r f h

without-json : (d first field : List ℕ) (more : List (List ℕ)) (f : Format) → bytes_eq first (codes "json") ≡ false → bare_id_field (first ∷ more) ≡ Some field → Puts (bare_with_id d (first ∷ more)) f → ⊥
without-json d first field [] f other e h = none-some field e
without-json d first field (x ∷ r) f other e h = two-no-put first d r f other h

puts-no-id : (fs : List (List ℕ)) (d field : List ℕ) (f : Format) → id_field fs ≡ Some field → Puts (with_id d fs) f → ⊥
puts-no-id [] d field f e h = none-some field e
puts-no-id (first ∷ more) d field f e h = elim (cases_Bool (bytes_eq first (codes "json"))) [
  | inl same ↦ behind-json d first field more f (sym (json-field-is first more true same) ∙ e) (subst (λ (fs : List (List ℕ)). Puts fs f) (with-is d first more true same) h)
  | inr other ↦ without-json d first field more f other (sym (json-field-is first more false other) ∙ e) (subst (λ (fs : List (List ℕ)). Puts fs f) (with-is d first more false other) h)
]

by-field : (x : Option (List ℕ)) (rest plain : List ℕ) (session : Option (List ℕ × ℕ)) (f : Format) → id_field (fields rest) ≡ x → IsNumberedBy x rest session plain → Puts (fields plain) f → session ≡ None
by-field None rest plain session f e n h = n.0
by-field (Some field) rest plain None f e n h = refl
by-field (Some field) rest plain (Some s) f e n h = absurd (puts-no-id (fields rest) (decimal s.1) field f e (subst (λ (fs : List (List ℕ)). Puts fs f) n.2 h))

session-of-put : (b : Bool) (rest plain : List ℕ) (session : Option (List ℕ × ℕ)) (f : Format) → IsNumbered b rest session plain → Puts (fields plain) f → session ≡ None
session-of-put false rest plain session f n h = n.0
session-of-put true rest plain session f n h = by-field (id_field (fields rest)) rest plain session f refl n h

body-of-put : (names : Bool) (b : Spelling) (session : Option (List ℕ × ℕ)) (plain : List ℕ) (f : Format) → IsObjectBody names b session plain → Puts (fields plain) f → session ≡ None
body-of-put names (as_line bytes) session plain f h p = session-of-put names bytes plain session f h p
body-of-put names (as_put replies text) session plain f h p = absurd h
body-of-put names as_bad session plain f h p = h.0

object-of-put : (names : Bool) (found : Option Spelled) (label : LineLabel) (plain : List ℕ) (f : Format) → IsObjectOf names found label plain → Puts (fields plain) f → label.session ≡ None
object-of-put names None label plain f h p = h.0.1
object-of-put names (Some s) label plain f h p = body-of-put names s.body label.session plain f h.1 p

line-of-put : (b : Bool) (o : LabelOptions) (whole : List ℕ) (label : LineLabel) (plain : List ℕ) (f : Format) → IsLineOf b o whole label plain → Puts (fields plain) f → label.session ≡ None
line-of-put false o whole label plain f h p = session-of-put o.names h.0 plain label.session f h.2 p
line-of-put true o whole label plain f h p = object-of-put o.names h.0 label plain f h.2 p

pub put_no_session : (o : LabelOptions) (whole : List ℕ) (label : LineLabel) (plain : List ℕ) (f : Format) → StandsFor o whole label plain → Says plain (line.Put f) → label.session ≡ None
put_no_session o whole label plain f (inl h) says = h.1.1
put_no_session o whole label plain f (inr h) says = line-of-put o.objects o whole label plain f h.1 says.1
