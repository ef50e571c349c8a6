-- The lines of a put.
use Rattle.std.proofs.Common.{◌≡◌, ◌≢◌, ◌∙◌, ◌⊎◌, ◌≤◌, ◌+◌, ℕ, List, [], ◌∷◌, ◌++◌, Some, None, take, length, length-append, get_or, Result, Ok, Err, refl, sym, ap, subst, inl, inr, arith, lit≤}
use Rattle.std.specs.Prelude.{codes, is_ok, if◌then◌else◌}
use Rattle.std.proofs.lemmas.Bool.{cases_eq}
use Rattle.std.proofs.lemmas.List.{append_assoc, append-nil, take_all, get_or_at}
use Rattle.std.proofs.lemmas.List.Elements.{All-nil, All-cons, All-head, All-tail, All-push}
use Rattle.std.proofs.Math.Seq.{take-append_seam}
use Rattle.scrib_core.specs.declared.format.Format.{Format}
use Rattle.scrib_core.specs.declared.format.Format.TheVariants as format
use Rattle.scrib_core.specs.declared.step.Step.TheVariants.{Put}
use Rattle.scrib_script_reader.specs.declared.line.Line.TheVariants as line
use Rattle.scrib_script_reader.specs.declared.item.Item.{Item}
use Rattle.scrib_script_reader.specs.declared.item.Item.TheVariants as item
use Rattle.scrib_script_reader.specs.Fields.{fields}
use Rattle.scrib_script_reader.specs.Says.{Says}
use Rattle.scrib_script_reader.specs.Scripts.{NoLf, Text, empty_text, with_line, begins, goes_on, puts, stops, lines, bare, text_end}
use Rattle.scrib_script_reader.proofs.Bytes.{lines_lf, bare_lf, before_cr, before_other}
use Rattle.scrib_hold_lines.specs.Lines.{SpellsAnew, WritesItems, AreTextLines, no_line, one_more, IsPutText, EndsLine, EndsWithin, IsTail, put_line, IsOpenText, EndsInside}
use Rattle.scrib_hold_lines.specs.Placement.{IsReaderEnded}
use Rattle.scrib_hold_lines.proofs.SpelledLines.{first_of}
use Rattle.scrib_hold_lines.proofs.TextLines.{text_lines_more}

-- ---- the line before a module text

no_byte : NoLf []
no_byte = All-nil (λ b. b ≢ 10)

byte_more : (b : ℕ) (bs : List ℕ) → b ≢ 10 → NoLf bs → NoLf (b ∷ bs)
byte_more b bs ne more = All-cons (λ x. x ≢ 10) b bs ne more

fields_put : fields (codes "put") ≡ codes "put" ∷ []
unfolding fields
fields_put = refl

fields_json : fields (codes "json put") ≡ codes "json" ∷ codes "put" ∷ []
unfolding fields
fields_json = refl

no_json : (more : List (List ℕ)) → codes "put" ∷ [] ≢ codes "json" ∷ more
no_json more e = let b : 112 ≡ 106 = ap (λ (fs : List (List ℕ)). get_or (get_or fs 0 []) 0 0) e in absurd (omega (arith, b))

put_says : (f : Format) → Says (bare (put_line f)) (line.Put f)
put_says format.Line = (lit≤ tt, (codes "put" ∷ [], (sym fields_put, λ more e. no_json more (sym fields_put ∙ e)), refl))
put_says format.Json = (lit≤ tt, (codes "put" ∷ [], fields_json, refl))

put_ended : (f : Format) → IsReaderEnded (put_line f)
put_ended format.Line = (codes "put", byte_more 112 (codes "ut") (λ e. absurd (omega (arith, e))) (byte_more 117 (codes "t") (λ e. absurd (omega (arith, e))) (byte_more 116 [] (λ e. absurd (omega (arith, e))) no_byte)), refl)
put_ended format.Json = (
  codes "json put",
  byte_more 106 (codes "son put") (λ e. absurd (omega (arith, e))) (byte_more 115 (codes "on put") (λ e. absurd (omega (arith, e)))
      (byte_more 111 (codes "n put") (λ e. absurd (omega (arith, e))) (byte_more 110 (codes " put") (λ e. absurd (omega (arith, e))) (byte_more 32 (codes "put") (λ e. absurd (omega (arith, e)))
      (byte_more 112 (codes "ut") (λ e. absurd (omega (arith, e))) (byte_more 117 (codes "t") (λ e. absurd (omega (arith, e))) (byte_more 116 [] (λ e. absurd (omega (arith, e))) no_byte))))))),
  refl,
)

-- ---- the lines of the text

no_more : (t : Text) → with_line t [] ≡ t
no_more t = ap (λ (x : List ℕ). let u : Text = record { bytes = x; format = t.format } in u) (append-nil t.bytes)

two_lines : (t : Text) (k m : List ℕ) → with_line (with_line t (k ++ 10 ∷ [])) m ≡ with_line t (k ++ 10 ∷ m)
two_lines t k m =
    ap (λ (x : List ℕ). let u : Text = record { bytes = x; format = t.format } in u)
    (append_assoc t.bytes (k ++ 10 ∷ []) m ∙ ap (λ (x : List ℕ). t.bytes ++ x) (append_assoc k (10 ∷ []) m))

anew_further : (t : Text) (l : List ℕ) (ls : List (List ℕ)) (items : List Item) → bare l ≢ text_end → SpellsAnew (Some (with_line t l)) ls items → SpellsAnew (Some t) (l ∷ ls) items
anew_further t l ls items ne h = λ n. let p = h (n + 1) in (p.0, goes_on n t l ls p.0 ne p.1, p.2)

-- lines inside a module text
texts_anew : {text : List ℕ} → AreTextLines text → (t : Text) (more : List ℕ) (items : List Item) → SpellsAnew (Some (with_line t text)) (lines more) items → SpellsAnew (Some t) (lines (text ++ more)) items
texts_anew no_line t more items h = subst (λ (u : Text). SpellsAnew (Some u) (lines more) items) (no_more t) h
texts_anew (one_more k m no_lf ne further) t more items h =
    let is : lines ((k ++ 10 ∷ m) ++ more) ≡ (k ++ 10 ∷ []) ∷ lines (m ++ more) = ap lines (append_assoc k (10 ∷ m) more) ∙ lines_lf k (m ++ more) no_lf in
    let inner : SpellsAnew (Some (with_line (with_line t (k ++ 10 ∷ [])) m)) (lines more) items = subst (λ (u : Text). SpellsAnew (Some u) (lines more) items) (sym (two_lines t k m)) h in
    subst (λ (ls : List (List ℕ)). SpellsAnew (Some t) ls items) (sym is)
    (anew_further t (k ++ 10 ∷ []) (lines (m ++ more)) items ne (texts_anew further (with_line t (k ++ 10 ∷ [])) more items inner))

-- the end of the text
anew_put : (t : Text) (l : List ℕ) (ls : List (List ℕ)) (items : List Item) → bare l ≡ text_end → SpellsAnew None ls items → SpellsAnew (Some t) (l ∷ ls) (item.Step t.format (Put (take 1048577 t.bytes)) ∷ items)
anew_put t l ls items e h = λ n.
    let p = h (n + 1) in (
      item.Step t.format (Put (take 1048577 t.bytes)) ∷ p.0,
      puts n t l ls p.0 e p.1,
      ap (λ (x : List Item). item.Step t.format (Put (take 1048577 t.bytes)) ∷ x) p.2,
    )

anew_begins : (f : Format) (l : List ℕ) (ls : List (List ℕ)) (items : List Item) → Says (bare l) (line.Put f) → SpellsAnew (Some (empty_text f)) ls items → SpellsAnew None (l ∷ ls) items
anew_begins f l ls items says h = λ n. let p = h (n + 1) in (p.0, begins n l ls p.0 f says p.1, p.2)

end_ended : IsReaderEnded (codes "%%\n")
end_ended = (codes "%%", byte_more 37 (codes "%") (λ e. absurd (omega (arith, e))) (byte_more 37 [] (λ e. absurd (omega (arith, e))) no_byte), refl)

-- a put of whole lines
writes_lines : (f : Format) (text put : List ℕ) → AreTextLines text → take 1048577 text ≡ put → WritesItems (put_line f ++ (text ++ codes "%%\n")) (item.Step f (Put put) ∷ [])
writes_lines f text put h is = record {
  so = λ more rest r.
      let all : lines ((put_line f ++ (text ++ codes "%%\n")) ++ more) ≡ put_line f ∷ lines (text ++ (codes "%%\n" ++ more)) =
      ap lines (append_assoc (put_line f) (text ++ codes "%%\n") more) ∙ first_of (put_line f) ((text ++ codes "%%\n") ++ more) (put_ended f)
      ∙ ap (λ (t : List ℕ). put_line f ∷ lines t) (append_assoc text (codes "%%\n") more) in
      let ended : SpellsAnew (Some (with_line (empty_text f) text)) (lines (codes "%%\n" ++ more)) (item.Step f (Put (take 1048577 text)) ∷ rest) =
      subst (λ (ls : List (List ℕ)). SpellsAnew (Some (with_line (empty_text f) text)) ls (item.Step f (Put (take 1048577 text)) ∷ rest)) (sym (first_of (codes "%%\n") more end_ended))
      (anew_put (with_line (empty_text f) text) (codes "%%\n") (lines more) rest refl r) in
      let put_is : SpellsAnew (Some (with_line (empty_text f) text)) (lines (codes "%%\n" ++ more)) (item.Step f (Put put) ∷ rest) =
      subst (λ (p : List ℕ). SpellsAnew (Some (with_line (empty_text f) text)) (lines (codes "%%\n" ++ more)) (item.Step f (Put p) ∷ rest)) is ended in
      subst (λ (ls : List (List ℕ)). SpellsAnew None ls (item.Step f (Put put) ∷ rest)) (sym all)
      (anew_begins f (put_line f) (lines (text ++ (codes "%%\n" ++ more))) (item.Step f (Put put) ∷ rest) (put_says f)
      (texts_anew h (empty_text f) (codes "%%\n" ++ more) (item.Step f (Put put) ∷ rest) put_is));
}

-- a module text that the script ends in
ends_inside : (f : Format) (text : List ℕ) → AreTextLines text → SpellsAnew None (lines (put_line f ++ text)) (item.EndOfText ∷ [])
ends_inside f text h =
    let inner : SpellsAnew (Some (empty_text f)) (lines (text ++ [])) (item.EndOfText ∷ []) =
    texts_anew h (empty_text f) [] (item.EndOfText ∷ []) (λ n. (item.EndOfText ∷ [], stops n (with_line (empty_text f) text), refl)) in
    subst (λ (ls : List (List ℕ)). SpellsAnew None ls (item.EndOfText ∷ [])) (sym (first_of (put_line f) text (put_ended f)))
    (anew_begins f (put_line f) (lines text) (item.EndOfText ∷ []) (put_says f) (subst (λ (t : List ℕ). SpellsAnew (Some (empty_text f)) (lines t) (item.EndOfText ∷ [])) (append-nil text) inner))

pub put_alone : (text : List ℕ) → text ≡ put_line format.Line → EndsInside text
put_alone text is = subst EndsInside (sym is) (subst EndsInside (append-nil (put_line format.Line)) (ends_inside format.Line [] no_line))

pub text_unended : (text : List ℕ) → IsOpenText text → (text ≡ [] → ⊥) → EndsInside text
text_unended text (inl none) some = absurd (some none)
text_unended text (inr h) some = subst EndsInside (sym h.1) (ends_inside format.Line h.0 h.2)

-- ---- the lines of an open text

pub open_none : (text : List ℕ) → text ≡ [] → IsOpenText text
open_none text none = inl none

open_begun : IsOpenText (put_line format.Line)
open_begun = inr ([], sym (append-nil (put_line format.Line)), no_line)

open_longer : (text l : List ℕ) → IsOpenText text → (text ≡ [] → ⊥) → IsReaderEnded l → bare l ≢ text_end → IsOpenText (text ++ l)
open_longer text l (inl none) some ended ne = absurd (some none)
open_longer text l (inr h) some ended ne =
    let whole : AreTextLines (h.0 ++ l) = subst (λ (t : List ℕ). AreTextLines (h.0 ++ t)) (sym ended.2) (text_lines_more h.2 ended.0 ended.1 (subst (λ (t : List ℕ). bare t ≢ text_end) ended.2 ne)) in
    inr (h.0 ++ l, ap (λ (t : List ℕ). t ++ l) h.1 ∙ append_assoc (put_line format.Line) h.0 l, whole)

-- bytes that are added, or not
open_added : {T E : Type 0} (r : Result T E) (old new l : List ℕ) → new ≡ (if is_ok r then old ++ l else old) → IsOpenText old → IsOpenText (old ++ l) → IsOpenText new
open_added (Ok x) old new l e was now = subst IsOpenText (sym e) now
open_added (Err x) old new l e was now = subst IsOpenText (sym e) was

pub put_added : {T E : Type 0} (r : Result T E) (old new l : List ℕ) → new ≡ (if is_ok r then old ++ l else old) → l ≡ put_line format.Line → old ≡ [] → IsOpenText new
put_added r old new l e is none =
    open_added r old new l e (inl none) (subst IsOpenText (sym (ap (λ (t : List ℕ). t ++ l) none ∙ is)) open_begun)

pub text_line_added : {T E : Type 0} (r : Result T E) (old new l : List ℕ) → new ≡ (if is_ok r then old ++ l else old) → IsOpenText old → (old ≡ [] → ⊥) → IsReaderEnded l → bare l ≢ text_end → IsOpenText new
text_line_added r old new l e was some ended ne = open_added r old new l e was (open_longer old l was some ended ne)

-- ---- the line that ends a text

ends_of : (k : List ℕ) → (k ≡ []) ⊎ ((front : List ℕ) × (b : ℕ) × (k ≡ front ++ b ∷ []))
ends_of [] = inl refl
ends_of (b ∷ []) = inr ([], b, refl)
ends_of (b ∷ c ∷ k) = elim (ends_of (c ∷ k)) [
  | inl none ↦ absurd (omega (arith, ap length none))
  | inr h ↦ inr (b ∷ h.0, h.1, ap (λ (t : List ℕ). b ∷ t) h.2)
]

end_is : (l k front : List ℕ) (b : ℕ) → l ≡ k ++ 10 ∷ [] → k ≡ front ++ b ∷ [] → bare l ≡ text_end → (l ≡ 37 ∷ 37 ∷ 10 ∷ []) ⊎ (l ≡ 37 ∷ 37 ∷ 13 ∷ 10 ∷ [])
end_is l k front b l_is k_is e = elim (cases_eq b 13) [
  | inl cr ↦
      let front_is : front ≡ 37 ∷ 37 ∷ [] = before_cr k front b k_is cr ∙ ap bare (sym l_is) ∙ e in
      inr (l_is ∙ ap (λ (t : List ℕ). t ++ 10 ∷ []) (k_is ∙ ap (λ (t : List ℕ). t ++ b ∷ []) front_is) ∙ ap (λ (c : ℕ). 37 ∷ 37 ∷ c ∷ 10 ∷ []) cr)
  | inr other ↦ inl (l_is ∙ ap (λ (t : List ℕ). t ++ 10 ∷ []) (before_other k front b k_is other ∙ ap bare (sym l_is) ∙ e))
]

pub text_end_is : (l : List ℕ) → IsReaderEnded l → bare l ≡ text_end → (l ≡ 37 ∷ 37 ∷ 10 ∷ []) ⊎ (l ≡ 37 ∷ 37 ∷ 13 ∷ 10 ∷ [])
text_end_is l ended e = elim (ends_of ended.0) [
  | inl none ↦
      let l_is : l ≡ 10 ∷ [] = ended.2 ∙ ap (λ (t : List ℕ). t ++ 10 ∷ []) none in
      absurd (omega (arith, ap length (sym (ap bare l_is) ∙ e)))
  | inr h ↦ end_is l ended.0 h.0 h.1 ended.2 h.2 e
]

pub no_text_end : (l : List ℕ) → IsReaderEnded l → (l ≡ 37 ∷ 37 ∷ 10 ∷ [] → ⊥) → (l ≡ 37 ∷ 37 ∷ 13 ∷ 10 ∷ [] → ⊥) → bare l ≢ text_end
no_text_end l ended one other e = elim (text_end_is l ended e) [
  | inl is ↦ one is
  | inr is ↦ other is
]

-- ---- where the text is cut

last_same : (a b : List ℕ) (x y : ℕ) → a ++ x ∷ [] ≡ b ++ y ∷ [] → x ≡ y
last_same a b x y e =
    let lengths : length b ≡ length a = omega (arith, ap length e, length-append a (x ∷ []), length-append b (y ∷ [])) in
    sym (get_or_at a x [] 0 (length a) refl) ∙ ap (λ (t : List ℕ). get_or t (length a) 0) e ∙ get_or_at b y [] 0 (length a) lengths

-- a line with a further byte ends no text
dotted_no_end : (k : List ℕ) → bare ((k ++ 46 ∷ []) ++ 10 ∷ []) ≢ text_end
dotted_no_end k e =
    let bare_is = bare_lf (k ++ 46 ∷ []) (λ front f. (let b : 46 ≡ 13 = last_same k front 46 13 f in absurd (omega (arith, b)))) in
    let b : 46 ≡ 37 = last_same k (37 ∷ []) 46 37 (sym bare_is ∙ e) in
    absurd (omega (arith, b))

dotted_no_lf : (k : List ℕ) → NoLf k → NoLf (k ++ 46 ∷ [])
dotted_no_lf k h = All-push (λ b. b ≢ 10) k 46 h (λ e. absurd (omega (arith, e)))

-- lines end with an LF
lines_end : {text : List ℕ} → AreTextLines text → EndsLine text
lines_end no_line = inl refl
lines_end (one_more k m no_lf ne more) = elim (lines_end more) [
  | inl none ↦ inr (k, ap (λ (t : List ℕ). k ++ 10 ∷ t) none)
  | inr some ↦ inr (k ++ 10 ∷ some.0, ap (λ (t : List ℕ). k ++ 10 ∷ t) some.1 ∙ sym (append_assoc k (10 ∷ some.0) (10 ∷ [])))
]

-- bytes with no LF and another end don't end with an LF
not_both : (text : List ℕ) → EndsLine text → EndsWithin text → ⊥
not_both text (inl none) w = absurd (omega (arith, ap length (sym none ∙ w.2), length-append w.0 (w.1 ∷ [])))
not_both text (inr some) w = w.3 (sym (last_same some.0 w.0 10 w.1 (sym some.1 ∙ w.2)))

-- bytes with no LF, one at least, end within a line
open_end : (front : List ℕ) (b : ℕ) (bs : List ℕ) → NoLf (b ∷ bs) → EndsWithin (front ++ b ∷ bs)
open_end front b [] no_lf = (front, b, refl, All-head (λ x. x ≢ 10) b [] no_lf)
open_end front b (c ∷ cs) no_lf = subst EndsWithin (append_assoc front (b ∷ []) (c ∷ cs)) (open_end (front ++ b ∷ []) c cs (All-tail (λ x. x ≢ 10) b (c ∷ cs) no_lf))

part_is_none : (front : List ℕ) (part : List ℕ) → NoLf part → EndsLine (front ++ part) → part ≡ []
part_is_none front [] no_lf ends = refl
part_is_none front (b ∷ bs) no_lf ends = absurd (not_both (front ++ b ∷ bs) ends (open_end front b bs no_lf))

-- a text that is not cut
put_uncut : (put : List ℕ) (h : IsPutText put) → EndsLine put → put ≡ h.front
put_uncut put h ends = h.is ∙ ap (λ (t : List ℕ). h.front ++ t) (part_is_none h.front h.part h.no_lf (subst EndsLine h.is ends)) ∙ append-nil h.front

put_short : (put : List ℕ) (h : IsPutText put) → length put ≤ 1048577
put_short put h = elim h.cut [
  | inl p ↦ p.1
  | inr full ↦ omega (arith, full)
]

-- a text that is cut
put_full : (put : List ℕ) (h : IsPutText put) → EndsWithin put → length put ≡ 1048577
put_full put h within = elim h.cut [
  | inl p ↦
      let same : put ≡ h.front = h.is ∙ ap (λ (t : List ℕ). h.front ++ t) p.0 ∙ append-nil h.front in
      absurd (not_both put (subst EndsLine (sym same) (lines_end h.whole)) within)
  | inr full ↦ full
]

-- the lines that are written for a put are those of a text of which as much is put
pub put_and_tail : (put tail : List ℕ) → IsPutText put → IsTail put tail → (text : List ℕ) × AreTextLines text × (text ++ codes "%%\n" ≡ put ++ tail) × (take 1048577 text ≡ put)
put_and_tail put tail h (inl k) = (
  put,
  subst AreTextLines (sym (put_uncut put h k.1)) h.whole,
  ap (λ (t : List ℕ). put ++ t) (sym k.0),
  take_all 1048577 put (put_short put h),
)
put_and_tail put tail h (inr k) =
    let longer : AreTextLines (h.front ++ ((h.part ++ 46 ∷ []) ++ 10 ∷ [])) = text_lines_more h.whole (h.part ++ 46 ∷ []) (dotted_no_lf h.part h.no_lf) (dotted_no_end h.part) in
    let is : h.front ++ ((h.part ++ 46 ∷ []) ++ 10 ∷ []) ≡ put ++ codes ".\n" =
    ap (λ (t : List ℕ). h.front ++ t) (append_assoc h.part (46 ∷ []) (10 ∷ [])) ∙ sym (append_assoc h.front h.part (46 ∷ 10 ∷ [])) ∙ ap (λ (t : List ℕ). t ++ 46 ∷ 10 ∷ []) (sym h.is) in
    let taken : take 1048577 (put ++ codes ".\n") ≡ put =
    ap (λ (n : ℕ). take n (put ++ codes ".\n")) (sym (put_full put h k.1)) ∙ take-append_seam put (codes ".\n") in (
      put ++ codes ".\n",
      subst AreTextLines is longer,
      append_assoc put (codes ".\n") (codes "%%\n") ∙ ap (λ (t : List ℕ). put ++ t) (sym k.0),
      taken,
    )

pub writes_put : (f : Format) (put tail : List ℕ) → IsPutText put → IsTail put tail → WritesItems (put_line f ++ (put ++ tail)) (item.Step f (Put put) ∷ [])
writes_put f put tail h k =
    let w = put_and_tail put tail h k in
    subst (λ (t : List ℕ). WritesItems (put_line f ++ t) (item.Step f (Put put) ∷ [])) w.2 (writes_lines f w.0 put w.1 w.3)
