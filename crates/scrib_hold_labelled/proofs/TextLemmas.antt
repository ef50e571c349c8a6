-- Lines with their ends, and the lines of a put.
use Rattle.std.specs.Prelude.{if◌then◌else◌, is_ok, OnOk}
use Rattle.std.proofs.Common.{◌≡◌, ◌≢◌, ◌∙◌, ◌⊎◌, ◌==◌, eqb-true, ℕ, Bool, true, false, List, [], ◌∷◌, ◌++◌, length, codes, Result, Ok, Err, refl, sym, ap, subst, inl, inr, arith}
use Rattle.std.proofs.lemmas.Bool.{cases_Bool, cases_eq, false≢true}
use Rattle.std.proofs.lemmas.List.{append-nil, append_assoc}
use Rattle.std.proofs.lemmas.List.Elements.{All-push}
use Rattle.scrib_core.specs.declared.step.Step.{Step}
use Rattle.scrib_core.specs.declared.step.Step.TheVariants.{Put}
use Rattle.scrib_script_reader.specs.Scripts.{NoLf, bare, lines}
use Rattle.scrib_script_reader.proofs.Bytes.{bare_cr, bare_lf, lines_lf}
use Rattle.scrib_labelled.specs.Splits.{IsEnded}
use Rattle.scrib_hold_lines.specs.Lines.{AreTextLines, EndsLine, EndsWithin, IsTail, no_line, one_more}
use Rattle.scrib_hold_labelled.specs.WrittenLines.{are_whole_lines, ended, ends_with, put_lines, step_lines, tail_of}

-- ---- the last byte

pub ends_push : (b : ℕ) (front : List ℕ) (last : ℕ) → ends_with b (front ++ last ∷ []) ≡ (last == b)
ends_push b [] last = refl
ends_push b (x ∷ []) last = refl
ends_push b (x ∷ y ∷ front) last = ends_push b (y ∷ front) last

-- bytes with a last one
pub some_last : (b : ℕ) (bs : List ℕ) → (front : List ℕ) × (last : ℕ) × (b ∷ bs ≡ front ++ last ∷ [])
some_last b [] = ([], b, refl)
some_last b (c ∷ bs) = let r = some_last c bs in (b ∷ r.0, r.1, ap (λ (t : List ℕ). b ∷ t) r.2)

-- ---- a line with its end

end-lf : (text : List ℕ) → ends_with 13 text ≡ false → (front : List ℕ) → text ≡ front ++ 13 ∷ [] → ⊥
end-lf text h front e = false≢true (sym h ∙ ap (ends_with 13) e ∙ ends_push 13 front 13)

pub bare_ended : (text : List ℕ) → bare (ended text) ≡ text
bare_ended text = elim (cases_Bool (ends_with 13 text)) [
  | inl cr ↦ ap (λ (b : Bool). bare (text ++ (if b then 13 ∷ 10 ∷ [] else 10 ∷ []))) cr ∙ bare_cr text
  | inr other ↦ ap (λ (b : Bool). bare (text ++ (if b then 13 ∷ 10 ∷ [] else 10 ∷ []))) other ∙ bare_lf text (end-lf text other)
]

pub is_ended : (text : List ℕ) → NoLf text → IsEnded (ended text)
is_ended text no_lf = elim (cases_Bool (ends_with 13 text)) [
  | inl cr ↦ (
    text ++ 13 ∷ [],
    All-push (λ b. b ≢ 10) text 13 no_lf (λ e. absurd (omega (arith, e))),
    ap (λ (b : Bool). text ++ (if b then 13 ∷ 10 ∷ [] else 10 ∷ [])) cr ∙ sym (append_assoc text (13 ∷ []) (10 ∷ [])),
  )
  | inr other ↦ (text, no_lf, ap (λ (b : Bool). text ++ (if b then 13 ∷ 10 ∷ [] else 10 ∷ [])) other)
]

-- a line with its end is the first line
pub first_line : (text more : List ℕ) → IsEnded text → lines (text ++ more) ≡ text ∷ lines more
first_line text more h =
    subst (λ (t : List ℕ). lines (t ++ more) ≡ t ∷ lines more) (sym h.2) (ap lines (append_assoc h.0 (10 ∷ []) more) ∙ lines_lf h.0 more h.1)

-- ---- what is behind a module text

whole-tail : (b : Bool) (text : List ℕ) → are_whole_lines text ≡ b → tail_of text ≡ (if b then codes "%%\n" else codes ".\n%%\n")
whole-tail b text e = ap (λ (x : Bool). if x then codes "%%\n" else codes ".\n%%\n") e

ends-lf : (b : ℕ) (bs : List ℕ) → ends_with 10 (b ∷ bs) ≡ true → EndsLine (b ∷ bs)
ends-lf b bs h =
    let s = some_last b bs in
    let lf : s.1 ≡ 10 = eqb-true s.1 10 (sym (ends_push 10 s.0 s.1) ∙ sym (ap (ends_with 10) s.2) ∙ h) in
    inr (s.0, s.2 ∙ ap (λ (x : ℕ). s.0 ++ x ∷ []) lf)

ends-other : (b : ℕ) (bs : List ℕ) → ends_with 10 (b ∷ bs) ≡ false → EndsWithin (b ∷ bs)
ends-other b bs h =
    let s = some_last b bs in
    (s.0, s.1, s.2, λ e. false≢true (sym h ∙ ap (ends_with 10) (s.2 ∙ ap (λ (x : ℕ). s.0 ++ x ∷ []) e) ∙ ends_push 10 s.0 10))

pub tail_is : (put : List ℕ) → IsTail put (tail_of put)
tail_is [] = inl (refl, inl refl)
tail_is (b ∷ bs) = elim (cases_Bool (ends_with 10 (b ∷ bs))) [
  | inl lf ↦ inl (whole-tail true (b ∷ bs) lf, ends-lf b bs lf)
  | inr other ↦ inr (whole-tail false (b ∷ bs) other, ends-other b bs other)
]

-- ---- lines of a module text

pub text_split : {text : List ℕ} → AreTextLines text → (more : List ℕ) → lines (text ++ more) ≡ lines text ++ lines more
text_split no_line more = refl
text_split (one_more k m no_lf ne further) more =
    ap lines (append_assoc k (10 ∷ m) more) ∙ lines_lf k (m ++ more) no_lf ∙ ap (λ (ls : List (List ℕ)). (k ++ 10 ∷ []) ∷ ls) (text_split further more)
    ∙ ap (λ (ls : List (List ℕ)). ls ++ lines more) (sym (lines_lf k m no_lf))

-- ---- for the proofs of functions

pub ends_at : (b : ℕ) (bs front : List ℕ) (last : ℕ) → bs ≡ front ++ last ∷ [] → (last == b) ≡ ends_with b bs
ends_at b bs front last is = sym (ends_push b front last) ∙ sym (ap (ends_with b) is)

pub end_cr : (text end : List ℕ) → ends_with 13 text ≡ true → end ≡ 13 ∷ 10 ∷ [] → text ++ end ≡ ended text
end_cr text end cr is = ap (λ (e : List ℕ). text ++ e) is ∙ ap (λ (b : Bool). text ++ (if b then 13 ∷ 10 ∷ [] else 10 ∷ [])) (sym cr)

pub end_other : (text end : List ℕ) → ends_with 13 text ≡ false → end ≡ 10 ∷ [] → text ++ end ≡ ended text
end_other text end other is = ap (λ (e : List ℕ). text ++ e) is ∙ ap (λ (b : Bool). text ++ (if b then 13 ∷ 10 ∷ [] else 10 ∷ [])) (sym other)

pub tail_whole : (text : List ℕ) → (text ≡ []) ⊎ (ends_with 10 text ≡ true) → tail_of text ≡ codes "%%\n"
tail_whole [] h = refl
tail_whole (b ∷ bs) (inl none) = absurd (cc)
tail_whole (b ∷ bs) (inr lf) = whole-tail true (b ∷ bs) lf

pub tail_cut : (text : List ℕ) → (text ≡ [] → ⊥) → ends_with 10 text ≡ false → tail_of text ≡ codes ".\n%%\n"
tail_cut [] some other = absurd (some refl)
tail_cut (b ∷ bs) some other = whole-tail false (b ∷ bs) other

-- what was appended
pub ok_added : {T E : Type 0} (r : Result T E) (old new l : List ℕ) → new ≡ (if is_ok r then old ++ l else old) → OnOk r (new ≡ old ++ l)
ok_added (Ok x) old new l e = e
ok_added (Err x) old new l e = tt

pub two_added : (old mid new text end whole : List ℕ) → mid ≡ old ++ text → new ≡ mid ++ end → text ++ end ≡ whole → new ≡ old ++ whole
two_added old mid new text end whole first next is = next ∙ ap (λ (t : List ℕ). t ++ end) first ∙ append_assoc old text end ∙ ap (λ (t : List ℕ). old ++ t) is

pub object_added : (objects : Bool) (old new text put : List ℕ) → objects ≡ true → new ≡ old ++ ended text → new ≡ old ++ put_lines objects text put
object_added objects old new text put on is = is ∙ ap (λ (b : Bool). old ++ put_lines b text put) (sym on)

pub put_added : (objects : Bool) (old first next new text put tail : List ℕ) → objects ≡ false → first ≡ old ++ ended text → next ≡ first ++ put → new ≡ next ++ tail → tail ≡ tail_of put → new ≡ old ++ put_lines objects text put
put_added objects old first next new text put tail off line more last is =
    last ∙ ap (λ (t : List ℕ). t ++ tail) more ∙ append_assoc first put tail ∙ ap (λ (t : List ℕ). t ++ (put ++ tail)) line
    ∙ append_assoc old (ended text) (put ++ tail) ∙ ap (λ (t : List ℕ). old ++ (ended text ++ (put ++ t))) is
    ∙ ap (λ (b : Bool). old ++ put_lines b text put) (sym off)

-- a step that is no put
pub other_step : (objects : Bool) (text : List ℕ) (s : Step) → ((put : List ℕ) → s ≡ Put put → ⊥) → step_lines objects text s ≡ ended text
other_step objects text (Put put) other = absurd (other put refl)
other_step objects text s other = refl
