-- The results of the calls of a record.
use Rattle.std.proofs.Common.{◌≡◌, ◌&&◌, Bool, true, false, not, ℕ, ◌+◌, List, [], ◌∷◌, ◌++◌, Option, length, if◌then◌else◌, refl, sym, ap, subst, ◌∙◌, length-append, inl, inr, arith}
use Rattle.std.specs.Option.{option_map}
use Rattle.std.proofs.lemmas.Bool.{and_parts, cases_Bool, true≢false}
use Rattle.std.proofs.lemmas.Bool.Decides.{nat_tests}
use Rattle.scrib_types.specs.declared.event.Event.{Event}
use Rattle.scrib_types.specs.declared.event.Told.{Told}
use Rattle.scrib_types.specs.declared.event.Told.TheVariants.{Stale, Judged}
use Rattle.scrib_types.specs.declared.event.Verdict.{Verdict}
use Rattle.scrib_types.specs.declared.event.Verdict.TheVariants.{Permitted, Offence, Withdrawn}
use Rattle.scrib_types.specs.Judgement.{Judges}
use Rattle.scrib_record.specs.declared.judging.Judging.{Judging}
use Rattle.scrib_record.specs.declared.version.Version.{Version}
use Rattle.scrib_record.specs.Judgings.{IsKept, IsJudgedOn, IsTurnedTo}
use Rattle.scrib_record.specs.Stale.{Recorded, is_present, is_final, is_stale}
use Rattle.scrib_record.specs.Told.{IsReported, IsNoted, IsTurned}
use Rattle.scrib_record.specs.Versions.{meaning_of}
use Rattle.scrib_record.proofs.VerdictLemmas.{fresh_judges}
use Rattle.scrib_record.proofs.Stamps.{of_one_stamp}

-- the value of a record in contracts
abbrev pub seen : List (List ℕ) → List Event → Judging → Recorded
seen name log j = record { name = name; log = log; held = j.held; judged = j.judged; verdict = j.verdict }

-- whether the judgement is that of the whole log under the present version
abbrev pub is_fresh : Option Version → List Event → Judging → Bool
is_fresh present log j = is_present present j.held && is_final j.verdict j.judged (length log)

-- the same, for a log of this length
pub fresh_at : (present : Option Version) (log : List Event) (j : Judging) (n : ℕ) → n ≡ length log → (is_present present j.held && is_final j.verdict j.judged n) ≡ is_fresh present log j
fresh_at present log j n e = ap (λ m. is_present present j.held && is_final j.verdict j.judged m) e

pub not_stale : (b s : Bool) → s ≡ not b → s ≡ false → b ≡ true
not_stale true s e f = refl
not_stale false s e f = absurd (true≢false (sym e ∙ f))

pub now_stale : (b s : Bool) → s ≡ not b → s ≡ true → b ≡ false
now_stale true s e f = absurd (true≢false (sym f ∙ e))
now_stale false s e f = refl

-- a result, at a verdict
abbrev pub Answers : Option Version → Recorded → Verdict → Type 0
Answers present r v = (is_stale present r ≡ false) × (r.verdict ≡ v) × Judges (option_map meaning_of present) r.log v

pub answered : (present : Option Version) (name : List (List ℕ)) (log : List Event) (j : Judging) (v : Verdict) → IsKept log j → is_fresh present log j ≡ true → j.verdict ≡ v → Answers present (seen name log j) v
answered present name log j v k f e =
    let both = and_parts (is_present present j.held) (is_final j.verdict j.judged (length log)) f in
    (ap not f, e, subst (Judges (option_map meaning_of present) log) e (fresh_judges present log j k both.0 both.1))

told_now : (present : Option Version) (name : List (List ℕ)) (log : List Event) (j : Judging) → IsKept log j → is_fresh present log j ≡ true → IsReported present (seen name log j) (Judged j.verdict)
told_now present name log j k f = let w = answered present name log j j.verdict k f refl in (w.0, refl, w.2)

pub told_either : (present : Option Version) (name : List (List ℕ)) (log : List Event) (j : Judging) (answer : Told) → IsKept log j → answer ≡ (if is_fresh present log j then Judged j.verdict else Stale) → IsReported present (seen name log j) answer
told_either present name log j answer k e =
    elim (cases_Bool (is_fresh present log j)) [
      | inl f ↦ subst (IsReported present (seen name log j)) (sym (e ∙ ap (λ b. if b then Judged j.verdict else Stale) f)) (told_now present name log j k f)
      | inr f ↦ subst (IsReported present (seen name log j)) (sym (e ∙ ap (λ b. if b then Judged j.verdict else Stale) f)) (ap not f)
    ]

-- a verdict that is not final is not final on a longer log
final_grown : (v : Verdict) (k n m : ℕ) → m ≡ n + 1 → is_final v k n ≡ false → is_final v k m ≡ false
final_grown Permitted k n m e f = grind (arith, nat_tests)
final_grown (Offence place role allowed) k n m e f = absurd (true≢false f)
final_grown Withdrawn k n m e f = absurd (true≢false f)

fresh_grown : (present : Option Version) (log : List Event) (e : Event) (j : Judging) → is_fresh present log j ≡ false → is_fresh present (log ++ e ∷ []) j ≡ false
fresh_grown present log e j f = by (is_present present j.held) f
  where
    by : (b : Bool) → (b && is_final j.verdict j.judged (length log)) ≡ false → (b && is_final j.verdict j.judged (length (log ++ e ∷ []))) ≡ false
    by true h = final_grown j.verdict j.judged (length log) (length (log ++ e ∷ [])) (length-append log (e ∷ [])) h
    by false h = refl

pub noted_stale : (present : Option Version) (name : List (List ℕ)) (log : List Event) (e : Event) (j : Judging) → is_fresh present log j ≡ false → IsNoted present (seen name log j) e (seen name (log ++ e ∷ []) j) Stale
noted_stale present name log e j f = record {
  name = refl;
  log = refl;
  held = refl;
  stale = ap not (fresh_grown present log e j f) ∙ sym (ap not f);
  kept = λ s. (refl, refl);
  told = ap not (fresh_grown present log e j f);
}

pub noted_fresh : (present : Option Version) (name : List (List ℕ)) (log : List Event) (e : Event) (old new : Judging) (answer : Told) → is_fresh present log old ≡ true → IsJudgedOn log e old new answer → IsNoted present (seen name log old) e (seen name (log ++ e ∷ []) new) answer
noted_fresh present name log e old new answer f h =
    let both = and_parts (is_present present old.held) (is_final old.verdict old.judged (length log)) f in
    let whole : is_final new.verdict new.judged (length (log ++ e ∷ [])) ≡ true = ap (is_final new.verdict new.judged) (length-append log (e ∷ [])) ∙ h.whole in
    let now : is_fresh present (log ++ e ∷ []) new ≡ true = rw (h.held, both.0, whole) refl in
    record {
      name = refl;
      log = refl;
      held = h.held;
      stale = ap not now ∙ sym (ap not f);
      kept = λ s. absurd (true≢false (sym s ∙ ap not f));
      told = subst (IsReported present (seen name (log ++ e ∷ []) new)) (sym h.told) (told_now present name (log ++ e ∷ []) new h.kept now);
    }

pub turned_not : (present : Option Version) (name : List (List ℕ)) (log : List Event) (j : Judging) (answer : Told) → IsKept log j → is_fresh present log j ≡ true → answer ≡ (if is_fresh present log j then Judged j.verdict else Stale) → IsTurned present (seen name log j) (seen name log j) answer
turned_not present name log j answer k f e = record {
  fresh = λ s. refl;
  name = refl;
  log = refl;
  present = (and_parts (is_present present j.held) (is_final j.verdict j.judged (length log)) f).0;
  stamp = of_one_stamp present j.held (and_parts (is_present present j.held) (is_final j.verdict j.judged (length log)) f).0;
  further = inl (ap not f);
  most = λ s. let all = (and_parts (is_present present j.held) (is_final j.verdict j.judged (length log)) f).0 in rw all (omega arith);
  told = told_either present name log j answer k e;
}

pub turned_on : (present : Option Version) (name : List (List ℕ)) (log : List Event) (old new : Judging) (answer : Told) → is_fresh present log old ≡ false → IsTurnedTo present log old new answer → IsTurned present (seen name log old) (seen name log new) answer
turned_on present name log old new answer f h = record {
  fresh = λ s. absurd (true≢false (sym (ap not f) ∙ s));
  name = refl;
  log = refl;
  present = h.held;
  stamp = of_one_stamp present new.held h.held;
  further = elim h.further [ inl w ↦ inl (rw (h.held, w) refl) | inr n ↦ inr n ];
  most = h.most;
  told = told_either present name log new answer h.kept (h.told ∙ sym (ap (λ b. if b && is_final new.verdict new.judged (length log) then Judged new.verdict else Stale) h.held));
}
