-- The steps of a record's judgement: one more event, and the events of a turn.
use Rattle.std.proofs.Common.{◌≡◌, Bool, true, false, ℕ, ◌+◌, ◌-◌, ◌<◌, ◌≤◌, min, nat_le, List, [], ◌∷◌, ◌++◌, Option, Some, Result, Ok, Err, OnErr, if◌then◌else◌, length, take, drop, get_or, refl, sym, ap, subst, ◌∙◌, length-append, inl, inr, arith}
use Rattle.std.proofs.lemmas.Bool.{cases_lt, false≢true}
use Rattle.std.proofs.lemmas.Bool.Decides.{nat_tests}
use Rattle.std.proofs.lemmas.List.{take_all, take-append-drop, take-take, drop-take, take_more, length-take-le, length-drop, get_or-take, get_or-drop}
use Rattle.std.proofs.lemmas.Option.{slice_get-get_or}
use Rattle.scrib_types.specs.declared.event.Event.{Event}
use Rattle.scrib_types.specs.declared.event.Told.{Told}
use Rattle.scrib_types.specs.declared.event.Told.TheVariants.{Judged, Stale}
use Rattle.scrib_types.specs.declared.event.Verdict.{Verdict}
use Rattle.scrib_types.specs.declared.event.Verdict.TheVariants.{Permitted, Offence, Withdrawn}
use Rattle.scrib_record.specs.declared.configuration.Configuration.{Configuration}
use Rattle.scrib_record.specs.declared.judging.Halt.{Halt}
use Rattle.scrib_record.specs.declared.judging.Halt.TheVariants.{AtEnd, Refused}
use Rattle.scrib_record.specs.declared.judging.Judging.{Judging}
use Rattle.scrib_record.specs.declared.version.Version.{Version}
use Rattle.scrib_record.specs.Configurations.{LeadsTo}
use Rattle.scrib_record.specs.Following.{MayFollow}
use Rattle.scrib_record.specs.Judgings.{Keeps, IsKept, IsJudgedOn, IsFurther, RunsFrom, IsRefusal, verdict_of}
use Rattle.scrib_record.specs.Stale.{is_final}
use Rattle.scrib_record.specs.Versions.{meaning_of}
use Rattle.scrib_record.proofs.PermittedLogLemmas.{may_follow}
use Rattle.scrib_record.proofs.VerdictLemmas.{throughout_all, kept_all, kept_open, kept_whole, reached_all}

pub on_err : {X E : Type 0} (r : Result X E) (P : Type 0) → P → OnErr r P
on_err (Ok x) P p = tt
on_err (Err e) P p = p

nat_le_itself : (n : ℕ) → nat_le n n ≡ true
nat_le_itself n = grind (arith, nat_tests)

-- a verdict on all events is final
final_all : (v : Verdict) (n : ℕ) → is_final v n n ≡ true
final_all Permitted n = nat_le_itself n
final_all (Offence place role allowed) n = refl
final_all Withdrawn n = refl

pub judged_on : (log : List Event) (e : Event) (old new : Judging) (answer : Told) (v : Version) → new.held ≡ old.held → old.held ≡ Some v → new.judged ≡ length log + 1 → new.reached ≡ length log + 1 → Keeps (Some v) (log ++ e ∷ []) new.verdict new.configuration → answer ≡ Judged new.verdict → IsJudgedOn log e old new answer
judged_on log e old new answer v same held all made k told =
    let long : length (log ++ e ∷ []) ≡ length log + 1 = length-append log (e ∷ []) in
    record {
      kept = kept_all (log ++ e ∷ []) new (all ∙ sym long) (made ∙ sym long) (subst (λ (x : Option Version). Keeps x (log ++ e ∷ []) new.verdict new.configuration) (sym (same ∙ held)) k);
      held = same;
      whole = subst (λ n. is_final new.verdict n (length log + 1) ≡ true) (sym all) (final_all new.verdict (length log + 1));
      told = told;
    }

-- the same judgement, in a configuration that more of the log leads to
pub kept_further : (log : List Event) (old new : Judging) (v : Version) → IsKept log old → old.held ≡ Some v → old.verdict ≡ Permitted → new.held ≡ old.held → new.judged ≡ old.judged → new.verdict ≡ old.verdict → new.judged ≤ new.reached → new.reached ≤ length log → new.reached ≤ new.judged + 256 → Keeps (Some v) (take new.reached log) Permitted new.configuration → IsKept log new
kept_further log old new v k held free h j p behind within hint here = record {
  within = within;
  behind = behind;
  hint = hint;
  together = inl (p ∙ free);
  keeps =
      subst (λ (x : Option Version). Keeps x (take new.reached log) new.verdict new.configuration) (sym (h ∙ held))
      (subst (λ (x : Verdict). Keeps (Some v) (take new.reached log) x new.configuration) (sym (p ∙ free)) here);
}

-- the same judgement, in another configuration to which the log leads
pub kept_again : (log : List Event) (old new : Judging) (v : Version) → IsKept log old → is_final old.verdict old.judged (length log) ≡ true → old.held ≡ Some v → old.verdict ≡ Permitted → new.held ≡ old.held → new.judged ≡ old.judged → new.reached ≡ old.reached → new.verdict ≡ old.verdict → LeadsTo (meaning_of v) v.machines log new.configuration → IsKept log new
kept_again log old new v k f held free h j r p st =
    let w = kept_whole log old v k held free f in
    let all : new.reached ≡ length log = r ∙ reached_all log old k free f in
    let here : Keeps (Some v) (take new.reached log) Permitted new.configuration = subst (λ (x : List Event). Keeps (Some v) x Permitted new.configuration) (sym (take_all new.reached log (omega (arith, all)))) (st, w.1) in
    kept_further log old new v k held free h j p (omega (arith, j, r, k.behind)) (omega (arith, all)) (omega (arith, j, r, k.hint)) here

-- a refusal is final
pub refusal_final : (v : Version) (log : List Event) (e : Event) (w : Verdict) (c : Configuration) (judged events : ℕ) → Keeps (Some v) (log ++ e ∷ []) w c → (MayFollow (meaning_of v) log e → ⊥) → is_final w judged events ≡ true
refusal_final v log e Permitted c judged events k never = absurd (never (may_follow (meaning_of v) log e (throughout_all (meaning_of v) (log ++ e ∷ []) k.1)))
refusal_final v log e (Offence place role allowed) c judged events k never = refl
refusal_final v log e Withdrawn c judged events k never = absurd k

take_on : (k n : ℕ) (xs : List Event) → take k xs ++ take n (drop k xs) ≡ take (k + n) xs
take_on k n xs =
    let y = take (k + n) xs in
    ap (λ z. z ++ take n (drop k xs)) (sym (take-take k (k + n) xs (omega arith)))
    ∙ ap (λ z. take k y ++ z) (sym (drop-take k n xs))
    ∙ take-append-drop k y

-- the events of a turn
pub record IsPart (log events : List Event) (k end : ℕ) : Type 0 where
  pub part : events ≡ take (end - k) (drop k log)
  pub from : k ≤ end
  pub within : end ≤ length log

part_length : (log events : List Event) (k end : ℕ) → IsPart log events k end → length events ≡ end - k
part_length log events k end p = ap length p.part ∙ length-take-le (end - k) (drop k log) (omega (arith, length-drop k log, p.within))

part_take : (log events : List Event) (k end n : ℕ) → IsPart log events k end → n ≤ length events → take k log ++ take n events ≡ take (k + n) log
part_take log events k end n p le =
    let long = part_length log events k end p in
    ap (λ z. take k log ++ z) (ap (take n) p.part ∙ take-take n (end - k) (drop k log) (omega (arith, long))) ∙ take_on k n log

-- the performed events of a turn lead on
module _ (log events : List Event) (old : Judging) (v : Version) (end n : ℕ) (c : Configuration) (h : Halt) (p : IsPart log events old.reached end) (k : IsKept log old) (held : old.held ≡ Some v) (free : old.verdict ≡ Permitted) (runs : RunsFrom v events old.configuration c n h) where
  pub led : Keeps (Some v) (take (old.reached + n) log) Permitted c
  led =
      let before = kept_open log old v k held free in
      let r = runs.runs (take old.reached log) before.0 in
      subst (λ (x : List Event). Keeps (Some v) x Permitted c) (part_take log events old.reached end n p runs.within) (r.led_to, r.permitted before.1)

  -- no more than the turn's
  pub led_within : old.reached + n ≤ end
  led_within = omega (arith, part_length log events old.reached end p, runs.within, p.from)

final_at : (n m : ℕ) → n ≤ m → nat_le n m ≡ true
final_at n m l = grind (arith, nat_tests)

not_final : (n m : ℕ) → m < n → nat_le n m ≡ false
not_final n m l = grind (arith, nat_tests)

-- the result for permitted events: whether they are the whole log
told_permitted : (all : Bool) (end events : ℕ) → end ≤ events → (all ≡ true → end ≡ events) → (end ≡ events → all ≡ true) → (if all then Judged Permitted else Stale) ≡ verdict_of Permitted end events
told_permitted true end events le is so = rw (final_at events end (omega (arith, is refl))) refl
told_permitted false end events le is so =
    elim (cases_lt end events) [
      | inl before ↦ rw (not_final events end before) refl
      | inr reached ↦ absurd (false≢true (so (omega (arith, le, reached))))
    ]

pub further_all : (log events : List Event) (old new : Judging) (v : Version) (end n : ℕ) (answer : Told) (all : Bool) → IsPart log events old.reached end → end ≡ min (length log) (old.judged + 256) → IsKept log old → old.held ≡ Some v → old.verdict ≡ Permitted → RunsFrom v events old.configuration new.configuration n AtEnd → new.held ≡ old.held → new.judged ≡ end → new.reached ≡ old.reached + n → new.verdict ≡ old.verdict → (all ≡ true → end ≡ length log) → (end ≡ length log → all ≡ true) → answer ≡ (if all then Judged Permitted else Stale) → IsFurther log old new answer
further_all log events old new v end n answer all p most k held free runs h j r w is so told =
    let long = part_length log events old.reached end p in
    let there : new.reached ≡ end = omega (arith, r, runs.halts, long, p.from) in
    let now = subst (λ i. Keeps (Some v) (take i log) Permitted new.configuration) (sym r) (led log events old v end n new.configuration AtEnd p k held free runs) in
    record {
      kept = record {
        within = omega (arith, there, p.within);
        behind = omega (arith, there, j);
        hint = omega (arith, there, j);
        together = inl (w ∙ free);
        keeps =
            subst (λ (x : Option Version). Keeps x (take new.reached log) new.verdict new.configuration) (sym (h ∙ held))
            (subst (λ (x : Verdict). Keeps (Some v) (take new.reached log) x new.configuration) (sym (w ∙ free)) now);
      };
      held = h;
      further = elim (cases_lt (old.judged + 256) (length log)) [
        | inl before ↦ inr (omega (arith, most, j))
        | inr reached ↦ inl (subst (λ (x : Verdict). is_final x new.judged (length log) ≡ true) (sym (w ∙ free)) (final_at (length log) new.judged (omega (arith, most, j))))
      ];
      most = omega (arith, j, most);
      told = told ∙ told_permitted all end (length log) p.within is so ∙ ap (λ (x : Verdict). verdict_of x end (length log)) (sym (w ∙ free)) ∙ ap (λ i. verdict_of new.verdict i (length log)) (sym j);
    }

-- a turn that ran out of memory: its events lead on, and no more are judged
pub stopped_short : (log events : List Event) (old new : Judging) (v : Version) (end n : ℕ) (halt : Halt) → IsPart log events old.reached end → end ≤ old.judged + 256 → IsKept log old → old.held ≡ Some v → old.verdict ≡ Permitted → RunsFrom v events old.configuration new.configuration n halt → new.held ≡ old.held → new.judged ≡ old.judged → new.reached ≡ old.reached + n → new.verdict ≡ old.verdict → IsKept log new
stopped_short log events old new v end n halt p most k held free runs h j r w =
    let now = subst (λ i. Keeps (Some v) (take i log) Permitted new.configuration) (sym r) (led log events old v end n new.configuration halt p k held free runs) in
    let within = led_within log events old v end n new.configuration halt p k held free runs in
    kept_further log old new v k held free h j w (omega (arith, j, r, k.behind)) (omega (arith, r, within, p.within)) (omega (arith, j, r, within, most)) now

pub further_refused : (log events : List Event) (old new : Judging) (v : Version) (end n : ℕ) (e : Event) (answer : Told) → IsPart log events old.reached end → end ≤ old.judged + 256 → IsKept log old → old.held ≡ Some v → old.verdict ≡ Permitted → RunsFrom v events old.configuration new.configuration n Refused → e ≡ get_or log (old.reached + n) e → IsRefusal v new.configuration (old.reached + n + 1) e new.verdict → new.held ≡ old.held → new.judged ≡ old.reached + n + 1 → new.reached ≡ old.reached + n + 1 → answer ≡ Judged new.verdict → IsFurther log old new answer
further_refused log events old new v end n e answer p most k held free runs at refusal h j r told =
    let before = kept_open log old v k held free in
    let long = part_length log events old.reached end p in
    let m = old.reached + n in
    let now = led log events old v end n new.configuration Refused p k held free runs in
    let there : take old.reached log ++ take n events ≡ take m log = part_take log events old.reached end n p runs.within in
    let in_log : m < length log = omega (arith, runs.halts.0, long, p.within) in
    let in_events : get_or events n e ≡ get_or log m e = ap (λ (x : List Event). get_or x n e) p.part ∙ get_or-take (end - old.reached) (drop old.reached log) n e (omega (arith, runs.halts.0, long)) ∙ get_or-drop old.reached log n e in
    let never = subst (λ (x : List Event). MayFollow (meaning_of v) x e → ⊥) there (runs.halts.1 (take old.reached log) before.0 e (slice_get-get_or events n e runs.halts.0 ∙ ap Some (in_events ∙ sym at))) in
    let more : take m log ++ e ∷ [] ≡ take new.reached log = ap (λ x. take m log ++ x ∷ []) at ∙ sym (take_more log m e in_log) ∙ ap (λ i. take i log) (sym r) in
    let verdict = refusal (take m log) now.0 now.1 (ap (λ i. i + 1) (sym (length-take-le m log (omega (arith, in_log))))) never in
    let final = refusal_final v (take m log) e new.verdict new.configuration new.judged (length log) verdict never in
    record {
      kept = record {
        within = omega (arith, r, in_log);
        behind = omega (arith, j, r);
        hint = omega (arith, j, r);
        together = inr (j ∙ sym r);
        keeps =
            subst (λ (x : Option Version). Keeps x (take new.reached log) new.verdict new.configuration) (sym (h ∙ held))
            (subst (λ (x : List Event). Keeps (Some v) x new.verdict new.configuration) more verdict);
      };
      held = h;
      further = inl final;
      most = omega (arith, j, runs.halts.0, long, p.from, most);
      told = told ∙ sym (ap (λ b. if b then Judged new.verdict else Stale) final);
    }
