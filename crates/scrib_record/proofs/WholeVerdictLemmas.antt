-- The verdict on a whole log, and whether the log is complete.
use Rattle.std.proofs.Common.{◌≡◌, ◌↔◌, Bool, true, false, IsTrue, ℕ, ◌+◌, ◌<◌, List, [], ◌∷◌, ◌++◌, Option, Some, None, length, take, get_or, refl, sym, ap, subst, ◌∙◌, arith}
use Rattle.std.specs.Option.{option_map}
use Rattle.std.proofs.lemmas.Bool.{and_parts, true≢false}
use Rattle.std.proofs.lemmas.Bool.Decides.{nat_tests}
use Rattle.std.proofs.lemmas.List.{take_all, take_more, length-take-le}
use Rattle.std.proofs.lemmas.Option.{slice_get-get_or}
use Rattle.scrib_types.specs.declared.event.Event.{Event}
use Rattle.scrib_types.specs.declared.event.Verdict.{Verdict}
use Rattle.scrib_types.specs.declared.event.Verdict.TheVariants.{Permitted, Offence, Withdrawn}
use Rattle.scrib_types.specs.Agreement.{Agreement}
use Rattle.scrib_types.specs.Judgement.{Judges}
use Rattle.scrib_types.specs.Permitted.{IsPermitted}
use Rattle.scrib_record.specs.declared.configuration.Configuration.{Configuration}
use Rattle.scrib_record.specs.declared.judging.Halt.TheVariants.{AtEnd, Refused}
use Rattle.scrib_record.specs.declared.judging.Judging.{Judging}
use Rattle.scrib_record.specs.declared.version.Version.{Version}
use Rattle.scrib_record.specs.declared.whole_verdict.WholeVerdict.{WholeVerdict}
use Rattle.scrib_types.specs.Complete.{IsComplete}
use Rattle.scrib_record.specs.CompleteRecords.{IsCompleteUnder, IsCompleteWith, IsWholeVerdict}
use Rattle.scrib_record.specs.Configurations.{LeadsTo}
use Rattle.scrib_record.specs.Following.{MayFollow}
use Rattle.scrib_record.specs.Judgings.{IsKept, Keeps, RunsFrom, IsRefusal}
use Rattle.scrib_record.specs.Stale.{is_present, is_final}
use Rattle.scrib_record.specs.Versions.{meaning_of}
use Rattle.scrib_record.proofs.JudgingLemmas.{refusal_final}
use Rattle.scrib_record.proofs.ResultLemmas.{is_fresh}
use Rattle.scrib_record.proofs.Stamps.{present_means}
use Rattle.scrib_record.proofs.VerdictLemmas.{throughout_all, throughout_none, keeps_judges, final_judges, fresh_judges, kept_whole, le_of}

-- ---- a judged log

final_here : (judged events : ℕ) → judged ≡ events → is_final Permitted judged events ≡ true
final_here judged events e = grind (arith, nat_tests)

-- what is kept of a log of which all events are judged and permitted
pub whole_kept : (log : List Event) (j : Judging) (v : Version) → IsKept log j → j.held ≡ Some v → j.verdict ≡ Permitted → j.judged ≡ length log → LeadsTo (meaning_of v) v.machines log j.configuration × IsPermitted (meaning_of v) log
whole_kept log j v k held free all =
    let final : is_final j.verdict j.judged (length log) ≡ true = subst (λ (x : Verdict). is_final x j.judged (length log) ≡ true) (sym free) (final_here j.judged (length log) all) in
    let w = kept_whole log j v k held free final in
    (w.0, throughout_all (meaning_of v) log w.1)

pub complete_with : (held : Option Version) (v : Version) (log : List Event) (w : Verdict) (judged : ℕ) (b : Bool) → held ≡ Some v → w ≡ Permitted → judged ≡ length log → IsTrue b ↔ IsComplete (meaning_of v) log → IsTrue b ↔ IsCompleteWith held log w judged
complete_with held v log w judged b h p all is =
    subst (λ (x : Option Version). IsTrue b ↔ IsCompleteWith x log w judged) (sym h)
    (subst (λ (x : Verdict). IsTrue b ↔ IsCompleteWith (Some v) log x judged) (sym p) (λ t. (all, is.0 t), λ u. is.1 u.1))

-- a complete log has a version, and is permitted
complete_permits : (o : Option Agreement) (log : List Event) (v : Verdict) → IsCompleteUnder o log v → v ≡ Permitted
complete_permits None log Permitted h = absurd h
complete_permits None log (Offence place role allowed) h = absurd h
complete_permits None log Withdrawn h = absurd h
complete_permits (Some a) log Permitted h = refl
complete_permits (Some a) log (Offence place role allowed) h = absurd h
complete_permits (Some a) log Withdrawn h = absurd h

complete_nowhere : (log : List Event) (v : Verdict) → IsCompleteUnder None log v → ⊥
complete_nowhere log Permitted h = h
complete_nowhere log (Offence place role allowed) h = h
complete_nowhere log Withdrawn h = h

-- a record that is not complete
pub nothing_held : (held : Option Version) (log : List Event) (v : Verdict) (judged : ℕ) → held ≡ None → IsTrue false ↔ IsCompleteWith held log v judged
nothing_held held log v judged none = (
  λ f. absurd (true≢false (sym f)),
  λ h. absurd (complete_nowhere log v (subst (λ (x : Option Version). IsCompleteUnder (option_map meaning_of x) log v) none h.1)),
)

pub not_all_judged : (held : Option Version) (log : List Event) (v : Verdict) (judged : ℕ) → (judged ≡ length log → ⊥) → IsTrue false ↔ IsCompleteWith held log v judged
not_all_judged held log v judged differ = (λ f. absurd (true≢false (sym f)), λ h. absurd (differ h.0))

pub not_permitted : (held : Option Version) (log : List Event) (v : Verdict) (judged : ℕ) → (v ≡ Permitted → ⊥) → IsTrue false ↔ IsCompleteWith held log v judged
not_permitted held log v judged other = (
  λ f. absurd (true≢false (sym f)),
  λ h. absurd (other (complete_permits (option_map meaning_of held) log v h.1)),
)

-- ---- a log that is judged from its first event

-- the start, for another name of its version
pub starts_as : (v w : Version) (c : Configuration) → w ≡ v → LeadsTo (meaning_of v) v.machines [] c → LeadsTo (meaning_of w) w.machines [] c
starts_as v w c e st = subst (λ (x : Version). LeadsTo (meaning_of x) x.machines [] c) (sym e) st

pub permits_as : (v w : Version) → w ≡ v → IsPermitted (meaning_of v) [] → IsPermitted (meaning_of w) []
permits_as v w e p = subst (λ (x : Version). IsPermitted (meaning_of x) []) (sym e) p

-- all events may follow one another
pub led_to_end : (w : Version) (log : List Event) (c d : Configuration) (n : ℕ) → LeadsTo (meaning_of w) w.machines [] c → IsPermitted (meaning_of w) [] → RunsFrom w log c d n AtEnd → LeadsTo (meaning_of w) w.machines log d × IsPermitted (meaning_of w) log
led_to_end w log c d n st p runs =
    let r = runs.runs [] st in
    let all : take n log ≡ log = take_all n log (omega (arith, runs.halts)) in
    let permitted : IsPermitted (meaning_of w) (take n log) = throughout_all (meaning_of w) (take n log) (r.permitted (throughout_none (meaning_of w) p)) in
    (subst (λ (x : List Event). LeadsTo (meaning_of w) w.machines x d) all r.led_to, subst (IsPermitted (meaning_of w)) all permitted)

pub whole_permitted : (v w : Version) (log : List Event) (c d : Configuration) (n : ℕ) (b : Bool) → w ≡ v → LeadsTo (meaning_of v) v.machines [] c → IsPermitted (meaning_of v) [] → RunsFrom w log c d n AtEnd
    → ((xs : List Event) → LeadsTo (meaning_of w) w.machines xs d → IsPermitted (meaning_of w) xs → IsTrue b ↔ IsComplete (meaning_of w) xs) → IsWholeVerdict (Some v) log (record { verdict = Permitted; complete = b })
whole_permitted v w log c d n b e st p runs is =
    let all = led_to_end w log c d n (starts_as v w c e st) (permits_as v w e p) runs in
    subst (λ (x : Version). IsWholeVerdict (Some x) log (record { verdict = Permitted; complete = b })) e (record { judges = all.1; complete = is log all.0 all.1 })

-- a refused event: the verdict is an offence
offends : (w : Version) (log : List Event) (e : Event) (verdict : Verdict) (c : Configuration) → Keeps (Some w) (log ++ e ∷ []) verdict c → (MayFollow (meaning_of w) log e → ⊥) → verdict ≡ Permitted → ⊥
offends w log e Permitted c k never is = true≢false (sym (refusal_final w log e Permitted c 0 1 k never))
offends w log e (Offence place role allowed) c k never is = cc
offends w log e Withdrawn c k never is = cc

pub whole_offence : (v w : Version) (log : List Event) (c d : Configuration) (n : ℕ) (e : Event) (verdict : Verdict) → w ≡ v → LeadsTo (meaning_of v) v.machines [] c → IsPermitted (meaning_of v) [] → RunsFrom w log c d n Refused → e ≡ get_or log n e → IsRefusal w d (n + 1) e verdict
    → IsWholeVerdict (Some v) log (record { verdict = verdict; complete = false })
whole_offence v w log c d n e verdict same st p runs at refusal =
    let a = meaning_of w in
    let start = starts_as v w c same st in
    let r = runs.runs [] start in
    let before = r.permitted (throughout_none a (permits_as v w same p)) in
    let in_log : n < length log = runs.halts.0 in
    let never = runs.halts.1 [] start e (slice_get-get_or log n e in_log ∙ ap (λ (x : Event). Some x) (sym at)) in
    let kept = refusal (take n log) r.led_to before (ap (λ (k : ℕ). k + 1) (sym (length-take-le n log (omega (arith, in_log))))) never in
    let more : take n log ++ e ∷ [] ≡ take (n + 1) log = ap (λ (x : Event). take n log ++ x ∷ []) at ∙ sym (take_more log n e in_log) in
    let judges = subst (λ (x : List Event). Judges (Some a) x verdict) more (keeps_judges (Some w) (take n log ++ e ∷ []) verdict d kept) in
    let final = refusal_final w (take n log) e verdict d (n + 1) (length log) kept never in
    let other = offends w (take n log) e verdict d kept never in
    subst (λ (x : Version). IsWholeVerdict (Some x) log (record { verdict = verdict; complete = false })) same
    (record {
      judges = final_judges (Some a) log (n + 1) verdict final judges;
      complete = (λ f. absurd (true≢false (sym f)), λ h. absurd (other (complete_permits (Some a) log verdict h)));
    })

-- ---- a record

-- under a version of the same meaning
pub whole_alike : (o p : Option Version) (log : List Event) (r : WholeVerdict) → option_map meaning_of o ≡ option_map meaning_of p → IsWholeVerdict o log r → IsWholeVerdict p log r
whole_alike o p log r e h = record {
  judges = subst (λ (x : Option Agreement). Judges x log r.verdict) e h.judges;
  complete = subst (λ (x : Option Agreement). IsTrue r.complete ↔ IsCompleteUnder x log r.verdict) e h.complete;
}

pub whole_withdrawn : (o : Option Version) (log : List Event) → o ≡ None → IsWholeVerdict o log (record { verdict = Withdrawn; complete = false })
whole_withdrawn o log none =
    subst (λ (x : Option Version). IsWholeVerdict x log (record { verdict = Withdrawn; complete = false })) (sym none)
    (record { judges = tt; complete = (λ f. absurd (true≢false (sym f)), λ h. absurd h) })

-- the verdict of a record that is not stale
pub whole_fresh : (present : Option Version) (log : List Event) (j : Judging) (v : Verdict) (b : Bool) → IsKept log j → is_fresh present log j ≡ true → v ≡ j.verdict → IsTrue b ↔ IsCompleteWith j.held log j.verdict j.judged → IsWholeVerdict present log (record { verdict = v; complete = b })
whole_fresh present log j v b k fresh e is =
    let both = and_parts (is_present present j.held) (is_final j.verdict j.judged (length log)) fresh in
    let means = present_means present j.held both.0 in
    let all : j.verdict ≡ Permitted → j.judged ≡ length log = λ free.
    let final : is_final Permitted j.judged (length log) ≡ true = subst (λ (x : Verdict). is_final x j.judged (length log) ≡ true) free both.1 in
    let le = le_of (length log) j.judged final in
    omega (arith, le, k.behind, k.within) in
    let held : Option Agreement = option_map meaning_of j.held in
    let shown : IsWholeVerdict present log (record { verdict = j.verdict; complete = b }) = record {
      judges = fresh_judges present log j k both.0 both.1;
      complete = subst (λ (x : Option Agreement). IsTrue b ↔ IsCompleteUnder x log j.verdict) (sym means) (λ t. (is.0 t).1, λ h. is.1 (all (complete_permits held log j.verdict h), h));
    } in
    subst (λ (x : Verdict). IsWholeVerdict present log (record { verdict = x; complete = b })) (sym e) shown
