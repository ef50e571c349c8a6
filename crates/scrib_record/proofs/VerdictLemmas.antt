-- What a record keeps: the verdict on the judged events, and when that is the verdict on the whole log.
use Rattle.std.proofs.Common.{◌≡◌, true, ℕ, suc, ◌+◌, ◌-◌, ◌<◌, ◌≤◌, nat_le, List, [], ◌∷◌, ◌++◌, Option, Some, None, length, take, drop, get_or, slice_get, refl, sym, ap, subst, ◌∙◌, append_assoc, length-append, inl, inr, arith}
use Rattle.std.specs.Option.{option_map}
use Rattle.std.proofs.lemmas.Bool.{cases_lt}
use Rattle.std.proofs.lemmas.Bool.Decides.{nat_tests}
use Rattle.std.proofs.lemmas.List.{append-nil, take_all, take-append-le, take-append-drop, take-take, take_more, length-take-le}
use Rattle.std.proofs.lemmas.Option.{get_or_from_slice_get, slice_get_within}
use Rattle.scrib_types.specs.declared.event.Action.{Action}
use Rattle.scrib_types.specs.declared.event.Event.{Event}
use Rattle.scrib_types.specs.declared.event.Verdict.{Verdict}
use Rattle.scrib_types.specs.declared.event.Verdict.TheVariants.{Permitted, Offence, Withdrawn}
use Rattle.scrib_types.specs.Agreement.{Agreement}
use Rattle.scrib_types.specs.Judgement.{AreAllowed, IsOffence, Judges}
use Rattle.scrib_types.specs.Logs.{subject_of}
use Rattle.scrib_types.specs.Permitted.{IsPermitted}
use Rattle.scrib_record.specs.declared.configuration.Configuration.{Configuration}
use Rattle.scrib_record.specs.declared.judging.Judging.{Judging}
use Rattle.scrib_record.specs.declared.version.Version.{Version}
use Rattle.scrib_record.specs.Configurations.{LeadsTo, IsNext}
use Rattle.scrib_record.specs.Following.{MayFollow}
use Rattle.scrib_record.specs.Judgings.{IsPermittedThroughout, Keeps, IsKept, Runs}
use Rattle.scrib_record.specs.Stale.{is_present, is_final}
use Rattle.scrib_record.specs.Versions.{meaning_of}
use Rattle.scrib_record.proofs.PermittedLogLemmas.{permitted_on, may_follow}
use Rattle.scrib_record.proofs.Stamps.{present_means}

pub throughout_all : (a : Agreement) (log : List Event) → IsPermittedThroughout a log → IsPermitted a log
throughout_all a log p = subst (IsPermitted a) (take_all (length log) log (omega arith)) (p (length log) (omega arith))

pub throughout_more : (a : Agreement) (log : List Event) (e : Event) → IsPermittedThroughout a log → MayFollow a log e → IsPermittedThroughout a (log ++ e ∷ [])
throughout_more a log e p f n le =
    let long = length-append log (e ∷ []) in
    elim (cases_lt (length log) n) [
      | inl more ↦ subst (IsPermitted a) (sym (take_all n (log ++ e ∷ []) (omega (arith, long)))) (permitted_on a log e (throughout_all a log p) f)
      | inr within ↦ subst (IsPermitted a) (sym (take-append-le n log (e ∷ []) within)) (p n within)
    ]

pub throughout_none : (a : Agreement) → IsPermitted a [] → IsPermittedThroughout a []
throughout_none a p n le = let zero_is : 0 ≡ n = omega arith in subst (λ k. IsPermitted a (take k [])) zero_is p

-- the verdict on what is kept
pub keeps_judges : (held : Option Version) (log : List Event) (v : Verdict) (c : Configuration) → Keeps held log v c → Judges (option_map meaning_of held) log v
keeps_judges None log Permitted c k = absurd k
keeps_judges None log (Offence place role allowed) c k = absurd k
keeps_judges None log Withdrawn c k = tt
keeps_judges (Some v) log Permitted c k = throughout_all (meaning_of v) log k.1
keeps_judges (Some v) log (Offence place role allowed) c k = k.0
keeps_judges (Some v) log Withdrawn c k = absurd k

-- an offence is that of each longer log
pub offence_longer : (a : Agreement) (xs ys : List Event) (place : ℕ) (role : List ℕ) (allowed : List Action) → IsOffence a xs place role allowed → IsOffence a (xs ++ ys) place role allowed
offence_longer a xs ys place role allowed o =
    let long : length xs ≡ length o.before + suc (length o.after) = ap length o.here ∙ length-append o.before (o.event ∷ o.after) in
    record {
      before = o.before;
      event = o.event;
      after = o.after ++ ys;
      here = ap (λ zs. zs ++ ys) o.here ∙ append_assoc o.before (o.event ∷ o.after) ys;
      counted = o.counted;
      least = λ n lt. subst (IsPermitted a) (sym (take-append-le n xs ys (omega (arith, o.counted)))) (o.least n lt);
      offends = o.offends;
      by = o.by;
      allows = o.allows;
    }

pub le_of : (n k : ℕ) → nat_le n k ≡ true → n ≤ k
le_of n k h = grind (arith, nat_tests)

-- a final verdict is that on the whole log
pub final_judges : (o : Option Agreement) (log : List Event) (k : ℕ) (v : Verdict) → is_final v k (length log) ≡ true → Judges o (take k log) v → Judges o log v
final_judges None log k Permitted f j = absurd j
final_judges None log k (Offence place role allowed) f j = absurd j
final_judges None log k Withdrawn f j = tt
final_judges (Some a) log k Permitted f j = subst (IsPermitted a) (take_all k log (le_of (length log) k f)) j
final_judges (Some a) log k (Offence place role allowed) f j =
    let P : List Event → Type 0 = λ x. IsOffence a x place role allowed in
    subst P (take-append-drop k log) (offence_longer a (take k log) (drop k log) place role allowed j)
final_judges (Some a) log k Withdrawn f j = absurd j

-- a record that is not stale has the verdict on the whole log under the present version
final_further : (v : Verdict) (j k n : ℕ) → j ≤ k → is_final v j n ≡ true → is_final v k n ≡ true
final_further Permitted j k n le f = grind (arith, nat_tests)
final_further (Offence place role allowed) j k n le f = refl
final_further Withdrawn j k n le f = refl

pub fresh_judges : (present : Option Version) (log : List Event) (j : Judging) → IsKept log j → is_present present j.held ≡ true → is_final j.verdict j.judged (length log) ≡ true → Judges (option_map meaning_of present) log j.verdict
fresh_judges present log j k p f =
    subst (λ o. Judges o log j.verdict) (sym (present_means present j.held p))
    (final_judges (option_map meaning_of j.held) log j.reached j.verdict (final_further j.verdict j.judged j.reached (length log) k.behind f) (keeps_judges j.held (take j.reached log) j.verdict j.configuration k.keeps))

-- the verdict on the judged events
pub kept_judges : (log : List Event) (j : Judging) → IsKept log j → Judges (option_map meaning_of j.held) (take j.judged log) j.verdict
kept_judges log j k = elim k.together [
  | inl free ↦ by_open j.held j.verdict free k.keeps
  | inr same ↦ subst (λ n. Judges (option_map meaning_of j.held) (take n log) j.verdict) (sym same) (keeps_judges j.held (take j.reached log) j.verdict j.configuration k.keeps)
]
  where
    shorter : take j.judged (take j.reached log) ≡ take j.judged log
    shorter = take-take j.judged j.reached log k.behind

    by_open : (held : Option Version) (v : Verdict) → v ≡ Permitted → Keeps held (take j.reached log) v j.configuration → Judges (option_map meaning_of held) (take j.judged log) v
    by_open None Permitted e h = absurd h
    by_open (Some v) Permitted e h = subst (IsPermitted (meaning_of v)) shorter (h.1 j.judged (omega (arith, k.behind, length-take-le j.reached log k.within)))
    by_open held (Offence place role allowed) e h = cc
    by_open held Withdrawn e h = cc

-- a longer log
pub kept_longer : (log : List Event) (ys : List Event) (j : Judging) → IsKept log j → IsKept (log ++ ys) j
kept_longer log ys j k = record {
  within = omega (arith, k.within, length-append log ys);
  behind = k.behind;
  hint = k.hint;
  together = k.together;
  keeps = subst (λ (x : List Event). Keeps j.held x j.verdict j.configuration) (sym (take-append-le j.reached log ys k.within)) k.keeps;
}

-- what is kept while no offence is found
pub kept_open : (log : List Event) (j : Judging) (v : Version) → IsKept log j → j.held ≡ Some v → j.verdict ≡ Permitted → Keeps (Some v) (take j.reached log) Permitted j.configuration
kept_open log j v k h p =
    subst (λ (x : Option Version). Keeps x (take j.reached log) Permitted j.configuration) h (subst (λ (x : Verdict). Keeps j.held (take j.reached log) x j.configuration) p k.keeps)

-- all events of a log that is judged whole were performed
pub reached_all : (log : List Event) (j : Judging) → IsKept log j → j.verdict ≡ Permitted → is_final j.verdict j.judged (length log) ≡ true → j.reached ≡ length log
reached_all log j k p f =
    let whole : is_final Permitted j.judged (length log) ≡ true = subst (λ (x : Verdict). is_final x j.judged (length log) ≡ true) p f in
    omega (arith, le_of (length log) j.judged whole, k.behind, k.within)

pub kept_whole : (log : List Event) (j : Judging) (v : Version) → IsKept log j → j.held ≡ Some v → j.verdict ≡ Permitted → is_final j.verdict j.judged (length log) ≡ true → Keeps (Some v) log Permitted j.configuration
kept_whole log j v k h p f =
    subst (λ (x : List Event). Keeps (Some v) x Permitted j.configuration) (take_all j.reached log (omega (arith, reached_all log j k p f))) (kept_open log j v k h p)

-- one more event
pub keeps_next : (v : Version) (log : List Event) (c d : Configuration) (e : Event) → Keeps (Some v) log Permitted c → IsNext (meaning_of v) v.machines log e d true → Keeps (Some v) (log ++ e ∷ []) Permitted d
keeps_next v log c d e k n = (n.1, throughout_more (meaning_of v) log e k.1 n.0)

pub kept_all : (log : List Event) (j : Judging) → j.judged ≡ length log → j.reached ≡ length log → Keeps j.held log j.verdict j.configuration → IsKept log j
kept_all log j judged reached k = record {
  within = omega (arith, reached);
  behind = omega (arith, judged, reached);
  hint = omega (arith, judged, reached);
  together = inr (omega (arith, judged, reached));
  keeps = subst (λ (x : List Event). Keeps j.held x j.verdict j.configuration) (sym (take_all j.reached log (omega (arith, reached)))) k;
}

-- no event
pub kept_start : (v w : Version) (log : List Event) (c : Configuration) → w ≡ v → LeadsTo (meaning_of v) v.machines [] c → IsPermitted (meaning_of v) [] → IsKept log (record { held = Some w; judged = 0; reached = 0; configuration = c; verdict = Permitted })
kept_start v w log c e st p = record {
  within = omega arith;
  behind = omega arith;
  hint = omega arith;
  together = inr refl;
  keeps = subst (λ (x : Version). Keeps (Some x) [] Permitted c) (sym e) (st, throughout_none (meaning_of v) p);
}

-- events, one after another
pub runs_none : (v : Version) (log events : List Event) (c : Configuration) → LeadsTo (meaning_of v) v.machines log c → Runs v log events c 0
runs_none v log events c st = record {
  led_to = subst (λ (x : List Event). LeadsTo (meaning_of v) v.machines x c) (sym (append-nil log)) st;
  permitted = λ p. subst (IsPermittedThroughout (meaning_of v)) (sym (append-nil log)) p;
}

pub runs_more : (v : Version) (log events : List Event) (c d : Configuration) (i : ℕ) (e : Event) → i < length events → e ≡ get_or events i e → Runs v log events c i → IsNext (meaning_of v) v.machines (log ++ take i events) e d true → Runs v log events d (i + 1)
runs_more v log events c d i e n is r next =
    let more : (log ++ take i events) ++ e ∷ [] ≡ log ++ take (i + 1) events = append_assoc log (take i events) (e ∷ []) ∙ ap (λ x. log ++ x) (ap (λ y. take i events ++ y ∷ []) is ∙ sym (take_more events i e n)) in
    record {
      led_to = subst (λ (x : List Event). LeadsTo (meaning_of v) v.machines x d) more next.1;
      permitted = λ p. subst (IsPermittedThroughout (meaning_of v)) more (throughout_more (meaning_of v) (log ++ take i events) e (r.permitted p) next.0);
    }

pub runs_stop : (v : Version) (log events : List Event) (c d : Configuration) (i : ℕ) → Runs v log events c i → LeadsTo (meaning_of v) v.machines (log ++ take i events) d → Runs v log events d i
runs_stop v log events c d i r st = record { led_to = st; permitted = r.permitted }

pub at_is : (events : List Event) (i : ℕ) (e f : Event) → i < length events → e ≡ get_or events i e → slice_get events i ≡ Some f → e ≡ f
at_is events i e f n is at = is ∙ get_or_from_slice_get events i f e at

pub no_more : (events : List Event) (e : Event) → slice_get events (length events) ≡ Some e → ⊥
no_more events e at = let within = slice_get_within events (length events) e at in absurd (omega arith)

-- an event that may not follow
pub offends_there : (a : Agreement) (log : List Event) (e : Event) (place : ℕ) (role : List ℕ) (allowed : List Action) → IsPermittedThroughout a log → place ≡ length log + 1 → (MayFollow a log e → ⊥) → role ≡ subject_of e → AreAllowed a log role allowed → IsOffence a (log ++ e ∷ []) place role allowed
offends_there a log e place role allowed p at never by allows = record {
  before = log;
  event = e;
  after = [];
  here = refl;
  counted = at;
  least = λ n lt. subst (IsPermitted a) (sym (take-append-le n log (e ∷ []) (omega (arith, at)))) (p n (omega (arith, at)));
  offends = λ h. never (may_follow a log e h);
  by = by;
  allows = allows;
}

-- the events before the place lead to the configuration
pub led_before : (v : Version) (log : List Event) (e : Event) (place : ℕ) (c : Configuration) → place ≡ length log + 1 → LeadsTo (meaning_of v) v.machines log c → LeadsTo (meaning_of v) v.machines (take (place - 1) (log ++ e ∷ [])) c
led_before v log e place c at st =
    subst (λ (x : List Event). LeadsTo (meaning_of v) v.machines x c) (sym (take-append-le (place - 1) log (e ∷ []) (omega (arith, at)) ∙ take_all (place - 1) log (omega (arith, at)))) st
