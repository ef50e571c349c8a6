-- The event of an offence, and what the events before it lead to.
use Rattle.std.proofs.Common.{◌≡◌, ℕ, suc, ◌+◌, ◌-◌, ◌≤◌, List, ◌∷◌, ◌++◌, Option, Some, None, length, take, drop, get_or, slice_get, refl, sym, ap, subst, ◌∙◌, append_assoc, length-append, arith}
use Rattle.std.proofs.lemmas.List.{take_all, take-append-le, take-append-drop, take-take, length-take-le}
use Rattle.std.proofs.lemmas.Option.{get_or_from_slice_get}
use Rattle.std.proofs.Math.Seq.{get_or-append_seam}
use Rattle.scrib_types.specs.declared.event.Action.{Action}
use Rattle.scrib_types.specs.declared.event.Event.{Event}
use Rattle.scrib_types.specs.declared.event.Verdict.{Verdict}
use Rattle.scrib_types.specs.declared.event.Verdict.TheVariants.{Offence}
use Rattle.scrib_types.specs.Agreement.{Agreement}
use Rattle.scrib_types.specs.Judgement.{IsOffence}
use Rattle.scrib_types.specs.Permitted.{IsPermitted}
use Rattle.scrib_record.specs.declared.judging.Judging.{Judging}
use Rattle.scrib_record.specs.declared.version.Version.{Version}
use Rattle.scrib_record.specs.Configurations.{LeadsTo}
use Rattle.scrib_record.specs.Judgings.{Keeps, IsKept}
use Rattle.scrib_record.specs.RefusedEvents.{IsRefused}
use Rattle.scrib_record.specs.Versions.{meaning_of}

-- what is kept of an offence
kept_offence : (log : List Event) (j : Judging) (v : Version) (place : ℕ) (role : List ℕ) (allowed : List Action) → IsKept log j → j.held ≡ Some v → j.verdict ≡ Offence place role allowed
    → Keeps (Some v) (take j.reached log) (Offence place role allowed) j.configuration
kept_offence log j v place role allowed k h o =
    subst (λ (x : Option Version). Keeps x (take j.reached log) (Offence place role allowed) j.configuration) h (subst (λ (x : Verdict). Keeps j.held (take j.reached log) x j.configuration) o k.keeps)

-- the offence of a beginning of the log is that of the log
module _ (a : Agreement) (log : List Event) (k place : ℕ) (role : List ℕ) (allowed : List Action) (o : IsOffence a (take k log) place role allowed) (within : k ≤ length log) where
  long : k ≡ length o.before + suc (length o.after)
  long = sym (length-take-le k log within) ∙ ap length o.here ∙ length-append o.before (o.event ∷ o.after)

  pub in_whole : IsOffence a log place role allowed
  in_whole = record {
    before = o.before;
    event = o.event;
    after = o.after ++ drop k log;
    here = sym (take-append-drop k log) ∙ ap (λ zs. zs ++ drop k log) o.here ∙ append_assoc o.before (o.event ∷ o.after) (drop k log);
    counted = o.counted;
    least = λ n lt. subst (IsPermitted a) (take-take n k log (omega (arith, lt, o.counted, long))) (o.least n lt);
    offends = o.offends;
    by = o.by;
    allows = o.allows;
  }

  pub front_is : take (place - 1) (take k log) ≡ o.before
  front_is =
      ap (take (place - 1)) o.here
      ∙ take-append-le (place - 1) o.before (o.event ∷ o.after) (omega (arith, o.counted))
      ∙ take_all (place - 1) o.before (omega (arith, o.counted))

  pub event_is : (e : Event) → slice_get log (place - 1) ≡ Some e → e ≡ o.event
  unfolding in_whole
  event_is e g =
      let at : place - 1 ≡ length o.before = omega (arith, o.counted) in
      sym (get_or_from_slice_get log (place - 1) e e g)
      ∙ ap (λ i. get_or log i e) at
      ∙ ap (λ (x : List Event). get_or x (length o.before) e) in_whole.here
      ∙ get_or-append_seam o.before o.event in_whole.after e

-- the event at the place of a record's offence is the offending one, and the events before it lead to the configuration
pub refused : (name : List (List ℕ)) (log : List Event) (j : Judging) (v : Version) (place : ℕ) (role : List ℕ) (allowed : List Action) (e : Event) → IsKept log j → j.held ≡ Some v → j.verdict ≡ Offence place role allowed → slice_get log (place - 1) ≡ Some e
    → IsRefused (record { name = name; log = log; held = j.held; judged = j.judged; verdict = j.verdict }) v j.configuration place e
unfolding in_whole kept_offence
refused name log j v place role allowed e k h o g =
    let a = meaning_of v in
    let kept = kept_offence log j v place role allowed k h o in
    record {
      role = role;
      allowed = allowed;
      verdict = o;
      held = h;
      offence = in_whole a log j.reached place role allowed kept.0 k.within;
      event = event_is a log j.reached place role allowed kept.0 k.within e g;
      leads = subst (λ (x : List Event). LeadsTo a v.machines x j.configuration) (front_is a log j.reached place role allowed kept.0 k.within) kept.1;
    }

-- where no version is held, no offence is kept, and its place is in the log
pub held_offence : (log : List Event) (j : Judging) (place : ℕ) (role : List ℕ) (allowed : List Action) → IsKept log j → j.held ≡ None → j.verdict ≡ Offence place role allowed → ⊥
held_offence log j place role allowed k h o =
    subst (λ (x : Option Version). Keeps x (take j.reached log) (Offence place role allowed) j.configuration) h (subst (λ (x : Verdict). Keeps j.held (take j.reached log) x j.configuration) o k.keeps)

pub offence_place : (log : List Event) (j : Judging) (place : ℕ) (role : List ℕ) (allowed : List Action) → IsKept log j → j.verdict ≡ Offence place role allowed → (1 ≤ place) × (place ≤ length log)
offence_place log j place role allowed k o = by j.held refl
  where
    by : (held : Option Version) → j.held ≡ held → (1 ≤ place) × (place ≤ length log)
    by None h = absurd (held_offence log j place role allowed k h o)
    by (Some v) h =
        let kept = (kept_offence log j v place role allowed k h o).0 in
        let n : j.reached ≡ length kept.before + suc (length kept.after) = long (meaning_of v) log j.reached place role allowed kept k.within in
        (omega (arith, kept.counted), omega (arith, kept.counted, n, k.within))
