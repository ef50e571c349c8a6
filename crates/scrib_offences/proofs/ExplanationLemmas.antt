-- The explanation of a refused event, and that of a record's offence.
use Rattle.std.proofs.Common.{◌≡◌, ℕ, true, false, List, [], ◌∷◌, ◌++◌, Option, Some, None, Result, Ok, Err, IfOk, if◌then◌else◌, length, take, arith, refl, sym, ap, subst, ◌∙◌}
use Rattle.std.specs.Option.{is_some}
use Rattle.std.proofs.Math.Seq.{take-append_seam}
use Rattle.std.proofs.lemmas.Bool.{true≢false}
use Rattle.scrib_types.specs.declared.event.Event.{Event}
use Rattle.scrib_types.specs.Agreement.{Agreement}
use Rattle.scrib_types.specs.Permitted.{IsPermitted}
use Rattle.scrib_types.specs.Logs.{subject_of}
use Rattle.scrib_record.specs.declared.configuration.Configuration.{Configuration}
use Rattle.scrib_record.specs.declared.version.Version.{Version}
use Rattle.scrib_record.specs.Places.{place_in}
use Rattle.scrib_record.specs.RefusedEvents.{IsRefused}
use Rattle.scrib_record.specs.Stale.{Recorded}
use Rattle.scrib_record.specs.Versions.{meaning_of}
use Rattle.scrib_record.proofs.RolePlaces.{is_declared, not_declared}
use Rattle.scrib_global.specs.declared.next.RoleNext.{RoleNext}
use Rattle.scrib_reasons.specs.declared.reason.Reason.{Reason}
use Rattle.scrib_reasons.specs.declared.reason.Reason.TheVariants.{NotDeclared}
use Rattle.scrib_reasons.specs.Reasons.{names_declared, IsBecause, MayNotFollow}
use Rattle.scrib_offences.specs.declared.explained_offence.Situation.{Situation}
use Rattle.scrib_offences.specs.declared.explained_offence.Situation.TheVariants.{Undeclared, Next}
use Rattle.scrib_offences.specs.ExplainedOffences.{other_role, undeclared_role, IsSituation, lacks, might, IsExplainedRecord}
use Rattle.scrib_offences.specs.Refusals.{IsRefusedAfter, IsExplanation}
use Rattle.scrib_offences.specs.Participants.{IsNext}
use Rattle.scrib_offences.proofs.RefusalLemmas.{is_there, names_both, no_subject, no_other}

-- a role that is not declared
chosen_subject : (roles : List (List ℕ)) (e : Event) → place_in roles (subject_of e) ≡ None → undeclared_role roles e ≡ subject_of e
chosen_subject roles e n = ap (λ b. if b then other_role e else subject_of e) (not_declared roles (subject_of e) n)

chosen_other : (roles : List (List ℕ)) (e : Event) (i : ℕ) → place_in roles (subject_of e) ≡ Some i → undeclared_role roles e ≡ other_role e
chosen_other roles e i s = ap (λ b. if b then other_role e else subject_of e) (is_declared roles (subject_of e) i s)

-- the place of a role, by a test
pub none_placed : (o : Option ℕ) → is_some o ≡ false → o ≡ None
none_placed None e = refl
none_placed (Some i) e = absurd (true≢false e)

pub both_placed : (roles : List (List ℕ)) (e : Event) (i : ℕ) (o : Option ℕ) → place_in roles (subject_of e) ≡ Some i → o ≡ place_in roles (other_role e) → is_some o ≡ true → names_declared roles e ≡ true
both_placed roles e i o s is some =
    let j = is_there o some in
    names_both roles e (is_declared roles (subject_of e) i s) (is_declared roles (other_role e) j.0 (sym is ∙ j.1))

-- what was found of an event that names this role
abbrev pub NamesNobody : {E : Type 0} → Result (Reason × Situation) E → List ℕ → Type 0
NamesNobody r role = IfOk r (λ found. (found.0 ≡ NotDeclared) × (found.1 ≡ Undeclared role))

abbrev pub Explains : {E : Type 0} → Version → Configuration → Event → Result (Reason × Situation) E → Type 0
Explains v c e r =
    IfOk r (λ found. (log : List Event) → IsRefusedAfter v c e log → IsExplanation (meaning_of v) log e found.0 found.1)

lacking : {E : Type 0} (v : Version) (c : Configuration) (e : Event) (role : List ℕ) (r : Result (Reason × Situation) E) → NamesNobody r role → undeclared_role (meaning_of v).roles e ≡ role → ((log : List Event) → IsRefusedAfter v c e log → MayNotFollow (meaning_of v) log e NotDeclared) → Explains v c e r
lacking v c e role (Err f) h same never = tt
lacking v c e role (Ok found) h same never = λ log x.
    let a = meaning_of v in
    record {
      because = subst (MayNotFollow a log e) (sym h.0) (never log x);
      situation =
          subst (IsSituation a log e found.0) (sym (h.1 ∙ ap (λ (s : List ℕ). Undeclared s) (sym same))) (lacks h.0);
    }

pub lacks_subject : {E : Type 0} (v : Version) (c : Configuration) (e : Event) (role : List ℕ) (r : Result (Reason × Situation) E) → NamesNobody r role → role ≡ subject_of e → place_in (meaning_of v).roles role ≡ None → Explains v c e r
lacks_subject v c e role r h is n =
    let roles = (meaning_of v).roles in
    let none : place_in roles (subject_of e) ≡ None = subst (λ s. place_in roles s ≡ None) is n in
    lacking v c e role r h (chosen_subject roles e none ∙ sym is) (λ log x. no_subject v c e log none x)

pub lacks_other : {E : Type 0} (v : Version) (c : Configuration) (e : Event) (role : List ℕ) (i : ℕ) (r : Result (Reason × Situation) E) → NamesNobody r role → role ≡ other_role e → place_in (meaning_of v).roles (subject_of e) ≡ Some i → place_in (meaning_of v).roles role ≡ None → Explains v c e r
lacks_other v c e role i r h is s n =
    let roles = (meaning_of v).roles in
    let none : place_in roles (other_role e) ≡ None = subst (λ z. place_in roles z ≡ None) is n in
    lacking v c e role r h (chosen_other roles e i s ∙ sym is) (λ log x. no_other v c e log none x)

-- declared roles
pub explains : (a : Agreement) (log : List Event) (e : Event) (r : Reason) (next : RoleNext) → names_declared a.roles e ≡ true → MayNotFollow a log e r → IsNext a log (subject_of e) next → IsExplanation a log e r (Next next)
explains a log e r next d m n = record {
  because = m;
  situation = might next (λ same. true≢false (sym d ∙ subst (IsBecause a log e) same m.because)) n.described n.sorted;
}

-- the events before the offence of a record
pub refused_after : (r : Recorded) (v : Version) (c : Configuration) (place : ℕ) (e : Event) → (x : IsRefused r v c place e) → IsRefusedAfter v c e x.offence.before
refused_after r v c place e x =
    let a = meaning_of v in
    let o = x.offence in
    let front : take (length o.before) r.log ≡ o.before = subst (λ l. take (length o.before) l ≡ o.before) (sym o.here) (take-append_seam o.before (o.event ∷ o.after)) in
    record {
      leads = x.leads;
      permitted = subst (IsPermitted a) front (o.least (length o.before) (omega (arith, o.counted)));
      refused = λ p. o.offends (subst (λ z. IsPermitted a (o.before ++ z ∷ [])) x.event p);
    }

pub explained : (r : Recorded) (v : Version) (c : Configuration) (place : ℕ) (e f : Event) (reason : Reason) (s : Situation) → IsRefused r v c place e → ((log : List Event) → IsRefusedAfter v c e log → IsExplanation (meaning_of v) log e reason s) → f ≡ e → IsExplainedRecord r (record { place = place; event = f; reason = reason; situation = s })
explained r v c place e f reason s x h copy =
    let a = meaning_of v in
    let o = x.offence in
    let k = subst (λ z. IsExplanation a o.before z reason s) (sym copy) (h o.before (refused_after r v c place e x)) in
    record {
      version = v;
      held = x.held;
      place = place;
      role = x.role;
      allowed = x.allowed;
      verdict = x.verdict;
      explained = record {
        before = o.before;
        after = o.after;
        here = subst (λ z. r.log ≡ o.before ++ z ∷ o.after) (sym (copy ∙ x.event)) o.here;
        place_is = refl;
        counted = o.counted;
        because = k.because;
        situation = k.situation;
      };
    }
