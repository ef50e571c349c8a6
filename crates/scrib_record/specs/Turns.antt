-- Records under one present version: when they are fresh, and how many turns they need (this project's own).
use Rattle.std.specs.Prelude.{◌≡◌, ◌==◌, ◌&&◌, Bool, true, false, not, ℕ, suc, ◌+◌, ◌*◌, ◌<◌, ◌≤◌, List, [], length, Option, Some, None, refl}
use Rattle.std.proofs.Common.{sym, ap, ◌∙◌, arith, inl, inr}
use Rattle.std.specs.Str.{bytes_eq}
use Rattle.std.proofs.lemmas.Bool.{cases_Bool, true≢false}
use Rattle.std.proofs.lemmas.Bool.Decides.{Decides-eqb, nat_tests}
use Rattle.std.proofs.lemmas.Slice.Eq.{bytes_eq-Decides}
use Rattle.scrib_types.specs.declared.event.Event.{Event}
use Rattle.scrib_types.specs.declared.event.Told.{Told}
use Rattle.scrib_types.specs.declared.event.Verdict.{Verdict}
use Rattle.scrib_types.specs.declared.event.Verdict.TheVariants.{Permitted, Offence, Withdrawn}
use Rattle.scrib_types.specs.Agreement.{Agreement}
use Rattle.scrib_record.specs.declared.version.Version.{Version}
use Rattle.scrib_record.specs.Flat.{flat_form}
use Rattle.scrib_record.specs.Stale.{same_stamp, is_present, is_final, Recorded, is_stale}
use Rattle.scrib_record.specs.Told.{IsNoted, IsTurned, judged_under}
use Rattle.scrib_record.specs.Versions.{meaning_of, number_of}

-- a version has the same stamp as itself
pub stamp_itself : (v : Version) → same_stamp v v ≡ true
stamp_itself v =
    let form = flat_form (meaning_of v) in
    ap (λ b. b && bytes_eq form form) ((Decides-eqb (number_of v) (number_of v)).1 refl)
    ∙ (bytes_eq-Decides form form).1 refl

-- versions of one stamp are present for the same records
pub present_alike : (v w : Version) (held : Option Version) → number_of v ≡ number_of w → meaning_of v ≡ meaning_of w
    → is_present (Some v) held ≡ is_present (Some w) held
present_alike v w None n m = refl
present_alike v w (Some h) n m =
    ap (λ i. (i == number_of h) && bytes_eq (flat_form (meaning_of v)) (flat_form (meaning_of h))) n
    ∙ ap (λ (a : Agreement). (number_of w == number_of h) && bytes_eq (flat_form a) (flat_form (meaning_of h))) m

-- a record of an empty log, judged under the version
abbrev pub new_record : (name : List (List ℕ)) → Version → Recorded
new_record name v = record { name = name; log = []; held = Some v; judged = 0; verdict = Permitted }

-- a new record is not stale under the version with which it was made
abbrev pub StartsFresh : Type 0
StartsFresh = (name : List (List ℕ)) (v : Version) → is_stale (Some v) (new_record name v) ≡ false

pub new_fresh : StartsFresh
new_fresh name v = ap (λ b. not (b && true)) (stamp_itself v)

-- calls of a record under one present version, one after another: notes, and so many turns
pub data Calls : Option Version → ℕ → Recorded → Recorded → Type 0 where
  none : {now : Option Version} {r : Recorded} → Calls now 0 r r
  noted : {now : Option Version} {t : ℕ} {first old new : Recorded} {e : Event} {answer : Told} → Calls now t first old
      → IsNoted now old e new answer → Calls now t first new
  turned : {now : Option Version} {t : ℕ} {first old new : Recorded} {answer : Told} → Calls now t first old
      → IsTurned now old new answer → Calls now (suc t) first new

stale_again : (b c : Bool) → c ≡ b → c ≡ true → b ≡ true
stale_again b c e h = sym e ∙ h

-- the verdict is not final: the log has more events
not_final : (v : Verdict) (judged events : ℕ) → is_final v judged events ≡ false → judged < events
not_final Permitted judged events h = grind (arith, nat_tests)
not_final (Offence place role allowed) judged events h = absurd (true≢false h)
not_final Withdrawn judged events h = absurd (true≢false h)

open_log : (now : Option Version) (r : Recorded) → is_stale now r ≡ true → is_present now r.held ≡ true
    → r.judged < length r.log
open_log now r s p =
    not_final r.verdict r.judged (length r.log)
    (by (is_present now r.held) (is_final r.verdict r.judged (length r.log)) s p)
  where
    by : (p f : Bool) → not (p && f) ≡ true → p ≡ true → f ≡ false
    by true true s p = absurd (true≢false (sym s))
    by true false s p = refl
    by false f s p = absurd (true≢false (sym p))

under_present : (now : Option Version) (r : Recorded) → is_present now r.held ≡ true → judged_under now r ≡ r.judged
under_present now r p = rw p refl

-- a turn that leaves a record stale judged 256 more events
pub turn_judges : (now : Option Version) (old new : Recorded) (answer : Told) → IsTurned now old new answer
    → is_stale now new ≡ true → judged_under now new ≡ judged_under now old + 256
turn_judges now old new answer u s =
    elim u.further [ inl f ↦ absurd (true≢false (sym s ∙ f)) | inr j ↦ under_present now new u.present ∙ j ]

progress : (now : Option Version) {t : ℕ} {first last : Recorded} → Calls now t first last → is_stale now last ≡ true
    → 256 * t ≤ judged_under now last
progress now none s = omega arith
progress now (noted {t} {old = old} {new = new} calls n) s =
    let before : is_stale now old ≡ true = stale_again (is_stale now old) (is_stale now new) n.stale s in
    let kept = n.kept before in
    let same : judged_under now new ≡ judged_under now old = rw (n.held, kept.0) refl in
    omega (arith, progress now calls before, same)
progress now (turned {t} {old = old} {new = new} {answer = answer} calls u) s =
    elim (cases_Bool (is_stale now old)) [
      | inl before ↦ omega (arith, progress now calls before, turn_judges now old new answer u s)
      | inr fresh ↦ absurd (true≢false (sym s ∙ ap (is_stale now) (u.fresh fresh) ∙ fresh))
    ]

-- Enough turns: after some turns a record is not stale, if 256 events for each cover its log at the last of them.
abbrev pub RecordTurnsSuffice : Type 0
RecordTurnsSuffice =
    (now : Option Version) (t : ℕ) (first old new : Recorded) (answer : Told) → Calls now t first old
    → IsTurned now old new answer → length old.log ≤ 256 * (t + 1) → is_stale now new ≡ false

pub enough_turns : RecordTurnsSuffice
enough_turns now t first old new answer calls u enough =
    elim (cases_Bool (is_stale now new)) [
      | inl s ↦
          let far = progress now (turned calls u) s in
          let here = under_present now new u.present in
          absurd (omega (arith, far, here, open_log now new s u.present, ap length u.log, enough))
      | inr fresh ↦ fresh
    ]
