-- What the call finds, test by test.
use Rattle.std.proofs.Common.{◌≡◌, true, false, Bool, List, Option, Some, None, Result, Ok, Err, IfOk, if◌then◌else◌, refl, sym, ◌∙◌}
use Rattle.scrib_types.specs.declared.event.Event.{Event}
use Rattle.scrib_types.specs.Trees.{LocalTree}
use Rattle.scrib_types.specs.WellFormed.{is_protocol}
use Rattle.scrib_types.specs.Agreement.{Agreement}
use Rattle.scrib_types.specs.Permitted.{IsPermitted}
use Rattle.scrib_types.specs.Logs.{subject_of, is_action, has_joined}
use Rattle.scrib_global.specs.Next.{IsTypeAfter}
use Rattle.scrib_reasons.specs.declared.reason.Reason.{Reason}
use Rattle.scrib_reasons.specs.declared.reason.Reason.TheVariants.{NotDeclared, JoinedTwice, NotJoined}
use Rattle.scrib_reasons.specs.Reasons.{names_declared, IsReady, MayFollow, MayNotFollow, FindsReason}
use Rattle.scrib_reasons.specs.Tests.{reason_by_type}
use Rattle.scrib_reasons.proofs.ReasonLemmas.{reason_at, after_is, after_undeclared, finds, some_left}

pub find_undeclared : (a : Agreement) → is_protocol a.roles a.global ≡ true → (log : List Event) (e : Event) → names_declared a.roles e ≡ false → IsPermitted a log → MayNotFollow a log e NotDeclared
find_undeclared a v log e d pm =
    let y = some_left a v log pm e in finds a log e y.0 y.1 (Some NotDeclared) (after_undeclared a log e y.0 d)

join_at : (j : Bool) (later : Option Reason) → reason_at true false j later ≡ (if j then Some JoinedTwice else None)
join_at true later = refl
join_at false later = refl

pub find_join : (a : Agreement) → is_protocol a.roles a.global ≡ true → (log : List Event) (e : Event) (found : Option Reason) → names_declared a.roles e ≡ true → is_action e ≡ false → found ≡ (if has_joined (subject_of e) log then Some JoinedTwice else None) → IsPermitted a log → FindsReason a log e found
find_join a v log e found d s f pm =
    let y = some_left a v log pm e in
    let j = has_joined (subject_of e) log in
    finds a log e y.0 y.1 found (after_is a log e y.0 true false j d s refl ∙ join_at j (reason_by_type y.0 log e) ∙ sym f)

pub find_absent : (a : Agreement) → is_protocol a.roles a.global ≡ true → (log : List Event) (e : Event) → names_declared a.roles e ≡ true → is_action e ≡ true → has_joined (subject_of e) log ≡ false → IsPermitted a log → MayNotFollow a log e NotJoined
find_absent a v log e d s j pm =
    let y = some_left a v log pm e in finds a log e y.0 y.1 (Some NotJoined) (after_is a log e y.0 true true false d s j)

pub find_ready : {E : Type 0} (a : Agreement) → is_protocol a.roles a.global ≡ true → (log : List Event) (e : Event) (l : LocalTree) → IsReady a log e l → (r : Result (Option Reason) E) → IfOk r (λ found. found ≡ reason_by_type l log e) → IfOk r (λ found. IsPermitted a log → FindsReason a log e found)
find_ready a v log e l x (Err y) h = tt
find_ready a v log e l x (Ok found) h = λ pm.
    finds a log e l (record { valid = v; permitted = pm; after = λ d. x.after }) found
    (after_is a log e l true true true x.declared x.acts x.joined ∙ sym h)

pub find_untyped : (a : Agreement) → is_protocol a.roles a.global ≡ true → (log : List Event) (e : Event) → names_declared a.roles e ≡ true → ((l : LocalTree) → IsTypeAfter a.global log (subject_of e) l → ⊥) → IsPermitted a log → MayFollow a log e
find_untyped a v log e d n pm = let y = some_left a v log pm e in absurd (n y.0 (y.1.after d))
