use Rattle.std.proofs.Common.{◌≡◌, true, false, Some, None, IfOk, ap, ◌∙◌, subst}
use Rattle.scrib_types.specs.GlobalView.{global_of}
use Rattle.scrib_types.specs.LocalView.{local_of}
use Rattle.scrib_types.specs.Trees.{LocalTree}
use Rattle.scrib_types.specs.Meaning.{agreement_of}
use Rattle.scrib_types.specs.Logs.{subject_of, is_action, has_joined}
use Rattle.scrib_global.specs.Next.{IsTypeAfter, IsTypeLeft}
use Rattle.scrib_reasons.specs.Reasons.{names_declared}
use Rattle.scrib_reasons.specs.Tests.{reason_by_type}
use Rattle.scrib_reasons.proofs.FindLemmas.{find_undeclared, find_join, find_absent, find_ready, find_untyped}
use Rattle.scrib_reasons.proofs.find.reason_of.Goals as goal

pub returns-then-not-names_declared : goal.returns-then-not-names_declared
returns-then-not-names_declared c =
    let a = agreement_of c.args.protocol.now in
    let d : names_declared a.roles c.args.event.now ≡ false = cc in
    find_undeclared a c.args.protocol.now.valid c.args.log.now c.args.event.now d

pub returns-then-not-is_action : goal.returns-then-not-is_action
returns-then-not-is_action c =
    let a = agreement_of c.args.protocol.now in
    let e = c.args.event.now in
    let d : names_declared a.roles e ≡ true = cc in
    let s : is_action e ≡ false = cc in
    let r : c.subject-role.result.now ≡ subject_of e = c.subject-role.ensures ∙ ap subject_of c.get-event.ensures in
    find_join a c.args.protocol.now.valid c.args.log.now e c.reason_of_join.result d s (rw r at c.reason_of_join.ensures)

pub returns-then-not-has_joined : goal.returns-then-not-has_joined
returns-then-not-has_joined c =
    let a = agreement_of c.args.protocol.now in
    let e = c.args.event.now in
    let d : names_declared a.roles e ≡ true = cc in
    let s : is_action e ≡ true = cc in
    let r : c.subject-role.result.now ≡ subject_of e = c.subject-role.ensures ∙ ap subject_of c.get-event.ensures in
    let j : has_joined (subject_of e) c.args.log.now ≡ false = cc in
    find_absent a c.args.protocol.now.valid c.args.log.now e d s j

pub returns-in-Some : goal.returns-in-Some
returns-in-Some c =
    let a = agreement_of c.args.protocol.now in
    let e = c.args.event.now in
    let log = c.args.log.now in
    let d : names_declared a.roles e ≡ true = cc in
    let s : is_action e ≡ true = cc in
    let r : c.subject-role.result.now ≡ subject_of e = c.subject-role.ensures ∙ ap subject_of c.get-event.ensures in
    let j : has_joined (subject_of e) log ≡ true = cc in
    let typed : IsTypeLeft (global_of c.global.result.now) log c.subject-role.result.now (Some c.in-Some.left) = subst (IsTypeLeft (global_of c.global.result.now) log c.subject-role.result.now) c.in-Some.is c.in_ok-left.ensures in
    let after : IsTypeAfter a.global log (subject_of e) (local_of c.in-Some.left) = rw (c.global.ensures.global, r) at typed in
    let by : IfOk c.reason_by_type.result (λ found. found ≡ reason_by_type (local_of c.in-Some.left) log e) = rw c.get-event.ensures at c.reason_by_type.ensures in
    find_ready a c.args.protocol.now.valid log e (local_of c.in-Some.left) (record { declared = d; acts = s; joined = j; after = after }) c.reason_by_type.result by

pub returns-in-None : goal.returns-in-None
returns-in-None c =
    let a = agreement_of c.args.protocol.now in
    let e = c.args.event.now in
    let log = c.args.log.now in
    let d : names_declared a.roles e ≡ true = cc in
    let r : c.subject-role.result.now ≡ subject_of e = c.subject-role.ensures ∙ ap subject_of c.get-event.ensures in
    let none : IsTypeLeft (global_of c.global.result.now) log c.subject-role.result.now None = subst (IsTypeLeft (global_of c.global.result.now) log c.subject-role.result.now) c.in-None.is c.in_ok-left.ensures in
    let gone : (l : LocalTree) → IsTypeAfter a.global log (subject_of e) l → ⊥ = rw (c.global.ensures.global, r) at none in
    find_untyped a c.args.protocol.now.valid log e d gone
