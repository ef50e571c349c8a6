use Rattle.std.proofs.Common.{◌≡◌, ◌∙◌, ◌++◌, true, false, ℕ, List, None, codes, sym, ap, subst}
use Rattle.std.specs.Fmt.{decimal}
use Rattle.scrib_core.specs.World.{conversation}
use Rattle.scrib_core.specs.Held.{state_of}
use Rattle.scrib_global.specs.declared.next.RoleStatus.{RoleStatus}
use Rattle.scrib_cli.specs.Explanations.{absent, refusal_line}
use Rattle.scrib_cli.specs.NextLines.{NextSteps, refuses, next_lines, complete_line, are_at_rest}
use Rattle.scrib_cli.proofs.ExplanationLemmas.{unknown_viewed, offence_viewed}
use Rattle.scrib_cli.proofs.NextLemmas.{steps_viewed}
use Rattle.scrib_cli.proofs.next_lines.next_steps.Goals as goal

pub returns-in_default-clause-steps : goal.returns-in_default-clause-steps
returns-in_default-clause-steps c =
    let none : conversation (state_of c.args.core.now).world c.args.id ≡ None = c.in_default.ensures in
    subst (λ (t : List ℕ). NextSteps (state_of c.args.core.now).world c.args.id false t) (sym c.in_ok-text.ensures) (refuses (refusal_line (codes "NoConversation")) (absent none))

pub returns-in_default-protocol-clause-steps : goal.returns-in_default-protocol-clause-steps
returns-in_default-protocol-clause-steps c =
    subst (λ (t : List ℕ). NextSteps (state_of c.args.core.now).world c.args.id false t) (sym c.in_ok-text-2.ensures)
    (refuses (refusal_line (codes "UnknownProtocol"))
    (unknown_viewed (state_of c.args.core.now).world c.args.id c.in-Some.protocol c.in-Some.log c.in-Some.ensures c.in_default-protocol.is))

pub returns-in_ok-roles_text-in-Ok-clause-steps : goal.returns-in_ok-roles_text-in-Ok-clause-steps
returns-in_ok-roles_text-in-Ok-clause-steps c =
    let output = λ (found : List RoleStatus). next_lines found ++ complete_line (are_at_rest found) in
    let text : c.in_ok-roles_text-in-Ok.field-0.items ≡ output c.in-Ok.roles.items = c.in_ok-roles_text-in-Ok.ensures ∙ ap output c.as_slice.ensures.value in
    subst (λ (t : List ℕ). NextSteps (state_of c.args.core.now).world c.args.id true t) (sym text)
    (steps_viewed (state_of c.args.core.now).world c.args.id c.in-Some.protocol c.in-Some-protocol.protocol c.in-Some.log c.in-Ok.roles.items c.in-Some.ensures c.in-Some-protocol.is c.in-Ok.ensures)

pub returns-in_ok-not_permitted-in-Err-NotPermitted-clause-steps : goal.returns-in_ok-not_permitted-in-Err-NotPermitted-clause-steps
returns-in_ok-not_permitted-in-Err-NotPermitted-clause-steps c =
    let place = c.in-Err-NotPermitted.place in
    subst (λ (t : List ℕ). NextSteps (state_of c.args.core.now).world c.args.id false t) (sym c.in_ok-not_permitted-in-Err-NotPermitted.ensures)
    (refuses (refusal_line (codes "NotPermitted " ++ decimal place))
    (offence_viewed (state_of c.args.core.now).world c.args.id c.in-Some.protocol c.in-Some-protocol.protocol c.in-Some.log place c.in-Some.ensures c.in-Some-protocol.is (rw c.in-Err-NotPermitted.field-0-is at c.in-Err-NotPermitted.ensures)))
