use Rattle.std.proofs.Common.{sym, ap, ◌∙◌}
use Rattle.scrib_static_checks.specs.Names.{role_names}
use Rattle.scrib_types.specs.WellFormed.{has_role}
use Rattle.scrib_static_checks.specs.Statements.{are_roles, sends_keeps}
use Rattle.scrib_static_checks.specs.Faults.{message}
use Rattle.scrib_static_checks.proofs.Checks.{no_sender, no_receiver, all_roles}
use Rattle.scrib_static_checks.proofs.statements.check_message.Goals as goal

pub returns-then-not-has_role : goal.returns-then-not-has_role
returns-then-not-has_role c =
    let none = sym (c.has_role.ensures ∙ ap (λ rs. has_role c.args.from.now (role_names rs)) c.as_slice-roles.ensures) ∙ c.if-not-has_role.true in
    rw c.broken.ensures (λ root. message c.requires.1 (no_sender c.args.from.now c.args.to.now _ none))

pub returns-then-not-are_roles : goal.returns-then-not-are_roles
returns-then-not-are_roles c =
    let some = sym (c.has_role.ensures ∙ ap (λ rs. has_role c.args.from.now (role_names rs)) c.as_slice-roles.ensures) ∙ c.if-not-has_role.false in
    let none = sym (c.are_roles.ensures ∙ ap (λ rs. are_roles c.args.to.now (role_names rs)) c.as_slice-roles.ensures) ∙ c.if-not-are_roles.true in
    rw c.broken-then-not-are_roles.ensures (λ root. message c.requires.1 (no_receiver c.args.from.now c.args.to.now _ some none))

pub returns : goal.returns
returns c =
    let some = sym (c.has_role.ensures ∙ ap (λ rs. has_role c.args.from.now (role_names rs)) c.as_slice-roles.ensures) ∙ c.if-not-has_role.false in
    let all = sym (c.are_roles.ensures ∙ ap (λ rs. are_roles c.args.to.now (role_names rs)) c.as_slice-roles.ensures) ∙ c.if-not-are_roles.false in
    λ recs m. sends_keeps (all_roles c.args.from.now c.args.to.now _ some all) (sym c.is_among.ensures ∙ c.if-is_among.false)
