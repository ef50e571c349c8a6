use Rattle.std.proofs.Common.{length, sym, ap, ◌∙◌}
use Rattle.scrib_static_checks.specs.Names.{role_names}
use Rattle.scrib_static_checks.specs.Statements.{are_roles, calls_keeps}
use Rattle.scrib_static_checks.specs.Faults.{call}
use Rattle.scrib_static_checks.proofs.Checks.{entry_is, state_is}
use Rattle.scrib_static_checks.proofs.statements.check_call.Goals as goal

pub returns-then-not-are_roles : goal.returns-then-not-are_roles
returns-then-not-are_roles c =
    let none = sym (c.are_roles.ensures ∙ ap (λ rs. are_roles c.args.roles.now (role_names rs)) c.as_slice.ensures) ∙ c.if-not-are_roles.true in
    rw c.broken.ensures (λ root. call c.requires.occurs none)

pub returns-then-roles-len : goal.returns-then-roles-len
returns-then-roles-len c =
    let en = c.in_ok-to.ensures in
    let same = entry_is c.args.context.now.declared.now c.in_ok-to.to en.to c.index-context-to.result en.at in
    rw c.broken-then-roles-len.ensures (λ root. (c.args.path.now, c.args.roles.now, en.to, c.requires.occurs, en.there, λ e. c.if-roles-len.true (e ∙ ap (λ x. length x.protocol.roles) same ∙ sym c.len.ensures)))

pub returns-in-Walked : goal.returns-in-Walked
returns-in-Walked c =
    let en = c.in_ok-to.ensures in
    let same = entry_is c.args.context.now.declared.now c.in_ok-to.to en.to c.index-context-to.result en.at in
    let state = state_is c.args.context.now.states.now c.in_ok-to.to _ _ en.stated c.in-Walked.is in
    let roles = sym (c.are_roles.ensures ∙ ap (λ rs. are_roles c.args.roles.now (role_names rs)) c.as_slice.ensures) ∙ c.if-not-are_roles.false in
    let summary = c.requires.consistent.walked c.in_ok-to.to en.to c.in-Walked.summary en.at state in
    record {
      keeps = λ recs. calls_keeps (record {
        declared = roles;
        different = sym c.are_different.ensures ∙ c.if-not-are_different.false;
        there = en.there;
        count = c.if-roles-len.false ∙ c.len.ensures ∙ ap (λ x. length x.protocol.roles) (sym same);
      }) summary.kept;
      to = en.to;
      there = en.there;
      has_size = summary.has_size;
      has_effect = summary.has_effect;
    }

pub returns-in-Walking : goal.returns-in-Walking
returns-in-Walking c =
    let en = c.in_ok-to.ensures in
    let state = state_is c.args.context.now.states.now c.in_ok-to.to _ _ en.stated c.in-Walking.is in
    rw c.broken-in-Walking.ensures (λ root. record {
      path = c.args.path.now;
      roles = c.args.roles.now;
      occurs = c.requires.occurs;
      to = en.to;
      there = en.there;
      back = c.requires.consistent.walking c.in_ok-to.to en.to en.at state;
    })

pub returns-in-Unwalked : goal.returns-in-Unwalked
returns-in-Unwalked c =
    let en = c.in_ok-to.ensures in
    record {
      path = c.args.path.now;
      roles = c.args.roles.now;
      spot = c.args.spot;
      occurs = c.requires.occurs;
      to = en.to;
      there = en.there;
      at = en.at;
      unwalked = state_is c.args.context.now.states.now c.in_ok-to.to _ _ en.stated c.in-Unwalked.is;
    }
