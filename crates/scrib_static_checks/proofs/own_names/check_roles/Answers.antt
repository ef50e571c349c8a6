use Rattle.std.proofs.Common.{sym, ◌∙◌, inl, refl, arith}
use Rattle.scrib_types.specs.WellFormed.{has_role}
use Rattle.scrib_tree.specs.declared.tree.RoleDeclaration.{RoleDeclaration}
use Rattle.scrib_static_checks.proofs.Places.{roles-more, again-at}
use Rattle.scrib_static_checks.proofs.own_names.check_roles.Goals as goal

pub returns-then-has_role : goal.returns-then-has_role
returns-then-has_role c =
    rw c.twice.ensures (inl (refl, again-at (λ (r : RoleDeclaration). r.name) has_role (λ (r : RoleDeclaration). r.spot) c.args.protocol.now.roles c.as_slice-roles.result.now c.loop-i.i _ c.index-roles-i.result c.as_slice-roles.ensures (omega arith) c.loop-i-test.true c.index-roles-i.is (sym c.has_role.ensures ∙ c.if-has_role.true)))

pub loop-i-preserved : goal.loop-i-preserved
loop-i-preserved c = record {
  few = omega arith;
  distinct =
      roles-more (λ (r : RoleDeclaration). r.name) c.as_slice-roles.result.now c.loop-i.i _ c.index-roles-i.result (omega arith) c.loop-i-test.true c.index-roles-i.is c.loop-i.invariant.distinct (sym c.has_role.ensures ∙ c.if-has_role.false);
}
