use Rattle.std.proofs.Common.{◌≡◌, sym, ◌∙◌, ◌<◌, length, arith}
use Rattle.std.proofs.lemmas.Bool.{false≢true}
use Rattle.std.proofs.lemmas.Slice.Eq.{bytes_eq-Decides}
use Rattle.scrib_cli.proofs.ProjectionLemmas.{declared_here, declared_later}
use Rattle.scrib_cli.proofs.projection.declared_role.Goals as goal

pub returns-then-eq : goal.returns-then-eq
returns-then-eq c =
    let same : c.role-item.result ≡ c.args.name.now = sym c.as_bytes.ensures ∙ (bytes_eq-Decides c.as_bytes.result.now c.args.name.now).0 (sym c.eq.ensures ∙ c.if-eq.true) in
    let within : c.loop-role.role-index < length c.args.roles.now = omega arith in
    (same, declared_here c.args.roles.now c.loop-role.role-index c.args.name.now c.role-item.result within c.role-item.is same c.loop-role.invariant)

pub loop-role-preserved : goal.loop-role-preserved
loop-role-preserved c =
    let within : c.loop-role.role-index < length c.args.roles.now = omega arith in
    declared_later c.args.roles.now c.loop-role.role-index c.args.name.now c.role-item.result within c.role-item.is
    (λ e. false≢true (sym c.if-eq.false ∙ c.eq.ensures ∙ (bytes_eq-Decides c.as_bytes.result.now c.args.name.now).1 (c.as_bytes.ensures ∙ e))) c.loop-role.invariant
