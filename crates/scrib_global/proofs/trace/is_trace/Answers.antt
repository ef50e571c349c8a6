use Rattle.std.proofs.Common.{◌↔◌, IsTrue, sym, subst}
use Rattle.scrib_types.specs.LocalView.{local_of}
use Rattle.scrib_types.specs.Traces.{IsTrace}
use Rattle.scrib_global.proofs.Steps.{leaves_trace}
use Rattle.scrib_global.proofs.trace.is_trace.Goals as goal

pub returns : goal.returns
returns c =
    subst (λ b. IsTrue b ↔ IsTrace (local_of c.args.local) c.args.actions.now) (sym c.is_some.ensures)
    (leaves_trace (local_of c.args.local) c.args.actions.now c.in_ok-left.left c.in_ok-left.ensures)
