use Rattle.std.proofs.Common.{ℕ, List, Option, Bor, IfNone, sym, subst}
use Rattle.scrib_labels.specs.Naming.{IsVacant}
use Rattle.scrib_labels.proofs.NamingLemmas.{kept_vacant, name_there}
use Rattle.scrib_labels.proofs.session_names.SessionNames.name_of.Goals as goal

pub returns-in_err-get-clause-vacant : goal.returns-in_err-get-clause-vacant
returns-in_err-get-clause-vacant c =
    subst (λ (r : Option (Bor (List ℕ))). IfNone r (IsVacant c.args.self.now c.args.number)) (sym c.from_residual.ensures)
    (kept_vacant c.args.self.now.names c.args.self.now.numbers c.args.number c.args.self.now.kept (sym c.in_err-get.ensures))

pub returns-clause-named : goal.returns-clause-named
returns-clause-named c =
    c.args.self.now.found c.as_str.result.now c.args.number
    (name_there c.args.self.now.names c.args.number c.in_ok-get.field-0.now c.as_str.result.now (sym c.in_ok-get.ensures) (sym c.as_str.ensures.value))
