use Rattle.std.proofs.Common.{◌∙◌, refl, sym}
use Rattle.scrib_labels.proofs.NamingLemmas.{name_there}
use Rattle.scrib_labels.proofs.session_names.SessionNames.find.Goals as goal

pub returns : goal.returns
returns c =
    c.args.self.now.found c.args.name.now c.in_ok-number.field-0.now
    (name_there c.args.self.now.names c.in_ok-number.field-0.now c.in_ok-found.found.now c.args.name.now (sym c.in_ok-found.ensures) (sym c.as_bytes.ensures.value ∙ c.if-not-same_bytes.ensures.0 refl))
