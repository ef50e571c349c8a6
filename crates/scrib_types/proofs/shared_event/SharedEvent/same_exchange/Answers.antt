use Rattle.std.proofs.Common.{◌∙◌, sym, ap, drop}
use Rattle.scrib_types.proofs.FlatFormLemmas.{behind_kind}
use Rattle.scrib_types.proofs.shared_event.SharedEvent.same_exchange.Goals as goal

pub returns : goal.returns
returns c =
    let left = c.without_kind.ensures ∙ ap (drop 1) c.flat.ensures ∙ behind_kind c.args.self.now in
    let right = c.without_kind-2.ensures ∙ ap (drop 1) c.flat-2.ensures ∙ behind_kind c.args.other.now in
    (λ h. sym left ∙ c.same_bytes.ensures.0 h ∙ right, λ h. c.same_bytes.ensures.1 (left ∙ h ∙ sym right))
