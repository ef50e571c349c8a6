use Rattle.std.proofs.Common.{◌∙◌, List, ap, subst, sym}
use Rattle.scrib_record.specs.declared.exchanges.Exchange.{Exchange}
use Rattle.scrib_record.specs.Exchanges.{IsNumberOf, Numbered}
use Rattle.scrib_record.proofs.numbering.Numbering.find.Goals as goal

pub returns-clause-absent : goal.returns-clause-absent
returns-clause-absent c e k h =
    let same = ap (λ p. p.exchanges) c.deref.ensures ∙ ap (λ (n : Numbered). n.exchanges) c.self.view_is in
    c.find.ensures.absent e k (subst (λ (es : List Exchange). IsNumberOf es c.args.event.now k) (sym same) h)
