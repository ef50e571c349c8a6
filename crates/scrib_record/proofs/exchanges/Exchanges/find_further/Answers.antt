use Rattle.std.proofs.Common.{◌∙◌, List, subst, sym}
use Rattle.scrib_record.specs.declared.exchanges.Exchange.{Exchange}
use Rattle.scrib_record.specs.Exchanges.{IsNumberOf}
use Rattle.scrib_record.proofs.exchanges.Exchanges.find_further.Goals as goal

pub returns-clause-absent : goal.returns-clause-absent
returns-clause-absent c e k h =
    c.search.ensures.absent e k (subst (λ (es : List Exchange). IsNumberOf es c.args.event.now k) (sym (c.deref-2.ensures.value ∙ c.self.view_is)) h)
