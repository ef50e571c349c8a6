use Rattle.scrib_projection.proofs.AlternativeLemmas.{pushed}
use Rattle.scrib_projection.proofs.alternatives.with_alternative.Goals as goal

pub returns-in_ok-push-in-New : goal.returns-in_ok-push-in-New
returns-in_ok-push-in-New c =
    pushed c.fit_of.result _ _ _ _ _ _ _ c.in-New.is c.as_slice.ensures c.fit_of.ensures c.in_ok-message-in-New.ensures c.in_ok-local-in-New.ensures c.in_ok-push-in-New.ensures.ok
