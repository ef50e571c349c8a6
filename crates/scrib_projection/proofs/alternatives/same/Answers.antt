use Rattle.std.proofs.Common.{ap}
use Rattle.scrib_types.specs.LocalView.{local_of}
use Rattle.scrib_types.specs.LocalInjective.{local_of-injective}
use Rattle.scrib_types.specs.Same.{same_local_decided}
use Rattle.scrib_projection.proofs.alternatives.same.Goals as goal

pub returns : goal.returns
returns c = same_local_decided _ _ _ (λ h. ap local_of (c.equal.ensures.0 h), λ e. c.equal.ensures.1 (local_of-injective _ _ e))
