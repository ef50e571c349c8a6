use Rattle.scrib_types.specs.GlobalView.{global_of}
use Rattle.scrib_types.specs.Profiles.{keeps_plain_projections}
use Rattle.scrib_global.proofs.law.keeps_plain_projections.Goals as goal

pub returns : goal.returns
returns c = keeps_plain_projections c.args.role.now (global_of c.args.global.now)
