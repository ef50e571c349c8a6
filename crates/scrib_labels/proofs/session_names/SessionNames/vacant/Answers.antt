use Rattle.std.proofs.Common.{◌∙◌, ap}
use Rattle.slab.specs.Slab.{get}
use Rattle.scrib_labels.proofs.NamingLemmas.{kept_vacant}
use Rattle.scrib_labels.proofs.session_names.SessionNames.vacant.Goals as goal

pub returns-in-Ok-clause-vacant : goal.returns-in-Ok-clause-vacant
returns-in-Ok-clause-vacant c = kept_vacant c.args.self.now.names c.args.self.now.numbers c.in-Ok.number c.args.self.now.kept (ap (get c.args.self.now.names) c.in-Ok.ensures.1 ∙ c.vacant_key.ensures.vacant)
