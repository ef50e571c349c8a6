use denote.Exit.{no}
use denote.Param.Send.{param_sync, arg_sync}
use Rattle.scrib_examples.proofs.Crossing.{work_sync}
use Rattle.scrib_examples.proofs.service.crew.run_all.Goals as goal

pub map_indices-requires-sync-F : goal.map_indices-requires-sync-F
map_indices-requires-sync-F g c κs within = param_sync 3 _ (arg_sync _ no _ (work_sync _ _ _ _ _ _ c.type_bounds.sync-R))
