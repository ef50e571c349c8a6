use denote.Exit.{no}
use denote.Param.Send.{param_sync, arg_sync}
use Rattle.scrib_run_service.proofs.ThreadSharingLemmas.{serving_sync}
use Rattle.scrib_run_service.proofs.connections.serve_all.Goals as goal

pub map_indices-requires-sync-F : goal.map_indices-requires-sync-F
map_indices-requires-sync-F g c κs within = param_sync 3 _ (arg_sync _ no _ (serving_sync _ _ _ _ _ c.type_bounds.sync-R))
