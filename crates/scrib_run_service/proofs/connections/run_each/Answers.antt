use denote.Exit.{no}
use denote.Param.Send.{param_sync, arg_sync}
use Rattle.scrib_run_service.proofs.ThreadSharingLemmas.{connecting_sync}
use Rattle.scrib_run_service.proofs.connections.run_each.Goals as goal

pub map_vec-requires-sync-F : goal.map_vec-requires-sync-F
map_vec-requires-sync-F g c κs within = param_sync 4 _ (arg_sync _ no _ (connecting_sync _ _ _ _ _ _ _ c.type_bounds.sync-R c.type_bounds.sync-P))
