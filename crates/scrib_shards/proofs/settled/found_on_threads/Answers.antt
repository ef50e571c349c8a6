use denote.Exit.{no}
use denote.Param.Send.{param_sync, arg_sync}
use Rattle.scrib_shards.proofs.ThreadSharingLemmas.{finding_sync}
use Rattle.scrib_shards.proofs.settled.found_on_threads.Goals as goal

pub map_indices-requires-sync-F : goal.map_indices-requires-sync-F
map_indices-requires-sync-F g c κs within = param_sync 3 _ (arg_sync _ no _ (finding_sync _ _ _ _))
