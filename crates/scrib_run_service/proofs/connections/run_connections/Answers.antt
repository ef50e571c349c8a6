use denote.Exit.{no}
use denote.Param.Send.{param_send, arg_send}
use Rattle.scrib_run_service.proofs.ThreadSharingLemmas.{serving_send}
use Rattle.scrib_run_service.proofs.connections.run_connections.Goals as goal

pub join-ran-requires-send-F : goal.join-ran-requires-send-F
join-ran-requires-send-F g c κs within = param_send 1 _ (arg_send _ no _ (serving_send _ _ _ _ _ _ _ c.type_bounds.sync-R))
