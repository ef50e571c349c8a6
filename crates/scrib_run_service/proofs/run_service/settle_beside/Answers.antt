use denote.Exit.{no}
use denote.Param.Send.{param_send, arg_send}
use Rattle.scrib_run_service.proofs.ThreadSharingLemmas.{settling_send}
use Rattle.scrib_run_service.proofs.run_service.settle_beside.Goals as goal

pub join_mut-requires-send-F : goal.join_mut-requires-send-F
join_mut-requires-send-F g c κs within = param_send 1 _ (arg_send _ no _ (settling_send _ _ _ _ c.type_bounds.sync-R))
