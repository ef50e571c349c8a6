-- The values that the workers of a sweep share: references to the runtime, the allocator, the service and the gate, and
-- the number of workers.
use Prim.Native.Nat.{ℕ}
use mathlib.Core.List.{List, [], ◌∷◌}
use denote.RattleType.{RattleType}
use denote.Param.{param}
use denote.Param.Send.{IsSync, sendable}
use denote.Ref.{NamedLft}
use denote.Struct.Field.{shr_ref_field, u64-field}
use denote.Struct.Tuple.{TupleAt}
use Rattle.std.specs.contracts.alloc.Global as Global
use Rattle.std.proofs.alloc.Global.TheSendSync as Globals
use Rattle.scrib_shards.specs.contracts.service.Service as Service
use Rattle.scrib_shards.proofs.ThreadSharingLemmas.{service_sync}

pub work_sync : (R G : RattleType) (ν : List ℕ) (a b d e f : NamedLft) → IsSync R → IsSync G
    → IsSync (TupleAt ν ((shr_ref_field a (param 0 R) tt).row ∷ (shr_ref_field b Global.the_row tt).row ∷ (shr_ref_field d Service.the_row tt).row ∷ (shr_ref_field e (param 1 G) tt).row ∷ (shr_ref_field f u64-field.row tt).row ∷ []))
work_sync R G ν a b d e f r s = search (service_sync, Globals.the_sync, sendable) depth 60 fits 20000
