-- What the closure of the threads of a crew holds may be used by many.
use Prim.Native.Nat.{ℕ}
use mathlib.Core.List.{List, [], ◌∷◌}
use denote.RattleType.{RattleType}
use denote.Param.{param}
use denote.Param.Send.{IsSync, sendable}
use denote.Ref.{NamedLft}
use denote.Struct.Field.{shr_ref_field}
use denote.Struct.Tuple.{TupleAt}
use Rattle.std.specs.contracts.alloc.Global as Global
use Rattle.std.proofs.alloc.Global.TheSendSync as Globals
use Rattle.std.proofs.Crossing as heap
use Rattle.scrib_shards.specs.contracts.service.Service as Service
use Rattle.scrib_shards.proofs.ThreadSharingLemmas.{service_sync}
use Rattle.scrib_examples.specs.contracts.service.crew.Crew as Crew

crew_sync : IsSync Crew.the_row
crew_sync = search (heap.crosses, sendable) depth 60 fits 20000

pub work_sync : (R : RattleType) (ν : List ℕ) (a b d e : NamedLft) → IsSync R
    → IsSync (TupleAt ν ((shr_ref_field a (param 0 R) tt).row ∷ (shr_ref_field b Global.the_row tt).row ∷ (shr_ref_field d Service.the_row tt).row ∷ (shr_ref_field e Crew.the_row tt).row ∷ []))
work_sync R ν a b d e r = search (service_sync, crew_sync, Globals.the_sync, sendable) depth 60 fits 20000
