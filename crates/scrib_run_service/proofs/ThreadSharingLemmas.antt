-- Threads may share what the threads of a run share, and what is sent to one of them may be sent.
use Prim.Native.Nat.{ℕ}
use mathlib.Core.List.{List, [], ◌∷◌}
use denote.RattleType.{RattleType}
use denote.Param.{param}
use denote.Param.Send.{IsSend, IsSync, sendable}
use denote.Param.SendFields.{declared_send}
use denote.Ref.{NamedLft}
use denote.Struct.Field.{shr_ref_field, mut_ref_field, u64-field}
use denote.Struct.Tuple.{TupleAt}
use Rattle.std.specs.contracts.alloc.Global as Global
use Rattle.std.specs.contracts.vec.Vec as Vec
use Rattle.std.specs.contracts.option.Option as Option
use Rattle.std.proofs.option.Option.TheSendSync as Options
use Rattle.std.specs.contracts.impls.GlobalAllocator.TheImpl.{ghosts}
use Rattle.std.proofs.alloc.Global.TheSendSync as Globals
use Rattle.crossbeam_channel.specs.contracts.channel.Receiver as Receiver
use Rattle.crossbeam_channel.specs.contracts.channel.Sender as Sender
use Rattle.crossbeam_channel.proofs.channel.Receiver.TheSendSync as Receivers
use Rattle.crossbeam_channel.proofs.channel.Sender.TheSendSync as Senders
use Rattle.std.proofs.Crossing as heap
use Rattle.scrib_locked_steps.specs.contracts.pass.Pass as Pass
use Rattle.scrib_locked_steps.proofs.pass.Pass.TheSendSync as Passes
use Rattle.scrib_core.specs.contracts.format.Format as Format
use Rattle.scrib_core.proofs.format.Format.TheSendSync as Formats
use Rattle.scrib_rejudge.specs.contracts.notices.Notice as Notice
use Rattle.scrib_rejudge.proofs.notices.Notice.TheSendSync as Notices
use Rattle.scrib_shards.specs.contracts.service.Service as Service
use Rattle.scrib_shards.proofs.ThreadSharingLemmas.{service_send, service_sync}
use Rattle.scrib_run_service.specs.contracts.common.Common as Common
use Rattle.scrib_run_service.specs.contracts.run_service.Unsettled as Unsettled
use Rattle.scrib_run_service.proofs.progress.Tally.TheSendSync as Tallies

-- threads may share the ends of the channel
inbox_sync : IsSync (Receiver.the_row Notice.the_row Global.the_row ghosts)
inbox_sync = search (Receivers.the_sync, heap.crosses, Notices.the_send, Globals.the_send, Globals.the_sync, sendable) depth 60 fits 20000

outbox_sync : IsSync (Sender.the_row Notice.the_row Global.the_row ghosts)
outbox_sync = search (Senders.the_sync, heap.crosses, Notices.the_send, Globals.the_send, Globals.the_sync, sendable) depth 60 fits 20000

-- Workers that serve notices share the runtime, the service and the inbox.
pub serving_sync : (R : RattleType) (ν : List ℕ) (a b d : NamedLft) → IsSync R
    → IsSync (TupleAt ν ((shr_ref_field a (param 0 R) tt).row ∷ (shr_ref_field b Service.the_row tt).row ∷ (shr_ref_field d (Receiver.the_row Notice.the_row Global.the_row ghosts) tt).row ∷ []))
serving_sync R ν a b d r = search (service_sync, inbox_sync, sendable) depth 60 fits 20000

-- The thread on which they begin has references to these, to the allocator and to their number.
pub serving_send : (R : RattleType) (ν : List ℕ) (a b d e f : NamedLft) → IsSync R
    → IsSend (TupleAt ν ((shr_ref_field a (param 0 R) tt).row ∷ (shr_ref_field b Global.the_row tt).row ∷ (shr_ref_field d Service.the_row tt).row ∷ (shr_ref_field e (Receiver.the_row Notice.the_row Global.the_row ghosts) tt).row ∷ (shr_ref_field f u64-field.row tt).row ∷ []))
serving_send R ν a b d e f r = search (service_sync, inbox_sync, Globals.the_sync, sendable) depth 60 fits 20000

-- threads may share what is common to the connections
common_sync : (a : NamedLft) (P : RattleType) → IsSync P → IsSync (Common.the_row a P)
common_sync a P p = search (service_sync, Tallies.the_sync, sendable) depth 60 fits 20000

-- Connections share the runtime, what is common to them, and the outbox.
pub connecting_sync : (R P : RattleType) (ν : List ℕ) (a b d e : NamedLft) → IsSync R → IsSync P
    → IsSync (TupleAt ν ((shr_ref_field a (param 0 R) tt).row ∷ (shr_ref_field b (Common.the_row d (param 2 P)) tt).row ∷ (shr_ref_field e (Sender.the_row Notice.the_row Global.the_row ghosts) tt).row ∷ []))
connecting_sync R P ν a b d e r p = search (common_sync, outbox_sync, sendable) depth 60 fits 20000

-- a service that is not yet settled, with its passes, may be sent to a thread
passes_send : IsSend (Vec.the_row Pass.the_row Global.the_row ghosts)
passes_send = search (heap.crosses, Passes.the_send, sendable) depth 60 fits 20000

format_send : IsSend Format.the_row
format_send = search (Formats.the_send, sendable) depth 60 fits 20000

unsettled_send : IsSend Unsettled.the_row
unsettled_send = declared_send Unsettled.the_type (Globals.the_send, (format_send, (service_send, (passes_send, tt))))

option_send : IsSend (Option.the_row Unsettled.the_row)
option_send = search (unsettled_send, Options.the_send, sendable) depth 60 fits 20000

-- The thread that settles has a reference to the runtime, and one by which it takes the service.
pub settling_send : (R : RattleType) (ν : List ℕ) (a b : NamedLft) → IsSync R
    → IsSend (TupleAt ν ((shr_ref_field a (param 0 R) tt).row ∷ (mut_ref_field b (Option.the_row Unsettled.the_row) tt).row ∷ []))
settling_send R ν a b r = search (option_send, sendable) depth 60 fits 20000
