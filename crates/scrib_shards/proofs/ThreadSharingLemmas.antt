-- Threads may share a service: sending and sharing its library and its shards is allowed. The automatic search at the
-- start of a thread gives up on types of this size, so the proof goes piece by piece.
use Prim.Native.Nat.{ℕ}
use mathlib.Core.List.{List, [], ◌∷◌}
use denote.RattleType.{RattleType}
use denote.Param.{param}
use denote.Param.Send.{IsSend, IsSync, sendable}
use denote.Ref.{NamedLft}
use denote.Struct.Field.{shr_ref_field, shr_slice_field}
use denote.Struct.Tuple.{TupleAt}
use denote.Param.SendFields.{declared_send, declared_sync}
use Rattle.std.proofs.Crossing as heap
use Rattle.std.proofs.alloc.Global.TheSendSync as Globals
use Rattle.std.proofs.boxed.Box.TheSendSync as Boxs
use Rattle.std.proofs.collections.VecDeque.TheSendSync as VecDeques
use Rattle.std.proofs.hash.BuildHasherDefault.TheSendSync as BuildHasherDefaults
use Rattle.std.proofs.hash.FoldHasher.TheSendSync as FoldHashers
use Rattle.std.proofs.option.Option.TheSendSync as Options
use Rattle.std.proofs.rt.Memory.TheSendSync as Memorys
use Rattle.std.proofs.sync.Arc.TheSendSync as Arcs
use Rattle.std.proofs.vec.Vec.TheSendSync as Vecs
use Rattle.std.proofs.sync.Mutex.TheSendSync as Mutexes
use Rattle.crossbeam_utils.proofs.cache_padded.CachePadded.TheSendSync as CachePaddeds
use Rattle.crossbeam_utils.proofs.sync.sharded_lock.ShardedLock.TheSendSync as ShardedLocks
use Rattle.once_cell.proofs.race.once_box.OnceBox.TheSendSync as OnceBoxes
use Rattle.sqlite_items.proofs.boxed.Boxed.TheSendSync as Boxeds
use Rattle.sqlite_items.proofs.items.Items.TheSendSync as Itemss
use Rattle.indexmap.proofs.columns.Columns.TheSendSync as Columnss
use Rattle.indexmap.proofs.index_table.Bucket.TheSendSync as Buckets
use Rattle.indexmap.proofs.index_table.IndexTable.TheSendSync as IndexTables
use Rattle.indexmap.proofs.index_table.group.Group.TheSendSync as Groups
use Rattle.indexmap.proofs.map.IndexMap.TheSendSync as IndexMaps
use Rattle.scrib_types.proofs.event.Action.TheSendSync as Actions
use Rattle.scrib_types.proofs.event.Event.TheSendSync as Events
use Rattle.scrib_types.proofs.event.Verdict.TheSendSync as Verdicts
use Rattle.scrib_types.proofs.one_or_many.OneOrMany.TheSendSync as OneOrManys
use Rattle.scrib_types.proofs.message.Message.TheSendSync as Messages
use Rattle.scrib_types.proofs.message.Payload.TheSendSync as Payloads
use Rattle.scrib_types.proofs.name.Dotted.TheSendSync as Dotteds
use Rattle.scrib_types.proofs.name.Name.TheSendSync as Names
use Rattle.scrib_types.proofs.shared_event.SharedEvent.TheSendSync as SharedEvents
use Rattle.scrib_types.proofs.shared_message.SharedMessage.TheSendSync as SharedMessages
use Rattle.scrib_types.proofs.spot.Spot.TheSendSync as Spots
use Rattle.scrib_tree.proofs.tree.Import.TheSendSync as Imports
use Rattle.scrib_tree.proofs.tree.RoleDeclaration.TheSendSync as RoleDeclarations
use Rattle.scrib_machine.proofs.machine.Edge.TheSendSync as Edges
use Rattle.scrib_machine.proofs.machine.Machine.TheSendSync as Machines
use Rattle.scrib_queues.proofs.queue.Queue.TheSendSync as SingleQueues
use Rattle.scrib_queues.proofs.queues.Pair.TheSendSync as Pairs
use Rattle.scrib_queues.proofs.queues.Queues.TheSendSync as Queuess
use Rattle.scrib_record.proofs.exchanges.Exchange.TheSendSync as ExchangeEntries
use Rattle.scrib_record.proofs.exchanges.Exchanges.TheSendSync as ExchangeTables
use Rattle.scrib_record.proofs.numbered_edge.NumberedEdge.TheSendSync as NumberedEdges
use Rattle.scrib_record.proofs.role_state.RoleState.TheSendSync as RoleStates
use Rattle.crossbeam_utils.specs.contracts.cache_padded.CachePadded as CachePadded
use Rattle.crossbeam_utils.specs.contracts.sync.sharded_lock.ShardedLock as ShardedLock
use Rattle.scrib_types.proofs.global.GlobalType.TheLaws.TheKnot as types
use Rattle.scrib_tree.proofs.tree.Statement.TheLaws.TheKnot as statements
use Rattle.scrib_tree.specs.contracts.tree.ModuleTree as ModuleTree
use Rattle.scrib_static_checks.specs.contracts.modules.Modules as Modules
use Rattle.scrib_record.specs.contracts.configuration.Configuration as Configuration
use Rattle.scrib_record.specs.contracts.judging.Judging as Judging
use Rattle.scrib_record.specs.contracts.numbering.Numbering as Numbering
use Rattle.scrib_record.specs.contracts.record.Record as Record
use Rattle.scrib_record.specs.contracts.version.Version as Version
use Rattle.scrib_parser.specs.contracts.interner.Interner as Interner
use Rattle.scrib_library.specs.contracts.hints.Hints as Hints
use Rattle.scrib_library.specs.contracts.module_store.ModuleStore as ModuleStore
use Rattle.scrib_library.specs.contracts.numberings.Numberings as Numberings
use Rattle.scrib_library.specs.contracts.versions.NamedVersion as NamedVersion
use Rattle.scrib_library.specs.contracts.library.Library as Library
use Rattle.scrib_locked_steps.specs.contracts.shard.Shard as Shard
use Rattle.scrib_locked_steps.specs.contracts.pass.Pass as Pass
use Rattle.scrib_locked_steps.proofs.pass.Pass.TheSendSync as Passes
use Rattle.scrib_shards.specs.contracts.service.Service as Service
use Rattle.std.specs.contracts.sync.Mutex as Mutex
use Rattle.std.specs.contracts.vec.Vec as Vec
use Rattle.std.specs.contracts.alloc.Global as Heap
use Rattle.std.specs.contracts.impls.GlobalAllocator.TheImpl.{ghosts}

ruleset plain = (
  Globals.the_field_send,
  Globals.the_field_sync,
  Globals.the_send,
  Globals.the_sync,
  Boxs.the_send,
  Boxs.the_sync,
  VecDeques.the_send,
  VecDeques.the_sync,
  BuildHasherDefaults.the_field_send,
  BuildHasherDefaults.the_field_sync,
  BuildHasherDefaults.the_send,
  BuildHasherDefaults.the_sync,
  FoldHashers.the_field_send,
  FoldHashers.the_field_sync,
  FoldHashers.the_send,
  FoldHashers.the_sync,
  Options.the_field_send,
  Options.the_field_sync,
  Options.the_send,
  Options.the_sync,
  Memorys.the_field_send,
  Memorys.the_field_sync,
  Memorys.the_send,
  Memorys.the_sync,
  Arcs.the_send,
  Arcs.the_sync,
  Vecs.the_send,
  Vecs.the_sync,
  Boxeds.the_send,
  Boxeds.the_sync,
  Itemss.the_send,
  Itemss.the_sync,
  Columnss.the_send,
  Columnss.the_sync,
  Buckets.the_field_send,
  Buckets.the_field_sync,
  Buckets.the_send,
  Buckets.the_sync,
  IndexTables.the_send,
  IndexTables.the_sync,
  Groups.the_field_send,
  Groups.the_field_sync,
  Groups.the_send,
  Groups.the_sync,
  IndexMaps.the_send,
  IndexMaps.the_sync,
  Actions.the_field_send,
  Actions.the_field_sync,
  Actions.the_send,
  Actions.the_sync,
  Events.the_field_send,
  Events.the_field_sync,
  Events.the_send,
  Events.the_sync,
  Verdicts.the_field_send,
  Verdicts.the_field_sync,
  Verdicts.the_send,
  Verdicts.the_sync,
  OneOrManys.the_send,
  OneOrManys.the_sync,
  Messages.the_field_send,
  Messages.the_field_sync,
  Messages.the_send,
  Messages.the_sync,
  Payloads.the_send,
  Payloads.the_sync,
  Dotteds.the_send,
  Dotteds.the_sync,
  Names.the_send,
  Names.the_sync,
  SharedEvents.the_send,
  SharedEvents.the_sync,
  SharedMessages.the_send,
  SharedMessages.the_sync,
  Spots.the_field_send,
  Spots.the_field_sync,
  Spots.the_send,
  Spots.the_sync,
  Imports.the_field_send,
  Imports.the_field_sync,
  Imports.the_send,
  Imports.the_sync,
  RoleDeclarations.the_field_send,
  RoleDeclarations.the_field_sync,
  RoleDeclarations.the_send,
  RoleDeclarations.the_sync,
  Edges.the_field_send,
  Edges.the_field_sync,
  Edges.the_send,
  Edges.the_sync,
  Machines.the_send,
  Machines.the_sync,
  SingleQueues.the_send,
  SingleQueues.the_sync,
  Pairs.the_field_send,
  Pairs.the_field_sync,
  Pairs.the_send,
  Pairs.the_sync,
  Queuess.the_send,
  Queuess.the_sync,
  RoleStates.the_field_send,
  RoleStates.the_field_sync,
  RoleStates.the_send,
  RoleStates.the_sync,
  heap.crosses,
  sendable,
)

ruleset numbered = (
  ExchangeEntries.the_field_send,
  ExchangeEntries.the_field_sync,
  ExchangeEntries.the_send,
  ExchangeEntries.the_sync,
  ExchangeTables.the_send,
  ExchangeTables.the_sync,
  NumberedEdges.the_field_send,
  NumberedEdges.the_field_sync,
  NumberedEdges.the_send,
  NumberedEdges.the_sync,
)

version_send : IsSend Version.the_row
version_send = search (types.crosses, plain) depth 60 fits 20000

version_sync : IsSync Version.the_row
version_sync = search (types.crosses, plain) depth 60 fits 20000

tree_send : IsSend ModuleTree.the_row
tree_send = search (statements.crosses, plain) depth 60 fits 20000

tree_sync : IsSync ModuleTree.the_row
tree_sync = search (statements.crosses, plain) depth 60 fits 20000

named_send : IsSend NamedVersion.the_row
named_send = search (version_send, plain) depth 60 fits 20000

named_sync : IsSync NamedVersion.the_row
named_sync = search (version_sync, plain) depth 60 fits 20000

modules_send : IsSend Modules.the_row
modules_send = search (tree_send, plain) depth 60 fits 20000

modules_sync : IsSync Modules.the_row
modules_sync = search (tree_sync, plain) depth 60 fits 20000

numbering_send : IsSend Numbering.the_row
numbering_send = search (version_send, version_sync, numbered, plain) depth 60 fits 20000

numbering_sync : IsSync Numbering.the_row
numbering_sync = search (version_send, version_sync, numbered, plain) depth 60 fits 20000

numberings_send : IsSend Numberings.the_row
numberings_send = search (numbering_send, OnceBoxes.the_send, plain) depth 60 fits 20000

numberings_sync : IsSync Numberings.the_row
numberings_sync = search (numbering_send, numbering_sync, OnceBoxes.the_sync, plain) depth 60 fits 20000

store_send : IsSend ModuleStore.the_row
store_send = search (modules_send, plain) depth 60 fits 20000

store_sync : IsSync ModuleStore.the_row
store_sync = search (modules_sync, plain) depth 60 fits 20000

hints_send : IsSend Hints.the_row
hints_send = search (plain) depth 60 fits 20000

hints_sync : IsSync Hints.the_row
hints_sync = search (plain) depth 60 fits 20000

interner_send : IsSend Interner.the_row
interner_send = search (plain) depth 60 fits 20000

interner_sync : IsSync Interner.the_row
interner_sync = search (plain) depth 60 fits 20000

-- of few lemmas, since a search over all fields takes too many steps
ruleset library_fields = (
  Globals.the_field_send,
  Globals.the_field_sync,
  Globals.the_send,
  Globals.the_sync,
  Vecs.the_send,
  Vecs.the_sync,
  heap.crosses,
  sendable,
)

library_send : IsSend Library.the_row
library_send = search (declared_send, store_send, named_send, hints_send, numberings_send, interner_send, library_fields) depth 60 fits 20000

library_sync : IsSync Library.the_row
library_sync = search (declared_sync, store_sync, named_sync, hints_sync, numberings_sync, interner_sync, library_fields) depth 60 fits 20000

configuration_send : IsSend Configuration.the_row
configuration_send = search (numbering_send, plain) depth 60 fits 20000

configuration_sync : IsSync Configuration.the_row
configuration_sync = search (numbering_sync, plain) depth 60 fits 20000

judging_send : IsSend Judging.the_row
judging_send =
    declared_send Judging.the_type
    (search (version_send, plain) depth 60 fits 20000, (search plain, (search plain, (configuration_send, (search plain depth 60 fits 20000, tt)))))

judging_sync : IsSync Judging.the_row
judging_sync =
    declared_sync Judging.the_type
    (search (version_sync, plain) depth 60 fits 20000, (search plain, (search plain, (configuration_sync, (search plain depth 60 fits 20000, tt)))))

record_send : IsSend Record.the_row
record_send = search (declared_send, judging_send, plain) depth 60 fits 20000

record_sync : IsSync Record.the_row
record_sync = search (declared_sync, judging_sync, plain) depth 60 fits 20000

shard_send : IsSend Shard.the_row
shard_send = search (record_send, plain) depth 60 fits 20000

shard_sync : IsSync Shard.the_row
shard_sync = search (record_sync, plain) depth 60 fits 20000

library_lock : IsSync (ShardedLock.the_row Library.the_row Heap.the_row ghosts)
library_lock = search (ShardedLocks.the_sync, library_send, library_sync, heap.crosses, sendable) depth 60 fits 20000

abbrev ShardLock : RattleType
ShardLock = CachePadded.the_row (Mutex.the_row Shard.the_row)

shard_lock : IsSync ShardLock
shard_lock = search (CachePaddeds.the_sync, Mutexes.the_sync, shard_send, sendable) depth 60 fits 20000

shard_locks : IsSync (Vec.the_row ShardLock Heap.the_row ghosts)
shard_locks = heap.Vec-sync ShardLock shard_lock

shard_values : IsSync (Vec.the_row Shard.the_row Heap.the_row ghosts)
shard_values = heap.Vec-sync Shard.the_row shard_sync

pub service_sync : IsSync Service.the_row
service_sync = declared_sync Service.the_type (Globals.the_sync, (library_lock, (shard_locks, (shard_values, tt))))

library_lock_send : IsSend (ShardedLock.the_row Library.the_row Heap.the_row ghosts)
library_lock_send = search (ShardedLocks.the_send, library_send, library_sync, heap.crosses, sendable) depth 60 fits 20000

shard_lock_send : IsSend ShardLock
shard_lock_send = search (CachePaddeds.the_send, Mutexes.the_send, shard_send, sendable) depth 60 fits 20000

-- A service may be sent to a thread that ends it.
pub service_send : IsSend Service.the_row
service_send = declared_send Service.the_type
    (Globals.the_send, (library_lock_send, (heap.Vec-send ShardLock shard_lock_send, (heap.Vec-send Shard.the_row shard_send, tt))))

-- A closure that runs on a thread may hold references to the runtime and the service. The order is that in which the
-- closure first names them.
pub editing_send : (R : RattleType) (ν : List ℕ) (a b : NamedLft) → IsSync R
    → IsSend (TupleAt ν ((shr_ref_field a (param 0 R) tt).row ∷ (shr_ref_field b Service.the_row tt).row ∷ []))
editing_send R ν a b r = search (service_sync, sendable) depth 60 fits 20000

-- A closure may hold references to the runtime, the allocator and the service, and a pass.
pub noting_send : (R : RattleType) (ν : List ℕ) (a b d : NamedLft) → IsSync R
    → IsSend (TupleAt ν ((shr_ref_field a (param 0 R) tt).row ∷ (shr_ref_field b Heap.the_row tt).row ∷ (shr_ref_field d Service.the_row tt).row ∷ Pass.the_row ∷ []))
noting_send R ν a b d r = search (service_sync, Passes.the_send, Globals.the_sync, sendable) depth 60 fits 20000

-- Threads that compare one shard each may share the allocator, by reference, the shards' values and the passes.
pub finding_sync : (ν : List ℕ) (a b d : NamedLft)
    → IsSync (TupleAt ν ((shr_ref_field a Heap.the_row tt).row ∷ (shr_slice_field b Shard.the_row tt).row ∷ (shr_slice_field d Pass.the_row tt).row ∷ []))
finding_sync ν a b d = search (shard_sync, Passes.the_sync, Globals.the_sync, sendable) depth 60 fits 20000
