-- What the parts of the third pass represent (this project's own). Only contracts of private functions cite this file.
use Rattle.std.specs.Prelude.{◌≡◌, ℕ, ◌+◌, ◌≤◌, Bool, true, false, List, [], ◌∷◌, length, slice_get, Option, Some, None, MatchOption}
use Rattle.std.specs.List.{All, AllZip}
use Rattle.scrib_types.specs.declared.spot.Spot.{Spot}
use Rattle.scrib_types.specs.Trees.{GlobalTree, GlobalEnd, GlobalVar}
use Rattle.scrib_types.specs.WellFormed.{has_role}
use Rattle.scrib_tree.specs.declared.tree.ModuleTree.{ModuleTree}
use Rattle.scrib_tree.specs.declared.tree.Statement.{Statement as ParsedStatement}
use Rattle.scrib_tree.specs.declared.tree.Block.{Block}
use Rattle.scrib_type_builder.specs.declared.built_type.BuiltType.{BuiltType}
use Rattle.scrib_type_builder.specs.declared.built_type.Origin.{Origin}
use Rattle.scrib_static_checks.specs.declared.declared.Declaration.{Declaration as CodeDeclaration}
use Rattle.scrib_elaborate.specs.declared.elaborated.ChoiceSite.{ChoiceSite}
use Rattle.scrib_static_checks.specs.declared.effect.CallEffect.{CallEffect}
use Rattle.scrib_static_checks.specs.declared.effect.CallEffect.TheVariants.{Joining}
use Rattle.scrib_static_checks.specs.declared.checking.State.{State}
use Rattle.scrib_elaborate.specs.declared.tasks.ElaborationContext.{ElaborationContext}
use Rattle.scrib_elaborate.specs.declared.tasks.Task.{Task}
use Rattle.scrib_elaborate.specs.declared.tasks.Task.TheVariants.{Front, Join, Close}
use Rattle.scrib_static_checks.specs.declared.fault.FaultKind.{FaultKind}
use Rattle.scrib_type_builder.specs.declared.build_error.BuildError.{BuildError}
use Rattle.scrib_type_builder.specs.declared.build_error.BuildError.TheVariants.{Broken, OutOfMemory}
use Rattle.scrib_type_builder.specs.BuiltType.{type_of, with_origin}
use Rattle.scrib_static_checks.specs.Source.{Body, Then, Statement, Chooses, Repeats, Blocks}
use Rattle.scrib_static_checks.specs.SourceView.{statement_of, body_of, blocks_of}
use Rattle.scrib_static_checks.specs.Names.{Declaration, declarations}
use Rattle.scrib_static_checks.specs.Elaboration.{continues_in, continues_some, Scope, level_of, inside, Frames, Under, Types, start_of}
use Rattle.scrib_static_checks.specs.Faults.{Reaches, FailsTyping}
use Rattle.scrib_static_checks.specs.ProtocolIndex.{IsProtocolIndex}
use Rattle.scrib_static_checks.specs.Statements.{KeepsRules}
use Rattle.scrib_static_checks.specs.Table.{shown, IsPart, AreParts, HasCheckedNames}
use Rattle.scrib_static_checks.specs.Walking.{AreSummaries, IsIdle}
use Rattle.scrib_elaborate.specs.Levels.{AreBelow}
use Rattle.scrib_elaborate.specs.Sites.{communications, is_several, IsSite}
use Rattle.scrib_elaborate.specs.Scope.{scope_of}

-- a type, and the origins of its communications, in post-order
pub record Made : Type 0 where
  pub type : GlobalTree
  pub origins : List (Option Origin)

abbrev pub made_of : BuiltType → Made
made_of t = record { type = type_of t; origins = t.origins.items }

-- the type of no statement
abbrev pub nothing_made : Made
nothing_made = record { type = GlobalEnd; origins = [] }

-- the origin is the choice that this communication comes from, and there is none for one with a single branch
abbrev pub IsMarked : List ModuleTree → (k : ℕ) → (from : Frames) → (ℕ × GlobalTree) → Option Origin → Type 0
IsMarked modules k from c None = is_several c.1 ≡ false
IsMarked modules k from c (Some o) =
    (is_several c.1 ≡ true) × IsSite modules k from o.home.now.name o.spot c.0 c.1

-- the frames, under n recursions, mean this type, and its communications come from these choices
pub record FramesMake (modules : List ModuleTree) (n : ℕ) (fs : Frames) (m : Made) : Type 0 where
  pub typed : Types modules n fs m.type
  pub marked : AllZip (IsMarked modules n fs) (communications n m.type) m.origins

-- the protocol follows the rules, and this is its type where nothing follows it
pub record IsAlone (modules : List ModuleTree) (d : Declaration) (m : Made) : Type 0 where
  pub exits : Bool
  pub kept : KeepsRules modules d exits
  pub made : FramesMake modules 0 (start_of d) m

-- each type in the memo is that of the protocol at its index
abbrev pub IsMemo : List ModuleTree → List Declaration → List (Option BuiltType) → Type 0
IsMemo modules ds memo =
    (k : ℕ) (d : Declaration) (t : BuiltType) → slice_get ds k ≡ Some d → slice_get memo k ≡ Some (Some t)
    → IsAlone modules d (made_of t)

-- the memo has no type
abbrev pub IsEmptyMemo : List (Option BuiltType) → Type 0
IsEmptyMemo memo = (k : ℕ) (o : Option BuiltType) → slice_get memo k ≡ Some o → o ≡ None

-- it is the type of the protocol at this index in isolation
abbrev pub IsAloneAt : List ModuleTree → List Declaration → (place : ℕ) → Made → Type 0
IsAloneAt modules ds place m = (d : Declaration) → slice_get ds place ≡ Some d → IsAlone modules d m

-- The table has all protocols of the modules, and the index is of them. The summaries of the walk and the types in the
-- memo are correct.
pub record IsTable (p : ElaborationContext) : Type 0 where
  pub all : shown p.declared.now ≡ declarations p.modules.now
  pub indexed : IsProtocolIndex (shown p.declared.now) p.protocol_index.now.slots.items
  pub kept : AreSummaries p.modules.now (shown p.declared.now) p.states.now
  pub memo : IsMemo p.modules.now (shown p.declared.now) p.memo.now

-- these are all declared protocols of the modules, their index, the results of walks, and the types in the memo
pub record IsTabled (modules : List ModuleTree) (declared : List CodeDeclaration) (slots : List (Option ℕ))
    (states : List State) (types : List (Option BuiltType)) : Type 0 where
  pub all : shown declared ≡ declarations modules
  pub indexed : IsProtocolIndex (shown declared) slots
  pub names_checked : All HasCheckedNames declared
  pub idle : IsIdle modules (shown declared) states
  pub memo : IsMemo modules (shown declared) types

-- these statements precede the rest of their block
abbrev pub before : List ParsedStatement → Body → Body
before [] b = b
before (s ∷ ss) b = Then (statement_of s) (before ss b)

-- a fault of the type of these frames is one of the type of the requested protocol
abbrev pub FailsUp : List ModuleTree → Declaration → ℕ → Frames → Type 0
FailsUp modules root n fs =
    (k : FaultKind) (d : Declaration) (spot : Spot) → FailsTyping k modules n fs d spot
    → FailsTyping k modules 0 (start_of root) d spot

-- What a run builds: the type of these frames, under so many recursions. A fault of it is one of the type of the
-- requested protocol.
pub record Target : Type 0 where
  pub root : Declaration
  pub depth : ℕ
  pub frames : Frames

-- the type of the requested protocol
abbrev pub whole_target : Declaration → Target
whole_target root = record { root = root; depth = 0; frames = start_of root }

-- each of these recursions that the block continues has a level in the type
abbrev pub HasLevels : Scope → (recs : List (List ℕ)) → Body → Type 0
HasLevels sc recs b =
    (x : List ℕ) → has_role x recs ≡ true → continues_in x b ≡ true → (k : ℕ) × (level_of x sc.recs ≡ Some k)

-- the same for each recursion that a block of a choice continues
abbrev pub HaveLevels : Scope → (recs : List (List ℕ)) → Blocks → Type 0
HaveLevels sc recs bs =
    (x : List ℕ) → has_role x recs ≡ true → continues_some x bs ≡ true → (k : ℕ) × (level_of x sc.recs ≡ Some k)

-- the statements precede these frames, and with them the type is that of the others
pub record PrecedesFrames (modules : List ModuleTree) (root : Declaration) (sc : Scope) (depth : ℕ)
    (statements : List ParsedStatement) (n : ℕ) (fs hs : Frames) : Type 0 where
  pub rest : Body
  pub outer : Frames
  pub deep : n ≡ depth
  pub is : fs ≡ Under sc rest outer
  pub leads : (m : Made) → FramesMake modules n (Under sc (before statements rest) outer) m → FramesMake modules n hs m
  pub up : FailsUp modules root n (Under sc (before statements rest) outer)
  pub recs : List (List ℕ)
  pub part : IsPart sc.within recs (before statements rest)
  pub levels : HasLevels sc recs (before statements rest)
  pub reached : Reaches modules root sc.within
  pub below : AreBelow n (Under sc rest outer)

-- these are the types of the first blocks
abbrev pub AreTyped : List ModuleTree → ℕ → Scope → Frames → List Block → List BuiltType → Type 0
AreTyped modules n sc fs blocks types =
    (k : ℕ) (b : Block) (t : BuiltType) → slice_get blocks k ≡ Some b → slice_get types k ≡ Some t
    → FramesMake modules n (Under sc (body_of b.body) fs) (made_of t)

-- the frames are those of the next block of a choice, and the others begin with that choice
pub record IsJoin (modules : List ModuleTree) (root : Declaration) (sc : Scope) (depth : ℕ) (chooser : List ℕ)
    (blocks : List Block) (spot : Spot) (follows : Option BuiltType) (types : List BuiltType) (n : ℕ)
    (fs hs : Frames) : Type 0 where
  pub rest : Body
  pub outer : Frames
  pub deep : n ≡ depth
  pub block : Block
  pub here : slice_get blocks (length types) ≡ Some block
  pub is : fs ≡ Under sc (body_of block.body) (Under sc rest outer)
  pub goes : hs ≡ Under sc (Then (Chooses chooser (blocks_of blocks) spot) rest) outer
  pub up : FailsUp modules root n hs
  pub typed : AreTyped modules n sc (Under sc rest outer) blocks types
  pub after : MatchOption follows (length types + 1 ≡ length blocks)
      (λ t. FramesMake modules n (Under sc rest outer) (made_of t))
  pub recs : List (List ℕ)
  pub parts : AreParts sc.within recs (blocks_of blocks)
  pub levels : HaveLevels sc recs (blocks_of blocks)
  pub reached : Reaches modules root sc.within
  pub below : AreBelow n (Under sc rest outer)

-- the frames are those of the body of a recursion, and the others begin with that recursion
pub record IsClose (modules : List ModuleTree) (root : Declaration) (home : ModuleTree) (spot : Spot) (n : ℕ)
    (fs : Frames) (m : ℕ) (hs : Frames) : Type 0 where
  pub scope : Scope
  pub name : List ℕ
  pub body : Body
  pub rest : Body
  pub outer : Frames
  pub deep : n ≡ m + 1
  pub is : fs ≡ Under (inside scope name m) body (Under scope rest outer)
  pub goes : hs ≡ Under scope (Then (Repeats name body spot) rest) outer
  pub continued : continues_in name body ≡ true
  pub up : FailsUp modules root m hs
  pub reached : Reaches modules root scope.within
  pub at : home ≡ scope.within.home

-- the tasks, the next one first, lead from these frames to those of the target
abbrev pub TasksLead : List ModuleTree → Target → List Task → ℕ → Frames → Type 0
TasksLead modules target [] n fs = (n ≡ target.depth) × (fs ≡ target.frames)
TasksLead modules target (Front scope statements ∷ tasks) n fs =
    (hs : Frames) × PrecedesFrames modules target.root (scope_of scope) scope.depth statements.now n fs hs
    × TasksLead modules target tasks n hs
TasksLead modules target (Join c ∷ tasks) n fs =
    (hs : Frames) × IsJoin modules target.root (scope_of c.scope) c.scope.depth c.chooser.now c.branches.now c.spot
    c.follows c.types.items n fs hs × TasksLead modules target tasks n hs
TasksLead modules target (Close home spot ∷ tasks) n fs =
    (m : ℕ) × (hs : Frames) × IsClose modules target.root home.now spot n fs m hs × TasksLead modules target tasks m hs

-- the type that was built last is that of the frames from which the tasks go on
pub record IsState (modules : List ModuleTree) (target : Target) (tasks : List Task) (m : Made) : Type 0 where
  pub depth : ℕ
  pub frames : Frames
  pub made : FramesMake modules depth frames m
  pub path : TasksLead modules target tasks depth frames

-- the type is that of what follows this statement, and the tasks go on from the statement
pub record IsTypedRest (modules : List ModuleTree) (target : Target) (tasks : List Task) (sc : Scope) (n : ℕ)
    (s : Statement) (m : Made) : Type 0 where
  pub rest : Body
  pub outer : Frames
  pub made : FramesMake modules n (Under sc rest outer) m
  pub path : TasksLead modules target tasks n (Under sc (Then s rest) outer)
  pub up : FailsUp modules target.root n (Under sc (Then s rest) outer)
  pub recs : List (List ℕ)
  pub part : IsPart sc.within recs (Then s rest)
  pub levels : HasLevels sc recs (Then s rest)
  pub reached : Reaches modules target.root sc.within
  pub below : AreBelow n (Under sc rest outer)

-- a rule on types fails in a protocol that the requested one reaches, or memory was refused
abbrev pub TypingFails : List ModuleTree → Declaration → BuildError → Type 0
TypingFails modules root (Broken home b) =
    (place : Declaration) × Reaches modules root place × (home.now ≡ place.home)
    × FailsTyping b.kind modules 0 (start_of root) place b.spot
TypingFails modules root OutOfMemory = Unit {0}

-- The statements are in a protocol that the requested one reaches. A fault of their type, with some frames after them,
-- is one of the type of the requested protocol.
pub record IsAhead (modules : List ModuleTree) (root : Declaration) (sc : Scope) (n : ℕ) (b : Body) : Type 0 where
  pub outer : Frames
  pub up : FailsUp modules root n (Under sc b outer)
  pub recs : List (List ℕ)
  pub part : IsPart sc.within recs b
  pub levels : HasLevels sc recs b
  pub reached : Reaches modules root sc.within
  pub below : AreBelow n (Under sc b outer)

-- the same for the statements of this task, with the rest of their block after them
abbrev pub IsTaskAhead : List ModuleTree → Declaration → Task → Type 0
IsTaskAhead modules root (Front scope statements) =
    (rest : Body) × IsAhead modules root (scope_of scope) scope.depth (before statements.now rest)
IsTaskAhead modules root (Join c) = Unit {0}
IsTaskAhead modules root (Close home spot) = Unit {0}

abbrev pub AreAhead : List ModuleTree → Declaration → List Task → Type 0
AreAhead modules root tasks = All (IsTaskAhead modules root) tasks

-- a rule on types fails, and these tasks contain the statements in front of the fault, or memory was refused
abbrev pub StopsAhead : List ModuleTree → Declaration → List Task → BuildError → Type 0
StopsAhead modules root tasks (Broken home b) =
    TypingFails modules root (Broken home b) × AreAhead modules root tasks
StopsAhead modules root tasks OutOfMemory = Unit {0}

-- a choice at which the tasks go on, with the types of its first blocks, and while blocks are left that of what follows
-- it
pub record IsChoosing (modules : List ModuleTree) (target : Target) (tasks : List Task) (sc : Scope) (n : ℕ)
    (chooser : List ℕ) (blocks : List Block) (spot : Spot) (follows : Option BuiltType)
    (types : List BuiltType) : Type 0 where
  pub rest : Body
  pub outer : Frames
  pub typed : AreTyped modules n sc (Under sc rest outer) blocks types
  pub few : length types ≤ length blocks
  pub after : MatchOption follows (length types ≡ length blocks)
      (λ t. FramesMake modules n (Under sc rest outer) (made_of t))
  pub up : FailsUp modules target.root n (Under sc (Then (Chooses chooser (blocks_of blocks) spot) rest) outer)
  pub recs : List (List ℕ)
  pub parts : AreParts sc.within recs (blocks_of blocks)
  pub levels : HaveLevels sc recs (blocks_of blocks)
  pub reached : Reaches modules target.root sc.within
  pub below : AreBelow n (Under sc rest outer)
  pub path : TasksLead modules target tasks n (Under sc (Then (Chooses chooser (blocks_of blocks) spot) rest) outer)

-- the positions of the choices of those that have an origin
abbrev pub origin_sites : List (Option Origin) → List ChoiceSite
origin_sites [] = []
origin_sites (None ∷ js) = origin_sites js
origin_sites (Some o ∷ js) = record { «module» = o.home.now.name; spot = o.spot } ∷ origin_sites js

-- A call of a protocol with this effect leaves the type of what follows unchanged. The communication in front comes
-- from the first choice of the called protocol, if that joins.
abbrev pub PassesOn : List CodeDeclaration → CallEffect → (before after : Made) → Type 0
PassesOn table (Joining k at spot) before after =
    (d : CodeDeclaration) → slice_get table at ≡ Some d
    → after ≡ record {
      type = before.type;
      origins = with_origin (record { home = d.home; spot = spot }) before.origins;
    }
PassesOn table _ before after = after ≡ before

-- the type is the variable of the recursion of this name
pub record IsVariable (sc : Scope) (n : ℕ) (name : List ℕ) (m : Made) : Type 0 where
  pub level : ℕ
  pub index : ℕ
  pub there : level_of name sc.recs ≡ Some level
  pub deep : n ≡ level + 1 + index
  pub is : m.type ≡ GlobalVar index
  pub alone : m.origins ≡ []
