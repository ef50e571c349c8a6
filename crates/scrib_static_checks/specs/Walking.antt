-- What the parts of a walk over protocols do. Only contracts of this crate, and of private functions of
-- `scrib_elaborate`, cite this file.
use Rattle.std.specs.Prelude.{◌≡◌, ◌≢◌, ◌⊎◌, ℕ, ◌≤◌, Bool, true, List, [], ◌∷◌, ◌++◌, length, slice_get, slice_set, Some}
use Rattle.scrib_types.specs.declared.spot.Spot.{Spot}
use Rattle.scrib_tree.specs.declared.tree.ModuleTree.{ModuleTree}
use Rattle.scrib_tree.specs.declared.tree.ProtocolDeclaration.{ProtocolDeclaration}
use Rattle.scrib_static_checks.specs.declared.declared.Declaration.{Declaration as CodeDeclaration}
use Rattle.scrib_static_checks.specs.declared.fault.ElaborateFault.{ElaborateFault}
use Rattle.scrib_static_checks.specs.declared.fault.ElaborateFault.TheVariants as elaborate
use Rattle.scrib_static_checks.specs.declared.checking.BrokenRule.{BrokenRule}
use Rattle.scrib_static_checks.specs.declared.checking.State.{State}
use Rattle.scrib_static_checks.specs.declared.checking.State.TheVariants.{Unwalked, Walking, Walked}
use Rattle.scrib_static_checks.specs.declared.checking.CheckError.{CheckError}
use Rattle.scrib_static_checks.specs.declared.checking.CheckError.TheVariants.{Broken, Call, OutOfMemory}
use Rattle.scrib_static_checks.specs.Source.{Calls}
use Rattle.scrib_static_checks.specs.SourceView.{body_of}
use Rattle.scrib_static_checks.specs.Names.{Declaration, HasOwnNames, declarations, find_protocol, called}
use Rattle.scrib_static_checks.specs.Statements.{KeepsRules, BlockKeeps}
use Rattle.scrib_static_checks.specs.declared.fault.FaultKind.{FaultKind}
use Rattle.scrib_static_checks.specs.Faults.{HasStatement, Reaches, Fails, no_spot}
use Rattle.scrib_static_checks.specs.declared.checking.Summary.{Summary}
use Rattle.scrib_static_checks.specs.Sizes.{NodesOf, HeightOf}
use Rattle.scrib_static_checks.specs.SizeFunctions.{BlockHasSize}
use Rattle.scrib_static_checks.specs.CallEffect.{HasEffect}
use Rattle.scrib_static_checks.specs.Table.{shown, IsSummary}

-- there are so many states, all `Unwalked`
pub record AreUnwalked (count : ℕ) (states : List State) : Type 0 where
  pub long : length states ≡ count
  pub fresh : (k : ℕ) (s : State) → slice_get states k ≡ Some s → s ≡ Unwalked

-- the protocol's own names follow the rules, and the walk has entered it
pub record IsEntered (home : ModuleTree) (protocol : ProtocolDeclaration) (to : ℕ) (old_states new_states : List State)
    (old_stack new_stack : List ℕ) : Type 0 where
  pub named : HasOwnNames (record { home = home; protocol = protocol })
  pub states : new_states ≡ slice_set old_states to Walking
  pub stack : new_stack ≡ old_stack ++ to ∷ []

-- the fault is of a rule about the names that are checked when a protocol is entered
abbrev pub EnterFails : ModuleTree → ProtocolDeclaration → ElaborateFault → Type 0
EnterFails home protocol (elaborate.Broken f) =
    (f.module ≡ home.name) × ((modules : List ModuleTree) (root : Declaration)
    → Fails f.kind modules root (record { home = home; protocol = protocol }) f.spot)
EnterFails home protocol elaborate.OutOfMemory = Unit {0}

-- the fault is the broken rule in this module, or memory was refused
abbrev pub IsFaultIn : ModuleTree → BrokenRule → ElaborateFault → Type 0
IsFaultIn home b f =
    (f ≡ elaborate.Broken (record { kind = b.kind; «module» = home.name; spot = b.spot })) ⊎ (f ≡ elaborate.OutOfMemory)

-- what a check of the protocol at this index may assume about the others
pub record IsReady (modules : List ModuleTree) (declared : List CodeDeclaration) (states : List State)
    (top : ℕ) : Type 0 where
  pub all : shown declared ≡ declarations modules
  pub long : length states ≡ length declared
  pub walked : (k : ℕ) (d : Declaration) (s : Summary) → slice_get (shown declared) k ≡ Some d
      → slice_get states k ≡ Some (Walked s) → IsSummary modules d s
  pub walking : (k : ℕ) (d t : Declaration) → slice_get (shown declared) k ≡ Some d → slice_get states k ≡ Some Walking
      → slice_get (shown declared) top ≡ Some t → Reaches modules d t

-- the block of a protocol follows the rules, and its summary is correct
pub record IsBlockKept (modules : List ModuleTree) (d : Declaration) (s : Summary) : Type 0 where
  pub keeps : BlockKeeps modules d [] true (body_of d.protocol.body) s.exits
  pub has_size : BlockHasSize modules d (body_of d.protocol.body) s.size
  pub has_effect : HasEffect modules d (body_of d.protocol.body) s.effect

-- the same of the protocol at this index
abbrev pub TopKeeps : List ModuleTree → List Declaration → ℕ → Summary → Type 0
TopKeeps modules ds top s = (d : Declaration) → slice_get ds top ≡ Some d → IsBlockKept modules d s

-- the protocol at this index contains a call of a protocol that was not walked
pub record IsNextCall (modules : List ModuleTree) (ds : List Declaration) (states : List State) (d : Declaration)
    (k : ℕ) : Type 0 where
  pub path : List (List ℕ)
  pub roles : List (List ℕ)
  pub spot : Spot
  pub occurs : HasStatement d (Calls path roles spot)
  pub to : Declaration
  pub there : called modules d.home path ≡ Some to
  pub at : slice_get ds k ≡ Some to
  pub unwalked : slice_get states k ≡ Some Unwalked

abbrev pub TopStops : List ModuleTree → List Declaration → List State → ℕ → CheckError → Type 0
TopStops modules ds states top (Broken b) =
    (root d : Declaration) → slice_get ds top ≡ Some d → Fails b.kind modules root d b.spot
TopStops modules ds states top (Call k) =
    (d : Declaration) → slice_get ds top ≡ Some d → IsNextCall modules ds states d k
TopStops modules ds states top OutOfMemory = Unit {0}

-- the protocol at this index follows the rules, and so does each that it calls
abbrev pub WasWalked : List ModuleTree → List Declaration → List State → ℕ → Type 0
WasWalked modules ds states root =
    (d : Declaration) → slice_get ds root ≡ Some d → (s : Summary) × (slice_get states root ≡ Some (Walked s))
    × IsSummary modules d s

-- each protocol has a state, and each summary is correct
pub record AreSummaries (modules : List ModuleTree) (ds : List Declaration) (states : List State) : Type 0 where
  pub all : length states ≡ length ds
  pub each : (k : ℕ) (d : Declaration) (s : Summary) → slice_get ds k ≡ Some d → slice_get states k ≡ Some (Walked s)
      → IsSummary modules d s

-- no walk is under way, and each summary is correct
pub record IsIdle (modules : List ModuleTree) (ds : List Declaration) (states : List State) : Type 0 where
  pub kept : AreSummaries modules ds states
  pub ended : (k : ℕ) → slice_get states k ≢ Some Walking

-- the rule fails in a protocol that is reached from the one at this index
abbrev pub WalkFails : List ModuleTree → List Declaration → ℕ → ElaborateFault → Type 0
WalkFails modules ds root (elaborate.Broken f) =
    (d : Declaration) → slice_get ds root ≡ Some d → (place : Declaration) × Reaches modules d place
    × (f.module ≡ place.home.name) × Fails f.kind modules d place f.spot
WalkFails modules ds root elaborate.OutOfMemory = Unit {0}

-- the fault is that the requested protocol does not exist, or memory was refused
abbrev pub IsAbsentFault : (home : List (List ℕ)) → FaultKind → ElaborateFault → Type 0
IsAbsentFault home k f =
    (f ≡ elaborate.Broken (record { kind = k; «module» = home; spot = no_spot })) ⊎ (f ≡ elaborate.OutOfMemory)

-- the protocol's type will have so many nodes, at most 65,536, and at most 4,096 on a path
pub record IsWithin (modules : List ModuleTree) (d : Declaration) (count : ℕ) : Type 0 where
  pub counted : NodesOf modules d count
  pub small : count ≤ 65536
  pub height : ℕ
  pub measured : HeightOf modules d height
  pub short : height ≤ 4096

-- the same of the protocol at this index
abbrev pub IsSmall : List ModuleTree → List Declaration → ℕ → (count : ℕ) → Type 0
IsSmall modules ds root count = (d : Declaration) → slice_get ds root ≡ Some d → IsWithin modules d count

-- the protocol of this name in the module of this name was found, follows the rules, and its nodes were counted
pub record IsCounted (modules : List ModuleTree) (ds : List Declaration) (root : Declaration) (count : ℕ)
    (home : List (List ℕ)) (name : List ℕ) : Type 0 where
  pub all : ds ≡ declarations modules
  pub there : find_protocol modules home name ≡ Some root
  pub exits : Bool
  pub kept : KeepsRules modules root exits
  pub size : IsWithin modules root count
