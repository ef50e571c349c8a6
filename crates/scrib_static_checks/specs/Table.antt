-- What the tables of a walk represent. Only contracts of this crate, and of private functions of `scrib_elaborate`,
-- cite this file.
use Rattle.std.specs.Prelude.{◌≡◌, ◌⊎◌, ℕ, ◌<◌, Bool, true, false, List, ◌∷◌, ◌++◌, length, map, slice_get, Some}
use Rattle.scrib_static_checks.specs.declared.declared.Declaration.{Declaration as CodeDeclaration}
use Rattle.scrib_types.specs.declared.spot.Spot.{Spot}
use Rattle.scrib_types.specs.WellFormed.{has_role}
use Rattle.scrib_tree.specs.declared.tree.ModuleTree.{ModuleTree}
use Rattle.scrib_tree.specs.declared.tree.Import.{Import}
use Rattle.scrib_tree.specs.declared.tree.ProtocolDeclaration.{ProtocolDeclaration}
use Rattle.scrib_tree.specs.declared.tree.RoleDeclaration.{RoleDeclaration}
use Rattle.scrib_static_checks.specs.declared.fault.FaultKind.TheVariants as kind
use Rattle.scrib_static_checks.specs.declared.checking.BrokenRule.{BrokenRule}
use Rattle.scrib_static_checks.specs.declared.checking.EnclosingRec.{EnclosingRec}
use Rattle.scrib_static_checks.specs.declared.checking.State.TheVariants.{Unwalked, Walking, Walked}
use Rattle.scrib_static_checks.specs.declared.checking.CheckError.{CheckError}
use Rattle.scrib_static_checks.specs.declared.checking.CheckError.TheVariants.{Broken, Call, OutOfMemory}
use Rattle.scrib_static_checks.specs.declared.checking.CheckContext.{CheckContext}
use Rattle.scrib_static_checks.specs.declared.checking.Summary.{Summary}
use Rattle.scrib_static_checks.specs.ProtocolIndex.{IsProtocolIndex}
use Rattle.scrib_static_checks.specs.SourceView.{body_of}
use Rattle.scrib_static_checks.specs.SizeFunctions.{BlockHasSize}
use Rattle.scrib_static_checks.specs.CallEffect.{HasEffect}
use Rattle.scrib_static_checks.specs.Source.{Body, Then, Statement, Blocks, Calls}
use Rattle.scrib_static_checks.specs.Names.{Declaration, dotted_eq, has_name, has_checked_names, known_by, module_names, first_where, declarations, called}
use Rattle.scrib_static_checks.specs.Statements.{KeepsRules, StatementKeeps}
use Rattle.scrib_static_checks.specs.Faults.{IsRestOf, IsRestOfBlocks, IsRestIn, HasStatement, Reaches, IsAgain, Fails}

-- the value of a declared protocol
abbrev pub declaration_of : CodeDeclaration → Declaration
declaration_of d = record { home = d.home.now; protocol = d.protocol.now }

-- `names_checked` of a declared protocol is whether its module's names are checked already
abbrev pub HasCheckedNames : CodeDeclaration → Type 0
HasCheckedNames d = d.names_checked ≡ has_checked_names d.home.now

-- the values of declared protocols
abbrev pub shown : List CodeDeclaration → List Declaration
shown ds = map declaration_of ds

-- the first declaration that passes the test is at this index
pub record IsFound (ds : List Declaration) (test : Declaration → Bool) (k : ℕ) : Type 0 where
  pub found : Declaration
  pub there : slice_get ds k ≡ Some found
  pub first : first_where test ds ≡ Some found

-- a protocol of this name, in the module of this name, is at this index
pub record IsNamed (ds : List Declaration) (k : ℕ) (home : List (List ℕ)) (name : List ℕ) : Type 0 where
  pub found : Declaration
  pub there : slice_get ds k ≡ Some found
  pub home_is : found.home.name ≡ home
  pub name_is : found.protocol.name ≡ name

-- the first module of this name is at this index
pub record IsPlace (ms : List ModuleTree) (name : List (List ℕ)) (k : ℕ) : Type 0 where
  pub before : List ModuleTree
  pub here : ModuleTree
  pub after : List ModuleTree
  pub is : ms ≡ before ++ here ∷ after
  pub at : k ≡ length before
  pub named : dotted_eq name here.name ≡ true
  pub first : has_name name (module_names before) ≡ false

-- the names of the recursions around a statement, the innermost first
abbrev pub enclosing_names : List EnclosingRec → List (List ℕ)
enclosing_names rs = map (λ (r : EnclosingRec). r.name.now) rs

-- the protocol whose statements are checked
abbrev pub protocol_at : CheckContext → Declaration
protocol_at p = declaration_of p.at

-- the protocol whose statements are checked is at this index of the table
abbrev pub IsOwnPlace : CheckContext → ℕ → Type 0
IsOwnPlace p k = slice_get (shown p.declared.now) k ≡ Some (protocol_at p)

-- the summary of a protocol that was walked is correct
pub record IsSummary (modules : List ModuleTree) (d : Declaration) (s : Summary) : Type 0 where
  pub kept : KeepsRules modules d s.exits
  pub has_size : BlockHasSize modules d (body_of d.protocol.body) s.size
  pub has_effect : HasEffect modules d (body_of d.protocol.body) s.effect

-- The table has all protocols of the modules, and the index is of them. One that was walked follows the rules, and one
-- that is being walked leads to the protocol that is checked.
pub record IsConsistent (p : CheckContext) : Type 0 where
  pub all : shown p.declared.now ≡ declarations p.modules.now
  pub indexed : IsProtocolIndex (shown p.declared.now) p.protocol_index.now.slots.items
  pub states : length p.states.now ≡ length p.declared.now
  pub walked : (k : ℕ) (d : Declaration) (s : Summary) → slice_get (shown p.declared.now) k ≡ Some d
      → slice_get p.states.now k ≡ Some (Walked s) → IsSummary p.modules.now d s
  pub walking : (k : ℕ) (d : Declaration) → slice_get (shown p.declared.now) k ≡ Some d
      → slice_get p.states.now k ≡ Some Walking → Reaches p.modules.now d (protocol_at p)

-- the block, under these recursions, is a part of the protocol
abbrev pub IsPart : Declaration → (recs : List (List ℕ)) → Body → Type 0
IsPart d recs b = (inner : List (List ℕ)) (r : Body) → IsRestOf recs b inner r → IsRestIn d inner r

-- the blocks of a choice, under these recursions, are a part of the protocol
abbrev pub AreParts : Declaration → (recs : List (List ℕ)) → Blocks → Type 0
AreParts d recs bs = (inner : List (List ℕ)) (r : Body) → IsRestOfBlocks recs bs inner r → IsRestIn d inner r

-- a block, a statement or the blocks of a choice are somewhere in the protocol

-- the block is somewhere in the protocol
abbrev pub IsPartSomewhere : Declaration → Body → Type 0
IsPartSomewhere d b = (recs : List (List ℕ)) × IsPart d recs b

abbrev pub IsStatementSomewhere : Declaration → Statement → Type 0
IsStatementSomewhere d s = (recs : List (List ℕ)) × (rest : Body) × IsPart d recs (Then s rest)

abbrev pub AreSomewhere : Declaration → Blocks → Type 0
AreSomewhere d bs = (recs : List (List ℕ)) × AreParts d recs bs

-- the call at this position follows the rules, and the summary is that of the called protocol
pub record IsCallKept (p : CheckContext) (path roles : List (List ℕ)) (spot : Spot) (s : Summary) : Type 0 where
  pub keeps : (recs : List (List ℕ)) → StatementKeeps p.modules.now (protocol_at p) recs (Calls path roles spot) s.exits
  pub to : Declaration
  pub there : called p.modules.now p.at.home.now path ≡ Some to
  pub has_size : BlockHasSize p.modules.now to (body_of to.protocol.body) s.size
  pub has_effect : HasEffect p.modules.now to (body_of to.protocol.body) s.effect

-- the protocol that a call of this path names is at this index of the table
pub record IsEntry (p : CheckContext) (path : List (List ℕ)) (k : ℕ) : Type 0 where
  pub to : Declaration
  pub at : slice_get (shown p.declared.now) k ≡ Some to
  pub there : called p.modules.now p.at.home.now path ≡ Some to
  pub within : k < length p.declared.now
  pub stated : k < length p.states.now

-- the protocol at this index of the table is called there and was not walked
pub record IsUnwalkedCall (p : CheckContext) (k : ℕ) : Type 0 where
  pub path : List (List ℕ)
  pub roles : List (List ℕ)
  pub spot : Spot
  pub occurs : HasStatement (protocol_at p) (Calls path roles spot)
  pub to : Declaration
  pub there : called p.modules.now p.at.home.now path ≡ Some to
  pub at : slice_get (shown p.declared.now) k ≡ Some to
  pub unwalked : slice_get p.states.now k ≡ Some Unwalked

-- the reason for which the check of a protocol's statements stops
abbrev pub StopsAt : CheckContext → CheckError → Type 0
StopsAt p (Broken b) = (root : Declaration) → Fails b.kind p.modules.now root (protocol_at p) b.spot
StopsAt p (Call k) = IsUnwalkedCall p k
StopsAt p OutOfMemory = Unit {0}

-- an import, or a protocol, of the module, declared at this position, has the name of an earlier one
abbrev pub IsImportAgain : ModuleTree → Spot → Type 0
IsImportAgain m spot = IsAgain known_by has_name (λ (i : Import). i.spot) m.imports spot

abbrev pub IsProtocolAgain : ModuleTree → Spot → Type 0
IsProtocolAgain m spot =
    IsAgain (λ (p : ProtocolDeclaration). p.name) has_role (λ (p : ProtocolDeclaration). p.spot) m.protocols spot

-- the broken rule is one about the roles
abbrev pub FailsRoles : ProtocolDeclaration → BrokenRule → Type 0
FailsRoles p b =
    ((b.kind ≡ kind.TwiceDeclared) × IsAgain (λ (r : RoleDeclaration). r.name) has_role
    (λ (r : RoleDeclaration). r.spot) p.roles b.spot)
    ⊎ ((b.kind ≡ kind.TooManyRoles) × (r : RoleDeclaration) × (slice_get p.roles 64 ≡ Some r) × (r.spot ≡ b.spot))

-- the broken rule fails in the protocol, for any other modules
abbrev pub FailsNames : Declaration → BrokenRule → Type 0
FailsNames d b = (modules : List ModuleTree) (root : Declaration) → Fails b.kind modules root d b.spot
