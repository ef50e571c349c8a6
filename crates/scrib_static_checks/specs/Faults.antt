-- When a fault of elaboration may be returned: its rule fails at its position (this project's own).
use Rattle.std.specs.Prelude.{◌≡◌, ◌≢◌, ◌⊎◌, ℕ, ◌+◌, Bool, true, false, ◌||◌, List, [], ◌∷◌, ◌++◌, length, map, slice_get, Some, None}
use Rattle.scrib_types.specs.declared.message.Message.{Message}
use Rattle.scrib_types.specs.declared.spot.Spot.{Spot}
use Rattle.scrib_types.specs.Trees.{GlobalTree, GlobalEnd, GlobalVar, GlobalRec, Comm, GlobalBranches, NoBranch, Branch}
use Rattle.scrib_types.specs.WellFormed.{has_role, distinct_roles, leads_to_communication, has_operator}
use Rattle.scrib_tree.specs.declared.tree.ModuleTree.{ModuleTree}
use Rattle.scrib_tree.specs.declared.tree.Import.{Import}
use Rattle.scrib_tree.specs.declared.tree.ProtocolDeclaration.{ProtocolDeclaration}
use Rattle.scrib_tree.specs.declared.tree.RoleDeclaration.{RoleDeclaration}
use Rattle.scrib_static_checks.specs.declared.fault.FaultKind.{FaultKind}
use Rattle.scrib_static_checks.specs.declared.fault.FaultKind.TheVariants as kind
use Rattle.scrib_static_checks.specs.declared.fault.Fault.{Fault}
use Rattle.scrib_static_checks.specs.declared.fault.ElaborateFault.{ElaborateFault}
use Rattle.scrib_static_checks.specs.declared.fault.ElaborateFault.TheVariants.{Broken, OutOfMemory}
use Rattle.scrib_static_checks.specs.Source.{Body, Done, Then, Statement, Sends, Chooses, Repeats, Continues, Calls, Blocks, NoBlock, OrBlock}
use Rattle.scrib_static_checks.specs.SourceView.{body_of}
use Rattle.scrib_static_checks.specs.Names.{Declaration, has_name, known_by, module_names, roles_of, find_protocol, called_home, called}
use Rattle.scrib_static_checks.specs.Statements.{are_roles, StatementKeeps}
use Rattle.scrib_static_checks.specs.Elaboration.{continues_in, Scope, role_in, inside, inside_call, Frames, Under, Types, start_of}
use Rattle.scrib_static_checks.specs.Sizes.{IsTooLarge}

mutual
  -- The second is the rest of a block inside the first, under these recursions.
  pub data IsRestOf : (recs : List (List ℕ)) → Body → (inner : List (List ℕ)) → Body → Type 0 where
    here : {recs : List (List ℕ)} {b : Body} → IsRestOf recs b recs b
    later : {recs inner : List (List ℕ)} {s : Statement} {b r : Body} → IsRestOf recs b inner r
        → IsRestOf recs (Then s b) inner r
    in_choice : {recs inner : List (List ℕ)} {p : List ℕ} {bs : Blocks} {s : Spot} {b r : Body}
        → IsRestOfBlocks recs bs inner r → IsRestOf recs (Then (Chooses p bs s) b) inner r
    in_rec : {recs inner : List (List ℕ)} {x : List ℕ} {c : Body} {s : Spot} {b r : Body}
        → IsRestOf (x ∷ recs) c inner r → IsRestOf recs (Then (Repeats x c s) b) inner r

  pub data IsRestOfBlocks : (recs : List (List ℕ)) → Blocks → (inner : List (List ℕ)) → Body → Type 0 where
    in_this : {recs inner : List (List ℕ)} {b r : Body} {s : Spot} {bs : Blocks} → IsRestOf recs b inner r
        → IsRestOfBlocks recs (OrBlock b s bs) inner r
    in_other : {recs inner : List (List ℕ)} {b r : Body} {s : Spot} {bs : Blocks} → IsRestOfBlocks recs bs inner r
        → IsRestOfBlocks recs (OrBlock b s bs) inner r

-- the rest of a block is in the protocol, under these recursions of it
abbrev pub IsRestIn : Declaration → (inner : List (List ℕ)) → Body → Type 0
IsRestIn d inner r = IsRestOf [] (body_of d.protocol.body) inner r

-- the protocol contains the statement
pub record HasStatement (d : Declaration) (s : Statement) : Type 0 where
  pub inner : List (List ℕ)
  pub after : Body
  pub occurs : IsRestIn d inner (Then s after)

-- the first protocol is the second or calls it, directly or through others
pub data Reaches (modules : List ModuleTree) : Declaration → Declaration → Type 0 where
  itself : {d : Declaration} → Reaches modules d d
  by_call : {d c e : Declaration} {path roles : List (List ℕ)} {s : Spot} → HasStatement d (Calls path roles s)
      → called modules d.home path ≡ Some c → Reaches modules c e
      → Reaches modules d e

-- an element of the list has the name of an earlier one
pub record IsAgain {X N : Type 0} (name : X → N) (has : N → List N → Bool) (spot_of : X → Spot) (xs : List X)
    (spot : Spot) : Type 0 where
  pub before : List X
  pub again : X
  pub after : List X
  pub here : xs ≡ before ++ again ∷ after
  pub there : spot_of again ≡ spot
  pub twice : has (name again) (map name before) ≡ true

abbrev pub IsTwiceDeclared : Declaration → Spot → Type 0
IsTwiceDeclared d spot =
    IsAgain known_by has_name (λ (i : Import). i.spot) d.home.imports spot
    ⊎ (IsAgain (λ (p : ProtocolDeclaration). p.name) has_role (λ (p : ProtocolDeclaration). p.spot)
    d.home.protocols spot
    ⊎ IsAgain (λ (r : RoleDeclaration). r.name) has_role (λ (r : RoleDeclaration). r.spot) d.protocol.roles spot)

-- the statement at this position names a role that is not declared
pub data HasNoRole (d : Declaration) (spot : Spot) : Type 0 where
  message : {m : Message} {p : List ℕ} {qs : List (List ℕ)} → HasStatement d (Sends m p qs spot)
      → are_roles (p ∷ qs) (roles_of d) ≡ false → HasNoRole d spot
  choice : {p : List ℕ} {bs : Blocks} → HasStatement d (Chooses p bs spot) → has_role p (roles_of d) ≡ false
      → HasNoRole d spot
  call : {path roles : List (List ℕ)} → HasStatement d (Calls path roles spot) → are_roles roles (roles_of d) ≡ false
      → HasNoRole d spot

-- the position of a statement
abbrev pub spot_of : Statement → Spot
spot_of (Sends m p qs s) = s
spot_of (Chooses p bs s) = s
spot_of (Repeats x b s) = s
spot_of (Continues x s) = s
spot_of (Calls path qs s) = s

-- the statement before the one at this position has no exit, and follows the rules
pub record IsUnreachable (modules : List ModuleTree) (d : Declaration) (spot : Spot) : Type 0 where
  pub inner : List (List ℕ)
  pub before : Statement
  pub step : Statement
  pub after : Body
  pub occurs : IsRestIn d inner (Then before (Then step after))
  pub there : spot_of step ≡ spot
  pub none : StatementKeeps modules d inner before false

-- the call at this position is of a protocol that calls the calling one, directly or through others
pub record IsCycle (modules : List ModuleTree) (d : Declaration) (spot : Spot) : Type 0 where
  pub path : List (List ℕ)
  pub roles : List (List ℕ)
  pub occurs : HasStatement d (Calls path roles spot)
  pub to : Declaration
  pub there : called modules d.home path ≡ Some to
  pub back : Reaches modules to d

-- the `continue` at this position is inside no recursion of its name
pub record IsLoose (d : Declaration) (spot : Spot) : Type 0 where
  pub name : List ℕ
  pub inner : List (List ℕ)
  pub after : Body
  pub occurs : IsRestIn d inner (Then (Continues name spot) after)
  pub loose : has_role name inner ≡ false

-- the protocol contains a call at this position, with this path and these roles
abbrev pub CallsAt : Declaration → Spot → (path roles : List (List ℕ)) → Type 0
CallsAt d spot path roles = HasStatement d (Calls path roles spot)

-- the first blocks, then this block, then the others
abbrev pub blocks_before : Blocks → Body → Spot → Blocks → Blocks
blocks_before NoBlock b s bs = OrBlock b s bs
blocks_before (OrBlock c t cs) b s bs = OrBlock c t (blocks_before cs b s bs)

-- the type of the first frames, under so many recursions, is built from the type of the second
pub data Needs (modules : List ModuleTree) : ℕ → Frames → ℕ → Frames → Type 0 where
  needs_itself : {n : ℕ} {fs : Frames} → Needs modules n fs n fs
  needs_close : {n m : ℕ} {sc : Scope} {fs hs : Frames} → Needs modules n fs m hs
      → Needs modules n (Under sc Done fs) m hs
  needs_sends : {n k : ℕ} {sc : Scope} {m : Message} {p : List ℕ} {qs : List (List ℕ)} {s : Spot} {b : Body}
      {fs hs : Frames}
      → Needs modules n (Under sc b fs) k hs → Needs modules n (Under sc (Then (Sends m p qs s) b) fs) k hs
  needs_branch : {n k : ℕ} {sc : Scope} {p : List ℕ} {bs : Blocks} {s : Spot} {b : Body} {fs hs : Frames}
      (before : Blocks) (c : Body) (t : Spot) (after : Blocks)
      → bs ≡ blocks_before before c t after → Needs modules n (Under sc c (Under sc b fs)) k hs
      → Needs modules n (Under sc (Then (Chooses p bs s) b) fs) k hs
  needs_repeats : {n k : ℕ} {sc : Scope} {x : List ℕ} {c : Body} {s : Spot} {b : Body} {fs hs : Frames}
      → continues_in x c ≡ true → Needs modules (n + 1) (Under (inside sc x n) c (Under sc b fs)) k hs
      → Needs modules n (Under sc (Then (Repeats x c s) b) fs) k hs
  needs_passes : {n k : ℕ} {sc : Scope} {x : List ℕ} {c : Body} {s : Spot} {b : Body} {fs hs : Frames}
      → continues_in x c ≡ false → Needs modules n (Under sc c (Under sc b fs)) k hs
      → Needs modules n (Under sc (Then (Repeats x c s) b) fs) k hs
  needs_calls : {n k : ℕ} {sc : Scope} {path roles : List (List ℕ)} {s : Spot} {b : Body} {fs hs : Frames}
      {c : Declaration}
      → called modules sc.within.home path ≡ Some c
      → Needs modules n (Under (inside_call sc c roles) (body_of c.protocol.body) (Under sc b fs)) k hs
      → Needs modules n (Under sc (Then (Calls path roles s) b) fs) k hs

-- the type of the frames `from`, under k recursions, is built from the type of these frames, which begin with this
-- statement of d
pub record IsNeeded (modules : List ModuleTree) (k : ℕ) (from : Frames) (d : Declaration) (s : Statement) (n : ℕ)
    (sc : Scope) (fs : Frames) : Type 0 where
  pub after : Body
  pub outer : Frames
  pub same : fs ≡ Under sc after outer
  pub home : sc.within ≡ d
  pub needs : Needs modules k from n (Under sc (Then s after) outer)

-- the recursion at this position stays one, and its body is not guarded
pub record IsUnguarded (modules : List ModuleTree) (k : ℕ) (from : Frames) (d : Declaration)
    (spot : Spot) : Type 0 where
  pub name : List ℕ
  pub body : Body
  pub depth : ℕ
  pub scope : Scope
  pub follows : Frames
  pub needed : IsNeeded modules k from d (Repeats name body spot) depth scope follows
  pub continued : continues_in name body ≡ true
  pub inner : GlobalTree
  pub typed : Types modules (depth + 1) (Under (inside scope name depth) body follows) inner
  pub unguarded : leads_to_communication inner ≡ false

-- a choice of d, and its branch whose opening brace is at this position and whose type is this one
pub record IsBranchAt (modules : List ModuleTree) (k : ℕ) (from : Frames) (d : Declaration) (spot : Spot) : Type 0 where
  pub chooser : List ℕ
  pub before : Blocks
  pub body : Body
  pub after : Blocks
  pub at : Spot
  pub depth : ℕ
  pub scope : Scope
  pub follows : Frames
  pub needed : IsNeeded modules k from d (Chooses chooser (blocks_before before body spot after) at) depth scope follows
  pub type : GlobalTree
  pub typed : Types modules depth (Under scope body follows) type

-- the choice at this position has no branch
pub record IsWithoutBranch (modules : List ModuleTree) (k : ℕ) (from : Frames) (d : Declaration)
    (spot : Spot) : Type 0 where
  pub chooser : List ℕ
  pub depth : ℕ
  pub scope : Scope
  pub follows : Frames
  pub needed : IsNeeded modules k from d (Chooses chooser NoBlock spot) depth scope follows

-- a block of these means a communication to this receiver with these branches
pub record IsOneOf (modules : List ModuleTree) (n : ℕ) (sc : Scope) (fs : Frames) (bs : Blocks) (p q : List ℕ)
    (cs : GlobalBranches) : Type 0 where
  pub before : Blocks
  pub body : Body
  pub spot : Spot
  pub after : Blocks
  pub here : bs ≡ blocks_before before body spot after
  pub typed : Types modules n (Under sc body fs) (Comm p q cs)

-- the first of these blocks means a communication to this receiver with these branches
pub record IsFirstBlock (modules : List ModuleTree) (n : ℕ) (sc : Scope) (fs : Frames) (bs : Blocks) (p q : List ℕ)
    (cs : GlobalBranches) : Type 0 where
  pub body : Body
  pub spot : Spot
  pub after : Blocks
  pub here : bs ≡ OrBlock body spot after
  pub typed : Types modules n (Under sc body fs) (Comm p q cs)

-- whether the two lists of branches share an operator
abbrev pub share_operator : GlobalBranches → GlobalBranches → Bool
share_operator NoBranch cs = false
share_operator (Branch m g bs) cs = has_operator m.op cs || share_operator bs cs

-- the branch at this position begins with another sender than the chooser
pub record IsOfAnother (modules : List ModuleTree) (k : ℕ) (from : Frames) (d : Declaration)
    (spot : Spot) : Type 0 where
  pub branch : IsBranchAt modules k from d spot
  pub sender : List ℕ
  pub receiver : List ℕ
  pub branches : GlobalBranches
  pub is : branch.type ≡ Comm sender receiver branches
  pub another : sender ≢ role_in branch.scope branch.chooser

-- the branch at this position begins with another receiver than the first one, and both with the chooser as sender
pub record IsToAnother (modules : List ModuleTree) (k : ℕ) (from : Frames) (d : Declaration)
    (spot : Spot) : Type 0 where
  pub branch : IsBranchAt modules k from d spot
  pub receiver : List ℕ
  pub branches : GlobalBranches
  pub is : branch.type ≡ Comm (role_in branch.scope branch.chooser) receiver branches
  pub first_receiver : List ℕ
  pub first_branches : GlobalBranches
  pub first : IsFirstBlock modules branch.depth branch.scope branch.follows branch.before
      (role_in branch.scope branch.chooser) first_receiver first_branches
  pub another : receiver ≢ first_receiver

-- The branch at this position begins with an operator with which an earlier one begins, both by the chooser and to one
-- receiver.
pub record IsSameOperator (modules : List ModuleTree) (k : ℕ) (from : Frames) (d : Declaration)
    (spot : Spot) : Type 0 where
  pub branch : IsBranchAt modules k from d spot
  pub receiver : List ℕ
  pub branches : GlobalBranches
  pub is : branch.type ≡ Comm (role_in branch.scope branch.chooser) receiver branches
  pub earlier_branches : GlobalBranches
  pub earlier : IsOneOf modules branch.depth branch.scope branch.follows branch.before
      (role_in branch.scope branch.chooser) receiver earlier_branches
  pub shared : share_operator earlier_branches branches ≡ true

-- The rule of this kind, if it is one of types, fails in d at this position, for the type of the frames `from`.
abbrev pub FailsTyping : FaultKind → (modules : List ModuleTree) (k : ℕ) (from : Frames) (d : Declaration) → Spot
    → Type 0
FailsTyping kind.Unguarded modules k from d spot = IsUnguarded modules k from d spot
FailsTyping kind.EmptyBranch modules k from d spot =
    ((b : IsBranchAt modules k from d spot) × (b.type ≡ GlobalEnd)) ⊎ IsWithoutBranch modules k from d spot
FailsTyping kind.ContinueHead modules k from d spot =
    (b : IsBranchAt modules k from d spot) × (n : ℕ) × (b.type ≡ GlobalVar n)
FailsTyping kind.RecHead modules k from d spot =
    (b : IsBranchAt modules k from d spot) × (g : GlobalTree) × (b.type ≡ GlobalRec g)
FailsTyping kind.NotChooser modules k from d spot = IsOfAnother modules k from d spot
FailsTyping kind.TwoReceivers modules k from d spot = IsToAnother modules k from d spot
FailsTyping kind.SameOperator modules k from d spot = IsSameOperator modules k from d spot
FailsTyping other modules k from d spot = ⊥

-- The rule of this kind fails in d at this position, where the root is the requested protocol.
abbrev pub Fails : FaultKind → (modules : List ModuleTree) (root d : Declaration) → Spot → Type 0
Fails kind.NoModule modules root d spot =
    (path roles : List (List ℕ)) × CallsAt d spot path roles × (called_home modules d.home path ≡ None)
Fails kind.NoProtocol modules root d spot =
    (path roles : List (List ℕ)) × CallsAt d spot path roles × (called_home modules d.home path ≢ None)
    × (called modules d.home path ≡ None)
Fails kind.TwiceDeclared modules root d spot = IsTwiceDeclared d spot
Fails kind.NoRole modules root d spot = HasNoRole d spot
Fails kind.RepeatedRole modules root d spot =
    (path roles : List (List ℕ)) × CallsAt d spot path roles × (distinct_roles roles ≡ false)
Fails kind.WrongCount modules root d spot =
    (path roles : List (List ℕ)) × (c : Declaration) × CallsAt d spot path roles × (called modules d.home path ≡ Some c)
    × (length roles ≢ length c.protocol.roles)
Fails kind.SelfMessage modules root d spot =
    (m : Message) × (p : List ℕ) × (qs : List (List ℕ)) × HasStatement d (Sends m p qs spot) × (has_role p qs ≡ true)
Fails kind.DoCycle modules root d spot = IsCycle modules d spot
Fails kind.NoRec modules root d spot = IsLoose d spot
Fails kind.Unguarded modules root d spot = FailsTyping kind.Unguarded modules 0 (start_of root) d spot
Fails kind.Unreachable modules root d spot = IsUnreachable modules d spot
Fails kind.EmptyBranch modules root d spot = FailsTyping kind.EmptyBranch modules 0 (start_of root) d spot
Fails kind.ContinueHead modules root d spot = FailsTyping kind.ContinueHead modules 0 (start_of root) d spot
Fails kind.RecHead modules root d spot = FailsTyping kind.RecHead modules 0 (start_of root) d spot
Fails kind.NotChooser modules root d spot = FailsTyping kind.NotChooser modules 0 (start_of root) d spot
Fails kind.TwoReceivers modules root d spot = FailsTyping kind.TwoReceivers modules 0 (start_of root) d spot
Fails kind.SameOperator modules root d spot = FailsTyping kind.SameOperator modules 0 (start_of root) d spot
-- the position of the 65th role
Fails kind.TooManyRoles modules root d spot =
    (r : RoleDeclaration) × (slice_get d.protocol.roles 64 ≡ Some r) × (r.spot ≡ spot)
-- only of the requested protocol
Fails kind.TooLarge modules root d spot = (d ≡ root) × IsTooLarge modules d × (d.protocol.spot ≡ spot)

abbrev pub no_spot : Spot
no_spot = record { line = 0; column = 0 }

-- the requested protocol does not exist
abbrev pub IsAbsent : List ModuleTree → (home : List (List ℕ)) (name : List ℕ) → FaultKind → Type 0
IsAbsent modules home name k =
    ((k ≡ kind.NoModule) × (has_name home (module_names modules) ≡ false))
    ⊎ ((k ≡ kind.NoProtocol) × (has_name home (module_names modules) ≡ true) × (find_protocol modules home name ≡ None))

-- the rule fails in a protocol that the requested one reaches
pub record IsInside (modules : List ModuleTree) (home : List (List ℕ)) (name : List ℕ) (f : Fault) : Type 0 where
  pub root : Declaration
  pub there : find_protocol modules home name ≡ Some root
  pub place : Declaration
  pub reached : Reaches modules root place
  pub named : f.module ≡ place.home.name
  pub fails : Fails f.kind modules root place f.spot

-- the fault's rule fails in its module at its position
abbrev pub IsBroken : List ModuleTree → (home : List (List ℕ)) (name : List ℕ) → Fault → Type 0
IsBroken modules home name f =
    (IsAbsent modules home name f.kind × (f.module ≡ home) × (f.spot ≡ no_spot)) ⊎ IsInside modules home name f

-- the fault's rule fails in its module at its position, or memory was refused
abbrev pub FailsAt : List ModuleTree → (home : List (List ℕ)) (name : List ℕ) → ElaborateFault → Type 0
FailsAt modules home name (Broken f) = IsBroken modules home name f
FailsAt modules home name OutOfMemory = Unit {0}
