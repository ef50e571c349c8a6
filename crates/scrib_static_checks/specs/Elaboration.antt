-- The meaning of a declared protocol (this project's own, after the Scribble Language Reference 0.3).
use Rattle.std.specs.Prelude.{◌≡◌, ℕ, ◌+◌, ◌≤◌, Bool, true, false, ◌||◌, List, [], ◌∷◌, map, Option, Some, None, if◌then◌else◌}
use Rattle.std.specs.Str.{bytes_eq}
use Rattle.scrib_types.specs.declared.message.Message.{Message}
use Rattle.scrib_types.specs.declared.spot.Spot.{Spot}
use Rattle.scrib_types.specs.Agreement.{Agreement}
pub use Rattle.scrib_types.specs.Nodes.{global_nodes, branch_nodes, global_height, branch_height}
use Rattle.scrib_types.specs.Trees.{GlobalTree, GlobalEnd, GlobalVar, GlobalRec, Comm, GlobalBranches, NoBranch, Branch}
use Rattle.scrib_types.specs.WellFormed.{leads_to_communication, distinct_operators, has_branches}
use Rattle.scrib_tree.specs.declared.tree.ModuleTree.{ModuleTree}
use Rattle.scrib_static_checks.specs.Source.{Body, Done, Then, Statement, Sends, Chooses, Repeats, Continues, Calls, Blocks, NoBlock, OrBlock}
use Rattle.scrib_static_checks.specs.SourceView.{body_of}
use Rattle.scrib_static_checks.specs.Names.{Declaration, roles_of, find_protocol, called}
use Rattle.scrib_static_checks.specs.Statements.{KeepsRules}

-- whether the block contains a `continue` of this recursion, and not of an inner recursion of the same name
abbrev mutual
  pub continues_in : List ℕ → Body → Bool
  continues_in x Done = false
  continues_in x (Then s b) = continues_at x s || continues_in x b

  pub continues_at : List ℕ → Statement → Bool
  continues_at x (Sends m p qs s) = false
  continues_at x (Chooses p bs s) = continues_some x bs
  continues_at x (Repeats y b s) = if bytes_eq x y then false else continues_in x b
  continues_at x (Continues y s) = bytes_eq x y
  continues_at x (Calls path qs s) = false

  pub continues_some : List ℕ → Blocks → Bool
  continues_some x NoBlock = false
  continues_some x (OrBlock b s bs) = continues_in x b || continues_some x bs

-- The scope of statements: their protocol, the roles passed for its roles by position, and the recursions around them,
-- the innermost first. Each recursion has the number of recursions around it in the type.
pub record Scope : Type 0 where
  pub within : Declaration
  pub given : List (List ℕ)
  pub recs : List (List ℕ × ℕ)

-- the role that is passed for this one
abbrev pub given_for : (declared given : List (List ℕ)) → List ℕ → List ℕ
given_for [] gs r = r
given_for (d ∷ ds) [] r = r
given_for (d ∷ ds) (g ∷ gs) r = if bytes_eq r d then g else given_for ds gs r

-- the role that is passed for this one in the scope
abbrev pub role_in : Scope → List ℕ → List ℕ
role_in sc r = given_for (roles_of sc.within) sc.given r

-- how many recursions are around the one of this name
abbrev pub level_of : List ℕ → List (List ℕ × ℕ) → Option ℕ
level_of x [] = None
level_of x (r ∷ rs) = if bytes_eq x r.0 then Some r.1 else level_of x rs

-- the scope inside a recursion that has n recursions around it
abbrev pub inside : Scope → List ℕ → ℕ → Scope
inside sc x n = record { within = sc.within; given = sc.given; recs = (x, n) ∷ sc.recs }

-- the scope inside a called protocol
abbrev pub inside_call : Scope → Declaration → (roles : List (List ℕ)) → Scope
inside_call sc c roles = record { within = c; given = map (role_in sc) roles; recs = [] }

-- the rest of each open block, from the innermost
pub data Frames : Type 0 where
  NoFrame : Frames
  Under : Scope → Body → Frames → Frames

-- the type with one message to each receiver in turn in front
abbrev pub prefix_message : Message → (sender : List ℕ) (receivers : List (List ℕ)) → GlobalTree → GlobalTree
prefix_message m p [] g = g
prefix_message m p (q ∷ qs) g = Comm p q (Branch m (prefix_message m p qs g) NoBranch)

-- the first branches followed by the second
abbrev pub and_branches : GlobalBranches → GlobalBranches → GlobalBranches
and_branches NoBranch cs = cs
and_branches (Branch m g bs) cs = Branch m g (and_branches bs cs)

mutual
  -- The statements of the frames, one after the other, mean this type, under n recursions.
  pub data Types (modules : List ModuleTree) : ℕ → Frames → GlobalTree → Type 0 where
    -- nothing follows
    ends : {n : ℕ} → Types modules n NoFrame GlobalEnd
    -- a block's end: what follows the block
    closes : {n : ℕ} {sc : Scope} {fs : Frames} {g : GlobalTree} → Types modules n fs g
        → Types modules n (Under sc Done fs) g
    sends : {n : ℕ} {sc : Scope} {m : Message} {p : List ℕ} {qs : List (List ℕ)} {s : Spot} {b : Body} {fs : Frames}
        {g h : GlobalTree}
        → Types modules n (Under sc b fs) g → h ≡ prefix_message m (role_in sc p) (map (role_in sc) qs) g
        → Types modules n (Under sc (Then (Sends m p qs s) b) fs) h
    -- a communication with the branches of all blocks, with different operators
    chooses : {n : ℕ} {sc : Scope} {p : List ℕ} {bs : Blocks} {s : Spot} {b : Body} {fs : Frames} {q : List ℕ}
        {cs : GlobalBranches} {h : GlobalTree}
        → JoinsTo modules n sc bs (Under sc b fs) (role_in sc p) q cs → has_branches cs ≡ true
        → distinct_operators cs ≡ true → h ≡ Comm (role_in sc p) q cs
        → Types modules n (Under sc (Then (Chooses p bs s) b) fs) h
    -- a recursion that is continued and guarded
    repeats : {n : ℕ} {sc : Scope} {x : List ℕ} {c : Body} {s : Spot} {b : Body} {fs : Frames} {g h : GlobalTree}
        → continues_in x c ≡ true → Types modules (n + 1) (Under (inside sc x n) c (Under sc b fs)) g
        → leads_to_communication g ≡ true → h ≡ GlobalRec g
        → Types modules n (Under sc (Then (Repeats x c s) b) fs) h
    -- a recursion that is not continued leaves no recursion in the type
    passes : {n : ℕ} {sc : Scope} {x : List ℕ} {c : Body} {s : Spot} {b : Body} {fs : Frames} {g : GlobalTree}
        → continues_in x c ≡ false → Types modules n (Under sc c (Under sc b fs)) g
        → Types modules n (Under sc (Then (Repeats x c s) b) fs) g
    -- the recursion's variable: what follows is dropped
    continues : {n : ℕ} {sc : Scope} {x : List ℕ} {s : Spot} {b : Body} {fs : Frames} {k i : ℕ} {h : GlobalTree}
        → level_of x sc.recs ≡ Some k → n ≡ k + 1 + i → h ≡ GlobalVar i
        → Types modules n (Under sc (Then (Continues x s) b) fs) h
    -- the called block, followed by the rest
    calls : {n : ℕ} {sc : Scope} {path roles : List (List ℕ)} {s : Spot} {b : Body} {fs : Frames} {c : Declaration}
        {g : GlobalTree}
        → called modules sc.within.home path ≡ Some c
        → Types modules n (Under (inside_call sc c roles) (body_of c.protocol.body) (Under sc b fs)) g
        → Types modules n (Under sc (Then (Calls path roles s) b) fs) g

  -- each block, followed by the frames, means a communication from p to q, and these are the branches of all
  pub data JoinsTo (modules : List ModuleTree) : ℕ → Scope → Blocks → Frames → (p q : List ℕ) → GlobalBranches
      → Type 0 where
    joins_none : {n : ℕ} {sc : Scope} {fs : Frames} {p q : List ℕ} → JoinsTo modules n sc NoBlock fs p q NoBranch
    joins : {n : ℕ} {sc : Scope} {b : Body} {s : Spot} {bs : Blocks} {fs : Frames} {p q : List ℕ} {g : GlobalTree}
        {cs ds es : GlobalBranches}
        → Types modules n (Under sc b fs) g → g ≡ Comm p q cs → JoinsTo modules n sc bs fs p q ds
        → es ≡ and_branches cs ds
        → JoinsTo modules n sc (OrBlock b s bs) fs p q es

-- the number of ends, variables, recursions and communications of a type
abbrev pub nodes : GlobalTree → ℕ
nodes = global_nodes

-- the number of nodes on the longest path from the root to an end or a variable
abbrev pub height : GlobalTree → ℕ
height = global_height

-- the frames and the scope at the beginning of a protocol
abbrev pub start_of : Declaration → Frames
start_of d = Under (record { within = d; given = roles_of d; recs = [] }) (body_of d.protocol.body) NoFrame

-- the protocol of this name, in the module of this name, means this type
pub record Elaborates (modules : List ModuleTree) (home : List (List ℕ)) (name : List ℕ) (a : Agreement) : Type 0 where
  pub declaration : Declaration
  pub there : find_protocol modules home name ≡ Some declaration
  pub exits : Bool
  pub kept : KeepsRules modules declaration exits
  pub typed : Types modules 0 (start_of declaration) a.global
  pub small : nodes a.global ≤ 65536
  pub short : height a.global ≤ 4096
  pub roles : a.roles ≡ roles_of declaration
