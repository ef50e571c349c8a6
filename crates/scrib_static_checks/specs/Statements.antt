-- The rules of statements, and which statements have an exit (this project's own).
use Rattle.std.specs.Prelude.{◌≡◌, ℕ, Bool, true, false, ◌||◌, List, [], ◌∷◌, length, Some}
use Rattle.std.specs.List.{list_all}
use Rattle.scrib_types.specs.declared.message.Message.{Message}
use Rattle.scrib_types.specs.declared.spot.Spot.{Spot}
use Rattle.scrib_types.specs.WellFormed.{has_role, distinct_roles}
use Rattle.scrib_tree.specs.declared.tree.ModuleTree.{ModuleTree}
use Rattle.scrib_static_checks.specs.Source.{Body, Done, Then, Statement, Sends, Chooses, Repeats, Continues, Calls, Blocks, NoBlock, OrBlock}
use Rattle.scrib_static_checks.specs.SourceView.{body_of}
use Rattle.scrib_static_checks.specs.Names.{Declaration, HasOwnNames, roles_of, called}

-- whether all of these are roles
abbrev pub are_roles : (names roles : List (List ℕ)) → Bool
are_roles names roles = list_all (λ r. has_role r roles) names

-- A call passes different roles of the calling protocol, as many as the called protocol has.
pub record IsCall (modules : List ModuleTree) (d : Declaration) (path roles : List (List ℕ))
    (c : Declaration) : Type 0 where
  pub declared : are_roles roles (roles_of d) ≡ true
  pub different : distinct_roles roles ≡ true
  pub there : called modules d.home path ≡ Some c
  pub count : length roles ≡ length c.protocol.roles

mutual
  -- The protocol follows the rules, and so does each that it calls. `exits` is whether its block has an exit. A
  -- derivation is finite, so no protocol calls itself.
  pub data KeepsRules (modules : List ModuleTree) : Declaration → (exits : Bool) → Type 0 where
    protocol_keeps : {d : Declaration} {e : Bool} → HasOwnNames d
        → BlockKeeps modules d [] true (body_of d.protocol.body) e → KeepsRules modules d e

  -- The rest of a block follows the rules, in this protocol and under these recursions. `before` is whether what
  -- precedes it has an exit, and the last test is whether the block has one. No statement follows one without an exit.
  pub data BlockKeeps (modules : List ModuleTree) : Declaration → (recs : List (List ℕ)) → (before : Bool) → Body
      → (exits : Bool) → Type 0 where
    end_keeps : {d : Declaration} {recs : List (List ℕ)} {e : Bool} → BlockKeeps modules d recs e Done e
    then_keeps : {d : Declaration} {recs : List (List ℕ)} {s : Statement} {b : Body} {e f : Bool}
        → StatementKeeps modules d recs s e → BlockKeeps modules d recs e b f
        → BlockKeeps modules d recs true (Then s b) f

  pub data StatementKeeps (modules : List ModuleTree) : Declaration → (recs : List (List ℕ)) → Statement
      → (exits : Bool) → Type 0 where
    -- a message from a role to other roles
    sends_keeps : {d : Declaration} {recs : List (List ℕ)} {m : Message} {p : List ℕ} {qs : List (List ℕ)} {s : Spot}
        → are_roles (p ∷ qs) (roles_of d) ≡ true → has_role p qs ≡ false
        → StatementKeeps modules d recs (Sends m p qs s) true
    chooses_keeps : {d : Declaration} {recs : List (List ℕ)} {p : List ℕ} {bs : Blocks} {s : Spot} {e : Bool}
        → has_role p (roles_of d) ≡ true → BlocksKeep modules d recs bs e
        → StatementKeeps modules d recs (Chooses p bs s) e
    repeats_keeps : {d : Declaration} {recs : List (List ℕ)} {x : List ℕ} {b : Body} {s : Spot} {e : Bool}
        → BlockKeeps modules d (x ∷ recs) true b e → StatementKeeps modules d recs (Repeats x b s) e
    -- a `continue` of a recursion around it
    continues_keeps : {d : Declaration} {recs : List (List ℕ)} {x : List ℕ} {s : Spot} → has_role x recs ≡ true
        → StatementKeeps modules d recs (Continues x s) false
    calls_keeps : {d : Declaration} {recs path roles : List (List ℕ)} {s : Spot} {c : Declaration} {e : Bool}
        → IsCall modules d path roles c → KeepsRules modules c e → StatementKeeps modules d recs (Calls path roles s) e

  -- a choice has an exit if one of its branches has one
  pub data BlocksKeep (modules : List ModuleTree) : Declaration → (recs : List (List ℕ)) → Blocks → (exits : Bool)
      → Type 0 where
    none_keeps : {d : Declaration} {recs : List (List ℕ)} → BlocksKeep modules d recs NoBlock false
    or_keeps : {d : Declaration} {recs : List (List ℕ)} {b : Body} {s : Spot} {bs : Blocks} {e f g : Bool}
        → BlockKeeps modules d recs true b e → BlocksKeep modules d recs bs f → g ≡ (e || f)
        → BlocksKeep modules d recs (OrBlock b s bs) g
