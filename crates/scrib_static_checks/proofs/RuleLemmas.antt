-- A protocol that follows the rules does so at each statement, and never calls itself.
use Rattle.std.proofs.Common.{◌≡◌, ℕ, zero, suc, ◌+◌, ◌<◌, ◌≤◌, Bool, true, false, ◌||◌, List, [], ◌∷◌, Some, refl, sym, ◌∙◌, subst, arith}
use Rattle.scrib_types.specs.declared.message.Message.{Message}
use Rattle.scrib_types.specs.declared.spot.Spot.{Spot}
use Rattle.scrib_types.specs.WellFormed.{has_role}
use Rattle.scrib_tree.specs.declared.tree.ModuleTree.{ModuleTree}
use Rattle.scrib_static_checks.specs.Source.{Body, Done, Then, Statement, Sends, Chooses, Repeats, Continues, Calls, Blocks, NoBlock, OrBlock}
use Rattle.scrib_static_checks.specs.SourceView.{body_of}
use Rattle.scrib_static_checks.specs.Names.{Declaration, HasOwnNames, roles_of, called}
use Rattle.scrib_static_checks.specs.Statements.{are_roles, IsCall, KeepsRules, protocol_keeps, BlockKeeps, end_keeps, then_keeps, StatementKeeps, sends_keeps, chooses_keeps, repeats_keeps, continues_keeps, calls_keeps, BlocksKeep, none_keeps, or_keeps}
use Rattle.scrib_static_checks.specs.Faults.{IsRestOf, here, later, in_choice, in_rec, IsRestOfBlocks, in_this, in_other, HasStatement, Reaches, itself, by_call}

-- the size of a derivation
abbrev mutual
  pub height : {ms : List ModuleTree} {d : Declaration} {e : Bool} → KeepsRules ms d e → ℕ
  height (protocol_keeps n b) = 1 + block_height b

  pub block_height : {ms : List ModuleTree} {d : Declaration} {recs : List (List ℕ)} {e : Bool} {b : Body} {f : Bool} → BlockKeeps ms d recs e b f → ℕ
  block_height end_keeps = 0
  block_height (then_keeps s b) = step_height s + block_height b

  pub step_height : {ms : List ModuleTree} {d : Declaration} {recs : List (List ℕ)} {s : Statement} {f : Bool} → StatementKeeps ms d recs s f → ℕ
  step_height (sends_keeps r o) = 0
  step_height (chooses_keeps p bs) = blocks_height bs
  step_height (repeats_keeps b) = block_height b
  step_height (continues_keeps x) = 0
  step_height (calls_keeps c k) = height k

  pub blocks_height : {ms : List ModuleTree} {d : Declaration} {recs : List (List ℕ)} {bs : Blocks} {f : Bool} → BlocksKeep ms d recs bs f → ℕ
  blocks_height none_keeps = 0
  blocks_height (or_keeps b bs g) = block_height b + blocks_height bs

-- by the first statement

pub record IsThen (ms : List ModuleTree) (d : Declaration) (recs : List (List ℕ)) (e : Bool) (s : Statement) (b : Body) (f : Bool) (h : ℕ) : Type 0 where
  pub before : e ≡ true
  pub leads : Bool
  pub step : StatementKeeps ms d recs s leads
  pub rest : BlockKeeps ms d recs leads b f
  pub low : step_height step + block_height rest ≤ h

pub of_then : {ms : List ModuleTree} {d : Declaration} {recs : List (List ℕ)} {e : Bool} {s : Statement} {b : Body} {f : Bool} (k : BlockKeeps ms d recs e (Then s b) f) → IsThen ms d recs e s b f (block_height k)
of_then (then_keeps {e = e} s b) = record { before = refl; leads = e; step = s; rest = b; low = omega arith }

pub of_chooses : {ms : List ModuleTree} {d : Declaration} {recs : List (List ℕ)} {p : List ℕ} {bs : Blocks} {s : Spot} {e : Bool} (k : StatementKeeps ms d recs (Chooses p bs s) e)
    → (has_role p (roles_of d) ≡ true) × (c : BlocksKeep ms d recs bs e) × (blocks_height c ≤ step_height k)
of_chooses (chooses_keeps p bs) = (p, bs, omega arith)

pub of_repeats : {ms : List ModuleTree} {d : Declaration} {recs : List (List ℕ)} {x : List ℕ} {b : Body} {s : Spot} {e : Bool} (k : StatementKeeps ms d recs (Repeats x b s) e)
    → (c : BlockKeeps ms d (x ∷ recs) true b e) × (block_height c ≤ step_height k)
of_repeats (repeats_keeps b) = (b, omega arith)

pub of_done : {ms : List ModuleTree} {d : Declaration} {recs : List (List ℕ)} {e f : Bool} → BlockKeeps ms d recs e Done f → e ≡ f
of_done end_keeps = refl

pub record IsOr (ms : List ModuleTree) (d : Declaration) (recs : List (List ℕ)) (b : Body) (bs : Blocks) (g : Bool) (h : ℕ) : Type 0 where
  pub this : Bool
  pub others : Bool
  pub block : BlockKeeps ms d recs true b this
  pub blocks : BlocksKeep ms d recs bs others
  pub is : g ≡ (this || others)
  pub low : block_height block + blocks_height blocks ≤ h

pub of_or : {ms : List ModuleTree} {d : Declaration} {recs : List (List ℕ)} {b : Body} {s : Spot} {bs : Blocks} {g : Bool} (k : BlocksKeep ms d recs (OrBlock b s bs) g) → IsOr ms d recs b bs g (blocks_height k)
of_or (or_keeps {e = e} {f = f} b bs i) = record { this = e; others = f; block = b; blocks = bs; is = i; low = omega arith }

pub of_none : {ms : List ModuleTree} {d : Declaration} {recs : List (List ℕ)} {g : Bool} → BlocksKeep ms d recs NoBlock g → g ≡ false
of_none none_keeps = refl

pub of_sends : {ms : List ModuleTree} {d : Declaration} {recs : List (List ℕ)} {m : Message} {p : List ℕ} {qs : List (List ℕ)} {s : Spot} {e : Bool} → StatementKeeps ms d recs (Sends m p qs s) e
    → (are_roles (p ∷ qs) (roles_of d) ≡ true) × (has_role p qs ≡ false) × (e ≡ true)
of_sends (sends_keeps r o) = (r, o, refl)

pub of_continues : {ms : List ModuleTree} {d : Declaration} {recs : List (List ℕ)} {x : List ℕ} {s : Spot} {e : Bool} → StatementKeeps ms d recs (Continues x s) e → (has_role x recs ≡ true) × (e ≡ false)
of_continues (continues_keeps x) = (x, refl)

pub record IsCallOf (ms : List ModuleTree) (d : Declaration) (path roles : List (List ℕ)) (e : Bool) (h : ℕ) : Type 0 where
  pub to : Declaration
  pub call : IsCall ms d path roles to
  pub kept : KeepsRules ms to e
  pub low : height kept ≤ h

pub of_calls : {ms : List ModuleTree} {d : Declaration} {recs path roles : List (List ℕ)} {s : Spot} {e : Bool} (k : StatementKeeps ms d recs (Calls path roles s) e) → IsCallOf ms d path roles e (step_height k)
of_calls (calls_keeps {c = c} i k) = record { to = c; call = i; kept = k; low = omega arith }

pub record IsProtocol (ms : List ModuleTree) (d : Declaration) (e : Bool) (h : ℕ) : Type 0 where
  pub names : HasOwnNames d
  pub block : BlockKeeps ms d [] true (body_of d.protocol.body) e
  pub low : block_height block < h

pub of_protocol : {ms : List ModuleTree} {d : Declaration} {e : Bool} (k : KeepsRules ms d e) → IsProtocol ms d e (height k)
of_protocol (protocol_keeps n b) = record { names = n; block = b; low = omega arith }

-- the rest of a block inside one that follows the rules

pub record IsKeptRest (ms : List ModuleTree) (d : Declaration) (inner : List (List ℕ)) (r : Body) (h : ℕ) : Type 0 where
  pub before : Bool
  pub exits : Bool
  pub kept : BlockKeeps ms d inner before r exits
  pub low : block_height kept ≤ h

abbrev lower : {ms : List ModuleTree} {d : Declaration} {inner : List (List ℕ)} {r : Body} (g h : ℕ) → g ≤ h → IsKeptRest ms d inner r g → IsKeptRest ms d inner r h
lower g h l k = let low : block_height k.kept ≤ h = omega arith in record { before = k.before; exits = k.exits; kept = k.kept; low = low }

mutual
  pub kept_at : {recs inner : List (List ℕ)} {b r : Body} → IsRestOf recs b inner r → (ms : List ModuleTree) (d : Declaration) (e f : Bool) (k : BlockKeeps ms d recs e b f) → IsKeptRest ms d inner r (block_height k)
  kept_at here ms d e f k = record { before = e; exits = f; kept = k; low = omega arith }
  kept_at (later st) ms d e f k =
      let t = of_then k in
      lower (block_height t.rest) (block_height k) (omega arith) (kept_at st ms d t.leads f t.rest)
  kept_at (in_choice st) ms d e f k =
      let t = of_then k in
      let c = of_chooses t.step in
      lower (blocks_height c.1) (block_height k) (omega arith) (kept_in st ms d t.leads c.1)
  kept_at (in_rec st) ms d e f k =
      let t = of_then k in
      let c = of_repeats t.step in
      lower (block_height c.0) (block_height k) (omega arith) (kept_at st ms d true t.leads c.0)

  pub kept_in : {recs inner : List (List ℕ)} {bs : Blocks} {r : Body} → IsRestOfBlocks recs bs inner r → (ms : List ModuleTree) (d : Declaration) (f : Bool) (k : BlocksKeep ms d recs bs f) → IsKeptRest ms d inner r (blocks_height k)
  kept_in (in_this st) ms d f k =
      let t = of_or k in
      lower (block_height t.block) (blocks_height k) (omega arith) (kept_at st ms d true t.this t.block)
  kept_in (in_other st) ms d f k =
      let t = of_or k in
      lower (blocks_height t.blocks) (blocks_height k) (omega arith) (kept_in st ms d t.others t.blocks)

-- a statement of a protocol that follows the rules

pub record IsKeptStatement (ms : List ModuleTree) (d : Declaration) (inner : List (List ℕ)) (s : Statement) (h : ℕ) : Type 0 where
  pub exits : Bool
  pub kept : StatementKeeps ms d inner s exits
  pub low : step_height kept < h

pub step_at : {ms : List ModuleTree} {d : Declaration} {s : Statement} {e : Bool} (k : KeepsRules ms d e) (h : HasStatement d s) → IsKeptStatement ms d h.inner s (height k)
step_at k h =
    let p = of_protocol k in
    let r = kept_at h.occurs _ _ true _ p.block in
    let t = of_then r.kept in
    record { exits = t.leads; kept = t.step; low = omega arith }

-- the called protocol follows the rules, by a smaller derivation
pub record IsCallee (ms : List ModuleTree) (d : Declaration) (path roles : List (List ℕ)) (h : ℕ) : Type 0 where
  pub exits : Bool
  pub to : Declaration
  pub call : IsCall ms d path roles to
  pub kept : KeepsRules ms to exits
  pub low : height kept < h

pub callee : {ms : List ModuleTree} {d : Declaration} {e : Bool} {path roles : List (List ℕ)} {s : Spot} (k : KeepsRules ms d e) → HasStatement d (Calls path roles s) → IsCallee ms d path roles (height k)
callee k h =
    let t = step_at k h in
    let c = of_calls t.kept in
    record { exits = t.exits; to = c.to; call = c.call; kept = c.kept; low = omega arith }

-- what is reached by one more call
pub reaches_on : {ms : List ModuleTree} {a b c : Declaration} {path roles : List (List ℕ)} {s : Spot} → Reaches ms a b → HasStatement b (Calls path roles s) → called ms b.home path ≡ Some c → Reaches ms a c
reaches_on itself h e = by_call h e itself
reaches_on (by_call g f r) h e = by_call g f (reaches_on r h e)

pub reaches_all : {ms : List ModuleTree} {a b c : Declaration} → Reaches ms a b → Reaches ms b c → Reaches ms a c
reaches_all itself r = r
reaches_all (by_call g f q) r = by_call g f (reaches_all q r)

-- a protocol that calls one which leads back to it
pub record IsInCycle (ms : List ModuleTree) (d : Declaration) : Type 0 where
  pub path : List (List ℕ)
  pub roles : List (List ℕ)
  pub spot : Spot
  pub occurs : HasStatement d (Calls path roles spot)
  pub to : Declaration
  pub there : called ms d.home path ≡ Some to
  pub back : Reaches ms to d

-- then the called one is in that cycle too
next_in_cycle : {ms : List ModuleTree} {d c : Declaration} {path roles : List (List ℕ)} {s : Spot} → Reaches ms c d → HasStatement d (Calls path roles s) → called ms d.home path ≡ Some c → IsInCycle ms c
next_in_cycle itself h e = record { path = _; roles = _; spot = _; occurs = h; to = _; there = e; back = itself }
next_in_cycle (by_call g f r) h e = record { path = _; roles = _; spot = _; occurs = g; to = _; there = f; back = reaches_on r h e }

no_cycle_below : (n : ℕ) {ms : List ModuleTree} {d : Declaration} {e : Bool} (k : KeepsRules ms d e) → height k < n → IsInCycle ms d → ⊥
no_cycle_below zero k h c = absurd (omega arith)
no_cycle_below (suc n) {ms = ms} {d = d} k h c =
    let to = callee k c.occurs in
    let same : c.to ≡ to.to = cc (c.there, to.call.there) in
    let below : height to.kept < n = omega (arith, to.low, h) in
    no_cycle_below n to.kept below (next_in_cycle (subst (λ t. Reaches ms t d) same c.back) c.occurs to.call.there)

pub no_cycle : {ms : List ModuleTree} {d : Declaration} {e : Bool} → KeepsRules ms d e → IsInCycle ms d → ⊥
no_cycle k c = no_cycle_below (suc (height k)) k (omega arith) c

-- what is reached from a protocol that follows the rules follows them
pub kept_along : {ms : List ModuleTree} {a b : Declaration} → Reaches ms a b → (e : Bool) → KeepsRules ms a e → (f : Bool) × KeepsRules ms b f
kept_along itself e k = (e, k)
kept_along {ms = ms} {b = b} (by_call {c = c} h there r) e k =
    let to = callee k h in
    let same : to.to ≡ c = cc (there, to.call.there) in
    kept_along r to.exits (subst (λ t. KeepsRules ms t to.exits) same to.kept)

-- a statement has an exit or has none
mutual
  pub exits_same : {ms : List ModuleTree} {d : Declaration} {e : Bool} → KeepsRules ms d e → (f : Bool) → KeepsRules ms d f → e ≡ f
  exits_same (protocol_keeps n b) f k = let v = of_protocol k in block_exits_same b f v.block

  pub block_exits_same : {ms : List ModuleTree} {d : Declaration} {recs : List (List ℕ)} {a : Bool} {b : Body} {e : Bool} → BlockKeeps ms d recs a b e → (f : Bool) → BlockKeeps ms d recs a b f → e ≡ f
  block_exits_same end_keeps f k = of_done k
  block_exits_same {ms = ms} {d = d} {recs = recs} (then_keeps {b = b} {e = e} s r) f k =
      let v = of_then k in
      let same = step_exits_same s v.leads v.step in
      block_exits_same r f (subst (λ x. BlockKeeps ms d recs x b f) (sym same) v.rest)

  pub step_exits_same : {ms : List ModuleTree} {d : Declaration} {recs : List (List ℕ)} {s : Statement} {e : Bool} → StatementKeeps ms d recs s e → (f : Bool) → StatementKeeps ms d recs s f → e ≡ f
  step_exits_same (sends_keeps r o) f k = sym (of_sends k).2
  step_exits_same (chooses_keeps p bs) f k = blocks_exits_same bs f (of_chooses k).1
  step_exits_same (repeats_keeps b) f k = block_exits_same b f (of_repeats k).0
  step_exits_same (continues_keeps x) f k = sym (of_continues k).1
  step_exits_same {ms = ms} (calls_keeps {c = c} i k) f l =
      let v = of_calls l in
      let same : v.to ≡ c = cc (i.there, v.call.there) in
      exits_same k f (subst (λ t. KeepsRules ms t f) same v.kept)

  pub blocks_exits_same : {ms : List ModuleTree} {d : Declaration} {recs : List (List ℕ)} {bs : Blocks} {e : Bool} → BlocksKeep ms d recs bs e → (f : Bool) → BlocksKeep ms d recs bs f → e ≡ f
  blocks_exits_same none_keeps f k = sym (of_none k)
  blocks_exits_same (or_keeps b bs i) f k =
      let v = of_or k in
      let this = block_exits_same b v.this v.block in
      let others = blocks_exits_same bs v.others v.blocks in
      i ∙ (λ j. this j || others j) ∙ sym v.is
