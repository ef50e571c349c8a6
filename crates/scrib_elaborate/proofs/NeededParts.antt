-- What the type of frames is built from, and which faults of types are theirs.
use Rattle.std.proofs.Common.{◌≡◌, inl, inr, ℕ, zero, suc, ◌+◌, ◌-◌, ◌≤◌, Bool, true, false, List, Some, refl, sym, ap, ◌∙◌, subst, ⊎_elim, arith}
use Rattle.std.proofs.lemmas.Bool.{false≢true, or_cases}
use Rattle.scrib_types.specs.declared.spot.Spot.{Spot}
use Rattle.scrib_types.specs.Trees.{GlobalBranches}
use Rattle.scrib_tree.specs.declared.tree.ModuleTree.{ModuleTree}
use Rattle.scrib_static_checks.specs.declared.fault.FaultKind.{FaultKind}
use Rattle.scrib_static_checks.specs.declared.fault.FaultKind.TheVariants as kind
use Rattle.scrib_static_checks.specs.Source.{Body, Then, Statement, Repeats, Blocks, NoBlock, OrBlock}
use Rattle.scrib_static_checks.specs.Names.{Declaration, called}
use Rattle.scrib_static_checks.specs.Statements.{protocol_keeps, BlockKeeps, end_keeps, then_keeps, StatementKeeps, sends_keeps, chooses_keeps, repeats_keeps, continues_keeps, calls_keeps, BlocksKeep, none_keeps, or_keeps}
use Rattle.scrib_static_checks.specs.Elaboration.{continues_in, Scope, inside, inside_call, Frames, Under, Types}
use Rattle.scrib_static_checks.specs.Faults.{blocks_before, Needs, needs_itself, needs_close, needs_sends, needs_branch, needs_repeats, needs_passes, needs_calls, IsNeeded, IsBranchAt, IsOneOf, IsFirstBlock, FailsTyping}
use Rattle.scrib_type_builder.specs.Shifting.{shifted, branches_shifted}
use Rattle.scrib_elaborate.specs.Levels.{AreBelow}
use Rattle.scrib_elaborate.proofs.ShiftLemmas.{raised_scope, raised, inside_raised, shift_types, leads_shifted, share_shifted, raised_stay, below_more}

pub needs_trans : {ms : List ModuleTree} {n m k : ℕ} {fs gs hs : Frames} → Needs ms n fs m gs → Needs ms m gs k hs → Needs ms n fs k hs
needs_trans needs_itself v = v
needs_trans (needs_close u) v = needs_close (needs_trans u v)
needs_trans (needs_sends u) v = needs_sends (needs_trans u v)
needs_trans (needs_branch before c t after e u) v = needs_branch before c t after e (needs_trans u v)
needs_trans (needs_repeats e u) v = needs_repeats e (needs_trans u v)
needs_trans (needs_passes e u) v = needs_passes e (needs_trans u v)
needs_trans (needs_calls e u) v = needs_calls e (needs_trans u v)

-- under no fewer recursions
pub needs_deeper : {ms : List ModuleTree} {n m : ℕ} {fs hs : Frames} → Needs ms n fs m hs → n ≤ m
needs_deeper needs_itself = omega arith
needs_deeper (needs_close u) = needs_deeper u
needs_deeper (needs_sends u) = needs_deeper u
needs_deeper (needs_branch before c t after e u) = needs_deeper u
needs_deeper (needs_repeats e u) = omega (arith, needs_deeper u)
needs_deeper (needs_passes e u) = needs_deeper u
needs_deeper (needs_calls e u) = needs_deeper u

pub needs_below : {ms : List ModuleTree} {n m : ℕ} {fs hs : Frames} → Needs ms n fs m hs → AreBelow n fs → AreBelow m hs
needs_below needs_itself low = low
needs_below (needs_close u) low = needs_below u low.1
needs_below (needs_sends u) low = needs_below u low
needs_below (needs_branch before c t after e u) low = needs_below u (low.0, low)
needs_below (needs_repeats {n = n} {sc = sc} {b = b} {fs = fs} e u) low =
    let more : AreBelow (n + 1) (Under sc b fs) = below_more n (n + 1) (Under sc b fs) (omega arith) low in
    needs_below u ((omega arith, more.0), more)
needs_below (needs_passes e u) low = needs_below u (low.0, low)
needs_below (needs_calls e u) low = needs_below u (tt, low)

-- under one more recursion
pub needs_raised : {ms : List ModuleTree} {n m : ℕ} {fs hs : Frames} → Needs ms n fs m hs → (c : ℕ) → c ≤ n → Needs ms (n + 1) (raised c fs) (m + 1) (raised c hs)
needs_raised needs_itself c l = needs_itself
needs_raised (needs_close u) c l = needs_close (needs_raised u c l)
needs_raised (needs_sends u) c l = needs_sends (needs_raised u c l)
needs_raised (needs_branch before b t after e u) c l = needs_branch before b t after e (needs_raised u c l)
needs_raised {ms = ms} (needs_repeats {n = n} {k = m} {sc = sc} {x = x} {c = body} {b = b} {fs = fs} {hs = hs} e u) c l =
    needs_repeats e (subst (λ s. Needs ms (n + 1 + 1) (Under s body (Under (raised_scope c sc) b (raised c fs))) (m + 1) (raised c hs)) (inside_raised c n sc x l) (needs_raised u c (omega arith)))
needs_raised (needs_passes e u) c l = needs_passes e (needs_raised u c l)
needs_raised (needs_calls e u) c l = needs_calls e (needs_raised u c l)

-- the type of statements with an exit is built from that of what follows them

pub leads_before : {ms : List ModuleTree} {d : Declaration} {recs : List (List ℕ)} {e f : Bool} {b : Body} → BlockKeeps ms d recs e b f → f ≡ true → e ≡ true
leads_before end_keeps h = h
leads_before (then_keeps s r) h = refl

-- one of the blocks leads on
record IsLed (ms : List ModuleTree) (n : ℕ) (sc : Scope) (bs : Blocks) (fs : Frames) : Type 0 where
  before : Blocks
  block : Body
  spot : Spot
  after : Blocks
  is : bs ≡ blocks_before before block spot after
  depth : ℕ
  needs : Needs ms n (Under sc block fs) depth fs

-- a recursion that is continued, and one that is not
rec_body : {ms : List ModuleTree} {n : ℕ} {sc : Scope} {x : List ℕ} {c : Body} {s : Spot} {b : Body} {fs hs : Frames} (t : Bool) → continues_in x c ≡ t
    → (m : ℕ) × Needs ms (n + 1) (Under (inside sc x n) c (Under sc b fs)) m hs → (m : ℕ) × Needs ms n (Under sc c (Under sc b fs)) m hs
    → (m : ℕ) × Needs ms n (Under sc (Then (Repeats x c s) b) fs) m hs
rec_body true e stays goes = (stays.0, needs_repeats e stays.1)
rec_body false e stays goes = (goes.0, needs_passes e goes.1)

mutual
  pub leads_block : {ms : List ModuleTree} {d : Declaration} {recs : List (List ℕ)} {e f : Bool} {b : Body} → BlockKeeps ms d recs e b f → f ≡ true
      → (sc : Scope) → sc.within ≡ d → (n : ℕ) (fs : Frames) → (m : ℕ) × Needs ms n (Under sc b fs) m fs
  leads_block end_keeps h sc w n fs = (n, needs_close needs_itself)
  leads_block (then_keeps {b = b} s r) h sc w n fs =
      let u = leads_step s (leads_before r h) sc w n b fs in
      let v = leads_block r h sc w u.0 fs in
      (v.0, needs_trans u.1 v.1)

  pub leads_step : {ms : List ModuleTree} {d : Declaration} {recs : List (List ℕ)} {s : Statement} {e : Bool} → StatementKeeps ms d recs s e → e ≡ true
      → (sc : Scope) → sc.within ≡ d → (n : ℕ) (b : Body) (fs : Frames) → (m : ℕ) × Needs ms n (Under sc (Then s b) fs) m (Under sc b fs)
  leads_step (sends_keeps r o) h sc w n b fs = (n, needs_sends needs_itself)
  leads_step (chooses_keeps p bs) h sc w n b fs =
      let l = leads_blocks bs h sc w n (Under sc b fs) in
      (l.depth, needs_branch l.before l.block l.spot l.after l.is l.needs)
  leads_step (repeats_keeps {x = x} {b = c} k) h sc w n b fs =
      rec_body _ refl (leads_block k h (inside sc x n) w (n + 1) (Under sc b fs)) (leads_block k h sc w n (Under sc b fs))
  leads_step (continues_keeps x) h sc w n b fs = absurd (false≢true h)
  leads_step {ms = ms} (calls_keeps {path = path} {roles = roles} {c = c} i (protocol_keeps names block)) h sc w n b fs =
      let there : called ms sc.within.home path ≡ Some c = ap (λ x. called ms x.home path) w ∙ i.there in
      let u = leads_block block h (inside_call sc c roles) refl n (Under sc b fs) in
      (u.0, needs_calls there u.1)

  leads_blocks : {ms : List ModuleTree} {d : Declaration} {recs : List (List ℕ)} {bs : Blocks} {e : Bool} → BlocksKeep ms d recs bs e → e ≡ true
      → (sc : Scope) → sc.within ≡ d → (n : ℕ) (fs : Frames) → IsLed ms n sc bs fs
  leads_blocks none_keeps h sc w n fs = absurd (false≢true h)
  leads_blocks (or_keeps {b = b} {s = s} {bs = bs} {e = e} {f = f} k ks i) h sc w n fs =
      ⊎_elim (λ t. let u = leads_block k t sc w n fs in record { before = NoBlock; block = b; spot = s; after = bs; is = refl; depth = u.0; needs = u.1 })
      (λ t. let u = leads_blocks ks t sc w n fs in record { before = OrBlock b s u.before; block = u.block; spot = u.spot; after = u.after; is = ap (OrBlock b s) u.is; depth = u.depth; needs = u.needs })
      (or_cases e f (sym i ∙ h))

-- Each fault of a type is one of a type that it is built from.

needed_from : {ms : List ModuleTree} {k n : ℕ} {from fs : Frames} {d : Declaration} → Needs ms k from n fs → {s : Statement} {m : ℕ} {sc : Scope} {hs : Frames} → IsNeeded ms n fs d s m sc hs → IsNeeded ms k from d s m sc hs
needed_from u h = record { after = h.after; outer = h.outer; same = h.same; home = h.home; needs = needs_trans u h.needs }

abbrev branch_from : {ms : List ModuleTree} {k n : ℕ} {from fs : Frames} {d : Declaration} → Needs ms k from n fs → {spot : Spot} → IsBranchAt ms n fs d spot → IsBranchAt ms k from d spot
branch_from u h = record {
  chooser = h.chooser;
  before = h.before;
  body = h.body;
  after = h.after;
  at = h.at;
  depth = h.depth;
  scope = h.scope;
  follows = h.follows;
  needed = needed_from u h.needed;
  type = h.type;
  typed = h.typed;
}

pub fails_through : (k : FaultKind) {ms : List ModuleTree} {n m : ℕ} {fs hs : Frames} (d : Declaration) (spot : Spot) → Needs ms n fs m hs → FailsTyping k ms m hs d spot → FailsTyping k ms n fs d spot
fails_through kind.Unguarded d spot u h = record {
  name = h.name;
  body = h.body;
  depth = h.depth;
  scope = h.scope;
  follows = h.follows;
  needed = needed_from u h.needed;
  continued = h.continued;
  inner = h.inner;
  typed = h.typed;
  unguarded = h.unguarded;
}
fails_through kind.EmptyBranch d spot u h =
    ⊎_elim (λ b. inl (branch_from u b.0, b.1)) (λ b. inr (record { chooser = b.chooser; depth = b.depth; scope = b.scope; follows = b.follows; needed = needed_from u b.needed })) h
fails_through kind.ContinueHead d spot u h = (branch_from u h.0, h.1, h.2)
fails_through kind.RecHead d spot u h = (branch_from u h.0, h.1, h.2)
fails_through kind.NotChooser d spot u h = record {
  branch = branch_from u h.branch;
  sender = h.sender;
  receiver = h.receiver;
  branches = h.branches;
  is = h.is;
  another = h.another;
}
fails_through kind.TwoReceivers d spot u h = record {
  branch = branch_from u h.branch;
  receiver = h.receiver;
  branches = h.branches;
  is = h.is;
  first_receiver = h.first_receiver;
  first_branches = h.first_branches;
  first = h.first;
  another = h.another;
}
fails_through kind.SameOperator d spot u h = record {
  branch = branch_from u h.branch;
  receiver = h.receiver;
  branches = h.branches;
  is = h.is;
  earlier_branches = h.earlier_branches;
  earlier = h.earlier;
  shared = h.shared;
}
fails_through other d spot u h = absurd h

-- under one more recursion

needed_deeper : {ms : List ModuleTree} {n : ℕ} {fs : Frames} {d : Declaration} → AreBelow n fs → {s : Statement} {m : ℕ} {sc : Scope} {hs : Frames} → IsNeeded ms n fs d s m sc hs
    → IsNeeded ms (n + 1) fs d s (m + 1) (raised_scope n sc) (raised n hs)
needed_deeper {ms = ms} {n = n} {fs = fs} low {s = s} {m = m} {sc = sc} h = record {
  after = h.after;
  outer = raised n h.outer;
  same = ap (raised n) h.same;
  home = h.home;
  needs = subst (λ x. Needs ms (n + 1) x (m + 1) (raised n (Under sc (Then s h.after) h.outer))) (raised_stay n fs low) (needs_raised h.needs n (omega arith));
}

needed_depth : {ms : List ModuleTree} {n : ℕ} {fs : Frames} {d : Declaration} {s : Statement} {m : ℕ} {sc : Scope} {hs : Frames} → IsNeeded ms n fs d s m sc hs → n ≤ m
needed_depth h = needs_deeper h.needs

abbrev branch_deeper : {ms : List ModuleTree} {n : ℕ} {fs : Frames} {d : Declaration} → AreBelow n fs → {spot : Spot} → IsBranchAt ms n fs d spot → IsBranchAt ms (n + 1) fs d spot
branch_deeper {n = n} low h = record {
  chooser = h.chooser;
  before = h.before;
  body = h.body;
  after = h.after;
  at = h.at;
  depth = h.depth + 1;
  scope = raised_scope n h.scope;
  follows = raised n h.follows;
  needed = needed_deeper low h.needed;
  type = shifted (h.depth - n) h.type;
  typed = shift_types h.typed n (h.depth - n) (omega (arith, needed_depth h.needed));
}

earlier_deeper : {ms : List ModuleTree} {m : ℕ} {sc : Scope} {fs : Frames} {bs : Blocks} {p q : List ℕ} {cs : GlobalBranches} (c k : ℕ) → m ≡ c + k → IsOneOf ms m sc fs bs p q cs
    → IsOneOf ms (m + 1) (raised_scope c sc) (raised c fs) bs p q (branches_shifted k cs)
earlier_deeper c k e h = record {
  before = h.before;
  body = h.body;
  spot = h.spot;
  after = h.after;
  here = h.here;
  typed = shift_types h.typed c k e;
}

first_deeper : {ms : List ModuleTree} {m : ℕ} {sc : Scope} {fs : Frames} {bs : Blocks} {p q : List ℕ} {cs : GlobalBranches} (c k : ℕ) → m ≡ c + k → IsFirstBlock ms m sc fs bs p q cs
    → IsFirstBlock ms (m + 1) (raised_scope c sc) (raised c fs) bs p q (branches_shifted k cs)
first_deeper c k e h = record { body = h.body; spot = h.spot; after = h.after; here = h.here; typed = shift_types h.typed c k e }

pub fails_deeper : (k : FaultKind) (ms : List ModuleTree) (n : ℕ) (fs : Frames) (d : Declaration) (spot : Spot) → AreBelow n fs → FailsTyping k ms n fs d spot → FailsTyping k ms (n + 1) fs d spot
fails_deeper kind.Unguarded ms n fs d spot low h =
    let under = h.depth - n in
    let deep : h.depth ≡ n + under = omega (arith, needed_depth h.needed) in
    record {
      name = h.name;
      body = h.body;
      depth = h.depth + 1;
      scope = raised_scope n h.scope;
      follows = raised n h.follows;
      needed = needed_deeper low h.needed;
      continued = h.continued;
      inner = shifted (under + 1) h.inner;
      typed = subst (λ s. Types ms (h.depth + 1 + 1) (Under s h.body (raised n h.follows)) (shifted (under + 1) h.inner)) (inside_raised n h.depth h.scope h.name (omega arith)) (shift_types h.typed n (under + 1) (omega arith));
      unguarded = leads_shifted (under + 1) h.inner ∙ h.unguarded;
    }
fails_deeper kind.EmptyBranch ms n fs d spot low h =
    ⊎_elim (λ b. inl (branch_deeper low b.0, ap (shifted (b.0.depth - n)) b.1)) (λ b. inr (record { chooser = b.chooser; depth = b.depth + 1; scope = raised_scope n b.scope; follows = raised n b.follows; needed = needed_deeper low b.needed })) h
fails_deeper kind.ContinueHead ms n fs d spot low h = (branch_deeper low h.0, _, ap (shifted (h.0.depth - n)) h.2)
fails_deeper kind.RecHead ms n fs d spot low h = (branch_deeper low h.0, _, ap (shifted (h.0.depth - n)) h.2)
fails_deeper kind.NotChooser ms n fs d spot low h = record {
  branch = branch_deeper low h.branch;
  sender = h.sender;
  receiver = h.receiver;
  branches = branches_shifted (h.branch.depth - n) h.branches;
  is = ap (shifted (h.branch.depth - n)) h.is;
  another = h.another;
}
fails_deeper kind.TwoReceivers ms n fs d spot low h =
    let under = h.branch.depth - n in
    let deep : h.branch.depth ≡ n + under = omega (arith, needed_depth h.branch.needed) in
    record {
      branch = branch_deeper low h.branch;
      receiver = h.receiver;
      branches = branches_shifted under h.branches;
      is = ap (shifted under) h.is;
      first_receiver = h.first_receiver;
      first_branches = branches_shifted under h.first_branches;
      first = first_deeper n under deep h.first;
      another = h.another;
    }
fails_deeper kind.SameOperator ms n fs d spot low h =
    let under = h.branch.depth - n in
    let deep : h.branch.depth ≡ n + under = omega (arith, needed_depth h.branch.needed) in
    record {
      branch = branch_deeper low h.branch;
      receiver = h.receiver;
      branches = branches_shifted under h.branches;
      is = ap (shifted under) h.is;
      earlier_branches = branches_shifted under h.earlier_branches;
      earlier = earlier_deeper n under deep h.earlier;
      shared = share_shifted under h.earlier_branches h.branches ∙ h.shared;
    }
fails_deeper other ms n fs d spot low h = absurd h

-- under i more recursions
fails_at_depth : (k : FaultKind) (ms : List ModuleTree) (i n m : ℕ) → m ≡ n + i → (fs : Frames) (d : Declaration) (spot : Spot) → AreBelow n fs → FailsTyping k ms n fs d spot → FailsTyping k ms m fs d spot
fails_at_depth k ms zero n m e fs d spot low h = subst (λ x. FailsTyping k ms x fs d spot) (omega arith) h
fails_at_depth k ms (suc i) n m e fs d spot low h =
    fails_at_depth k ms i (n + 1) m (omega arith) fs d spot (below_more n (n + 1) fs (omega arith) low) (fails_deeper k ms n fs d spot low h)

pub fails_below : (k : FaultKind) (ms : List ModuleTree) (n m : ℕ) → n ≤ m → (fs : Frames) (d : Declaration) (spot : Spot) → AreBelow n fs → FailsTyping k ms n fs d spot → FailsTyping k ms m fs d spot
fails_below k ms n m l fs d spot low h = fails_at_depth k ms (m - n) n m (omega arith) fs d spot low h

-- A fault in what follows a statement with an exit is a fault with the statement in front.
pub fails_rest : (k : FaultKind) (ms : List ModuleTree) (recs : List (List ℕ)) (n : ℕ) (sc : Scope) (s : Statement) (b : Body) (fs : Frames) (d : Declaration) (spot : Spot)
    → StatementKeeps ms sc.within recs s true → AreBelow n (Under sc b fs) → FailsTyping k ms n (Under sc b fs) d spot → FailsTyping k ms n (Under sc (Then s b) fs) d spot
fails_rest k ms recs n sc s b fs d spot keeps low h =
    let u = leads_step keeps refl sc refl n b fs in
    fails_through k d spot u.1 (fails_below k ms n u.0 (needs_deeper u.1) (Under sc b fs) d spot low h)

-- A fault in what follows a block with an exit is a fault with the block in front.
pub fails_after : (k : FaultKind) (ms : List ModuleTree) (recs : List (List ℕ)) (n : ℕ) (sc : Scope) (b : Body) (fs : Frames) (d : Declaration) (spot : Spot)
    → BlockKeeps ms sc.within recs true b true → AreBelow n fs → FailsTyping k ms n fs d spot → FailsTyping k ms n (Under sc b fs) d spot
fails_after k ms recs n sc b fs d spot keeps low h =
    let u = leads_block keeps refl sc refl n fs in
    fails_through k d spot u.1 (fails_below k ms n u.0 (needs_deeper u.1) fs d spot low h)
