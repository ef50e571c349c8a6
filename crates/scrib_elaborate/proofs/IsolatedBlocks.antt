-- The type of a block without an exit does not depend on what follows it.
use Rattle.std.proofs.Common.{◌≡◌, ℕ, List, Some, refl, sym, ap, subst, ⊎_elim, inl, inr}
use Rattle.scrib_types.specs.declared.message.Message.{Message}
use Rattle.scrib_types.specs.declared.spot.Spot.{Spot}
use Rattle.scrib_types.specs.Trees.{GlobalTree, GlobalBranches}
use Rattle.scrib_tree.specs.declared.tree.ModuleTree.{ModuleTree}
use Rattle.scrib_static_checks.specs.declared.fault.FaultKind.{FaultKind}
use Rattle.scrib_static_checks.specs.declared.fault.FaultKind.TheVariants as kind
use Rattle.scrib_static_checks.specs.Source.{Body, Done, Then, Statement, Sends, Chooses, Repeats, Calls, Blocks, NoBlock, OrBlock}
use Rattle.scrib_static_checks.specs.SourceView.{body_of}
use Rattle.scrib_static_checks.specs.Names.{Declaration, called}
use Rattle.scrib_static_checks.specs.Elaboration.{Scope, inside, inside_call, Frames, NoFrame, Under, Types, ends, closes, sends, chooses, repeats, passes, continues, calls, JoinsTo, joins_none, joins}
use Rattle.scrib_static_checks.specs.Faults.{blocks_before, Needs, needs_itself, needs_close, needs_sends, needs_branch, needs_repeats, needs_passes, needs_calls, IsNeeded, IsBranchAt, IsOneOf, IsFirstBlock, FailsTyping}
use Rattle.scrib_elaborate.specs.NoExit.{Stays, AllStay, none_stays, all_stay}
use Rattle.scrib_elaborate.proofs.ExitLemmas.{of_then, of_done, of_sends, of_chooses, of_repeats, of_calls, of_or}

-- the first frames in front of the second
abbrev pub onto : Frames → Frames → Frames
onto NoFrame more = more
onto (Under sc b fs) more = Under sc b (onto fs more)

-- no path leads through all of the frames
pub data Never (ms : List ModuleTree) : Frames → Type 0 where
  never_here : {sc : Scope} {b : Body} {fs : Frames} → Stays ms sc.within.home b → Never ms (Under sc b fs)
  never_below : {sc : Scope} {b : Body} {fs : Frames} → Never ms fs → Never ms (Under sc b fs)

-- no path leads through one of these blocks and the frames after it
data NeverAny (ms : List ModuleTree) : Scope → Blocks → Frames → Type 0 where
  any_here : {sc : Scope} {bs : Blocks} {fs : Frames} → AllStay ms sc.within.home bs → NeverAny ms sc bs fs
  any_below : {sc : Scope} {bs : Blocks} {fs : Frames} → Never ms fs → NeverAny ms sc bs fs

-- after one statement

never_closed : {ms : List ModuleTree} {sc : Scope} {fs : Frames} → Never ms (Under sc Done fs) → Never ms fs
never_closed (never_here h) = absurd (of_done h)
never_closed (never_below v) = v

never_prefix : {ms : List ModuleTree} {sc : Scope} {m : Message} {p : List ℕ} {qs : List (List ℕ)} {s : Spot} {b : Body} {fs : Frames} → Never ms (Under sc (Then (Sends m p qs s) b) fs) → Never ms (Under sc b fs)
never_prefix (never_here h) = ⊎_elim (λ s. absurd (of_sends s)) (λ r. never_here r) (of_then h)
never_prefix (never_below v) = never_below v

never_chosen : {ms : List ModuleTree} {sc : Scope} {p : List ℕ} {bs : Blocks} {s : Spot} {b : Body} {fs : Frames} → Never ms (Under sc (Then (Chooses p bs s) b) fs) → NeverAny ms sc bs (Under sc b fs)
never_chosen (never_here h) = ⊎_elim (λ s. any_here (of_chooses s)) (λ r. any_below (never_here r)) (of_then h)
never_chosen (never_below v) = any_below (never_below v)

never_inside : {ms : List ModuleTree} {sc : Scope} {x : List ℕ} {c : Body} {s : Spot} {b : Body} {fs : Frames} (inner : Scope) → inner.within ≡ sc.within → Never ms (Under sc (Then (Repeats x c s) b) fs) → Never ms (Under inner c (Under sc b fs))
never_inside {ms = ms} {c = c} inner same (never_here h) =
    ⊎_elim (λ s. never_here (subst (λ (d : Declaration). Stays ms d.home c) (sym same) (of_repeats s))) (λ r. never_below (never_here r)) (of_then h)
never_inside inner same (never_below v) = never_below (never_below v)

never_called : {ms : List ModuleTree} {sc : Scope} {path roles : List (List ℕ)} {s : Spot} {b : Body} {fs : Frames} (c : Declaration) → called ms sc.within.home path ≡ Some c → Never ms (Under sc (Then (Calls path roles s) b) fs)
    → Never ms (Under (inside_call sc c roles) (body_of c.protocol.body) (Under sc b fs))
never_called c e (never_here h) = ⊎_elim (λ s. never_here (of_calls c e s)) (λ r. never_below (never_here r)) (of_then h)
never_called c e (never_below v) = never_below (never_below v)

first_never : {ms : List ModuleTree} {sc : Scope} {b : Body} {s : Spot} {bs : Blocks} {fs : Frames} → NeverAny ms sc (OrBlock b s bs) fs → Never ms (Under sc b fs)
first_never (any_here h) = never_here (of_or h).0
first_never (any_below v) = never_below v

rest_never : {ms : List ModuleTree} {sc : Scope} {b : Body} {s : Spot} {bs : Blocks} {fs : Frames} → NeverAny ms sc (OrBlock b s bs) fs → NeverAny ms sc bs fs
rest_never (any_here h) = any_here (of_or h).1
rest_never (any_below v) = any_below v

mutual
  -- in front of more frames they have the same type
  pub types_onto : {ms : List ModuleTree} {n : ℕ} {fs : Frames} {g : GlobalTree} → Types ms n fs g → (more : Frames) → Never ms fs → Types ms n (onto fs more) g
  types_onto ends more v = elim v [ ]
  types_onto (closes t) more v = closes (types_onto t more (never_closed v))
  types_onto (sends t e) more v = sends (types_onto t more (never_prefix v)) e
  types_onto (chooses j some apart e) more v = chooses (joins_onto j more (never_chosen v)) some apart e
  types_onto (repeats {n = n} {sc = sc} {x = x} i t l e) more v =
      repeats i (types_onto t more (never_inside (inside sc x n) refl v)) l e
  types_onto (passes {sc = sc} i t) more v = passes i (types_onto t more (never_inside sc refl v))
  types_onto (continues l m e) more v = continues l m e
  types_onto (calls {c = c} i t) more v = calls i (types_onto t more (never_called c i v))

  joins_onto : {ms : List ModuleTree} {n : ℕ} {sc : Scope} {bs : Blocks} {fs : Frames} {p q : List ℕ} {cs : GlobalBranches} → JoinsTo ms n sc bs fs p q cs → (more : Frames) → NeverAny ms sc bs fs → JoinsTo ms n sc bs (onto fs more) p q cs
  joins_onto joins_none more v = joins_none
  joins_onto (joins t e j i) more v =
      joins (types_onto t more (first_never v)) e (joins_onto j more (rest_never v)) i

-- a block among those of a choice, and those before it

never_among : {ms : List ModuleTree} {sc : Scope} {fs : Frames} (before : Blocks) (c : Body) (t : Spot) (after : Blocks) → NeverAny ms sc (blocks_before before c t after) fs → Never ms (Under sc c fs)
never_among NoBlock c t after v = first_never v
never_among (OrBlock b s bs) c t after v = never_among bs c t after (rest_never v)

stay_among : {ms : List ModuleTree} {home : ModuleTree} (before : Blocks) (c : Body) (t : Spot) (after : Blocks) → AllStay ms home (blocks_before before c t after) → AllStay ms home before
stay_among NoBlock c t after h = none_stays
stay_among (OrBlock b s bs) c t after h = let v = of_or h in all_stay v.0 (stay_among bs c t after v.1)

earlier_never : {ms : List ModuleTree} {sc : Scope} {fs : Frames} (before : Blocks) (c : Body) (t : Spot) (after : Blocks) → NeverAny ms sc (blocks_before before c t after) fs → NeverAny ms sc before fs
earlier_never before c t after (any_here h) = any_here (stay_among before c t after h)
earlier_never before c t after (any_below v) = any_below v

block_never : {ms : List ModuleTree} {sc : Scope} {fs : Frames} (bs before : Blocks) (c : Body) (t : Spot) (after : Blocks) → bs ≡ blocks_before before c t after → NeverAny ms sc bs fs → Never ms (Under sc c fs)
block_never {ms = ms} {sc = sc} {fs = fs} bs before c t after e v =
    never_among before c t after (subst (λ x. NeverAny ms sc x fs) e v)

-- no path leads through the frames from which their type is built
pub never_along : {ms : List ModuleTree} {n m : ℕ} {fs hs : Frames} → Needs ms n fs m hs → Never ms fs → Never ms hs
never_along needs_itself v = v
never_along (needs_close u) v = never_along u (never_closed v)
never_along (needs_sends u) v = never_along u (never_prefix v)
never_along (needs_branch {bs = bs} before c t after e u) v =
    never_along u (block_never bs before c t after e (never_chosen v))
never_along (needs_repeats {n = n} {sc = sc} {x = x} e u) v = never_along u (never_inside (inside sc x n) refl v)
never_along (needs_passes {sc = sc} e u) v = never_along u (never_inside sc refl v)
never_along (needs_calls {c = c} e u) v = never_along u (never_called c e v)

pub needs_onto : {ms : List ModuleTree} {n m : ℕ} {fs hs : Frames} → Needs ms n fs m hs → (more : Frames) → Needs ms n (onto fs more) m (onto hs more)
needs_onto needs_itself more = needs_itself
needs_onto (needs_close u) more = needs_close (needs_onto u more)
needs_onto (needs_sends u) more = needs_sends (needs_onto u more)
needs_onto (needs_branch before c t after e u) more = needs_branch before c t after e (needs_onto u more)
needs_onto (needs_repeats e u) more = needs_repeats e (needs_onto u more)
needs_onto (needs_passes e u) more = needs_passes e (needs_onto u more)
needs_onto (needs_calls e u) more = needs_calls e (needs_onto u more)

-- a fault of their type is one of the type of those with more frames after them

needed_onto : {ms : List ModuleTree} {k : ℕ} {from : Frames} {d : Declaration} {s : Statement} {n : ℕ} {sc : Scope} {fs : Frames} (more : Frames) → IsNeeded ms k from d s n sc fs → IsNeeded ms k (onto from more) d s n sc (onto fs more)
needed_onto more h = record {
  after = h.after;
  outer = onto h.outer more;
  same = ap (λ fs. onto fs more) h.same;
  home = h.home;
  needs = needs_onto h.needs more;
}

never_needed : {ms : List ModuleTree} {k : ℕ} {from : Frames} {d : Declaration} {p : List ℕ} {bs : Blocks} {s : Spot} {n : ℕ} {sc : Scope} {fs : Frames} → IsNeeded ms k from d (Chooses p bs s) n sc fs → Never ms from → NeverAny ms sc bs fs
never_needed {ms = ms} {bs = bs} {sc = sc} h v =
    subst (λ x. NeverAny ms sc bs x) (sym h.same) (never_chosen (never_along h.needs v))

never_repeated : {ms : List ModuleTree} {k : ℕ} {from : Frames} {d : Declaration} {x : List ℕ} {c : Body} {s : Spot} {n : ℕ} {sc : Scope} {fs : Frames} → IsNeeded ms k from d (Repeats x c s) n sc fs → Never ms from → Never ms (Under (inside sc x n) c fs)
never_repeated {ms = ms} {x = x} {c = c} {n = n} {sc = sc} h v =
    subst (λ y. Never ms (Under (inside sc x n) c y)) (sym h.same) (never_inside (inside sc x n) refl (never_along h.needs v))

abbrev branch_onto : {ms : List ModuleTree} {k : ℕ} {from : Frames} {d : Declaration} {spot : Spot} (more : Frames) → Never ms from → IsBranchAt ms k from d spot → IsBranchAt ms k (onto from more) d spot
branch_onto {spot = spot} more v h = record {
  chooser = h.chooser;
  before = h.before;
  body = h.body;
  after = h.after;
  at = h.at;
  depth = h.depth;
  scope = h.scope;
  follows = onto h.follows more;
  needed = needed_onto more h.needed;
  type = h.type;
  typed = types_onto h.typed more (never_among h.before h.body spot h.after (never_needed h.needed v));
}

earlier_onto : {ms : List ModuleTree} {n : ℕ} {sc : Scope} {fs : Frames} {bs : Blocks} {p q : List ℕ} {cs : GlobalBranches} (more : Frames) → NeverAny ms sc bs fs → IsOneOf ms n sc fs bs p q cs → IsOneOf ms n sc (onto fs more) bs p q cs
earlier_onto {bs = bs} more v h = record {
  before = h.before;
  body = h.body;
  spot = h.spot;
  after = h.after;
  here = h.here;
  typed = types_onto h.typed more (block_never bs h.before h.body h.spot h.after h.here v);
}

first_onto : {ms : List ModuleTree} {n : ℕ} {sc : Scope} {fs : Frames} {bs : Blocks} {p q : List ℕ} {cs : GlobalBranches} (more : Frames) → NeverAny ms sc bs fs → IsFirstBlock ms n sc fs bs p q cs → IsFirstBlock ms n sc (onto fs more) bs p q cs
first_onto {bs = bs} more v h = record {
  body = h.body;
  spot = h.spot;
  after = h.after;
  here = h.here;
  typed = types_onto h.typed more (block_never bs NoBlock h.body h.spot h.after h.here v);
}

branch_earlier : {ms : List ModuleTree} {k : ℕ} {from : Frames} {d : Declaration} {spot : Spot} (b : IsBranchAt ms k from d spot) → Never ms from → NeverAny ms b.scope b.before b.follows
branch_earlier {spot = spot} b v = earlier_never b.before b.body spot b.after (never_needed b.needed v)

pub fails_onto : (k : FaultKind) {ms : List ModuleTree} (n : ℕ) {fs : Frames} (more : Frames) (d : Declaration) (spot : Spot) → Never ms fs → FailsTyping k ms n fs d spot → FailsTyping k ms n (onto fs more) d spot
fails_onto kind.Unguarded n more d spot v h = record {
  name = h.name;
  body = h.body;
  depth = h.depth;
  scope = h.scope;
  follows = onto h.follows more;
  needed = needed_onto more h.needed;
  continued = h.continued;
  inner = h.inner;
  typed = types_onto h.typed more (never_repeated h.needed v);
  unguarded = h.unguarded;
}
fails_onto kind.EmptyBranch n more d spot v h =
    ⊎_elim (λ b. inl (branch_onto more v b.0, b.1)) (λ b. inr (record { chooser = b.chooser; depth = b.depth; scope = b.scope; follows = onto b.follows more; needed = needed_onto more b.needed })) h
fails_onto kind.ContinueHead n more d spot v h = (branch_onto more v h.0, h.1, h.2)
fails_onto kind.RecHead n more d spot v h = (branch_onto more v h.0, h.1, h.2)
fails_onto kind.NotChooser n more d spot v h = record {
  branch = branch_onto more v h.branch;
  sender = h.sender;
  receiver = h.receiver;
  branches = h.branches;
  is = h.is;
  another = h.another;
}
fails_onto kind.TwoReceivers n more d spot v h = record {
  branch = branch_onto more v h.branch;
  receiver = h.receiver;
  branches = h.branches;
  is = h.is;
  first_receiver = h.first_receiver;
  first_branches = h.first_branches;
  first = first_onto more (branch_earlier h.branch v) h.first;
  another = h.another;
}
fails_onto kind.SameOperator n more d spot v h = record {
  branch = branch_onto more v h.branch;
  receiver = h.receiver;
  branches = h.branches;
  is = h.is;
  earlier_branches = h.earlier_branches;
  earlier = earlier_onto more (branch_earlier h.branch v) h.earlier;
  shared = h.shared;
}
fails_onto other n more d spot v h = absurd h
