-- The steps of the third pass at a choice.
use Rattle.std.proofs.Common.{◌≡◌, ◌⊎◌, ℕ, zero, suc, ◌+◌, ◌≤◌, Bool, true, false, not, List, [], ◌∷◌, ◌++◌, length, map, take, drop, Option, Some, None, option_map, MatchOption, refl, sym, ap, ◌∙◌, subst, ⊎_elim, inl, inr, arith}
use Rattle.std.specs.Borrow.{Bor}
use Rattle.std.specs.List.{AllZip, slice_get}
use Rattle.std.proofs.lemmas.Option.{slice_get_within, get_or_from_slice_get}
use Rattle.std.specs.Option.{option_copied, option_zip}
use Rattle.std.proofs.lemmas.List.{take_more, length_push}
use Rattle.std.proofs.lemmas.Bool.{false≢true, and_parts, and_from, or_parts, or_from, or_cases, or_left, or_right, not-true, not_from_false}
use Rattle.scrib_types.specs.declared.message.Message.{Message}
use Rattle.scrib_types.specs.declared.spot.Spot.{Spot}
use Rattle.scrib_types.specs.Trees.{GlobalTree, GlobalEnd, GlobalVar, GlobalRec, Comm, Flight, GlobalBranches, NoBranch, Branch}
use Rattle.scrib_types.specs.WellFormed.{same_operator, has_operator, distinct_operators, has_branches}
use Rattle.scrib_tree.specs.declared.tree.ModuleTree.{ModuleTree}
use Rattle.scrib_tree.specs.declared.tree.Statement.{Statement}
use Rattle.scrib_tree.specs.declared.tree.Block.{Block}
use Rattle.scrib_static_checks.specs.declared.fault.FaultKind.{FaultKind}
use Rattle.scrib_static_checks.specs.declared.fault.FaultKind.TheVariants as kind
use Rattle.scrib_elaborate.specs.declared.tasks.Task.{Task}
use Rattle.scrib_elaborate.specs.declared.tasks.Task.TheVariants.{Front, Join}
use Rattle.scrib_elaborate.specs.declared.tasks.Choosing.{Choosing}
use Rattle.scrib_elaborate.specs.declared.scope.Scope.{Scope as CodeScope}
use Rattle.scrib_type_builder.specs.declared.built_type.Origin.{Origin}
use Rattle.scrib_type_builder.specs.declared.built_type.BuiltType.{BuiltType}
use Rattle.scrib_type_builder.specs.declared.build_error.BuildError.{BuildError}
use Rattle.scrib_type_builder.specs.declared.build_error.BuildError.TheVariants as untyped
use Rattle.scrib_static_checks.specs.Source.{Body, Then, Chooses, Blocks, NoBlock, OrBlock}
use Rattle.scrib_static_checks.specs.SourceView.{body_of, blocks_of}
use Rattle.scrib_static_checks.specs.Names.{Declaration}
use Rattle.scrib_static_checks.specs.Elaboration.{Scope, role_in, Frames, Under, and_branches, prefix_message, Types, ends, closes, sends, chooses, repeats, passes, continues, calls, JoinsTo, joins_none, joins, start_of}
use Rattle.scrib_static_checks.specs.Faults.{IsRestOf, IsRestOfBlocks, in_this, in_other, in_choice, Reaches, blocks_before, Needs, needs_itself, needs_branch, IsBranchAt, IsOneOf, IsFirstBlock, share_operator, FailsTyping}
use Rattle.scrib_elaborate.specs.Sites.{communications, branch_communications, has_several, IsSite}
use Rattle.scrib_elaborate.specs.Scope.{scope_of, IsSameScope}
use Rattle.scrib_type_builder.specs.BuiltType.{type_of}
use Rattle.scrib_type_builder.specs.Rules.{AddsOrigins, IsFirst, IsAdded, BranchFails, IsBranchFault}
use Rattle.scrib_elaborate.specs.Typing.{Made, made_of, IsMarked, FramesMake, Target, FailsUp, AreTyped, TasksLead, IsState, IsTypedRest, IsChoosing, TypingFails}
use Rattle.scrib_elaborate.proofs.LevelLemmas.{levels_chosen, levels_block}
use Rattle.scrib_elaborate.proofs.NeededParts.{fails_through}
use Rattle.scrib_elaborate.proofs.SiteLemmas.{marks_through, made_from, marks_more, marks_some, marks_joined}
use Rattle.scrib_elaborate.proofs.Steps.{opened}

-- a block among those of a choice

pub block_at : (bs : List Block) (k : ℕ) (b : Block) → slice_get bs k ≡ Some b → blocks_of bs ≡ blocks_before (blocks_of (take k bs)) (body_of b.body) b.spot (blocks_of (drop (suc k) bs))
block_at [] k b e = absurd (omega (arith, slice_get_within [] k b e))
block_at (c ∷ bs) zero b e = let same : c ≡ b = cc in ap (λ x. OrBlock (body_of x.body) x.spot (blocks_of bs)) same
block_at (c ∷ bs) (suc k) b e = ap (OrBlock (body_of c.body) c.spot) (block_at bs k b e)

pub in_before : {recs inner : List (List ℕ)} {b r : Body} (s : Spot) (after before : Blocks) → IsRestOf recs b inner r → IsRestOfBlocks recs (blocks_before before b s after) inner r
in_before s after NoBlock st = in_this st
in_before s after (OrBlock c t cs) st = in_other (in_before s after cs st)

-- none has a type yet
none_typed : (ms : List ModuleTree) (n : ℕ) (sc : Scope) (fs : Frames) (bs : List Block) (types : List BuiltType) → types ≡ [] → AreTyped ms n sc fs bs types
none_typed ms n sc fs bs types none k b t e f = absurd (omega (arith, slice_get_within types k t f, ap length none))

pub choosing_begins : (ms : List ModuleTree) (target : Target) (ts : List Task) (sc : Scope) (n : ℕ) (p : List ℕ) (bs : List Block) (spot : Spot) (t : BuiltType) (types : List BuiltType)
    → types ≡ [] → IsTypedRest ms target ts sc n (Chooses p (blocks_of bs) spot) (made_of t) → IsChoosing ms target ts sc n p bs spot (Some t) types
choosing_begins ms target ts sc n p bs spot t types none b = record {
  rest = b.rest;
  outer = b.outer;
  typed = none_typed ms n sc (Under sc b.rest b.outer) bs types none;
  few = omega (arith, ap length none);
  after = b.made;
  up = b.up;
  recs = b.recs;
  parts = λ inner r q. b.part inner r (in_choice q);
  levels = levels_chosen sc b.recs p (blocks_of bs) spot b.rest b.levels;
  reached = b.reached;
  below = b.below;
  path = b.path;
}

-- a copy of what follows the choice is kept, if blocks are left
kept_on : (o : Option BuiltType) (P Q : Type 0) (R : Made → Type 0) (g : Made) → (P → Q) → MatchOption o P (λ t. made_of t ≡ g) → R g → MatchOption o Q (λ t. R (made_of t))
kept_on None P Q R g f h r = f h
kept_on (Some t) P Q R g f h r = subst R (sym h) r

-- the next block is entered
pub next_block : (ms : List ModuleTree) (target : Target) (ts : List Task) (c : Choosing) (inner : CodeScope) (ss : Bor (List Statement)) (b : Block) (t : BuiltType) (left : ℕ) (g : Made)
    → slice_get c.branches.now (length c.types.items) ≡ Some b → length c.types.items + 1 + left ≡ length c.branches.now → IsSameScope c.scope inner → ss.now ≡ b.body → g ≡ made_of t → MatchOption c.follows (left ≡ 0) (λ u. made_of u ≡ made_of t)
    → IsChoosing ms target ts (scope_of c.scope) c.scope.depth c.chooser.now c.branches.now c.spot (Some t) c.types.items → IsState ms target (Front inner ss ∷ Join c ∷ ts) g
next_block ms target ts c inner ss b t left g at count same body is kept x =
    let sc = scope_of c.scope in
    let n = c.scope.depth in
    let bs = c.branches.now in
    let k = length c.types.items in
    let after = Under sc x.rest x.outer in
    let whole = Under sc (Then (Chooses c.chooser.now (blocks_of bs) c.spot) x.rest) x.outer in
    let split = block_at bs k b at in
    let first = blocks_of (take k bs) in
    let last = blocks_of (drop (suc k) bs) in
    opened ms target (Join c ∷ ts) inner ss sc n (body_of b.body) after (Under sc (body_of b.body) after) g same.scope same.depth (ap body_of body) (record {
      made = subst (λ y. FramesMake ms n after y) (sym is) x.after;
      leads = λ h t. t;
      up = λ f d s h. x.up f d s (fails_through f d s (needs_branch first (body_of b.body) b.spot last split needs_itself) h);
      recs = x.recs;
      part = λ i r q. x.parts i r (subst (λ y. IsRestOfBlocks x.recs y i r) (sym split) (in_before b.spot last first q));
      levels = levels_block sc x.recs first (body_of b.body) b.spot last (blocks_of bs) split x.levels;
      reached = x.reached;
      below = (x.below.0, x.below);
    }) (
      whole,
      record {
        rest = x.rest;
        outer = x.outer;
        deep = refl;
        block = b;
        here = at;
        is = refl;
        goes = refl;
        up = x.up;
        typed = x.typed;
        after =
            kept_on c.follows (left ≡ 0) (k + 1 ≡ length bs) (λ y. FramesMake ms n after y) (made_of t) (λ none. omega (arith, count, none)) kept x.after;
        recs = x.recs;
        parts = x.parts;
        levels = x.levels;
        reached = x.reached;
        below = x.below;
      },
      x.path,
    )

-- a choice without a block
pub no_block : (ms : List ModuleTree) (target : Target) (ts : List Task) (st : CodeScope) (p : List ℕ) (bs : List Block) (spot : Spot) (g : Made)
    → bs ≡ [] → IsTypedRest ms target ts (scope_of st) st.depth (Chooses p (blocks_of bs) spot) g → (place : Declaration) × Reaches ms target.root place × (st.within.home.now ≡ place.home) × FailsTyping kind.EmptyBranch ms 0 (start_of target.root) place spot
no_block ms target ts st p bs spot g none b =
    let sc = scope_of st in
    let c = subst (λ x. IsTypedRest ms target ts sc st.depth (Chooses p (blocks_of x) spot) g) none b in (
      sc.within,
      c.reached,
      refl,
      c.up kind.EmptyBranch sc.within spot (inr (record {
        chooser = p;
        depth = st.depth;
        scope = sc;
        follows = Under sc c.rest c.outer;
        needed = record { after = c.rest; outer = c.outer; same = refl; home = refl; needs = needs_itself };
      })),
    )

pub no_item : (bs : List Block) → None ≡ slice_get bs 0 → bs ≡ []
no_item [] e = refl
no_item (b ∷ bs) e = absurd (cc)

pub first_item : (bs : List Block) (types : List BuiltType) (b : Block) → types ≡ [] → slice_get bs 0 ≡ Some b → slice_get bs (length types) ≡ Some b
first_item bs types b none e = ap (λ ts. slice_get bs (length ts)) none ∙ e

-- branches one after the other

and_none : (bs : GlobalBranches) → bs ≡ and_branches bs NoBranch
and_none NoBranch = refl
and_none (Branch m g bs) = ap (Branch m g) (and_none bs)

and_assoc : (hs bs cs : GlobalBranches) → and_branches hs (and_branches bs cs) ≡ and_branches (and_branches hs bs) cs
and_assoc NoBranch bs cs = refl
and_assoc (Branch m g hs) bs cs = ap (Branch m g) (and_assoc hs bs cs)

has_and : (bs cs : GlobalBranches) → has_branches cs ≡ true → has_branches (and_branches bs cs) ≡ true
has_and NoBranch cs h = h
has_and (Branch m g bs) cs h = refl

none_of : (o : Option (List ℕ)) (bs cs : GlobalBranches) → has_operator o bs ≡ false → has_operator o cs ≡ false → has_operator o (and_branches bs cs) ≡ false
none_of o NoBranch cs h k = k
none_of o (Branch m g bs) cs h k =
    let parts = or_parts (same_operator o m.op) (has_operator o bs) h in
    or_from (same_operator o m.op) (has_operator o (and_branches bs cs)) parts.0 (none_of o bs cs parts.1 k)

distinct_and : (bs cs : GlobalBranches) → distinct_operators bs ≡ true → distinct_operators cs ≡ true → share_operator bs cs ≡ false → distinct_operators (and_branches bs cs) ≡ true
distinct_and NoBranch cs d e s = e
distinct_and (Branch m g bs) cs d e s =
    let parts = and_parts (not (has_operator m.op bs)) (distinct_operators bs) d in
    let apart = or_parts (has_operator m.op cs) (share_operator bs cs) s in
    let none = none_of m.op bs cs (not-true (has_operator m.op bs) parts.0) apart.0 in
    and_from (not (has_operator m.op (and_branches bs cs))) (distinct_operators (and_branches bs cs)) (not_from_false (has_operator m.op (and_branches bs cs)) none) (distinct_and bs cs parts.1 e apart.1)

share_and : (bs cs ds : GlobalBranches) → share_operator (and_branches bs cs) ds ≡ true → (share_operator bs ds ≡ true) ⊎ (share_operator cs ds ≡ true)
share_and NoBranch cs ds h = inr h
share_and (Branch m g bs) cs ds h =
    ⊎_elim (λ e. inl (or_left (has_operator m.op ds) (share_operator bs ds) e)) (λ e. ⊎_elim (λ f. inl (or_right (has_operator m.op ds) (share_operator bs ds) f)) (λ f. inr f) (share_and bs cs ds e)) (or_cases (has_operator m.op ds) (share_operator (and_branches bs cs) ds) h)

-- a communication has a branch, and its branches are different

abbrev IsFine : GlobalTree → Type 0
IsFine GlobalEnd = Unit {0}
IsFine (GlobalVar n) = Unit {0}
IsFine (GlobalRec g) = Unit {0}
IsFine (Comm p q cs) = (has_branches cs ≡ true) × (distinct_operators cs ≡ true)
IsFine (Flight p q j cs) = Unit {0}

prefix_fine : (m : Message) (p : List ℕ) (qs : List (List ℕ)) (g : GlobalTree) → IsFine g → IsFine (prefix_message m p qs g)
prefix_fine m p [] g f = f
prefix_fine m p (q ∷ qs) g f = (refl, refl)

comm_fine : {ms : List ModuleTree} {n : ℕ} {fs : Frames} {g : GlobalTree} → Types ms n fs g → IsFine g
comm_fine ends = tt
comm_fine (closes t) = comm_fine t
comm_fine (sends {sc = sc} {m = m} {p = p} {qs = qs} {g = g} t e) =
    subst IsFine (sym e) (prefix_fine m (role_in sc p) (map (role_in sc) qs) g (comm_fine t))
comm_fine (chooses j some d e) = subst IsFine (sym e) (some, d)
comm_fine (repeats k t l e) = subst IsFine (sym e) tt
comm_fine (passes k t) = comm_fine t
comm_fine (continues l m e) = subst IsFine (sym e) tt
comm_fine (calls e t) = comm_fine t

-- the blocks so far join

join_more : {ms : List ModuleTree} {n : ℕ} {sc : Scope} {bs : Blocks} {fs : Frames} {p q : List ℕ} {cs : GlobalBranches} (b : Body) (s : Spot) (ds : GlobalBranches) → JoinsTo ms n sc bs fs p q cs → Types ms n (Under sc b fs) (Comm p q ds)
    → JoinsTo ms n sc (blocks_before bs b s NoBlock) fs p q (and_branches cs ds)
join_more b s ds joins_none t = joins t refl joins_none (and_none ds)
join_more b s ds (joins {cs = hs} {ds = is} u e j f) t =
    joins u e (join_more b s ds j t) (ap (λ x. and_branches x ds) f ∙ sym (and_assoc hs is ds))

pub record AreJoined (ms : List ModuleTree) (n : ℕ) (sc : Scope) (fs : Frames) (p : List ℕ) (bs : Blocks) (receiver : Option (List ℕ)) (cs : GlobalBranches) : Type 0 where
  pub none : receiver ≡ None → (bs ≡ NoBlock) × (cs ≡ NoBranch)
  pub some : (q : List ℕ) → receiver ≡ Some q → JoinsTo ms n sc bs fs p q cs × (has_branches cs ≡ true)
  pub different : distinct_operators cs ≡ true

pub none_joined : (ms : List ModuleTree) (n : ℕ) (sc : Scope) (fs : Frames) (p : List ℕ) (bs : Blocks) (receiver : Option (List ℕ)) (cs : GlobalBranches) → bs ≡ NoBlock → receiver ≡ None → cs ≡ NoBranch → AreJoined ms n sc fs p bs receiver cs
none_joined ms n sc fs p bs receiver cs e f g = record {
  none = λ h. (e, g);
  some = λ q h. absurd (cc);
  different = ap distinct_operators g;
}

-- they join to a receiver that fits
joined_to : (ms : List ModuleTree) (n : ℕ) (sc : Scope) (fs : Frames) (p : List ℕ) (bs : Blocks) (receiver : Option (List ℕ)) (cs : GlobalBranches) (q : List ℕ) → IsFirst receiver q → AreJoined ms n sc fs p bs receiver cs → JoinsTo ms n sc bs fs p q cs
joined_to ms n sc fs p bs None cs q h a =
    let e = a.none refl in
    subst (λ x. JoinsTo ms n sc x fs p q cs) (sym e.0) (subst (λ x. JoinsTo ms n sc NoBlock fs p q x) (sym e.1) joins_none)
joined_to ms n sc fs p bs (Some r) cs q h a = subst (λ x. JoinsTo ms n sc bs fs p x cs) h (a.some r refl).0

pub one_joined : (ms : List ModuleTree) (n : ℕ) (sc : Scope) (fs : Frames) (p : List ℕ) (bs : Blocks) (old new : Option (List ℕ)) (cs ds : GlobalBranches) (b : Body) (s : Spot) (g : GlobalTree)
    → AreJoined ms n sc fs p bs old cs → IsAdded p old new cs ds g → Types ms n (Under sc b fs) g → AreJoined ms n sc fs p (blocks_before bs b s NoBlock) new ds
one_joined ms n sc fs p bs old new cs ds b s g a d t =
    let u = subst (λ x. Types ms n (Under sc b fs) x) d.is t in
    let fine = comm_fine u in
    let j = join_more b s d.branches (joined_to ms n sc fs p bs old cs d.receiver d.first a) u in
    record {
      none = λ e. absurd (cc (e, d.receiver_is));
      some =
          λ q e. let same : d.receiver ≡ q = cc (e, d.receiver_is) in (subst (λ x. JoinsTo ms n sc (blocks_before bs b s NoBlock) fs p q x) (sym d.joined) (subst (λ x. JoinsTo ms n sc (blocks_before bs b s NoBlock) fs p x (and_branches cs d.branches)) same j), ap has_branches d.joined ∙ has_and cs d.branches fine.0);
      different = ap distinct_operators d.joined ∙ distinct_and cs d.branches a.different fine.1 d.apart;
    }

-- the first of the blocks that join, and one that shares an operator

first_of : {ms : List ModuleTree} {n : ℕ} {sc : Scope} {bs : Blocks} {fs : Frames} {p q : List ℕ} {cs : GlobalBranches} → JoinsTo ms n sc bs fs p q cs → has_branches cs ≡ true → (ds : GlobalBranches) × IsFirstBlock ms n sc fs bs p q ds
first_of joins_none h = absurd (false≢true h)
first_of {ms = ms} {n = n} {sc = sc} {fs = fs} (joins {b = b} {s = s} {bs = bs} {cs = cs} t e j f) h =
    (cs, record { body = b; spot = s; after = bs; here = refl; typed = subst (λ x. Types ms n (Under sc b fs) x) e t })

shared_one : {ms : List ModuleTree} {n : ℕ} {sc : Scope} {bs : Blocks} {fs : Frames} {p q : List ℕ} {cs : GlobalBranches} (es : GlobalBranches) → JoinsTo ms n sc bs fs p q cs → share_operator cs es ≡ true
    → (ds : GlobalBranches) × IsOneOf ms n sc fs bs p q ds × (share_operator ds es ≡ true)
shared_one es joins_none h = absurd (false≢true h)
shared_one {ms = ms} {n = n} {sc = sc} {fs = fs} {p = p} {q = q} es (joins {b = b} {s = s} {bs = bs} {cs = cs} {ds = ds} t e j f) h =
    ⊎_elim (λ k. (cs, record { before = NoBlock; body = b; spot = s; after = bs; here = refl; typed = subst (λ x. Types ms n (Under sc b fs) x) e t }, k)) (λ k. more (shared_one es j k)) (share_and cs ds es (ap (λ x. share_operator x es) (sym f) ∙ h))
  where
    more : (hs : GlobalBranches) × IsOneOf ms n sc fs bs p q hs × (share_operator hs es ≡ true) → (hs : GlobalBranches) × IsOneOf ms n sc fs (OrBlock b s bs) p q hs × (share_operator hs es ≡ true)
    more u =
        (u.0, record { before = OrBlock b s u.1.before; body = u.1.body; spot = u.1.spot; after = u.1.after; here = ap (OrBlock b s) u.1.here; typed = u.1.typed }, u.2)

-- a block that does not fit

abbrev the_branch : (ms : List ModuleTree) (n : ℕ) (sc : Scope) (at : List ℕ) (bs : List Block) (i : ℕ) (b : Block) (spot : Spot) (rest : Body) (outer : Frames) (g : GlobalTree)
    → slice_get bs i ≡ Some b → Types ms n (Under sc (body_of b.body) (Under sc rest outer)) g → IsBranchAt ms n (Under sc (Then (Chooses at (blocks_of bs) spot) rest) outer) sc.within b.spot
the_branch ms n sc at bs i b spot rest outer g there t = record {
  chooser = at;
  before = blocks_of (take i bs);
  body = body_of b.body;
  after = blocks_of (drop (suc i) bs);
  at = spot;
  depth = n;
  scope = sc;
  follows = Under sc rest outer;
  needed = record {
    after = rest;
    outer = outer;
    same = refl;
    home = refl;
    needs =
        subst (λ x. Needs ms n (Under sc (Then (Chooses at (blocks_of bs) spot) rest) outer) n (Under sc (Then (Chooses at x spot) rest) outer)) (block_at bs i b there) needs_itself;
  };
  type = g;
  typed = t;
}

head_fails : (k : FaultKind) (ms : List ModuleTree) (n : ℕ) (sc : Scope) (at : List ℕ) (bs : List Block) (i : ℕ) (b : Block) (spot : Spot) (rest : Body) (outer : Frames) (receiver : Option (List ℕ)) (cs : GlobalBranches) (g : GlobalTree)
    → slice_get bs i ≡ Some b → AreJoined ms n sc (Under sc rest outer) (role_in sc at) (blocks_of (take i bs)) receiver cs → Types ms n (Under sc (body_of b.body) (Under sc rest outer)) g → BranchFails k (role_in sc at) receiver cs g
    → FailsTyping k ms n (Under sc (Then (Chooses at (blocks_of bs) spot) rest) outer) sc.within b.spot
head_fails kind.EmptyBranch ms n sc at bs i b spot rest outer receiver cs g there a t h = inl (the_branch ms n sc at bs i b spot rest outer g there t, h)
head_fails kind.ContinueHead ms n sc at bs i b spot rest outer receiver cs g there a t h = (the_branch ms n sc at bs i b spot rest outer g there t, h.0, h.1)
head_fails kind.RecHead ms n sc at bs i b spot rest outer receiver cs g there a t h = (the_branch ms n sc at bs i b spot rest outer g there t, h.0, h.1)
head_fails kind.NotChooser ms n sc at bs i b spot rest outer receiver cs g there a t h = record {
  branch = the_branch ms n sc at bs i b spot rest outer g there t;
  sender = h.0;
  receiver = h.1;
  branches = h.2;
  is = h.3;
  another = h.4;
}
head_fails kind.TwoReceivers ms n sc at bs i b spot rest outer receiver cs g there a t h =
    let j = a.some h.1 h.4 in
    let first = first_of j.0 j.1 in
    record {
      branch = the_branch ms n sc at bs i b spot rest outer g there t;
      receiver = h.0;
      branches = h.2;
      is = h.3;
      first_receiver = h.1;
      first_branches = first.0;
      first = first.1;
      another = λ e. h.5 (sym e);
    }
head_fails kind.SameOperator ms n sc at bs i b spot rest outer receiver cs g there a t h =
    let j = joined_to ms n sc (Under sc rest outer) (role_in sc at) (blocks_of (take i bs)) receiver cs h.0 h.3 a in
    let one = shared_one h.1 j h.4 in
    record {
      branch = the_branch ms n sc at bs i b spot rest outer g there t;
      receiver = h.0;
      branches = h.1;
      is = h.2;
      earlier_branches = one.0;
      earlier = one.1;
      shared = one.2;
    }
head_fails other ms n sc at bs i b spot rest outer receiver cs g there a t h = absurd h

pub head_fault : (ms : List ModuleTree) (target : Target) (ts : List Task) (sc : Scope) (n : ℕ) (at : List ℕ) (bs : List Block) (i : ℕ) (b : Block) (spot : Spot) (follows : Option BuiltType) (types : List BuiltType) (receiver : Option (List ℕ)) (cs : GlobalBranches) (g : GlobalTree) (x : IsChoosing ms target ts sc n at bs spot follows types)
    → slice_get bs i ≡ Some b → AreJoined ms n sc (Under sc x.rest x.outer) (role_in sc at) (blocks_of (take i bs)) receiver cs → Types ms n (Under sc (body_of b.body) (Under sc x.rest x.outer)) g → (e : BuildError) → IsBranchFault sc.within.home b.spot (role_in sc at) receiver cs g e
    → TypingFails ms target.root e
head_fault ms target ts sc n at bs i b spot follows types receiver cs g x there a t (untyped.Broken h f) k =
    let whole = Under sc (Then (Chooses at (blocks_of bs) spot) x.rest) x.outer in
    (sc.within, x.reached, k.0, x.up f.kind sc.within f.spot (subst (λ s. FailsTyping f.kind ms n whole sc.within s) (sym k.1) (head_fails f.kind ms n sc at bs i b spot x.rest x.outer receiver cs g there a t k.2)))
head_fault ms target ts sc n at bs i b spot follows types receiver cs g x there a t untyped.OutOfMemory k = tt

-- all blocks have joined

-- the choice's own communication comes from the choice, if several branches result
abbrev pub IsOwnOrigin : Bor ModuleTree → Spot → (several : Bool) → Option Origin → Type 0
IsOwnOrigin home spot several None = several ≡ false
IsOwnOrigin home spot several (Some o) = (several ≡ true) × (o ≡ record { home = home; spot = spot })

own_mark : {ms : List ModuleTree} {n : ℕ} {sc : Scope} {at : List ℕ} {bs : Blocks} {spot : Spot} {rest : Body} {outer : Frames} {p q : List ℕ} {cs : GlobalBranches} (home : Bor ModuleTree) (o : Option Origin)
    → home.now ≡ sc.within.home → IsOwnOrigin home spot (has_several cs) o → Types ms n (Under sc (Then (Chooses at bs spot) rest) outer) (Comm p q cs) → IsMarked ms n (Under sc (Then (Chooses at bs spot) rest) outer) (n, Comm p q cs) o
own_mark home None here own typed = own
own_mark {ms = ms} {n = n} {sc = sc} {at = at} {bs = bs} {spot = spot} {rest = rest} {outer = outer} {p = p} {q = q} {cs = cs} home (Some o) here own typed =
    let whole = Under sc (Then (Chooses at bs spot) rest) outer in
    let site : IsSite ms n whole home.now.name spot n (Comm p q cs) = record {
      scope = sc;
      chooser = at;
      blocks = bs;
      after = rest;
      outer = outer;
      there = ap (λ (m : ModuleTree). m.name) here;
      needs = needs_itself;
      typed = typed;
    } in
    (own.0, subst (λ (i : Origin). IsSite ms n whole i.home.now.name i.spot n (Comm p q cs)) (sym own.1) site)

pub joined_put : (ms : List ModuleTree) (target : Target) (ts : List Task) (sc : Scope) (n : ℕ) (at : List ℕ) (bs : List Block) (spot : Spot) (follows : Option BuiltType) (types : List BuiltType) (receiver : Option (List ℕ)) (cs : GlobalBranches) (q : List ℕ) (js : List (Option Origin)) (o : Option Origin) (home : Bor ModuleTree) (h : Made) (x : IsChoosing ms target ts sc n at bs spot follows types)
    → AreJoined ms n sc (Under sc x.rest x.outer) (role_in sc at) (blocks_of bs) receiver cs → receiver ≡ Some q → h.type ≡ Comm (role_in sc at) q cs → h.origins ≡ js ++ o ∷ [] → home.now ≡ sc.within.home → IsOwnOrigin home spot (has_several cs) o
    → AllZip (IsMarked ms n (Under sc (Then (Chooses at (blocks_of bs) spot) x.rest) x.outer)) (branch_communications n cs) js → IsState ms target ts h
joined_put ms target ts sc n at bs spot follows types receiver cs q js o home h x a receiver_is is kept here own marks =
    let j = a.some q receiver_is in
    let whole = Under sc (Then (Chooses at (blocks_of bs) spot) x.rest) x.outer in
    let typed : Types ms n whole (Comm (role_in sc at) q cs) = chooses j.0 j.1 a.different refl in
    record {
      depth = n;
      frames = whole;
      made =
          made_from h (Comm (role_in sc at) q cs) (js ++ o ∷ []) is kept (chooses j.0 j.1 a.different is) (marks_joined ms n whole n (role_in sc at) q cs js o marks (own_mark home o here own typed));
      path = x.path;
    }

pub joined_none : (ms : List ModuleTree) (target : Target) (ts : List Task) (sc : Scope) (n : ℕ) (at : List ℕ) (bs : List Block) (spot : Spot) (follows : Option BuiltType) (types : List BuiltType) (receiver : Option (List ℕ)) (cs : GlobalBranches) (x : IsChoosing ms target ts sc n at bs spot follows types)
    → AreJoined ms n sc (Under sc x.rest x.outer) (role_in sc at) (blocks_of bs) receiver cs → receiver ≡ None → (place : Declaration) × Reaches ms target.root place × (sc.within.home ≡ place.home) × FailsTyping kind.EmptyBranch ms 0 (start_of target.root) place spot
joined_none ms target ts sc n at bs spot follows types receiver cs x a none =
    let empty = (a.none none).0 in
    let whole = Under sc (Then (Chooses at (blocks_of bs) spot) x.rest) x.outer in (
      sc.within,
      x.reached,
      refl,
      x.up kind.EmptyBranch sc.within spot (inr (record {
        chooser = at;
        depth = n;
        scope = sc;
        follows = Under sc x.rest x.outer;
        needed = record {
          after = x.rest;
          outer = x.outer;
          same = refl;
          home = refl;
          needs =
              subst (λ y. Needs ms n whole n (Under sc (Then (Chooses at y spot) x.rest) x.outer)) empty needs_itself;
        };
      })),
    )

-- a receiver that differs from the first

-- the next block's type is added

blocks_push : (bs : List Block) (b : Block) → blocks_of (bs ++ b ∷ []) ≡ blocks_before (blocks_of bs) (body_of b.body) b.spot NoBlock
blocks_push [] b = refl
blocks_push (c ∷ bs) b = ap (OrBlock (body_of c.body) c.spot) (blocks_push bs b)

pub next_joined : (ms : List ModuleTree) (target : Target) (ts : List Task) (sc : Scope) (n : ℕ) (at : List ℕ) (bs : List Block) (i j : ℕ) (b : Block) (spot : Spot) (follows : Option BuiltType) (types : List BuiltType) (t : BuiltType) (chooser : List ℕ) (old new : Option (List ℕ)) (cs ds : GlobalBranches) (x : IsChoosing ms target ts sc n at bs spot follows types)
    → j ≡ i + 1 → slice_get bs i ≡ Some b → slice_get types i ≡ Some t → chooser ≡ role_in sc at → AreJoined ms n sc (Under sc x.rest x.outer) (role_in sc at) (blocks_of (take i bs)) old cs → IsAdded chooser old new cs ds (type_of t)
    → AreJoined ms n sc (Under sc x.rest x.outer) (role_in sc at) (blocks_of (take j bs)) new ds
next_joined ms target ts sc n at bs i j b spot follows types t chooser old new cs ds x next found there given a d =
    let typed = (x.typed i b t found there).typed in
    let added = subst (λ p. IsAdded p old new cs ds (type_of t)) given d in
    let more : blocks_of (take j bs) ≡ blocks_before (blocks_of (take i bs)) (body_of b.body) b.spot NoBlock =
    ap (λ k. blocks_of (take k bs)) next ∙ ap blocks_of (take_more bs i b (slice_get_within bs i b found) ∙ ap (λ y. take i bs ++ y ∷ []) (get_or_from_slice_get bs i b b found)) ∙ blocks_push (take i bs) b in
    let u = one_joined ms n sc (Under sc x.rest x.outer) (role_in sc at) (blocks_of (take i bs)) old new cs ds (body_of b.body) b.spot (type_of t) a added typed in
    subst (λ y. AreJoined ms n sc (Under sc x.rest x.outer) (role_in sc at) y new ds) (sym more) u

pub next_marked : (ms : List ModuleTree) (target : Target) (ts : List Task) (sc : Scope) (n : ℕ) (at : List ℕ) (bs : List Block) (i : ℕ) (b : Block) (spot : Spot) (follows : Option BuiltType) (types : List BuiltType) (t : BuiltType) (chooser : List ℕ) (old new : Option (List ℕ)) (cs ds : GlobalBranches) (js ks : List (Option Origin)) (x : IsChoosing ms target ts sc n at bs spot follows types)
    → slice_get bs i ≡ Some b → slice_get types i ≡ Some t → IsAdded chooser old new cs ds (type_of t) → AddsOrigins js ks t.origins.items
    → AllZip (IsMarked ms n (Under sc (Then (Chooses at (blocks_of bs) spot) x.rest) x.outer)) (branch_communications n cs) js → AllZip (IsMarked ms n (Under sc (Then (Chooses at (blocks_of bs) spot) x.rest) x.outer)) (branch_communications n ds) ks
next_marked ms target ts sc n at bs i b spot follows types t chooser old new cs ds js ks x found there d more marks =
    let after = Under sc x.rest x.outer in
    let whole = Under sc (Then (Chooses at (blocks_of bs) spot) x.rest) x.outer in
    let R = IsMarked ms n whole in
    let needs : Needs ms n whole n (Under sc (body_of b.body) after) = needs_branch (blocks_of (take i bs)) (body_of b.body) b.spot (blocks_of (drop (suc i) bs)) (block_at bs i b found) needs_itself in
    let here = marks_through needs (communications n (type_of t)) t.origins.items (x.typed i b t found there).marked in
    let marked = subst (λ g. AllZip R (communications n g) t.origins.items) d.is here in
    ⊎_elim (λ e. absurd (marks_some ms n whole n chooser d.receiver d.branches (subst (λ y. AllZip R (communications n (Comm chooser d.receiver d.branches)) y) e marked))) (λ m. subst (λ y. AllZip R (branch_communications n ds) y) (sym m.3) (subst (λ y. AllZip R (branch_communications n y) (js ++ m.0)) (sym d.joined) (marks_more ms n whole n chooser d.receiver cs d.branches js m.0 m.1 marks (subst (λ y. AllZip R (communications n (Comm chooser d.receiver d.branches)) y) m.2 marked)))) more

pub next_fails : (ms : List ModuleTree) (target : Target) (ts : List Task) (sc : Scope) (n : ℕ) (at : List ℕ) (bs : List Block) (i : ℕ) (b : Block) (spot : Spot) (follows : Option BuiltType) (types : List BuiltType) (t : BuiltType) (chooser : List ℕ) (old : Option (List ℕ)) (cs : GlobalBranches) (x : IsChoosing ms target ts sc n at bs spot follows types)
    → slice_get bs i ≡ Some b → slice_get types i ≡ Some t → chooser ≡ role_in sc at → AreJoined ms n sc (Under sc x.rest x.outer) (role_in sc at) (blocks_of (take i bs)) old cs → (e : BuildError) → IsBranchFault sc.within.home b.spot chooser old cs (type_of t) e
    → TypingFails ms target.root e
next_fails ms target ts sc n at bs i b spot follows types t chooser old cs x found there given a e f =
    let typed = (x.typed i b t found there).typed in
    head_fault ms target ts sc n at bs i b spot follows types old cs (type_of t) x found a typed e (subst (λ p. IsBranchFault sc.within.home b.spot p old cs (type_of t) e) given f)

-- the next block has its type

typed_push : (ms : List ModuleTree) (n : ℕ) (sc : Scope) (fs : Frames) (bs : List Block) (types : List BuiltType) (t : BuiltType) (b : Block) → slice_get bs (length types) ≡ Some b → AreTyped ms n sc fs bs types → FramesMake ms n (Under sc (body_of b.body) fs) (made_of t) → AreTyped ms n sc fs bs (types ++ t ∷ [])
typed_push ms n sc fs (c ∷ bs) [] t b at all here zero d u e f =
    let blocks : b ≡ d = cc (at, e) in
    let same : t ≡ u = cc f in
    subst (λ y. FramesMake ms n (Under sc (body_of y.body) fs) (made_of u)) blocks (subst (λ y. FramesMake ms n (Under sc (body_of b.body) fs) (made_of y)) same here)
typed_push ms n sc fs [] [] t b at all here k d u e f = absurd (omega (arith, slice_get_within [] k d e))
typed_push ms n sc fs (c ∷ bs) [] t b at all here (suc k) d u e f = absurd (omega (arith, slice_get_within (t ∷ []) (suc k) u f))
typed_push ms n sc fs [] (s ∷ types) t b at all here k d u e f = absurd (omega (arith, slice_get_within [] k d e))
typed_push ms n sc fs (c ∷ bs) (s ∷ types) t b at all here zero d u e f = all zero d u e f
typed_push ms n sc fs (c ∷ bs) (s ∷ types) t b at all here (suc k) d u e f =
    typed_push ms n sc fs bs types t b at (λ j x y p q. all (suc j) x y p q) here k d u e f

none_there : (bs : List Block) (n : ℕ) → slice_get bs n ≡ None → length bs ≤ n
none_there [] n e = omega arith
none_there (b ∷ bs) zero e = absurd (cc e)
none_there (b ∷ bs) (suc n) e = omega (arith, none_there bs n e)

longer : (o : Option BuiltType) (Q : BuiltType → Type 0) (i j k : ℕ) → i ≡ j → MatchOption o (j ≡ k) Q → MatchOption o (i ≡ k) Q
longer None Q i j k e h = e ∙ h
longer (Some t) Q i j k e h = h

-- no block is left, and what follows the choice is not kept
pub none_left : (bs : List Block) (types : List BuiltType) (next : Option (Bor Block)) (follows : Option BuiltType) (Q : BuiltType → Type 0) (n : ℕ) → option_zip next follows ≡ None → option_copied next ≡ slice_get bs n → n ≡ length types → length types ≤ length bs → MatchOption follows (length types ≡ length bs) Q → length types ≡ length bs
none_left bs types None follows Q n none there long few after =
    let past : length bs ≤ n = none_there bs n (sym there) in omega (arith, past)
none_left bs types (Some b) None Q n none there long few after = after
none_left bs types (Some b) (Some t) Q n none there long few after = absurd (cc none)

-- a block is left, and what follows the choice is kept
pub one_left : (next : Option (Bor Block)) (follows : Option BuiltType) (b : Bor Block) (t : BuiltType) → option_zip next follows ≡ Some (b, t) → (next ≡ Some b) × (follows ≡ Some t)
one_left None follows b t e = absurd (cc e)
one_left (Some c) None b t e = absurd (cc e)
one_left (Some c) (Some u) b t e = (ap (option_map (λ x. x.0)) e, ap (option_map (λ x. x.1)) e)

pub block_typed : (ms : List ModuleTree) (target : Target) (ts : List Task) (c : Choosing) (types : List BuiltType) (t : BuiltType) → types ≡ c.types.items ++ t ∷ [] → IsState ms target (Join c ∷ ts) (made_of t)
    → IsChoosing ms target ts (scope_of c.scope) c.scope.depth c.chooser.now c.branches.now c.spot c.follows types
block_typed ms target ts c types t more s =
    let sc = scope_of c.scope in
    let hs = s.path.0 in
    let f = s.path.1 in
    let after = Under sc f.rest f.outer in
    let whole = Under sc (Then (Chooses c.chooser.now (blocks_of c.branches.now) c.spot) f.rest) f.outer in
    let here : FramesMake ms s.depth (Under sc (body_of f.block.body) after) (made_of t) = subst (λ fs. FramesMake ms s.depth fs (made_of t)) f.is s.made in
    let all : AreTyped ms s.depth sc after c.branches.now types = subst (λ ts. AreTyped ms s.depth sc after c.branches.now ts) (sym more) (typed_push ms s.depth sc after c.branches.now c.types.items t f.block f.here f.typed here) in
    let long : length types ≡ length c.types.items + 1 = ap length more ∙ length_push c.types.items t in
    subst (λ n. IsChoosing ms target ts sc n c.chooser.now c.branches.now c.spot c.follows types) f.deep (record {
      rest = f.rest;
      outer = f.outer;
      typed = all;
      few = omega (arith, long, slice_get_within c.branches.now (length c.types.items) f.block f.here);
      after = longer c.follows (λ u. FramesMake ms s.depth after (made_of u)) (length types) (length c.types.items + 1) (length c.branches.now) long f.after;
      up = subst (λ fs. FailsUp ms target.root s.depth fs) f.goes f.up;
      recs = f.recs;
      parts = f.parts;
      levels = f.levels;
      reached = f.reached;
      below = f.below;
      path = subst (λ fs. TasksLead ms target ts s.depth fs) f.goes s.path.2;
    })
