-- A type has the number of nodes and the height that are computed from its statements.
use Rattle.std.proofs.Common.{◌≡◌, ℕ, ◌+◌, ◌-◌, max, List, [], ◌∷◌, length, map, Some, if◌then◌else◌, refl, sym, ap, ◌∙◌, subst, arith}
use Rattle.std.proofs.lemmas.List.{length-map}
use Rattle.scrib_types.specs.declared.message.Message.{Message}
use Rattle.scrib_types.specs.declared.spot.Spot.{Spot}
use Rattle.scrib_types.specs.Trees.{GlobalTree, GlobalEnd, GlobalVar, GlobalRec, Comm, GlobalBranches, NoBranch, Branch}
use Rattle.scrib_tree.specs.declared.tree.ModuleTree.{ModuleTree}
use Rattle.scrib_static_checks.specs.Source.{Body, Done, Then, Sends, Chooses, Repeats, Continues, Calls, Blocks, NoBlock, OrBlock}
use Rattle.scrib_static_checks.specs.SourceView.{body_of}
use Rattle.scrib_static_checks.specs.Names.{Declaration, called}
use Rattle.scrib_static_checks.specs.Elaboration.{continues_in, Scope, role_in, Frames, NoFrame, Under, prefix_message, and_branches, Types, ends, closes, sends, chooses, repeats, passes, continues, calls, JoinsTo, joins_none, joins, nodes, branch_nodes, height, branch_height}
use Rattle.scrib_static_checks.specs.Sizes.{Size, size_done, size_sends, size_chooses, size_repeats, size_continues, size_calls, SizeOfBlocks, size_none, size_or}
use Rattle.scrib_static_checks.proofs.SizeFunctionLemmas.{Gathers, sums_gather, heights_gather}

-- a size of types, and that of branches, which combines those of the types
pub record IsSize (both : ℕ → ℕ → ℕ) (size : GlobalTree → ℕ) (branches : GlobalBranches → ℕ) : Type 0 where
  pub gathers : Gathers both
  pub end : size GlobalEnd ≡ 1
  pub var : (i : ℕ) → size (GlobalVar i) ≡ 1
  pub loop : (g : GlobalTree) → size (GlobalRec g) ≡ 1 + size g
  pub comm : (p q : List ℕ) (bs : GlobalBranches) → size (Comm p q bs) ≡ 1 + branches bs
  pub none : branches NoBranch ≡ 0
  pub more : (m : Message) (g : GlobalTree) (bs : GlobalBranches) → branches (Branch m g bs) ≡ both (size g) (branches bs)

sized_by_nodes : IsSize ◌+◌ nodes branch_nodes
sized_by_nodes = record {
  gathers = sums_gather;
  end = refl;
  var = λ i. refl;
  loop = λ g. refl;
  comm = λ p q bs. refl;
  none = refl;
  more = λ m g bs. refl;
}

sized_by_height : IsSize max height branch_height
sized_by_height = record {
  gathers = heights_gather;
  end = refl;
  var = λ i. refl;
  loop = λ g. refl;
  comm = λ p q bs. refl;
  none = refl;
  more = λ m g bs. refl;
}

-- by the first statement

pub size_of_done : {both : ℕ → ℕ → ℕ} {ms : List ModuleTree} {d : Declaration} {k n : ℕ} → Size both ms d Done k n → n ≡ k
size_of_done size_done = refl

pub size_of_sends : {both : ℕ → ℕ → ℕ} {ms : List ModuleTree} {d : Declaration} {m : Message} {p : List ℕ} {qs : List (List ℕ)} {s : Spot} {b : Body} {k r : ℕ}
    → Size both ms d (Then (Sends m p qs s) b) k r → (n : ℕ) × Size both ms d b k n × (r ≡ length qs + n)
size_of_sends (size_sends {n = n} t e) = (n, t, e)

pub size_of_chooses : {both : ℕ → ℕ → ℕ} {ms : List ModuleTree} {d : Declaration} {p : List ℕ} {bs : Blocks} {s : Spot} {b : Body} {k r : ℕ}
    → Size both ms d (Then (Chooses p bs s) b) k r → (n t : ℕ) × Size both ms d b k n × SizeOfBlocks both ms d bs n t × (r ≡ 1 + t)
size_of_chooses (size_chooses {n = n} {t = t} u v e) = (n, t, u, v, e)

pub size_of_repeats : {both : ℕ → ℕ → ℕ} {ms : List ModuleTree} {d : Declaration} {x : List ℕ} {c : Body} {s : Spot} {b : Body} {k r : ℕ}
    → Size both ms d (Then (Repeats x c s) b) k r → (n t : ℕ) × Size both ms d b k n × Size both ms d c n t × (r ≡ (if continues_in x c then 1 + t else t))
size_of_repeats (size_repeats {n = n} {t = t} u v e) = (n, t, u, v, e)

pub size_of_continues : {both : ℕ → ℕ → ℕ} {ms : List ModuleTree} {d : Declaration} {x : List ℕ} {s : Spot} {b : Body} {k r : ℕ} → Size both ms d (Then (Continues x s) b) k r → r ≡ 1
size_of_continues size_continues = refl

pub size_of_calls : {both : ℕ → ℕ → ℕ} {ms : List ModuleTree} {d : Declaration} {path roles : List (List ℕ)} {s : Spot} {b : Body} {k r : ℕ}
    → Size both ms d (Then (Calls path roles s) b) k r → (n : ℕ) × (c : Declaration) × Size both ms d b k n × (called ms d.home path ≡ Some c) × Size both ms c (body_of c.protocol.body) n r
size_of_calls (size_calls {c = c} {n = n} u e v) = (n, c, u, e, v)

pub size_of_none : {both : ℕ → ℕ → ℕ} {ms : List ModuleTree} {d : Declaration} {k r : ℕ} → SizeOfBlocks both ms d NoBlock k r → r ≡ 0
size_of_none size_none = refl

pub size_of_or : {both : ℕ → ℕ → ℕ} {ms : List ModuleTree} {d : Declaration} {b : Body} {s : Spot} {bs : Blocks} {k r : ℕ}
    → SizeOfBlocks both ms d (OrBlock b s bs) k r → (n t : ℕ) × Size both ms d b k n × SizeOfBlocks both ms d bs k t × (r ≡ both (n - 1) t)
size_of_or (size_or {n = n} {t = t} u v e) = (n, t, u, v, e)

-- the size of open blocks, one after the other
abbrev pub FramesSize : (ℕ → ℕ → ℕ) → List ModuleTree → Frames → ℕ → Type 0
FramesSize both ms NoFrame n = n ≡ 1
FramesSize both ms (Under sc b fs) n = (k : ℕ) × FramesSize both ms fs k × Size both ms sc.within b k n

size_of_prefix : (both : ℕ → ℕ → ℕ) (size : GlobalTree → ℕ) (branches : GlobalBranches → ℕ) → IsSize both size branches → (m : Message) (p : List ℕ) (qs : List (List ℕ)) (g : GlobalTree) → size (prefix_message m p qs g) ≡ length qs + size g
size_of_prefix both size branches is m p [] g = omega arith
size_of_prefix both size branches is m p (q ∷ qs) g =
    let one = is.more m (prefix_message m p qs g) NoBranch ∙ ap (both (size (prefix_message m p qs g))) is.none ∙ is.gathers.after (size (prefix_message m p qs g)) in
    let here = is.comm p q (Branch m (prefix_message m p qs g) NoBranch) in
    omega (arith, here, one, size_of_prefix both size branches is m p qs g)

size_of_and : (both : ℕ → ℕ → ℕ) (size : GlobalTree → ℕ) (branches : GlobalBranches → ℕ) → IsSize both size branches → (bs cs : GlobalBranches) → branches (and_branches bs cs) ≡ both (branches bs) (branches cs)
size_of_and both size branches is NoBranch cs =
    sym (is.gathers.before (branches cs)) ∙ ap (λ n. both n (branches cs)) (sym is.none)
size_of_and both size branches is (Branch m g bs) cs =
    is.more m g (and_branches bs cs) ∙ ap (both (size g)) (size_of_and both size branches is bs cs) ∙ is.gathers.grouped (size g) (branches bs) (branches cs) ∙ ap (λ n. both n (branches cs)) (sym (is.more m g bs))

mutual
  sized : {both : ℕ → ℕ → ℕ} {size : GlobalTree → ℕ} {branches : GlobalBranches → ℕ} {ms : List ModuleTree} {n : ℕ} {fs : Frames} {g : GlobalTree} → IsSize both size branches → Types ms n fs g → (r : ℕ) → FramesSize both ms fs r → size g ≡ r
  sized is ends r s = is.end ∙ sym s
  sized {both = both} {ms = ms} is (closes {fs = fs} t) r s = sized is t r (subst (λ x. FramesSize both ms fs x) (sym (size_of_done s.2)) s.1)
  sized {both = both} {size = size} {branches = branches} is (sends {sc = sc} {m = m} {p = p} {qs = qs} {g = g} t e) r s =
      let v = size_of_sends s.2 in
      let inner = sized is t v.0 (s.0, s.1, v.1) in
      let count = size_of_prefix both size branches is m (role_in sc p) (map (role_in sc) qs) g in
      let same : length (map (role_in sc) qs) ≡ length qs = length-map qs (role_in sc) in
      ap size e ∙ omega (arith, count, same, inner, v.2)
  sized {size = size} is (chooses {sc = sc} {p = p} {q = q} {cs = cs} j some d e) r s =
      let v = size_of_chooses s.2 in
      let inner = blocks_sized is j v.0 v.1 (s.0, s.1, v.2) v.3 in
      let comm = is.comm (role_in sc p) q cs in
      ap size e ∙ omega (arith, comm, inner, v.4)
  sized {size = size} is (repeats {x = x} {c = c} {g = g} k t l e) r s =
      let v = size_of_repeats s.2 in
      let inner = sized is t v.1 (v.0, (s.0, s.1, v.2), v.3) in
      let whole : r ≡ 1 + v.1 = rw k at v.4 in
      let loop = is.loop g in
      ap size e ∙ omega (arith, loop, inner, whole)
  sized is (passes {x = x} {c = c} k t) r s =
      let v = size_of_repeats s.2 in
      let inner = sized is t v.1 (v.0, (s.0, s.1, v.2), v.3) in
      let whole : r ≡ v.1 = rw k at v.4 in
      inner ∙ sym whole
  sized {size = size} is (continues {i = i} l m e) r s = ap size e ∙ is.var i ∙ sym (size_of_continues s.2)
  sized {both = both} {ms = ms} is (calls {c = c} e t) r s =
      let v = size_of_calls s.2 in
      let same : v.1 ≡ c = cc (e, v.3) in
      sized is t r (v.0, (s.0, s.1, v.2), subst (λ x. Size both ms x (body_of x.protocol.body) v.0 r) same v.4)

  blocks_sized : {both : ℕ → ℕ → ℕ} {size : GlobalTree → ℕ} {branches : GlobalBranches → ℕ} {ms : List ModuleTree} {n : ℕ} {sc : Scope} {bs : Blocks} {fs : Frames} {p q : List ℕ} {cs : GlobalBranches}
      → IsSize both size branches → JoinsTo ms n sc bs fs p q cs → (k t : ℕ) → FramesSize both ms fs k → SizeOfBlocks both ms sc.within bs k t → branches cs ≡ t
  blocks_sized is joins_none k t s u = is.none ∙ sym (size_of_none u)
  blocks_sized {both = both} {size = size} {branches = branches} is (joins {p = p} {q = q} {cs = cs} {ds = ds} ty e j f) k t s u =
      let v = size_of_or u in
      let first = sized is ty v.0 (k, s, v.2) in
      let here = ap size e ∙ is.comm p q cs in
      let left : branches cs ≡ v.0 - 1 = omega (arith, here, first) in
      ap branches f ∙ size_of_and both size branches is cs ds ∙ (λ i. both (left i) (blocks_sized is j k v.1 s v.3 i)) ∙ sym v.4

pub counted : {ms : List ModuleTree} {n : ℕ} {fs : Frames} {g : GlobalTree} → Types ms n fs g → (r : ℕ) → FramesSize ◌+◌ ms fs r → nodes g ≡ r
counted t r s = sized sized_by_nodes t r s

pub measured : {ms : List ModuleTree} {n : ℕ} {fs : Frames} {g : GlobalTree} → Types ms n fs g → (r : ℕ) → FramesSize max ms fs r → height g ≡ r
measured t r s = sized sized_by_height t r s
