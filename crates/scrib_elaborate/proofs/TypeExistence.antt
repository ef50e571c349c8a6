-- What a protocol's type is built from has a type, and the branches of a choice join.
use Rattle.std.proofs.Common.{◌≡◌, ◌⊎◌, ℕ, true, not, List, refl, sym, ap, ◌∙◌, subst, ⊎_elim, inl, inr}
use Rattle.std.proofs.lemmas.Bool.{false≢true, both_ways, and_parts, or_cases, or_left, or_right, not-true}
use Rattle.scrib_types.specs.declared.spot.Spot.{Spot}
use Rattle.scrib_types.specs.Trees.{GlobalTree, Comm, GlobalBranches, NoBranch, Branch}
use Rattle.scrib_types.specs.WellFormed.{same_operator, has_operator, distinct_operators}
use Rattle.scrib_tree.specs.declared.tree.ModuleTree.{ModuleTree}
use Rattle.scrib_static_checks.specs.Source.{Body, Blocks, NoBlock, OrBlock}
use Rattle.scrib_static_checks.specs.SourceView.{body_of}
use Rattle.scrib_static_checks.specs.Elaboration.{Scope, inside_call, Frames, Under, and_branches, Types, JoinsTo, joins_none, joins}
use Rattle.scrib_static_checks.specs.Faults.{blocks_before, Needs, needs_itself, needs_close, needs_sends, needs_branch, needs_repeats, needs_passes, needs_calls, share_operator}
use Rattle.scrib_elaborate.proofs.Inversion.{type_of_done, type_of_sends, type_of_chooses, type_of_repeats, type_of_calls, join_of_or}

-- the branches of the blocks before one, and those of it and the later ones
pub record IsSplit (ms : List ModuleTree) (n : ℕ) (sc : Scope) (before : Blocks) (b : Body) (s : Spot) (after : Blocks) (fs : Frames) (p q : List ℕ) (es : GlobalBranches) : Type 0 where
  pub earlier : GlobalBranches
  pub later : GlobalBranches
  pub first : JoinsTo ms n sc before fs p q earlier
  pub second : JoinsTo ms n sc (OrBlock b s after) fs p q later
  pub is : es ≡ and_branches earlier later

and_assoc : (hs bs cs : GlobalBranches) → and_branches hs (and_branches bs cs) ≡ and_branches (and_branches hs bs) cs
and_assoc NoBranch bs cs = refl
and_assoc (Branch m g hs) bs cs = ap (Branch m g) (and_assoc hs bs cs)

pub split_join : {ms : List ModuleTree} {n : ℕ} {sc : Scope} (before : Blocks) {b : Body} {s : Spot} {after : Blocks} {fs : Frames} {p q : List ℕ} {es : GlobalBranches}
    → JoinsTo ms n sc (blocks_before before b s after) fs p q es → IsSplit ms n sc before b s after fs p q es
split_join NoBlock {es = es} j = record { earlier = NoBranch; later = es; first = joins_none; second = j; is = refl }
split_join (OrBlock c t bs) j =
    let v = join_of_or j in
    let w = split_join bs v.joined in
    record {
      earlier = and_branches v.here w.earlier;
      later = w.later;
      first = joins v.typed v.begins w.first refl;
      second = w.second;
      is = v.is ∙ ap (and_branches v.here) w.is ∙ and_assoc v.here w.earlier w.later;
    }

-- the type of one block among them
pub record IsBranchOf (ms : List ModuleTree) (n : ℕ) (sc : Scope) (b : Body) (fs : Frames) (p q : List ℕ) (es : GlobalBranches) : Type 0 where
  pub left : GlobalBranches
  pub here : GlobalBranches
  pub right : GlobalBranches
  pub typed : Types ms n (Under sc b fs) (Comm p q here)
  pub is : es ≡ and_branches left (and_branches here right)

pub branch_of_join : {ms : List ModuleTree} {n : ℕ} {sc : Scope} {bs : Blocks} (before : Blocks) (b : Body) (s : Spot) (after : Blocks) {fs : Frames} {p q : List ℕ} {es : GlobalBranches}
    → JoinsTo ms n sc bs fs p q es → bs ≡ blocks_before before b s after → IsBranchOf ms n sc b fs p q es
branch_of_join {ms = ms} {n = n} {sc = sc} before b s after {fs = fs} {p = p} {q = q} {es = es} j e =
    let w = split_join before (subst (λ x. JoinsTo ms n sc x fs p q es) e j) in
    let v = join_of_or w.second in
    record {
      left = w.earlier;
      here = v.here;
      right = v.more;
      typed = subst (λ g. Types ms n (Under sc b fs) g) v.begins v.typed;
      is = w.is ∙ ap (and_branches w.earlier) v.is;
    }

-- what the type of frames is built from has a type
pub typed_at : {ms : List ModuleTree} {n m : ℕ} {fs hs : Frames} → Needs ms n fs m hs → (g : GlobalTree) → Types ms n fs g → (h : GlobalTree) × Types ms m hs h
typed_at needs_itself g t = (g, t)
typed_at (needs_close u) g t = typed_at u g (type_of_done t)
typed_at (needs_sends u) g t = let v = type_of_sends t in typed_at u v.0 v.1
typed_at (needs_branch before c s after e u) g t =
    let v = type_of_chooses t in
    let w = branch_of_join before c s after v.joined e in
    typed_at u _ w.typed
typed_at (needs_repeats e u) g t =
    ⊎_elim (λ v. typed_at u v.inner v.typed) (λ v. absurd (cc (e, v.0))) (type_of_repeats t)
typed_at (needs_passes e u) g t =
    ⊎_elim (λ v. absurd (cc (e, v.continued))) (λ v. typed_at u g v.1) (type_of_repeats t)
typed_at {ms = ms} {n = n} (needs_calls {sc = sc} {roles = roles} {b = b} {fs = fs} {c = c} e u) g t =
    let v = type_of_calls t in
    let same : v.0 ≡ c = cc (e, v.1) in
    typed_at u g (subst (λ x. Types ms n (Under (inside_call sc x roles) (body_of x.protocol.body) (Under sc b fs)) g) same v.2)

-- operators that two branches share are not different

has_more : (o : _) (hs bs : GlobalBranches) → (has_operator o hs ≡ true) ⊎ (has_operator o bs ≡ true) → has_operator o (and_branches hs bs) ≡ true
has_more o NoBranch bs h = ⊎_elim (λ e. absurd (false≢true e)) (λ e. e) h
has_more o (Branch m g hs) bs h =
    ⊎_elim (λ e. ⊎_elim (λ x. or_left (same_operator o m.op) (has_operator o (and_branches hs bs)) x) (λ x. or_right (same_operator o m.op) (has_operator o (and_branches hs bs)) (has_more o hs bs (inl x))) (or_cases (same_operator o m.op) (has_operator o hs) e)) (λ e. or_right (same_operator o m.op) (has_operator o (and_branches hs bs)) (has_more o hs bs (inr e))) h

distinct_rest : (hs bs : GlobalBranches) → distinct_operators (and_branches hs bs) ≡ true → distinct_operators bs ≡ true
distinct_rest NoBranch bs h = h
distinct_rest (Branch m g hs) bs h =
    distinct_rest hs bs (and_parts (not (has_operator m.op (and_branches hs bs))) (distinct_operators (and_branches hs bs)) h).1

apart : (hs bs cs ds : GlobalBranches) → distinct_operators (and_branches hs (and_branches bs (and_branches cs ds))) ≡ true → share_operator hs cs ≡ true → ⊥
apart NoBranch bs cs ds h k = false≢true k
apart (Branch m g hs) bs cs ds h k =
    let rest = and_branches hs (and_branches bs (and_branches cs ds)) in
    let parts = and_parts (not (has_operator m.op rest)) (distinct_operators rest) h in
    ⊎_elim (λ e. both_ways (has_operator m.op rest) (not-true (has_operator m.op rest) parts.0) (has_more m.op hs (and_branches bs (and_branches cs ds)) (inr (has_more m.op bs (and_branches cs ds) (inr (has_more m.op cs ds (inl e))))))) (λ e. apart hs bs cs ds parts.1 e) (or_cases (has_operator m.op cs) (share_operator hs cs) k)

-- an operator that occurs twice in a join
pub not_shared : (left first mid here right : GlobalBranches) → distinct_operators (and_branches (and_branches left (and_branches first mid)) (and_branches here right)) ≡ true → share_operator first here ≡ true → ⊥
not_shared left first mid here right h k =
    let flat : and_branches (and_branches left (and_branches first mid)) (and_branches here right) ≡ and_branches left (and_branches first (and_branches mid (and_branches here right))) =
    sym (and_assoc left (and_branches first mid) (and_branches here right)) ∙ ap (and_branches left) (sym (and_assoc first mid (and_branches here right))) in
    let d : distinct_operators (and_branches left (and_branches first (and_branches mid (and_branches here right)))) ≡ true = ap distinct_operators (sym flat) ∙ h in
    apart first mid here right (distinct_rest left (and_branches first (and_branches mid (and_branches here right))) d) k
