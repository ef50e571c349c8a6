-- A block that adds no communication leaves the type of what follows it unchanged.
use Rattle.std.proofs.Common.{◌≡◌, ℕ, Bool, true, false, ◌||◌, List, [], ◌∷◌, length, map, Some, if◌then◌else◌, refl, sym, ap, ◌∙◌, arith}
use Rattle.std.specs.Str.{bytes_eq}
use Rattle.std.proofs.lemmas.Bool.{false≢true}
use Rattle.scrib_types.specs.declared.spot.Spot.{Spot}
use Rattle.scrib_types.specs.declared.message.Message.{Message}
use Rattle.scrib_types.specs.Trees.{GlobalTree, Comm, GlobalBranches, NoBranch, Branch}
use Rattle.scrib_types.specs.WellFormed.{has_role, distinct_operators, has_branches}
use Rattle.scrib_tree.specs.declared.tree.ModuleTree.{ModuleTree}
use Rattle.scrib_static_checks.specs.Source.{Body, Then, Calls}
use Rattle.scrib_static_checks.specs.SourceView.{body_of}
use Rattle.scrib_static_checks.specs.Names.{Declaration, roles_of, called}
use Rattle.scrib_static_checks.specs.Elaboration.{continues_in, Scope, given_for, role_in, Frames, Under, prefix_message, and_branches, Types, ends, closes, sends, chooses, repeats, passes, continues, calls, joins_none, joins}
use Rattle.scrib_static_checks.specs.Joining.{AddsNothing, nothing_ends, nothing_repeats, nothing_calls, OnlyJoins, only_ends, only_chooses, only_repeats, only_passes, only_calls}

-- no recursion is continued in such a block

never : (b : Bool) → (if b then false else false) ≡ false
never true = refl
never false = refl

neither : (a b : Bool) → a ≡ false → b ≡ false → (a || b) ≡ false
neither a b e f = rw (e, f) refl

inner_unused : (x y : List ℕ) (c : Body) → continues_in x c ≡ false → (if bytes_eq x y then false else continues_in x c) ≡ false
inner_unused x y c e = rw e (never (bytes_eq x y))

pub nothing_unused : {ms : List ModuleTree} {d : Declaration} {b : Body} → AddsNothing ms d b → (x : List ℕ) → continues_in x b ≡ false
nothing_unused nothing_ends x = refl
nothing_unused (nothing_repeats {x = y} {c = c} {b = b} k l) x =
    neither _ (continues_in x b) (inner_unused x y c (nothing_unused k x)) (nothing_unused l x)
nothing_unused (nothing_calls e k l) x = nothing_unused l x

pub only_unused : {ms : List ModuleTree} {d : Declaration} {p : List ℕ} {b : Body} → OnlyJoins ms d p b → (x : List ℕ) → continues_in x b ≡ false
only_unused only_ends x = refl
only_unused (only_chooses {c = c} {b = b} k l) x =
    neither _ (continues_in x b) (neither (continues_in x c) false (only_unused k x) refl) (only_unused l x)
only_unused (only_repeats {x = y} {c = c} {b = b} k l) x =
    neither _ (continues_in x b) (inner_unused x y c (only_unused k x)) (only_unused l x)
only_unused (only_passes e k l) x = only_unused l x
only_unused (only_calls e n h g k l) x = only_unused l x

-- the role that is passed for a role, through a call
pub given_through : (f : List ℕ → List ℕ) (ds gs : List (List ℕ)) (r : List ℕ) → length gs ≡ length ds → has_role r ds ≡ true → given_for ds (map f gs) r ≡ f (given_for ds gs r)
given_through f [] gs r n h = absurd (false≢true h)
given_through f (d ∷ ds) [] r n h = absurd (omega arith)
given_through f (d ∷ ds) (g ∷ gs) r n h =
    at (bytes_eq r d) h (λ k. given_through f ds gs r (omega arith) k)
  where
    at : (b : Bool) → (b || has_role r ds) ≡ true → (has_role r ds ≡ true → given_for ds (map f gs) r ≡ f (given_for ds gs r)) → (if b then f g else given_for ds (map f gs) r) ≡ f (if b then g else given_for ds gs r)
    at true k more = refl
    at false k more = more k

-- a block that adds nothing has the type of what follows it
pub nothing_types : {ms : List ModuleTree} {d : Declaration} {b : Body} → AddsNothing ms d b → (gs : List (List ℕ)) (rs : List (List ℕ × ℕ)) (n : ℕ) (fs : Frames) (g : GlobalTree)
    → Types ms n fs g → Types ms n (Under (record { within = d; given = gs; recs = rs }) b fs) g
nothing_types nothing_ends gs rs n fs g t = closes t
nothing_types {d = d} (nothing_repeats {x = x} {b = b} k l) gs rs n fs g t =
    passes (nothing_unused k x) (nothing_types k gs rs n (Under (record { within = d; given = gs; recs = rs }) b fs) g (nothing_types l gs rs n fs g t))
nothing_types {d = d} (nothing_calls {roles = roles} {b = b} e k l) gs rs n fs g t =
    let sc : Scope = record { within = d; given = gs; recs = rs } in
    calls e (nothing_types k (map (role_in sc) roles) [] n (Under sc b fs) g (nothing_types l gs rs n fs g t))

and_none : (cs : GlobalBranches) → cs ≡ and_branches cs NoBranch
and_none NoBranch = refl
and_none (Branch m g cs) = ap (Branch m g) (and_none cs)

-- a block whose choices only join has the type of a communication by their role that follows it
pub only_types : {ms : List ModuleTree} {d : Declaration} {p : List ℕ} {b : Body} → OnlyJoins ms d p b → (gs : List (List ℕ)) (rs : List (List ℕ × ℕ)) (n : ℕ) (fs : Frames) (r q : List ℕ) (cs : GlobalBranches)
    → r ≡ given_for (roles_of d) gs p → has_branches cs ≡ true → distinct_operators cs ≡ true → Types ms n fs (Comm r q cs) → Types ms n (Under (record { within = d; given = gs; recs = rs }) b fs) (Comm r q cs)
only_types only_ends gs rs n fs r q cs is some apart t = closes t
only_types {ms = ms} {d = d} {p = p} (only_chooses {c = c} {b = b} k l) gs rs n fs r q cs is some apart t =
    let sc : Scope = record { within = d; given = gs; recs = rs } in
    let rest = only_types l gs rs n fs r q cs is some apart t in
    let block = only_types k gs rs n (Under sc b fs) r q cs is some apart rest in
    chooses (joins block (ap (λ x. Comm x q cs) is) joins_none (and_none cs)) some apart (ap (λ x. Comm x q cs) is)
only_types {d = d} (only_repeats {x = x} {b = b} k l) gs rs n fs r q cs is some apart t =
    let sc : Scope = record { within = d; given = gs; recs = rs } in
    passes (only_unused k x) (only_types k gs rs n (Under sc b fs) r q cs is some apart (only_types l gs rs n fs r q cs is some apart t))
only_types {d = d} (only_passes {roles = roles} {b = b} e k l) gs rs n fs r q cs is some apart t =
    let sc : Scope = record { within = d; given = gs; recs = rs } in
    calls e (nothing_types k (map (role_in sc) roles) [] n (Under sc b fs) (Comm r q cs) (only_types l gs rs n fs r q cs is some apart t))
only_types {d = d} (only_calls {q = z} {roles = roles} {b = b} {c = c} e long has given k l) gs rs n fs r q cs is some apart t =
    let sc : Scope = record { within = d; given = gs; recs = rs } in
    let through : r ≡ given_for (roles_of c) (map (role_in sc) roles) z =
    is ∙ ap (role_in sc) (sym given) ∙ sym (given_through (role_in sc) (roles_of c) roles z long has) in
    calls e (only_types k (map (role_in sc) roles) [] n (Under sc b fs) r q cs through some apart (only_types l gs rs n fs r q cs is some apart t))

-- a communication that is a type has branches, whose operators are different

abbrev pub HasBranches : GlobalTree → Type 0
HasBranches g = (p q : List ℕ) (cs : GlobalBranches) → g ≡ Comm p q cs → (has_branches cs ≡ true) × (distinct_operators cs ≡ true)

prefix_branches : (m : Message) (p : List ℕ) (qs : List (List ℕ)) (g : GlobalTree) → HasBranches g → HasBranches (prefix_message m p qs g)
prefix_branches m p [] g h = h
prefix_branches m p (z ∷ qs) g h = λ r q cs e.
    let same : Branch m (prefix_message m p qs g) NoBranch ≡ cs = cc e in
    (ap has_branches (sym same), ap distinct_operators (sym same))

pub typed_branches : {ms : List ModuleTree} {n : ℕ} {fs : Frames} {g : GlobalTree} → Types ms n fs g → HasBranches g
typed_branches ends p q cs e = absurd (cc e)
typed_branches (closes t) p q cs e = typed_branches t p q cs e
typed_branches (sends {sc = sc} {m = m} {p = s} {qs = qs} {g = g} t is) p q cs e =
    prefix_branches m (role_in sc s) (map (role_in sc) qs) g (typed_branches t) p q cs (sym is ∙ e)
typed_branches (chooses {cs = ds} j some apart is) p q cs e =
    let same : ds ≡ cs = cc (is, e) in
    (ap has_branches (sym same) ∙ some, ap distinct_operators (sym same) ∙ apart)
typed_branches (repeats k t l is) p q cs e = absurd (cc (is, e))
typed_branches (passes k t) p q cs e = typed_branches t p q cs e
typed_branches (continues l m is) p q cs e = absurd (cc (is, e))
typed_branches (calls c t) p q cs e = typed_branches t p q cs e

-- a call of such a protocol

pub call_of_nothing : {ms : List ModuleTree} {n : ℕ} {sc : Scope} {path roles : List (List ℕ)} {s : Spot} {b : Body} {fs : Frames} {g : GlobalTree} (c : Declaration)
    → called ms sc.within.home path ≡ Some c → AddsNothing ms c (body_of c.protocol.body) → Types ms n (Under sc b fs) g → Types ms n (Under sc (Then (Calls path roles s) b) fs) g
call_of_nothing {n = n} {sc = sc} {roles = roles} {b = b} {fs = fs} {g = g} c e k t =
    calls e (nothing_types k (map (role_in sc) roles) [] n (Under sc b fs) g t)

pub call_of_only : {ms : List ModuleTree} {n : ℕ} {sc : Scope} {path roles : List (List ℕ)} {s : Spot} {b : Body} {fs : Frames} {r q : List ℕ} {cs : GlobalBranches} (c : Declaration) (p : List ℕ)
    → called ms sc.within.home path ≡ Some c → OnlyJoins ms c p (body_of c.protocol.body) → r ≡ given_for (roles_of c) (map (role_in sc) roles) p → Types ms n (Under sc b fs) (Comm r q cs)
    → Types ms n (Under sc (Then (Calls path roles s) b) fs) (Comm r q cs)
call_of_only {n = n} {sc = sc} {roles = roles} {b = b} {fs = fs} {r = r} {q = q} {cs = cs} c p e k is t =
    let (some, apart) = typed_branches t r q cs refl in
    calls e (only_types k (map (role_in sc) roles) [] n (Under sc b fs) r q cs is some apart t)
