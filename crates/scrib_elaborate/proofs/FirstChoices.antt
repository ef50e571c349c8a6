-- The first choice of a block that only joins means what the block means.
use Rattle.std.proofs.Common.{◌≡◌, ◌⊎◌, ℕ, true, List, [], map, refl, sym, ap, ◌∙◌, subst, ⊎_elim}
use Rattle.scrib_types.specs.declared.spot.Spot.{Spot}
use Rattle.scrib_types.specs.Trees.{Comm, GlobalBranches}
use Rattle.scrib_types.specs.WellFormed.{distinct_operators, has_branches}
use Rattle.scrib_tree.specs.declared.tree.ModuleTree.{ModuleTree}
use Rattle.scrib_static_checks.specs.Source.{Body, Done, Then, Statement, NoBlock}
use Rattle.scrib_static_checks.specs.SourceView.{body_of}
use Rattle.scrib_static_checks.specs.Names.{Declaration, roles_of}
use Rattle.scrib_static_checks.specs.Elaboration.{Scope, given_for, role_in, Frames, Under, Types}
use Rattle.scrib_static_checks.specs.Faults.{Needs, needs_itself, needs_close, needs_branch, needs_passes, needs_calls}
use Rattle.scrib_static_checks.specs.Joining.{AddsNothing, nothing_ends, nothing_repeats, nothing_calls, OnlyJoins, only_ends, only_chooses, only_repeats, only_passes, only_calls, BeginsAt, begins_here, begins_in_rec, begins_in_call, begins_later}
use Rattle.scrib_elaborate.specs.Sites.{IsSite}
use Rattle.scrib_elaborate.proofs.NeededParts.{needs_trans}
use Rattle.scrib_elaborate.proofs.NoEffectLemmas.{nothing_unused, only_unused, given_through, only_types}
use Rattle.scrib_static_checks.proofs.CallEffectLemmas.{JoinsCalled, nothing_view, only_view}
use Rattle.scrib_elaborate.proofs.SiteLemmas.{site_through}

-- the type of such a block is built from the type of what follows it

pub nothing_needs : {ms : List ModuleTree} {d : Declaration} {b : Body} → AddsNothing ms d b → (gs : List (List ℕ)) (rs : List (List ℕ × ℕ)) (n : ℕ) (fs : Frames) → Needs ms n (Under (record { within = d; given = gs; recs = rs }) b fs) n fs
nothing_needs nothing_ends gs rs n fs = needs_close needs_itself
nothing_needs {d = d} (nothing_repeats {x = x} {b = b} k l) gs rs n fs =
    let sc : Scope = record { within = d; given = gs; recs = rs } in
    needs_passes (nothing_unused k x) (needs_trans (nothing_needs k gs rs n (Under sc b fs)) (nothing_needs l gs rs n fs))
nothing_needs {d = d} (nothing_calls {roles = roles} {b = b} e k l) gs rs n fs =
    let sc : Scope = record { within = d; given = gs; recs = rs } in
    needs_calls e (needs_trans (nothing_needs k (map (role_in sc) roles) [] n (Under sc b fs)) (nothing_needs l gs rs n fs))

pub only_needs : {ms : List ModuleTree} {d : Declaration} {p : List ℕ} {b : Body} → OnlyJoins ms d p b → (gs : List (List ℕ)) (rs : List (List ℕ × ℕ)) (n : ℕ) (fs : Frames) → Needs ms n (Under (record { within = d; given = gs; recs = rs }) b fs) n fs
only_needs only_ends gs rs n fs = needs_close needs_itself
only_needs {d = d} (only_chooses {c = c} {t = t} {b = b} k l) gs rs n fs =
    let sc : Scope = record { within = d; given = gs; recs = rs } in
    needs_branch NoBlock c t NoBlock refl (needs_trans (only_needs k gs rs n (Under sc b fs)) (only_needs l gs rs n fs))
only_needs {d = d} (only_repeats {x = x} {b = b} k l) gs rs n fs =
    let sc : Scope = record { within = d; given = gs; recs = rs } in
    needs_passes (only_unused k x) (needs_trans (only_needs k gs rs n (Under sc b fs)) (only_needs l gs rs n fs))
only_needs {d = d} (only_passes {roles = roles} {b = b} e k l) gs rs n fs =
    let sc : Scope = record { within = d; given = gs; recs = rs } in
    needs_calls e (needs_trans (nothing_needs k (map (role_in sc) roles) [] n (Under sc b fs)) (only_needs l gs rs n fs))
only_needs {d = d} (only_calls {roles = roles} {b = b} e long has given k l) gs rs n fs =
    let sc : Scope = record { within = d; given = gs; recs = rs } in
    needs_calls e (needs_trans (only_needs k (map (role_in sc) roles) [] n (Under sc b fs)) (only_needs l gs rs n fs))

step_needs : {ms : List ModuleTree} {d : Declaration} {s : Statement} → AddsNothing ms d (Then s Done) → (gs : List (List ℕ)) (rs : List (List ℕ × ℕ)) (n : ℕ) (b : Body) (fs : Frames)
    → Needs ms n (Under (record { within = d; given = gs; recs = rs }) (Then s b) fs) n (Under (record { within = d; given = gs; recs = rs }) b fs)
step_needs {d = d} (nothing_repeats {x = x} k l) gs rs n b fs =
    let sc : Scope = record { within = d; given = gs; recs = rs } in
    needs_passes (nothing_unused k x) (nothing_needs k gs rs n (Under sc b fs))
step_needs {d = d} (nothing_calls {roles = roles} e k l) gs rs n b fs =
    let sc : Scope = record { within = d; given = gs; recs = rs } in
    needs_calls e (nothing_needs k (map (role_in sc) roles) [] n (Under sc b fs))

-- a block with a first choice contains a join

begins_something : {ms : List ModuleTree} {d home : Declaration} {b : Body} {s : Spot} → BeginsAt ms d b home s → AddsNothing ms d b → ⊥
begins_something begins_here m = (nothing_view m).0
begins_something (begins_in_rec h) m = begins_something h (nothing_view m).0
begins_something {ms = ms} (begins_in_call {c = c} e h) m =
    let v = (nothing_view m).0 in
    let same : v.0 ≡ c = cc (v.1, e) in
    begins_something h (subst (λ x. AddsNothing ms x (body_of x.protocol.body)) same v.2)
begins_something (begins_later a h) m = begins_something h (nothing_view m).1

-- the role by which the called protocol joins
joined_by : {ms : List ModuleTree} {c e home : Declaration} {s : Spot} (roles : List (List ℕ)) (p : List ℕ) → e ≡ c → BeginsAt ms c (body_of c.protocol.body) home s → AddsNothing ms e (body_of e.protocol.body) ⊎ JoinsCalled ms e roles p → JoinsCalled ms c roles p
joined_by {ms = ms} roles p same h v =
    ⊎_elim (λ a. absurd (begins_something h (subst (λ x. AddsNothing ms x (body_of x.protocol.body)) same a))) (λ j. subst (λ x. JoinsCalled ms x roles p) same j) v

-- the first choice means the communication that follows the block, as the block does
pub begins_site : {ms : List ModuleTree} {d home : Declaration} {b : Body} {s : Spot} → BeginsAt ms d b home s → (p : List ℕ) → OnlyJoins ms d p b → (gs : List (List ℕ)) (rs : List (List ℕ × ℕ)) (n : ℕ) (fs : Frames) (r q : List ℕ) (cs : GlobalBranches)
    → r ≡ given_for (roles_of d) gs p → has_branches cs ≡ true → distinct_operators cs ≡ true → Types ms n fs (Comm r q cs) → IsSite ms n (Under (record { within = d; given = gs; recs = rs }) b fs) home.home.name s n (Comm r q cs)
begins_site {d = d} (begins_here {p = chooser} {bs = bs} {b = b}) p m gs rs n fs r q cs is some apart t = record {
  scope = record { within = d; given = gs; recs = rs };
  chooser = chooser;
  blocks = bs;
  after = b;
  outer = fs;
  there = refl;
  needs = needs_itself;
  typed = only_types m gs rs n fs r q cs is some apart t;
}
begins_site {d = d} (begins_in_rec {x = x} {b = b} h) p m gs rs n fs r q cs is some apart t =
    let sc : Scope = record { within = d; given = gs; recs = rs } in
    let v = only_view m in
    site_through (needs_passes (only_unused v.0 x) needs_itself) (begins_site h p v.0 gs rs n (Under sc b fs) r q cs is some apart (only_types v.1 gs rs n fs r q cs is some apart t))
begins_site {ms = ms} {d = d} (begins_in_call {path = path} {roles = roles} {b = b} {c = c} e h) p m gs rs n fs r q cs is some apart t =
    let sc : Scope = record { within = d; given = gs; recs = rs } in
    let v = only_view m in
    let same : v.0.0 ≡ c = cc (v.0.1, e) in
    let j = joined_by roles p same h v.0.2 in
    let through : r ≡ given_for (roles_of c) (map (role_in sc) roles) j.0 =
    is ∙ ap (role_in sc) (sym j.2) ∙ sym (given_through (role_in sc) (roles_of c) roles j.0 j.4 j.1) in
    site_through (needs_calls e needs_itself) (begins_site h j.0 j.3 (map (role_in sc) roles) [] n (Under sc b fs) r q cs through some apart (only_types v.1 gs rs n fs r q cs is some apart t))
begins_site (begins_later {b = b} a h) p m gs rs n fs r q cs is some apart t =
    site_through (step_needs a gs rs n b fs) (begins_site h p (only_view m).1 gs rs n fs r q cs is some apart t)
