-- Where a fault's rule fails, the requested protocol means nothing.
use Rattle.std.proofs.Common.{◌≡◌, ℕ, ◌+◌, ◌≤◌, true, false, List, ◌∷◌, length, map, Some, None, refl, sym, ap, ◌∙◌, subst, ⊎_elim, arith}
use Rattle.std.proofs.lemmas.Bool.{false≢true, both_ways}
use Rattle.std.proofs.lemmas.List.{map-append}
use Rattle.std.proofs.lemmas.Option.{slice_get_within}
use Rattle.scrib_types.specs.declared.spot.Spot.{Spot}
use Rattle.scrib_types.specs.Agreement.{Agreement}
use Rattle.scrib_types.specs.Trees.{GlobalTree, Comm, GlobalBranches}
use Rattle.scrib_types.specs.WellFormed.{has_role, distinct_roles, leads_to_communication, has_branches, distinct_operators}
use Rattle.scrib_tree.specs.declared.tree.ModuleTree.{ModuleTree}
use Rattle.scrib_static_checks.specs.declared.fault.FaultKind.{FaultKind}
use Rattle.scrib_static_checks.specs.declared.fault.FaultKind.TheVariants as kind
use Rattle.scrib_static_checks.specs.declared.fault.Fault.{Fault}
use Rattle.scrib_static_checks.specs.Source.{Body, Then, Calls, Blocks, NoBlock}
use Rattle.scrib_static_checks.specs.Names.{Declaration, has_name, distinct_names, roles_of, called_home, called}
use Rattle.scrib_static_checks.specs.Statements.{are_roles, KeepsRules}
use Rattle.scrib_static_checks.specs.Elaboration.{and_branches, Scope, role_in, inside, Frames, Under, Types, nodes, height, start_of, Elaborates}
use Rattle.scrib_static_checks.specs.Sizes.{IsTooLarge}
use Rattle.scrib_static_checks.specs.Faults.{HasStatement, IsAgain, HasNoRole, message, choice, call, IsUnreachable, IsLoose, blocks_before, IsNeeded, IsUnguarded, IsBranchAt, IsWithoutBranch, IsOfAnother, IsToAnother, IsSameOperator, share_operator, Fails, IsInside, IsBroken}
use Rattle.scrib_elaborate.proofs.Inversion.{type_of_chooses, type_of_repeats, join_of_none, join_of_or, IsJoin}
use Rattle.scrib_elaborate.proofs.UniqueMeaning.{types_same}
use Rattle.scrib_static_checks.proofs.RuleLemmas.{kept_at, of_then, of_protocol, of_sends, of_chooses, of_continues, step_at, callee, no_cycle, kept_along, step_exits_same}
use Rattle.scrib_elaborate.proofs.TypeExistence.{split_join, branch_of_join, IsBranchOf, typed_at, not_shared}
use Rattle.scrib_elaborate.proofs.SizeLemmas.{counted, measured}
use Rattle.scrib_static_checks.proofs.NameLemmas.{distinct_roles-again, distinct_names-again, found_nowhere}

-- a name that is declared twice

roles_again : {X : Type 0} (f : X → List ℕ) (spot_of : X → Spot) (xs : List X) (spot : Spot) → IsAgain f has_role spot_of xs spot → distinct_roles (map f xs) ≡ true → ⊥
roles_again f spot_of xs spot h d =
    let there = subst (λ ys. distinct_roles (map f ys) ≡ true) h.here d in
    distinct_roles-again (map f h.before) (f h.again) (map f h.after) h.twice (subst (λ ys. distinct_roles ys ≡ true) (map-append f h.before (h.again ∷ h.after)) there)

names_again : {X : Type 0} (f : X → List (List ℕ)) (spot_of : X → Spot) (xs : List X) (spot : Spot) → IsAgain f has_name spot_of xs spot → distinct_names (map f xs) ≡ true → ⊥
names_again f spot_of xs spot h d =
    let there = subst (λ ys. distinct_names (map f ys) ≡ true) h.here d in
    distinct_names-again (map f h.before) (f h.again) (map f h.after) h.twice (subst (λ ys. distinct_names ys ≡ true) (map-append f h.before (h.again ∷ h.after)) there)

-- the first pass

first_pass : (ms : List ModuleTree) (d : Declaration) (e : _) → KeepsRules ms d e → {path roles : List (List ℕ)} {spot : Spot} → HasStatement d (Calls path roles spot)
    → (c : Declaration) × (are_roles roles (roles_of d) ≡ true) × (distinct_roles roles ≡ true) × (called ms d.home path ≡ Some c) × (length roles ≡ length c.protocol.roles)
first_pass ms d e k h = let t = callee k h in (t.to, t.call.declared, t.call.different, t.call.there, t.call.count)

no_role : (ms : List ModuleTree) (d : Declaration) (e : _) → KeepsRules ms d e → (spot : Spot) → HasNoRole d spot → ⊥
no_role ms d e k spot (message h r) = both_ways _ r (of_sends (step_at k h).kept).0
no_role ms d e k spot (choice h r) = both_ways _ r (of_chooses (step_at k h).kept).0
no_role ms d e k spot (call h r) = both_ways _ r (first_pass ms d e k h).1

unreachable : (ms : List ModuleTree) (d : Declaration) (e : _) → KeepsRules ms d e → (spot : Spot) → IsUnreachable ms d spot → ⊥
unreachable ms d e k spot h =
    let p = of_protocol k in
    let r = kept_at h.occurs ms d true e p.block in
    let t = of_then r.kept in
    let u = of_then t.rest in
    let same = step_exits_same t.step false h.none in
    false≢true (sym same ∙ u.before)

loose : (ms : List ModuleTree) (d : Declaration) (e : _) → KeepsRules ms d e → (spot : Spot) → IsLoose d spot → ⊥
loose ms d e k spot h =
    let p = of_protocol k in
    let r = kept_at h.occurs ms d true e p.block in
    let t = of_then r.kept in
    both_ways _ h.loose (of_continues t.step).0

-- the third pass

needed_type : (ms : List ModuleTree) (root d : Declaration) (g : GlobalTree) → Types ms 0 (start_of root) g → {s : _} {n : ℕ} {sc : Scope} {fs : Frames} (h : IsNeeded ms 0 (start_of root) d s n sc fs)
    → (t : GlobalTree) × Types ms n (Under sc (Then s h.after) h.outer) t
needed_type ms root d g t h = typed_at h.needs g t

unguarded : (ms : List ModuleTree) (root d : Declaration) (g : GlobalTree) → Types ms 0 (start_of root) g → (spot : Spot) → IsUnguarded ms 0 (start_of root) d spot → ⊥
unguarded ms root d g t spot h =
    let v = needed_type ms root d g t h.needed in
    let typed = subst (λ fs. Types ms (h.depth + 1) (Under (inside h.scope h.name h.depth) h.body fs) h.inner) h.needed.same h.typed in
    ⊎_elim (λ l. let same = types_same typed l.inner l.typed in both_ways _ h.unguarded (ap leads_to_communication same ∙ l.guarded)) (λ l. absurd (cc (h.continued, l.0))) (type_of_repeats v.1)

-- the choice's join, and the type of its branch in it
pub record IsJoined (ms : List ModuleTree) (n : ℕ) (sc : Scope) (p : List ℕ) (before : Blocks) (b : Body) (s : Spot) (after : Blocks) (fs : Frames) (type : GlobalTree) : Type 0 where
  pub choice : GlobalTree
  pub join : IsJoin ms n sc p (blocks_before before b s after) fs choice
  pub branch : IsBranchOf ms n sc b fs (role_in sc p) join.receiver join.branches
  pub is : type ≡ Comm (role_in sc p) join.receiver branch.here

joined : (ms : List ModuleTree) (root d : Declaration) (g : GlobalTree) → Types ms 0 (start_of root) g → (spot : Spot) (h : IsBranchAt ms 0 (start_of root) d spot)
    → IsJoined ms h.depth h.scope h.chooser h.before h.body spot h.after h.follows h.type
joined ms root d g t spot h =
    let v = needed_type ms root d g t h.needed in
    let j = subst (λ fs. IsJoin ms h.depth h.scope h.chooser (blocks_before h.before h.body spot h.after) fs v.0) (sym h.needed.same) (type_of_chooses v.1) in
    let b = branch_of_join h.before h.body spot h.after j.joined refl in
    record { choice = v.0; join = j; branch = b; is = types_same h.typed _ b.typed }

without_branch : (ms : List ModuleTree) (root d : Declaration) (g : GlobalTree) → Types ms 0 (start_of root) g → (spot : Spot) → IsWithoutBranch ms 0 (start_of root) d spot → ⊥
without_branch ms root d g t spot h =
    let v = needed_type ms root d g t h.needed in
    let j = type_of_chooses v.1 in
    false≢true (sym (ap has_branches (join_of_none j.joined)) ∙ j.some)

of_another : (ms : List ModuleTree) (root d : Declaration) (g : GlobalTree) → Types ms 0 (start_of root) g → (spot : Spot) → IsOfAnother ms 0 (start_of root) d spot → ⊥
of_another ms root d g t spot h =
    let v = joined ms root d g t spot h.branch in
    let same : h.sender ≡ role_in h.branch.scope h.branch.chooser = cc (h.is, v.is) in h.another same

to_another : (ms : List ModuleTree) (root d : Declaration) (g : GlobalTree) → Types ms 0 (start_of root) g → (spot : Spot) → IsToAnother ms 0 (start_of root) d spot → ⊥
to_another ms root d g t spot h =
    let v = joined ms root d g t spot h.branch in
    let w = split_join h.branch.before v.join.joined in
    let u = branch_of_join NoBlock h.first.body h.first.spot h.first.after w.first h.first.here in
    let first = types_same h.first.typed _ u.typed in
    let same : h.receiver ≡ h.first_receiver = cc (h.is, v.is, first) in
    h.another same

same_operator_twice : (ms : List ModuleTree) (root d : Declaration) (g : GlobalTree) → Types ms 0 (start_of root) g → (spot : Spot) → IsSameOperator ms 0 (start_of root) d spot → ⊥
same_operator_twice ms root d g t spot h =
    let v = joined ms root d g t spot h.branch in
    let w = split_join h.branch.before v.join.joined in
    let u = branch_of_join h.earlier.before h.earlier.body h.earlier.spot h.earlier.after w.first h.earlier.here in
    let first = types_same h.earlier.typed _ u.typed in
    let o = join_of_or w.second in
    let begins = types_same h.branch.typed _ (subst (λ x. Types ms h.branch.depth (Under h.branch.scope h.branch.body h.branch.follows) x) o.begins o.typed) in
    let cs : u.here ≡ h.earlier_branches = cc first in
    let ds : o.here ≡ h.branches = cc (h.is, begins) in
    let whole = w.is ∙ ap (λ x. and_branches w.earlier x) o.is ∙ ap (λ x. and_branches x (and_branches o.here o.more)) u.is in
    not_shared u.left u.here u.right o.here o.more (subst (λ x. distinct_operators x ≡ true) whole v.join.different) (cs_ds u.here o.here h.earlier_branches h.branches cs ds h.shared)
  where
    cs_ds : (a b c e : GlobalBranches) → a ≡ c → b ≡ e → share_operator c e ≡ true → share_operator a b ≡ true
    cs_ds a b c e p q h = (λ i. share_operator (p i) (q i)) ∙ h

too_large : (ms : List ModuleTree) (root : Declaration) (g : GlobalTree) → Types ms 0 (start_of root) g → nodes g ≤ 65536 → height g ≤ 4096 → (d : Declaration) → d ≡ root → IsTooLarge ms d → ⊥
too_large ms root g t small short d e h =
    ⊎_elim (λ l. let count = counted t l.0 (1, refl, l.1) in let large = l.2 in absurd (omega arith)) (λ l. let high = measured t l.0 (1, refl, l.1) in let large = l.2 in absurd (omega arith)) (subst (λ x. IsTooLarge ms x) e h)

refuted_inside : (k : FaultKind) (ms : List ModuleTree) (root d : Declaration) (spot : Spot) (f : _) (g : GlobalTree) → KeepsRules ms d f → Types ms 0 (start_of root) g → nodes g ≤ 65536 → height g ≤ 4096 → Fails k ms root d spot → ⊥
refuted_inside kind.NoModule ms root d spot f g kept t small short h =
    let c = first_pass ms d f kept h.2 in absurd (cc (nowhere ms d h.0 h.3, c.3))
  where
    nowhere : (ms : List ModuleTree) (d : Declaration) (path : List (List ℕ)) → called_home ms d.home path ≡ None → called ms d.home path ≡ None
    nowhere ms d path e = rw e refl
refuted_inside kind.NoProtocol ms root d spot f g kept t small short h = let c = first_pass ms d f kept h.2 in absurd (cc (h.4, c.3))
refuted_inside kind.TwiceDeclared ms root d spot f g kept t small short h =
    let n = (of_protocol kept).names in
    ⊎_elim (λ i. names_again _ _ _ spot i n.imports) (⊎_elim (λ p. roles_again _ _ _ spot p n.protocols) (λ r. roles_again _ _ _ spot r n.roles)) h
refuted_inside kind.NoRole ms root d spot f g kept t small short h = no_role ms d f kept spot h
refuted_inside kind.RepeatedRole ms root d spot f g kept t small short h = let c = first_pass ms d f kept h.2 in both_ways _ h.3 c.2
refuted_inside kind.WrongCount ms root d spot f g kept t small short h =
    let c = first_pass ms d f kept h.3 in
    let same : c.0 ≡ h.2 = cc (c.3, h.4) in
    h.5 (c.4 ∙ ap (λ x. length x.protocol.roles) same)
refuted_inside kind.SelfMessage ms root d spot f g kept t small short h = both_ways _ (of_sends (step_at kept h.3).kept).1 h.4
refuted_inside kind.DoCycle ms root d spot f g kept t small short h =
    no_cycle kept (record { path = h.path; roles = h.roles; spot = spot; occurs = h.occurs; to = h.to; there = h.there; back = h.back })
refuted_inside kind.NoRec ms root d spot f g kept t small short h = loose ms d f kept spot h
refuted_inside kind.Unguarded ms root d spot f g kept t small short h = unguarded ms root d g t spot h
refuted_inside kind.Unreachable ms root d spot f g kept t small short h = unreachable ms d f kept spot h
refuted_inside kind.EmptyBranch ms root d spot f g kept t small short h =
    ⊎_elim (λ b. let v = joined ms root d g t spot b.0 in absurd (cc (b.1, v.is))) (λ b. without_branch ms root d g t spot b) h
refuted_inside kind.ContinueHead ms root d spot f g kept t small short h = let v = joined ms root d g t spot h.0 in absurd (cc (h.2, v.is))
refuted_inside kind.RecHead ms root d spot f g kept t small short h = let v = joined ms root d g t spot h.0 in absurd (cc (h.2, v.is))
refuted_inside kind.NotChooser ms root d spot f g kept t small short h = of_another ms root d g t spot h
refuted_inside kind.TwoReceivers ms root d spot f g kept t small short h = to_another ms root d g t spot h
refuted_inside kind.SameOperator ms root d spot f g kept t small short h = same_operator_twice ms root d g t spot h
refuted_inside kind.TooManyRoles ms root d spot f g kept t small short h =
    let more = slice_get_within d.protocol.roles 64 h.0 h.1 in
    let few = (of_protocol kept).names.few in
    absurd (omega arith)
refuted_inside kind.TooLarge ms root d spot f g kept t small short h = too_large ms root g t small short d h.0 h.1

inside_refuted : (ms : List ModuleTree) (home : List (List ℕ)) (name : List ℕ) (f : Fault) (a : Agreement) → IsInside ms home name f → Elaborates ms home name a → ⊥
inside_refuted ms home name f a h e =
    let same : e.declaration ≡ h.root = cc (e.there, h.there) in
    let kept = subst (λ d. KeepsRules ms d e.exits) same e.kept in
    let typed = subst (λ d. Types ms 0 (start_of d) a.global) same e.typed in
    let there = kept_along h.reached e.exits kept in
    refuted_inside f.kind ms h.root h.place f.spot there.0 a.global there.1 typed e.small e.short h.fails

pub refuted : (ms : List ModuleTree) (home : List (List ℕ)) (name : List ℕ) (f : Fault) (a : Agreement) → IsBroken ms home name f → Elaborates ms home name a → ⊥
refuted ms home name f a h e =
    ⊎_elim (λ b. ⊎_elim (λ m. absurd (cc (found_nowhere ms home name m.1, e.there))) (λ p. absurd (cc (p.2, e.there))) b.0) (λ i. inside_refuted ms home name f a i e) h
