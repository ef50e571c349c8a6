-- The type of a protocol in isolation is that of a call of it with nothing after it, except for the roles' names.
use Rattle.std.proofs.Common.{◌≡◌, ℕ, zero, suc, ◌+◌, Bool, true, false, not, List, [], ◌∷◌, ◌++◌, length, map, Option, Some, None, if◌then◌else◌, refl, sym, ap, ◌∙◌, subst, ⊎_elim, arith}
use Rattle.std.specs.List.{AllZip}
use Rattle.std.specs.Str.{bytes_eq}
use Rattle.std.proofs.lemmas.Bool.{false≢true, both_ways, and_parts, or_cases, or_left, or_right, not-true}
use Rattle.std.proofs.lemmas.Slice.Eq.{bytes_eq-Decides}
use Rattle.std.proofs.lemmas.List.{length-map, map-append}
use Rattle.scrib_types.specs.declared.message.Message.{Message}
use Rattle.scrib_types.specs.declared.spot.Spot.{Spot}
use Rattle.scrib_types.specs.Trees.{GlobalTree, GlobalEnd, GlobalVar, GlobalRec, Comm, Flight, GlobalBranches, NoBranch, Branch}
use Rattle.scrib_types.specs.WellFormed.{leads_to_communication, has_operator, distinct_operators, has_branches, has_role, distinct_roles}
use Rattle.scrib_tree.specs.declared.tree.ModuleTree.{ModuleTree}
use Rattle.scrib_type_builder.specs.declared.built_type.Origin.{Origin}
use Rattle.scrib_static_checks.specs.Source.{Body, Blocks, NoBlock, OrBlock}
use Rattle.scrib_static_checks.specs.SourceView.{body_of}
use Rattle.scrib_static_checks.specs.Names.{Declaration, roles_of}
use Rattle.scrib_static_checks.specs.Statements.{are_roles, IsCall, KeepsRules, BlockKeeps, BlocksKeep}
use Rattle.scrib_static_checks.specs.Elaboration.{Scope, given_for, role_in, level_of, inside, inside_call, Frames, NoFrame, Under, prefix_message, and_branches, Types, ends, closes, sends, chooses, repeats, passes, continues, calls, JoinsTo, joins_none, joins, start_of}
use Rattle.scrib_static_checks.specs.Faults.{blocks_before, Needs, needs_itself, needs_close, needs_sends, needs_branch, needs_repeats, needs_passes, needs_calls}
use Rattle.scrib_elaborate.specs.Levels.{AreBelow}
use Rattle.scrib_type_builder.specs.Renaming.{renamed, branches_renamed}
use Rattle.scrib_elaborate.specs.Sites.{communications, branch_communications, has_several, is_several, IsSite}
use Rattle.scrib_elaborate.specs.Typing.{Made, IsMarked, FramesMake}
use Rattle.scrib_static_checks.proofs.GivenRoles.{role_itself, true_or_false}
use Rattle.scrib_static_checks.proofs.RuleLemmas.{of_then, of_chooses, of_repeats, of_or, of_sends, of_calls, of_protocol}
use Rattle.scrib_elaborate.proofs.ShiftLemmas.{shift_below, below_more}
use Rattle.scrib_elaborate.proofs.SiteLemmas.{made_from, zip_map}

-- the scope with other names for the roles, under m recursions more
abbrev levels_moved : (m : ℕ) → List (List ℕ × ℕ) → List (List ℕ × ℕ)
levels_moved m [] = []
levels_moved m (r ∷ rs) = (r.0, r.1 + m) ∷ levels_moved m rs

abbrev moved_scope : (List ℕ → List ℕ) → (m : ℕ) → Scope → Scope
moved_scope f m sc = record { within = sc.within; given = map f sc.given; recs = levels_moved m sc.recs }

-- the same of the frames, in front of these
abbrev moved : (List ℕ → List ℕ) → (m : ℕ) → (base : Frames) → Frames → Frames
moved f m base NoFrame = base
moved f m base (Under sc b fs) = Under (moved_scope f m sc) b (moved f m base fs)

-- the statements of the frames follow the rules, and a role is passed for each of their protocols' roles
data AreKept (ms : List ModuleTree) : Frames → Type 0 where
  none_kept : AreKept ms NoFrame
  under_kept : {sc : Scope} {b : Body} {fs : Frames} {recs : List (List ℕ)} {e x : Bool} → BlockKeeps ms sc.within recs e b x → length (roles_of sc.within) ≡ length sc.given → AreKept ms fs → AreKept ms (Under sc b fs)

-- passed roles

given_mapped : (f : List ℕ → List ℕ) (ds gs : List (List ℕ)) (r : List ℕ) → length ds ≡ length gs → has_role r ds ≡ true → given_for ds (map f gs) r ≡ f (given_for ds gs r)
given_mapped f [] gs r l h = absurd (false≢true h)
given_mapped f (d ∷ ds) [] r l h = absurd (omega (arith, l))
given_mapped f (d ∷ ds) (g ∷ gs) r l h = case (given_mapped f ds gs r (omega (arith, l))) (bytes_eq r d) refl
  where
    case : (has_role r ds ≡ true → given_for ds (map f gs) r ≡ f (given_for ds gs r)) → (t : Bool) → bytes_eq r d ≡ t
        → (if bytes_eq r d then f g else given_for ds (map f gs) r) ≡ f (if bytes_eq r d then g else given_for ds gs r)
    case more true e = rw e refl
    case more false e =
        rw e (more (⊎_elim (λ t. absurd (both_ways (bytes_eq r d) e t)) (λ t. t) (or_cases (bytes_eq r d) (has_role r ds) h)))

roles_mapped : (f : List ℕ → List ℕ) (ds gs rs : List (List ℕ)) → length ds ≡ length gs → are_roles rs ds ≡ true → map f (map (given_for ds gs) rs) ≡ map (given_for ds (map f gs)) rs
roles_mapped f ds gs [] l h = refl
roles_mapped f ds gs (r ∷ rs) l h =
    let parts = and_parts (has_role r ds) (are_roles rs ds) h in
    λ i. sym (given_mapped f ds gs r l parts.0) i ∷ roles_mapped f ds gs rs l parts.1 i

-- levels

level_moved : (m : ℕ) (x : List ℕ) (rs : List (List ℕ × ℕ)) (k : ℕ) → level_of x rs ≡ Some k → level_of x (levels_moved m rs) ≡ Some (k + m)
level_moved m x [] k h = absurd (cc)
level_moved m x (r ∷ rs) k h = case (bytes_eq x r.0) (level_moved m x rs k) h
  where
    case : (t : Bool) → (level_of x rs ≡ Some k → level_of x (levels_moved m rs) ≡ Some (k + m)) → (if t then Some r.1 else level_of x rs) ≡ Some k
        → (if t then Some (r.1 + m) else level_of x (levels_moved m rs)) ≡ Some (k + m)
    case true more e = let l : r.1 ≡ k = cc in ap (λ l. Some (l + m)) l
    case false more e = more e

-- what is unchanged

leads_renamed : (f : List ℕ → List ℕ) (g : GlobalTree) → leads_to_communication (renamed f g) ≡ leads_to_communication g
leads_renamed f GlobalEnd = refl
leads_renamed f (GlobalVar n) = refl
leads_renamed f (GlobalRec g) = leads_renamed f g
leads_renamed f (Comm p q bs) = refl
leads_renamed f (Flight p q j bs) = refl

has_branches_renamed : (f : List ℕ → List ℕ) (bs : GlobalBranches) → has_branches (branches_renamed f bs) ≡ has_branches bs
has_branches_renamed f NoBranch = refl
has_branches_renamed f (Branch m g bs) = refl

has_operator_renamed : (o : Option (List ℕ)) (f : List ℕ → List ℕ) (bs : GlobalBranches) → has_operator o (branches_renamed f bs) ≡ has_operator o bs
has_operator_renamed o f NoBranch = refl
has_operator_renamed o f (Branch m g bs) = rw (has_operator_renamed o f bs) refl

distinct_renamed : (f : List ℕ → List ℕ) (bs : GlobalBranches) → distinct_operators (branches_renamed f bs) ≡ distinct_operators bs
distinct_renamed f NoBranch = refl
distinct_renamed f (Branch m g bs) = rw (has_operator_renamed m.op f bs, distinct_renamed f bs) refl

prefix_renamed : (f : List ℕ → List ℕ) (m : Message) (p : List ℕ) (qs : List (List ℕ)) (g : GlobalTree) → renamed f (prefix_message m p qs g) ≡ prefix_message m (f p) (map f qs) (renamed f g)
prefix_renamed f m p [] g = refl
prefix_renamed f m p (q ∷ qs) g = rw (prefix_renamed f m p qs g) refl

and_renamed : (f : List ℕ → List ℕ) (bs cs : GlobalBranches) → branches_renamed f (and_branches bs cs) ≡ and_branches (branches_renamed f bs) (branches_renamed f cs)
and_renamed f NoBranch cs = refl
and_renamed f (Branch m g bs) cs = rw (and_renamed f bs cs) refl

several_renamed : (f : List ℕ → List ℕ) (bs : GlobalBranches) → has_several (branches_renamed f bs) ≡ has_several bs
several_renamed f NoBranch = refl
several_renamed f (Branch m g bs) = has_branches_renamed f bs

is_several_renamed : (f : List ℕ → List ℕ) (g : GlobalTree) → is_several (renamed f g) ≡ is_several g
is_several_renamed f GlobalEnd = refl
is_several_renamed f (GlobalVar i) = refl
is_several_renamed f (GlobalRec g) = refl
is_several_renamed f (Comm p q bs) = several_renamed f bs
is_several_renamed f (Flight p q j bs) = several_renamed f bs

-- a called protocol follows the rules

called_kept : {ms : List ModuleTree} {sc : Scope} {path roles : List (List ℕ)} {b : Body} {fs : Frames} {c : Declaration} {e : Bool} → IsCall ms sc.within path roles c → KeepsRules ms c e → AreKept ms (Under sc b fs)
    → AreKept ms (Under (inside_call sc c roles) (body_of c.protocol.body) (Under sc b fs))
called_kept {sc = sc} {roles = roles} {c = c} i k o =
    under_kept (of_protocol k).block (length-map c.protocol.roles (λ r. r.name) ∙ sym i.count ∙ sym (length-map roles (role_in sc))) o

mutual
  moved_types : {ms : List ModuleTree} {n : ℕ} {fs : Frames} {g : GlobalTree} → Types ms n fs g → AreKept ms fs → (f : List ℕ → List ℕ) (m : ℕ) (base : Frames) → ((k : ℕ) → Types ms (k + m) base GlobalEnd)
      → Types ms (n + m) (moved f m base fs) (renamed f g)
  moved_types (ends {n = n}) k f m base z = z n
  moved_types (closes t) (under_kept k l o) f m base z = closes (moved_types t o f m base z)
  moved_types (sends {sc = sc} {m = c} {p = p} {qs = qs} {g = g} t e) (under_kept k l o) f m base z =
      let v = of_then k in
      let ds = roles_of sc.within in
      let parts = and_parts (has_role p ds) (are_roles qs ds) (of_sends v.step).0 in
      sends (moved_types t (under_kept v.rest l o) f m base z) (ap (renamed f) e ∙ prefix_renamed f c (role_in sc p) (map (role_in sc) qs) g ∙ (λ i. prefix_message c (sym (given_mapped f ds sc.given p l parts.0) i) (roles_mapped f ds sc.given qs l parts.1 i) (renamed f g)))
  moved_types {ms = ms} (chooses {n = n} {sc = sc} {p = p} {bs = bs} {b = b} {fs = fs} {q = q} {cs = cs} j some d e) (under_kept k l o) f m base z =
      let v = of_then k in
      let w = of_chooses v.step in
      let same : f (role_in sc p) ≡ role_in (moved_scope f m sc) p = sym (given_mapped f (roles_of sc.within) sc.given p l w.0) in
      let j' = moved_joins j w.1 l (under_kept v.rest l o) f m base z in
      chooses (subst (λ x. JoinsTo ms (n + m) (moved_scope f m sc) bs (moved f m base (Under sc b fs)) x (f q) (branches_renamed f cs)) same j') (has_branches_renamed f cs ∙ some) (distinct_renamed f cs ∙ d) (ap (renamed f) e ∙ ap (λ x. Comm x (f q) (branches_renamed f cs)) same)
  moved_types {ms = ms} (repeats {n = n} {sc = sc} {x = x} {c = body} {b = b} {fs = fs} {g = g} i t h e) (under_kept k l o) f m base z =
      let v = of_then k in
      let t' = moved_types t (under_kept (of_repeats v.step).0 l (under_kept v.rest l o)) f m base z in
      let deep : n + 1 + m ≡ n + m + 1 = omega arith in
      repeats i (subst (λ d. Types ms d (Under (inside (moved_scope f m sc) x (n + m)) body (moved f m base (Under sc b fs))) (renamed f g)) deep t') (leads_renamed f g ∙ h) (ap (renamed f) e)
  moved_types (passes i t) (under_kept k l o) f m base z =
      let v = of_then k in
      passes i (moved_types t (under_kept (of_repeats v.step).0 l (under_kept v.rest l o)) f m base z)
  moved_types (continues {n = n} {sc = sc} {x = x} {k = level} {i = i} h d e) k f m base z =
      continues (level_moved m x sc.recs level h) (omega (arith, d)) (ap (renamed f) e)
  moved_types {ms = ms} (calls {n = n} {sc = sc} {path = path} {roles = roles} {b = b} {fs = fs} {c = c} {g = g} e t) (under_kept k l o) f m base z =
      let v = of_then k in
      let w = of_calls v.step in
      let same : w.to ≡ c = cc (w.call.there, e) in
      let call = subst (λ x. IsCall ms sc.within path roles x) same w.call in
      let kept = subst (λ x. KeepsRules ms x v.leads) same w.kept in
      let t' = moved_types t (called_kept call kept (under_kept v.rest l o)) f m base z in
      calls e (subst (λ gs. Types ms (n + m) (Under (record { within = c; given = gs; recs = [] }) (body_of c.protocol.body) (moved f m base (Under sc b fs))) (renamed f g)) (roles_mapped f (roles_of sc.within) sc.given roles l call.declared) t')

  moved_joins : {ms : List ModuleTree} {n : ℕ} {sc : Scope} {bs : Blocks} {fs : Frames} {p q : List ℕ} {cs : GlobalBranches} {recs : List (List ℕ)} {e : Bool} → JoinsTo ms n sc bs fs p q cs → BlocksKeep ms sc.within recs bs e → length (roles_of sc.within) ≡ length sc.given → AreKept ms fs
      → (f : List ℕ → List ℕ) (m : ℕ) (base : Frames) → ((k : ℕ) → Types ms (k + m) base GlobalEnd) → JoinsTo ms (n + m) (moved_scope f m sc) bs (moved f m base fs) (f p) (f q) (branches_renamed f cs)
  moved_joins joins_none k l o f m base z = joins_none
  moved_joins (joins {cs = cs} {ds = ds} t e j g) k l o f m base z =
      let v = of_or k in
      joins (moved_types t (under_kept v.block l o) f m base z) (ap (renamed f) e) (moved_joins j v.blocks l o f m base z) (ap (branches_renamed f) g ∙ and_renamed f cs ds)

-- the same of what a type is built from

branch_kept : {ms : List ModuleTree} {d : Declaration} {recs : List (List ℕ)} (before : Blocks) (b : Body) (t : Spot) (after : Blocks) (e : Bool) → BlocksKeep ms d recs (blocks_before before b t after) e → (x : Bool) × BlockKeeps ms d recs true b x
branch_kept NoBlock b t after e k = let v = of_or k in (v.this, v.block)
branch_kept (OrBlock c s bs) b t after e k = let v = of_or k in branch_kept bs b t after v.others v.blocks

needs_moved : {ms : List ModuleTree} {n k : ℕ} {fs hs : Frames} → Needs ms n fs k hs → AreKept ms fs → (f : List ℕ → List ℕ) (m : ℕ) (base : Frames) → AreKept ms hs × Needs ms (n + m) (moved f m base fs) (k + m) (moved f m base hs)
needs_moved needs_itself k f m base = (k, needs_itself)
needs_moved (needs_close u) (under_kept k l o) f m base =
    let r = needs_moved u o f m base in
    (r.0, needs_close r.1)
needs_moved (needs_sends u) (under_kept k l o) f m base =
    let r = needs_moved u (under_kept (of_then k).rest l o) f m base in
    (r.0, needs_sends r.1)
needs_moved {ms = ms} (needs_branch {sc = sc} before c t after e u) (under_kept {recs = recs} k l o) f m base =
    let v = of_then k in
    let blocks = subst (λ bs. BlocksKeep ms sc.within recs bs v.leads) e (of_chooses v.step).1 in
    let r = needs_moved u (under_kept (branch_kept before c t after v.leads blocks).1 l (under_kept v.rest l o)) f m base in
    (r.0, needs_branch before c t after e r.1)
needs_moved {ms = ms} (needs_repeats {n = n} {k = k} {sc = sc} {x = x} {c = body} {b = b} {fs = fs} {hs = hs} e u) (under_kept h l o) f m base =
    let v = of_then h in
    let r = needs_moved u (under_kept (of_repeats v.step).0 l (under_kept v.rest l o)) f m base in
    let deep : n + 1 + m ≡ n + m + 1 = omega arith in
    (r.0, needs_repeats e (subst (λ d. Needs ms d (Under (inside (moved_scope f m sc) x (n + m)) body (moved f m base (Under sc b fs))) (k + m) (moved f m base hs)) deep r.1))
needs_moved (needs_passes e u) (under_kept h l o) f m base =
    let v = of_then h in
    let r = needs_moved u (under_kept (of_repeats v.step).0 l (under_kept v.rest l o)) f m base in
    (r.0, needs_passes e r.1)
needs_moved {ms = ms} (needs_calls {n = n} {k = k} {sc = sc} {path = path} {roles = roles} {b = b} {fs = fs} {hs = hs} {c = c} e u) (under_kept h l o) f m base =
    let v = of_then h in
    let w = of_calls v.step in
    let same : w.to ≡ c = cc (w.call.there, e) in
    let call = subst (λ x. IsCall ms sc.within path roles x) same w.call in
    let kept = subst (λ x. KeepsRules ms x v.leads) same w.kept in
    let r = needs_moved u (called_kept call kept (under_kept v.rest l o)) f m base in
    (r.0, needs_calls e (subst (λ gs. Needs ms (n + m) (Under (record { within = c; given = gs; recs = [] }) (body_of c.protocol.body) (moved f m base (Under sc b fs))) (k + m) (moved f m base hs)) (roles_mapped f (roles_of sc.within) sc.given roles l call.declared) r.1))

-- a communication of the type, and its index

abbrev moved_type : (List ℕ → List ℕ) → (m : ℕ) → ℕ × GlobalTree → ℕ × GlobalTree
moved_type f m c = (c.0 + m, renamed f c.1)

mutual
  communications_moved : (f : List ℕ → List ℕ) (m n : ℕ) (g : GlobalTree) → communications (n + m) (renamed f g) ≡ map (moved_type f m) (communications n g)
  communications_moved f m n GlobalEnd = refl
  communications_moved f m n (GlobalVar i) = refl
  communications_moved f m n (GlobalRec g) =
      let deep : n + m + 1 ≡ n + 1 + m = omega arith in
      ap (λ d. communications d (renamed f g)) deep ∙ communications_moved f m (n + 1) g
  communications_moved f m n (Comm p q bs) =
      ap (λ cs. cs ++ (n + m, renamed f (Comm p q bs)) ∷ []) (branches_moved f m n bs) ∙ sym (map-append (moved_type f m) (branch_communications n bs) ((n, Comm p q bs) ∷ []))
  communications_moved f m n (Flight p q j bs) =
      ap (λ cs. cs ++ (n + m, renamed f (Flight p q j bs)) ∷ []) (branches_moved f m n bs) ∙ sym (map-append (moved_type f m) (branch_communications n bs) ((n, Flight p q j bs) ∷ []))

  branches_moved : (f : List ℕ → List ℕ) (m n : ℕ) (bs : GlobalBranches) → branch_communications (n + m) (branches_renamed f bs) ≡ map (moved_type f m) (branch_communications n bs)
  branches_moved f m n NoBranch = refl
  branches_moved f m n (Branch c g bs) =
      (λ i. communications_moved f m n g i ++ branches_moved f m n bs i) ∙ sym (map-append (moved_type f m) (communications n g) (branch_communications n bs))

site_moved : {ms : List ModuleTree} {k : ℕ} {fs : Frames} {home : List (List ℕ)} {spot : Spot} {n : ℕ} {g : GlobalTree} → AreKept ms fs → (f : List ℕ → List ℕ) (m : ℕ) (base : Frames) → ((k : ℕ) → Types ms (k + m) base GlobalEnd)
    → IsSite ms k fs home spot n g → IsSite ms (k + m) (moved f m base fs) home spot (n + m) (renamed f g)
site_moved kept f m base z s =
    let r = needs_moved s.needs kept f m base in
    record {
      scope = moved_scope f m s.scope;
      chooser = s.chooser;
      blocks = s.blocks;
      after = s.after;
      outer = moved f m base s.outer;
      there = s.there;
      needs = r.1;
      typed = moved_types s.typed r.0 f m base z;
    }

mark_moved : (ms : List ModuleTree) (k : ℕ) (fs : Frames) → AreKept ms fs → (f : List ℕ → List ℕ) (m : ℕ) (base : Frames) → ((k : ℕ) → Types ms (k + m) base GlobalEnd)
    → (c : ℕ × GlobalTree) (o : Option Origin) → IsMarked ms k fs c o → IsMarked ms (k + m) (moved f m base fs) (moved_type f m c) o
mark_moved ms k fs kept f m base z c None h = is_several_renamed f c.1 ∙ h
mark_moved ms k fs kept f m base z c (Some o) h = (is_several_renamed f c.1 ∙ h.0, site_moved kept f m base z h.1)

-- what means the end means it under more recursions too

ends_deeper : {ms : List ModuleTree} {m : ℕ} {fs : Frames} → AreBelow m fs → Types ms m fs GlobalEnd → (k : ℕ) → Types ms (k + m) fs GlobalEnd
ends_deeper {ms = ms} {m = m} {fs = fs} low t zero =
    let same : m ≡ 0 + m = omega arith in
    subst (λ d. Types ms d fs GlobalEnd) same t
ends_deeper {ms = ms} {m = m} {fs = fs} low t (suc k) =
    let deep : k + m + 1 ≡ suc k + m = omega arith in
    subst (λ d. Types ms d fs GlobalEnd) deep (shift_below (below_more m (k + m) fs (omega arith) low) (ends_deeper low t k))

-- the roles that are passed for a protocol's own

given_later : (d g : List ℕ) (ds gs rs : List (List ℕ)) → has_role d rs ≡ false → map (given_for (d ∷ ds) (g ∷ gs)) rs ≡ map (given_for ds gs) rs
given_later d g ds gs [] none = refl
given_later d g ds gs (r ∷ rs) none =
    let rest : has_role d rs ≡ false = ⊎_elim (λ t. absurd (both_ways (has_role d (r ∷ rs)) none (or_right (bytes_eq d r) (has_role d rs) t))) (λ t. t) (true_or_false (has_role d rs)) in
    case (given_later d g ds gs rs rest) (bytes_eq r d) refl
  where
    case : map (given_for (d ∷ ds) (g ∷ gs)) rs ≡ map (given_for ds gs) rs → (t : Bool) → bytes_eq r d ≡ t
        → (if bytes_eq r d then g else given_for ds gs r) ∷ map (given_for (d ∷ ds) (g ∷ gs)) rs ≡ given_for ds gs r ∷ map (given_for ds gs) rs
    case more true e =
        let same : d ≡ r = sym ((bytes_eq-Decides r d).0 e) in
        absurd (both_ways (has_role d (r ∷ rs)) none (or_left (bytes_eq d r) (has_role d rs) ((bytes_eq-Decides d r).1 same)))
    case more false e = rw e (ap (λ x. given_for ds gs r ∷ x) more)

names_renamed : (ds gs : List (List ℕ)) → distinct_roles ds ≡ true → length ds ≡ length gs → map (given_for ds gs) ds ≡ gs
names_renamed [] [] u l = refl
names_renamed [] (g ∷ gs) u l = absurd (omega (arith, l))
names_renamed (d ∷ ds) [] u l = absurd (omega (arith, l))
names_renamed (d ∷ ds) (g ∷ gs) u l =
    let parts = and_parts (not (has_role d ds)) (distinct_roles ds) u in
    let first : given_for (d ∷ ds) (g ∷ gs) d ≡ g = rw (role_itself d) refl in
    λ i. first i ∷ (given_later d g ds gs ds (not-true (has_role d ds) parts.0) ∙ names_renamed ds gs parts.1 (omega (arith, l))) i

-- a called protocol, with nothing after it, whose type is in the memo
pub made_moved : {ms : List ModuleTree} {m : ℕ} {base : Frames} (d : Declaration) (e : Bool) (gs : List (List ℕ)) (g h : Made) → KeepsRules ms d e → length (roles_of d) ≡ length gs → FramesMake ms 0 (start_of d) g → AreBelow m base → Types ms m base GlobalEnd
    → h.type ≡ renamed (given_for (roles_of d) gs) g.type → h.origins ≡ g.origins → FramesMake ms m (Under (record { within = d; given = gs; recs = [] }) (body_of d.protocol.body) base) h
made_moved {ms = ms} {m = m} {base = base} d e gs g h kept long made low ended is same =
    let f = given_for (roles_of d) gs in
    let v = of_protocol kept in
    let z = ends_deeper low ended in
    let start : AreKept ms (start_of d) = under_kept v.block refl none_kept in
    let given = names_renamed (roles_of d) gs v.names.roles long in
    let whole : List (List ℕ) → Frames = λ x. Under (record { within = d; given = x; recs = [] }) (body_of d.protocol.body) base in
    let deep = 0 + m in
    let flat : deep ≡ m = omega arith in
    let typed : Types ms deep (whole gs) (renamed f g.type) = subst (λ x. Types ms deep (whole x) (renamed f g.type)) given (moved_types made.typed start f m base z) in
    let marks = zip_map (IsMarked ms 0 (start_of d)) (IsMarked ms deep (whole (map f (roles_of d)))) (moved_type f m) (communications 0 g.type) g.origins (mark_moved ms 0 (start_of d) start f m base z) made.marked in
    let here = subst (λ cs. AllZip (IsMarked ms deep (whole (map f (roles_of d)))) cs g.origins) (sym (communications_moved f m 0 g.type)) marks in
    let marked = subst (λ x. AllZip (IsMarked ms deep (whole x)) (communications deep (renamed f g.type)) g.origins) given here in
    let there : FramesMake ms deep (whole gs) h = made_from h (renamed f g.type) g.origins is same (subst (Types ms deep (whole gs)) (sym is) typed) marked in
    subst (λ n. FramesMake ms n (whole gs) h) flat there
