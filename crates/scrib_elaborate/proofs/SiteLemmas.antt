-- The origins of the communications of a type, statement by statement.
use Rattle.std.proofs.Common.{◌≡◌, ℕ, ◌+◌, ◌-◌, ◌<◌, List, [], ◌∷◌, ◌++◌, length, get_or, take, map, Option, Some, None, refl, sym, ap, ◌∙◌, subst, arith}
use Rattle.std.specs.List.{AllZip}
use Rattle.std.proofs.lemmas.List.{append-nil, append_assoc, map-append, take_more}
use Rattle.scrib_types.specs.declared.message.Message.{Message}
use Rattle.scrib_types.specs.declared.spot.Spot.{Spot}
use Rattle.scrib_types.specs.Trees.{GlobalTree, GlobalEnd, GlobalVar, GlobalRec, Comm, Flight, GlobalBranches, NoBranch, Branch}
use Rattle.scrib_tree.specs.declared.tree.ModuleTree.{ModuleTree}
use Rattle.scrib_type_builder.specs.declared.built_type.Origin.{Origin}
use Rattle.scrib_elaborate.specs.declared.elaborated.ChoiceSite.{ChoiceSite}
use Rattle.scrib_static_checks.specs.Source.{Then, Chooses}
use Rattle.scrib_static_checks.specs.Names.{Declaration}
use Rattle.scrib_static_checks.specs.Elaboration.{Frames, NoFrame, Under, and_branches, prefix_message, Types, ends, start_of}
use Rattle.scrib_static_checks.specs.Faults.{Needs}
use Rattle.scrib_type_builder.specs.Shifting.{shifted, branches_shifted}
use Rattle.scrib_elaborate.specs.Levels.{AreBelow}
use Rattle.scrib_elaborate.specs.Sites.{communications, branch_communications, has_several, is_several, several_of, IsSite, IsSiteOf}
use Rattle.scrib_type_builder.specs.BuiltType.{add_no_origins, with_origin}
use Rattle.scrib_elaborate.specs.Typing.{Made, nothing_made, IsMarked, FramesMake, origin_sites}
use Rattle.scrib_elaborate.proofs.ShiftLemmas.{raised_scope, raised, raised_stay, shift_types, shift_below, has_branches_shifted}
use Rattle.scrib_elaborate.proofs.NeededParts.{needs_trans, needs_deeper, needs_raised}

-- lists, one by one

zip_append : {X Y : Type 0} (R : X → Y → Type 0) (xs : List X) (js : List Y) (ys : List X) (ks : List Y) → AllZip R xs js → AllZip R ys ks → AllZip R (xs ++ ys) (js ++ ks)
zip_append R [] [] ys ks h k = k
zip_append R [] (j ∷ js) ys ks h k = absurd h
zip_append R (x ∷ xs) [] ys ks h k = absurd h
zip_append R (x ∷ xs) (j ∷ js) ys ks h k = (h.0, zip_append R xs js ys ks h.1 k)

pub zip_map : {X Z Y : Type 0} (R : X → Y → Type 0) (S : Z → Y → Type 0) (f : X → Z) (xs : List X) (js : List Y) → ((x : X) (j : Y) → R x j → S (f x) j) → AllZip R xs js → AllZip S (map f xs) js
zip_map R S f [] [] g h = h
zip_map R S f [] (j ∷ js) g h = absurd h
zip_map R S f (x ∷ xs) [] g h = absurd h
zip_map R S f (x ∷ xs) (j ∷ js) g h = (g x j h.0, zip_map R S f xs js g h.1)

zip_weaker : {X Y : Type 0} (R S : X → Y → Type 0) (xs : List X) (js : List Y) → ((x : X) (j : Y) → R x j → S x j) → AllZip R xs js → AllZip S xs js
zip_weaker R S [] [] g h = h
zip_weaker R S [] (j ∷ js) g h = absurd h
zip_weaker R S (x ∷ xs) [] g h = absurd h
zip_weaker R S (x ∷ xs) (j ∷ js) g h = (g x j h.0, zip_weaker R S xs js g h.1)

not_none : {X Y : Type 0} (R : X → Y → Type 0) (xs : List X) (x : X) → AllZip R (xs ++ x ∷ []) [] → ⊥
not_none R [] x h = h
not_none R (y ∷ xs) x h = h

not_more : {X Y : Type 0} (R : X → Y → Type 0) (js : List Y) (j : Y) → AllZip R [] (js ++ j ∷ []) → ⊥
not_more R [] j h = h
not_more R (k ∷ js) j h = h

zip_front : {X Y : Type 0} (R : X → Y → Type 0) (xs : List X) (x : X) (js : List Y) (j : Y) → AllZip R (xs ++ x ∷ []) (js ++ j ∷ []) → AllZip R xs js
zip_front R [] x [] j h = tt
zip_front R [] x (k ∷ js) j h = absurd (not_more R js j h.1)
zip_front R (y ∷ xs) x [] j h = absurd (not_none R xs x h.1)
zip_front R (y ∷ xs) x (k ∷ js) j h = (h.0, zip_front R xs x js j h.1)

zip_with_origin : {X : Type 0} (R : X → Option Origin → Type 0) (xs : List X) (x : X) (js : List (Option Origin)) (o : Origin) → ((i : Origin) → R x (Some i) → R x (Some o)) → AllZip R (xs ++ x ∷ []) js → AllZip R (xs ++ x ∷ []) (with_origin o js)
zip_with_origin R [] x [] o f h = h
zip_with_origin R [] x (None ∷ []) o f h = h
zip_with_origin R [] x (Some i ∷ []) o f h = (f i h.0, h.1)
zip_with_origin R [] x (j ∷ k ∷ js) o f h = absurd h.1
zip_with_origin R (y ∷ xs) x [] o f h = absurd h
zip_with_origin R (y ∷ xs) x (j ∷ []) o f h = absurd (not_none R xs x h.1)
zip_with_origin R (y ∷ xs) x (j ∷ k ∷ js) o f h = (h.0, zip_with_origin R xs x (k ∷ js) o f h.1)

-- what a type is built from

pub site_through : {ms : List ModuleTree} {n m : ℕ} {fs hs : Frames} {home : List (List ℕ)} {spot : Spot} {i : ℕ} {g : GlobalTree} → Needs ms n fs m hs → IsSite ms m hs home spot i g → IsSite ms n fs home spot i g
site_through u s = record {
  scope = s.scope;
  chooser = s.chooser;
  blocks = s.blocks;
  after = s.after;
  outer = s.outer;
  there = s.there;
  needs = needs_trans u s.needs;
  typed = s.typed;
}

mark_through : {ms : List ModuleTree} {n m : ℕ} {fs hs : Frames} → Needs ms n fs m hs → (c : ℕ × GlobalTree) (o : Option Origin) → IsMarked ms m hs c o → IsMarked ms n fs c o
mark_through u c None h = h
mark_through u c (Some o) h = (h.0, site_through u h.1)

pub marks_through : {ms : List ModuleTree} {n m : ℕ} {fs hs : Frames} → Needs ms n fs m hs → (cs : List (ℕ × GlobalTree)) (js : List (Option Origin)) → AllZip (IsMarked ms m hs) cs js → AllZip (IsMarked ms n fs) cs js
marks_through {ms = ms} {n = n} {m = m} {fs = fs} {hs = hs} u cs js h =
    zip_weaker (IsMarked ms m hs) (IsMarked ms n fs) cs js (mark_through u) h

-- frames of the same type
pub made_through : {ms : List ModuleTree} {n : ℕ} {fs hs : Frames} (m : Made) → Needs ms n fs n hs → Types ms n fs m.type → FramesMake ms n hs m → FramesMake ms n fs m
made_through {n = n} m u t k = record { typed = t; marked = marks_through u (communications n m.type) m.origins k.marked }

-- a type and its origins, each by an equation
pub made_from : {ms : List ModuleTree} {n : ℕ} {fs : Frames} (m : Made) (g : GlobalTree) (js : List (Option Origin)) → m.type ≡ g → m.origins ≡ js → Types ms n fs m.type → AllZip (IsMarked ms n fs) (communications n g) js → FramesMake ms n fs m
made_from {ms = ms} {n = n} {fs = fs} m g js e f t k = record {
  typed = t;
  marked =
      subst (λ y. AllZip (IsMarked ms n fs) (communications n m.type) y) (sym f) (subst (λ y. AllZip (IsMarked ms n fs) (communications n y) js) (sym e) k);
}

pub made_is : (m h : Made) → m.type ≡ h.type → m.origins ≡ h.origins → m ≡ h
made_is m h e f = λ i. record { type = e i; origins = f i }

pub nothing_follows : (ms : List ModuleTree) → FramesMake ms 0 NoFrame nothing_made
nothing_follows ms = record { typed = ends; marked = tt }

-- messages

pub marks_prefix : (ms : List ModuleTree) (k : ℕ) (fs : Frames) (n : ℕ) (m : Message) (p : List ℕ) (qs : List (List ℕ)) (g : GlobalTree) (js : List (Option Origin)) → AllZip (IsMarked ms k fs) (communications n g) js → AllZip (IsMarked ms k fs) (communications n (prefix_message m p qs g)) (add_no_origins qs js)
marks_prefix ms k fs n m p [] g js h = h
marks_prefix ms k fs n m p (q ∷ qs) g js h =
    let R = IsMarked ms k fs in
    let rest = communications n (prefix_message m p qs g) in
    let more = subst (λ cs. AllZip R cs (add_no_origins qs js)) (sym (append-nil rest)) (marks_prefix ms k fs n m p qs g js h) in
    zip_append R (rest ++ []) (add_no_origins qs js) ((n, prefix_message m p (q ∷ qs) g) ∷ []) (None ∷ []) more (refl, tt)

-- under one more recursion

deeper : (c : ℕ) → ℕ × GlobalTree → ℕ × GlobalTree
deeper c x = (x.0 + 1, shifted (x.0 - c) x.1)

shifted_by : (c k n : ℕ) (g h : GlobalTree) → n ≡ c + k → shifted k g ≡ h → (n + 1, h) ≡ deeper c (n, g)
unfolding deeper
shifted_by c k n g h e f =
    let d : k ≡ n - c = omega (arith, e) in
    ap (λ x. (n + 1, x)) (sym f ∙ ap (λ x. shifted x g) d)

mutual
  shifted_communications : (c k n : ℕ) (g : GlobalTree) → n ≡ c + k → communications (n + 1) (shifted k g) ≡ map (deeper c) (communications n g)
  shifted_communications c k n GlobalEnd e = refl
  shifted_communications c k n (GlobalVar i) e = refl
  shifted_communications c k n (GlobalRec g) e = shifted_communications c (k + 1) (n + 1) g (omega (arith, e))
  shifted_communications c k n (Comm p q bs) e =
      (λ i. shifted_branch_communications c k n bs e i ++ shifted_by c k n (Comm p q bs) (Comm p q (branches_shifted k bs)) e refl i ∷ []) ∙ sym (map-append (deeper c) (branch_communications n bs) ((n, Comm p q bs) ∷ []))
  shifted_communications c k n (Flight p q j bs) e =
      (λ i. shifted_branch_communications c k n bs e i ++ shifted_by c k n (Flight p q j bs) (Flight p q j (branches_shifted k bs)) e refl i ∷ []) ∙ sym (map-append (deeper c) (branch_communications n bs) ((n, Flight p q j bs) ∷ []))

  shifted_branch_communications : (c k n : ℕ) (bs : GlobalBranches) → n ≡ c + k → branch_communications (n + 1) (branches_shifted k bs) ≡ map (deeper c) (branch_communications n bs)
  shifted_branch_communications c k n NoBranch e = refl
  shifted_branch_communications c k n (Branch m g bs) e =
      (λ i. shifted_communications c k n g e i ++ shifted_branch_communications c k n bs e i) ∙ sym (map-append (deeper c) (communications n g) (branch_communications n bs))

several_shifted : (under : ℕ) (bs : GlobalBranches) → has_several (branches_shifted under bs) ≡ has_several bs
several_shifted under NoBranch = refl
several_shifted under (Branch m g bs) = has_branches_shifted under bs

is_several_shifted : (under : ℕ) (g : GlobalTree) → is_several (shifted under g) ≡ is_several g
is_several_shifted under GlobalEnd = refl
is_several_shifted under (GlobalVar i) = refl
is_several_shifted under (GlobalRec g) = refl
is_several_shifted under (Comm p q bs) = several_shifted under bs
is_several_shifted under (Flight p q j bs) = several_shifted under bs

site_deeper : {ms : List ModuleTree} {n : ℕ} {fs : Frames} {home : List (List ℕ)} {spot : Spot} {m : ℕ} {g : GlobalTree} → AreBelow n fs → IsSite ms n fs home spot m g → IsSite ms (n + 1) fs home spot (m + 1) (shifted (m - n) g)
site_deeper {ms = ms} {n = n} {fs = fs} {spot = spot} {m = m} low s = record {
  scope = raised_scope n s.scope;
  chooser = s.chooser;
  blocks = s.blocks;
  after = s.after;
  outer = raised n s.outer;
  there = s.there;
  needs =
      subst (λ x. Needs ms (n + 1) x (m + 1) (raised n (Under s.scope (Then (Chooses s.chooser s.blocks spot) s.after) s.outer))) (raised_stay n fs low) (needs_raised s.needs n (omega arith));
  typed = shift_types s.typed n (m - n) (omega (arith, needs_deeper s.needs));
}

mark_deeper : (ms : List ModuleTree) (n : ℕ) (fs : Frames) → AreBelow n fs → (c : ℕ × GlobalTree) (o : Option Origin) → IsMarked ms n fs c o → IsMarked ms (n + 1) fs (deeper n c) o
unfolding deeper
mark_deeper ms n fs low c None h = is_several_shifted (c.0 - n) c.1 ∙ h
mark_deeper ms n fs low c (Some o) h = (is_several_shifted (c.0 - n) c.1 ∙ h.0, site_deeper low h.1)

pub made_deeper : {ms : List ModuleTree} {n : ℕ} {fs : Frames} (m h : Made) → h.type ≡ shifted 0 m.type → h.origins ≡ m.origins → AreBelow n fs → FramesMake ms n fs m → FramesMake ms (n + 1) fs h
made_deeper {ms = ms} {n = n} {fs = fs} m h e f low k =
    let R = IsMarked ms n fs in
    let S = IsMarked ms (n + 1) fs in
    let marks = zip_map R S (deeper n) (communications n m.type) m.origins (mark_deeper ms n fs low) k.marked in
    made_from h (shifted 0 m.type) m.origins e f (subst (Types ms (n + 1) fs) (sym e) (shift_below low k.typed)) (subst (λ cs. AllZip S cs m.origins) (sym (shifted_communications n 0 n m.type (omega arith))) marks)

-- the branches of a choice

branches_and : (n : ℕ) (bs cs : GlobalBranches) → branch_communications n (and_branches bs cs) ≡ branch_communications n bs ++ branch_communications n cs
branches_and n NoBranch cs = refl
branches_and n (Branch m g bs) cs =
    ap (λ x. communications n g ++ x) (branches_and n bs cs) ∙ sym (append_assoc (communications n g) (branch_communications n bs) (branch_communications n cs))

-- one more block
pub marks_more : (ms : List ModuleTree) (k : ℕ) (fs : Frames) (n : ℕ) (p q : List ℕ) (bs cs : GlobalBranches) (js ks : List (Option Origin)) (last : Option Origin)
    → AllZip (IsMarked ms k fs) (branch_communications n bs) js → AllZip (IsMarked ms k fs) (communications n (Comm p q cs)) (ks ++ last ∷ []) → AllZip (IsMarked ms k fs) (branch_communications n (and_branches bs cs)) (js ++ ks)
marks_more ms k fs n p q bs cs js ks last h more =
    let R = IsMarked ms k fs in
    subst (λ x. AllZip R x (js ++ ks)) (sym (branches_and n bs cs)) (zip_append R (branch_communications n bs) js (branch_communications n cs) ks h (zip_front R (branch_communications n cs) (n, Comm p q cs) ks last more))

pub marks_some : (ms : List ModuleTree) (k : ℕ) (fs : Frames) (n : ℕ) (p q : List ℕ) (cs : GlobalBranches) → AllZip (IsMarked ms k fs) (communications n (Comm p q cs)) [] → ⊥
marks_some ms k fs n p q cs h =
    not_none (IsMarked ms k fs) (branch_communications n cs) (n, Comm p q cs) h

-- all of them
pub marks_joined : (ms : List ModuleTree) (k : ℕ) (fs : Frames) (n : ℕ) (p q : List ℕ) (cs : GlobalBranches) (js : List (Option Origin)) (o : Option Origin)
    → AllZip (IsMarked ms k fs) (branch_communications n cs) js → IsMarked ms k fs (n, Comm p q cs) o → AllZip (IsMarked ms k fs) (communications n (Comm p q cs)) (js ++ o ∷ [])
marks_joined ms k fs n p q cs js o h here =
    zip_append (IsMarked ms k fs) (branch_communications n cs) js ((n, Comm p q cs) ∷ []) (o ∷ []) h (here, tt)

-- a communication in front that comes from another choice
pub marks_with_origin : (ms : List ModuleTree) (k : ℕ) (fs : Frames) (n : ℕ) (p q : List ℕ) (cs : GlobalBranches) (js : List (Option Origin)) (o : Origin) → IsSite ms k fs o.home.now.name o.spot n (Comm p q cs)
    → AllZip (IsMarked ms k fs) (communications n (Comm p q cs)) js → AllZip (IsMarked ms k fs) (communications n (Comm p q cs)) (with_origin o js)
marks_with_origin ms k fs n p q cs js o here h =
    zip_with_origin (IsMarked ms k fs) (branch_communications n cs) (n, Comm p q cs) js o (λ i x. (x.0, here)) h

-- the whole protocol

pub sites_of_origins : (ms : List ModuleTree) (root : Declaration) (cs : List (ℕ × GlobalTree)) (js : List (Option Origin)) → AllZip (IsMarked ms 0 (start_of root)) cs js → AllZip (IsSiteOf ms root) (several_of cs) (origin_sites js)
sites_of_origins ms root [] [] h = h
sites_of_origins ms root [] (j ∷ js) h = absurd h
sites_of_origins ms root (c ∷ cs) [] h = absurd h
sites_of_origins ms root (c ∷ cs) (None ∷ js) h = rw h.0 (sites_of_origins ms root cs js h.1)
sites_of_origins ms root (c ∷ cs) (Some o ∷ js) h = rw h.0.0 (h.0.1, sites_of_origins ms root cs js h.1)

-- the joins of the first origins

origin_and_rest : (js ks : List (Option Origin)) → origin_sites (js ++ ks) ≡ origin_sites js ++ origin_sites ks
origin_and_rest [] ks = refl
origin_and_rest (None ∷ js) ks = origin_and_rest js ks
origin_and_rest (Some o ∷ js) ks = ap (λ ts. record { «module» = o.home.now.name; spot = o.spot } ∷ ts) (origin_and_rest js ks)

sites_more : (js : List (Option Origin)) (i : ℕ) (x : Option Origin) → i < length js → x ≡ get_or js i x → origin_sites (take (i + 1) js) ≡ origin_sites (take i js) ++ origin_sites (x ∷ [])
sites_more js i x n e =
    ap origin_sites (take_more js i x n ∙ ap (λ y. take i js ++ y ∷ []) (sym e)) ∙ origin_and_rest (take i js) (x ∷ [])

pub sites_some : (js : List (Option Origin)) (i : ℕ) (x : Option Origin) (o : Origin) (name : List (List ℕ)) (old new : List ChoiceSite) → i < length js → x ≡ get_or js i x → x ≡ Some o → name ≡ o.home.now.name → old ≡ origin_sites (take i js) → new ≡ old ++ record { «module» = name; spot = o.spot } ∷ [] → new ≡ origin_sites (take (i + 1) js)
sites_some js i x o name old new n e is named so_far push =
    push ∙ (λ k. so_far k ++ record { «module» = named k; spot = o.spot } ∷ []) ∙ sym (sites_more js i x n e ∙ ap (λ y. origin_sites (take i js) ++ origin_sites (y ∷ [])) is)

pub sites_none : (js : List (Option Origin)) (i : ℕ) (x : Option Origin) (old : List ChoiceSite) → i < length js → x ≡ get_or js i x → x ≡ None → old ≡ origin_sites (take i js) → old ≡ origin_sites (take (i + 1) js)
sites_none js i x old n e is so_far =
    so_far ∙ sym (sites_more js i x n e ∙ ap (λ y. origin_sites (take i js) ++ origin_sites (y ∷ [])) is ∙ append-nil (origin_sites (take i js)))
