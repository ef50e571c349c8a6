-- An elaborated protocol is sound: it has at most 64 roles, all different, and its type is closed and well-formed.
use Rattle.std.proofs.Common.{◌≡◌, ℕ, ◌≤◌, Bool, true, false, ◌&&◌, not, List, [], ◌∷◌, length, map, Some, refl, sym, ap, ◌∙◌, subst, arith, eq-eqb}
use Rattle.std.specs.Prelude.{IsTrue, nat_le}
use Rattle.std.specs.Str.{bytes_eq}
use Rattle.std.proofs.lemmas.Bool.{false≢true, both_ways, and_parts, and_from, or_left, or_right, not-true, false_from_ne_true, le-leb}
use Rattle.std.proofs.lemmas.List.{length-map}
use Rattle.std.proofs.lemmas.Slice.Eq.{bytes_eq-Decides}
use Rattle.scrib_types.specs.declared.message.Message.{Message}
use Rattle.scrib_types.specs.declared.spot.Spot.{Spot}
use Rattle.scrib_types.specs.Agreement.{Agreement}
use Rattle.scrib_types.specs.Trees.{GlobalTree, GlobalRec, Comm, GlobalBranches, NoBranch, Branch}
use Rattle.scrib_types.specs.Projection.{open_depth, branches_open_depth, is_closed}
use Rattle.scrib_types.specs.WellFormed.{has_role, distinct_roles, leads_to_communication, uses, distinct_operators, has_branches, well_formed, branches_well_formed}
use Rattle.scrib_tree.specs.declared.tree.ModuleTree.{ModuleTree}
use Rattle.scrib_static_checks.specs.Source.{Body, Then, Statement, Sends, Calls, Blocks}
use Rattle.scrib_static_checks.specs.SourceView.{body_of}
use Rattle.scrib_static_checks.specs.Names.{Declaration, roles_of, find_protocol, called}
use Rattle.scrib_static_checks.specs.Statements.{are_roles, IsCall, KeepsRules, BlockKeeps, StatementKeeps, BlocksKeep}
use Rattle.scrib_static_checks.specs.Elaboration.{Scope, role_in, level_of, inside, inside_call, Frames, NoFrame, Under, prefix_message, and_branches, Types, ends, closes, sends, chooses, repeats, passes, continues, calls, JoinsTo, joins_none, joins, nodes, height, start_of, Elaborates}
use Rattle.scrib_static_checks.specs.Sizes.{NodesOf, HeightOf}
use Rattle.scrib_static_checks.specs.Walking.{IsWithin}
use Rattle.scrib_elaborate.specs.Sound.{is_sound}
use Rattle.scrib_static_checks.proofs.RuleLemmas.{of_then, of_or, of_sends, of_chooses, of_repeats, of_calls, of_protocol}
use Rattle.scrib_elaborate.proofs.UniqueMeaning.{types_same}
use Rattle.scrib_elaborate.proofs.SizeLemmas.{counted, measured}
use Rattle.scrib_elaborate.proofs.RecursionUse.{used, in_first}
use Rattle.scrib_static_checks.proofs.GivenRoles.{role_itself, role_among, GivesRoles, gives_itself, gives_called}

-- no variable counts more recursions than there are

prefix_closed : (n : ℕ) (m : Message) (p : List ℕ) (qs : List (List ℕ)) (g : GlobalTree) → open_depth g ≤ n → open_depth (prefix_message m p qs g) ≤ n
prefix_closed n m p [] g h = h
prefix_closed n m p (q ∷ qs) g h = omega (arith, prefix_closed n m p qs g h)

and_closed : (n : ℕ) (bs cs : GlobalBranches) → branches_open_depth bs ≤ n → branches_open_depth cs ≤ n → branches_open_depth (and_branches bs cs) ≤ n
and_closed n NoBranch cs h k = k
and_closed n (Branch m g bs) cs h k =
    let more : branches_open_depth bs ≤ n = omega arith in
    omega (arith, and_closed n bs cs more k)

mutual
  closed_below : {ms : List ModuleTree} {n : ℕ} {fs : Frames} {g : GlobalTree} → Types ms n fs g → open_depth g ≤ n
  closed_below ends = omega arith
  closed_below (closes t) = closed_below t
  closed_below (sends {n = n} {sc = sc} {m = m} {p = p} {qs = qs} {g = g} t f) =
      omega (arith, ap open_depth f, prefix_closed n m (role_in sc p) (map (role_in sc) qs) g (closed_below t))
  closed_below (chooses j some d f) = omega (arith, ap open_depth f, joins_below j)
  closed_below (repeats k t l f) = omega (arith, ap open_depth f, closed_below t)
  closed_below (passes k t) = closed_below t
  closed_below (continues l m f) = omega (arith, ap open_depth f)
  closed_below (calls k t) = closed_below t

  joins_below : {ms : List ModuleTree} {n : ℕ} {sc : Scope} {bs : Blocks} {fs : Frames} {p q : List ℕ} {cs : GlobalBranches} → JoinsTo ms n sc bs fs p q cs → branches_open_depth cs ≤ n
  joins_below joins_none = omega arith
  joins_below (joins {n = n} {cs = cs} {ds = ds} t e j f) =
      let here : branches_open_depth cs ≤ n = omega (arith, ap open_depth e, closed_below t) in
      omega (arith, ap branches_open_depth f, and_closed n cs ds here (joins_below j))

-- communications

comm_sound : (roles : List (List ℕ)) (p q : List ℕ) (bs : GlobalBranches) → has_role p roles ≡ true → has_role q roles ≡ true → bytes_eq p q ≡ false
    → has_branches bs ≡ true → distinct_operators bs ≡ true → branches_well_formed roles bs ≡ true → well_formed roles (Comm p q bs) ≡ true
comm_sound roles p q bs a b c d e f = rw (a, b, c, d, e) f

-- its sender and its receiver are two of the roles
record AreTwo (roles : List (List ℕ)) (p q : List ℕ) : Type 0 where
  sender : has_role p roles ≡ true
  receiver : has_role q roles ≡ true
  different : bytes_eq p q ≡ false

parts_of_six : (a b c d e f : Bool) → (a && b && not c && d && e && f) ≡ true → (a ≡ true) × (b ≡ true) × (c ≡ false) × (f ≡ true)
parts_of_six a b c d e f h =
    let last = and_parts (a && b && not c && d && e) f h in
    let fifth = and_parts (a && b && not c && d) e last.0 in
    let fourth = and_parts (a && b && not c) d fifth.0 in
    let third = and_parts (a && b) (not c) fourth.0 in
    let first = and_parts a b third.0 in
    (first.0, first.1, not-true c third.1, last.1)

two_of_comm : (roles : List (List ℕ)) (p q : List ℕ) (bs : GlobalBranches) → well_formed roles (Comm p q bs) ≡ true → AreTwo roles p q × (branches_well_formed roles bs ≡ true)
two_of_comm roles p q bs h =
    let v = parts_of_six (has_role p roles) (has_role q roles) (bytes_eq p q) (has_branches bs) (distinct_operators bs) (branches_well_formed roles bs) h in
    (record { sender = v.0; receiver = v.1; different = v.2 }, v.3)

prefix_sound : (roles : List (List ℕ)) (m : Message) (p : List ℕ) (f : List ℕ → List ℕ) (qs : List (List ℕ)) (g : GlobalTree) → ((q : List ℕ) → has_role q qs ≡ true → AreTwo roles p (f q))
    → well_formed roles g ≡ true → well_formed roles (prefix_message m p (map f qs) g) ≡ true
prefix_sound roles m p f [] g h w = w
prefix_sound roles m p f (q ∷ qs) g h w =
    let two = h q (or_left (bytes_eq q q) (has_role q qs) (role_itself q)) in
    let rest = prefix_sound roles m p f qs g (λ r k. h r (or_right (bytes_eq r q) (has_role r qs) k)) w in
    comm_sound roles p (f q) (Branch m (prefix_message m p (map f qs) g) NoBranch) two.sender two.receiver two.different refl refl (rw rest refl)

and_sound : (roles : List (List ℕ)) (bs cs : GlobalBranches) → branches_well_formed roles bs ≡ true → branches_well_formed roles cs ≡ true → branches_well_formed roles (and_branches bs cs) ≡ true
and_sound roles NoBranch cs h k = k
and_sound roles (Branch m g bs) cs h k =
    let parts = and_parts (well_formed roles g) (branches_well_formed roles bs) h in
    and_from (well_formed roles g) (branches_well_formed roles (and_branches bs cs)) parts.0 (and_sound roles bs cs parts.1 k)

-- Each block of the frames, from where they begin, follows the rules, and roles are passed for those of its protocol.

record IsKeptFrame (ms : List ModuleTree) (roles : List (List ℕ)) (sc : Scope) (b : Body) : Type 0 where
  recs : List (List ℕ)
  before : Bool
  exits : Bool
  keeps : BlockKeeps ms sc.within recs before b exits
  gives : GivesRoles roles sc

abbrev AreKept : (ms : List ModuleTree) (roles : List (List ℕ)) → Frames → Type 0
AreKept ms roles NoFrame = Unit {0}
AreKept ms roles (Under sc b fs) = IsKeptFrame ms roles sc b × AreKept ms roles fs

-- the first statement follows the rules, and so does what follows it
record IsKeptHead (ms : List ModuleTree) (roles : List (List ℕ)) (sc : Scope) (s : Statement) (b : Body) (fs : Frames) : Type 0 where
  recs : List (List ℕ)
  exits : Bool
  keeps : StatementKeeps ms sc.within recs s exits
  gives : GivesRoles roles sc
  rest : AreKept ms roles (Under sc b fs)

head_kept : {ms : List ModuleTree} {roles : List (List ℕ)} {sc : Scope} {s : Statement} {b : Body} {fs : Frames} → AreKept ms roles (Under sc (Then s b) fs) → IsKeptHead ms roles sc s b fs
head_kept h =
    let v = of_then h.0.keeps in
    record {
      recs = h.0.recs;
      exits = v.leads;
      keeps = v.step;
      gives = h.0.gives;
      rest = (record { recs = h.0.recs; before = v.leads; exits = h.0.exits; keeps = v.rest; gives = h.0.gives }, h.1);
    }

-- a recursion's own level
own_level : (sc : Scope) (x : List ℕ) (n : ℕ) → level_of x (inside sc x n).recs ≡ Some n
own_level sc x n = rw (role_itself x) refl

-- the branches of a join are sound
record IsSoundJoin (roles : List (List ℕ)) (p q : List ℕ) (cs : GlobalBranches) : Type 0 where
  branches : branches_well_formed roles cs ≡ true
  ends : has_branches cs ≡ true → AreTwo roles p q

-- by form of statement

inside_gives : {roles : List (List ℕ)} {sc : Scope} {x : List ℕ} {n : ℕ} → GivesRoles roles sc → GivesRoles roles (inside sc x n)
inside_gives g = record { among = g.among; same = g.same }

rec_sound : (roles : List (List ℕ)) (g : GlobalTree) → leads_to_communication g ≡ true → uses 0 g ≡ true → well_formed roles g ≡ true → well_formed roles (GlobalRec g) ≡ true
rec_sound roles g a b c = rw (a, b) c

message_roles : {ms : List ModuleTree} {roles recs : List (List ℕ)} {sc : Scope} {m : Message} {p : List ℕ} {qs : List (List ℕ)} {s : Spot} {e : Bool} → StatementKeeps ms sc.within recs (Sends m p qs s) e
    → GivesRoles roles sc → (q : List ℕ) → has_role q qs ≡ true → AreTwo roles (role_in sc p) (role_in sc q)
message_roles {sc = sc} {p = p} {qs = qs} k g q h =
    let v = of_sends k in
    let parts = and_parts (has_role p (roles_of sc.within)) (are_roles qs (roles_of sc.within)) v.0 in
    let there = role_among q qs (roles_of sc.within) parts.1 h in
    record {
      sender = g.among p parts.0;
      receiver = g.among q there;
      different = false_from_ne_true (bytes_eq (role_in sc p) (role_in sc q)) (λ e.
          let same : p ≡ q = g.same p q parts.0 there ((bytes_eq-Decides (role_in sc p) (role_in sc q)).0 e) in
          both_ways (has_role p qs) v.1 (ap (λ r. has_role r qs) same ∙ h));
    }

called_kept : {ms : List ModuleTree} {roles recs : List (List ℕ)} {sc : Scope} {path rs : List (List ℕ)} {s : Spot} {e : Bool} {c : Declaration} → called ms sc.within.home path ≡ Some c
    → StatementKeeps ms sc.within recs (Calls path rs s) e → GivesRoles roles sc → IsKeptFrame ms roles (inside_call sc c rs) (body_of c.protocol.body)
called_kept {ms = ms} {roles = roles} {sc = sc} {path = path} {rs = rs} {e = e} {c = c} there k g =
    let v = of_calls k in
    let same : v.to ≡ c = cc (there, v.call.there) in
    let kept = subst (λ d. KeepsRules ms d e) same v.kept in
    let call = subst (λ d. IsCall ms sc.within path rs d) same v.call in
    record { recs = []; before = true; exits = e; keeps = (of_protocol kept).block; gives = gives_called ms roles sc path rs c call g }

mutual
  sound_type : {ms : List ModuleTree} {n : ℕ} {fs : Frames} {g : GlobalTree} → Types ms n fs g → (roles : List (List ℕ)) → AreKept ms roles fs → well_formed roles g ≡ true
  sound_type ends roles h = refl
  sound_type (closes t) roles h = sound_type t roles h.1
  sound_type (sends {sc = sc} {m = m} {p = p} {qs = qs} {g = g} t f) roles h =
      let v = head_kept h in
      ap (well_formed roles) f ∙ prefix_sound roles m (role_in sc p) (role_in sc) qs g (message_roles v.keeps v.gives) (sound_type t roles v.rest)
  sound_type (chooses {sc = sc} {p = p} {q = q} {cs = cs} j some d f) roles h =
      let v = head_kept h in
      let w = sound_join j roles v.recs v.exits (of_chooses v.keeps).1 v.gives v.rest in
      let two = w.ends some in
      ap (well_formed roles) f ∙ comm_sound roles (role_in sc p) q cs two.sender two.receiver two.different some d w.branches
  sound_type {ms = ms} (repeats {n = n} {sc = sc} {x = x} {c = c} {g = g} k t l f) roles h =
      let v = head_kept h in
      let body = (of_repeats v.keeps).0 in
      let taken = used t n 0 (omega arith) (in_first x body k (own_level sc x n)) in
      let kept : IsKeptFrame ms roles (inside sc x n) c = record { recs = x ∷ v.recs; before = true; exits = v.exits; keeps = body; gives = inside_gives v.gives } in
      ap (well_formed roles) f ∙ rec_sound roles g l taken (sound_type t roles (kept, v.rest))
  sound_type (passes {x = x} k t) roles h =
      let v = head_kept h in
      sound_type t roles (record { recs = x ∷ v.recs; before = true; exits = v.exits; keeps = (of_repeats v.keeps).0; gives = v.gives }, v.rest)
  sound_type (continues l m f) roles h = ap (well_formed roles) f
  sound_type (calls k t) roles h = let v = head_kept h in sound_type t roles (called_kept k v.keeps v.gives, v.rest)

  sound_join : {ms : List ModuleTree} {n : ℕ} {sc : Scope} {bs : Blocks} {fs : Frames} {p q : List ℕ} {cs : GlobalBranches} → JoinsTo ms n sc bs fs p q cs
      → (roles recs : List (List ℕ)) (e : Bool) → BlocksKeep ms sc.within recs bs e → GivesRoles roles sc → AreKept ms roles fs → IsSoundJoin roles p q cs
  sound_join joins_none roles recs e k g h = record { branches = refl; ends = λ s. absurd (false≢true s) }
  sound_join (joins {p = p} {q = q} {cs = cs} {ds = ds} t f j i) roles recs e k g h =
      let v = of_or k in
      let first = sound_type t roles (record { recs = recs; before = true; exits = v.this; keeps = v.block; gives = g }, h) in
      let two = two_of_comm roles p q cs (sym (ap (well_formed roles) f) ∙ first) in
      let more = sound_join j roles recs v.others v.blocks g h in
      record {
        branches = ap (branches_well_formed roles) i ∙ and_sound roles cs ds two.1 more.branches;
        ends = λ _. two.0;
      }

pub accepted_sound : (ms : List ModuleTree) (home : List (List ℕ)) (name : List ℕ) (a : Agreement) → Elaborates ms home name a → IsTrue (is_sound a.roles a.global)
unfolding is_sound
accepted_sound ms home name a e =
    let d = e.declaration in
    let p = of_protocol e.kept in
    let few : nat_le (length (roles_of d)) 64 ≡ true = le-leb (length (roles_of d)) 64 (omega (arith, length-map d.protocol.roles (λ r. r.name), p.names.few)) in
    let closed : is_closed a.global ≡ true = eq-eqb (open_depth a.global) 0 (omega (arith, closed_below e.typed)) in
    let kept : IsKeptFrame ms (roles_of d) (record { within = d; given = roles_of d; recs = [] }) (body_of d.protocol.body) = record { recs = []; before = true; exits = e.exits; keeps = p.block; gives = gives_itself d } in
    let form = sound_type e.typed (roles_of d) (kept, tt) in
    subst (λ roles. (nat_le (length roles) 64 && distinct_roles roles && is_closed a.global && well_formed roles a.global) ≡ true) (sym e.roles) (rw (few, p.names.roles, closed) form)

-- the size of a protocol is that of its type
pub size_is_nodes : (ms : List ModuleTree) (d : Declaration) (n : ℕ) (g : GlobalTree) → NodesOf ms d n → Types ms 0 (start_of d) g → nodes g ≡ n
size_is_nodes ms d n g size typed = counted typed n (1, refl, size)

pub size_is_height : (ms : List ModuleTree) (d : Declaration) (n : ℕ) (g : GlobalTree) → HeightOf ms d n → Types ms 0 (start_of d) g → height g ≡ n
size_is_height ms d n g size typed = measured typed n (1, refl, size)

-- a protocol that was found, walked over, counted and typed is elaborated
pub accepted : (ms : List ModuleTree) (home : List (List ℕ)) (name : List ℕ) (d : Declaration) (e : Bool) (n : ℕ) (g : GlobalTree) → find_protocol ms home name ≡ Some d → KeepsRules ms d e
    → IsWithin ms d n → Types ms 0 (start_of d) g → Elaborates ms home name (record { roles = roles_of d; global = g })
accepted ms home name d e n g there kept within typed =
    let count = size_is_nodes ms d n g within.counted typed in
    let high = size_is_height ms d within.height g within.measured typed in
    record {
      declaration = d;
      there = there;
      exits = e;
      kept = kept;
      typed = typed;
      small = omega arith;
      short = omega arith;
      roles = refl;
    }

-- a protocol means one thing
pub meaning_same : (ms : List ModuleTree) (home : List (List ℕ)) (name : List ℕ) (a b : Agreement) → Elaborates ms home name a → Elaborates ms home name b → a ≡ b
meaning_same ms home name a b e f =
    let same : e.declaration ≡ f.declaration = cc (e.there, f.there) in
    let types = types_same (subst (λ d. Types ms 0 (start_of d) a.global) same e.typed) b.global f.typed in
    let roles = e.roles ∙ ap roles_of same ∙ sym f.roles in
    λ i. record { roles = roles i; global = types i }
