-- Frames and their types under one more recursion.
use Rattle.std.proofs.Common.{◌≡◌, ℕ, ◌+◌, ◌<◌, ◌≤◌, Bool, true, false, leb, List, [], ◌∷◌, map, Option, Some, if◌then◌else◌, refl, sym, ap, ◌∙◌, subst, arith}
use Rattle.std.proofs.lemmas.Bool.{leb-true, leb-false, le-leb}
use Rattle.std.specs.Str.{bytes_eq}
use Rattle.scrib_types.specs.declared.message.Message.{Message}
use Rattle.scrib_types.specs.Trees.{GlobalTree, GlobalEnd, GlobalVar, GlobalRec, Comm, Flight, GlobalBranches, NoBranch, Branch}
use Rattle.scrib_types.specs.WellFormed.{leads_to_communication, has_operator, distinct_operators, has_branches}
use Rattle.scrib_tree.specs.declared.tree.ModuleTree.{ModuleTree}
use Rattle.scrib_static_checks.specs.Source.{Blocks}
use Rattle.scrib_static_checks.specs.Elaboration.{Scope, role_in, level_of, inside, Frames, NoFrame, Under, prefix_message, and_branches, Types, ends, closes, sends, chooses, repeats, passes, continues, calls, JoinsTo, joins_none, joins}
use Rattle.scrib_static_checks.specs.Faults.{share_operator}
use Rattle.scrib_type_builder.specs.Shifting.{shifted, branches_shifted}
use Rattle.scrib_elaborate.specs.Levels.{LevelsBelow, AreBelow}

-- levels from c on are greater by one

abbrev pub raised_level : (c level : ℕ) → ℕ
raised_level c k = if leb c k then k + 1 else k

abbrev pub raised_levels : (c : ℕ) → List (List ℕ × ℕ) → List (List ℕ × ℕ)
raised_levels c [] = []
raised_levels c (r ∷ rs) = (r.0, raised_level c r.1) ∷ raised_levels c rs

abbrev pub raised_scope : (c : ℕ) → Scope → Scope
raised_scope c sc = record { within = sc.within; given = sc.given; recs = raised_levels c sc.recs }

abbrev pub raised : (c : ℕ) → Frames → Frames
raised c NoFrame = NoFrame
raised c (Under sc b fs) = Under (raised_scope c sc) b (raised c fs)

-- a level, and a variable, above or below

raised_up : (c k : ℕ) → c ≤ k → raised_level c k ≡ k + 1
raised_up c k h = rw (le-leb c k h) refl

raised_not : (c k : ℕ) → k < c → raised_level c k ≡ k
raised_not c k h = case (leb c k) refl
  where
    case : (t : Bool) → leb c k ≡ t → (if t then k + 1 else k) ≡ k
    case true e = absurd (omega (arith, leb-true c k e))
    case false e = refl

var_up : (under n : ℕ) → under ≤ n → shifted under (GlobalVar n) ≡ GlobalVar (n + 1)
var_up under n h = ap GlobalVar (raised_up under n h)

var_not : (under n : ℕ) → n < under → shifted under (GlobalVar n) ≡ GlobalVar n
var_not under n h = ap GlobalVar (raised_not under n h)

-- what is unchanged

pub leads_shifted : (under : ℕ) (g : GlobalTree) → leads_to_communication (shifted under g) ≡ leads_to_communication g
leads_shifted under GlobalEnd = refl
leads_shifted under (GlobalVar n) = refl
leads_shifted under (GlobalRec g) = leads_shifted (under + 1) g
leads_shifted under (Comm p q bs) = refl
leads_shifted under (Flight p q j bs) = refl

pub has_branches_shifted : (under : ℕ) (bs : GlobalBranches) → has_branches (branches_shifted under bs) ≡ has_branches bs
has_branches_shifted under NoBranch = refl
has_branches_shifted under (Branch m g bs) = refl

has_operator_shifted : (o : Option (List ℕ)) (under : ℕ) (bs : GlobalBranches) → has_operator o (branches_shifted under bs) ≡ has_operator o bs
has_operator_shifted o under NoBranch = refl
has_operator_shifted o under (Branch m g bs) = rw (has_operator_shifted o under bs) refl

pub distinct_shifted : (under : ℕ) (bs : GlobalBranches) → distinct_operators (branches_shifted under bs) ≡ distinct_operators bs
distinct_shifted under NoBranch = refl
distinct_shifted under (Branch m g bs) = rw (has_operator_shifted m.op under bs, distinct_shifted under bs) refl

pub share_shifted : (under : ℕ) (bs cs : GlobalBranches) → share_operator (branches_shifted under bs) (branches_shifted under cs) ≡ share_operator bs cs
share_shifted under NoBranch cs = refl
share_shifted under (Branch m g bs) cs = rw (has_operator_shifted m.op under cs, share_shifted under bs cs) refl

prefix_shifted : (under : ℕ) (m : Message) (p : List ℕ) (qs : List (List ℕ)) (g : GlobalTree) → shifted under (prefix_message m p qs g) ≡ prefix_message m p qs (shifted under g)
prefix_shifted under m p [] g = refl
prefix_shifted under m p (q ∷ qs) g = rw (prefix_shifted under m p qs g) refl

and_shifted : (under : ℕ) (bs cs : GlobalBranches) → branches_shifted under (and_branches bs cs) ≡ and_branches (branches_shifted under bs) (branches_shifted under cs)
and_shifted under NoBranch cs = refl
and_shifted under (Branch m g bs) cs = rw (and_shifted under bs cs) refl

-- scopes

level_raised : (c : ℕ) (x : List ℕ) (rs : List (List ℕ × ℕ)) (k : ℕ) → level_of x rs ≡ Some k → level_of x (raised_levels c rs) ≡ Some (raised_level c k)
level_raised c x [] k h = absurd (cc)
level_raised c x (r ∷ rs) k h = case (bytes_eq x r.0) (level_raised c x rs k) h
  where
    case : (t : Bool) → (level_of x rs ≡ Some k → level_of x (raised_levels c rs) ≡ Some (raised_level c k)) → (if t then Some r.1 else level_of x rs) ≡ Some k
        → (if t then Some (raised_level c r.1) else level_of x (raised_levels c rs)) ≡ Some (raised_level c k)
    case true more e = let l : r.1 ≡ k = cc in ap (λ l. Some (raised_level c l)) l
    case false more e = more e

variable_raised : (c k n level i : ℕ) → n ≡ c + k → n ≡ level + 1 + i → (j : ℕ) × (n + 1 ≡ raised_level c level + 1 + j) × (shifted k (GlobalVar i) ≡ GlobalVar j)
variable_raised c k n level i e m = case (leb c level) refl
  where
    case : (t : Bool) → leb c level ≡ t → (j : ℕ) × (n + 1 ≡ raised_level c level + 1 + j) × (shifted k (GlobalVar i) ≡ GlobalVar j)
    case true h =
        let low : c ≤ level = leb-true c level h in
        let up = raised_up c level low in
        (i, omega (arith, up), var_not k i (omega arith))
    case false h =
        let high : level < c = leb-false c level h in
        let not = raised_not c level high in
        (i + 1, omega (arith, not), var_up k i (omega arith))

pub inside_raised : (c n : ℕ) (sc : Scope) (x : List ℕ) → c ≤ n → raised_scope c (inside sc x n) ≡ inside (raised_scope c sc) x (n + 1)
inside_raised c n sc x h = ap (λ l. inside (raised_scope c sc) x l) (raised_up c n h)

mutual
  -- under one more recursion, with c recursions outside it and k inside it
  pub shift_types : {ms : List ModuleTree} {n : ℕ} {fs : Frames} {g : GlobalTree} → Types ms n fs g → (c k : ℕ) → n ≡ c + k → Types ms (n + 1) (raised c fs) (shifted k g)
  shift_types ends c k e = ends
  shift_types (closes t) c k e = closes (shift_types t c k e)
  shift_types (sends {sc = sc} {m = m} {p = p} {qs = qs} {g = g} t f) c k e =
      sends (shift_types t c k e) (ap (shifted k) f ∙ prefix_shifted k m (role_in sc p) (map (role_in sc) qs) g)
  shift_types (chooses {cs = cs} j some d f) c k e =
      chooses (shift_joins j c k e) (has_branches_shifted k cs ∙ some) (distinct_shifted k cs ∙ d) (ap (shifted k) f)
  shift_types {ms = ms} (repeats {n = n} {sc = sc} {x = x} {c = body} {b = b} {fs = fs} {g = g} i t l f) c k e =
      let t' : Types ms (n + 1 + 1) (Under (raised_scope c (inside sc x n)) body (Under (raised_scope c sc) b (raised c fs))) (shifted (k + 1) g) = shift_types t c (k + 1) (omega arith) in
      repeats i (subst (λ s. Types ms (n + 1 + 1) (Under s body (Under (raised_scope c sc) b (raised c fs))) (shifted (k + 1) g)) (inside_raised c n sc x (omega arith)) t') (leads_shifted (k + 1) g ∙ l) (ap (shifted k) f)
  shift_types (passes i t) c k e = passes i (shift_types t c k e)
  shift_types (continues {n = n} {sc = sc} {x = x} {k = level} {i = i} l m f) c k e =
      let v = variable_raised c k n level i e m in
      continues (level_raised c x sc.recs level l) v.1 (ap (shifted k) f ∙ v.2)
  shift_types (calls i t) c k e = calls i (shift_types t c k e)

  pub shift_joins : {ms : List ModuleTree} {n : ℕ} {sc : Scope} {bs : Blocks} {fs : Frames} {p q : List ℕ} {cs : GlobalBranches}
      → JoinsTo ms n sc bs fs p q cs → (c k : ℕ) → n ≡ c + k → JoinsTo ms (n + 1) (raised_scope c sc) bs (raised c fs) p q (branches_shifted k cs)
  shift_joins joins_none c k e = joins_none
  shift_joins (joins {cs = cs} {ds = ds} t f j g) c k e =
      joins (shift_types t c k e) (ap (shifted k) f) (shift_joins j c k e) (ap (branches_shifted k) g ∙ and_shifted k cs ds)

-- where n recursions are around a type, it has no variable of one further out
mutual
  pub shift_none : {ms : List ModuleTree} {n : ℕ} {fs : Frames} {g : GlobalTree} → Types ms n fs g → shifted n g ≡ g
  shift_none ends = refl
  shift_none (closes t) = shift_none t
  shift_none (sends {n = n} {sc = sc} {m = m} {p = p} {qs = qs} {g = g} t f) =
      ap (shifted n) f ∙ prefix_shifted n m (role_in sc p) (map (role_in sc) qs) g ∙ ap (prefix_message m (role_in sc p) (map (role_in sc) qs)) (shift_none t) ∙ sym f
  shift_none (chooses {n = n} {sc = sc} {p = p} {q = q} j some d f) =
      ap (shifted n) f ∙ ap (Comm (role_in sc p) q) (shift_none_joins j) ∙ sym f
  shift_none (repeats {n = n} i t l f) = ap (shifted n) f ∙ ap GlobalRec (shift_none t) ∙ sym f
  shift_none (passes i t) = shift_none t
  shift_none (continues {n = n} {k = level} {i = i} l m f) = ap (shifted n) f ∙ var_not n i (omega arith) ∙ sym f
  shift_none (calls i t) = shift_none t

  pub shift_none_joins : {ms : List ModuleTree} {n : ℕ} {sc : Scope} {bs : Blocks} {fs : Frames} {p q : List ℕ} {cs : GlobalBranches} → JoinsTo ms n sc bs fs p q cs → branches_shifted n cs ≡ cs
  shift_none_joins joins_none = refl
  shift_none_joins (joins {n = n} {p = p} {q = q} {cs = cs} {ds = ds} t f j g) =
      let whole : shifted n (Comm p q cs) ≡ Comm p q cs = subst (λ x. shifted n x ≡ x) f (shift_none t) in
      let first : branches_shifted n cs ≡ cs = cc whole in
      ap (branches_shifted n) g ∙ and_shifted n cs ds ∙ (λ i. and_branches (first i) (shift_none_joins j i)) ∙ sym g

-- levels below c are unchanged

levels_stay : (c : ℕ) (rs : List (List ℕ × ℕ)) → LevelsBelow c rs → raised_levels c rs ≡ rs
levels_stay c [] h = refl
levels_stay c (r ∷ rs) h = λ i. (r.0, raised_not c r.1 h.0 i) ∷ levels_stay c rs h.1 i

pub raised_stay : (c : ℕ) (fs : Frames) → AreBelow c fs → raised c fs ≡ fs
raised_stay c NoFrame h = refl
raised_stay c (Under sc b fs) h =
    λ i. Under (record { within = sc.within; given = sc.given; recs = levels_stay c sc.recs h.0 i }) b (raised_stay c fs h.1 i)

pub shift_below : {ms : List ModuleTree} {n : ℕ} {fs : Frames} {g : GlobalTree} → AreBelow n fs → Types ms n fs g → Types ms (n + 1) fs (shifted 0 g)
shift_below {ms = ms} {n = n} {fs = fs} {g = g} low t = subst (λ x. Types ms (n + 1) x (shifted 0 g)) (raised_stay n fs low) (shift_types t n 0 (omega arith))

-- the same below a larger depth

pub levels_more : (n m : ℕ) (rs : List (List ℕ × ℕ)) → n ≤ m → LevelsBelow n rs → LevelsBelow m rs
levels_more n m [] l h = tt
levels_more n m (r ∷ rs) l h = (omega (arith, h.0), levels_more n m rs l h.1)

pub below_more : (n m : ℕ) (fs : Frames) → n ≤ m → AreBelow n fs → AreBelow m fs
below_more n m NoFrame l h = tt
below_more n m (Under sc b fs) l h = (levels_more n m sc.recs l h.0, below_more n m fs l h.1)
