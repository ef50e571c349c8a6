-- A recursion that is continued is used by its type.
use Rattle.std.proofs.Common.{◌≡◌, ◌⊎◌, inl, inr, ℕ, ◌+◌, Bool, true, false, List, [], ◌∷◌, map, Some, if◌then◌else◌, refl, sym, ap, ◌∙◌, subst, ⊎_elim, arith, eq-eqb}
use Rattle.std.specs.Str.{bytes_eq}
use Rattle.std.proofs.lemmas.Bool.{false≢true, or_cases, or_left, or_right}
use Rattle.std.proofs.lemmas.Slice.Eq.{bytes_eq-Decides}
use Rattle.scrib_types.specs.declared.message.Message.{Message}
use Rattle.scrib_types.specs.declared.spot.Spot.{Spot}
use Rattle.scrib_types.specs.Trees.{GlobalTree, GlobalBranches, NoBranch, Branch}
use Rattle.scrib_types.specs.WellFormed.{uses, branches_use}
use Rattle.scrib_tree.specs.declared.tree.ModuleTree.{ModuleTree}
use Rattle.scrib_static_checks.specs.Source.{Body, Done, Then, Statement, Chooses, Repeats, Continues, Calls, Blocks, NoBlock, OrBlock}
use Rattle.scrib_static_checks.specs.SourceView.{body_of}
use Rattle.scrib_static_checks.specs.Names.{Declaration, called}
use Rattle.scrib_static_checks.specs.Statements.{KeepsRules, BlockKeeps, end_keeps, then_keeps, StatementKeeps, BlocksKeep}
use Rattle.scrib_static_checks.specs.Elaboration.{continues_in, continues_at, continues_some, Scope, role_in, level_of, inside, inside_call, Frames, NoFrame, Under, prefix_message, and_branches, Types, ends, closes, sends, chooses, repeats, passes, continues, calls, JoinsTo, joins_none, joins}
use Rattle.scrib_static_checks.proofs.RuleLemmas.{of_then, of_none, of_or, of_chooses, of_repeats, of_continues, of_calls, of_protocol}
use Rattle.scrib_elaborate.proofs.NeededParts.{leads_before}

-- A `continue` of the recursion of this level is reached. It is in the first block, or this one has an exit and it is
-- reached in the others.
pub data IsContinued (ms : List ModuleTree) (level : ℕ) : Frames → Type 0 where
  in_first : {sc : Scope} {b : Body} {fs : Frames} {recs : List (List ℕ)} {e f : Bool} (x : List ℕ)
      → BlockKeeps ms sc.within recs e b f → continues_in x b ≡ true → level_of x sc.recs ≡ Some level → IsContinued ms level (Under sc b fs)
  in_others : {sc : Scope} {b : Body} {fs : Frames} {recs : List (List ℕ)} {e : Bool} → BlockKeeps ms sc.within recs e b true → IsContinued ms level fs → IsContinued ms level (Under sc b fs)

-- in one of the blocks of a choice, followed by the frames
pub data IsContinuedIn (ms : List ModuleTree) (level : ℕ) (sc : Scope) (fs : Frames) : Blocks → Type 0 where
  in_this : {b : Body} {s : Spot} {bs : Blocks} → IsContinued ms level (Under sc b fs) → IsContinuedIn ms level sc fs (OrBlock b s bs)
  in_other : {b : Body} {s : Spot} {bs : Blocks} → IsContinuedIn ms level sc fs bs → IsContinuedIn ms level sc fs (OrBlock b s bs)

-- by the first statement

-- in the statement
record IsWithin (ms : List ModuleTree) (level : ℕ) (sc : Scope) (s : Statement) : Type 0 where
  recs : List (List ℕ)
  exits : Bool
  name : List ℕ
  keeps : StatementKeeps ms sc.within recs s exits
  continued : continues_at name s ≡ true
  there : level_of name sc.recs ≡ Some level

-- in what follows it
record IsBeyond (ms : List ModuleTree) (level : ℕ) (sc : Scope) (s : Statement) (b : Body) (fs : Frames) : Type 0 where
  recs : List (List ℕ)
  keeps : StatementKeeps ms sc.within recs s true
  continued : IsContinued ms level (Under sc b fs)

some_statement : {ms : List ModuleTree} {d : Declaration} {recs : List (List ℕ)} {e f : Bool} {b : Body} (x : List ℕ) → BlockKeeps ms d recs e b f → continues_in x b ≡ true → e ≡ true
some_statement x end_keeps h = absurd (false≢true h)
some_statement x (then_keeps s r) h = refl

continued_at : {ms : List ModuleTree} {level : ℕ} {sc : Scope} {s : Statement} {b : Body} {fs : Frames} → IsContinued ms level (Under sc (Then s b) fs) → IsWithin ms level sc s ⊎ IsBeyond ms level sc s b fs
continued_at {ms = ms} {sc = sc} {s = s} {b = b} (in_first {recs = recs} x k c l) =
    let v = of_then k in
    ⊎_elim (λ h. inl (record { recs = recs; exits = v.leads; name = x; keeps = v.step; continued = h; there = l }))
    (λ h. inr (record { recs = recs; keeps = subst (λ t. StatementKeeps ms sc.within recs s t) (some_statement x v.rest h) v.step; continued = in_first x v.rest h l }))
    (or_cases (continues_at x s) (continues_in x b) c)
continued_at {ms = ms} {sc = sc} {s = s} (in_others {recs = recs} k c) =
    let v = of_then k in
    inr (record { recs = recs; keeps = subst (λ t. StatementKeeps ms sc.within recs s t) (leads_before v.rest refl) v.step; continued = in_others v.rest c })

continued_nowhere : {ms : List ModuleTree} {level : ℕ} → IsContinued ms level NoFrame → ⊥
continued_nowhere c = elim c [ ]

continued_done : {ms : List ModuleTree} {level : ℕ} {sc : Scope} {fs : Frames} → IsContinued ms level (Under sc Done fs) → IsContinued ms level fs
continued_done (in_first x k c l) = absurd (false≢true c)
continued_done (in_others k c) = c

uses_prefix : (i : ℕ) (m : Message) (p : List ℕ) (qs : List (List ℕ)) (g : GlobalTree) → uses i g ≡ true → uses i (prefix_message m p qs g) ≡ true
uses_prefix i m p [] g h = h
uses_prefix i m p (q ∷ qs) g h = or_left (uses i (prefix_message m p qs g)) false (uses_prefix i m p qs g h)

use_and : (i : ℕ) (bs cs : GlobalBranches) → (branches_use i bs ≡ true) ⊎ (branches_use i cs ≡ true) → branches_use i (and_branches bs cs) ≡ true
use_and i NoBranch cs h = ⊎_elim (λ e. absurd (false≢true e)) (λ e. e) h
use_and i (Branch m g bs) cs h =
    ⊎_elim (λ e. ⊎_elim (λ u. or_left (uses i g) (branches_use i (and_branches bs cs)) u) (λ u. or_right (uses i g) (branches_use i (and_branches bs cs)) (use_and i bs cs (inl u))) (or_cases (uses i g) (branches_use i bs) e)) (λ e. or_right (uses i g) (branches_use i (and_branches bs cs)) (use_and i bs cs (inr e))) h

-- in the blocks of a choice

some_block : {ms : List ModuleTree} {level : ℕ} {sc : Scope} {fs : Frames} {recs : List (List ℕ)} (x : List ℕ) (bs : Blocks) (e : Bool)
    → BlocksKeep ms sc.within recs bs e → continues_some x bs ≡ true → level_of x sc.recs ≡ Some level → IsContinuedIn ms level sc fs bs
some_block x NoBlock e k c l = absurd (false≢true c)
some_block x (OrBlock b s bs) e k c l =
    let v = of_or k in
    ⊎_elim (λ h. in_this (in_first x v.block h l)) (λ h. in_other (some_block x bs v.others v.blocks h l)) (or_cases (continues_in x b) (continues_some x bs) c)

some_exit : {ms : List ModuleTree} {level : ℕ} {sc : Scope} {fs : Frames} {recs : List (List ℕ)} (bs : Blocks) (e : Bool)
    → BlocksKeep ms sc.within recs bs e → e ≡ true → IsContinued ms level fs → IsContinuedIn ms level sc fs bs
some_exit NoBlock e k h c = absurd (false≢true (sym (of_none k) ∙ h))
some_exit {ms = ms} {sc = sc} {recs = recs} (OrBlock b s bs) e k h c =
    let v = of_or k in
    ⊎_elim (λ t. in_this (in_others (subst (λ x. BlockKeeps ms sc.within recs true b x) t v.block) c)) (λ t. in_other (some_exit bs v.others v.blocks t c)) (or_cases v.this v.others (sym v.is ∙ h))

blocks_continued : {ms : List ModuleTree} {level : ℕ} {sc : Scope} {p : List ℕ} {bs : Blocks} {s : Spot} {b : Body} {fs : Frames} → IsContinued ms level (Under sc (Then (Chooses p bs s) b) fs)
    → IsContinuedIn ms level sc (Under sc b fs) bs
blocks_continued {bs = bs} c =
    ⊎_elim (λ h. some_block h.name bs h.exits (of_chooses h.keeps).1 h.continued h.there) (λ h. some_exit bs true (of_chooses h.keeps).1 refl h.continued) (continued_at c)

-- in the body of a recursion

not_inner : (x y : List ℕ) (c : Body) → (if bytes_eq x y then false else continues_in x c) ≡ true → (bytes_eq x y ≡ false) × (continues_in x c ≡ true)
not_inner x y c h = case (bytes_eq x y) h
  where
    case : (t : Bool) → (if t then false else continues_in x c) ≡ true → (t ≡ false) × (continues_in x c ≡ true)
    case true h = absurd (false≢true h)
    case false h = (refl, h)

rec_continued : {ms : List ModuleTree} {level n : ℕ} {sc : Scope} {y : List ℕ} {c : Body} {s : Spot} {b : Body} {fs : Frames} → IsContinued ms level (Under sc (Then (Repeats y c s) b) fs)
    → IsContinued ms level (Under (inside sc y n) c (Under sc b fs))
rec_continued {level = level} {n = n} {sc = sc} {y = y} {c = body} c =
    ⊎_elim (λ h. let v = not_inner h.name y body h.continued in in_first h.name (of_repeats h.keeps).0 v.1 (ap (λ t. if t then Some n else level_of h.name sc.recs) v.0 ∙ h.there))
    (λ h. in_others (of_repeats h.keeps).0 h.continued)
    (continued_at c)

pass_continued : {ms : List ModuleTree} {level : ℕ} {sc : Scope} {y : List ℕ} {c : Body} {s : Spot} {b : Body} {fs : Frames} → IsContinued ms level (Under sc (Then (Repeats y c s) b) fs)
    → IsContinued ms level (Under sc c (Under sc b fs))
pass_continued {y = y} {c = body} c =
    ⊎_elim (λ h. in_first h.name (of_repeats h.keeps).0 (not_inner h.name y body h.continued).1 h.there) (λ h. in_others (of_repeats h.keeps).0 h.continued) (continued_at c)

call_continued : {ms : List ModuleTree} {level : ℕ} {sc : Scope} {path roles : List (List ℕ)} {s : Spot} {b : Body} {fs : Frames} {d : Declaration}
    → called ms sc.within.home path ≡ Some d → IsContinued ms level (Under sc (Then (Calls path roles s) b) fs) → IsContinued ms level (Under (inside_call sc d roles) (body_of d.protocol.body) (Under sc b fs))
call_continued {ms = ms} {d = d} there c =
    ⊎_elim (λ h. absurd (false≢true h.continued)) (λ h. let v = of_calls h.keeps in let same : v.to ≡ d = cc (there, v.call.there) in in_others (of_protocol (subst (λ x. KeepsRules ms x true) same v.kept)).block h.continued) (continued_at c)

own_level : {ms : List ModuleTree} {level : ℕ} {sc : Scope} {y : List ℕ} {s : Spot} {b : Body} {fs : Frames} {k : ℕ} → IsContinued ms level (Under sc (Then (Continues y s) b) fs)
    → level_of y sc.recs ≡ Some k → level ≡ k
own_level {level = level} {sc = sc} {y = y} {k = k} c l =
    ⊎_elim (λ h. let same : h.name ≡ y = (bytes_eq-Decides h.name y).0 h.continued in let there : level_of y sc.recs ≡ Some level = ap (λ x. level_of x sc.recs) (sym same) ∙ h.there in cc) (λ h. absurd (false≢true (sym (of_continues h.keeps).1))) (continued_at c)

mutual
  pub used : {ms : List ModuleTree} {n : ℕ} {fs : Frames} {g : GlobalTree} → Types ms n fs g → (level i : ℕ) → n ≡ level + 1 + i → IsContinued ms level fs → uses i g ≡ true
  used ends level i e c = absurd (continued_nowhere c)
  used (closes t) level i e c = used t level i e (continued_done c)
  used (sends {sc = sc} {m = m} {p = p} {qs = qs} {g = g} t f) level i e c =
      ap (uses i) f ∙ uses_prefix i m (role_in sc p) (map (role_in sc) qs) g (used t level i e (⊎_elim (λ h. absurd (false≢true h.continued)) (λ h. h.continued) (continued_at c)))
  used (chooses j some d f) level i e c = ap (uses i) f ∙ used_joined j level i e (blocks_continued c)
  used (repeats k t l f) level i e c = ap (uses i) f ∙ used t level (i + 1) (omega arith) (rec_continued c)
  used (passes k t) level i e c = used t level i e (pass_continued c)
  used (continues {n = n} {k = k} {i = j} l m f) level i e c =
      let same = own_level c l in
      let index : j ≡ i = omega arith in
      ap (uses i) f ∙ eq-eqb j i index
  used (calls k t) level i e c = used t level i e (call_continued k c)

  used_joined : {ms : List ModuleTree} {n : ℕ} {sc : Scope} {bs : Blocks} {fs : Frames} {p q : List ℕ} {cs : GlobalBranches} → JoinsTo ms n sc bs fs p q cs → (level i : ℕ) → n ≡ level + 1 + i
      → IsContinuedIn ms level sc fs bs → branches_use i cs ≡ true
  used_joined joins_none level i e c = elim c [ ]
  used_joined (joins {cs = cs} {ds = ds} t f j h) level i e c =
      ap (branches_use i) h ∙ use_and i cs ds (elim c [ in_this u ↦ inl (sym (ap (uses i) f) ∙ used t level i e u) | in_other u ↦ inr (used_joined j level i e u) ])
