-- The meaning of a protocol depends only on the modules that its own module reaches by imports (this project's own).
use Rattle.std.specs.Prelude.{◌≡◌, ◌↔◌, ◌⊎◌, ℕ, Bool, true, false, ◌&&◌, List, [], ◌∷◌, ◌++◌, Option, Some, None, option_and_then, if◌then◌else◌, Contains, refl}
use Rattle.std.proofs.Common.{inl, inr, ap, sym, ◌∙◌, subst}
use Rattle.std.specs.Str.{bytes_eq}
use Rattle.std.proofs.lemmas.Bool.{and_parts, or_parts, cases_Bool, false_from_ne_true}
use Rattle.std.proofs.lemmas.List.Elements.{All-nil, All-contains, Contains-push, Contains-push_cases, Contains-append_left, Contains-append_right, Contains-append_cases}
use Rattle.scrib_types.specs.Agreement.{Agreement}
use Rattle.scrib_types.specs.Trees.{GlobalTree, GlobalBranches}
use Rattle.scrib_tree.specs.declared.tree.ModuleTree.{ModuleTree}
use Rattle.scrib_tree.specs.declared.tree.Import.{Import}
use Rattle.scrib_tree.specs.declared.tree.ProtocolDeclaration.{ProtocolDeclaration}
use Rattle.scrib_static_checks.specs.Source.{Body, Statement, Blocks}
use Rattle.scrib_static_checks.specs.Names.{Declaration, dotted_eq, dotted_eq-Decides, has_name, first_where, known_by, module_names, with_module, declared_in, declarations, is_called, find_protocol, all_but_last, last_name, imported, looked_in, called}
use Rattle.scrib_static_checks.specs.Statements.{KeepsRules, protocol_keeps, BlockKeeps, end_keeps, then_keeps, StatementKeeps, sends_keeps, chooses_keeps, repeats_keeps, continues_keeps, calls_keeps, BlocksKeep, none_keeps, or_keeps}
use Rattle.scrib_static_checks.specs.Elaboration.{Scope, Frames, NoFrame, Under, Types, ends, closes, sends, chooses, repeats, passes, continues, calls, JoinsTo, joins_none, joins, Elaborates}

-- each import of a module of such a name has such a name
abbrev pub IsImportClosed : (S : List (List ℕ) → Type 0) → List ModuleTree → Type 0
IsImportClosed S modules = (m : ModuleTree) (i : Import) → Contains modules m → S m.name → Contains m.imports i → S i.module

-- The two lists of modules have the same protocols in the modules of these names. Each import of such a module in the
-- first has such a name.
pub record AgreeOn (S : List (List ℕ) → Type 0) (before after : List ModuleTree) : Type 0 where
  pub protocols : (n : List (List ℕ)) (p : List ℕ) → S n → find_protocol before n p ≡ find_protocol after n p
  pub closed : IsImportClosed S before

-- the name is this one, or that of a module that one of such a name imports
pub data IsReachedByImports (modules : List ModuleTree) (home : List (List ℕ)) : List (List ℕ) → Type 0 where
  itself : IsReachedByImports modules home home
  by_import : (m : ModuleTree) (i : Import) → Contains modules m → IsReachedByImports modules home m.name → Contains m.imports i
      → IsReachedByImports modules home i.module

-- the modules without the first one of this name
abbrev pub without_module : List (List ℕ) → List ModuleTree → List ModuleTree
without_module n [] = []
without_module n (m ∷ ms) = if dotted_eq n m.name then ms else m ∷ without_module n ms

-- ---- names and lists

module _ {X : Type 0} where
  Contains-nil : (x : X) → Contains [] x → ⊥
  Contains-nil x h = All-contains (λ (y : X). ⊥) [] x (All-nil (λ (y : X). ⊥)) h

  Contains-head : (x : X) (xs : List X) → Contains (x ∷ xs) x
  Contains-head x xs = Contains-append_left (x ∷ []) xs x (Contains-push [] x)

  Contains-tail : (x : X) (xs : List X) (y : X) → Contains xs y → Contains (x ∷ xs) y
  Contains-tail x xs y h = Contains-append_right (x ∷ []) xs y h

  Contains-cases : (x : X) (xs : List X) (y : X) → Contains (x ∷ xs) y → (x ≡ y) ⊎ Contains xs y
  Contains-cases x xs y h =
      elim (Contains-append_cases (x ∷ []) xs y h) [
        | inl p ↦ elim (Contains-push_cases [] x y p) [ inl q ↦ absurd (Contains-nil y q) | inr e ↦ inl e ]
        | inr p ↦ inr p
      ]

-- ---- the protocol of a name

-- it is in a module of the list, which has that name
is_found : (home : List (List ℕ)) (name : List ℕ) (ms : List ModuleTree) (d : Declaration)
    → find_protocol ms home name ≡ Some d → Contains ms d.home × (home ≡ d.home.name)
is_found home name [] d e = cc
is_found home name (m ∷ ms) d e = here (is_found home name ms d) m.protocols e
  where
    here : (find_protocol ms home name ≡ Some d → Contains ms d.home × (home ≡ d.home.name))
        → (ps : List ProtocolDeclaration) → first_where (is_called home name) (declared_in m ps ++ declarations ms)
        ≡ Some d → Contains (m ∷ ms) d.home × (home ≡ d.home.name)
    here later [] f = let r = later f in (Contains-tail m ms d.home r.0, r.1)
    here later (p ∷ ps) f =
        let x : Declaration = record { home = m; protocol = p } in
        elim (cases_Bool (is_called home name x)) [
          | inl t ↦ (
              let is : Some x ≡ Some d = rw t at f in
              let same : x ≡ d = cc in
              let named : home ≡ m.name =
              (dotted_eq-Decides home m.name).0 (and_parts (bytes_eq name p.name) (dotted_eq home m.name) t).1 in
              let P : Declaration → Type 0 = λ y. Contains (m ∷ ms) y.home × (home ≡ y.home.name) in
              subst P same (Contains-head m ms, named))
          | inr t ↦ here later ps (rw t at f)
        ]

and_false : (b : Bool) → (b && false) ≡ false
and_false true = refl
and_false false = refl

-- it is not of a module of another name
skip_module : (home : List (List ℕ)) (name : List ℕ) (m : ModuleTree) (ps : List ProtocolDeclaration)
    (rest : List Declaration) → dotted_eq home m.name ≡ false
    → first_where (is_called home name) (declared_in m ps ++ rest) ≡ first_where (is_called home name) rest
skip_module home name m [] rest e = refl
skip_module home name m (p ∷ ps) rest e =
    let d : Declaration = record { home = m; protocol = p } in
    let no : is_called home name d ≡ false = rw e (and_false (bytes_eq name p.name)) in
    rw no (skip_module home name m ps rest e)

-- a module that does not exist has none
found_nowhere : (ms : List ModuleTree) (home : List (List ℕ)) (name : List ℕ) → has_name home (module_names ms) ≡ false
    → find_protocol ms home name ≡ None
found_nowhere [] home name h = refl
found_nowhere (m ∷ ms) home name h =
    let parts = or_parts (dotted_eq home m.name) (has_name home (module_names ms)) h in
    skip_module home name m m.protocols (declarations ms) parts.0 ∙ found_nowhere ms home name parts.1

-- ---- the protocol that a call names

-- it is the one of its name in the module in which the call looks it up
called_is : (ms : List ModuleTree) (m : ModuleTree) (path : List (List ℕ))
    → called ms m path ≡ option_and_then (λ n. find_protocol ms n (last_name path)) (looked_in m (all_but_last path))
called_is ms m path = of (looked_in m (all_but_last path))
  where
    there : (n : List (List ℕ)) (b : Bool) → has_name n (module_names ms) ≡ b
        → option_and_then (λ k. find_protocol ms k (last_name path)) (if b then Some n else None)
        ≡ find_protocol ms n (last_name path)
    there n true h = refl
    there n false h = sym (found_nowhere ms n (last_name path) h)

    of : (o : Option (List (List ℕ))) → option_and_then (λ k. find_protocol ms k (last_name path))
        (option_and_then (λ k. if has_name k (module_names ms) then Some k else None) o)
        ≡ option_and_then (λ k. find_protocol ms k (last_name path)) o
    of None = refl
    of (Some n) = there n (has_name n (module_names ms)) refl

-- what is imported by a name is an import's module
is_import : (is : List Import) (n k : List (List ℕ)) → imported is n ≡ Some k → (i : Import) × Contains is i
    × (i.module ≡ k)
is_import [] n k e = cc
is_import (i ∷ is) n k e =
    elim (cases_Bool (dotted_eq n (known_by i))) [
      | inl t ↦ (let is_this : Some i.module ≡ Some k = rw t at e in (i, Contains-head i is, cc))
      | inr t ↦ (let r = is_import is n k (rw t at e) in (r.0, Contains-tail i is r.0 r.1, r.2))
    ]

module _ (S : List (List ℕ) → Type 0) (before after : List ModuleTree) (agree : AgreeOn S before after) where
  -- the declaration is in a module of the first list that has such a name
  abbrev IsOf : Declaration → Type 0
  IsOf d = Contains before d.home × S d.home.name

  -- so does each block's
  abbrev AreOf : Frames → Type 0
  AreOf NoFrame = Unit {0}
  AreOf (Under sc b fs) = IsOf sc.within × AreOf fs

  found_of : (n : List (List ℕ)) (p : List ℕ) (d : Declaration) → S n → find_protocol before n p ≡ Some d → IsOf d
  found_of n p d s e = let f = is_found n p before d e in (f.0, subst S f.1 s)

  looked_in_of : (m : ModuleTree) (front n : List (List ℕ)) → Contains before m → S m.name → looked_in m front ≡ Some n
      → S n
  looked_in_of m [] n c s e = let same : m.name ≡ n = cc in subst S same s
  looked_in_of m (a ∷ ns) n c s e = let i = is_import m.imports (a ∷ ns) n e in subst S i.2 (agree.closed m i.0 c s i.1)

  called_alike : (m : ModuleTree) (path : List (List ℕ)) (d : Declaration) → Contains before m × S m.name
      → called before m path ≡ Some d → IsOf d × (called after m path ≡ Some d)
  called_alike m path d k e = of (looked_in m (all_but_last path)) refl (sym (called_is before m path) ∙ e)
    where
      of : (o : Option (List (List ℕ))) → looked_in m (all_but_last path) ≡ o
          → option_and_then (λ n. find_protocol before n (last_name path)) o ≡ Some d → IsOf d
          × (called after m path ≡ Some d)
      of None l f = cc
      of (Some n) l f =
          let s : S n = looked_in_of m (all_but_last path) n k.0 k.1 l in
          let there : called after m path ≡ find_protocol after n (last_name path) =
          called_is after m path ∙ ap (option_and_then (λ n. find_protocol after n (last_name path))) l in
          (found_of n (last_name path) d s f, there ∙ sym (agree.protocols n (last_name path) s) ∙ f)

  mutual
    rules_alike : {d : Declaration} {e : Bool} → KeepsRules before d e → IsOf d → KeepsRules after d e
    rules_alike (protocol_keeps n b) k = protocol_keeps n (block_alike b k)

    block_alike : {d : Declaration} {recs : List (List ℕ)} {e f : Bool} {b : Body} → BlockKeeps before d recs e b f
        → IsOf d → BlockKeeps after d recs e b f
    block_alike end_keeps k = end_keeps
    block_alike (then_keeps s b) k = then_keeps (step_alike s k) (block_alike b k)

    step_alike : {d : Declaration} {recs : List (List ℕ)} {s : Statement} {e : Bool} → StatementKeeps before d recs s e
        → IsOf d → StatementKeeps after d recs s e
    step_alike (sends_keeps r o) k = sends_keeps r o
    step_alike (chooses_keeps p bs) k = chooses_keeps p (blocks_alike bs k)
    step_alike (repeats_keeps b) k = repeats_keeps (block_alike b k)
    step_alike (continues_keeps x) k = continues_keeps x
    step_alike (calls_keeps {d = d} {path = path} {c = c} i r) k =
        let to = called_alike d.home path c k i.there in
        calls_keeps (record { declared = i.declared; different = i.different; there = to.1; count = i.count })
        (rules_alike r to.0)

    blocks_alike : {d : Declaration} {recs : List (List ℕ)} {bs : Blocks} {e : Bool} → BlocksKeep before d recs bs e
        → IsOf d → BlocksKeep after d recs bs e
    blocks_alike none_keeps k = none_keeps
    blocks_alike (or_keeps b bs i) k = or_keeps (block_alike b k) (blocks_alike bs k) i

  mutual
    types_alike : {n : ℕ} {fs : Frames} {g : GlobalTree} → Types before n fs g → AreOf fs → Types after n fs g
    types_alike ends k = ends
    types_alike (closes t) k = closes (types_alike t k.1)
    types_alike (sends t f) k = sends (types_alike t k) f
    types_alike (chooses j some d f) k = chooses (joins_alike j k.0 k) some d f
    types_alike (repeats i t l f) k = repeats i (types_alike t (k.0, k)) l f
    types_alike (passes i t) k = passes i (types_alike t (k.0, k))
    types_alike (continues l m f) k = continues l m f
    types_alike (calls {sc = sc} {path = path} {c = c} i t) k =
        let to = called_alike sc.within.home path c k.0 i in
        calls to.1 (types_alike t (to.0, k))

    joins_alike : {n : ℕ} {sc : Scope} {bs : Blocks} {fs : Frames} {p q : List ℕ} {cs : GlobalBranches}
        → JoinsTo before n sc bs fs p q cs → IsOf sc.within → AreOf fs → JoinsTo after n sc bs fs p q cs
    joins_alike joins_none h k = joins_none
    joins_alike (joins t f j g) h k = joins (types_alike t (h, k)) f (joins_alike j h k) g

-- A protocol means the same in modules that agree with these on names among which its module's is.
pub elaborates_alike : (S : List (List ℕ) → Type 0) (before after : List ModuleTree) (home : List (List ℕ))
    (name : List ℕ) (a : Agreement)
    → AgreeOn S before after → S home → Elaborates before home name a → Elaborates after home name a
elaborates_alike S before after home name a agree s e =
    let of = found_of S before after agree home name e.declaration s e.there in
    record {
      declaration = e.declaration;
      there = sym (agree.protocols home name s) ∙ e.there;
      exits = e.exits;
      kept = rules_alike S before after agree e.kept of;
      typed = types_alike S before after agree e.typed (of, tt);
      small = e.small;
      short = e.short;
      roles = e.roles;
    }

-- the names that are reached are closed under imports
reached_closed : (modules : List ModuleTree) (home : List (List ℕ)) → IsImportClosed (IsReachedByImports modules home) modules
reached_closed modules home m i c r d = by_import m i c r d

-- So the meaning depends only on the protocols of the modules that its own reaches, which is one of them.
pub elaborates_by_reached : (before after : List ModuleTree) (home : List (List ℕ)) (name : List ℕ) (a : Agreement)
    → ((n : List (List ℕ)) (p : List ℕ) → IsReachedByImports before home n → find_protocol before n p ≡ find_protocol after n p)
    → Elaborates before home name a → Elaborates after home name a
elaborates_by_reached before after home name a same e =
    elaborates_alike (IsReachedByImports before home) before after home name a
    (record { protocols = same; closed = reached_closed before home }) itself e

-- ---- an edit of another module

more_where : {X : Type 0} (test : X → Bool) (xs ys zs : List X) → first_where test ys ≡ first_where test zs
    → first_where test (xs ++ ys) ≡ first_where test (xs ++ zs)
more_where test [] ys zs h = h
more_where test (x ∷ xs) ys zs h = ap (λ r. if test x then Some x else r) (more_where test xs ys zs h)

different : (S : List (List ℕ) → Type 0) (n e : List (List ℕ)) → S n → (S e → ⊥) → dotted_eq n e ≡ false
different S n e s out = false_from_ne_true (dotted_eq n e) (λ t. out (subst S ((dotted_eq-Decides n e).0 t) s))

found_beside_put : (m : ModuleTree) (ms : List ModuleTree) (n : List (List ℕ)) (p : List ℕ) → dotted_eq n m.name ≡ false
    → find_protocol ms n p ≡ find_protocol (with_module m ms) n p
found_beside_put m [] n p h = sym (skip_module n p m m.protocols [] h)
found_beside_put m (x ∷ xs) n p h =
    elim (cases_Bool (dotted_eq m.name x.name)) [
      | inl t ↦ (
          let same : m.name ≡ x.name = (dotted_eq-Decides m.name x.name).0 t in
          let other : dotted_eq n x.name ≡ false = ap (dotted_eq n) (sym same) ∙ h in
          rw t (skip_module n p x x.protocols (declarations xs) other
          ∙ sym (skip_module n p m m.protocols (declarations xs) h)))
      | inr t ↦ rw t (more_where (is_called n p) (declared_in x x.protocols) (declarations xs)
          (declarations (with_module m xs)) (found_beside_put m xs n p h))
    ]

found_beside_removal : (e : List (List ℕ)) (ms : List ModuleTree) (n : List (List ℕ)) (p : List ℕ)
    → dotted_eq n e ≡ false → find_protocol ms n p ≡ find_protocol (without_module e ms) n p
found_beside_removal e [] n p h = refl
found_beside_removal e (x ∷ xs) n p h =
    elim (cases_Bool (dotted_eq e x.name)) [
      | inl t ↦ (
          let same : e ≡ x.name = (dotted_eq-Decides e x.name).0 t in
          let other : dotted_eq n x.name ≡ false = ap (dotted_eq n) (sym same) ∙ h in
          rw t (skip_module n p x x.protocols (declarations xs) other))
      | inr t ↦ rw t (more_where (is_called n p) (declared_in x x.protocols) (declarations xs)
          (declarations (without_module e xs)) (found_beside_removal e xs n p h))
    ]

put_cases : (m : ModuleTree) (ms : List ModuleTree) (x : ModuleTree) → Contains (with_module m ms) x → (m ≡ x)
    ⊎ Contains ms x
put_cases m [] x c = Contains-cases m [] x c
put_cases m (y ∷ ys) x c =
    elim (cases_Bool (dotted_eq m.name y.name)) [
      | inl t ↦ elim (Contains-cases m ys x (rw t at c)) [ inl e ↦ inl e | inr d ↦ inr (Contains-tail y ys x d) ]
      | inr t ↦ elim (Contains-cases y (with_module m ys) x (rw t at c)) [
        | inl e ↦ inr (subst (Contains (y ∷ ys)) e (Contains-head y ys))
        | inr d ↦ elim (put_cases m ys x d) [ inl e ↦ inl e | inr r ↦ inr (Contains-tail y ys x r) ]
      ]
    ]

removal_back : (e : List (List ℕ)) (ms : List ModuleTree) (x : ModuleTree) → Contains (without_module e ms) x
    → Contains ms x
removal_back e [] x c = c
removal_back e (y ∷ ys) x c =
    elim (cases_Bool (dotted_eq e y.name)) [
      | inl t ↦ Contains-tail y ys x (rw t at c)
      | inr t ↦ elim (Contains-cases y (without_module e ys) x (rw t at c)) [
        | inl same ↦ subst (Contains (y ∷ ys)) same (Contains-head y ys)
        | inr d ↦ Contains-tail y ys x (removal_back e ys x d)
      ]
    ]

-- Modules before and after a put agree on names that are closed under imports and without the module's name.
pub put_agrees : (S : List (List ℕ) → Type 0) (m : ModuleTree) (modules : List ModuleTree) → IsImportClosed S modules
    → (S m.name → ⊥)
    → AgreeOn S modules (with_module m modules) × AgreeOn S (with_module m modules) modules
put_agrees S m modules closed out =
    let same = λ (n : List (List ℕ)) (p : List ℕ) (s : S n).
    found_beside_put m modules n p (different S n m.name s out) in
    let forth : AgreeOn S modules (with_module m modules) = record { protocols = same; closed = closed } in
    let back : AgreeOn S (with_module m modules) modules =
    record { protocols = λ n p s. sym (same n p s); closed = still } in
    (forth, back)
  where
    still : IsImportClosed S (with_module m modules)
    still x i c s d =
        elim (put_cases m modules x c) [
          | inl e ↦ absurd (out (subst (λ (y : ModuleTree). S y.name) (sym e) s))
          | inr there ↦ closed x i there s d
        ]

-- So do modules before and after a removal.
pub removal_agrees : (S : List (List ℕ) → Type 0) (e : List (List ℕ)) (modules : List ModuleTree) → IsImportClosed S modules
    → (S e → ⊥)
    → AgreeOn S modules (without_module e modules) × AgreeOn S (without_module e modules) modules
removal_agrees S e modules closed out =
    let same = λ (n : List (List ℕ)) (p : List ℕ) (s : S n).
    found_beside_removal e modules n p (different S n e s out) in
    let still : IsImportClosed S (without_module e modules) = λ x i c s d. closed x i (removal_back e modules x c) s d in
    let forth : AgreeOn S modules (without_module e modules) = record { protocols = same; closed = closed } in
    let back : AgreeOn S (without_module e modules) modules =
    record { protocols = λ n p s. sym (same n p s); closed = still } in
    (forth, back)

-- A put of a module changes no meaning of a protocol whose module does not reach it.
pub put_beside : (m : ModuleTree) (modules : List ModuleTree) (home : List (List ℕ)) (name : List ℕ) (a : Agreement)
    → (IsReachedByImports modules home m.name → ⊥)
    → Elaborates modules home name a ↔ Elaborates (with_module m modules) home name a
put_beside m modules home name a out =
    let S = IsReachedByImports modules home in
    let agree = put_agrees S m modules (reached_closed modules home) out in (
      elaborates_alike S modules (with_module m modules) home name a agree.0 itself,
      elaborates_alike S (with_module m modules) modules home name a agree.1 itself,
    )

-- Nor does a removal.
pub removal_beside : (e : List (List ℕ)) (modules : List ModuleTree) (home : List (List ℕ)) (name : List ℕ)
    (a : Agreement)
    → (IsReachedByImports modules home e → ⊥)
    → Elaborates modules home name a ↔ Elaborates (without_module e modules) home name a
removal_beside e modules home name a out =
    let S = IsReachedByImports modules home in
    let agree = removal_agrees S e modules (reached_closed modules home) out in (
      elaborates_alike S modules (without_module e modules) home name a agree.0 itself,
      elaborates_alike S (without_module e modules) modules home name a agree.1 itself,
    )
