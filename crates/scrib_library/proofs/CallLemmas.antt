-- What a protocol means depends on no other protocols than those that it reaches by calls.
use Rattle.std.proofs.Common.{◌≡◌, ◌≢◌, ℕ, ◌-◌, ◌+◌, ◌<◌, ◌≤◌, Bool, true, false, ◌&&◌, List, [], ◌∷◌, ◌++◌, length, get_or, take, Option, Some, None, ◌⊎◌, inl, inr, refl, sym, ap, ◌∙◌, subst, arith}
use Rattle.std.specs.Prelude.{option_and_then, if◌then◌else◌}
use Rattle.std.specs.List.{Contains}
use Rattle.std.specs.Str.{bytes_eq}
use Rattle.std.proofs.lemmas.Bool.{cases_Bool, and_parts, false_from_ne_true}
use Rattle.std.proofs.lemmas.List.{take_more, take_all}
use Rattle.std.proofs.lemmas.Slice.Eq.{bytes_eq-Decides}
use Rattle.scrib_types.specs.Agreement.{Agreement}
use Rattle.scrib_types.specs.Trees.{GlobalTree, GlobalBranches}
use Rattle.scrib_tree.specs.declared.tree.ModuleTree.{ModuleTree}
use Rattle.scrib_tree.specs.declared.tree.Import.{Import}
use Rattle.scrib_tree.specs.declared.tree.ProtocolDeclaration.{ProtocolDeclaration}
use Rattle.scrib_tree.specs.declared.tree.Statement.{Statement as ParsedStatement}
use Rattle.scrib_tree.specs.declared.tree.Block.{Block}
use Rattle.scrib_static_checks.specs.Source.{Body, Done, Then, Statement, Sends, Chooses, Repeats, Continues, Calls, Blocks, NoBlock, OrBlock}
use Rattle.scrib_static_checks.specs.SourceView.{body_of, blocks_of, statement_of}
use Rattle.scrib_static_checks.specs.Names.{Declaration, dotted_eq, has_name, first_where, known_by, module_names, with_module, declared_in, declarations, is_called, find_protocol, all_but_last, last_name, imported, looked_in, called}
use Rattle.scrib_static_checks.specs.Statements.{KeepsRules, protocol_keeps, BlockKeeps, end_keeps, then_keeps, StatementKeeps, sends_keeps, chooses_keeps, repeats_keeps, continues_keeps, calls_keeps, BlocksKeep, none_keeps, or_keeps}
use Rattle.scrib_static_checks.specs.Elaboration.{Frames, NoFrame, Under, Types, ends, closes, sends, chooses, repeats, passes, continues, calls, JoinsTo, joins_none, joins, Elaborates}
use Rattle.scrib_static_checks.proofs.NameLemmas.{dotted_eq-Decides, found_nowhere}
use Rattle.scrib_library.specs.Affected.{ImportsSome}
use Rattle.scrib_library.specs.Calls.{EachCall, EachCallAt, EachCallOf, IsOther}
use Rattle.scrib_library.proofs.Lists.{Contains-head, Contains-head_at, Contains-tail}
use Rattle.scrib_library.proofs.Places.{first-there}

-- ---- calls in statements, one after another

module _ (P : List (List ℕ) → Type 0) where
  each_push : (ss : List ParsedStatement) (s : ParsedStatement) → EachCall P (body_of ss) → EachCallAt P (statement_of s) → EachCall P (body_of (ss ++ s ∷ []))
  each_push [] s h k = (k, tt)
  each_push (t ∷ ss) s h k = (h.0, each_push ss s h.1 k)

  pub each_more : (ss : List ParsedStatement) (i : ℕ) (s : ParsedStatement) → i < length ss → s ≡ get_or ss i s → EachCall P (body_of (take i ss)) → EachCallAt P (statement_of s) → EachCall P (body_of (take (i + 1) ss))
  each_more ss i s lt at h k =
      let Q : List ParsedStatement → Type 0 = λ l. EachCall P (body_of l) in
      subst Q (sym (take_more ss i s lt ∙ ap (λ z. take i ss ++ z ∷ []) (sym at))) (each_push (take i ss) s h k)

  pub each_all : (ss : List ParsedStatement) (i : ℕ) → length ss ≤ i → EachCall P (body_of (take i ss)) → EachCall P (body_of ss)
  each_all ss i le h = let Q : List ParsedStatement → Type 0 = λ l. EachCall P (body_of l) in subst Q (take_all i ss le) h

  each_of_push : (bs : List Block) (b : Block) → EachCallOf P (blocks_of bs) → EachCall P (body_of b.body) → EachCallOf P (blocks_of (bs ++ b ∷ []))
  each_of_push [] b h k = (k, tt)
  each_of_push (c ∷ bs) b h k = (h.0, each_of_push bs b h.1 k)

  pub each_of_more : (bs : List Block) (i : ℕ) (b : Block) → i < length bs → b ≡ get_or bs i b → EachCallOf P (blocks_of (take i bs)) → EachCall P (body_of b.body) → EachCallOf P (blocks_of (take (i + 1) bs))
  each_of_more bs i b lt at h k =
      let Q : List Block → Type 0 = λ l. EachCallOf P (blocks_of l) in
      subst Q (sym (take_more bs i b lt ∙ ap (λ z. take i bs ++ z ∷ []) (sym at))) (each_of_push (take i bs) b h k)

  pub each_of_all : (bs : List Block) (i : ℕ) → length bs ≤ i → EachCallOf P (blocks_of (take i bs)) → EachCallOf P (blocks_of bs)
  each_of_all bs i le h = let Q : List Block → Type 0 = λ l. EachCallOf P (blocks_of l) in subst Q (take_all i bs le) h

  -- a property of all paths holds for the path of each call
  mutual
    pub each_any : ((path : List (List ℕ)) → P path) → (b : Body) → EachCall P b
    each_any h Done = tt
    each_any h (Then s b) = (each_at_any h s, each_any h b)

    each_at_any : ((path : List (List ℕ)) → P path) → (s : Statement) → EachCallAt P s
    each_at_any h (Sends m p qs s) = tt
    each_at_any h (Chooses p bs s) = each_of_any h bs
    each_at_any h (Repeats x b s) = each_any h b
    each_at_any h (Continues x s) = tt
    each_at_any h (Calls path qs s) = h path

    each_of_any : ((path : List (List ℕ)) → P path) → (bs : Blocks) → EachCallOf P bs
    each_of_any h NoBlock = tt
    each_of_any h (OrBlock b s bs) = (each_any h b, each_of_any h bs)

module _ (P Q : List (List ℕ) → Type 0) (more : (path : List (List ℕ)) → P path → Q path) where
  mutual
    pub each_weaker : (b : Body) → EachCall P b → EachCall Q b
    each_weaker Done h = tt
    each_weaker (Then s b) h = (each_at_weaker s h.0, each_weaker b h.1)

    each_at_weaker : (s : Statement) → EachCallAt P s → EachCallAt Q s
    each_at_weaker (Sends m p qs s) h = tt
    each_at_weaker (Chooses p bs s) h = each_of_weaker bs h
    each_at_weaker (Repeats x b s) h = each_weaker b h
    each_at_weaker (Continues x s) h = tt
    each_at_weaker (Calls path qs s) h = more path h

    each_of_weaker : (bs : Blocks) → EachCallOf P bs → EachCallOf Q bs
    each_of_weaker NoBlock h = tt
    each_of_weaker (OrBlock b s bs) h = (each_weaker b h.0, each_of_weaker bs h.1)

-- a property of each call, for each of several values, holds for all the values at once
module _ {X : Type 0} (IsOne : X → Type 0) (P : X → List (List ℕ) → Type 0) where
  abbrev pub ForAll : List (List ℕ) → Type 0
  ForAll path = (x : X) → IsOne x → P x path

  mutual
    pub each_for_all : (b : Body) → ((x : X) → IsOne x → EachCall (P x) b) → EachCall ForAll b
    each_for_all Done h = tt
    each_for_all (Then s b) h = (each_at_for_all s (λ x q. (h x q).0), each_for_all b (λ x q. (h x q).1))

    each_at_for_all : (s : Statement) → ((x : X) → IsOne x → EachCallAt (P x) s) → EachCallAt ForAll s
    each_at_for_all (Sends m p qs s) h = tt
    each_at_for_all (Chooses p bs s) h = each_of_for_all bs h
    each_at_for_all (Repeats x b s) h = each_for_all b h
    each_at_for_all (Continues x s) h = tt
    each_at_for_all (Calls path qs s) h = h

    each_of_for_all : (bs : Blocks) → ((x : X) → IsOne x → EachCallOf (P x) bs) → EachCallOf ForAll bs
    each_of_for_all NoBlock h = tt
    each_of_for_all (OrBlock b s bs) h = (each_for_all b (λ x q. (h x q).0), each_of_for_all bs (λ x q. (h x q).1))

-- ---- a path is its front and its last name

front-of : (a : List ℕ) (path : List (List ℕ)) → take (length path) (a ∷ path) ≡ all_but_last (a ∷ path)
front-of a [] = refl
front-of a (b ∷ path) = ap (λ p. a ∷ p) (front-of b path)

last-of : (a : List ℕ) (path : List (List ℕ)) (d : List ℕ) → get_or (a ∷ path) (length path) d ≡ last_name (a ∷ path)
last-of a [] d = refl
last-of a (b ∷ path) d = last-of b path d

pub front-is : (path : List (List ℕ)) (n : ℕ) → 0 < length path → n ≡ length path - 1 → take n path ≡ all_but_last path
front-is [] n h e = absurd (omega arith)
front-is (a ∷ path) n h e = let m : n ≡ length path = omega arith in ap (λ k. take k (a ∷ path)) m ∙ front-of a path

pub last-is : (path : List (List ℕ)) (n : ℕ) (d : List ℕ) → 0 < length path → n ≡ length path - 1 → get_or path n d ≡ last_name path
last-is [] n d h e = absurd (omega arith)
last-is (a ∷ path) n d h e = let m : n ≡ length path = omega arith in ap (λ k. get_or (a ∷ path) k d) m ∙ last-of a path d

pub last_at : (path names : List (List ℕ)) (x : List ℕ) → names ≡ path → 0 < length path → x ≡ get_or names (length names - 1) x → x ≡ last_name path
last_at path names x same some e =
    e ∙ last-is names (length names - 1) x (subst (λ (y : List (List ℕ)). 0 < length y) (sym same) some) refl ∙ ap last_name same

pub looked_at : (m : ModuleTree) (path names : List (List ℕ)) (h : Option (List (List ℕ))) → names ≡ path → 0 < length path → h ≡ looked_in m (take (length names - 1) names) → h ≡ looked_in m (all_but_last path)
looked_at m path names h same some e =
    let front = front-is names (length names - 1) (subst (λ (x : List (List ℕ)). 0 < length x) (sym same) some) refl in
    e ∙ ap (looked_in m) (front ∙ ap all_but_last same)

-- ---- the protocol that a call names

-- the called protocol is the one of its name in the module that the call refers to
called_is : (ms : List ModuleTree) (m : ModuleTree) (path : List (List ℕ)) → called ms m path ≡ option_and_then (λ n. find_protocol ms n (last_name path)) (looked_in m (all_but_last path))
called_is ms m path = of (looked_in m (all_but_last path))
  where
    there : (n : List (List ℕ)) (b : Bool) → has_name n (module_names ms) ≡ b → option_and_then (λ k. find_protocol ms k (last_name path)) (if b then Some n else None) ≡ find_protocol ms n (last_name path)
    there n true h = refl
    there n false h = sym (found_nowhere ms n (last_name path) h)

    of : (o : Option (List (List ℕ))) → option_and_then (λ k. find_protocol ms k (last_name path)) (option_and_then (λ k. if has_name k (module_names ms) then Some k else None) o) ≡ option_and_then (λ k. find_protocol ms k (last_name path)) o
    of None = refl
    of (Some n) = there n (has_name n (module_names ms)) refl

-- so a call refers to some module, and its protocol is declared there
pub called_from : (ms : List ModuleTree) (m : ModuleTree) (path : List (List ℕ)) (c : Declaration) → called ms m path ≡ Some c
    → (n : List (List ℕ)) × (looked_in m (all_but_last path) ≡ Some n) × (find_protocol ms n (last_name path) ≡ Some c)
called_from ms m path c e = of (looked_in m (all_but_last path)) refl (sym (called_is ms m path) ∙ e)
  where
    of : (o : Option (List (List ℕ))) → looked_in m (all_but_last path) ≡ o → option_and_then (λ k. find_protocol ms k (last_name path)) o ≡ Some c → (n : List (List ℕ)) × (looked_in m (all_but_last path) ≡ Some n) × (find_protocol ms n (last_name path) ≡ Some c)
    of None l f = cc
    of (Some n) l f = (n, l, f)

pub called_at : (ms : List ModuleTree) (m : ModuleTree) (path n : List (List ℕ)) (c : Declaration) → looked_in m (all_but_last path) ≡ Some n → find_protocol ms n (last_name path) ≡ Some c → called ms m path ≡ Some c
called_at ms m path n c l f = called_is ms m path ∙ ap (option_and_then (λ k. find_protocol ms k (last_name path))) l ∙ f

-- the name of an import leads to its module
is_import : (is : List Import) (n k : List (List ℕ)) → imported is n ≡ Some k → (i : Import) × Contains is i × (i.module ≡ k)
is_import [] n k e = cc
is_import (i ∷ is) n k e =
    elim (cases_Bool (dotted_eq n (known_by i))) [
      | inl t ↦ (let is_this : Some i.module ≡ Some k = rw t at e in (i, Contains-head i is, cc))
      | inr t ↦ (let r = is_import is n k (rw t at e) in (r.0, Contains-tail i is r.0 r.1, r.2))
    ]

-- a call refers to its own module or to an imported one
pub looked_cases : (m : ModuleTree) (front n : List (List ℕ)) → looked_in m front ≡ Some n → (m.name ≡ n) ⊎ ((i : Import) × Contains m.imports i × (i.module ≡ n))
looked_cases m [] n e = inl cc
looked_cases m (a ∷ ns) n e = inr (is_import m.imports (a ∷ ns) n e)

-- so no call refers to a module that is neither its own nor imported
pub other_module : (m : ModuleTree) (home : List (List ℕ)) → (home ≡ m.name → ⊥) → (ImportsSome (home ∷ []) m → ⊥) → (name : List ℕ) (path : List (List ℕ)) → IsOther m home name path
other_module m home own imported name path = λ l e.
    elim (looked_cases m (all_but_last path) home l) [
      | inl q ↦ own (sym q)
      | inr i ↦ imported (record { by = i.0; imports = i.1; named = Contains-head_at home [] i.0.module (sym i.2) })
    ]

-- a protocol that is found is declared under its names
pub found_declared : (ms : List ModuleTree) (home : List (List ℕ)) (name : List ℕ) (d : Declaration) → find_protocol ms home name ≡ Some d → Contains (declarations ms) d × (home ≡ d.home.name) × (name ≡ d.protocol.name)
found_declared ms home name d e =
    let f = first-there (is_called home name) (declarations ms) d e in
    let parts = and_parts (bytes_eq name d.protocol.name) (dotted_eq home d.home.name) f.1 in
    (f.0, (dotted_eq-Decides home d.home.name).0 parts.1, (bytes_eq-Decides name d.protocol.name).0 parts.0)

-- ---- a put of another module

and_false : (b : Bool) → (b && false) ≡ false
and_false true = refl
and_false false = refl

skip_module : (home : List (List ℕ)) (name : List ℕ) (m : ModuleTree) (ps : List ProtocolDeclaration) (rest : List Declaration) → dotted_eq home m.name ≡ false
    → first_where (is_called home name) (declared_in m ps ++ rest) ≡ first_where (is_called home name) rest
skip_module home name m [] rest e = refl
skip_module home name m (p ∷ ps) rest e =
    let d : Declaration = record { home = m; protocol = p } in
    let no : is_called home name d ≡ false = rw e (and_false (bytes_eq name p.name)) in
    rw no (skip_module home name m ps rest e)

more_where : {X : Type 0} (test : X → Bool) (xs ys zs : List X) → first_where test ys ≡ first_where test zs → first_where test (xs ++ ys) ≡ first_where test (xs ++ zs)
more_where test [] ys zs h = h
more_where test (x ∷ xs) ys zs h = ap (λ r. if test x then Some x else r) (more_where test xs ys zs h)

found_beside : (m : ModuleTree) (ms : List ModuleTree) (n : List (List ℕ)) (p : List ℕ) → dotted_eq n m.name ≡ false → find_protocol ms n p ≡ find_protocol (with_module m ms) n p
found_beside m [] n p h = sym (skip_module n p m m.protocols [] h)
found_beside m (x ∷ xs) n p h =
    elim (cases_Bool (dotted_eq m.name x.name)) [
      | inl t ↦ (
          let same : m.name ≡ x.name = (dotted_eq-Decides m.name x.name).0 t in
          let other : dotted_eq n x.name ≡ false = ap (dotted_eq n) (sym same) ∙ h in
          rw t (skip_module n p x x.protocols (declarations xs) other ∙ sym (skip_module n p m m.protocols (declarations xs) h)))
      | inr t ↦ rw t (more_where (is_called n p) (declared_in x x.protocols) (declarations xs) (declarations (with_module m xs)) (found_beside m xs n p h))
    ]

-- protocols of other modules are found as they were
pub found_alike : (m : ModuleTree) (ms : List ModuleTree) (n : List (List ℕ)) (p : List ℕ) → n ≢ m.name → find_protocol ms n p ≡ find_protocol (with_module m ms) n p
found_alike m ms n p other = found_beside m ms n p (false_from_ne_true (dotted_eq n m.name) (λ t. other ((dotted_eq-Decides n m.name).0 t)))

-- ---- protocols that are closed under calls

module _ (S : Declaration → Type 0) (P : Declaration → List (List ℕ) → Type 0) (before after : List ModuleTree)
    (body : (d : Declaration) → S d → EachCall (P d) (body_of d.protocol.body))
    (step : (d : Declaration) (path : List (List ℕ)) (c : Declaration) → S d → P d path → called before d.home path ≡ Some c → S c × (called after d.home path ≡ Some c)) where
  -- the statements of each block are those of such a protocol
  abbrev AreOf : Frames → Type 0
  AreOf NoFrame = Unit {0}
  AreOf (Under sc b fs) = S sc.within × EachCall (P sc.within) b × AreOf fs

  mutual
    rules_alike : {d : Declaration} {e : Bool} → KeepsRules before d e → S d → KeepsRules after d e
    rules_alike {d = d} (protocol_keeps n b) k = protocol_keeps n (block_alike b k (body d k))

    block_alike : {d : Declaration} {recs : List (List ℕ)} {e f : Bool} {b : Body} → BlockKeeps before d recs e b f → S d → EachCall (P d) b → BlockKeeps after d recs e b f
    block_alike end_keeps k q = end_keeps
    block_alike (then_keeps s b) k q = then_keeps (step_alike s k q.0) (block_alike b k q.1)

    step_alike : {d : Declaration} {recs : List (List ℕ)} {s : Statement} {e : Bool} → StatementKeeps before d recs s e → S d → EachCallAt (P d) s → StatementKeeps after d recs s e
    step_alike (sends_keeps r o) k q = sends_keeps r o
    step_alike (chooses_keeps p bs) k q = chooses_keeps p (blocks_alike bs k q)
    step_alike (repeats_keeps b) k q = repeats_keeps (block_alike b k q)
    step_alike (continues_keeps x) k q = continues_keeps x
    step_alike (calls_keeps {d = d} {path = path} {c = c} i r) k q =
        let to = step d path c k q i.there in
        calls_keeps (record { declared = i.declared; different = i.different; there = to.1; count = i.count }) (rules_alike r to.0)

    blocks_alike : {d : Declaration} {recs : List (List ℕ)} {bs : Blocks} {e : Bool} → BlocksKeep before d recs bs e → S d → EachCallOf (P d) bs → BlocksKeep after d recs bs e
    blocks_alike none_keeps k q = none_keeps
    blocks_alike (or_keeps b bs i) k q = or_keeps (block_alike b k q.0) (blocks_alike bs k q.1) i

  mutual
    types_alike : {n : ℕ} {fs : Frames} {g : GlobalTree} → Types before n fs g → AreOf fs → Types after n fs g
    types_alike ends k = ends
    types_alike (closes t) k = closes (types_alike t k.2)
    types_alike (sends t f) k = sends (types_alike t (k.0, k.1.1, k.2)) f
    types_alike (chooses j some d f) k = chooses (joins_alike j k.0 k.1.0 (k.0, k.1.1, k.2)) some d f
    types_alike (repeats i t l f) k = repeats i (types_alike t (k.0, k.1.0, (k.0, k.1.1, k.2))) l f
    types_alike (passes i t) k = passes i (types_alike t (k.0, k.1.0, (k.0, k.1.1, k.2)))
    types_alike (continues l m f) k = continues l m f
    types_alike (calls {sc = sc} {path = path} {c = c} i t) k =
        let to = step sc.within path c k.0 k.1.0 i in
        calls to.1 (types_alike t (to.0, body c to.0, (k.0, k.1.1, k.2)))

    joins_alike : {n : ℕ} {sc : _} {bs : Blocks} {fs : Frames} {p q : List ℕ} {cs : GlobalBranches} → JoinsTo before n sc bs fs p q cs → S sc.within → EachCallOf (P sc.within) bs → AreOf fs → JoinsTo after n sc bs fs p q cs
    joins_alike joins_none h q k = joins_none
    joins_alike (joins t f j g) h q k = joins (types_alike t (h, q.0, k)) f (joins_alike j h q.1 k) g

  -- so such a protocol has the same meaning in both module lists
  pub elaborates_alike : (home : List (List ℕ)) (name : List ℕ) (a : Agreement)
      → ((d : Declaration) → find_protocol before home name ≡ Some d → S d × (find_protocol after home name ≡ Some d)) → Elaborates before home name a → Elaborates after home name a
  elaborates_alike home name a root e =
      let r = root e.declaration e.there in
      record {
        declaration = e.declaration;
        there = r.1;
        exits = e.exits;
        kept = rules_alike e.kept r.0;
        typed = types_alike e.typed (r.0, body e.declaration r.0, tt);
        small = e.small;
        short = e.short;
        roles = e.roles;
      }
