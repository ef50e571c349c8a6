-- What a loop over declarations finds at an index.
use Rattle.std.proofs.Common.{◌≡◌, ℕ, ◌+◌, ◌-◌, ◌<◌, Bool, true, false, List, [], ◌∷◌, ◌++◌, length, map, set, get_or, take, drop, Option, Some, None, option_map, option_and_then, if◌then◌else◌, refl, ap, sym, ◌∙◌, subst, ⊎_elim, inr, arith, append_assoc, append-nil}
use Rattle.std.proofs.lemmas.Bool.{or_parts}
use Rattle.std.proofs.lemmas.List.{take-append-drop, drop_more, take_more, map_more, length-take}
use Rattle.std.proofs.lemmas.Option.{slice_get-map, slice_get-get_or}
use Rattle.std.proofs.Math.Seq.{set-append_seam}
use Rattle.scrib_types.specs.declared.spot.Spot.{Spot}
use Rattle.scrib_types.specs.WellFormed.{has_role, distinct_roles}
use Rattle.scrib_tree.specs.declared.tree.ModuleTree.{ModuleTree}
use Rattle.scrib_static_checks.specs.declared.declared.Declaration.{Declaration as CodeDeclaration}
use Rattle.scrib_static_checks.specs.Names.{Declaration, dotted_eq, has_name, distinct_names, module_names, with_module, first_where, declared_in, declarations, all_but_last, last_name, looked_in, called_home}
use Rattle.scrib_static_checks.specs.declared.checking.BrokenRule.{BrokenRule}
use Rattle.scrib_static_checks.specs.Faults.{IsAgain, Fails}
use Rattle.scrib_static_checks.proofs.NameLemmas.{distinct_roles-push, distinct_names-push}
use Rattle.scrib_static_checks.specs.Table.{declaration_of, shown, IsFound, IsPlace, FailsRoles, FailsNames}

pub split : {X : Type 0} (xs : List X) (i : ℕ) (x : X) → i < length xs → x ≡ get_or xs i x → xs ≡ take i xs ++ x ∷ drop (i + 1) xs
split xs i x h e =
    sym (take-append-drop i xs) ∙ ap (λ ys. take i xs ++ ys) (drop_more xs i x h ∙ ap (λ y. y ∷ drop (i + 1) xs) (sym e))

pub IsPlace-at : (ms : List ModuleTree) (name : List (List ℕ)) (i : ℕ) (m : ModuleTree) → i < length ms → m ≡ get_or ms i m → has_name name (module_names (take i ms)) ≡ false → dotted_eq name m.name ≡ true → IsPlace ms name i
IsPlace-at ms name i m h e none named = record {
  before = take i ms;
  here = m;
  after = drop (i + 1) ms;
  is = split ms i m h e;
  at = omega (arith, length-take {A = ModuleTree});
  named = named;
  first = none;
}

replaced : (m : ModuleTree) (before : List ModuleTree) (n : ModuleTree) (after : List ModuleTree) → has_name m.name (module_names before) ≡ false → dotted_eq m.name n.name ≡ true → with_module m (before ++ n ∷ after) ≡ before ++ m ∷ after
replaced m [] n after none same = rw same refl
replaced m (b ∷ before) n after none same =
    let parts = or_parts (dotted_eq m.name b.name) (has_name m.name (module_names before)) none in
    rw (parts.0, replaced m before n after parts.1 same) refl

pub with_module-at : (ms old : List ModuleTree) (m n : ModuleTree) (k : ℕ) → ms ≡ old → n ≡ m → IsPlace ms m.name k → set ms k n ≡ with_module m old
with_module-at ms old m n k same copied p =
    let there : set (p.before ++ p.here ∷ p.after) k n ≡ p.before ++ m ∷ p.after =
    (λ i. set (p.before ++ p.here ∷ p.after) (p.at i) (copied i)) ∙ set-append_seam p.before p.here p.after m in
    ap (λ xs. set xs k n) p.is ∙ there ∙ sym (replaced m p.before p.here p.after p.first p.named) ∙ ap (with_module m) (sym p.is ∙ same)

pub with_module-last : (m : ModuleTree) (ms : List ModuleTree) → has_name m.name (module_names ms) ≡ false → with_module m ms ≡ ms ++ m ∷ []
with_module-last m [] none = refl
with_module-last m (n ∷ ms) none =
    let parts = or_parts (dotted_eq m.name n.name) (has_name m.name (module_names ms)) none in
    rw (parts.0, with_module-last m ms parts.1) refl

pub declarations-push : (ms : List ModuleTree) (m : ModuleTree) → declarations (ms ++ m ∷ []) ≡ declarations ms ++ declared_in m m.protocols
declarations-push [] m = simp append-nil
declarations-push (n ∷ ms) m =
    ap (λ ds. declared_in n n.protocols ++ ds) (declarations-push ms m) ∙ sym (append_assoc (declared_in n n.protocols) (declarations ms) (declared_in m m.protocols))

pub declarations-more : (ms : List ModuleTree) (i : ℕ) (m : ModuleTree) → i < length ms → m ≡ get_or ms i m → declarations (take (i + 1) ms) ≡ declarations (take i ms) ++ declared_in m m.protocols
declarations-more ms i m h e =
    ap declarations (take_more ms i m h ∙ ap (λ x. take i ms ++ x ∷ []) (sym e)) ∙ declarations-push (take i ms) m

pub IsFound-at : (test : Declaration → Bool) (ds : List CodeDeclaration) (i : ℕ) (d : CodeDeclaration) → i < length ds → d ≡ get_or ds i d → first_where test (shown (drop i ds)) ≡ first_where test (shown ds)
    → test (declaration_of d) ≡ true → IsFound (shown ds) test i
IsFound-at test ds i d h e same passes =
    let first : first_where test (shown (drop i ds)) ≡ Some (declaration_of d) =
    ap (λ xs. first_where test (shown xs)) (drop_more ds i d h ∙ ap (λ x. x ∷ drop (i + 1) ds) (sym e)) ∙ ap (λ b. if b then Some (declaration_of d) else first_where test (shown (drop (i + 1) ds))) passes in
    record {
      found = declaration_of d;
      there = slice_get-map declaration_of ds i ∙ ap (option_map declaration_of) (slice_get-get_or ds i d h) ∙ ap (λ x. Some (declaration_of x)) (sym e);
      first = sym same ∙ first;
    }

-- a path is its front and its last name

pub front-of : (a : List ℕ) (path : List (List ℕ)) → take (length path) (a ∷ path) ≡ all_but_last (a ∷ path)
front-of a [] = refl
front-of a (b ∷ path) = ap (λ p. a ∷ p) (front-of b path)

pub last-of : (a : List ℕ) (path : List (List ℕ)) (d : List ℕ) → get_or (a ∷ path) (length path) d ≡ last_name (a ∷ path)
last-of a [] d = refl
last-of a (b ∷ path) d = last-of b path d

pub front-is : (path : List (List ℕ)) (n : ℕ) → 0 < length path → n ≡ length path - 1 → take n path ≡ all_but_last path
front-is [] n h e = absurd (omega arith)
front-is (a ∷ path) n h e = let m : n ≡ length path = omega arith in ap (λ k. take k (a ∷ path)) m ∙ front-of a path

pub last-is : (path : List (List ℕ)) (n : ℕ) (d : List ℕ) → 0 < length path → n ≡ length path - 1 → get_or path n d ≡ last_name path
last-is [] n d h e = absurd (omega arith)
last-is (a ∷ path) n d h e = let m : n ≡ length path = omega arith in ap (λ k. get_or (a ∷ path) k d) m ∙ last-of a path d

-- the module in which a call looks up its protocol

looked_in-front : (m : ModuleTree) (path names : List (List ℕ)) (h : Option (List (List ℕ))) → names ≡ path → 0 < length path → h ≡ looked_in m (take (length names - 1) names) → h ≡ looked_in m (all_but_last path)
looked_in-front m path names h same some e =
    let front = front-is names (length names - 1) (subst (λ (x : List (List ℕ)). 0 < length x) (sym same) some) refl in
    e ∙ ap (looked_in m) (front ∙ ap all_but_last same)

pub called_home-there : (ms : List ModuleTree) (m : ModuleTree) (path names : List (List ℕ)) (h : List (List ℕ)) → names ≡ path → 0 < length path → Some h ≡ looked_in m (take (length names - 1) names)
    → has_name h (module_names ms) ≡ true → Some h ≡ called_home ms m path
called_home-there ms m path names h same some e there =
    let at = looked_in-front m path names (Some h) same some e in
    sym (ap (λ b. if b then Some h else None) there) ∙ ap (option_and_then (λ n. if has_name n (module_names ms) then Some n else None)) at

pub called_home-away : (ms : List ModuleTree) (m : ModuleTree) (path names : List (List ℕ)) (h : List (List ℕ)) → names ≡ path → 0 < length path → Some h ≡ looked_in m (take (length names - 1) names)
    → has_name h (module_names ms) ≡ false → None ≡ called_home ms m path
called_home-away ms m path names h same some e away =
    let at = looked_in-front m path names (Some h) same some e in
    sym (ap (λ b. if b then Some h else None) away) ∙ ap (option_and_then (λ n. if has_name n (module_names ms) then Some n else None)) at

pub called_home-unknown : (ms : List ModuleTree) (m : ModuleTree) (path names : List (List ℕ)) → names ≡ path → 0 < length path → None ≡ looked_in m (take (length names - 1) names) → None ≡ called_home ms m path
called_home-unknown ms m path names same some e =
    ap (option_and_then (λ n. if has_name n (module_names ms) then Some n else None)) (looked_in-front m path names None same some e)

-- the name after the last dot
pub name_last : (path names : List (List ℕ)) (x : List ℕ) → names ≡ path → 0 < length path → x ≡ get_or names (length names - 1) x → x ≡ last_name path
name_last path names x same some e =
    e ∙ last-is names (length names - 1) x (subst (λ (y : List (List ℕ)). 0 < length y) (sym same) some) refl ∙ ap last_name same

-- declarations, none of which has the name of an earlier one; n is i as the range of a slice has it

pub roles-more : {X : Type 0} (f : X → List ℕ) (xs : List X) (i n : ℕ) (x : X) → n ≡ i → i < length xs → x ≡ get_or xs i x → distinct_roles (map f (take i xs)) ≡ true → has_role (f x) (map f (take n xs)) ≡ false → distinct_roles (map f (take (i + 1) xs)) ≡ true
roles-more f xs i n x same h e d other =
    let new : has_role (f x) (map f (take i xs)) ≡ false = ap (λ k. has_role (f x) (map f (take k xs))) (sym same) ∙ other in
    ap distinct_roles (map_more f xs i x h ∙ ap (λ y. map f (take i xs) ++ f y ∷ []) (sym e)) ∙ distinct_roles-push (map f (take i xs)) (f x) d new

pub names-more : {X : Type 0} (f : X → List (List ℕ)) (xs : List X) (i n : ℕ) (x : X) → n ≡ i → i < length xs → x ≡ get_or xs i x → distinct_names (map f (take i xs)) ≡ true → has_name (f x) (map f (take n xs)) ≡ false → distinct_names (map f (take (i + 1) xs)) ≡ true
names-more f xs i n x same h e d other =
    let new : has_name (f x) (map f (take i xs)) ≡ false = ap (λ k. has_name (f x) (map f (take k xs))) (sym same) ∙ other in
    ap distinct_names (map_more f xs i x h ∙ ap (λ y. map f (take i xs) ++ f y ∷ []) (sym e)) ∙ distinct_names-push (map f (take i xs)) (f x) d new

pub again-at : {X N : Type 0} (f : X → N) (has : N → List N → Bool) (spot_of : X → Spot) (xs ys : List X) (i n : ℕ) (x : X) → ys ≡ xs → n ≡ i → i < length ys → x ≡ get_or ys i x → has (f x) (map f (take n ys)) ≡ true → IsAgain f has spot_of xs (spot_of x)
again-at f has spot_of xs ys i n x whole same h e twice = record {
  before = take i ys;
  again = x;
  after = drop (i + 1) ys;
  here = sym whole ∙ split ys i x h e;
  there = refl;
  twice = ap (λ k. has (f x) (map f (take k ys))) (sym same) ∙ twice;
}

-- a broken rule about a protocol's roles is one about its names
pub roles_fail : (d : Declaration) (b : BrokenRule) → FailsRoles d.protocol b → FailsNames d b
roles_fail d b f modules root =
    ⊎_elim (λ t. subst (λ k. Fails k modules root d b.spot) (sym t.0) (inr (inr t.1))) (λ t. subst (λ k. Fails k modules root d b.spot) (sym t.0) (t.1, t.2, t.3)) f
