use Rattle.std.proofs.Common.{◌≡◌, ℕ, ◌+◌, ◌<◌, Bool, true, false, List, ◌∷◌, length, get_or, drop, Option, Some, None, option_map, if◌then◌else◌, refl, sym, ap, ◌∙◌, arith}
use Rattle.std.specs.Str.{bytes_eq}
use Rattle.std.proofs.lemmas.List.{drop_more, drop_all}
use Rattle.scrib_tree.specs.declared.tree.RoleDeclaration.{RoleDeclaration}
use Rattle.scrib_static_checks.specs.Names.{role_names}
use Rattle.scrib_static_checks.specs.CallEffect.{place_of}
use Rattle.scrib_static_checks.proofs.effect.place_of.Goals as goal

at_first : (o : Option ℕ) → o ≡ option_map (λ j. 0 + j) o
at_first None = refl
at_first (Some j) = ap Some (omega arith)

here : (i : ℕ) (t : Bool) (o : Option ℕ) → t ≡ true → option_map (λ j. i + j) (if t then Some 0 else option_map (λ j. j + 1) o) ≡ Some i
here i t o e = rw e (ap Some (omega arith))

one_more : (i : ℕ) (o : Option ℕ) → option_map (λ j. i + j) (option_map (λ j. j + 1) o) ≡ option_map (λ j. (i + 1) + j) o
one_more i None = refl
one_more i (Some j) = ap Some (omega arith)

there : (i : ℕ) (t : Bool) (o : Option ℕ) → t ≡ false → option_map (λ j. i + j) (if t then Some 0 else option_map (λ j. j + 1) o) ≡ option_map (λ j. (i + 1) + j) o
there i t o e = rw e (one_more i o)

split : (r : List ℕ) (ds : List RoleDeclaration) (i : ℕ) (d : RoleDeclaration) → i < length ds → d ≡ get_or ds i d
    → option_map (λ j. i + j) (place_of r (role_names (drop i ds))) ≡ option_map (λ j. i + j) (if bytes_eq r d.name then Some 0 else option_map (λ j. j + 1) (place_of r (role_names (drop (i + 1) ds))))
split r ds i d h e =
    ap (λ x. option_map (λ j. i + j) (place_of r (role_names x))) (drop_more ds i d h ∙ ap (λ x. x ∷ drop (i + 1) ds) (sym e))

pub loop-k-init : goal.loop-k-init
loop-k-init c = at_first _

pub returns-then-equal : goal.returns-then-equal
returns-then-equal c =
    let next = split c.args.role.now c.args.declared.now c.loop-k.k c.index-declared-k.result c.loop-k-test.true c.index-declared-k.is in
    sym (c.loop-k.invariant ∙ next ∙ here c.loop-k.k _ _ (sym c.equal.ensures.test ∙ c.if-equal.true))

pub loop-k-preserved : goal.loop-k-preserved
loop-k-preserved c =
    let next = split c.args.role.now c.args.declared.now c.loop-k.k c.index-declared-k.result c.loop-k-test.true c.index-declared-k.is in
    c.loop-k.invariant ∙ next ∙ there c.loop-k.k _ _ (sym c.equal.ensures.test ∙ c.if-equal.false)

pub returns : goal.returns
returns c =
    sym (c.loop-k.invariant ∙ ap (λ x. option_map (λ j. c.loop-k.k + j) (place_of c.args.role.now (role_names x))) (drop_all c.loop-k.k c.args.declared.now c.loop-k-test.false))
