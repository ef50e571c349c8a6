use Rattle.std.proofs.Common.{◌≡◌, slice_get, Some, ℕ, ◌<◌, length, get_or, option_map, List, Bor, sym, ap, ◌∙◌, subst, arith, tests}
use Rattle.std.proofs.lemmas.List.{length-map}
use Rattle.std.proofs.lemmas.Option.{slice_get-map, slice_get-get_or, slice_get_within}
use Rattle.scrib_types.specs.GlobalView.{global_of, global_comm}
use Rattle.scrib_types.specs.Trees.{GlobalTree, Comm, GlobalBranches}
use Rattle.scrib_types.specs.declared.spot.Spot.{Spot}
use Rattle.scrib_static_checks.specs.declared.effect.CallEffect.{CallEffect}
use Rattle.scrib_static_checks.specs.declared.effect.CallEffect.TheVariants.{Joining}
use Rattle.scrib_static_checks.specs.CallEffect.{names_of, Passes}
use Rattle.scrib_static_checks.proofs.effect.CallEffect.passes.Goals as goal

at_place : (given : List (Bor (List ℕ))) (k : ℕ) (r : Bor (List ℕ)) → k < length given → r ≡ get_or given k r → slice_get (names_of given) k ≡ Some r.now
at_place given k r h e =
    slice_get-map (λ (x : Bor (List ℕ)). x.now) given k ∙ ap (option_map (λ (x : Bor (List ℕ)). x.now)) (slice_get-get_or given k r h ∙ ap Some (sym e))

passes_where : (effect : CallEffect) (k at : ℕ) (spot : Spot) (given : List (Bor (List ℕ))) (r : Bor (List ℕ)) (g : GlobalTree) (p q : List ℕ) (cs : GlobalBranches)
    → effect ≡ Joining k at spot → k < length given → r ≡ get_or given k r → g ≡ Comm p q cs → r.now ≡ p → Passes effect (names_of given) g
passes_where effect k at spot given r g p q cs is h e made same =
    rw is (p, q, cs, at_place given k r h e ∙ ap Some same, made)

passes_only : (effect : CallEffect) (k at : ℕ) (spot : Spot) (given : List (Bor (List ℕ))) (r : Bor (List ℕ)) (g : GlobalTree) (p q : List ℕ) (cs : GlobalBranches)
    → effect ≡ Joining k at spot → k < length given → r ≡ get_or given k r → g ≡ Comm p q cs → Passes effect (names_of given) g → r.now ≡ p
passes_only effect k at spot given r g p q cs is h e made passed =
    let v = subst (λ f. Passes f (names_of given) g) is passed in
    let here = at_place given k r h e in
    let one : r.now ≡ v.0 = cc (here, v.3) in
    let two : v.0 ≡ p = cc (made, v.4) in
    one ∙ two

within : (effect : CallEffect) (k at : ℕ) (spot : Spot) (given : List (Bor (List ℕ))) (g : GlobalTree) → effect ≡ Joining k at spot → Passes effect (names_of given) g → k < length given
within effect k at spot given g is passed =
    let v = subst (λ f. Passes f (names_of given) g) is passed in
    let inside = slice_get_within (names_of given) k v.0 v.3 in
    let long = length-map given (λ (x : Bor (List ℕ)). x.now) in
    omega (arith, inside, long)

pub returns-then-chooser-given : goal.returns-then-chooser-given
returns-then-chooser-given c =
    let made = ap global_of c.in-Comm.is ∙ global_comm c.in-Comm.from c.in-Comm.to c.in-Comm.branches in
    (λ t. passes_where c.args.self c.in-Joining.chooser c.in-Joining.at c.in-Joining.spot c.args.given.now c.index-given-chooser.result _ _ _ _ c.in-Joining.is c.if-chooser-given.true c.index-given-chooser.is made (c.equal.ensures.same.0 t), λ p. c.equal.ensures.same.1 (passes_only c.args.self c.in-Joining.chooser c.in-Joining.at c.in-Joining.spot c.args.given.now c.index-given-chooser.result _ _ _ _ c.in-Joining.is c.if-chooser-given.true c.index-given-chooser.is made p))

pub returns-else-chooser-given : goal.returns-else-chooser-given
returns-else-chooser-given c =
    let out : c.in-Joining.chooser < length c.args.given.now → ⊥ = λ h. omega (arith, h, c.if-chooser-given.false) in
    (λ t. absurd (out (search (tests, t))), λ p. absurd (out (within c.args.self c.in-Joining.chooser c.in-Joining.at c.in-Joining.spot c.args.given.now _ c.in-Joining.is p)))
