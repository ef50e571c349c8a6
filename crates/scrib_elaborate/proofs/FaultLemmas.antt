-- The faults of elaboration, from those of its parts.
use Rattle.std.proofs.Common.{◌≡◌, ℕ, ◌<◌, true, false, List, length, None, Err, refl, sym, ap, ◌∙◌, subst, ⊎_elim, inl, inr}
use Rattle.scrib_types.specs.Agreement.{Agreement}
use Rattle.scrib_tree.specs.declared.tree.ModuleTree.{ModuleTree}
use Rattle.scrib_static_checks.specs.declared.declared.Declaration.{Declaration as CodeDeclaration}
use Rattle.std.proofs.lemmas.Option.{slice_get_within}
use Rattle.scrib_static_checks.specs.declared.checking.State.{State}
use Rattle.scrib_static_checks.specs.declared.checking.State.TheVariants.{Walked}
use Rattle.scrib_static_checks.specs.declared.fault.ElaborateFault.{ElaborateFault}
use Rattle.scrib_static_checks.specs.declared.fault.ElaborateFault.TheVariants as elaborate
use Rattle.scrib_static_checks.specs.declared.fault.FaultKind.{FaultKind}
use Rattle.scrib_static_checks.specs.declared.fault.FaultKind.TheVariants as kind
use Rattle.scrib_static_checks.specs.Names.{Declaration, has_name, module_names, first_where, declarations, is_called}
use Rattle.scrib_static_checks.specs.Elaboration.{Elaborates}
use Rattle.scrib_static_checks.specs.Faults.{IsAbsent, FailsAt}
use Rattle.scrib_elaborate.specs.Meaning.{ResultMeans}
use Rattle.scrib_static_checks.specs.Table.{shown, IsFound}
use Rattle.scrib_static_checks.specs.Walking.{WasWalked, WalkFails, IsAbsentFault}
use Rattle.scrib_static_checks.proofs.Checks.{entry_within}
use Rattle.scrib_elaborate.proofs.FaultRefutations.{refuted}

-- the requested protocol does not exist

pub absent_fails : (ms : List ModuleTree) (home : List (List ℕ)) (name : List ℕ) (k : FaultKind) (f : ElaborateFault) → IsAbsent ms home name k → IsAbsentFault home k f → FailsAt ms home name f
absent_fails ms home name k f away returned =
    ⊎_elim (λ e. subst (FailsAt ms home name) (sym e) (inl (away, refl, refl))) (λ e. subst (FailsAt ms home name) (sym e) tt) returned

pub no_module : (ms : List ModuleTree) (home : List (List ℕ)) (name : List ℕ) → has_name home (module_names ms) ≡ false → IsAbsent ms home name kind.NoModule
no_module ms home name e = inl (refl, e)

pub no_protocol : (ms : List ModuleTree) (home : List (List ℕ)) (name : List ℕ) (ds : List Declaration) → ds ≡ declarations ms → has_name home (module_names ms) ≡ true → first_where (is_called home name) ds ≡ None
    → IsAbsent ms home name kind.NoProtocol
no_protocol ms home name ds all e n = inr (refl, e, ap (first_where (is_called home name)) (sym all) ∙ n)

-- a fault of the walk

pub walk_fails : (ms : List ModuleTree) (home : List (List ℕ)) (name : List ℕ) (ds : List Declaration) (at : ℕ) → ds ≡ declarations ms → IsFound ds (is_called home name) at → (f : ElaborateFault) → WalkFails ms ds at f → FailsAt ms home name f
walk_fails ms home name ds at all found (elaborate.Broken f) h =
    let w = h found.found found.there in
    inr (record {
      root = found.found;
      there = ap (first_where (is_called home name)) (sym all) ∙ found.first;
      place = w.0;
      reached = w.1;
      named = w.2;
      fails = w.3;
    })
walk_fails ms home name ds at all found elaborate.OutOfMemory h = tt

pub root_within : (ds : List CodeDeclaration) (home : List (List ℕ)) (name : List ℕ) (k : ℕ) → IsFound (shown ds) (is_called home name) k → k < length ds
root_within ds home name k found = entry_within ds k found.found found.there

-- a protocol whose fault may be returned has no meaning

pub nothing_missed : (ms : List ModuleTree) (home : List (List ℕ)) (name : List ℕ) (f : ElaborateFault) → FailsAt ms home name f → (a : Agreement) → Elaborates ms home name a → ResultMeans (Err f) a
nothing_missed ms home name (elaborate.Broken f) h a e = refuted ms home name f a h e
nothing_missed ms home name elaborate.OutOfMemory h a e = tt

pub walk_fault : (ms ts : List ModuleTree) (home : List (List ℕ)) (name : List ℕ) (all ds es : List CodeDeclaration) (at : ℕ) (f : ElaborateFault) → ts ≡ ms → ds ≡ all → es ≡ all → shown all ≡ declarations ts
    → IsFound (shown ds) (is_called home name) at → WalkFails ts (shown es) at f → FailsAt ms home name f
walk_fault ms ts home name all ds es at f same d e whole found h =
    let found_all = subst (λ x. IsFound (shown x) (is_called home name) at) d found in
    let h_all = subst (λ x. WalkFails ts (shown x) at f) e h in
    subst (λ x. FailsAt x home name f) same (walk_fails ts home name (shown all) at whole found_all f h_all)

-- a fault of the size

pub root_stated : (ts : List ModuleTree) (home : List (List ℕ)) (name : List ℕ) (all ds es : List CodeDeclaration) (states seen : List State) (at : ℕ) → ds ≡ all → es ≡ all → seen ≡ states → IsFound (shown ds) (is_called home name) at
    → WasWalked ts (shown es) states at → at < length seen
root_stated ts home name all ds es states seen at d e same found w =
    let here = subst (λ x. IsFound (shown x) (is_called home name) at) d found in
    let walked = subst (λ x. WasWalked ts (shown x) states at) e w in
    let kept = walked here.found here.there in
    subst (λ x. at < length x) (sym same) (slice_get_within states at (Walked kept.0) kept.1)

pub size_fault : (ms ts : List ModuleTree) (home : List (List ℕ)) (name : List ℕ) (all ds es fs : List CodeDeclaration) (states seen : List State) (at : ℕ) (f : ElaborateFault) → ts ≡ ms → ds ≡ all → es ≡ all → fs ≡ all → seen ≡ states → shown all ≡ declarations ts
    → IsFound (shown ds) (is_called home name) at → WasWalked ts (shown es) states at → (WasWalked ts (shown fs) seen at → WalkFails ts (shown fs) at f) → FailsAt ms home name f
size_fault ms ts home name all ds es fs states seen at f same d e g s whole found w h =
    let walked = subst (λ x. WasWalked ts (shown x) states at) (e ∙ sym g) w in
    let seen_walked = subst (λ x. WasWalked ts (shown fs) x at) (sym s) walked in
    walk_fault ms ts home name all ds fs at f same d g whole found (h seen_walked)
