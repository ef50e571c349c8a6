-- The result of the three passes.
use Rattle.std.proofs.Common.{◌≡◌, ℕ, List, get_or, Result, Ok, Err, IfOk, IfErr, sym, ap, ◌∙◌, subst, ⊎_elim, inr}
use Rattle.std.specs.Borrow.{Bor}
use Rattle.scrib_types.specs.declared.spot.Spot.{Spot}
use Rattle.scrib_types.specs.Agreement.{Agreement}
use Rattle.scrib_types.specs.Trees.{GlobalTree}
use Rattle.scrib_tree.specs.declared.tree.ModuleTree.{ModuleTree}
use Rattle.scrib_static_checks.specs.declared.declared.Declaration.{Declaration as CodeDeclaration}
use Rattle.scrib_elaborate.specs.declared.elaborated.Elaborated.{Elaborated}
use Rattle.scrib_static_checks.specs.declared.fault.FaultKind.{FaultKind}
use Rattle.scrib_static_checks.specs.declared.fault.FaultKind.TheVariants as kind
use Rattle.scrib_static_checks.specs.declared.fault.ElaborateFault.{ElaborateFault}
use Rattle.scrib_static_checks.specs.declared.checking.BrokenRule.{BrokenRule}
use Rattle.scrib_static_checks.specs.declared.checking.State.{State}
use Rattle.scrib_type_builder.specs.declared.build_error.BuildError.TheVariants as untyped
use Rattle.scrib_static_checks.specs.Names.{Declaration, roles_of, declarations, first_where, is_called}
use Rattle.scrib_static_checks.specs.Elaboration.{Types, start_of, Elaborates}
use Rattle.scrib_static_checks.specs.Faults.{FailsTyping, Fails, FailsAt}
use Rattle.scrib_elaborate.specs.Meaning.{elaborated_meaning, ResultMeans}
use Rattle.scrib_static_checks.specs.Table.{declaration_of, shown, IsFound}
use Rattle.scrib_elaborate.specs.Typing.{TypingFails}
use Rattle.scrib_static_checks.specs.Walking.{IsFaultIn, WasWalked, IsSmall, IsCounted}
use Rattle.scrib_elaborate.proofs.SoundnessLemmas.{accepted, meaning_same}
use Rattle.scrib_elaborate.proofs.FaultLemmas.{nothing_missed}
use Rattle.scrib_static_checks.proofs.Checks.{entry_is}

-- a protocol that was typed is elaborated
pub elaborated : (ms : List ModuleTree) (ds : List Declaration) (root : Declaration) (count : ℕ) (home : List (List ℕ)) (name : List ℕ) (roles : List (List ℕ)) (g : GlobalTree) → IsCounted ms ds root count home name → roles ≡ roles_of root
    → Types ms 0 (start_of root) g → Elaborates ms home name (record { roles = roles; global = g })
elaborated ms ds root count home name roles g k e typed =
    subst (λ rs. Elaborates ms home name (record { roles = rs; global = g })) (sym e) (accepted ms home name root k.exits count g k.there k.kept k.size typed)

-- a fault of the third pass

typing_fails : (k : FaultKind) (ms : List ModuleTree) (root d : Declaration) (spot : Spot) → FailsTyping k ms 0 (start_of root) d spot → Fails k ms root d spot
typing_fails kind.Unguarded ms root d spot h = h
typing_fails kind.EmptyBranch ms root d spot h = h
typing_fails kind.ContinueHead ms root d spot h = h
typing_fails kind.RecHead ms root d spot h = h
typing_fails kind.NotChooser ms root d spot h = h
typing_fails kind.TwoReceivers ms root d spot h = h
typing_fails kind.SameOperator ms root d spot h = h
typing_fails other ms root d spot h = absurd h

pub typing_fault : (ms : List ModuleTree) (ds : List Declaration) (root : Declaration) (count : ℕ) (home : List (List ℕ)) (name : List ℕ) (h : Bor ModuleTree) (b : BrokenRule) (f : ElaborateFault) → IsCounted ms ds root count home name
    → TypingFails ms root (untyped.Broken h b) → IsFaultIn h.now b f → FailsAt ms home name f
typing_fault ms ds root count home name h b f k w returned =
    ⊎_elim (λ e. subst (FailsAt ms home name) (sym e) (inr (record { root = root; there = k.there; place = w.0; reached = w.1; named = ap (λ (m : ModuleTree). m.name) w.2; fails = typing_fails b.kind ms root w.0 b.spot w.3 }))) (λ e. subst (FailsAt ms home name) (sym e) tt) returned

-- the result of the first two passes

pub is_counted : (ts : List ModuleTree) (home : List (List ℕ)) (name : List ℕ) (all ds es fs hs : List CodeDeclaration) (states seen : List State) (at count : ℕ) (x : CodeDeclaration)
    → ds ≡ all → es ≡ all → fs ≡ all → hs ≡ all → seen ≡ states → shown all ≡ declarations ts → IsFound (shown ds) (is_called home name) at → WasWalked ts (shown es) states at → (WasWalked ts (shown fs) seen at → IsSmall ts (shown fs) at count)
    → x ≡ get_or all at x → IsCounted ts (shown hs) (declaration_of x) count home name
is_counted ts home name all ds es fs hs states seen at count x d e f h s whole found w small is =
    let here = subst (λ y. IsFound (shown y) (is_called home name) at) d found in
    let walked = subst (λ y. WasWalked ts (shown y) states at) e w in
    let seen_walked = subst (λ y. WasWalked ts (shown fs) y at) (sym s) (subst (λ y. WasWalked ts (shown y) states at) (sym f) walked) in
    let counted = subst (λ y. IsSmall ts (shown y) at count) f (small seen_walked) in
    let kept = walked here.found here.there in
    let size = counted here.found here.there in
    let same : here.found ≡ declaration_of x = entry_is all at here.found x here.there ∙ ap declaration_of (sym is) in
    subst (λ r. IsCounted ts (shown hs) r count home name) same (record {
      all = ap shown h ∙ whole;
      there = ap (first_where (is_called home name)) (sym whole) ∙ here.first;
      exits = kept.0.exits;
      kept = kept.2.kept;
      size = size;
    })

-- the protocol has no other meaning
pub only_meant : (ms : List ModuleTree) (home : List (List ℕ)) (name : List ℕ) (r : Result Elaborated ElaborateFault) → IfOk r (λ e. Elaborates ms home name (elaborated_meaning e)) → IfErr r (FailsAt ms home name) → (a : Agreement) → Elaborates ms home name a → ResultMeans r a
only_meant ms home name (Ok e) ok fault a is = meaning_same ms home name (elaborated_meaning e) a ok is
only_meant ms home name (Err f) ok fault a is = nothing_missed ms home name f fault a is
