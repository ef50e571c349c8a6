-- The types in the memo.
use Rattle.std.proofs.Common.{◌≡◌, ℕ, List, [], ◌∷◌, ◌++◌, set, Option, Some, None, sym, ap, ◌∙◌, subst, ⊎_elim}
use Rattle.std.specs.List.{slice_get}
use Rattle.std.specs.Option.{IfSome}
use Rattle.scrib_tree.specs.declared.tree.ModuleTree.{ModuleTree}
use Rattle.scrib_type_builder.specs.declared.built_type.BuiltType.{BuiltType}
use Rattle.scrib_static_checks.specs.declared.declared.Declaration.{Declaration as CodeDeclaration}
use Rattle.scrib_static_checks.specs.declared.checking.State.{State}
use Rattle.scrib_static_checks.specs.declared.checking.State.TheVariants.{Walked}
use Rattle.scrib_static_checks.specs.declared.checking.Summary.{Summary}
use Rattle.scrib_static_checks.specs.Elaboration.{start_of}
use Rattle.scrib_static_checks.specs.Names.{Declaration}
use Rattle.scrib_static_checks.specs.Statements.{KeepsRules}
use Rattle.scrib_static_checks.specs.Table.{declaration_of, shown}
use Rattle.scrib_elaborate.specs.Typing.{Made, made_of, FramesMake, IsAlone, IsMemo, IsEmptyMemo, IsAloneAt}
use Rattle.scrib_static_checks.specs.Walking.{AreSummaries}
use Rattle.scrib_static_checks.proofs.TableLemmas.{there_shown}
use Rattle.scrib_static_checks.proofs.Walks.{get_either, get_set}

pub empty_memo_start : (memo : List (Option BuiltType)) → memo ≡ [] → IsEmptyMemo memo
empty_memo_start memo e = subst IsEmptyMemo (sym e) (λ k o h. absurd (cc h))

pub empty_memo_more : (old new : List (Option BuiltType)) → IsEmptyMemo old → new ≡ old ++ None ∷ [] → IsEmptyMemo new
empty_memo_more old new a e =
    subst IsEmptyMemo (sym e) (λ k o h. ⊎_elim (λ x. a k o x) (λ x. sym x.1) (get_either old None o k h))

pub empty_is_memo : (ms : List ModuleTree) (ds : List Declaration) (memo : List (Option BuiltType)) → IsEmptyMemo memo → IsMemo ms ds memo
empty_is_memo ms ds memo a k d t p q =
    let none : Some t ≡ None = a k (Some t) q in
    absurd (cc none)

-- one more type is in the memo
pub memo_more : (ms : List ModuleTree) (ds : List Declaration) (old : List (Option BuiltType)) (place : ℕ) (t : BuiltType) → IsAloneAt ms ds place (made_of t) → IsMemo ms ds old → IsMemo ms ds (set old place (Some t))
memo_more ms ds old place t here a k d u p q =
    ⊎_elim (λ x. let same : t ≡ u = cc (x.1) in subst (λ v. IsAlone ms d (made_of v)) same (here d (ap (slice_get ds) (sym x.0) ∙ p))) (λ x. a k d u p x.1) (get_set old place (Some t) k (Some u) q)

pub kept_there : (ms : List ModuleTree) (declared : List CodeDeclaration) (states : List State) (place : ℕ) (root : CodeDeclaration) (s : Summary) → AreSummaries ms (shown declared) states → slice_get declared place ≡ Some root → slice_get states place ≡ Some (Walked s)
    → KeepsRules ms (declaration_of root) s.exits
kept_there ms declared states place root s a e w = (a.each place (declaration_of root) s (there_shown declared place root e) w).kept

pub alone_there : (ms : List ModuleTree) (declared : List CodeDeclaration) (states : List State) (place : ℕ) (root : CodeDeclaration) (s : Summary) (m : Made) → AreSummaries ms (shown declared) states → slice_get declared place ≡ Some root → slice_get states place ≡ Some (Walked s)
    → FramesMake ms 0 (start_of (declaration_of root)) m → IsAloneAt ms (shown declared) place m
alone_there ms declared states place root s m a e w made d p =
    let there = there_shown declared place root e in
    let same : declaration_of root ≡ d = cc (there, p) in
    subst (λ x. IsAlone ms x m) same (record { exits = s.exits; kept = kept_there ms declared states place root s a e w; made = made })

pub some_alone : (ms : List ModuleTree) (declared : List CodeDeclaration) (place : ℕ) (root : CodeDeclaration) (o : Option BuiltType) → ((m : Made) → FramesMake ms 0 (start_of (declaration_of root)) m → IsAloneAt ms (shown declared) place m)
    → IfSome o (λ t. FramesMake ms 0 (start_of (declaration_of root)) (made_of t)) → IfSome o (λ t. IsAloneAt ms (shown declared) place (made_of t))
some_alone ms declared place root None f h = tt
some_alone ms declared place root (Some t) f h = f (made_of t) h
