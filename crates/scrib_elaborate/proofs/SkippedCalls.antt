-- A call that leaves the type of what follows it unchanged is not entered.
use Rattle.std.proofs.Common.{◌≡◌, ℕ, Bool, true, List, [], length, map, Option, Some, None, option_map, refl, sym, ap, ◌∙◌, subst, ⊎_elim}
use Rattle.std.specs.List.{AllZip, slice_get}
use Rattle.std.proofs.lemmas.List.{length-map}
use Rattle.std.proofs.lemmas.Option.{slice_get-map}
use Rattle.scrib_types.specs.declared.spot.Spot.{Spot}
use Rattle.scrib_types.specs.Trees.{GlobalEnd, Comm}
use Rattle.scrib_types.specs.WellFormed.{distinct_roles}
use Rattle.scrib_tree.specs.declared.tree.ModuleTree.{ModuleTree}
use Rattle.scrib_type_builder.specs.declared.built_type.Origin.{Origin}
use Rattle.scrib_static_checks.specs.declared.declared.Declaration.{Declaration as CodeDeclaration}
use Rattle.scrib_static_checks.specs.declared.effect.CallEffect.{CallEffect}
use Rattle.scrib_static_checks.specs.declared.effect.CallEffect.TheVariants.{Nothing, Joining, Other}
use Rattle.scrib_elaborate.specs.declared.tasks.Task.{Task}
use Rattle.scrib_static_checks.specs.Source.{Then, Calls}
use Rattle.scrib_static_checks.specs.SourceView.{body_of}
use Rattle.scrib_static_checks.specs.Names.{Declaration, roles_of, declarations, called}
use Rattle.scrib_static_checks.specs.Statements.{KeepsRules}
use Rattle.scrib_static_checks.specs.Elaboration.{Scope, given_for, role_in, inside_call, Frames, Under, Types, calls}
use Rattle.scrib_static_checks.specs.Faults.{needs_itself, needs_calls}
use Rattle.scrib_type_builder.specs.Renaming.{renamed}
use Rattle.scrib_static_checks.specs.CallEffect.{HasEffect, IsEffectOf, Passes}
use Rattle.scrib_elaborate.specs.Sites.{communications, IsSite}
use Rattle.scrib_static_checks.specs.Table.{declaration_of, shown}
use Rattle.scrib_type_builder.specs.BuiltType.{with_origin}
use Rattle.scrib_elaborate.specs.Typing.{Made, IsMarked, FramesMake, Target, IsAlone, PassesOn, IsTypedRest, IsState}
use Rattle.scrib_elaborate.proofs.FirstChoices.{nothing_needs, only_needs, begins_site}
use Rattle.scrib_static_checks.proofs.RuleLemmas.{of_then, of_calls}
use Rattle.scrib_elaborate.proofs.IsolatedCalls.{made_moved}
use Rattle.scrib_elaborate.proofs.NoEffectLemmas.{call_of_nothing, call_of_only, typed_branches}
use Rattle.scrib_static_checks.proofs.CallEffectLemmas.{placed_at, given_at}
use Rattle.scrib_elaborate.proofs.SiteLemmas.{site_through, marks_through, marks_with_origin, made_through, made_from}
use Rattle.scrib_elaborate.proofs.Steps.{block_kept}

-- the table's entry at an index
shown_at : (table : List CodeDeclaration) (k : ℕ) (d : Declaration) → slice_get (shown table) k ≡ Some d → (e : CodeDeclaration) × (slice_get table k ≡ Some e) × (declaration_of e ≡ d)
shown_at table k d h = of (slice_get table k) refl (sym (slice_get-map declaration_of table k) ∙ h)
  where
    of : (o : Option CodeDeclaration) → slice_get table k ≡ o → option_map declaration_of o ≡ Some d → (e : CodeDeclaration) × (slice_get table k ≡ Some e) × (declaration_of e ≡ d)
    of None e f = absurd (cc f)
    of (Some x) e f = let same : declaration_of x ≡ d = cc f in (x, e, same)

pub call_skipped : (ms : List ModuleTree) (target : Target) (ts : List Task) (sc : Scope) (n : ℕ) (path roles given : List (List ℕ)) (spot : Spot) (c : Declaration) (f : CallEffect) (table : List CodeDeclaration) (g h : Made)
    → called ms sc.within.home path ≡ Some c → IsEffectOf ms c f → given ≡ map (role_in sc) roles → Passes f given g.type → shown table ≡ declarations ms → PassesOn table f g h → IsTypedRest ms target ts sc n (Calls path roles spot) g → IsState ms target ts h
call_skipped ms target ts sc n path roles given spot c f table g h there has_effect named passed all returned b = record {
  depth = n;
  frames = whole;
  made = ⊎_elim (λ e. absurd (subst (λ x. Passes x gs g.type) e named_passes)) (λ k. by f k.1 k.0 named_passes returned) has_effect;
  path = b.path;
}
  where
    gs : List (List ℕ)
    gs = map (role_in sc) roles

    after : Frames
    after = Under sc b.rest b.outer

    whole : Frames
    whole = Under sc (Then (Calls path roles spot) b.rest) b.outer

    named_passes : Passes f gs g.type
    named_passes = subst (λ x. Passes f x g.type) named passed

    by : (f : CallEffect) → HasEffect ms c (body_of c.protocol.body) f → distinct_roles (roles_of c) ≡ true → Passes f gs g.type → PassesOn table f g h → FramesMake ms n whole h
    by Nothing k apart u same =
        subst (FramesMake ms n whole) (sym same) (made_through g (needs_calls there (nothing_needs k gs [] n after)) (call_of_nothing c there k b.made.typed) b.made)
    by (Joining k at first) j apart (p, q, cs, role, is) on =
        let typed = subst (λ x. Types ms n after x) is b.made.typed in
        let by_role : p ≡ given_for (roles_of c) gs j.role = sym (given_at (roles_of c) gs k j.role p apart (placed_at j.role (roles_of c) k j.there) role) in
        let fine = typed_branches typed p q cs refl in
        let entry = shown_at table at j.first.home (ap (λ ds. slice_get ds at) all ∙ j.first.there) in
        let origin : Origin = record { home = entry.0.home; spot = first } in
        let same = on entry.0 entry.1 in
        let marks = subst (λ x. AllZip (IsMarked ms n after) (communications n x) g.origins) is b.made.marked in
        let through = marks_through (needs_calls there (only_needs j.only gs [] n after)) (communications n (Comm p q cs)) g.origins marks in
        let inside = begins_site j.first.first j.role j.only gs [] n after p q cs by_role fine.0 fine.1 typed in
        let site : IsSite ms n whole entry.0.home.now.name first n (Comm p q cs) = subst (λ (d : Declaration). IsSite ms n whole d.home.name first n (Comm p q cs)) (sym entry.2) (site_through (needs_calls there needs_itself) inside) in
        let whole_typed : Types ms n whole h.type = subst (Types ms n whole) (sym (ap (λ (m : Made). m.type) same ∙ is)) (call_of_only c j.role there j.only by_role typed) in
        made_from h (Comm p q cs) (with_origin origin g.origins) (ap (λ (m : Made). m.type) same ∙ is) (ap (λ (m : Made). m.origins) same) whole_typed (marks_with_origin ms n whole n p q cs g.origins origin site through)
    by Other k apart none on = absurd none

-- nor is a call that nothing follows, of a protocol whose type is in the memo
pub call_memoized : (ms : List ModuleTree) (target : Target) (x : Bool) (ts : List Task) (sc : Scope) (n : ℕ) (path roles given : List (List ℕ)) (spot : Spot) (c : Declaration) (g k h : Made)
    → KeepsRules ms target.root x → called ms sc.within.home path ≡ Some c → IsAlone ms c k → given ≡ map (role_in sc) roles → g.type ≡ GlobalEnd → h.type ≡ renamed (given_for (roles_of c) given) k.type → h.origins ≡ k.origins
    → IsTypedRest ms target ts sc n (Calls path roles spot) g → IsState ms target ts h
call_memoized ms target x ts sc n path roles given spot c g k h kept there alone named none is same b =
    let gs = map (role_in sc) roles in
    let block = (block_kept b.recs (Then (Calls path roles spot) b.rest) b.reached x kept b.part).2 in
    let call = of_calls (of_then block).step in
    let to : call.to ≡ c = cc (call.call.there, there) in
    let count : length roles ≡ length c.protocol.roles = subst (λ (d : Declaration). length roles ≡ length d.protocol.roles) to call.call.count in
    let long : length (roles_of c) ≡ length gs = length-map c.protocol.roles (λ r. r.name) ∙ sym count ∙ sym (length-map roles (role_in sc)) in
    let ended = subst (Types ms n (Under sc b.rest b.outer)) none b.made.typed in
    let type : h.type ≡ renamed (given_for (roles_of c) gs) k.type = is ∙ ap (λ ns. renamed (given_for (roles_of c) ns) k.type) named in
    let inner : FramesMake ms n (Under (inside_call sc c roles) (body_of c.protocol.body) (Under sc b.rest b.outer)) h = made_moved c alone.exits gs k h alone.kept long alone.made b.below ended type same in
    record {
      depth = n;
      frames = Under sc (Then (Calls path roles spot) b.rest) b.outer;
      made = made_through h (needs_calls there needs_itself) (calls there inner.typed) inner;
      path = b.path;
    }
