-- The steps of a walk over protocols.
use Rattle.std.proofs.Common.{◌≡◌, ◌≢◌, ◌⊎◌, ℕ, zero, suc, ◌+◌, ◌<◌, ◌≤◌, true, List, [], ◌∷◌, ◌++◌, length, get_or, set, Some, option_map, refl, sym, ap, ◌∙◌, subst, ⊎_elim, inl, inr, arith}
use Rattle.std.specs.List.{slice_get, sum_by}
use Rattle.std.proofs.lemmas.List.{length-append, length-set, length-map}
use Rattle.std.proofs.lemmas.List.Sums.{sum_by-set}
use Rattle.std.proofs.lemmas.Option.{slice_get_within, slice_get-get_or, slice_get-map, get_or_from_slice_get}
use Rattle.scrib_tree.specs.declared.tree.ModuleTree.{ModuleTree}
use Rattle.scrib_static_checks.specs.declared.checking.State.{State}
use Rattle.scrib_static_checks.specs.declared.checking.State.TheVariants.{Unwalked, Walking, Walked}
use Rattle.scrib_static_checks.specs.Source.{Calls}
use Rattle.scrib_static_checks.specs.Names.{Declaration, HasOwnNames, declarations, called}
use Rattle.scrib_static_checks.specs.Statements.{protocol_keeps, BlockKeeps}
use Rattle.scrib_static_checks.specs.Faults.{HasStatement, Reaches, itself, Fails}
use Rattle.scrib_static_checks.specs.declared.declared.Declaration.{Declaration as CodeDeclaration}
use Rattle.scrib_static_checks.specs.declared.fault.ElaborateFault.{ElaborateFault}
use Rattle.scrib_static_checks.specs.declared.fault.ElaborateFault.TheVariants as elaborate
use Rattle.scrib_static_checks.specs.declared.checking.BrokenRule.{BrokenRule}
use Rattle.scrib_static_checks.specs.declared.checking.CheckError.{CheckError}
use Rattle.scrib_static_checks.specs.declared.checking.CheckError.TheVariants.{Broken, Call, OutOfMemory}
use Rattle.scrib_static_checks.specs.declared.checking.CheckContext.{CheckContext}
use Rattle.scrib_static_checks.specs.declared.checking.Summary.{Summary}
use Rattle.scrib_static_checks.specs.Table.{declaration_of, shown, IsSummary, StopsAt}
use Rattle.scrib_static_checks.specs.Walking.{AreUnwalked, IsEntered, EnterFails, IsFaultIn, IsReady, IsNextCall, IsBlockKept, TopKeeps, TopStops, WasWalked, AreSummaries, IsIdle, IsSmall, WalkFails}
use Rattle.scrib_tree.specs.declared.tree.Statement.{Statement}
use Rattle.scrib_static_checks.specs.SourceView.{body_of}
use Rattle.scrib_static_checks.specs.declared.fault.FaultKind.TheVariants as kind
use Rattle.scrib_static_checks.specs.Sizes.{NodesOf, IsTooLarge}
use Rattle.scrib_static_checks.specs.SizeFunctions.{height_at, BlockHasSize}
use Rattle.scrib_static_checks.specs.CallEffect.{HasEffect}
use Rattle.scrib_static_checks.proofs.Checks.{entry_is}
use Rattle.scrib_static_checks.proofs.RuleLemmas.{reaches_on}

-- the places of a list

pub get_front : {X : Type 0} (xs : List X) (x y : X) (i : ℕ) → slice_get xs i ≡ Some y → slice_get (xs ++ x ∷ []) i ≡ Some y
get_front [] x y i e = absurd (cc e)
get_front (z ∷ xs) x y zero e = e
get_front (z ∷ xs) x y (suc i) e = get_front xs x y i e

pub get_either : {X : Type 0} (xs : List X) (x y : X) (i : ℕ) → slice_get (xs ++ x ∷ []) i ≡ Some y → (slice_get xs i ≡ Some y) ⊎ ((i ≡ length xs) × (x ≡ y))
get_either [] x y zero e = inr (refl, cc)
get_either [] x y (suc i) e = absurd (cc e)
get_either (z ∷ xs) x y zero e = inl e
get_either (z ∷ xs) x y (suc i) e = ⊎_elim (λ h. inl h) (λ h. inr (ap suc h.0, h.1)) (get_either xs x y i e)

pub get_last : {X : Type 0} (xs : List X) (x : X) → slice_get (xs ++ x ∷ []) (length xs) ≡ Some x
get_last [] x = refl
get_last (z ∷ xs) x = get_last xs x

pub get_set : {X : Type 0} (xs : List X) (k : ℕ) (v : X) (j : ℕ) (w : X) → slice_get (set xs k v) j ≡ Some w → ((j ≡ k) × (v ≡ w)) ⊎ ((j ≢ k) × (slice_get xs j ≡ Some w))
get_set [] k v j w e = absurd (cc e)
get_set (x ∷ xs) zero v zero w e = inl (refl, cc)
get_set (x ∷ xs) zero v (suc j) w e = inr (λ h. absurd (omega arith), e)
get_set (x ∷ xs) (suc k) v zero w e = inr (λ h. absurd (omega arith), e)
get_set (x ∷ xs) (suc k) v (suc j) w e =
    ⊎_elim (λ h. inl (ap suc h.0, h.1)) (λ h. inr (λ i. h.0 (omega arith), h.1)) (get_set xs k v j w e)

-- the walk

-- The state of a walk: the states of all declared protocols, and those that it has entered, the outermost first.
pub record IsWalk (ms : List ModuleTree) (ds : List Declaration) (at : ℕ) (root : Declaration) (states : List State) (stack : List ℕ) : Type 0 where
  pub states_all : length states ≡ length ds
  pub walked : (k : ℕ) (d : Declaration) (s : Summary) → slice_get ds k ≡ Some d → slice_get states k ≡ Some (Walked s) → IsSummary ms d s
  pub listed : (k : ℕ) → slice_get states k ≡ Some Walking → (i : ℕ) × (slice_get stack i ≡ Some k)
  pub inside : (i k : ℕ) → slice_get stack i ≡ Some k → k < length ds
  pub named : (i k : ℕ) (d : Declaration) → slice_get stack i ≡ Some k → slice_get ds k ≡ Some d → HasOwnNames d
  pub reached : (i k : ℕ) (d : Declaration) → slice_get stack i ≡ Some k → slice_get ds k ≡ Some d → Reaches ms root d
  pub chained : (i j k l : ℕ) (d c : Declaration) → i ≤ j → slice_get stack i ≡ Some k → slice_get stack j ≡ Some l → slice_get ds k ≡ Some d → slice_get ds l ≡ Some c → Reaches ms d c
  pub entered : slice_get states at ≢ Some Unwalked

-- what is left to do
abbrev pub weight : State → ℕ
weight Unwalked = 2
weight Walking = 0
weight (Walked s) = 0

abbrev pub work : List State → List ℕ → ℕ
work states stack = sum_by weight states + length stack

-- the entered protocols lead to the last of them
pub leads_to_last : (ms : List ModuleTree) (ds : List Declaration) (at : ℕ) (root : Declaration) (states : List State) (init : List ℕ) (top : ℕ) (t : Declaration) → slice_get ds top ≡ Some t
    → IsWalk ms ds at root states (init ++ top ∷ []) → (k : ℕ) (d : Declaration) → slice_get ds k ≡ Some d → slice_get states k ≡ Some Walking → Reaches ms d t
leads_to_last ms ds at root states init top t here w k d there walking =
    let p = w.listed k walking in
    let within = slice_get_within (init ++ top ∷ []) p.0 k p.1 in
    let long : length (init ++ top ∷ []) ≡ length init + 1 = length-append init (top ∷ []) in
    w.chained p.0 (length init) k top d t (omega arith) p.1 (get_last init top) there here

-- it enters a protocol that the last one calls

pub enters : (ms : List ModuleTree) (ds : List Declaration) (at : ℕ) (root : Declaration) (states : List State) (init : List ℕ) (top to : ℕ) (t c : Declaration)
    → {path roles : List (List ℕ)} {s : _} → HasStatement t (Calls path roles s) → called ms t.home path ≡ Some c → slice_get ds top ≡ Some t → slice_get ds to ≡ Some c → HasOwnNames c
    → IsWalk ms ds at root states (init ++ top ∷ []) → IsWalk ms ds at root (set states to Walking) ((init ++ top ∷ []) ++ to ∷ [])
enters ms ds at root states init top to t c h call here there names w = record {
  states_all = length-set states to Walking ∙ w.states_all;
  walked =
      λ k d e p q. ⊎_elim (λ x. absurd (cc x.1)) (λ x. w.walked k d e p x.1) (get_set states to Walking k (Walked e) q);
  listed =
      λ k q. ⊎_elim (λ x. (length stack, get_last stack to ∙ ap Some (sym x.0))) (λ x. let p = w.listed k x.1 in (p.0, get_front stack to k p.0 p.1)) (get_set states to Walking k Walking q);
  inside =
      λ i k p. ⊎_elim (λ x. w.inside i k x) (λ x. subst (λ y. y < length ds) x.1 (slice_get_within ds to c there)) (get_either stack to k i p);
  named =
      λ i k d p q. ⊎_elim (λ x. w.named i k d x q) (λ x. subst HasOwnNames (same_entry k d x.1 q) names) (get_either stack to k i p);
  reached =
      λ i k d p q. ⊎_elim (λ x. w.reached i k d x q) (λ x. subst (Reaches ms root) (same_entry k d x.1 q) from_root) (get_either stack to k i p);
  chained =
      λ i j k l d e le p q u v. ⊎_elim (λ x. ⊎_elim (λ y. w.chained i j k l d e le y x u v) (λ y. absurd (past i j l y.0 le x)) (get_either stack to k i p)) (λ x. ⊎_elim (λ y. subst (Reaches ms d) (same_entry l e x.1 v) (reaches_on (w.chained i (length init) k top d t (before i k y) y (get_last init top) u here) h call)) (λ y. subst (λ z. Reaches ms z e) (same_entry k d y.1 u) (subst (Reaches ms c) (same_entry l e x.1 v) itself)) (get_either stack to k i p)) (get_either stack to l j q);
  entered =
      λ q. ⊎_elim (λ x. absurd (cc x.1)) (λ x. w.entered x.1) (get_set states to Walking at Unwalked q);
}
  where
    stack : List ℕ
    stack = init ++ top ∷ []

    same_entry : (k : ℕ) (d : Declaration) → to ≡ k → slice_get ds k ≡ Some d → c ≡ d
    same_entry k d e q = let both : slice_get ds to ≡ Some d = ap (slice_get ds) e ∙ q in cc

    from_root : Reaches ms root c
    from_root = reaches_on (w.reached (length init) top t (get_last init top) here) h call

    before : (i k : ℕ) → slice_get (init ++ top ∷ []) i ≡ Some k → i ≤ length init
    before i k e =
        let within = slice_get_within (init ++ top ∷ []) i k e in
        let long : length (init ++ top ∷ []) ≡ length init + 1 = length-append init (top ∷ []) in
        omega arith

    past : (i j l : ℕ) → i ≡ length (init ++ top ∷ []) → i ≤ j → slice_get (init ++ top ∷ []) j ≡ Some l → ⊥
    past i j l e le q = let within = slice_get_within (init ++ top ∷ []) j l q in absurd (omega arith)

-- it leaves the last one, which follows the rules

pub leaves : (ms : List ModuleTree) (ds : List Declaration) (at : ℕ) (root : Declaration) (states : List State) (init : List ℕ) (top : ℕ) (t : Declaration) (e : Summary)
    → slice_get ds top ≡ Some t → IsSummary ms t e → IsWalk ms ds at root states (init ++ top ∷ []) → IsWalk ms ds at root (set states top (Walked e)) init
leaves ms ds at root states init top t e here kept w = record {
  states_all = length-set states top (Walked e) ∙ w.states_all;
  walked =
      λ k d f p q. ⊎_elim (λ x. let same : slice_get ds top ≡ Some d = ap (slice_get ds) (sym x.0) ∙ p in let d_is : t ≡ d = cc in let e_is : e ≡ f = cc (x.1) in subst (λ y. IsSummary ms y f) d_is (subst (IsSummary ms t) e_is kept)) (λ x. w.walked k d f p x.1) (get_set states top (Walked e) k (Walked f) q);
  listed =
      λ k q. ⊎_elim (λ x. absurd (cc (x.1))) (λ x. let p = w.listed k x.1 in ⊎_elim (λ y. (p.0, y)) (λ y. absurd (x.0 (sym y.1))) (get_either init top k p.0 p.1)) (get_set states top (Walked e) k Walking q);
  inside = λ i k p. w.inside i k (get_front init top k i p);
  named = λ i k d p q. w.named i k d (get_front init top k i p) q;
  reached = λ i k d p q. w.reached i k d (get_front init top k i p) q;
  chained =
      λ i j k l d c le p q u v. w.chained i j k l d c le (get_front init top k i p) (get_front init top l j q) u v;
  entered =
      λ q. ⊎_elim (λ x. absurd (cc (x.1))) (λ x. w.entered x.1) (get_set states top (Walked e) at Unwalked q);
}

-- it begins

pub begins : (ms : List ModuleTree) (ds : List Declaration) (at : ℕ) (root : Declaration) (states : List State) → IsIdle ms ds states
    → slice_get ds at ≡ Some root → HasOwnNames root → IsWalk ms ds at root (set states at Walking) (at ∷ [])
begins ms ds at root states idle here names = record {
  states_all = length-set states at Walking ∙ idle.kept.all;
  walked =
      λ k d e p q. ⊎_elim (λ x. absurd (cc (x.1))) (λ x. idle.kept.each k d e p x.1) (get_set states at Walking k (Walked e) q);
  listed =
      λ k q. ⊎_elim (λ x. (0, ap Some (sym x.0))) (λ x. absurd (idle.ended k x.1)) (get_set states at Walking k Walking q);
  inside = λ i k p. let e = only i k p in subst (λ y. y < length ds) e (slice_get_within ds at root here);
  named = λ i k d p q. subst HasOwnNames (same_entry k d (only i k p) q) names;
  reached = λ i k d p q. subst (Reaches ms root) (same_entry k d (only i k p) q) itself;
  chained =
      λ i j k l d c le p q u v. subst (λ z. Reaches ms z c) (same_entry k d (only i k p) u) (subst (Reaches ms root) (same_entry l c (only j l q) v) itself);
  entered =
      λ q. ⊎_elim (λ x. absurd (cc (x.1))) (λ x. absurd (x.0 refl)) (get_set states at Walking at Unwalked q);
}
  where
    only : (i k : ℕ) → slice_get (at ∷ []) i ≡ Some k → at ≡ k
    only zero k e = cc
    only (suc i) k e = absurd (cc e)

    same_entry : (k : ℕ) (d : Declaration) → at ≡ k → slice_get ds k ≡ Some d → root ≡ d
    same_entry k d e q = let both : slice_get ds at ≡ Some d = ap (slice_get ds) e ∙ q in cc

-- it ends

pub ended : (ms : List ModuleTree) (ds : List Declaration) (at : ℕ) (root : Declaration) (states : List State) → slice_get ds at ≡ Some root → IsWalk ms ds at root states [] → (s : Summary) × (slice_get states at ≡ Some (Walked s)) × IsSummary ms root s
ended ms ds at root states here w =
    let within = slice_get_within ds at root here in
    let long = w.states_all in
    let below : at < length states = omega arith in
    by (get_or states at Unwalked) (slice_get-get_or states at Unwalked below)
  where
    by : (s : State) → slice_get states at ≡ Some s → (f : Summary) × (slice_get states at ≡ Some (Walked f)) × IsSummary ms root f
    by Unwalked e = absurd (w.entered e)
    by Walking e = let p = w.listed at e in absurd (cc (p.1))
    by (Walked f) e = (f, e, w.walked at root f here e)

-- the states at the beginning

pub none_unwalked : (ss : List State) → ss ≡ [] → AreUnwalked 0 ss
none_unwalked ss e = subst (AreUnwalked 0) (sym e) (record { long = refl; fresh = λ k s h. absurd (cc h) })

pub one_more : (n : ℕ) (ss ts : List State) → AreUnwalked n ss → ts ≡ ss ++ Unwalked ∷ [] → AreUnwalked (n + 1) ts
one_more n ss ts a e =
    let long : length (ss ++ Unwalked ∷ []) ≡ length ss + 1 = length-append ss (Unwalked ∷ []) in
    subst (AreUnwalked (n + 1)) (sym e) (record { long = omega (arith, long, a.long); fresh = λ k s h. ⊎_elim (λ x. a.fresh k s x) (λ x. sym x.1) (get_either ss Unwalked s k h) })

-- the walk, in the terms of the table

pub record IsWalkFrom (ms : List ModuleTree) (declared : List CodeDeclaration) (at : ℕ) (states : List State) (stack : List ℕ) : Type 0 where
  pub root : Declaration
  pub there : slice_get (shown declared) at ≡ Some root
  pub walk : IsWalk ms (shown declared) at root states stack

pub entry_there : (declared : List CodeDeclaration) (k : ℕ) (d : CodeDeclaration) → k < length declared → slice_get (shown declared) k ≡ Some (declaration_of (get_or declared k d))
entry_there declared k d h =
    slice_get-map declaration_of declared k ∙ ap (option_map declaration_of) (slice_get-get_or declared k d h)

pub states_long : (ms : List ModuleTree) (declared : List CodeDeclaration) (at : ℕ) (states : List State) (stack : List ℕ) → IsWalkFrom ms declared at states stack → length states ≡ length declared
states_long ms declared at states stack w = w.walk.states_all ∙ length-map declared declaration_of

-- what the check of the last one assumes
pub ready : (ms : List ModuleTree) (declared : List CodeDeclaration) (at : ℕ) (states : List State) (stack init : List ℕ) (top : ℕ) → shown declared ≡ declarations ms → stack ≡ init ++ top ∷ [] → IsWalkFrom ms declared at states stack
    → IsReady ms declared states top
ready ms declared at states stack init top all is w =
    let walk = subst (λ s. IsWalk ms (shown declared) at w.root states s) is w.walk in
    record {
      all = all;
      long = states_long ms declared at states stack w;
      walked = walk.walked;
      walking = λ k d t p q h. leads_to_last ms (shown declared) at w.root states init top t h walk k d p q;
    }

pub top_within : (ms : List ModuleTree) (declared : List CodeDeclaration) (at : ℕ) (states : List State) (stack init : List ℕ) (top : ℕ) → stack ≡ init ++ top ∷ [] → IsWalkFrom ms declared at states stack → top < length declared
top_within ms declared at states stack init top is w =
    let walk = subst (λ s. IsWalk ms (shown declared) at w.root states s) is w.walk in
    let within = walk.inside (length init) top (get_last init top) in
    let long : length (shown declared) ≡ length declared = length-map declared declaration_of in
    omega arith

pub begins_from : (ms : List ModuleTree) (declared : List CodeDeclaration) (at : ℕ) (x : CodeDeclaration) (old states : List State) (none stack : List ℕ) → at < length declared → x ≡ get_or declared at x → IsIdle ms (shown declared) old → none ≡ []
    → IsEntered x.home.now x.protocol.now at old states none stack → IsWalkFrom ms declared at states stack
begins_from ms declared at x old states none stack h is idle empty e =
    let there : slice_get (shown declared) at ≡ Some (declaration_of x) =
    entry_there declared at x h ∙ ap (λ y. Some (declaration_of y)) (sym is) in
    let walk = begins ms (shown declared) at (declaration_of x) old idle there e.named in
    let only : stack ≡ at ∷ [] = e.stack ∙ ap (λ s. s ++ at ∷ []) empty in
    record {
      root = declaration_of x;
      there = there;
      walk = subst (λ s. IsWalk ms (shown declared) at (declaration_of x) states s) (sym only) (subst (λ ss. IsWalk ms (shown declared) at (declaration_of x) ss (at ∷ [])) (sym e.states) walk);
    }

-- the last one's entry
pub top_entry : (ms : List ModuleTree) (declared : List CodeDeclaration) (at : ℕ) (states : List State) (stack init : List ℕ) (top : ℕ) → stack ≡ init ++ top ∷ [] → IsWalkFrom ms declared at states stack → (t : Declaration) × (slice_get (shown declared) top ≡ Some t)
top_entry ms declared at states stack init top is w = found declared top (top_within ms declared at states stack init top is w)
  where
    found : (xs : List CodeDeclaration) (k : ℕ) → k < length xs → (t : Declaration) × (slice_get (shown xs) k ≡ Some t)
    found [] k h = absurd (omega arith)
    found (x ∷ xs) k h = (declaration_of (get_or (x ∷ xs) k x), entry_there (x ∷ xs) k x h)

pub leaves_from : (ms : List ModuleTree) (declared : List CodeDeclaration) (at : ℕ) (states : List State) (stack init : List ℕ) (top : ℕ) (e : Summary) → stack ≡ init ++ top ∷ [] → IsWalkFrom ms declared at states stack
    → TopKeeps ms (shown declared) top e → IsWalkFrom ms declared at (set states top (Walked e)) init
leaves_from ms declared at states stack init top e is w k =
    let walk = subst (λ s. IsWalk ms (shown declared) at w.root states s) is w.walk in
    let (t, here) = top_entry ms declared at states stack init top is w in
    let names = walk.named (length init) top t (get_last init top) here in
    record {
      root = w.root;
      there = w.there;
      walk = leaves ms (shown declared) at w.root states init top t e here (record { kept = protocol_keeps names (k t here).keeps; has_size = (k t here).has_size; has_effect = (k t here).has_effect }) walk;
    }

-- the call at which a check stopped
pub record IsNext (ms : List ModuleTree) (declared : List CodeDeclaration) (states : List State) (top to : ℕ) : Type 0 where
  pub from : Declaration
  pub here : slice_get (shown declared) top ≡ Some from
  pub call : IsNextCall ms (shown declared) states from to
  pub within : to < length declared
  pub stated : to < length states

pub next_of : (ms : List ModuleTree) (declared : List CodeDeclaration) (at : ℕ) (states seen : List State) (stack init : List ℕ) (top to : ℕ) (s : CheckError) → stack ≡ init ++ top ∷ [] → IsWalkFrom ms declared at states stack
    → seen ≡ states → s ≡ Call to → TopStops ms (shown declared) seen top s → IsNext ms declared states top to
next_of ms declared at states seen stack init top to s is w same stop h =
    let (t, here) = top_entry ms declared at states stack init top is w in
    let stops = subst (λ x. TopStops ms (shown declared) seen top x) stop h in
    let next = subst (λ ss. IsNextCall ms (shown declared) ss t to) same (stops t here) in
    let within = slice_get_within (shown declared) to next.to next.at in
    let long : length (shown declared) ≡ length declared = length-map declared declaration_of in
    record {
      from = t;
      here = here;
      call = next;
      within = omega arith;
      stated = slice_get_within states to Unwalked next.unwalked;
    }

-- the entry of the called protocol
called_entry : (ms : List ModuleTree) (declared : List CodeDeclaration) (states : List State) (top to : ℕ) (x : CodeDeclaration) (n : IsNext ms declared states top to) → x ≡ get_or declared to x → n.call.to ≡ declaration_of x
called_entry ms declared states top to x n is =
    let there = entry_there declared to x n.within in
    let same : n.call.to ≡ declaration_of (get_or declared to x) = cc (n.call.at, there) in
    same ∙ ap declaration_of (sym is)

pub enters_from : (ms : List ModuleTree) (declared : List CodeDeclaration) (at : ℕ) (states after : List State) (stack init pushed last : List ℕ) (top to : ℕ) (x : CodeDeclaration) → stack ≡ init ++ top ∷ [] → pushed ≡ init ++ top ∷ [] → x ≡ get_or declared to x
    → IsWalkFrom ms declared at states stack → IsNext ms declared states top to → IsEntered x.home.now x.protocol.now to states after pushed last → IsWalkFrom ms declared at after last
enters_from ms declared at states after stack init pushed last top to x is again entry w n e =
    let walk = subst (λ s. IsWalk ms (shown declared) at w.root states s) is w.walk in
    let same = called_entry ms declared states top to x n entry in
    let names = subst HasOwnNames (sym same) e.named in
    let next = enters ms (shown declared) at w.root states init top to n.from n.call.to n.call.occurs n.call.there n.here n.call.at names walk in
    let whole : last ≡ (init ++ top ∷ []) ++ to ∷ [] = e.stack ∙ ap (λ s. s ++ to ∷ []) again in
    record {
      root = w.root;
      there = w.there;
      walk = subst (λ s. IsWalk ms (shown declared) at w.root after s) (sym whole) (subst (λ ss. IsWalk ms (shown declared) at w.root ss ((init ++ top ∷ []) ++ to ∷ [])) (sym e.states) next);
    }

-- the remaining work decreases

pub less_entering : (ms : List ModuleTree) (declared : List CodeDeclaration) (states after : List State) (stack init pushed last : List ℕ) (top to : ℕ) (home : _) (protocol : _) → stack ≡ init ++ top ∷ [] → pushed ≡ init ++ top ∷ []
    → IsNext ms declared states top to → IsEntered home protocol to states after pushed last → work after last < work states stack
less_entering ms declared states after stack init pushed last top to home protocol is again n e =
    let sums = sum_by-set weight states to Walking Unwalked n.stated in
    let was : get_or states to Unwalked ≡ Unwalked = get_or_from_slice_get states to Unwalked Unwalked n.call.unwalked in
    let weighs : weight (get_or states to Unwalked) ≡ 2 = ap weight was in
    let now = ap (sum_by weight) e.states in
    let longer : length last ≡ length pushed + 1 = ap length e.stack ∙ length-append pushed (to ∷ []) in
    let same : length pushed ≡ length stack = ap length (again ∙ sym is) in
    omega arith

pub less_leaving : (states : List State) (stack init : List ℕ) (top : ℕ) (e : Summary) → stack ≡ init ++ top ∷ [] → top < length states → work (set states top (Walked e)) init < work states stack
less_leaving states stack init top e is h =
    let sums = sum_by-set weight states top (Walked e) Unwalked h in
    let longer : length stack ≡ length init + 1 = ap length is ∙ length-append init (top ∷ []) in
    omega arith

-- the faults of a walk

pub first_fails : (ms : List ModuleTree) (declared : List CodeDeclaration) (at : ℕ) (x : CodeDeclaration) → at < length declared → x ≡ get_or declared at x → (f : ElaborateFault) → EnterFails x.home.now x.protocol.now f → WalkFails ms (shown declared) at f
first_fails ms declared at x h is (elaborate.Broken f) e = λ d p.
    let there : slice_get (shown declared) at ≡ Some (declaration_of x) =
    entry_there declared at x h ∙ ap (λ y. Some (declaration_of y)) (sym is) in
    let same : declaration_of x ≡ d = cc (there, p) in
    (declaration_of x, subst (λ r. Reaches ms r (declaration_of x)) same itself, e.0, e.1 ms d)
first_fails ms declared at x h is elaborate.OutOfMemory e = tt

pub next_fails : (ms : List ModuleTree) (declared : List CodeDeclaration) (at : ℕ) (states : List State) (stack init : List ℕ) (top to : ℕ) (x : CodeDeclaration) → stack ≡ init ++ top ∷ [] → x ≡ get_or declared to x
    → IsWalkFrom ms declared at states stack → IsNext ms declared states top to → (f : ElaborateFault) → EnterFails x.home.now x.protocol.now f → WalkFails ms (shown declared) at f
next_fails ms declared at states stack init top to x is entry w n (elaborate.Broken f) e = λ d p.
    let walk = subst (λ s. IsWalk ms (shown declared) at w.root states s) is w.walk in
    let same : w.root ≡ d = cc (w.there, p) in
    let target = called_entry ms declared states top to x n entry in
    let reach = reaches_on (walk.reached (length init) top n.from (get_last init top) n.here) n.call.occurs n.call.there in
    (declaration_of x, subst (λ r. Reaches ms r (declaration_of x)) same (subst (Reaches ms w.root) target reach), e.0, e.1 ms d)
next_fails ms declared at states stack init top to x is entry w n elaborate.OutOfMemory e = tt

pub broken_fails : (ms : List ModuleTree) (declared : List CodeDeclaration) (at : ℕ) (states seen : List State) (stack init : List ℕ) (top : ℕ) (x : CodeDeclaration) (b : BrokenRule) (s : CheckError) → stack ≡ init ++ top ∷ [] → x ≡ get_or declared top x
    → IsWalkFrom ms declared at states stack → s ≡ Broken b → TopStops ms (shown declared) seen top s → (f : ElaborateFault) → IsFaultIn x.home.now b f → WalkFails ms (shown declared) at f
broken_fails ms declared at states seen stack init top x b s is entry w stop h f returned =
    let walk = subst (λ s. IsWalk ms (shown declared) at w.root states s) is w.walk in
    let within = top_within ms declared at states stack init top is w in
    let here : slice_get (shown declared) top ≡ Some (declaration_of x) =
    entry_there declared top x within ∙ ap (λ y. Some (declaration_of y)) (sym entry) in
    let stops = subst (λ y. TopStops ms (shown declared) seen top y) stop h in
    let reach = walk.reached (length init) top (declaration_of x) (get_last init top) here in
    ⊎_elim (λ e. subst (WalkFails ms (shown declared) at) (sym e) (λ d p. let same : w.root ≡ d = cc (w.there, p) in (declaration_of x, subst (λ r. Reaches ms r (declaration_of x)) same reach, refl, stops d (declaration_of x) here))) (λ e. subst (WalkFails ms (shown declared) at) (sym e) tt) returned

pub ended_from : (ms : List ModuleTree) (declared : List CodeDeclaration) (at : ℕ) (states : List State) (stack : List ℕ) → stack ≡ [] → IsWalkFrom ms declared at states stack → WasWalked ms (shown declared) states at
ended_from ms declared at states stack none w = λ d p.
    let walk = subst (λ s. IsWalk ms (shown declared) at w.root states s) none w.walk in
    let same : w.root ≡ d = cc (w.there, p) in
    subst (λ r. (s : Summary) × (slice_get states at ≡ Some (Walked s)) × IsSummary ms r s) same (ended ms (shown declared) at w.root states w.there walk)

pub summaries_from : (ms : List ModuleTree) (declared : List CodeDeclaration) (at : ℕ) (states : List State) (stack : List ℕ) → IsWalkFrom ms declared at states stack → AreSummaries ms (shown declared) states
summaries_from ms declared at states stack w = record { all = w.walk.states_all; each = w.walk.walked }

pub idle_from : (ms : List ModuleTree) (declared : List CodeDeclaration) (at : ℕ) (states : List State) (stack : List ℕ) → stack ≡ [] → IsWalkFrom ms declared at states stack → IsIdle ms (shown declared) states
idle_from ms declared at states stack none w = record {
  kept = summaries_from ms declared at states stack w;
  ended =
      λ k q. let p = (subst (λ s. IsWalk ms (shown declared) at w.root states s) none w.walk).listed k q in absurd (cc (p.1));
}

-- where no protocol was walked
pub idle_before : (ms : List ModuleTree) (declared : List CodeDeclaration) (states : List State) → AreUnwalked (length declared) states → IsIdle ms (shown declared) states
idle_before ms declared states u = record {
  kept =
      record { all = u.long ∙ sym (length-map declared declaration_of); each = λ k d s p q. let e = u.fresh k (Walked s) q in absurd (cc e) };
  ended = λ k q. let e = u.fresh k Walking q in absurd (cc e);
}

pub no_items : (xs : List ℕ) → length xs ≡ 0 → xs ≡ []
no_items [] e = refl
no_items (x ∷ xs) e = absurd (omega arith)

-- the last one is the protocol whose statements are checked
same_top : (declared : List CodeDeclaration) (k : ℕ) (x : CodeDeclaration) (d : Declaration) → x ≡ get_or declared k x → slice_get (shown declared) k ≡ Some d → declaration_of x ≡ d
same_top declared k x d is here = sym (entry_is declared k d x here ∙ ap declaration_of (sym is))

-- what stopped the check of the last one
pub top_stops : (p : CheckContext) (k : ℕ) (e : CheckError) → p.at ≡ get_or p.declared.now k p.at → StopsAt p e → TopStops p.modules.now (shown p.declared.now) p.states.now k e
top_stops p k (Broken b) is stops = λ root d here.
    subst (λ y. Fails b.kind p.modules.now root y b.spot) (same_top p.declared.now k p.at d is here) (stops root)
top_stops p k (Call to) is stops = λ d here.
    let same = same_top p.declared.now k p.at d is here in
    record {
      path = stops.path;
      roles = stops.roles;
      spot = stops.spot;
      occurs = subst (λ y. HasStatement y (Calls stops.path stops.roles stops.spot)) same stops.occurs;
      to = stops.to;
      there = subst (λ (y : Declaration). called p.modules.now y.home stops.path ≡ Some stops.to) same stops.there;
      at = stops.at;
      unwalked = stops.unwalked;
    }
top_stops p k OutOfMemory is stops = tt

-- what the check of the last one found
pub block_kept : (ms : List ModuleTree) (declared : List CodeDeclaration) (k : ℕ) (x : CodeDeclaration) (d : Declaration) (a b c : List Statement) (s : Summary) → slice_get (shown declared) k ≡ Some d → x ≡ get_or declared k x
    → a ≡ x.protocol.now.body → b ≡ x.protocol.now.body → c ≡ x.protocol.now.body → BlockKeeps ms (declaration_of x) [] true (body_of a) s.exits → BlockHasSize ms (declaration_of x) (body_of b) s.size
    → HasEffect ms (declaration_of x) (body_of c) s.effect → IsBlockKept ms d s
block_kept ms declared k x d a b c s here is p q r keeps has_size has_effect =
    let same = same_top declared k x d is here in
    subst (λ y. IsBlockKept ms y s) same (record {
      keeps = subst (λ y. BlockKeeps ms (declaration_of x) [] true (body_of y) s.exits) p keeps;
      has_size = subst (λ y. BlockHasSize ms (declaration_of x) (body_of y) s.size) q has_size;
      has_effect = subst (λ y. HasEffect ms (declaration_of x) (body_of y) s.effect) r has_effect;
    })

-- the size of the protocol at which the walk began

pub small_at : (ms : List ModuleTree) (ds : List Declaration) (states : List State) (at : ℕ) (s : Summary) → slice_get states at ≡ Some (Walked s) → (s.size.nodes.base < 65536) × (height_at s.size.height 0 < 4096) → WasWalked ms ds states at → IsSmall ms ds at (s.size.nodes.base + 1)
small_at ms ds states at s walked below w = λ d here.
    let (t, there, kept) = w d here in
    let same : t ≡ s = cc (there, walked) in
    let g = subst (IsSummary ms d) same kept in
    let (n, counted, agree) = g.has_size.nodes 0 in
    let (m, measured, alike) = g.has_size.height 0 in
    let is : n + 1 ≡ s.size.nodes.base + 1 = omega (arith, agree, below.0) in
    record {
      counted = subst (λ k. NodesOf ms d k) is counted;
      small = omega (arith, below.0);
      height = m + 1;
      measured = measured;
      short = omega (arith, alike, below.1);
    }

pub large_fails : (ms : List ModuleTree) (declared : List CodeDeclaration) (states : List State) (at : ℕ) (x : CodeDeclaration) (s : Summary) → at < length declared → x ≡ get_or declared at x → slice_get states at ≡ Some (Walked s) → (65536 ≤ s.size.nodes.base) ⊎ (4096 ≤ height_at s.size.height 0)
    → WasWalked ms (shown declared) states at → (f : ElaborateFault) → IsFaultIn x.home.now (record { kind = kind.TooLarge; spot = x.protocol.now.spot }) f → WalkFails ms (shown declared) at f
large_fails ms declared states at x s h is walked above w f returned =
    ⊎_elim (λ e. subst (WalkFails ms (shown declared) at) (sym e) (λ d p. fault_at d p)) (λ e. subst (WalkFails ms (shown declared) at) (sym e) tt) returned
  where
    there : slice_get (shown declared) at ≡ Some (declaration_of x)
    there = entry_there declared at x h ∙ ap (λ y. Some (declaration_of y)) (sym is)

    too_large : IsTooLarge ms (declaration_of x)
    too_large =
        let (t, found, kept) = w (declaration_of x) there in
        let same : t ≡ s = cc (found, walked) in
        let g = subst (IsSummary ms (declaration_of x)) same kept in
        let (n, counted, agree) = g.has_size.nodes 0 in
        let (m, measured, alike) = g.has_size.height 0 in
        ⊎_elim (λ large. inl (n + 1, counted, omega (arith, agree, large))) (λ high. inr (m + 1, measured, omega (arith, alike, high))) above

    fault_at : (d : Declaration) → slice_get (shown declared) at ≡ Some d → (place : Declaration) × Reaches ms d place × (x.home.now.name ≡ place.home.name) × Fails kind.TooLarge ms d place x.protocol.now.spot
    fault_at d p =
        let same : declaration_of x ≡ d = cc (there, p) in
        (declaration_of x, subst (λ r. Reaches ms r (declaration_of x)) same itself, refl, (same, too_large, refl))

pub not_walked : (ms : List ModuleTree) (declared : List CodeDeclaration) (states : List State) (at : ℕ) → at < length declared → ((s : Summary) → slice_get states at ≢ Some (Walked s)) → WasWalked ms (shown declared) states at → ⊥
not_walked ms declared states at h other w = found declared h w
  where
    found : (xs : List CodeDeclaration) → at < length xs → WasWalked ms (shown xs) states at → ⊥
    found [] k w = absurd (omega arith)
    found (x ∷ xs) k w = let (s, e, kept) = w (declaration_of (get_or (x ∷ xs) at x)) (entry_there (x ∷ xs) at x k) in other s e
