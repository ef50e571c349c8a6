-- The effect of a block, statement by statement.
use Rattle.std.proofs.Common.{◌≡◌, ◌≢◌, ◌⊎◌, inl, inr, ◌+◌, ◌||◌, Option, None, option_map, ℕ, zero, suc, Bool, true, false, ◌==◌, not, List, [], ◌∷◌, length, get_or, Some, if◌then◌else◌, refl, sym, ap, ◌∙◌, subst, ⊎_elim, arith, tests}
use Rattle.std.specs.List.{slice_get}
use Rattle.std.proofs.lemmas.List.{length-map}
use Rattle.std.proofs.lemmas.Option.{slice_get_within}
use Rattle.scrib_types.specs.declared.message.Message.{Message}
use Rattle.std.specs.Str.{bytes_eq}
use Rattle.std.proofs.lemmas.Slice.Eq.{bytes_eq-Decides}
use Rattle.std.proofs.lemmas.Bool.{both_ways, and_parts, or_left, or_right, not-true, eq-eqb}
use Rattle.scrib_types.specs.declared.spot.Spot.{Spot}
use Rattle.scrib_types.specs.WellFormed.{has_role, distinct_roles}
use Rattle.scrib_tree.specs.declared.tree.ModuleTree.{ModuleTree}
use Rattle.scrib_tree.specs.declared.tree.Block.{Block}
use Rattle.scrib_tree.specs.declared.tree.RoleDeclaration.{RoleDeclaration}
use Rattle.scrib_static_checks.specs.declared.checking.CheckContext.{CheckContext}
use Rattle.scrib_static_checks.specs.declared.checking.Summary.{Summary}
use Rattle.scrib_static_checks.specs.declared.effect.CallEffect.{CallEffect}
use Rattle.scrib_static_checks.specs.declared.effect.CallEffect.TheVariants.{Nothing, Joining, Other}
use Rattle.scrib_static_checks.specs.Source.{Body, Done, Then, Statement, Sends, Chooses, Repeats, Continues, Calls, Blocks, NoBlock, OrBlock}
use Rattle.scrib_static_checks.specs.SourceView.{body_of, blocks_of}
use Rattle.scrib_static_checks.specs.Names.{Declaration, roles_of, declarations, called}
use Rattle.scrib_static_checks.specs.Elaboration.{given_for}
use Rattle.scrib_static_checks.specs.Joining.{AddsNothing, nothing_ends, nothing_repeats, nothing_calls, OnlyJoins, only_ends, only_chooses, only_repeats, only_passes, only_calls, BeginsAt, begins_here, begins_in_rec, begins_in_call, begins_later}
use Rattle.scrib_static_checks.specs.Table.{protocol_at, IsConsistent, IsOwnPlace, IsSummary, IsCallKept}
use Rattle.scrib_static_checks.proofs.RuleLemmas.{of_calls, of_protocol}
use Rattle.scrib_static_checks.specs.CallEffect.{IsChoiceAt, JoinsBy, AddsMore, HasEffect, IsEffectOf, both, place_of, joining_at, IsGiven}

-- by the first statement

abbrev pub NothingFirst : List ModuleTree → Declaration → Statement → Type 0
NothingFirst ms d (Sends m p qs s) = ⊥
NothingFirst ms d (Chooses p bs s) = ⊥
NothingFirst ms d (Repeats x c s) = AddsNothing ms d c
NothingFirst ms d (Continues x s) = ⊥
NothingFirst ms d (Calls path roles s) =
    (c : Declaration) × (called ms d.home path ≡ Some c) × AddsNothing ms c (body_of c.protocol.body)

-- the called protocol only joins by a role for which this one is passed
abbrev pub JoinsCalled : List ModuleTree → Declaration → (roles : List (List ℕ)) (p : List ℕ) → Type 0
JoinsCalled ms c roles p =
    (q : List ℕ) × (has_role q (roles_of c) ≡ true) × (given_for (roles_of c) roles q ≡ p) × OnlyJoins ms c q (body_of c.protocol.body) × (length roles ≡ length (roles_of c))

abbrev pub OnlyFirst : List ModuleTree → Declaration → (p : List ℕ) → Statement → Type 0
OnlyFirst ms d p (Sends m q qs s) = ⊥
OnlyFirst ms d p (Chooses q bs s) =
    (p ≡ q) × (c : Body) × (t : Spot) × (bs ≡ OrBlock c t NoBlock) × OnlyJoins ms d p c
OnlyFirst ms d p (Repeats x c s) = OnlyJoins ms d p c
OnlyFirst ms d p (Continues x s) = ⊥
OnlyFirst ms d p (Calls path roles s) =
    (c : Declaration) × (called ms d.home path ≡ Some c) × (AddsNothing ms c (body_of c.protocol.body) ⊎ JoinsCalled ms c roles p)

pub nothing_view : {ms : List ModuleTree} {d : Declaration} {s : Statement} {b : Body} → AddsNothing ms d (Then s b) → NothingFirst ms d s × AddsNothing ms d b
nothing_view (nothing_repeats k l) = (k, l)
nothing_view (nothing_calls {c = c} e k l) = ((c, e, k), l)

pub only_view : {ms : List ModuleTree} {d : Declaration} {p : List ℕ} {s : Statement} {b : Body} → OnlyJoins ms d p (Then s b) → OnlyFirst ms d p s × OnlyJoins ms d p b
only_view (only_chooses {c = c} {t = t} k l) = ((refl, c, t, refl, k), l)
only_view (only_repeats k l) = (k, l)
only_view (only_passes {c = c} e k l) = ((c, e, inl k), l)
only_view (only_calls {q = q} {c = c} e n h g k l) = ((c, e, inr (q, h, g, k, n)), l)

-- the first statement alone, and before others

nothing_first : {ms : List ModuleTree} {d : Declaration} {s : Statement} {b : Body} → AddsNothing ms d (Then s b) → AddsNothing ms d (Then s Done)
nothing_first (nothing_repeats k l) = nothing_repeats k nothing_ends
nothing_first (nothing_calls e k l) = nothing_calls e k nothing_ends

only_first : {ms : List ModuleTree} {d : Declaration} {p : List ℕ} {s : Statement} {b : Body} → OnlyJoins ms d p (Then s b) → OnlyJoins ms d p (Then s Done)
only_first (only_chooses k l) = only_chooses k only_ends
only_first (only_repeats k l) = only_repeats k only_ends
only_first (only_passes e k l) = only_passes e k only_ends
only_first (only_calls e n h g k l) = only_calls e n h g k only_ends

pub nothing_before : {ms : List ModuleTree} {d : Declaration} {s : Statement} {b : Body} → AddsNothing ms d (Then s Done) → AddsNothing ms d b → AddsNothing ms d (Then s b)
nothing_before (nothing_repeats k l) m = nothing_repeats k m
nothing_before (nothing_calls e k l) m = nothing_calls e k m

only_before : {ms : List ModuleTree} {d : Declaration} {p : List ℕ} {s : Statement} {b : Body} → OnlyJoins ms d p (Then s Done) → OnlyJoins ms d p b → OnlyJoins ms d p (Then s b)
only_before (only_chooses k l) m = only_chooses k m
only_before (only_repeats k l) m = only_repeats k m
only_before (only_passes e k l) m = only_passes e k m
only_before (only_calls e n h g k l) m = only_calls e n h g k m

begins_nowhere : {ms : List ModuleTree} {d home : Declaration} {t : Spot} → BeginsAt ms d Done home t → ⊥
begins_nowhere v = elim v [ ]

begins_before : {ms : List ModuleTree} {d home : Declaration} {s : Statement} {b : Body} {t : Spot} → BeginsAt ms d (Then s Done) home t → BeginsAt ms d (Then s b) home t
begins_before begins_here = begins_here
begins_before (begins_in_rec h) = begins_in_rec h
begins_before (begins_in_call e h) = begins_in_call e h
begins_before (begins_later a h) = absurd (begins_nowhere h)

-- what adds nothing joins by any role
pub only_of_nothing : {ms : List ModuleTree} {d : Declaration} {b : Body} (p : List ℕ) → AddsNothing ms d b → OnlyJoins ms d p b
only_of_nothing p nothing_ends = only_ends
only_of_nothing p (nothing_repeats k l) = only_repeats (only_of_nothing p k) (only_of_nothing p l)
only_of_nothing p (nothing_calls e k l) = only_passes e k (only_of_nothing p l)

given_alike : (ds gs : List (List ℕ)) (y z p q : List ℕ) → given_for ds gs y ≡ p → y ≡ z → given_for ds gs z ≡ q → p ≡ q
given_alike ds gs y z p q e f h = sym e ∙ ap (given_for ds gs) f ∙ h

-- what joins by two roles adds nothing
pub joins_alike : {ms : List ModuleTree} {d : Declaration} {p : List ℕ} {b : Body} → OnlyJoins ms d p b → (q : List ℕ) → OnlyJoins ms d q b → AddsNothing ms d b ⊎ (p ≡ q)
joins_alike only_ends q m = inl nothing_ends
joins_alike (only_chooses k l) q m = inr (sym (only_view m).0.0)
joins_alike (only_repeats k l) q m =
    let v = only_view m in
    ⊎_elim (λ a. ⊎_elim (λ b. inl (nothing_repeats a b)) (λ e. inr e) (joins_alike l q v.1)) (λ e. inr e) (joins_alike k q v.0)
joins_alike (only_passes e k l) q m =
    ⊎_elim (λ b. inl (nothing_calls e k b)) (λ f. inr f) (joins_alike l q (only_view m).1)
joins_alike {ms = ms} (only_calls {p = p} {q = z} {roles = roles} {c = c} e n h g k l) q m =
    let v = only_view m in
    let same : v.0.0 ≡ c = cc (v.0.1, e) in
    let other = subst (λ x. AddsNothing ms x (body_of x.protocol.body) ⊎ JoinsCalled ms x roles q) same v.0.2 in
    let more = joins_alike l q v.1 in
    ⊎_elim (λ a. ⊎_elim (λ b. inl (nothing_calls e a b)) (λ f. inr f) more) (λ w. ⊎_elim (λ a. ⊎_elim (λ b. inl (nothing_calls e a b)) (λ f. inr f) more) (λ f. inr (given_alike (roles_of c) roles z w.0 p q g f w.2)) (joins_alike k w.0 w.3)) other

joins_one : {ms : List ModuleTree} {d : Declaration} {b : Body} {k at : ℕ} {spot : Spot} (h : JoinsBy ms d b k at spot) (q : List ℕ) → OnlyJoins ms d q b → h.role ≡ q
joins_one h q m = ⊎_elim (λ a. absurd (h.something a)) (λ e. e) (joins_alike h.only q m)

-- the place of a role

pub placed_at : (r : List ℕ) (ds : List (List ℕ)) (k : ℕ) → place_of r ds ≡ Some k → slice_get ds k ≡ Some r
placed_at r [] k e = absurd (cc e)
placed_at r (d ∷ ds) k e =
    at (bytes_eq r d) (λ t. sym ((bytes_eq-Decides r d).0 t)) (place_of r ds) (λ j f. placed_at r ds j f) e
  where
    at : (t : Bool) → (t ≡ true → d ≡ r) → (o : Option ℕ) → ((j : ℕ) → o ≡ Some j → slice_get ds j ≡ Some r) → (if t then Some 0 else option_map (λ j. j + 1) o) ≡ Some k → slice_get (d ∷ ds) k ≡ Some r
    at true same o more f =
        let first : 0 ≡ k = cc f in
        subst (λ j. slice_get (d ∷ ds) j ≡ Some r) first (ap Some (same refl))
    at false same None more f = absurd (cc f)
    at false same (Some j) more f =
        let next : j + 1 ≡ k = cc f in
        let step : suc j ≡ k = omega (arith, next) in
        subst (λ i. slice_get (d ∷ ds) i ≡ Some r) step (more j refl)

not_placed : (r : List ℕ) (ds : List (List ℕ)) → place_of r ds ≡ None → has_role r ds ≡ false
not_placed r [] e = refl
not_placed r (d ∷ ds) e = at (bytes_eq r d) (place_of r ds) (λ f. not_placed r ds f) e
  where
    at : (t : Bool) → (o : Option ℕ) → (o ≡ None → has_role r ds ≡ false) → (if t then Some 0 else option_map (λ j. j + 1) o) ≡ None → (t || has_role r ds) ≡ false
    at true o more f = absurd (cc f)
    at false None more f = more refl
    at false (Some j) more f = absurd (cc f)

pub role_at : (ds : List (List ℕ)) (k : ℕ) (r : List ℕ) → slice_get ds k ≡ Some r → has_role r ds ≡ true
role_at [] k r e = absurd (cc e)
role_at (d ∷ ds) zero r e =
    let same : r ≡ d = cc e in
    or_left (bytes_eq r d) (has_role r ds) ((bytes_eq-Decides r d).1 same)
role_at (d ∷ ds) (suc k) r e = or_right (bytes_eq r d) (has_role r ds) (role_at ds k r e)

placed_role : (r : List ℕ) (ds : List (List ℕ)) (k : ℕ) → place_of r ds ≡ Some k → has_role r ds ≡ true
placed_role r ds k e = role_at ds k r (placed_at r ds k e)

-- the role that is passed at a place
pub given_at : (ds gs : List (List ℕ)) (k : ℕ) (r g : List ℕ) → distinct_roles ds ≡ true → slice_get ds k ≡ Some r → slice_get gs k ≡ Some g → given_for ds gs r ≡ g
given_at [] gs k r g apart there here = absurd (cc there)
given_at (d ∷ ds) [] k r g apart there here = absurd (cc here)
given_at (d ∷ ds) (h ∷ gs) zero r g apart there here =
    let same : r ≡ d = cc there in
    let found : h ≡ g = cc here in
    rw ((bytes_eq-Decides r d).1 same) found
given_at (d ∷ ds) (h ∷ gs) (suc k) r g apart there here =
    let parts = and_parts (not (has_role d ds)) (distinct_roles ds) apart in
    found (bytes_eq r d) (λ e. both_ways (has_role d ds) (not-true (has_role d ds) parts.0) (subst (λ x. has_role x ds ≡ true) ((bytes_eq-Decides r d).0 e) (role_at ds k r there))) (given_at ds gs k r g parts.1 there here)
  where
    found : (b : Bool) → (b ≡ true → ⊥) → given_for ds gs r ≡ g → (if b then h else given_for ds gs r) ≡ g
    found true other e = absurd (other refl)
    found false other e = e

-- how the whole block follows from what is left of it, where the statements so far add nothing
pub record AddsSoFar (ms : List ModuleTree) (d : Declaration) (whole rest : Body) : Type 0 where
  pub nothing_up : AddsNothing ms d rest → AddsNothing ms d whole
  pub nothing_down : AddsNothing ms d whole → AddsNothing ms d rest
  pub only_up : (p : List ℕ) → OnlyJoins ms d p rest → OnlyJoins ms d p whole
  pub only_down : (p : List ℕ) → OnlyJoins ms d p whole → OnlyJoins ms d p rest
  pub begins_up : (home : Declaration) (s : Spot) → BeginsAt ms d rest home s → BeginsAt ms d whole home s

-- and where they join by the role at this place
pub record JoinsSoFar (ms : List ModuleTree) (d : Declaration) (whole rest : Body) (k at : ℕ) (spot : Spot) : Type 0 where
  pub role : List ℕ
  pub there : place_of role (roles_of d) ≡ Some k
  pub first : IsChoiceAt ms d whole at spot
  pub up : OnlyJoins ms d role rest → OnlyJoins ms d role whole
  pub down : OnlyJoins ms d role whole → OnlyJoins ms d role rest
  pub something : AddsNothing ms d whole → ⊥
  pub alone : (q : List ℕ) → OnlyJoins ms d q whole → role ≡ q

-- the effect of the statements so far
abbrev pub IsPartialEffect : List ModuleTree → Declaration → (whole : Body) → CallEffect → (rest : Body) → Type 0
IsPartialEffect ms d whole Nothing rest = AddsSoFar ms d whole rest
IsPartialEffect ms d whole (Joining k at spot) rest = JoinsSoFar ms d whole rest k at spot
IsPartialEffect ms d whole Other rest = AddsMore ms d whole

pub begin_effect : (ms : List ModuleTree) (d : Declaration) (whole : Body) → IsPartialEffect ms d whole Nothing whole
begin_effect ms d whole = record {
  nothing_up = λ k. k;
  nothing_down = λ k. k;
  only_up = λ p k. k;
  only_down = λ p k. k;
  begins_up = λ home s h. h;
}

pub end_effect : (ms : List ModuleTree) (d : Declaration) (whole : Body) (f : CallEffect) (rest : Body) → rest ≡ Done → IsPartialEffect ms d whole f rest → HasEffect ms d whole f
end_effect ms d whole Nothing rest is l = l.nothing_up (subst (AddsNothing ms d) (sym is) nothing_ends)
end_effect ms d whole (Joining k at spot) rest is l = record {
  role = l.role;
  there = l.there;
  only = l.up (subst (OnlyJoins ms d l.role) (sym is) only_ends);
  something = l.something;
  first = l.first;
}
end_effect ms d whole Other rest is l = l

same_joins : (ms : List ModuleTree) (d : Declaration) (whole b : Body) (s : Statement) (k j at to : ℕ) (spot other : Spot) (e : Bool)
    → (e ≡ true → k ≡ j) → (e ≡ false → k ≡ j → ⊥) → IsPartialEffect ms d whole (Joining k at spot) (Then s b) → JoinsBy ms d (Then s Done) j to other → IsPartialEffect ms d whole (if e then Joining k at spot else Other) b
same_joins ms d whole b s k j at to spot other true same apart l t =
    let here = placed_at l.role (roles_of d) k l.there in
    let there = placed_at t.role (roles_of d) j t.there in
    let one : l.role ≡ t.role = cc (here, there, same refl) in
    record {
      role = l.role;
      there = l.there;
      first = l.first;
      up = λ m. l.up (only_before (subst (λ x. OnlyJoins ms d x (Then s Done)) (sym one) t.only) m);
      down = λ m. (only_view (l.down m)).1;
      something = l.something;
      alone = l.alone;
    }
same_joins ms d whole b s k j at to spot other false same apart l t = record {
  something = l.something;
  more =
      λ q r m. let one = l.alone q m in let two = joins_one t q (only_first (subst (λ x. OnlyJoins ms d x (Then s b)) one (l.down (subst (λ x. OnlyJoins ms d x whole) (sym one) m)))) in let place : k ≡ j = cc (l.there, t.there, one, two) in apart refl place;
}

more_effect : (ms : List ModuleTree) (d : Declaration) (whole : Body) (f t : CallEffect) (s : Statement) (b : Body) → HasEffect ms d (Then s Done) t → IsPartialEffect ms d whole f (Then s b) → IsPartialEffect ms d whole (both f t) b
more_effect ms d whole Nothing Nothing s b h l = record {
  nothing_up = λ k. l.nothing_up (nothing_before h k);
  nothing_down = λ k. (nothing_view (l.nothing_down k)).1;
  only_up = λ p k. l.only_up p (only_before (only_of_nothing p h) k);
  only_down = λ p k. (only_view (l.only_down p k)).1;
  begins_up = λ home t k. l.begins_up home t (begins_later h k);
}
more_effect ms d whole Nothing (Joining k at spot) s b h l = record {
  role = h.role;
  there = h.there;
  first = record {
    home = h.first.home;
    there = h.first.there;
    first = l.begins_up h.first.home spot (begins_before h.first.first);
  };
  up = λ m. l.only_up h.role (only_before h.only m);
  down = λ m. (only_view (l.only_down h.role m)).1;
  something = λ m. h.something (nothing_first (l.nothing_down m));
  alone = λ q m. joins_one h q (only_first (l.only_down q m));
}
more_effect ms d whole Nothing Other s b h l = record {
  something = λ m. h.something (nothing_first (l.nothing_down m));
  more = λ p r m. h.more p r (only_first (l.only_down p m));
}
more_effect ms d whole (Joining k at spot) Nothing s b h l = record {
  role = l.role;
  there = l.there;
  first = l.first;
  up = λ m. l.up (only_before (only_of_nothing l.role h) m);
  down = λ m. (only_view (l.down m)).1;
  something = l.something;
  alone = l.alone;
}
more_effect ms d whole (Joining k at spot) (Joining j to other) s b h l =
    same_joins ms d whole b s k j at to spot other (k == j) (λ e. search (tests, e)) (λ e i. both_ways (k == j) e (eq-eqb k j i)) l h
more_effect ms d whole (Joining k at spot) Other s b h l = record {
  something = l.something;
  more =
      λ q r m. let one = l.alone q m in h.more l.role (placed_role l.role (roles_of d) k l.there) (only_first (l.down (subst (λ x. OnlyJoins ms d x whole) (sym one) m)));
}
more_effect ms d whole Other t s b h l = l

pub step_effect : (ms : List ModuleTree) (d : Declaration) (whole : Body) (f t r : CallEffect) (b c : Body) (s : Statement)
    → b ≡ Then s c → r ≡ both f t → HasEffect ms d (Then s Done) t → IsPartialEffect ms d whole f b → IsPartialEffect ms d whole r c
step_effect ms d whole f t r b c s is e h l =
    subst (λ x. IsPartialEffect ms d whole x c) (sym e) (more_effect ms d whole f t s c h (subst (λ x. IsPartialEffect ms d whole f x) is l))

-- the forms of statement

pub message_effect_of : (ms : List ModuleTree) (d : Declaration) (t : Statement) (m : Message) (p : List ℕ) (qs : List (List ℕ)) (s : Spot) → t ≡ Sends m p qs s → HasEffect ms d (Then t Done) Other
message_effect_of ms d t m p qs s is =
    subst (λ y. HasEffect ms d (Then y Done) Other) (sym is) (record {
      something = λ k. (nothing_view k).0;
      more = λ q r k. (only_view k).0;
    })

pub continue_effect_of : (ms : List ModuleTree) (d : Declaration) (t : Statement) (x : List ℕ) (s : Spot) → t ≡ Continues x s → HasEffect ms d (Then t Done) Other
continue_effect_of ms d t x s is =
    subst (λ y. HasEffect ms d (Then y Done) Other) (sym is) (record {
      something = λ k. (nothing_view k).0;
      more = λ q r k. (only_view k).0;
    })

loop_effect_of : (ms : List ModuleTree) (d : Declaration) (x : List ℕ) (c : Body) (s : Spot) (f : CallEffect) → HasEffect ms d c f → HasEffect ms d (Then (Repeats x c s) Done) f
loop_effect_of ms d x c s Nothing h = nothing_repeats h nothing_ends
loop_effect_of ms d x c s (Joining k at spot) h = record {
  role = h.role;
  there = h.there;
  only = only_repeats h.only only_ends;
  something = λ m. h.something (nothing_view m).0;
  first = record { home = h.first.home; there = h.first.there; first = begins_in_rec h.first.first };
}
loop_effect_of ms d x c s Other h = record { something = λ m. h.something (nothing_view m).0; more = λ p r m. h.more p r (only_view m).0 }

pub rec_effect_of : (ms : List ModuleTree) (d : Declaration) (t : Statement) (x : List ℕ) (c whole : Body) (s : Spot) (f : CallEffect) → t ≡ Repeats x c s → whole ≡ c → HasEffect ms d whole f → HasEffect ms d (Then t Done) f
rec_effect_of ms d t x c whole s f is w h =
    subst (λ y. HasEffect ms d (Then y Done) f) (sym is) (loop_effect_of ms d x c s f (subst (λ y. HasEffect ms d y f) w h))

-- a choice of none or of several blocks
pub several_effect_of : (ms : List ModuleTree) (d : Declaration) (t : Statement) (p : List ℕ) (bs : List Block) (s : Spot) → t ≡ Chooses p (blocks_of bs) s → length bs ≢ 1 → HasEffect ms d (Then t Done) Other
several_effect_of ms d t p bs s is many =
    subst (λ y. HasEffect ms d (Then y Done) Other) (sym is) (record {
      something = λ k. (nothing_view k).0;
      more = λ q r k. let v = (only_view k).0 in not_one bs v.1 v.2 many v.3;
    })
  where
    not_one : (bs : List Block) (c : Body) (u : Spot) → length bs ≢ 1 → blocks_of bs ≡ OrBlock c u NoBlock → ⊥
    not_one [] c u n e = absurd (cc e)
    not_one (b ∷ []) c u n e = n (omega arith)
    not_one (b ∷ a ∷ bs) c u n e = absurd (cc e)

-- a choice of one block
one_choice : (ms : List ModuleTree) (d : Declaration) (p : List ℕ) (c : Body) (u s spot : Spot) (at : ℕ) (o : Option ℕ) (f : CallEffect) → place_of p (roles_of d) ≡ o → IsChoiceAt ms d (Then (Chooses p (OrBlock c u NoBlock) s) Done) at spot → HasEffect ms d c f
    → HasEffect ms d (Then (Chooses p (OrBlock c u NoBlock) s) Done) (both (joining_at o at spot) f)
one_choice ms d p c u s spot at None f there first h = record {
  something = λ k. (nothing_view k).0;
  more =
      λ q r k. both_ways (has_role p (roles_of d)) (not_placed p (roles_of d) there) (subst (λ x. has_role x (roles_of d) ≡ true) (only_view k).0.0 r);
}
one_choice ms d p c u s spot at (Some k) Nothing there first h = record {
  role = p;
  there = there;
  only = only_chooses (only_of_nothing p h) only_ends;
  something = λ m. (nothing_view m).0;
  first = first;
}
one_choice ms d p c u s spot at (Some k) (Joining j to other) there first h =
    same (k == j) (λ e. search (tests, e)) (λ e i. both_ways (k == j) e (eq-eqb k j i))
  where
    same : (e : Bool) → (e ≡ true → k ≡ j) → (e ≡ false → k ≡ j → ⊥) → HasEffect ms d (Then (Chooses p (OrBlock c u NoBlock) s) Done) (if e then Joining k at spot else Other)
    same true e apart =
        let here = placed_at p (roles_of d) k there in
        let inner = placed_at h.role (roles_of d) j h.there in
        let one : h.role ≡ p = cc (here, inner, e refl) in
        record {
          role = p;
          there = there;
          only = only_chooses (subst (λ x. OnlyJoins ms d x c) one h.only) only_ends;
          something = λ m. (nothing_view m).0;
          first = first;
        }
    same false e apart = record {
      something = λ m. (nothing_view m).0;
      more =
          λ q r m. let v = (only_view m).0 in let block : c ≡ v.1 = cc (v.3) in let one = joins_one h q (subst (λ x. OnlyJoins ms d q x) (sym block) v.4) in let by = v.0 in let place : k ≡ j = cc (there, h.there, one, by) in apart refl place;
    }
one_choice ms d p c u s spot at (Some k) Other there first h = record {
  something = λ m. (nothing_view m).0;
  more =
      λ q r m. let v = (only_view m).0 in let block : c ≡ v.1 = cc (v.3) in h.more q r (subst (λ x. OnlyJoins ms d q x) (sym block) v.4);
}

pub choice_effect_of : (ms : List ModuleTree) (d : Declaration) (t : Statement) (p : List ℕ) (bs : Blocks) (c : Body) (u s : Spot) (at : ℕ) (j f r : CallEffect)
    → t ≡ Chooses p bs s → bs ≡ OrBlock c u NoBlock → j ≡ joining_at (place_of p (roles_of d)) at s → slice_get (declarations ms) at ≡ Some d → HasEffect ms d c f → r ≡ both j f → HasEffect ms d (Then t Done) r
choice_effect_of ms d t p bs c u s at j f r is one by own h e =
    let same : t ≡ Chooses p (OrBlock c u NoBlock) s = is ∙ ap (λ x. Chooses p x s) one in
    let first : IsChoiceAt ms d (Then (Chooses p (OrBlock c u NoBlock) s) Done) at s = record { home = d; there = own; first = begins_here } in
    let effect : r ≡ both (joining_at (place_of p (roles_of d)) at s) f = e ∙ ap (λ x. both x f) by in
    subst (λ y. HasEffect ms d (Then y Done) r) (sym same) (subst (HasEffect ms d (Then (Chooses p (OrBlock c u NoBlock) s) Done)) (sym effect) (one_choice ms d p c u s s at (place_of p (roles_of d)) f refl first h))

-- a call, by what the called protocol is
called_as : (ms : List ModuleTree) (c e : Declaration) (roles : List (List ℕ)) (p : List ℕ) → e ≡ c → AddsNothing ms e (body_of e.protocol.body) ⊎ JoinsCalled ms e roles p → AddsNothing ms c (body_of c.protocol.body) ⊎ JoinsCalled ms c roles p
called_as ms c e roles p same v = subst (λ x. AddsNothing ms x (body_of x.protocol.body) ⊎ JoinsCalled ms x roles p) same v

more_called : (ms : List ModuleTree) (d : Declaration) (path roles : List (List ℕ)) (s : Spot) (c : Declaration) → called ms d.home path ≡ Some c → (AddsNothing ms c (body_of c.protocol.body) → ⊥)
    → ((p : List ℕ) → has_role p (roles_of d) ≡ true → JoinsCalled ms c roles p → ⊥) → AddsMore ms d (Then (Calls path roles s) Done)
more_called ms d path roles s c there something more = record {
  something =
      λ k. let v = (nothing_view k).0 in let same : v.0 ≡ c = cc (v.1, there) in something (subst (λ x. AddsNothing ms x (body_of x.protocol.body)) same v.2);
  more =
      λ p r k. let v = (only_view k).0 in let same : v.0 ≡ c = cc (v.1, there) in ⊎_elim something (more p r) (called_as ms c v.0 roles p same v.2);
}

joining_called : (ms : List ModuleTree) (d : Declaration) (path roles : List (List ℕ)) (s : Spot) (c : Declaration) (k at : ℕ) (spot : Spot) (role : List ℕ) (o : Option ℕ)
    → called ms d.home path ≡ Some c → distinct_roles (roles_of c) ≡ true → length roles ≡ length (roles_of c) → JoinsBy ms c (body_of c.protocol.body) k at spot → slice_get roles k ≡ Some role → place_of role (roles_of d) ≡ o
    → HasEffect ms d (Then (Calls path roles s) Done) (joining_at o at spot)
joining_called ms d path roles s c k at spot role None there apart long h here named =
    let declared = placed_at h.role (roles_of c) k h.there in
    more_called ms d path roles s c there h.something (λ p r v. let one = joins_one h v.0 v.3 in let given : role ≡ p = sym (given_at (roles_of c) roles k h.role role apart declared here) ∙ ap (given_for (roles_of c) roles) one ∙ v.2 in both_ways (has_role role (roles_of d)) (not_placed role (roles_of d) named) (subst (λ x. has_role x (roles_of d) ≡ true) (sym given) r))
joining_called ms d path roles s c k at spot role (Some j) there apart long h here named =
    let declared = placed_at h.role (roles_of c) k h.there in
    record {
      role = role;
      there = named;
      only = only_calls there long (role_at (roles_of c) k h.role declared) (given_at (roles_of c) roles k h.role role apart declared here) h.only only_ends;
      something =
          λ m. let v = (nothing_view m).0 in let same : v.0 ≡ c = cc (v.1, there) in h.something (subst (λ x. AddsNothing ms x (body_of x.protocol.body)) same v.2);
      first = record { home = h.first.home; there = h.first.there; first = begins_in_call there h.first.first };
    }

pub call_effect_of : (ms : List ModuleTree) (d : Declaration) (t : Statement) (path roles : List (List ℕ)) (s : Spot) (c : Declaration) (f r : CallEffect)
    → t ≡ Calls path roles s → called ms d.home path ≡ Some c → distinct_roles (roles_of c) ≡ true → length roles ≡ length (roles_of c) → HasEffect ms c (body_of c.protocol.body) f → IsGiven (roles_of d) roles f r
    → HasEffect ms d (Then t Done) r
call_effect_of ms d t path roles s c f r is there apart long h given =
    subst (λ y. HasEffect ms d (Then y Done) r) (sym is) (effect f h given)
  where
    effect : (f : CallEffect) → HasEffect ms c (body_of c.protocol.body) f → IsGiven (roles_of d) roles f r → HasEffect ms d (Then (Calls path roles s) Done) r
    effect Nothing h e = subst (HasEffect ms d (Then (Calls path roles s) Done)) (sym e) (nothing_calls there h nothing_ends)
    effect (Joining k at spot) h (inl short) =
        let inside = slice_get_within (roles_of c) k h.role (placed_at h.role (roles_of c) k h.there) in
        absurd (omega (arith, inside, short, long))
    effect (Joining k at spot) h (inr (role, here, e)) =
        subst (HasEffect ms d (Then (Calls path roles s) Done)) (sym e) (joining_called ms d path roles s c k at spot role (place_of role (roles_of d)) there apart long h here refl)
    effect Other h e =
        subst (HasEffect ms d (Then (Calls path roles s) Done)) (sym e) (more_called ms d path roles s c there h.something (λ p r v. h.more v.0 v.1 v.3))

-- what the check of a call shows of the called protocol's roles
pub called_roles : (p : CheckContext) (path roles : List (List ℕ)) (spot : Spot) (s : Summary) (k : IsCallKept p path roles spot s) → (distinct_roles (roles_of k.to) ≡ true) × (length roles ≡ length (roles_of k.to))
called_roles p path roles spot s k =
    let c = of_calls (k.keeps []) in
    let names = (of_protocol c.kept).names in
    let same : c.to ≡ k.to = cc (c.call.there, k.there) in
    let long : length (roles_of c.to) ≡ length c.to.protocol.roles = length-map c.to.protocol.roles (λ (r : RoleDeclaration). r.name) in
    (subst (λ x. distinct_roles (roles_of x) ≡ true) same names.roles, subst (λ x. length roles ≡ length (roles_of x)) same (c.call.count ∙ sym long))

-- the protocol is at its own index
pub own_place : (p : CheckContext) (own : ℕ) → IsConsistent p → IsOwnPlace p own → slice_get (declarations p.modules.now) own ≡ Some (protocol_at p)
own_place p own consistent there = ap (λ ds. slice_get ds own) (sym consistent.all) ∙ there

-- a list of blocks with one element
pub one_block : (bs : List Block) (b : Block) → length bs ≡ 1 → b ≡ get_or bs 0 b → blocks_of bs ≡ OrBlock (body_of b.body) b.spot NoBlock
one_block [] b n e = absurd (omega arith)
one_block (c ∷ []) b n e = ap (λ x. OrBlock (body_of x.body) x.spot NoBlock) (sym e)
one_block (c ∷ d ∷ bs) b n e = absurd (omega arith)

-- the summary of a protocol that was walked has its effect
pub effect_kept : (ms : List ModuleTree) (c : Declaration) (s : Summary) → IsSummary ms c s → IsEffectOf ms c s.effect
effect_kept ms c s h = inr ((of_protocol h.kept).names.roles, h.has_effect)
