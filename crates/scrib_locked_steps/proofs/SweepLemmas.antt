-- Sweeps: a turn of one conversation, and one conversation after another.
use Rattle.std.proofs.Common.{◌≡◌, ◌⊎◌, inl, inr, ℕ, zero, suc, ◌+◌, ◌*◌, ◌<◌, ◌≤◌, ◌&&◌, not, Bool, true, false, cond, if◌then◌else◌, List, length, get_or, Option, Some, None, IsSome, nat_eq, refl, sym, ap, subst, ◌∙◌, arith, true≢false}
use Rattle.std.specs.List.{IsDistinct, list_any}
use Rattle.std.specs.List.Sorted.{IsStrictlyIncreasing}
use Rattle.std.specs.Map.{set_value}
use Rattle.std.specs.Cmp.{nat_eq_equiv}
use Rattle.std.proofs.lemmas.Bool.{cases_eq, cases_lt}
use Rattle.std.proofs.lemmas.Bool.Decides.{Decides-eqb, nat_tests}
use Rattle.std.proofs.lemmas.List.{get_or_default}
use Rattle.std.proofs.lemmas.List.Kept.{AllPairs-from_increasing}
use Rattle.std.proofs.lemmas.Map.{lookup-set_value, keys-set_value}
use Rattle.std.proofs.lemmas.Map.Made.{IsDistinct-from_AllPairs}
use Rattle.std.proofs.lemmas.Map.Steps.{length-le_from_keys}
use Rattle.std.proofs.lemmas.Map.Views.{Contains-from_any}
use Rattle.scrib_types.specs.declared.event.Told.{Told}
use Rattle.scrib_types.specs.declared.event.Told.TheVariants.{Stale, Judged}
use Rattle.scrib_types.specs.declared.event.Verdict.{Verdict}
use Rattle.scrib_types.specs.declared.event.Verdict.TheVariants.{Permitted, Offence, Withdrawn}
use Rattle.scrib_record.specs.declared.comparison.Comparison.TheVariants.{Numbers}
use Rattle.scrib_record.specs.declared.version.Version.{Version}
use Rattle.scrib_record.specs.Stale.{Recorded, is_stale, is_present, is_final}
use Rattle.scrib_record.specs.Told.{IsTurned, judged_under}
use Rattle.scrib_record.specs.Turns.{present_alike, turn_judges}
use Rattle.scrib_record.specs.Versions.{meaning_of, number_of}
use Rattle.scrib_library.specs.Holdings.{Holdings, AreNumbered}
use Rattle.scrib_library.specs.Modules.{MeansOnce}
use Rattle.scrib_core.specs.Held.{Records, record_at}
use Rattle.scrib_core.specs.ConversationSteps.{IsPresent}
use Rattle.scrib_locked_steps.specs.Locked.{IsTurnedFor}
use Rattle.scrib_locked_steps.specs.Shards.{AreWithin}
use Rattle.scrib_locked_steps.specs.Sweeping.{IsStaleNow, IsFreshNow, IsStaleAt, IsFreshAt, AreSame, AreSameBut, AreStaleIds, IsStaleTurn, AreTurns, AreSwept, IsServedAt, IsTurnedUnder}
use Rattle.scrib_locked_steps.proofs.ServingLemmas.{stamps_serve}
use Rattle.scrib_locked_steps.proofs.ShardLemmas.{within_at}

pub same_some : {X : Type 0} (x y : X) → Some x ≡ Some y → x ≡ y
same_some x y e = cc

-- ---- records that are written

-- the record of an id after a record is written
at_written : (rs : Records) (id i : ℕ) (s r : Recorded) → record_at rs id ≡ Some r → record_at (set_value (nat_eq id) rs s) i ≡ cond (nat_eq id i) (Some s) (record_at rs i)
at_written rs id i s r e = lookup-set_value nat_eq_equiv (nat_eq id) one i s rs (subst IsSome (sym e) refl)
  where
    one : (x y : ℕ) → nat_eq id x ≡ true → nat_eq id y ≡ nat_eq x y
    one x y t = ap (λ (n : ℕ). nat_eq n y) ((Decides-eqb id x).0 t)

pub at_itself : (rs : Records) (id : ℕ) (s r : Recorded) → record_at rs id ≡ Some r → record_at (set_value (nat_eq id) rs s) id ≡ Some s
at_itself rs id s r e = at_written rs id id s r e ∙ ap (λ (b : Bool). cond b (Some s) (record_at rs id)) ((Decides-eqb id id).1 refl)

at_other : (rs : Records) (id i : ℕ) (s r : Recorded) → record_at rs id ≡ Some r → (id ≡ i → ⊥) → record_at (set_value (nat_eq id) rs s) i ≡ record_at rs i
at_other rs id i s r e other = by (nat_eq id i) refl
  where
    by : (b : Bool) → nat_eq id i ≡ b → record_at (set_value (nat_eq id) rs s) i ≡ record_at rs i
    by true d = absurd (other ((Decides-eqb id i).0 d))
    by false d = at_written rs id i s r e ∙ ap (λ (b : Bool). cond b (Some s) (record_at rs i)) d

-- ---- the same conversations

pub same_itself : (rs : Records) → AreSame rs rs
same_itself rs = record { ids = refl; each = λ id r e. (r, e, refl, refl) }

pub same_but_itself : (id : ℕ) (rs : Records) → AreSameBut id rs rs
same_but_itself id rs = record { same = same_itself rs; others = λ j other. refl }

same_twice : (a b c : Records) → AreSame a b → AreSame b c → AreSame a c
same_twice a b c x y = record {
  ids = y.ids ∙ x.ids;
  each = λ id r e.
      let q = y.each id r e in
      let p = x.each id q.0 q.1 in
      (p.0, p.1, q.2 ∙ p.2, q.3 ∙ p.3);
}

same_but_twice : (id : ℕ) (a b c : Records) → AreSameBut id a b → AreSameBut id b c → AreSameBut id a c
same_but_twice id a b c x y = record {
  same = same_twice a b c x.same y.same;
  others = λ j other. y.others j other ∙ x.others j other;
}

same_written : (rs : Records) (id : ℕ) (r s : Recorded) → record_at rs id ≡ Some r → s.name ≡ r.name → s.log ≡ r.log → AreSameBut id rs (set_value (nat_eq id) rs s)
same_written rs id r s there name log = record {
  same = record {
    ids = keys-set_value (nat_eq id) rs s;
    each = λ j q e. elim (cases_eq id j) [
      | inl at ↦
          (let both : Some s ≡ Some q = sym (at_itself rs id s r there) ∙ ap (record_at (set_value (nat_eq id) rs s)) at ∙ e in
          let is : s ≡ q = same_some s q both in
          (r, ap (record_at rs) (sym at) ∙ there, ap (λ (x : Recorded). x.name) (sym is) ∙ name, ap (λ (x : Recorded). x.log) (sym is) ∙ log))
      | inr other ↦ (q, sym (at_other rs id j s r there other) ∙ e, refl, refl)
    ];
  };
  others = λ j other. at_other rs id j s r there other;
}

-- ---- turns of stale records, counted

pub turns_more : (h : Holdings) (n : ℕ) (a b c : Records) → AreTurns h n a b → IsStaleTurn h b c → AreTurns h (n + 1) a c
turns_more h n a b c turns turn = let one : suc n ≡ n + 1 = omega arith in subst (λ (k : ℕ). AreTurns h k a c) one (b, turns, turn)

pub turns_both : (h : Holdings) (m n : ℕ) (a b c : Records) → AreTurns h m a b → AreTurns h n b c → AreTurns h (m + n) a c
turns_both h m zero a b c x y =
    let none : m ≡ m + zero = omega arith in
    subst (λ (k : ℕ). AreTurns h k a c) none (subst (AreTurns h m a) (sym y) x)
turns_both h m (suc n) a b c x y =
    let all : suc (m + n) ≡ m + suc n = omega arith in
    subst (λ (k : ℕ). AreTurns h k a c) all (y.0, turns_both h m n a b y.0 x y.1, y.2)

-- ---- turns of one conversation

-- a name has one version in a library, as far as a record can distinguish
alike : (h : Holdings) (name : List (List ℕ)) (p q held : Option Version) → AreNumbered h → MeansOnce h.modules → IsPresent h name p → IsPresent h name q → is_present p held ≡ is_present q held
alike h name None None held numbered once x y = refl
alike h name None (Some w) held numbered once x y = absurd (x.number (number_of w) y.number)
alike h name (Some v) None held numbered once x y = absurd (y.number (number_of v) x.number)
alike h name (Some v) (Some w) held numbered once x y =
    present_alike v w held (numbered.one name (number_of v) (number_of w) x.number y.number) (once name (meaning_of v) (meaning_of w) x.meaning y.meaning)

under_alike : (h : Holdings) (r : Recorded) (p q : Option Version) → AreNumbered h → MeansOnce h.modules → IsPresent h r.name p → IsPresent h r.name q → judged_under p r ≡ judged_under q r
under_alike h r p q numbered once x y = ap (λ (b : Bool). if b then r.judged else 0) (alike h r.name p q r.held numbered once x y)

stale_alike : (h : Holdings) (r : Recorded) (p q : Option Version) → AreNumbered h → MeansOnce h.modules → IsPresent h r.name p → IsPresent h r.name q → is_stale p r ≡ true → is_stale q r ≡ true
stale_alike h r p q numbered once x y stale =
    ap (λ (b : Bool). not (b && is_final r.verdict r.judged (length r.log))) (alike h r.name q p r.held numbered once y x) ∙ stale

-- after so many turns the record is stale, and 256 of its events are judged for each
pub record IsStaleAfter (h : Holdings) (turns : ℕ) (r : Recorded) : Type 0 where
  pub present : Option Version
  pub here : IsPresent h r.name present
  pub stale : is_stale present r ≡ true
  pub held : is_present present r.held ≡ true
  pub far : 256 * turns ≤ judged_under present r

-- the stale conversation had so many turns and is stale after each
pub record IsSwept (h : Holdings) (id turns : ℕ) (old now : Records) : Type 0 where
  pub but : AreSameBut id old now
  pub turned : AreTurns h turns old now
  pub of : Recorded
  pub there : record_at now id ≡ Some of
  pub stale : IsStaleNow h of
  pub after : (turns ≡ 0) ⊎ IsStaleAfter h turns of

not_final : (v : Verdict) (judged events : ℕ) → is_final v judged events ≡ false → judged < events
not_final Permitted judged events h = grind (arith, nat_tests)
not_final (Offence place role allowed) judged events h = absurd (true≢false h)
not_final Withdrawn judged events h = absurd (true≢false h)

-- a stale record that holds the present version has unjudged events
unjudged : (present : Option Version) (r : Recorded) → is_stale present r ≡ true → is_present present r.held ≡ true → judged_under present r < length r.log
unjudged present r stale held =
    let under : judged_under present r ≡ r.judged = ap (λ (b : Bool). if b then r.judged else 0) held in
    let below : r.judged < length r.log = not_final r.verdict r.judged (length r.log) (by (is_present present r.held) (is_final r.verdict r.judged (length r.log)) stale held) in
    omega (arith, under, below)
  where
    by : (p f : Bool) → not (p && f) ≡ true → p ≡ true → f ≡ false
    by true true s e = absurd (true≢false (sym s))
    by true false s e = refl
    by false f s e = absurd (true≢false (sym e))

-- one more turn that leaves it stale
stale_more : (h : Holdings) (turns : ℕ) (present : Option Version) (before after : Recorded) (answer : Told) → AreNumbered h → MeansOnce h.modules → IsPresent h before.name present
    → IsTurned present before after answer → is_stale present after ≡ true → (turns ≡ 0) ⊎ IsStaleAfter h turns before → IsStaleAfter h (turns + 1) after
stale_more h turns present before after answer numbered once here t stale so_far = record {
  present = present;
  here = subst (λ (n : List (List ℕ)). IsPresent h n present) (sym t.name) here;
  stale = stale;
  held = t.present;
  far = omega (arith, far so_far, turn_judges present before after answer t stale);
}
  where
    far : (turns ≡ 0) ⊎ IsStaleAfter h turns before → 256 * turns ≤ judged_under present before
    far (inl none) = omega arith
    far (inr s) = let same = under_alike h before s.present present numbered once s.here here in omega (arith, s.far, same)

-- after 4,096 turns no log has unjudged events
no_more : (h : Holdings) (id : ℕ) (old now : Records) → AreWithin old → IsSwept h id 4096 old now → ⊥
no_more h id old now within s =
    let q = s.but.same.each id s.of s.there in
    let short = (within_at old id q.0 within q.1).1 in
    let log : length s.of.log ≡ length q.0.log = ap length q.3 in
    elim s.after [
      | inl none ↦ absurd (omega (arith, none))
      | inr a ↦ omega (arith, a.far, unjudged a.present s.of a.stale a.held, log, short)
    ]

-- so a conversation that is still stale had fewer turns
pub fewer_turns : (h : Holdings) (id turns : ℕ) (old now : Records) → AreWithin old → turns ≤ 4096 → IsSwept h id turns old now → turns < 4096
fewer_turns h id turns old now within few s = elim (cases_lt turns 4096) [
  | inl fewer ↦ fewer
  | inr more ↦ (let end : turns ≡ 4096 = omega (arith, few, more) in
      absurd (no_more h id old now within (subst (λ (n : ℕ). IsSwept h id n old now) end s)))
]

module _ (h : Holdings) (id turns : ℕ) (old now new : Records) (numbered : AreNumbered h) (once : MeansOnce h.modules) (s : IsSwept h id turns old now) where
  -- a turn writes the record
  turned_same : (answer : Told) (x : IsTurnedFor h now id answer new) → AreSameBut id old new
  turned_same answer x =
      let t = x.2 in
      same_but_twice id old now new s.but
      (subst (AreSameBut id now) (sym t.put) (same_written now id t.before t.after t.there t.turned.name t.turned.log))

  turned_there : (answer : Told) (x : IsTurnedFor h now id answer new) → record_at new id ≡ Some x.2.after
  turned_there answer x = ap (λ (rs : Records). record_at rs id) x.2.put ∙ at_itself now id x.2.after x.2.before x.2.there

  -- the record that made the turn was stale
  pub swept_turn : (answer : Told) → IsTurnedFor h now id answer new → AreTurns h (turns + 1) old new
  swept_turn answer x =
      let t = x.2 in
      let same : s.of ≡ t.before = same_some s.of t.before (sym s.there ∙ t.there) in
      let was : IsStaleNow h t.before = subst (IsStaleNow h) same s.stale in
      turns_more h turns old now new s.turned
      (record { id = id; answer = answer; turned = x; stale = stale_alike h t.before was.0 t.present numbered once was.1 t.is_present was.2 })

  pub swept_stale : IsTurnedFor h now id Stale new → IsSwept h id (turns + 1) old new
  swept_stale x =
      let t = x.2 in
      let same : s.of ≡ t.before = same_some s.of t.before (sym s.there ∙ t.there) in
      record {
        but = turned_same Stale x;
        turned = swept_turn Stale x;
        of = t.after;
        there = turned_there Stale x;
        stale = (t.present, subst (λ (n : List (List ℕ)). IsPresent h n t.present) (sym t.turned.name) t.is_present, t.turned.told);
        after = inr (stale_more h turns t.present t.before t.after Stale numbered once t.is_present t.turned t.turned.told
            (subst (λ (r : Recorded). (turns ≡ 0) ⊎ IsStaleAfter h turns r) same s.after));
      }

  pub swept_fresh : (v : Verdict) → IsTurnedFor h now id (Judged v) new → AreSameBut id old new × IsFreshAt h new id
  swept_fresh v x = (
    turned_same (Judged v) x,
    λ r e.
        let t = x.2 in
        let is : t.after ≡ r = same_some t.after r (sym (turned_there (Judged v) x) ∙ e) in
        subst (IsFreshNow h) is (t.present, subst (λ (n : List (List ℕ)). IsPresent h n t.present) (sym t.turned.name) t.is_present, t.turned.told.0),
  )

  pub swept_refused : new ≡ now → AreSameBut id old new
  swept_refused e = subst (AreSameBut id old) (sym e) s.but

  pub swept_refused_turns : new ≡ now → AreTurns h turns old new
  swept_refused_turns e = subst (AreTurns h turns old) (sym e) s.turned

pub swept_none : (h : Holdings) (id : ℕ) (rs : Records) → IsStaleAt h rs id → IsSwept h id 0 rs rs
swept_none h id rs stale =
    record { but = same_but_itself id rs; turned = refl; of = stale.0; there = stale.1; stale = stale.2; after = inl refl }

-- ---- a turn under a version that was looked up

module _ (h : Holdings) (id : ℕ) (present : Option Version) (old new : Records) (answer : Told) (x : IsTurnedUnder present old id answer new) where
  -- it is a turn for the library whose version it is
  pub under_for : IsPresent h x.before.name present → IsTurnedFor h old id answer new
  under_for here = (
    x.after.name,
    length x.after.log,
    record {
      before = x.before;
      there = x.there;
      present = present;
      is_present = here;
      after = x.after;
      turned = x.turned;
      lawful = x.lawful;
      put = x.put;
      name_is = refl;
      events_are = refl;
    },
  )

  under_there : record_at new id ≡ Some x.after
  under_there = ap (λ (rs : Records). record_at rs id) x.put ∙ at_itself old id x.after x.before x.there

  -- the version is that of the name still
  pub under_here : IsPresent h x.before.name present → (r : Recorded) → record_at new id ≡ Some r → IsPresent h r.name present
  under_here here r e =
      let is : x.after ≡ r = same_some x.after r (sym under_there ∙ e) in
      subst (λ (n : List (List ℕ)). IsPresent h n present) (sym x.turned.name ∙ ap (λ (w : Recorded). w.name) is) here

  -- from then on numbers serve
  pub under_served : IsServedAt Numbers present new id
  under_served = (x.after, under_there, stamps_serve present x.after.held x.turned.stamp)

-- ---- one conversation after another

-- the id is one of those from this index on
abbrev IsLeft : List ℕ → ℕ → ℕ → Type 0
IsLeft ids i id = (k : ℕ) × (i ≤ k) × (k < length ids) × (get_or ids k id ≡ id)

-- the stale records are those of the ids still to be swept
pub record IsSweptSoFar (h : Holdings) (ids : List ℕ) (i : ℕ) (old now : Records) : Type 0 where
  pub same : AreSame old now
  pub stale : (k d : ℕ) → i ≤ k → k < length ids → IsStaleAt h now (get_or ids k d)
  pub left : (id : ℕ) (r : Recorded) → record_at now id ≡ Some r → IsLeft ids i id ⊎ IsFreshNow h r

pub sweep_none : (h : Holdings) (rs : Records) (ids : List ℕ) → AreStaleIds h rs ids → IsSweptSoFar h ids 0 rs rs
sweep_none h rs ids touched = record {
  same = same_itself rs;
  stale = λ k d from below. touched.stale k d below;
  left = λ id r e. elim (touched.others id r e) [
    | inl has ↦ inl (has.0, omega arith, has.1, has.2)
    | inr fresh ↦ inr fresh
  ];
}

pub sweep_more : (h : Holdings) (ids : List ℕ) (i id : ℕ) (old now new : Records) → i < length ids → id ≡ get_or ids i id → IsStrictlyIncreasing ids
    → IsSweptSoFar h ids i old now → AreSameBut id now new → IsFreshAt h new id → IsSweptSoFar h ids (i + 1) old new
sweep_more h ids i id old now new within is rise so_far but fresh = record {
  same = same_twice old now new so_far.same but.same;
  stale = λ k d from below.
      let was = so_far.stale k d (omega arith) below in
      (was.0, but.others (get_or ids k d) (apart k d (omega arith) below) ∙ was.1, was.2);
  left = λ j r e. elim (cases_eq id j) [
    | inl at ↦ inr (fresh r (ap (record_at new) at ∙ e))
    | inr other ↦ (elim (so_far.left j r (sym (but.others j other) ∙ e)) [
      | inl later ↦ inl (later.0, past j other later (cases_eq later.0 i), later.2, later.3)
      | inr already ↦ inr already
    ])
  ];
}
  where
    apart : (k d : ℕ) → i < k → k < length ids → id ≡ get_or ids k d → ⊥
    apart k d from below same =
        let less : get_or ids i d < get_or ids k d = AllPairs-from_increasing ids rise i k d from below in
        let at : id ≡ get_or ids i d = is ∙ get_or_default ids i id d within in
        omega (arith, less, at, same)

    past : (j : ℕ) → (id ≡ j → ⊥) → (later : IsLeft ids i j) → (later.0 ≡ i) ⊎ (later.0 ≡ i → ⊥) → i + 1 ≤ later.0
    past j other later (inl here) = absurd (other (is ∙ get_or_default ids i id j within ∙ ap (λ (k : ℕ). get_or ids k j) (sym here) ∙ later.3))
    past j other later (inr there) = let from = later.1 in omega (arith, from, there)

pub sweep_all : (h : Holdings) (ids : List ℕ) (i : ℕ) (old now : Records) → length ids ≤ i → IsSweptSoFar h ids i old now → AreSwept h old now
sweep_all h ids i old now end so_far = record {
  same = so_far.same;
  fresh = λ id r e. elim (so_far.left id r e) [
    | inl later ↦ absurd (omega (arith, later.1, later.2, end))
    | inr fresh ↦ fresh
  ];
}

-- at most as many conversations are stale as exist
pub few_touched : (h : Holdings) (rs : Records) (ids : List ℕ) → AreStaleIds h rs ids → length ids ≤ length rs
few_touched h rs ids touched = length-le_from_keys nat_eq_equiv ids rs distinct there
  where
    distinct : IsDistinct nat_eq ids
    distinct = IsDistinct-from_AllPairs Decides-eqb ids
        (λ i j d from below same. let less : get_or ids i d < get_or ids j d = AllPairs-from_increasing ids touched.rise i j d from below in omega (arith, less, same))

    there : (q : ℕ) → list_any (nat_eq q) ids ≡ true → IsSome (record_at rs q)
    there q has =
        let at = Contains-from_any (λ x y. (Decides-eqb x y).0) q ids has in
        let stale = touched.stale at.0 q at.1 in
        subst (λ (id : ℕ). IsSome (record_at rs id)) at.2 (subst IsSome (sym stale.1) refl)
