-- A merged type does what each of its branches does, and sends nothing more.
use Rattle.std.proofs.Common.{◌≡◌, inl, ℕ, List, [], ◌∷◌, ◌++◌, refl, sym, subst}
use Rattle.scrib_types.specs.declared.message.Message.{Message}
use Rattle.scrib_types.specs.declared.event.Action.{Action}
use Rattle.scrib_types.specs.declared.event.Action.TheVariants.{Join, Sends, Receives}
use Rattle.scrib_types.specs.Trees.{LocalTree, LocalEnd, LocalVar, LocalRec, Send, Recv, LocalBranches, NoChoice, Choice, GlobalTree, GlobalBranches}
use Rattle.scrib_types.specs.Traces.{Offers, LocalTransition, receives, IsTrace}
use Rattle.scrib_types.specs.Merges.{Merges, merges_same, merges_receptions, offers_first, offers_second}
use Rattle.scrib_global.proofs.Locals.{does_as, offers_one, Alike, alike_refl}
use Rattle.scrib_global.proofs.Substitution.{NonEmpty, Sound}
use Rattle.scrib_global.proofs.ProjectionLemmas.{Projects, p_end, p_var, p_send, p_recv, p_other, p_idle, p_rec, ProjectEach, each_none, each_one, ProjectMerged, merged_none, merged_one}

-- the same, or a reception with at least the alternatives of the other
pub data Wider : LocalTree → LocalTree → Type 0 where
  same : {l : LocalTree} → Wider l l
  more : {p : List ℕ} {ls xs : LocalBranches} → ((m : Message) (k : LocalTree) → Offers xs m k → Offers ls m k) → Wider (Recv p ls) (Recv p xs)

pub wider_trans : {l x y : LocalTree} → Wider l x → Wider x y → Wider l y
wider_trans same v = v
wider_trans (more f) same = more f
wider_trans (more f) (more h) = more (λ m k o. f m k (h m k o))

pub first_wider : {j k i : LocalTree} → Merges j k i → Wider i j
first_wider merges_same = same
first_wider (merges_receptions w) = more (offers_first w)

pub second_wider : {j k i : LocalTree} → Merges j k i → Wider i k
second_wider merges_same = same
second_wider (merges_receptions w) = more (offers_second w)

pub merged_wider : {r : List ℕ} {bs : GlobalBranches} {j l : LocalTree} → ProjectMerged bs r j l → Wider l j
merged_wider merged_none = same
merged_wider (merged_one p m pm) = wider_trans (merged_wider pm) (first_wider m)

-- the relation at a type of a known form: anything but a reception is the same
abbrev pub WiderAs : LocalTree → LocalTree → Type 0
WiderAs LocalEnd x = LocalEnd ≡ x
WiderAs (LocalVar n) x = LocalVar n ≡ x
WiderAs (LocalRec l) x = LocalRec l ≡ x
WiderAs (Send q ls) x = Send q ls ≡ x
WiderAs (Recv p ls) x = Unit {0}

wider_as_same : (l : LocalTree) → WiderAs l l
wider_as_same LocalEnd = refl
wider_as_same (LocalVar n) = refl
wider_as_same (LocalRec l) = refl
wider_as_same (Send q ls) = refl
wider_as_same (Recv p ls) = tt

pub wider_as : {l x : LocalTree} → Wider l x → WiderAs l x
wider_as (same {l}) = wider_as_same l
wider_as (more f) = tt

-- an alternative at least
abbrev pub NonEmptyChoice : LocalBranches → Type 0
NonEmptyChoice NoChoice = ⊥
NonEmptyChoice (Choice m l ls) = Unit {0}

-- where it sends or receives at once, it has an alternative at least
abbrev pub Offering : LocalTree → Type 0
Offering LocalEnd = Unit {0}
Offering (LocalVar n) = Unit {0}
Offering (LocalRec l) = Unit {0}
Offering (Send q ls) = NonEmptyChoice ls
Offering (Recv p ls) = NonEmptyChoice ls

pub first_offer : (ls : LocalBranches) → NonEmptyChoice ls → (m : Message) × (k : LocalTree) × Offers ls m k
first_offer NoChoice n = absurd n
first_offer (Choice m l ls) n = (m, l, inl (refl, refl))

some_offer : (ls : LocalBranches) (m : Message) (k : LocalTree) → Offers ls m k → NonEmptyChoice ls
some_offer NoChoice m k o = absurd o
some_offer (Choice n l ls) m k o = tt

pub more_choices : (ls xs : LocalBranches) → ((m : Message) (k : LocalTree) → Offers xs m k → Offers ls m k) → NonEmptyChoice xs → NonEmptyChoice ls
more_choices ls xs f n = let y = first_offer xs n in some_offer ls y.0 y.1 (f y.0 y.1 y.2)

wider_offering : {l x : LocalTree} → Wider l x → Offering x → Offering l
wider_offering same o = o
wider_offering (more {ls} {xs} f) o = more_choices ls xs f o

pub each_offers : {r : List ℕ} {bs : GlobalBranches} {ls : LocalBranches} → ProjectEach bs r ls → NonEmpty bs → NonEmptyChoice ls
each_offers each_none n = absurd n
each_offers (each_one p pe) n = tt

-- a projection has an alternative wherever it sends or receives at once
pub offering_of : {r : List ℕ} {g : GlobalTree} {x : LocalTree} → Projects g r x → Sound g → Offering x
offering_of p_end s = tt
offering_of p_var s = tt
offering_of (p_send e pe) s = each_offers pe s.1
offering_of (p_recv e pe) s = each_offers pe s.1
offering_of (p_other n1 n2 pj pm) s = wider_offering (merged_wider pm) (offering_of pj s.3.0)
offering_of (p_idle c a) s = tt
offering_of (p_rec h p) s = tt

-- it is like each of its branches
module _ (p : List ℕ) (ls xs : LocalBranches) (f : (m : Message) (k : LocalTree) → Offers xs m k → Offers ls m k) where
  more_traces : (w : List Action) → IsTrace (Recv p xs) w → IsTrace (Recv p ls) w
  more_traces [] t = tt
  more_traces (Join ∷ w) t = absurd (does_as t.1)
  more_traces (Sends q m ∷ w) t = absurd (does_as t.1)
  more_traces (Receives q m ∷ w) t =
      let o = does_as t.1 in
      (t.0, subst (λ x. LocalTransition (Recv p ls) (Receives x m) t.0) (sym o.0) (receives (f m t.0 o.1)), t.2)

  more_only : (w : List Action) (q : List ℕ) (m : Message) → IsTrace (Recv p xs) w → IsTrace (Recv p ls) (w ++ Sends q m ∷ []) → IsTrace (Recv p xs) (w ++ Sends q m ∷ [])
  more_only [] q m t s = absurd (does_as s.1)
  more_only (Join ∷ w) q m t s = absurd (does_as t.1)
  more_only (Sends r n ∷ w) q m t s = absurd (does_as t.1)
  more_only (Receives r n ∷ w) q m t s =
      let o = does_as t.1 in
      let i = does_as s.1 in
      (t.0, t.1, subst (λ k. IsTrace k (w ++ Sends q m ∷ [])) (offers_one ls n s.0 t.0 i.1 (f n t.0 o.1)) s.2)

  more_stops : NonEmptyChoice xs → (w : List Action) (d : Action) → IsTrace (Recv p xs) w → IsTrace (Recv p ls) (w ++ d ∷ []) → (b : Action) × IsTrace (Recv p xs) (w ++ b ∷ [])
  more_stops n [] d t s = let y = first_offer xs n in (Receives p y.0, (y.1, receives y.2, tt))
  more_stops n (Join ∷ w) d t s = absurd (does_as t.1)
  more_stops n (Sends r m ∷ w) d t s = absurd (does_as t.1)
  more_stops n (Receives r m ∷ w) d t s =
      let o = does_as t.1 in
      let i = does_as s.1 in
      (d, (t.0, t.1, subst (λ k. IsTrace k (w ++ d ∷ [])) (offers_one ls m s.0 t.0 i.1 (f m t.0 o.1)) s.2))

pub wider_alike : {l x : LocalTree} → Wider l x → Offering x → Alike l x
wider_alike (same {l}) o = alike_refl l
wider_alike (more {p} {ls} {xs} f) o = record { traces = more_traces p ls xs f; only = more_only p ls xs f; stops = more_stops p ls xs f o }

pub alike_trans : {l x y : LocalTree} → Alike l x → Alike x y → Alike l y
alike_trans a b = record {
  traces = λ w t. a.traces w (b.traces w t);
  only = λ w q m t s. b.only w q m t (a.only w q m (b.traces w t) s);
  stops = λ w d t s. let v = a.stops w d (b.traces w t) s in b.stops w v.0 t v.1;
}
