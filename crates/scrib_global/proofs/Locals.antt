-- Local types: each action has at most one transition, and one type may be like another.
use Rattle.std.proofs.Common.{◌≡◌, inl, inr, ℕ, List, [], ◌∷◌, ◌++◌, refl, sym, ◌∙◌, subst}
use Rattle.scrib_types.specs.declared.message.Message.{Message}
use Rattle.scrib_types.specs.declared.event.Action.{Action}
use Rattle.scrib_types.specs.declared.event.Action.TheVariants.{Join, Sends, Receives}
use Rattle.scrib_types.specs.Trees.{LocalTree, LocalEnd, LocalVar, LocalRec, Send, Recv, LocalBranches, NoChoice, Choice}
use Rattle.scrib_types.specs.Traces.{Offers, LocalTransition, sends, receives, unfolds, unfolding_of, IsTrace}

pub offers_one : (ls : LocalBranches) (m : Message) (k l : LocalTree) → Offers ls m k → Offers ls m l → k ≡ l
offers_one NoChoice m k l a b = absurd a
offers_one (Choice n x ls) m k l (inl a) (inl b) = a.1 ∙ sym b.1
offers_one (Choice n x ls) m k l (inl a) (inr b) = absurd (b.0 a.0)
offers_one (Choice n x ls) m k l (inr a) (inl b) = absurd (a.0 b.0)
offers_one (Choice n x ls) m k l (inr a) (inr b) = offers_one ls m k l a.1 b.1

-- the transitions of a type of a known form
abbrev pub DoesAs : LocalTree → Action → LocalTree → Type 0
DoesAs LocalEnd a k = ⊥
DoesAs (LocalVar n) a k = ⊥
DoesAs (LocalRec x) a k = LocalTransition (unfolding_of x) a k
DoesAs (Send q ls) Join k = ⊥
DoesAs (Send q ls) (Sends r m) k = (r ≡ q) × Offers ls m k
DoesAs (Send q ls) (Receives r m) k = ⊥
DoesAs (Recv p ls) Join k = ⊥
DoesAs (Recv p ls) (Sends r m) k = ⊥
DoesAs (Recv p ls) (Receives r m) k = (r ≡ p) × Offers ls m k

pub does_as : {l k : LocalTree} {a : Action} → LocalTransition l a k → DoesAs l a k
does_as (sends a) = (refl, a)
does_as (receives a) = (refl, a)
does_as (unfolds a) = a

pub does_one : {l k k' : LocalTree} {a : Action} → LocalTransition l a k → LocalTransition l a k' → k ≡ k'
does_one (sends a) b = offers_one _ _ _ _ a (does_as b).1
does_one (receives a) b = offers_one _ _ _ _ a (does_as b).1
does_one (unfolds a) b = does_one a (does_as b)

pub no_mix : {l k k' : LocalTree} {q p : List ℕ} {m n : Message} → LocalTransition l (Sends q m) k → LocalTransition l (Receives p n) k' → ⊥
no_mix (sends a) b = does_as b
no_mix (unfolds a) b = no_mix a (does_as b)

pub same_from : {l k k' : LocalTree} {q p : List ℕ} {m n : Message} → LocalTransition l (Receives q m) k → LocalTransition l (Receives p n) k' → q ≡ p
same_from (receives a) b = sym (does_as b).0
same_from (unfolds a) b = same_from a (does_as b)

-- It does what the other does. After a trace of the other it sends only what the other sends, and does nothing where
-- the other does nothing.
pub record Alike (l x : LocalTree) : Type 0 where
  pub traces : (w : List Action) → IsTrace x w → IsTrace l w
  pub only : (w : List Action) (q : List ℕ) (m : Message) → IsTrace x w → IsTrace l (w ++ Sends q m ∷ []) → IsTrace x (w ++ Sends q m ∷ [])
  pub stops : (w : List Action) (d : Action) → IsTrace x w → IsTrace l (w ++ d ∷ []) → (b : Action) × IsTrace x (w ++ b ∷ [])

pub alike_refl : (l : LocalTree) → Alike l l
alike_refl l = record { traces = λ w t. t; only = λ w q m t s. s; stops = λ w d t s. (d, s) }

roll : (x : LocalTree) (w : List Action) → IsTrace (unfolding_of x) w → IsTrace (LocalRec x) w
roll x [] t = tt
roll x (d ∷ w) t = (t.0, unfolds t.1, t.2)

unroll : (x : LocalTree) (w : List Action) → IsTrace (LocalRec x) w → IsTrace (unfolding_of x) w
unroll x [] t = tt
unroll x (d ∷ w) t = (t.0, does_as t.1, t.2)

pub alike_unroll : {l x : LocalTree} → Alike l (LocalRec x) → Alike l (unfolding_of x)
alike_unroll {x} a = record {
  traces = λ w t. a.traces w (roll x w t);
  only = λ w q m t s. unroll x (w ++ Sends q m ∷ []) (a.only w q m (roll x w t) s);
  stops = λ w d t s. let v = a.stops w d (roll x w t) s in (v.0, unroll x (w ++ v.0 ∷ []) v.1);
}

pub alike_step : {l x y : LocalTree} {d : Action} → Alike l x → LocalTransition x d y → (k : LocalTree) × LocalTransition l d k × Alike k y
alike_step {y} {d} a s =
    let t = a.traces (d ∷ []) (y, s, tt) in (
      t.0,
      t.1,
      record {
        traces = λ w u. let v = a.traces (d ∷ w) (y, s, u) in subst (λ z. IsTrace z w) (does_one v.1 t.1) v.2;
        only = λ w q m u e. let v = a.only (d ∷ w) q m (y, s, u) (t.0, t.1, e) in subst (λ z. IsTrace z (w ++ Sends q m ∷ [])) (does_one v.1 s) v.2;
        stops = λ w b u e. let v = a.stops (d ∷ w) b (y, s, u) (t.0, t.1, e) in (v.0, subst (λ z. IsTrace z (w ++ v.0 ∷ [])) (does_one v.1.1 s) v.1.2);
      },
    )

pub alike_send : {l x k : LocalTree} {q : List ℕ} {m : Message} → Alike l x → LocalTransition l (Sends q m) k → (y : LocalTree) × LocalTransition x (Sends q m) y
alike_send {k} {q} {m} a s = let t = a.only [] q m tt (k, s, tt) in (t.0, t.1)

pub alike_stops : {l x k : LocalTree} {d : Action} → Alike l x → LocalTransition l d k → (b : Action) × (y : LocalTree) × LocalTransition x b y
alike_stops {k} {d} a s = let t = a.stops [] d tt (k, s, tt) in (t.0, t.1.0, t.1.1)
