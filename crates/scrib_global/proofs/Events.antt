-- Logs, event by event: what a role did, what is in flight, and who joined.
use Rattle.std.proofs.Common.{◌≡◌, ◌≢◌, ◌⊎◌, inl, inr, ◌&&◌, ◌||◌, Bool, true, false, ℕ, List, [], ◌∷◌, ◌++◌, length, drop, refl, sym, ap, ◌∙◌, subst, append_assoc, append-nil}
use Rattle.std.specs.List.{AllByRecursion, list_any}
use Rattle.std.specs.Str.{bytes_eq}
use Rattle.std.proofs.lemmas.Bool.{and_parts, and_from, true≢false, cases_Bool}
use Rattle.std.proofs.Math.Seq.{drop-append_seam}
use Rattle.scrib_types.specs.declared.message.Message.{Message}
use Rattle.scrib_types.specs.declared.event.Event.{Event}
use Rattle.scrib_types.specs.declared.event.Event.TheVariants.{Join, Sent, Received}
use Rattle.scrib_types.specs.WellFormed.{has_role}
use Rattle.scrib_types.specs.Logs.{subject_of, action_of, is_action, is_join_of, own_actions, has_joined, IsJoined, AllJoined}
use Rattle.scrib_types.specs.Queues.{sent, received, flights}
use Rattle.scrib_global.proofs.Names.{same_name, name_is, name_not, NotPair, pair_cases}
use Rattle.scrib_global.proofs.FlightPaths.{Effect}

-- the own actions of a role
pub own_yes : (r : List ℕ) (e : Event) (log : List Event) → is_action e ≡ true → r ≡ subject_of e → own_actions r (e ∷ log) ≡ action_of e ∷ own_actions r log
own_yes r e log i s = rw (and_from (is_action e) (bytes_eq r (subject_of e)) i (name_is r (subject_of e) s)) refl

pub own_no : (r : List ℕ) (e : Event) (log : List Event) → is_action e ≡ true → r ≢ subject_of e → own_actions r (e ∷ log) ≡ own_actions r log
own_no r e log i n = rw (i, name_not r (subject_of e) n) refl

-- the messages from a to b
both_yes : (a p b q : List ℕ) → a ≡ p → b ≡ q → (bytes_eq a p && bytes_eq b q) ≡ true
both_yes a p b q e f = and_from (bytes_eq a p) (bytes_eq b q) (name_is a p e) (name_is b q f)

both_no : (a p b q : List ℕ) → NotPair a p b q → (bytes_eq a p && bytes_eq b q) ≡ false
both_no a p b q n = elim (cases_Bool (bytes_eq a p && bytes_eq b q)) [
  | inl y ↦ let z = and_parts (bytes_eq a p) (bytes_eq b q) y in absurd (n (same_name a p z.0) (same_name b q z.1))
  | inr f ↦ f
]

pub sent_yes : (a b s q : List ℕ) (m : Message) (w : List Event) → a ≡ s → b ≡ q → sent a b (Sent s q m ∷ w) ≡ m ∷ sent a b w
sent_yes a b s q m w e f = rw (both_yes a s b q e f) refl

pub sent_no : (a b s q : List ℕ) (m : Message) (w : List Event) → NotPair a s b q → sent a b (Sent s q m ∷ w) ≡ sent a b w
sent_no a b s q m w n = rw (both_no a s b q n) refl

pub received_yes : (a b s p : List ℕ) (m : Message) (w : List Event) → a ≡ p → b ≡ s → received a b (Received p s m ∷ w) ≡ m ∷ received a b w
received_yes a b s p m w e f = rw (both_yes a p b s e f) refl

pub received_no : (a b s p : List ℕ) (m : Message) (w : List Event) → NotPair a p b s → received a b (Received p s m ∷ w) ≡ received a b w
received_no a b s p m w n = rw (both_no a p b s n) refl

-- the messages in flight before an event, from those after it
pub effect_log : (e : Event) (a b : List ℕ) (w v x : List Message) (log : List Event) → Effect e a b w v → v ++ sent a b log ≡ received a b log ++ x → w ++ sent a b (e ∷ log) ≡ received a b (e ∷ log) ++ x
effect_log (Join r) a b w v x log e h = ap (λ z. z ++ sent a b log) (sym e) ∙ h
effect_log (Sent s q m) a b w v x log e h = go (pair_cases a s b q)
  where
    go : ((a ≡ s) × (b ≡ q)) ⊎ NotPair a s b q → w ++ sent a b (Sent s q m ∷ log) ≡ received a b log ++ x
    go (inl c) =
        ap (λ z. w ++ z) (sent_yes a b s q m log c.0 c.1)
        ∙ sym (append_assoc w (m ∷ []) (sent a b log))
        ∙ ap (λ z. z ++ sent a b log) (sym (e.0 c.0 c.1))
        ∙ h
    go (inr n) = ap (λ z. w ++ z) (sent_no a b s q m log n) ∙ ap (λ z. z ++ sent a b log) (sym (e.1 n)) ∙ h
effect_log (Received p s m) a b w v x log e h = go (pair_cases a p b s)
  where
    go : ((a ≡ p) × (b ≡ s)) ⊎ NotPair a p b s → w ++ sent a b log ≡ received a b (Received p s m ∷ log) ++ x
    go (inl c) =
        ap (λ z. z ++ sent a b log) (e.0 c.0 c.1)
        ∙ ap (λ z. m ∷ z) h
        ∙ ap (λ z. z ++ x) (sym (received_yes a b s p m log c.0 c.1))
    go (inr n) =
        ap (λ z. z ++ sent a b log) (sym (e.1 n)) ∙ h ∙ ap (λ z. z ++ x) (sym (received_no a b s p m log n))

pub same_rest : (m : Message) (u v : List Message) → m ∷ u ≡ m ∷ v → u ≡ v
same_rest m u v h = cc

pub log_effect : (e : Event) (a b : List ℕ) (w v x : List Message) (log : List Event) → Effect e a b w v → w ++ sent a b (e ∷ log) ≡ received a b (e ∷ log) ++ x → v ++ sent a b log ≡ received a b log ++ x
log_effect (Join r) a b w v x log e h = ap (λ z. z ++ sent a b log) e ∙ h
log_effect (Sent s q m) a b w v x log e h = go (pair_cases a s b q)
  where
    go : ((a ≡ s) × (b ≡ q)) ⊎ NotPair a s b q → v ++ sent a b log ≡ received a b log ++ x
    go (inl c) =
        ap (λ z. z ++ sent a b log) (e.0 c.0 c.1)
        ∙ append_assoc w (m ∷ []) (sent a b log)
        ∙ ap (λ z. w ++ z) (sym (sent_yes a b s q m log c.0 c.1))
        ∙ h
    go (inr n) = ap (λ z. z ++ sent a b log) (e.1 n) ∙ ap (λ z. w ++ z) (sym (sent_no a b s q m log n)) ∙ h
log_effect (Received p s m) a b w v x log e h = go (pair_cases a p b s)
  where
    go : ((a ≡ p) × (b ≡ s)) ⊎ NotPair a p b s → v ++ sent a b log ≡ received a b log ++ x
    go (inl c) =
        same_rest m (v ++ sent a b log) (received a b log ++ x)
        (ap (λ z. z ++ sent a b log) (sym (e.0 c.0 c.1)) ∙ h ∙ ap (λ z. z ++ x) (received_yes a b s p m log c.0 c.1))
    go (inr n) = ap (λ z. z ++ sent a b log) (e.1 n) ∙ h ∙ ap (λ z. z ++ x) (received_no a b s p m log n)

-- a reception takes the oldest message in flight
pub received_head : (s p : List ℕ) (m : Message) (w x : List Message) → w ++ sent p s (Received p s m ∷ []) ≡ received p s (Received p s m ∷ []) ++ x → w ≡ m ∷ x
received_head s p m w x h = sym (append-nil w) ∙ h ∙ ap (λ z. z ++ x) (received_yes p s s p m [] refl refl)

-- the messages in flight are those that were sent after the received ones
pub flights_are : (p q : List ℕ) (log : List Event) (x : List Message) → sent p q log ≡ received p q log ++ x → flights p q log ≡ x
flights_are p q log x e = ap (λ z. drop (length (received p q log)) z) e ∙ drop-append_seam (received p q log) x

-- the first element that passes
pub any_split : {X : Type 0} (f : X → Bool) (xs : List X) → list_any f xs ≡ true → (ys : List X) × (x : X) × (zs : List X) × (xs ≡ ys ++ x ∷ zs) × (f x ≡ true)
any_split f [] h = absurd (true≢false (sym h))
any_split f (x ∷ xs) h =
    elim (cases_Bool (f x)) [
      | inl y ↦ ([], x, xs, refl, y)
      | inr n ↦ let i : list_any f xs ≡ true = sym (ap (λ b. b || list_any f xs) n) ∙ h in
          let z = any_split f xs i in
          (x ∷ z.0, z.1, z.2, ap (λ l. x ∷ l) z.3, z.4)
    ]

-- an element of xs ++ y ∷ [] is the last, or one of xs
pub split_cases : {X : Type 0} (xs fs gs : List X) (y g : X) → xs ++ y ∷ [] ≡ fs ++ g ∷ gs → ((fs ≡ xs) × (g ≡ y)) ⊎ ((hs : List X) × (xs ≡ fs ++ g ∷ hs))
split_cases [] [] gs y g e = inl (refl, cc)
split_cases [] (f ∷ []) gs y g e = absurd (cc)
split_cases [] (f ∷ h ∷ fs) gs y g e = absurd (cc)
split_cases (x ∷ xs) [] gs y g e = inr (xs, cc)
split_cases (x ∷ xs) (f ∷ fs) gs y g e =
    let t : xs ++ y ∷ [] ≡ fs ++ g ∷ gs = cc in
    let h : x ≡ f = cc in
    elim (split_cases xs fs gs y g t) [ inl p ↦ let q : fs ≡ xs = p.0 in inl (cc, p.1) | inr p ↦ let q : xs ≡ fs ++ g ∷ p.0 = p.1 in inr (p.0, cc) ]

-- a role that joined is declared
join_declared : (roles : List (List ℕ)) (r : List ℕ) (before : List Event) (e : Event) → is_join_of r e ≡ true → IsJoined roles before e → has_role r roles ≡ true
join_declared roles r before (Join s) i j = subst (λ x. has_role x roles ≡ true) (sym (same_name r s i)) j.0
join_declared roles r before (Sent p q m) i j = absurd (true≢false (sym i))
join_declared roles r before (Received p q m) i j = absurd (true≢false (sym i))

joined_declared : (roles : List (List ℕ)) (log before after : List Event) (r : List ℕ) → AllJoined roles log → log ≡ before ++ after → has_joined r before ≡ true → has_role r roles ≡ true
joined_declared roles log before after r j e h =
    let y = any_split (is_join_of r) before h in
    join_declared roles r y.0 y.1 y.4
    (j y.0 (y.2 ++ after) y.1 (e ∙ ap (λ z. z ++ after) y.3 ∙ append_assoc y.0 (y.1 ∷ y.2) after))

subject_declared : (roles : List (List ℕ)) (log before after : List Event) (e : Event) → AllJoined roles log → log ≡ before ++ e ∷ after → IsJoined roles before e → has_role (subject_of e) roles ≡ true
subject_declared roles log before after (Join r) j x h = h.0
subject_declared roles log before after (Sent p q m) j x h = joined_declared roles log before (Sent p q m ∷ after) p j x h
subject_declared roles log before after (Received p q m) j x h = joined_declared roles log before (Received p q m ∷ after) q j x h

declared_on : (roles : List (List ℕ)) (log before after : List Event) → AllJoined roles log → log ≡ before ++ after → AllByRecursion (λ e. has_role (subject_of e) roles ≡ true) after
declared_on roles log before [] j x = tt
declared_on roles log before (e ∷ after) j x = (
  subject_declared roles log before after e j x (j before after e x),
  declared_on roles log (before ++ e ∷ []) after j (x ∙ sym (append_assoc before (e ∷ []) after)),
)

-- where all joins are right, all subjects are declared
pub all_declared : (roles : List (List ℕ)) (log : List Event) → AllJoined roles log → AllByRecursion (λ e. has_role (subject_of e) roles ≡ true) log
all_declared roles log j = declared_on roles log [] log j refl

-- a role that is no subject has no own actions
pub own_nothing : (roles : List (List ℕ)) (log : List Event) → AllByRecursion (λ e. has_role (subject_of e) roles ≡ true) log → (r : List ℕ) → has_role r roles ≡ false → own_actions r log ≡ []
own_nothing roles [] h r n = refl
own_nothing roles (Join s ∷ log) h r n = own_nothing roles log h.1 r n
own_nothing roles (Sent p q m ∷ log) h r n =
    own_no r (Sent p q m) log refl (λ e. true≢false (sym h.0 ∙ ap (λ x. has_role x roles) (sym e) ∙ n)) ∙ own_nothing roles log h.1 r n
own_nothing roles (Received p q m ∷ log) h r n =
    own_no r (Received p q m) log refl (λ e. true≢false (sym h.0 ∙ ap (λ x. has_role x roles) (sym e) ∙ n)) ∙ own_nothing roles log h.1 r n
