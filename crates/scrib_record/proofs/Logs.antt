-- One more event at the end of a log.
use Rattle.std.proofs.Common.{◌≡◌, ◌⊎◌, ◌||◌, Bool, true, false, ℕ, List, [], ◌∷◌, ◌++◌, filter, refl, sym, ap, subst, ◌∙◌, inl, inr}
use Rattle.std.specs.List.{AllByRecursion}
use Rattle.std.proofs.lemmas.List.{append-nil, map-append}
use Rattle.std.proofs.lemmas.List.Elements.{filter-append}
use Rattle.std.proofs.lemmas.List.Folds.{list_any-append}
use Rattle.scrib_types.specs.declared.event.Event.{Event}
use Rattle.scrib_types.specs.Logs.{is_action_of, action_of, is_join_of, own_actions, has_joined, IsJoined, AllJoined}
use Rattle.scrib_types.specs.Queues.{sent, received, IsPrefix, IsQueued}

-- a part of xs ++ y ∷ [] is all of it, or a part of xs
pub front_cases : {X : Type 0} (xs fs gs : List X) (y : X) → xs ++ y ∷ [] ≡ fs ++ gs → (fs ≡ xs ++ y ∷ []) ⊎ ((hs : List X) × (xs ≡ fs ++ hs))
front_cases xs [] gs y e = inr (xs, refl)
front_cases [] (f ∷ []) gs y e = inl (cc)
front_cases [] (f ∷ g ∷ fs) gs y e = absurd (cc)
front_cases (x ∷ xs) (f ∷ fs) gs y e =
    let t : xs ++ y ∷ [] ≡ fs ++ gs = cc in
    let h : x ≡ f = cc in
    elim (front_cases xs fs gs y t) [ inl p ↦ inl (cc) | inr p ↦ let q : xs ≡ fs ++ p.0 = p.1 in inr (p.0, cc) ]

-- an element of xs ++ y ∷ [] is the last, or one of xs
pub split_cases : {X : Type 0} (xs fs gs : List X) (y g : X) → xs ++ y ∷ [] ≡ fs ++ g ∷ gs → ((fs ≡ xs) × (g ≡ y)) ⊎ ((hs : List X) × (xs ≡ fs ++ g ∷ hs))
split_cases [] [] gs y g e = inl (refl, cc)
split_cases [] (f ∷ []) gs y g e = absurd (cc)
split_cases [] (f ∷ h ∷ fs) gs y g e = absurd (cc)
split_cases (x ∷ xs) [] gs y g e = inr (xs, cc)
split_cases (x ∷ xs) (f ∷ fs) gs y g e =
    let t : xs ++ y ∷ [] ≡ fs ++ g ∷ gs = cc in
    let h : x ≡ f = cc in
    elim (split_cases xs fs gs y g t) [ inl p ↦ let q : fs ≡ xs = p.0 in inl (cc, p.1) | inr p ↦ let q : xs ≡ fs ++ g ∷ p.0 = p.1 in inr (p.0, cc) ]

pub all_more : {X : Type 0} (P : X → Type 0) (xs : List X) (y : X) → AllByRecursion P xs → P y → AllByRecursion P (xs ++ y ∷ [])
all_more P [] y h p = (p, tt)
all_more P (x ∷ xs) y h p = (h.0, all_more P xs y h.1 p)

pub all_last : {X : Type 0} (P : X → Type 0) (xs : List X) (y : X) → AllByRecursion P (xs ++ y ∷ []) → P y
all_last P [] y h = h.0
all_last P (x ∷ xs) y h = all_last P xs y h.1

pub joined_more : (roles : List (List ℕ)) (log : List Event) (e : Event) → AllJoined roles log → IsJoined roles log e → AllJoined roles (log ++ e ∷ [])
joined_more roles log e all here before after f eq =
    elim (split_cases log before after e f eq) [
      | inl p ↦ let P : List Event → Type 0 = λ b. IsJoined roles b f in
          let Q : Event → Type 0 = λ x. IsJoined roles log x in
          subst P (sym p.0) (subst Q (sym p.1) here)
      | inr p ↦ all before p.0 f p.1
    ]

pub queued_more : (log : List Event) (e : Event) → IsQueued log → ((p q : List ℕ) → IsPrefix (received p q (log ++ e ∷ [])) (sent p q (log ++ e ∷ []))) → IsQueued (log ++ e ∷ [])
queued_more log e all here before after eq p q =
    elim (front_cases log before after e eq) [
      | inl i ↦ let P : List Event → Type 0 = λ b. IsPrefix (received p q b) (sent p q b) in subst P (sym i) (here p q)
      | inr i ↦ all before i.0 i.1 p q
    ]

pub own_more : (r : List ℕ) (log : List Event) (e : Event) → is_action_of r e ≡ true → own_actions r (log ++ e ∷ []) ≡ own_actions r log ++ action_of e ∷ []
own_more r log e h = rw (filter-append (is_action_of r) log (e ∷ []), map-append action_of (filter (is_action_of r) log) (filter (is_action_of r) (e ∷ [])), h)

pub own_same : (r : List ℕ) (log : List Event) (e : Event) → is_action_of r e ≡ false → own_actions r (log ++ e ∷ []) ≡ own_actions r log
own_same r log e h = rw (filter-append (is_action_of r) log (e ∷ []), map-append action_of (filter (is_action_of r) log) (filter (is_action_of r) (e ∷ [])), h) (append-nil _)

pub or_false : (b : Bool) → (b || false) ≡ b
or_false true = refl
or_false false = refl

pub joined_on : (r : List ℕ) (log : List Event) (e : Event) → has_joined r (log ++ e ∷ []) ≡ (has_joined r log || is_join_of r e)
joined_on r log e = list_any-append (is_join_of r) log (e ∷ []) ∙ ap (λ b. has_joined r log || b) (or_false (is_join_of r e))
