-- What holds of what was released and what waits: all of a causal order that the arrivals allow is released.
use Rattle.std.proofs.Common.{◌≡◌, Bool, true, false, ℕ, ◌≤◌, List, [], ◌∷◌, ◌++◌, map, length, refl, sym, ap, ◌∙◌, subst, append_assoc, append-nil, arith}
use Rattle.std.proofs.lemmas.List.{map-append, append_cancel_left}
use Rattle.scrib_types.specs.declared.event.Event.{Event}
use Rattle.scrib_types.specs.declared.event.Event.TheVariants.{Join, Sent, Received}
use Rattle.scrib_types.specs.Logs.{subject_of}
use Rattle.scrib_types.specs.Queues.{sent, received}
use Rattle.scrib_holdback.specs.Reorderings.{is_own, own_events, IsReordering}
use Rattle.scrib_holdback.specs.HoldBack.{MayHappen, IsQuiescent, HoldsWithExpiries, begins, arrives, releases, expires, IsHeldBack}
use Rattle.scrib_holdback.proofs.OwnEvents.{kept_after, same_name, own_yes, own_no, own-append, own-map-append, same_received, sent_own}
use Rattle.scrib_holdback.proofs.CausalOrders.{IsCausal, causal_none, causal_end, sent_more, received_more, received_one}

-- the events that arrived, that were released and that wait
pub record Outcome (arrivals released waiting : List Event) : Type 0 where
  pub parts : (r : List ℕ) → own_events r arrivals ≡ own_events r released ++ own_events r waiting
  pub causal : IsCausal released
  pub stuck : (earlier later : List Event) (e : Event) → waiting ≡ earlier ++ e ∷ later
      → own_events (subject_of e) earlier ≡ [] → MayHappen released e → ⊥

-- an event whose role has no earlier one may be moved to the front
first_moved : (r : List ℕ) (earlier later : List Event) (e : Event) → own_events (subject_of e) earlier ≡ [] → (b : Bool) → is_own r e ≡ b → own_events r earlier ++ own_events r (e ∷ later) ≡ own_events r (e ∷ []) ++ (own_events r earlier ++ own_events r later)
first_moved r earlier later e first true y =
    let none : own_events r earlier ≡ [] = subst (λ z. own_events z earlier ≡ []) (sym (same_name r (subject_of e) y)) first in
    ap (λ z. z ++ own_events r (e ∷ later)) none
    ∙ own_yes r e later y
    ∙ ap (λ z. e ∷ (z ++ own_events r later)) (sym none)
    ∙ ap (λ z. z ++ (own_events r earlier ++ own_events r later)) (sym (own_yes r e [] y))
first_moved r earlier later e first false n =
    ap (λ z. own_events r earlier ++ z) (own_no r e later n)
    ∙ ap (λ z. z ++ (own_events r earlier ++ own_events r later)) (sym (own_no r e [] n))

-- the same where it is put behind what was released
moved_behind : {X : Type 0} (event : X → Event) (r : List ℕ) (log earlier later : List X) (x : X) → own_events (subject_of (event x)) (map event earlier) ≡ [] → own_events r (map event log) ++ own_events r (map event (earlier ++ x ∷ later)) ≡ own_events r (map event (log ++ x ∷ [])) ++ own_events r (map event (earlier ++ later))
moved_behind event r log earlier later x first =
    let s = own_events r (map event log) in
    ap (λ z. s ++ z) (own-map-append event r earlier (x ∷ later) ∙ first_moved r (map event earlier) (map event later) (event x) first (is_own r (event x)) refl)
    ∙ sym (append_assoc s (own_events r (event x ∷ [])) (own_events r (map event earlier) ++ own_events r (map event later)))
    ∙ ap (λ z. z ++ (own_events r (map event earlier) ++ own_events r (map event later))) (sym (own-map-append event r log (x ∷ [])))
    ∙ ap (λ z. own_events r (map event (log ++ x ∷ [])) ++ z) (sym (own-map-append event r earlier later))

parts_of : {X : Type 0} (event : X → Event) {arrivals released expired waiting : List X} → HoldsWithExpiries event arrivals released expired waiting → (r : List ℕ) → own_events r (map event arrivals) ≡ own_events r (map event released) ++ own_events r (map event waiting)
parts_of event begins r = refl
parts_of event (arrives {arrivals = a} {released = s} {waiting = w} x h n) r =
    own-map-append event r a (x ∷ [])
    ∙ ap (λ z. z ++ own_events r (map event (x ∷ []))) (parts_of event h r)
    ∙ append_assoc (own_events r (map event s)) (own_events r (map event w)) (own_events r (map event (x ∷ [])))
    ∙ ap (λ z. own_events r (map event s) ++ z) (sym (own-map-append event r w (x ∷ [])))
parts_of event (releases {released = s} earlier x later h d) r = parts_of event h r ∙ moved_behind event r s earlier later x d.first
parts_of event (expires {released = s} x later h n) r = parts_of event h r ∙ moved_behind event r s [] later x refl

-- what was released and then what waits is a reordering of the arrivals, whatever expired
pub reordered : {X : Type 0} (event : X → Event) (arrivals released expired waiting : List X) → HoldsWithExpiries event arrivals released expired waiting → IsReordering (map event arrivals) (map event (released ++ waiting))
reordered event arrivals released expired waiting h r = own-map-append event r released waiting ∙ sym (parts_of event h r)

-- a list with an item is not empty
pub no_item : {X : Type 0} (earlier later : List X) (x : X) → [] ≡ earlier ++ x ∷ later → ⊥
no_item [] later x e = absurd (cc)
no_item (y ∷ earlier) later x e = absurd (cc)

-- what was released may have happened in this order, where nothing expired
causal_of : {X : Type 0} (event : X → Event) {arrivals released expired waiting : List X} → HoldsWithExpiries event arrivals released expired waiting → expired ≡ [] → IsCausal (map event released)
causal_of event begins none = causal_none
causal_of event (arrives x h n) none = causal_of event h none
causal_of event (releases {released = s} earlier x later h d) none =
    subst IsCausal (sym (map-append event s (x ∷ []))) (causal_end (map event s) (event x) (causal_of event h none) d.next)
causal_of event (expires {expired = e} x later h n) none = absurd (no_item e [] x (sym none))

-- an item of a mapped list in its place
map_place : {X Y : Type 0} (f : X → Y) (xs : List X) (before after : List Y) (y : Y) → map f xs ≡ before ++ y ∷ after → (u : List X) × (x : X) × (v : List X) × (xs ≡ u ++ x ∷ v) × (map f u ≡ before) × (f x ≡ y)
map_place f [] [] after y e = absurd (cc)
map_place f [] (b ∷ before) after y e = absurd (cc)
map_place f (x ∷ xs) [] after y e = let same : f x ≡ y = cc in ([], x, xs, refl, refl, same)
map_place f (x ∷ xs) (b ∷ before) after y e =
    let same : f x ≡ b = cc in
    let rest : map f xs ≡ before ++ y ∷ after = cc in
    let p = map_place f xs before after y rest in
    (x ∷ p.0, p.1, p.2, ap (λ z. x ∷ z) p.3, ap (λ z. f x ∷ z) p.4 ∙ ap (λ z. z ∷ before) same, p.5)

stuck_of : {X : Type 0} (event : X → Event) (released waiting : List X) → IsQuiescent event released waiting → (earlier later : List Event) (e : Event) → map event waiting ≡ earlier ++ e ∷ later → own_events (subject_of e) earlier ≡ [] → MayHappen (map event released) e → ⊥
stuck_of event released waiting settled earlier later e eq first next =
    let p = map_place event waiting earlier later e eq in
    let none : own_events (subject_of e) (map event p.0) ≡ [] = ap (own_events (subject_of e)) p.4 ∙ first in
    settled p.0 p.2 p.1 p.3
    (record {
      first = subst (λ z. own_events (subject_of z) (map event p.0) ≡ []) (sym p.5) none;
      next = subst (λ z. MayHappen (map event released) z) (sym p.5) next;
    })

pub outcome_of : {X : Type 0} (event : X → Event) (arrivals released waiting : List X) → IsHeldBack event arrivals released waiting → Outcome (map event arrivals) (map event released) (map event waiting)
outcome_of event arrivals released waiting h = record {
  parts = parts_of event h.holds;
  causal = causal_of event h.holds refl;
  stuck = stuck_of event released waiting h.settled;
}

-- of each role the events of this log are its first ones of the other
abbrev pub IsWithin : List Event → List Event → Type 0
IsWithin log other = (r : List ℕ) → (rest : List Event) × (own_events r other ≡ own_events r log ++ rest)

-- what the next event of a causal order waits for was released
may_happen : (released before after : List Event) (e : Event) → IsCausal (before ++ e ∷ after) → IsWithin before released → own_events (subject_of e) released ≡ own_events (subject_of e) before → MayHappen released e
may_happen released before after (Join r) c w same = tt
may_happen released before after (Sent p q m) c w same = tt
may_happen released before after (Received p q m) c w same =
    let e : Event = Received p q m in
    let counted : length (received p q (before ++ e ∷ [])) ≤ length (sent p q (before ++ e ∷ [])) = c (before ++ e ∷ []) after (sym (append_assoc before (e ∷ []) after)) p q in
    let r : length (received p q released) ≡ length (received p q before) = ap length (same_received p q released before same) in
    let x = w p in
    let all : sent p q released ≡ sent p q (own_events p before ++ x.0) = sent_own p q released ∙ ap (sent p q) x.1 in
    let own : length (sent p q before) ≡ length (sent p q (own_events p before)) = ap length (sent_own p q before) in
    omega (arith, counted, r, own, ap length all, sent_more p q (own_events p before) x.0, sent_more p q before (e ∷ []), received_more p q before (e ∷ []), received_one p q m)

own_skipped : (r : List ℕ) (log : List Event) (e : Event) → is_own r e ≡ false → own_events r (log ++ e ∷ []) ≡ own_events r log
own_skipped r log e n = own-append r log (e ∷ []) ∙ ap (λ z. own_events r log ++ z) (own_no r e [] n) ∙ append-nil (own_events r log)

own_added : (r : List ℕ) (log : List Event) (e : Event) → is_own r e ≡ true → own_events r (log ++ e ∷ []) ≡ own_events r log ++ e ∷ []
own_added r log e y = own-append r log (e ∷ []) ∙ ap (λ z. own_events r log ++ z) (own_yes r e [] y)

-- a role's arrivals behind the first of them
arrivals_behind : (r : List ℕ) (arrivals released waiting before after : List Event) (e : Event) (x y : List Event) → is_own r e ≡ true → own_events r arrivals ≡ own_events r released ++ own_events r waiting → own_events r arrivals ≡ own_events r (before ++ e ∷ after) ++ y → own_events r released ≡ own_events r before ++ x → x ++ own_events r waiting ≡ e ∷ (own_events r after ++ y)
arrivals_behind r arrivals released waiting before after e x y own parts all led =
    append_cancel_left (own_events r before) (x ++ own_events r waiting) (e ∷ (own_events r after ++ y))
    (sym (append_assoc (own_events r before) x (own_events r waiting))
    ∙ ap (λ z. z ++ own_events r waiting) (sym led)
    ∙ sym parts
    ∙ all
    ∙ ap (λ z. z ++ y) (own-append r before (e ∷ after) ∙ ap (λ z. own_events r before ++ z) (own_yes r e after own))
    ∙ append_assoc (own_events r before) (e ∷ own_events r after) y)

module _ (arrivals released waiting : List Event) (o : Outcome arrivals released waiting) where
  -- an event of the role is the next one, or it waits and is due
  next_released : (r : List ℕ) (before after : List Event) (e : Event) → IsCausal (before ++ e ∷ after) → IsWithin before released → is_own r e ≡ true → (x y : List Event) → own_events r released ≡ own_events r before ++ x → x ++ own_events r waiting ≡ e ∷ (own_events r after ++ y) → (rest : List Event) × (own_events r released ≡ own_events r (before ++ e ∷ []) ++ rest)
  next_released r before after e c w own (f ∷ x) y led behind =
      let same : f ≡ e = cc in (
        x,
        led
            ∙ ap (λ z. own_events r before ++ z ∷ x) same
            ∙ sym (append_assoc (own_events r before) (e ∷ []) x)
            ∙ ap (λ z. z ++ x) (sym (own_added r before e own)),
      )
  next_released r before after e c w own [] y led behind =
      let k = kept_after (is_own r) waiting [] (own_events r after ++ y) e behind in
      let s : r ≡ subject_of e = same_name r (subject_of e) own in
      let first : own_events (subject_of e) k.front ≡ [] = subst (λ z. own_events z k.front ≡ []) s k.kept in
      let all : own_events r released ≡ own_events r before = led ∙ append-nil (own_events r before) in
      let same : own_events (subject_of e) released ≡ own_events (subject_of e) before = subst (λ z. own_events z released ≡ own_events z before) s all in
      absurd (o.stuck k.front k.back e k.whole first (may_happen released before after e c w same))

  within_next : (r : List ℕ) (before after : List Event) (e : Event) → IsCausal (before ++ e ∷ after) → IsWithin (before ++ e ∷ after) arrivals → IsWithin before released → (b : Bool) → is_own r e ≡ b → (rest : List Event) × (own_events r released ≡ own_events r (before ++ e ∷ []) ++ rest)
  within_next r before after e c all w true y =
      let x = w r in
      let z = all r in
      next_released r before after e c w y x.0 z.0 x.1
      (arrivals_behind r arrivals released waiting before after e x.0 z.0 y (o.parts r) z.1 x.1)
  within_next r before after e c all w false n =
      let x = w r in
      (x.0, x.1 ∙ ap (λ z. z ++ x.0) (sym (own_skipped r before e n)))

  within_all : (after before : List Event) → IsCausal (before ++ after) → IsWithin (before ++ after) arrivals → IsWithin before released → IsWithin (before ++ after) released
  within_all [] before c all w = subst (λ z. IsWithin z released) (sym (append-nil before)) w
  within_all (e ∷ after) before c all w =
      let eq : (before ++ e ∷ []) ++ after ≡ before ++ e ∷ after = append_assoc before (e ∷ []) after in
      let next : IsWithin (before ++ e ∷ []) released = λ r. within_next r before after e c all w (is_own r e) refl in
      subst (λ z. IsWithin z released) eq
      (within_all after (before ++ e ∷ []) (subst IsCausal (sym eq) c) (subst (λ z. IsWithin z arrivals) (sym eq) all) next)

  -- all events of a causal order that the arrivals allow are released
  pub all_within : (log : List Event) → IsCausal log → IsWithin log arrivals → IsWithin log released
  all_within log c all = within_all log [] c all (λ r. (own_events r released, refl))
