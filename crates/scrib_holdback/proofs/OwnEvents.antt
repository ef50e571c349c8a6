-- A role's own events, and what depends on them alone.
use Rattle.std.proofs.Common.{◌≡◌, ◌||◌, Bool, true, false, cond, ℕ, List, [], ◌∷◌, ◌++◌, Option, None, filter, filter_map, map, refl, sym, ap, ◌∙◌}
use Rattle.std.specs.List.{cons_option, list_any}
use Rattle.std.specs.Str.{bytes_eq}
use Rattle.std.proofs.lemmas.Bool.{and_right, cond_both}
use Rattle.std.proofs.lemmas.List.{map-append}
use Rattle.std.proofs.lemmas.List.Elements.{filter-append}
use Rattle.std.proofs.lemmas.Slice.Eq.{bytes_eq-Decides}
use Rattle.scrib_types.specs.declared.event.Event.{Event}
use Rattle.scrib_types.specs.declared.event.Event.TheVariants.{Join, Sent, Received}
use Rattle.scrib_types.specs.Logs.{subject_of, action_of, is_action, is_action_of, is_join_of, own_actions, has_joined, IsJoined}
use Rattle.scrib_types.specs.Queues.{sent_message, received_message, sent, received}
use Rattle.scrib_holdback.specs.Reorderings.{is_own, own_events}

-- what a filter leaves out makes no difference where it never counts
filter_map_kept : {X Y : Type 0} (g : X → Bool) (f : X → Option Y) → ((x : X) → g x ≡ false → f x ≡ None) → (xs : List X) → filter_map f xs ≡ filter_map f (filter g xs)
filter_map_kept g f h [] = refl
filter_map_kept g f h (x ∷ xs) =
    cond_both (g x) (x ∷ filter g xs) (filter g xs) (λ z. filter_map f (x ∷ xs) ≡ filter_map f z)
    (λ y. ap (cons_option (f x)) (filter_map_kept g f h xs))
    (λ n. ap (λ o. cons_option o (filter_map f xs)) (h x n) ∙ filter_map_kept g f h xs)

filter_kept : {X : Type 0} (g f : X → Bool) → ((x : X) → g x ≡ false → f x ≡ false) → (xs : List X) → filter f xs ≡ filter f (filter g xs)
filter_kept g f h [] = refl
filter_kept g f h (x ∷ xs) =
    cond_both (g x) (x ∷ filter g xs) (filter g xs) (λ z. filter f (x ∷ xs) ≡ filter f z)
    (λ y. ap (λ l. cond (f x) (x ∷ l) l) (filter_kept g f h xs))
    (λ n. ap (λ b. cond b (x ∷ filter f xs) (filter f xs)) (h x n) ∙ filter_kept g f h xs)

any_kept : {X : Type 0} (g f : X → Bool) → ((x : X) → g x ≡ false → f x ≡ false) → (xs : List X) → list_any f xs ≡ list_any f (filter g xs)
any_kept g f h [] = refl
any_kept g f h (x ∷ xs) =
    cond_both (g x) (x ∷ filter g xs) (filter g xs) (λ z. list_any f (x ∷ xs) ≡ list_any f z)
    (λ y. ap (λ b. f x || b) (any_kept g f h xs))
    (λ n. ap (λ b. b || list_any f xs) (h x n) ∙ any_kept g f h xs)

-- the element of xs that a filter keeps behind these
pub record IsKeptAfter {X : Type 0} (g : X → Bool) (xs before : List X) (x : X) : Type 0 where
  pub front : List X
  pub back : List X
  pub whole : xs ≡ front ++ x ∷ back
  pub kept : filter g front ≡ before

kept_step : {X : Type 0} (g : X → Bool) (w : X) (xs : List X) → ((ys zs : List X) (x : X) → filter g xs ≡ ys ++ x ∷ zs → IsKeptAfter g xs ys x) → (b : Bool) → g w ≡ b → (ys zs : List X) (x : X) → cond b (w ∷ filter g xs) (filter g xs) ≡ ys ++ x ∷ zs → IsKeptAfter g (w ∷ xs) ys x
kept_step g w xs ih true t [] zs x e = let same : w ≡ x = cc in record { front = []; back = xs; whole = ap (λ z. z ∷ xs) same; kept = refl }
kept_step g w xs ih true t (y ∷ ys) zs x e =
    let same : w ≡ y = cc in
    let rest : filter g xs ≡ ys ++ x ∷ zs = cc in
    let k = ih ys zs x rest in
    record {
      front = w ∷ k.front;
      back = k.back;
      whole = ap (λ z. w ∷ z) k.whole;
      kept = ap (λ b. cond b (w ∷ filter g k.front) (filter g k.front)) t ∙ ap (λ z. w ∷ z) k.kept ∙ ap (λ z. z ∷ ys) same;
    }
kept_step g w xs ih false t ys zs x e =
    let k = ih ys zs x e in
    record {
      front = w ∷ k.front;
      back = k.back;
      whole = ap (λ z. w ∷ z) k.whole;
      kept = ap (λ b. cond b (w ∷ filter g k.front) (filter g k.front)) t ∙ k.kept;
    }

pub kept_after : {X : Type 0} (g : X → Bool) (xs ys zs : List X) (x : X) → filter g xs ≡ ys ++ x ∷ zs → IsKeptAfter g xs ys x
kept_after g [] [] zs x e = absurd (cc)
kept_after g [] (y ∷ ys) zs x e = absurd (cc)
kept_after g (w ∷ xs) ys zs x e = kept_step g w xs (λ u v y d. kept_after g xs u v y d) (g w) refl ys zs x e

-- names
pub name_itself : (p : List ℕ) → bytes_eq p p ≡ true
name_itself p = (bytes_eq-Decides p p).1 refl

pub same_name : (p q : List ℕ) → bytes_eq p q ≡ true → p ≡ q
same_name p q h = (bytes_eq-Decides p q).0 h

-- one event more
pub own_yes : (r : List ℕ) (e : Event) (log : List Event) → is_own r e ≡ true → own_events r (e ∷ log) ≡ e ∷ own_events r log
own_yes r e log h = ap (λ b. cond b (e ∷ own_events r log) (own_events r log)) h

pub own_no : (r : List ℕ) (e : Event) (log : List Event) → is_own r e ≡ false → own_events r (e ∷ log) ≡ own_events r log
own_no r e log h = ap (λ b. cond b (e ∷ own_events r log) (own_events r log)) h

pub own_here : (e : Event) (log : List Event) → own_events (subject_of e) (e ∷ log) ≡ e ∷ own_events (subject_of e) log
own_here e log = own_yes (subject_of e) e log (name_itself (subject_of e))

pub own-append : (r : List ℕ) (log more : List Event) → own_events r (log ++ more) ≡ own_events r log ++ own_events r more
own-append r log more = filter-append (is_own r) log more

pub own-map-append : {X : Type 0} (event : X → Event) (r : List ℕ) (xs ys : List X) → own_events r (map event (xs ++ ys)) ≡ own_events r (map event xs) ++ own_events r (map event ys)
own-map-append event r xs ys = ap (own_events r) (map-append event xs ys) ∙ own-append r (map event xs) (map event ys)

-- where no role has an event there is none
pub no_events : (log : List Event) → ((r : List ℕ) → own_events r log ≡ []) → log ≡ []
no_events [] h = refl
no_events (e ∷ log) h = let some : e ∷ own_events (subject_of e) log ≡ [] = sym (own_here e log) ∙ h (subject_of e) in absurd (cc)

-- what p sends, what q receives, the actions of a role and whether it joined depend on the role's own events
sent_not : (p q : List ℕ) (e : Event) → is_own p e ≡ false → sent_message p q e ≡ None
sent_not p q (Join r) h = refl
sent_not p q (Sent s t m) h = rw h refl
sent_not p q (Received s t m) h = refl

pub sent_own : (p q : List ℕ) (log : List Event) → sent p q log ≡ sent p q (own_events p log)
sent_own p q log = filter_map_kept (is_own p) (sent_message p q) (sent_not p q) log

received_not : (p q : List ℕ) (e : Event) → is_own q e ≡ false → received_message p q e ≡ None
received_not p q (Join r) h = refl
received_not p q (Sent s t m) h = refl
received_not p q (Received s t m) h = rw (and_right (bytes_eq p s) (bytes_eq q t) h) refl

pub received_own : (p q : List ℕ) (log : List Event) → received p q log ≡ received p q (own_events q log)
received_own p q log = filter_map_kept (is_own q) (received_message p q) (received_not p q) log

action_not : (r : List ℕ) (e : Event) → is_own r e ≡ false → is_action_of r e ≡ false
action_not r e h = and_right (is_action e) (bytes_eq r (subject_of e)) h

actions_own : (r : List ℕ) (log : List Event) → own_actions r log ≡ own_actions r (own_events r log)
actions_own r log = ap (map action_of) (filter_kept (is_own r) (is_action_of r) (action_not r) log)

join_not : (r : List ℕ) (e : Event) → is_own r e ≡ false → is_join_of r e ≡ false
join_not r (Join s) h = h
join_not r (Sent p q m) h = refl
join_not r (Received p q m) h = refl

joined_own : (r : List ℕ) (log : List Event) → has_joined r log ≡ has_joined r (own_events r log)
joined_own r log = any_kept (is_own r) (is_join_of r) (join_not r) log

-- the same for two logs in which the role has the same own events
pub same_sent : (p q : List ℕ) (log other : List Event) → own_events p log ≡ own_events p other → sent p q log ≡ sent p q other
same_sent p q log other e = sent_own p q log ∙ ap (sent p q) e ∙ sym (sent_own p q other)

pub same_received : (p q : List ℕ) (log other : List Event) → own_events q log ≡ own_events q other → received p q log ≡ received p q other
same_received p q log other e = received_own p q log ∙ ap (received p q) e ∙ sym (received_own p q other)

pub same_actions : (r : List ℕ) (log other : List Event) → own_events r log ≡ own_events r other → own_actions r log ≡ own_actions r other
same_actions r log other e = actions_own r log ∙ ap (own_actions r) e ∙ sym (actions_own r other)

same_joined : (r : List ℕ) (log other : List Event) → own_events r log ≡ own_events r other → has_joined r log ≡ has_joined r other
same_joined r log other e = joined_own r log ∙ ap (has_joined r) e ∙ sym (joined_own r other)

-- whether an event follows the rule of joins depends on its subject's own events
pub joined_same : (roles : List (List ℕ)) (log other : List Event) (e : Event) → own_events (subject_of e) log ≡ own_events (subject_of e) other → IsJoined roles other e → IsJoined roles log e
joined_same roles log other (Join r) s h = (h.0, same_joined r log other s ∙ h.1)
joined_same roles log other (Sent p q m) s h = same_joined p log other s ∙ h
joined_same roles log other (Received p q m) s h = same_joined q log other s ∙ h
