-- The entries of a script as a stage reads them, and the events of a conversation.
use Rattle.std.proofs.Common.{◌≡◌, ℕ, ◌+◌, Bool, true, false, cond, List, [], ◌∷◌, ◌++◌, ◌∙◌, map, length, nat_eq, refl, sym, ap, arith, add-zero}
use Rattle.std.proofs.lemmas.List.{append-nil, map-append}
use Rattle.std.proofs.lemmas.List.Elements.{filter-append}
use Rattle.scrib_types.specs.declared.event.Event.{Event}
use Rattle.scrib_core.specs.declared.step.Step.TheVariants.{Put, Withdraw, Open, Note, Turn, Ask, Close}
use Rattle.scrib_core.specs.declared.step.Step.TheVariants as step
use Rattle.scrib_script_reader.specs.declared.item.Item.{Item}
use Rattle.scrib_script_reader.specs.declared.item.Item.TheVariants as item
use Rattle.scrib_script_reader.specs.declared.entry.Entry.{Entry}
use Rattle.scrib_script_reader.specs.declared.entry.Entry.TheVariants as entry
use Rattle.scrib_script_reader.specs.Entries.{entry_items}
use Rattle.scrib_hold_stage.specs.declared.noted.Noted.{Noted}
use Rattle.scrib_hold_stage.specs.Entries as stage
use Rattle.scrib_hold_stage.specs.Entries.{is_of, noted_of, noted_in}
use Rattle.scrib_hold_stage.specs.Conversations.{noted_event}
use Rattle.scrib_hold.specs.HeldScripts.{Asked, Pending, event_in, staged, staged_from, item_of, closing_item, passing, is_end_inside, ends_inside, end_item, noted_events_of}

-- one entry more, which has the number behind those of the others
pub staged_more : (n : ℕ) (entries : List Entry) (e : Entry) → staged_from n (entries ++ e ∷ []) ≡ staged_from n entries ++ staged (n + length entries) e ∷ []
staged_more n [] e = ap (λ (k : ℕ). staged k e ∷ []) (sym (add-zero n))
staged_more n (x ∷ entries) e =
    let number : n + 1 + length entries ≡ n + length (x ∷ entries) = omega arith in
    ap (λ (l : List (stage.Entry Asked)). staged n x ∷ l) (staged_more (n + 1) entries e ∙ ap (λ (k : ℕ). staged_from (n + 1) entries ++ staged k e ∷ []) number)

pub length_staged : (n : ℕ) (entries : List Entry) → length (staged_from n entries) ≡ length entries
length_staged n [] = refl
length_staged n (x ∷ entries) = omega (arith, length_staged (n + 1) entries)

pub inside_more : (entries : List Entry) (e : Entry) → ends_inside (entries ++ e ∷ []) ≡ cond (ends_inside entries) true (is_end_inside e)
inside_more [] e = elim (is_end_inside e) as (λ b. cond b true false ≡ b) [ true ↦ refl | false ↦ refl ]
inside_more (x ∷ entries) e = elim (is_end_inside x) as (λ b. cond b true (ends_inside (entries ++ e ∷ [])) ≡ cond (cond b true (ends_inside entries)) true (is_end_inside e)) [
  | true ↦ refl
  | false ↦ inside_more entries e
]

-- ---- the events of a conversation

-- the events of a conversation among those that a stage gave
abbrev pub given_to : ℕ → List (Noted Asked) → List Event
given_to id items = map (noted_event event_in) (noted_of id items)

pub given_more : (id : ℕ) (xs ys : List (Noted Asked)) → given_to id (xs ++ ys) ≡ given_to id xs ++ given_to id ys
given_more id xs ys = ap (map (noted_event event_in)) (filter-append (is_of id) xs ys) ∙ map-append (noted_event event_in) (noted_of id xs) (noted_of id ys)

put_first : (b : Bool) (e : Event) (xs ys zs : List Event) → zs ≡ xs ++ ys → cond b (e ∷ zs) zs ≡ cond b (e ∷ xs) xs ++ ys
put_first true e xs ys zs is = ap (λ (l : List Event). e ∷ l) is
put_first false e xs ys zs is = is

pub events_more : (id : ℕ) (xs ys : List Item) → noted_events_of id (xs ++ ys) ≡ noted_events_of id xs ++ noted_events_of id ys
events_more id [] ys = refl
events_more id (item.Step f (Note k e) ∷ xs) ys = put_first (nat_eq id k) e (noted_events_of id xs) (noted_events_of id ys) (noted_events_of id (xs ++ ys)) (events_more id xs ys)
events_more id (item.Step f (Put text) ∷ xs) ys = events_more id xs ys
events_more id (item.Step f (Withdraw name) ∷ xs) ys = events_more id xs ys
events_more id (item.Step f (step.Profile p) ∷ xs) ys = events_more id xs ys
events_more id (item.Step f (Open k name) ∷ xs) ys = events_more id xs ys
events_more id (item.Step f (Turn k) ∷ xs) ys = events_more id xs ys
events_more id (item.Step f (Ask k) ∷ xs) ys = events_more id xs ys
events_more id (item.Step f (Close k) ∷ xs) ys = events_more id xs ys
events_more id (item.Sweep f ∷ xs) ys = events_more id xs ys
events_more id (item.BadLine n ∷ xs) ys = events_more id xs ys
events_more id (item.EndOfText ∷ xs) ys = events_more id xs ys

pub events_passing : (id : ℕ) (e : Entry) → noted_events_of id (passing e) ≡ []
events_passing id (entry.Item (item.Step f (Note k e))) = refl
events_passing id (entry.Item (item.Step f (Put text))) = refl
events_passing id (entry.Item (item.Step f (Withdraw name))) = refl
events_passing id (entry.Item (item.Step f (step.Profile p))) = refl
events_passing id (entry.Item (item.Step f (Open k name))) = refl
events_passing id (entry.Item (item.Step f (Turn k))) = refl
events_passing id (entry.Item (item.Step f (Ask k))) = refl
events_passing id (entry.Item (item.Step f (Close k))) = refl
events_passing id (entry.Item (item.Sweep f)) = refl
events_passing id (entry.Item (item.BadLine n)) = refl
events_passing id (entry.Item item.EndOfText) = refl
events_passing id entry.Skipped = refl

events_end : (id : ℕ) (b : Bool) → noted_events_of id (end_item b) ≡ []
events_end id true = refl
events_end id false = refl

one_given : (b : Bool) (x : Noted Asked) (xs : List (Noted Asked)) (events : List Event) → events ≡ map (noted_event event_in) xs
    → cond b (x.arrival.0 ∷ events) events ≡ map (noted_event event_in) (cond b (x ∷ xs) xs)
one_given true x xs events is = ap (λ (l : List Event). x.arrival.0 ∷ l) is
one_given false x xs events is = is

pub events_released : (id : ℕ) (given : List (Noted Asked)) → noted_events_of id (map item_of given) ≡ given_to id given
events_released id [] = refl
events_released id (x ∷ given) = one_given (nat_eq id x.conversation) x (noted_of id given) (noted_events_of id (map item_of given)) (events_released id given)

-- the events of a script
pub events_noted : (id n : ℕ) (entries : List Entry) → noted_events_of id (entry_items entries) ≡ given_to id (noted_in (staged_from n entries))
events_noted id n [] = refl
events_noted id n (entry.Item (item.Step f (Note k e)) ∷ entries) =
    one_given (nat_eq id k) (record { conversation = k; time = n; arrival = (e, f) }) (noted_of id (noted_in (staged_from (n + 1) entries))) (noted_events_of id (entry_items entries)) (events_noted id (n + 1) entries)
events_noted id n (entry.Item (item.Step f (Put text)) ∷ entries) = events_noted id (n + 1) entries
events_noted id n (entry.Item (item.Step f (Withdraw name)) ∷ entries) = events_noted id (n + 1) entries
events_noted id n (entry.Item (item.Step f (step.Profile p)) ∷ entries) = events_noted id (n + 1) entries
events_noted id n (entry.Item (item.Step f (Open k name)) ∷ entries) = events_noted id (n + 1) entries
events_noted id n (entry.Item (item.Step f (Turn k)) ∷ entries) = events_noted id (n + 1) entries
events_noted id n (entry.Item (item.Step f (Ask k)) ∷ entries) = events_noted id (n + 1) entries
events_noted id n (entry.Item (item.Step f (Close k)) ∷ entries) = events_noted id (n + 1) entries
events_noted id n (entry.Item (item.Sweep f) ∷ entries) = events_noted id (n + 1) entries
events_noted id n (entry.Item (item.BadLine k) ∷ entries) = events_noted id (n + 1) entries
events_noted id n (entry.Item item.EndOfText ∷ entries) = events_noted id (n + 1) entries
events_noted id n (entry.Skipped ∷ entries) = events_noted id (n + 1) entries

-- one entry more, whose events are among those that are given then
pub noted_more : (id : ℕ) (items : List Item) (released given : List (Noted Asked)) (e : Entry) → noted_events_of id items ≡ given_to id released
    → noted_events_of id (items ++ (passing e ++ map item_of given)) ≡ given_to id (released ++ given)
noted_more id items released given e so_far =
    events_more id items (passing e ++ map item_of given) ∙ ap (λ (l : List Event). l ++ noted_events_of id (passing e ++ map item_of given)) so_far
    ∙ ap (λ (l : List Event). given_to id released ++ l) (events_more id (passing e) (map item_of given) ∙ ap (λ (l : List Event). l ++ noted_events_of id (map item_of given)) (events_passing id e) ∙ events_released id given)
    ∙ sym (given_more id released given)

-- the items of closings
events_closings : (id : ℕ) (pending : List Pending) → noted_events_of id (map closing_item pending) ≡ []
events_closings id [] = refl
events_closings id (c ∷ pending) = events_closings id pending

-- one closing more, and the events that are released for it
pub noted_closing : (id : ℕ) (items : List Item) (released given : List (Noted Asked)) (c : Pending) → noted_events_of id items ≡ given_to id released
    → noted_events_of id (items ++ (map item_of given ++ closing_item c ∷ [])) ≡ given_to id (released ++ given)
noted_closing id items released given c so_far =
    events_more id items (map item_of given ++ closing_item c ∷ []) ∙ ap (λ (l : List Event). l ++ noted_events_of id (map item_of given ++ closing_item c ∷ [])) so_far
    ∙ ap (λ (l : List Event). given_to id released ++ l) (events_more id (map item_of given) (closing_item c ∷ []) ∙ append-nil (noted_events_of id (map item_of given)) ∙ events_released id given)
    ∙ sym (given_more id released given)

-- all items of a script
pub all_noted : (id : ℕ) (items : List Item) (released waited : List (Noted Asked)) (pending : List Pending) (b : Bool) → noted_events_of id items ≡ given_to id released
    → noted_events_of id (items ++ (map item_of waited ++ (map closing_item pending ++ end_item b))) ≡ given_to id (released ++ waited)
all_noted id items released waited pending b so_far =
    let last = map closing_item pending ++ end_item b in
    let none : noted_events_of id last ≡ [] = events_more id (map closing_item pending) (end_item b) ∙ ap (λ (l : List Event). l ++ noted_events_of id (end_item b)) (events_closings id pending) ∙ events_end id b in
    events_more id items (map item_of waited ++ last) ∙ ap (λ (l : List Event). l ++ noted_events_of id (map item_of waited ++ last)) so_far
    ∙ ap (λ (l : List Event). given_to id released ++ l) (events_more id (map item_of waited) last ∙ ap (λ (l : List Event). noted_events_of id (map item_of waited) ++ l) none ∙ append-nil (noted_events_of id (map item_of waited)) ∙ events_released id waited)
    ∙ sym (given_more id released waited)
