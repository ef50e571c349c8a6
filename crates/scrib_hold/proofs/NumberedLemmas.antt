-- The items that are let out, and their numbers.
use Rattle.std.proofs.Common.{◌≡◌, ◌∙◌, ℕ, ◌+◌, Bool, List, [], ◌∷◌, ◌++◌, map, length, inl, inr, refl, sym, ap, subst}
use Rattle.std.proofs.lemmas.List.{append_assoc, append-nil, map-append}
use Rattle.scrib_script_reader.specs.declared.item.Item.{Item}
use Rattle.scrib_script_reader.specs.declared.entry.Entry.{Entry}
use Rattle.scrib_hold_stage.specs.declared.noted.Noted.{Noted}
use Rattle.scrib_hold_stage.specs.Entries.{Closings, none_closed}
use Rattle.scrib_hold.specs.HeldScripts.{Asked, Pending, item_of, closing_item, passing, ends_inside, end_item, opens_next, IsNext, LetsOut, nothing, reads, closes, AreHeldItems, AreLetOut}
use Rattle.scrib_hold.specs.NumberedItems.{Numbered, items_in, numbered_at, numbered_event, numbered_closing, numbered_read, numbered_closed, numbered_last, numbered_let_out, numbered_held, LetsOutNumbered, AreHeldNumbered, AreLetOutNumbered, AreFirstItems}
use Rattle.scrib_hold.specs.LetOutSoFar.{closing_items}

pub items_more : (xs ys : List Numbered) → items_in (xs ++ ys) ≡ items_in xs ++ items_in ys
items_more xs ys = map-append (λ (x : Numbered). x.1) xs ys

items_at : (n : ℕ) (items : List Item) → items_in (numbered_at n items) ≡ items
items_at n [] = refl
items_at n (i ∷ items) = ap (λ (l : List Item). i ∷ l) (items_at n items)

items_released : (released : List (Noted Asked)) → items_in (map numbered_event released) ≡ map item_of released
items_released [] = refl
items_released (x ∷ released) = ap (λ (l : List Item). item_of x ∷ l) (items_released released)

items_pending : (pending : List Pending) → items_in (map numbered_closing pending) ≡ map closing_item pending
items_pending [] = refl
items_pending (c ∷ pending) = ap (λ (l : List Item). closing_item c ∷ l) (items_pending pending)

-- those of an entry
items_read : (n : ℕ) (e : Entry) (released : List (Noted Asked)) → items_in (numbered_read n e released) ≡ passing e ++ map item_of released
items_read n e released =
    items_more (numbered_at n (passing e)) (map numbered_event released)
    ∙ ap (λ (l : List Item). l ++ items_in (map numbered_event released)) (items_at n (passing e)) ∙ ap (λ (l : List Item). passing e ++ l) (items_released released)

-- those of a closing
items_closed : (c : Pending) (released : List (Noted Asked)) → items_in (numbered_closed c released) ≡ closing_items c released
items_closed c released = items_more (map numbered_event released) (numbered_closing c ∷ []) ∙ ap (λ (l : List Item). l ++ closing_item c ∷ []) (items_released released)

-- those at the end
items_last : (n : ℕ) (waited : List (Noted Asked)) (pending : List Pending) (items : List Item)
    → items_in (map numbered_event waited ++ (map numbered_closing pending ++ numbered_at n items)) ≡ map item_of waited ++ (map closing_item pending ++ items)
items_last n waited pending items =
    items_more (map numbered_event waited) (map numbered_closing pending ++ numbered_at n items)
    ∙ ap (λ (l : List Item). l ++ items_in (map numbered_closing pending ++ numbered_at n items)) (items_released waited)
    ∙ ap (λ (l : List Item). map item_of waited ++ l) (items_more (map numbered_closing pending) (numbered_at n items)
    ∙ ap (λ (l : List Item). l ++ items_in (numbered_at n items)) (items_pending pending) ∙ ap (λ (l : List Item). map closing_item pending ++ l) (items_at n items))

-- two lists, one after the other
both : (xs ys : List Numbered) (items more : List Item) → items_in xs ≡ items → items_in ys ≡ more → items_in (xs ++ ys) ≡ items ++ more
both xs ys items more first next = items_more xs ys ∙ ap (λ (l : List Item). l ++ items_in ys) first ∙ ap (λ (l : List Item). items ++ l) next

-- further items
pub more_read : (xs : List Numbered) (n : ℕ) (e : Entry) (released : List (Noted Asked)) → items_in (xs ++ numbered_read n e released) ≡ items_in xs ++ (passing e ++ map item_of released)
more_read xs n e released = both xs (numbered_read n e released) (items_in xs) (passing e ++ map item_of released) refl (items_read n e released)

pub more_closed : (xs : List Numbered) (c : Pending) (released : List (Noted Asked)) → items_in (xs ++ numbered_closed c released) ≡ items_in xs ++ closing_items c released
more_closed xs c released = both xs (numbered_closed c released) (items_in xs) (closing_items c released) refl (items_closed c released)

pub more_last : (xs : List Numbered) (n : ℕ) (waited : List (Noted Asked)) (pending : List Pending) (inside : Bool)
    → items_in (xs ++ numbered_last n waited pending inside) ≡ items_in xs ++ (map item_of waited ++ (map closing_item pending ++ end_item inside))
more_last xs n waited pending inside =
    both xs (numbered_last n waited pending inside) (items_in xs) (map item_of waited ++ (map closing_item pending ++ end_item inside)) refl (items_last n waited pending (end_item inside))

-- ---- the items that are let out, without their numbers

pub items_let_out : {bound : ℕ} {entries later : List Entry} {closed : Closings} {pending : List Pending} {released expired : List (Noted Asked)} {items : List Item}
    → (lets : LetsOut bound entries later closed pending released expired items) → items_in (numbered_let_out lets) ≡ items
items_let_out (nothing later) = refl
items_let_out (reads entries later closed pending released expired items e given late gone l w a s x) =
    both (numbered_let_out l) (numbered_read (length entries + 1) e (given ++ late)) items (passing e ++ map item_of (given ++ late)) (items_let_out l) (items_read (length entries + 1) e (given ++ late))
items_let_out (closes entries later closed front back c released expired items given gone l n s x r) =
    both (numbered_let_out l) (numbered_closed c given) items (closing_items c given) (items_let_out l) (items_closed c given)

pub items_held : (bound : ℕ) (entries : List Entry) (expired : List (Noted Asked)) (items : List Item) (held : AreHeldItems bound entries expired items) → items_in (numbered_held held) ≡ items
items_held bound entries expired items held =
    let last = items_last (length entries) held.waited held.pending (end_item (ends_inside entries)) in
    both (numbered_let_out held.lets) (numbered_last (length entries) held.waited held.pending (ends_inside entries)) held.let_out
    (map item_of held.waited ++ (map closing_item held.pending ++ end_item (ends_inside entries))) (items_let_out held.lets) last
    ∙ sym held.is

pub lets_out : (bound : ℕ) (entries later : List Entry) (closed : Closings) (pending : List Pending) (released expired : List (Noted Asked)) (numbered : List Numbered)
    → LetsOutNumbered bound entries later closed pending released expired numbered → LetsOut bound entries later closed pending released expired (items_in numbered)
lets_out bound entries later closed pending released expired numbered l =
    subst (LetsOut bound entries later closed pending released expired) (sym (items_let_out l.1) ∙ ap items_in l.2) l.1

pub are_held : (bound : ℕ) (entries : List Entry) (expired : List (Noted Asked)) (numbered : List Numbered) → AreHeldNumbered bound entries expired numbered → AreHeldItems bound entries expired (items_in numbered)
are_held bound entries expired numbered h = subst (AreHeldItems bound entries expired) (sym (items_held bound entries expired h.0 h.1) ∙ ap items_in h.2) h.1

pub are_let_out : (bound : ℕ) (entries later : List Entry) (numbered : List Numbered) → AreLetOutNumbered bound entries later numbered → AreLetOut bound entries later (items_in numbered)
are_let_out bound entries later numbered (inl o) = inl (o.0, o.1, o.2, o.3, lets_out bound entries later o.0 o.1 o.2 o.3 numbered o.4)
are_let_out bound entries later numbered (inr o) = inr (o.0, are_held bound entries o.0 numbered o.1)

-- ---- where more entries follow

opens_further : (id : ℕ) (later more : List Entry) → opens_next id later → opens_next id (later ++ more)
opens_further id [] more o = absurd o
opens_further id (e ∷ later) more o = o

next_further : (bound : ℕ) (entries later more : List Entry) (closed : Closings) (released : List (Noted Asked)) (front : List Pending) (c : Pending) → IsNext bound entries later closed released front c → IsNext bound entries (later ++ more) closed released front c
next_further bound entries later more closed released front c (inl n) = inl n
next_further bound entries later more closed released front c (inr n) = inr (n.0, opens_further c.conversation later more n.1)

-- they let out the same, with the same numbers
lets_further : {bound : ℕ} {entries later : List Entry} {closed : Closings} {pending : List Pending} {released expired : List (Noted Asked)} {items : List Item} (more : List Entry)
    → (lets : LetsOut bound entries later closed pending released expired items)
    → (further : LetsOut bound entries (later ++ more) closed pending released expired items) × (numbered_let_out further ≡ numbered_let_out lets)
lets_further more (nothing later) = (nothing (later ++ more), refl)
lets_further more (reads entries later closed pending released expired items e given late gone l w a s x) =
    let k = lets_further more l in (
      reads entries (later ++ more) closed pending released expired items e given late gone k.0 w a s x,
      ap (λ (n : List Numbered). n ++ numbered_read (length entries + 1) e (given ++ late)) k.1,
    )
lets_further {bound} more (closes entries later closed front back c released expired items given gone l n s x r) =
    let k = lets_further more l in (
      closes entries (later ++ more) closed front back c released expired items given gone k.0 (next_further bound entries later more closed released front c n) s x r,
      ap (λ (m : List Numbered). m ++ numbered_closed c given) k.1,
    )

pub let_out_further : (bound : ℕ) (entries later more : List Entry) (items : List Item) → AreLetOut bound entries later items → AreLetOut bound entries (later ++ more) items
let_out_further bound entries later more items (inl o) = inl (o.0, o.1, o.2, o.3, (lets_further more o.4).0)
let_out_further bound entries later more items (inr o) = inr o

-- no items are
pub first_none : (bound : ℕ) (entries : List Entry) → AreFirstItems bound entries []
first_none bound entries = record {
  first = [];
  later = entries;
  undone = [];
  entries_are = refl;
  let_out = inl (none_closed, [], [], [], ([], nothing entries, refl));
}
