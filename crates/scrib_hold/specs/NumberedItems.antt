-- The items that a script lets out, each with the number of the entry that it comes from (this project's own).
use Rattle.std.specs.Prelude.{◌≡◌, ◌⊎◌, ℕ, ◌+◌, Bool, List, [], ◌∷◌, ◌++◌, length, map}
use Rattle.scrib_script_reader.specs.declared.item.Item.{Item}
use Rattle.scrib_script_reader.specs.declared.entry.Entry.{Entry}
use Rattle.scrib_hold_stage.specs.declared.noted.Noted.{Noted}
use Rattle.scrib_hold_stage.specs.declared.stage.Counts.{Counts}
use Rattle.scrib_hold_stage.specs.Entries.{Closings, noted_in}
use Rattle.scrib_hold.specs.HeldScripts.{Asked, Pending, staged_from, item_of, closing_item, passing, ends_inside, end_item, LetsOut, nothing, reads, closes, AreHeldItems}

-- an item, and the number of the entry that it comes from
abbrev pub Numbered : Type 0
Numbered = ℕ × Item

-- the items of these
abbrev pub items_in : List Numbered → List Item
items_in numbered = map (λ x. x.1) numbered

-- items of the entry with this number
abbrev pub numbered_at : ℕ → List Item → List Numbered
numbered_at n items = map (λ i. (n, i)) items

-- the item of an event that was released
abbrev pub numbered_event : Noted Asked → Numbered
numbered_event x = (x.time, item_of x)

-- the item of a closing
abbrev pub numbered_closing : Pending → Numbered
numbered_closing c = (c.time, closing_item c)

-- what is let out for entry n: what passes at once, and these events, which are released then
abbrev pub numbered_read : ℕ → Entry → (released : List (Noted Asked)) → List Numbered
numbered_read n e released = numbered_at n (passing e) ++ map numbered_event released

-- what is let out for a closing that is made: these events, and the closing
abbrev pub numbered_closed : Pending → (released : List (Noted Asked)) → List Numbered
numbered_closed c released = map numbered_event released ++ numbered_closing c ∷ []

-- what is let out at the end, where these events and closings wait, and n entries were read
abbrev pub numbered_last : ℕ → (waited : List (Noted Asked)) → List Pending → Bool → List Numbered
numbered_last n waited pending inside =
    map numbered_event waited ++ (map numbered_closing pending ++ numbered_at n (end_item inside))

-- the items that entries let out where others follow, with their numbers
abbrev pub numbered_let_out : {bound : ℕ} {entries later : List Entry} {closed : Closings} {pending : List Pending}
    {released expired : List (Noted Asked)} {items : List Item}
    → LetsOut bound entries later closed pending released expired items → List Numbered
numbered_let_out (nothing later) = []
numbered_let_out (reads entries later closed pending released expired items e given late gone l w a s x) =
    numbered_let_out l ++ numbered_read (length entries + 1) e (given ++ late)
numbered_let_out (closes entries later closed front back c released expired items given gone l n s x r) =
    numbered_let_out l ++ numbered_closed c given

-- the items of a whole script, with their numbers
abbrev pub numbered_held : {bound : ℕ} {entries : List Entry} {expired : List (Noted Asked)} {items : List Item}
    → AreHeldItems bound entries expired items → List Numbered
numbered_held {bound} {entries} held =
    numbered_let_out held.lets ++ numbered_last (length entries) held.waited held.pending (ends_inside entries)

-- entries let these out where others follow
abbrev pub LetsOutNumbered : ℕ → (entries later : List Entry) → Closings → List Pending
    → (released expired : List (Noted Asked)) → List Numbered → Type 0
LetsOutNumbered bound entries later closed pending released expired numbered =
    (items : List Item) × (lets : LetsOut bound entries later closed pending released expired items)
    × (numbered_let_out lets ≡ numbered)

-- these are the items of a whole script
abbrev pub AreHeldNumbered : ℕ → List Entry → (expired : List (Noted Asked)) → List Numbered → Type 0
AreHeldNumbered bound entries expired numbered =
    (items : List Item) × (held : AreHeldItems bound entries expired items) × (numbered_held held ≡ numbered)

-- entries let these out where others follow, or they are those of a whole script
abbrev pub AreLetOutNumbered : ℕ → (entries later : List Entry) → List Numbered → Type 0
AreLetOutNumbered bound entries later numbered =
    ((closed : Closings) × (pending : List Pending) × (released : List (Noted Asked)) × (expired : List (Noted Asked))
    × LetsOutNumbered bound entries later closed pending released expired numbered)
    ⊎ ((expired : List (Noted Asked)) × AreHeldNumbered bound entries expired numbered)

-- these are first ones of the items that some first entries let out
pub record AreFirstItems (bound : ℕ) (entries : List Entry) (numbered : List Numbered) : Type 0 where
  pub first : List Entry
  pub later : List Entry
  pub undone : List Numbered
  pub entries_are : entries ≡ first ++ later
  pub let_out : AreLetOutNumbered bound first later (numbered ++ undone)

-- These are all items of a script. The counts are of its events, and of those that expired before its end.
pub record AreAllItems (bound : ℕ) (entries : List Entry) (counts : Counts) (numbered : List Numbered) : Type 0 where
  pub expired : List (Noted Asked)
  pub held : AreHeldNumbered bound entries expired numbered
  pub events_counted : counts.events ≡ length (noted_in (staged_from 1 entries))
  pub expired_counted : counts.expired ≡ length expired
