-- Scripts, as a stage reads them (this project's own).
use Rattle.std.specs.Prelude.{◌≡◌, ℕ, ◌+◌, Bool, false, ◌&&◌, List, [], ◌∷◌, Option, None, Some, filter, nat_eq, ltb, if◌then◌else◌}
use Rattle.scrib_hold_stage.specs.declared.noted.Noted.{Noted}

-- An entry of a script notes an event, opens a conversation, or is another one.
pub data Entry (A : Type 0) : Type 0 where
  Notes : Noted A → Entry A
  Opens : ℕ → Entry A
  Passes : Entry A

-- the entry that notes this arrival
abbrev pub note : {A : Type 0} → (id time : ℕ) → A → Entry A
note id time arrival = Notes (record { conversation = id; time = time; arrival = arrival })

-- the item is of the conversation
abbrev pub is_of : {A : Type 0} → ℕ → Noted A → Bool
is_of id x = nat_eq id x.conversation

-- the items of the conversation, in order
abbrev pub noted_of : {A : Type 0} → ℕ → List (Noted A) → List (Noted A)
noted_of id items = filter (is_of id) items

-- the events among the entries, in order
abbrev pub noted_in : {A : Type 0} → List (Entry A) → List (Noted A)
noted_in [] = []
noted_in (Notes x ∷ entries) = x ∷ noted_in entries
noted_in (Opens id ∷ entries) = noted_in entries
noted_in (Passes ∷ entries) = noted_in entries

-- the entry opens the conversation
abbrev pub opens : {A : Type 0} → ℕ → Entry A → Bool
opens id (Notes x) = false
opens id (Opens k) = nat_eq id k
opens id Passes = false

-- Of each conversation, how many entries had been read when it was last closed, or 0. Its present life began then.
abbrev pub Closings : Type 0
Closings = ℕ → ℕ

-- no conversation was closed
abbrev pub none_closed : Closings
none_closed id = 0

-- the conversation is closed when n entries have been read
abbrev pub closed_at : (id n : ℕ) → Closings → Closings
closed_at id n closed k = if nat_eq id k then n else closed k

-- the item is of the conversation, and later than this time
abbrev pub is_since : {A : Type 0} → (time id : ℕ) → Noted A → Bool
is_since time id x = nat_eq id x.conversation && ltb time x.time

-- the items of the conversation that are later than this time, in order
abbrev pub noted_since : {A : Type 0} → (time id : ℕ) → List (Noted A) → List (Noted A)
noted_since time id items = filter (is_since time id) items

-- the number of the first entry later than this time that opens the conversation, where n is that of the first entry
abbrev pub opening_from : {A : Type 0} → (n time id : ℕ) → List (Entry A) → Option ℕ
opening_from n time id [] = None
opening_from n time id (entry ∷ entries) =
    if opens id entry && ltb time n then Some n else opening_from (n + 1) time id entries

-- the same, where entries are numbered from 1
abbrev pub opening_since : {A : Type 0} → (time id : ℕ) → List (Entry A) → Option ℕ
opening_since time id entries = opening_from 1 time id entries

-- an event has this time
abbrev pub HasTime : {A : Type 0} → ℕ → Entry A → Type 0
HasTime n (Notes x) = x.time ≡ n
HasTime n (Opens id) = Unit {0}
HasTime n Passes = Unit {0}

-- the time of each event is the number of its entry, where n is that of the first entry
abbrev pub AreNumberedFrom : {A : Type 0} → ℕ → List (Entry A) → Type 0
AreNumberedFrom n [] = Unit {0}
AreNumberedFrom n (entry ∷ entries) = HasTime n entry × AreNumberedFrom (n + 1) entries
