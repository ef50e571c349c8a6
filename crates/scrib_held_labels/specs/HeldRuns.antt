-- The items of a script with labels that a stage lets out, and what is written for them (this project's own).
use Rattle.std.specs.Prelude.{◌≡◌, ◌⊎◌, ℕ, ◌+◌, List, [], ◌∷◌, ◌++◌, map, nat_eq, Option, Some, None, if◌then◌else◌}
use Rattle.std.specs.List.{AllByRecursion}
use Rattle.std.specs.Map.{update}
use Rattle.std.specs.Str.{bytes_eq}
use Rattle.scrib_core.specs.declared.reply.Reply.{Reply}
use Rattle.scrib_core.specs.World.{conversation}
use Rattle.scrib_core.specs.Answers.{State, initial}
use Rattle.scrib_script_reader.specs.declared.entry.Entry.{Entry}
use Rattle.scrib_hold_stage.specs.declared.noted.Noted.{Noted}
use Rattle.scrib_hold_stage.specs.Entries.{Closings, opening_since}
use Rattle.scrib_hold_stage.specs.PendingClosings.{IsApart}
use Rattle.scrib_hold_stage.specs.Stages.{AreAllReleased}
use Rattle.scrib_hold.specs.HeldScripts.{Asked, Pending, staged_from}
use Rattle.scrib_hold.specs.NumberedItems.{Numbered, LetsOutNumbered}
use Rattle.scrib_labelled.specs.declared.label_options.LabelledStyle.{LabelledStyle}
use Rattle.scrib_labelled.specs.LabelledEntries.{LabelledEntry}
use Rattle.scrib_labelled.specs.LabelledLines.{LineLabel}
use Rattle.scrib_labelled.specs.LabelledRuns.{IsNumberIn, Naming, Takes, put_back}

-- the entries without their labels
abbrev pub plain : List LabelledEntry → List Entry
plain entries = map (λ e. e.1) entries

-- the label that stands for that of an entry that there is not
abbrev pub no_label : LineLabel
no_label = record { line = 0; text = []; tag = None; session = None }

-- the label of entry n, where k is the number of the first
abbrev pub labels_from : (k : ℕ) → List LabelledEntry → (n : ℕ) → LineLabel
labels_from k [] n = no_label
labels_from k (e ∷ entries) n = if nat_eq k n then e.0 else labels_from (k + 1) entries n

-- the same, where entries are numbered from 1
abbrev pub label_at : List LabelledEntry → (n : ℕ) → LineLabel
label_at entries n = labels_from 1 entries n

-- The items are carried out one after another, each with the label of its entry: from a state to another, with this
-- output. Each reply has the label.
abbrev pub Carries : LabelledStyle → (labels : ℕ → LineLabel) → List Numbered → (w v : State) → (output : List ℕ)
    → Type 0
Carries o labels [] w v output = (v ≡ w) × (output ≡ [])
Carries o labels (x ∷ numbered) w v output =
    (u : State) × (replies : List Reply) × (first : List ℕ) × (rest : List ℕ)
    × Takes o (put_back o (labels x.0)) w x.1 u replies first
    × Carries o labels numbered u v rest × (output ≡ first ++ rest)

-- the numbers of names, where that of this session has its number too
abbrev pub with_session : Naming → Option (List ℕ × ℕ) → Naming
with_session names None = names
with_session names (Some s) = update bytes_eq names s.0 (Some s.1)

-- Nothing is left of the conversation: it is not open, no line has opened it since its last closing, also none that was
-- refused, all its events since then were released, and no closing of it waits.
pub record IsOver (id : ℕ) (entries : List Entry) (closed : Closings) (pending : List Pending)
    (released : List (Noted Asked)) (w : State) : Type 0 where
  pub unopened : conversation w.world id ≡ None
  pub unasked : opening_since (closed id) id (staged_from 1 entries) ≡ None
  pub released_all : AreAllReleased id (staged_from 1 entries) closed released
  pub unclosed : AllByRecursion (IsApart id) pending

-- each name keeps its number, or nothing is left of its conversation, and it has none
abbrev pub KeepsNames : (names after : Naming) → (over : ℕ → Type 0) → Type 0
KeepsNames names after over =
    (name : List ℕ) → (after name ≡ names name)
    ⊎ ((after name ≡ None) × ((id : ℕ) → names name ≡ Some id → over id))

-- These entries were taken one after another behind a stage, and these items were let out and carried out over a new
-- monitor: the numbers of names then, the state, and the output. The number of a line's name is that of the name, or
-- one that no name has. A name keeps its number at least as long as something is left of its conversation.
pub data HeldRuns (o : LabelledStyle) (bound : ℕ)
    : List LabelledEntry → List Numbered → Naming → State → (output : List ℕ) → Type 0 where
  nothing : (names : Naming) → ((name : List ℕ) → names name ≡ None) → HeldRuns o bound [] [] names initial []
  takes : (entries : List LabelledEntry) (numbered given : List Numbered) (names after : Naming) (w v : State)
      (out more : List ℕ) (label : LineLabel) (e : Entry) (closed : Closings) (pending : List Pending)
      (released expired : List (Noted Asked)) → HeldRuns o bound entries numbered names w out
      → IsNumberIn names label.session
      → LetsOutNumbered bound (plain (entries ++ (label, e) ∷ [])) [] closed pending released expired
      (numbered ++ given)
      → Carries o (label_at (entries ++ (label, e) ∷ [])) given w v more
      → KeepsNames (with_session names label.session) after
      (λ id. IsOver id (plain (entries ++ (label, e) ∷ [])) closed pending released v)
      → HeldRuns o bound (entries ++ (label, e) ∷ []) (numbered ++ given) after v (out ++ more)
