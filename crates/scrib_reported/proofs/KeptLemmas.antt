-- What is kept of conversations behind one change or two.
use Rattle.std.proofs.Common.{◌≡◌, ℕ, ◌-◌, Bool, true, false, cond, List, [], ◌∷◌, ◌++◌, Option, Some, None, nat_eq, refl, sym, ap, subst, ◌∙◌, eq-eqb}
use Rattle.std.specs.Prelude.{option_map, slice_get, unwrap_or}
use Rattle.std.specs.Map.{lookup, values_of}
use Rattle.std.specs.Cmp.{nat_eq_equiv}
use Rattle.std.proofs.lemmas.Bool.Decides.{Decides-eqb}
use Rattle.std.proofs.lemmas.Map.Entries.{lookup_from_place}
use Rattle.std.proofs.lemmas.Option.{slice_get-map}
use Rattle.indexmap.specs.IndexMap.{IndexMap, IsUnique, with_value_at}
use Rattle.indexmap.proofs.CallerLemmas.{updates-with_value_at}
use Rattle.scrib_reported.specs.declared.kept.KeptConversation.{KeptConversation}
use Rattle.scrib_reported.specs.Kept.{IsKept, Keeping, kept_or_nothing, line_at, with_line}
use Rattle.scrib_reported.specs.ReportedReplies.{IsKeptOf, kept_of}

itself : (id : ℕ) → nat_eq id id ≡ true
itself id = eq-eqb id id refl

same_id : (a b : ℕ) → nat_eq a b ≡ true → a ≡ b
same_id a b e = (Decides-eqb a b).0 e

-- of the conversation itself this is kept
pub kept_itself : (old : Keeping) (id : ℕ) (now : KeptConversation) (new : Keeping) → IsKept old id now new → new id ≡ now
kept_itself old id now new k = k id ∙ ap (λ (b : Bool). cond b now (old id)) (itself id)

-- nothing has changed
pub kept_unchanged : (old : Keeping) (id : ℕ) → IsKept old id (old id) old
kept_unchanged old id i = by (nat_eq id i) refl
  where
    by : (b : Bool) → nat_eq id i ≡ b → old i ≡ cond (nat_eq id i) (old id) (old i)
    by true e = ap old (sym (same_id id i e)) ∙ ap (λ (b : Bool). cond b (old id) (old i)) (sym e)
    by false e = ap (λ (b : Bool). cond b (old id) (old i)) (sym e)

-- two changes of one conversation are one
pub kept_twice : (old mid new : Keeping) (id : ℕ) (x y : KeptConversation) → IsKept old id x mid → IsKept mid id y new → IsKept old id y new
kept_twice old mid new id x y p q i = q i ∙ by (nat_eq id i) refl
  where
    by : (b : Bool) → nat_eq id i ≡ b → cond (nat_eq id i) y (mid i) ≡ cond (nat_eq id i) y (old i)
    by true e = ap (λ (b : Bool). cond b y (mid i)) e ∙ ap (λ (b : Bool). cond b y (old i)) (sym e)
    by false e =
        ap (λ (b : Bool). cond b y (mid i)) e ∙ p i ∙ ap (λ (b : Bool). cond b x (old i)) e
        ∙ ap (λ (b : Bool). cond b y (old i)) (sym e)

-- of the step's conversation nothing has changed
pub kept_of_unchanged : (old : Keeping) (o : Option ℕ) → IsKeptOf old o (kept_of old o) old
kept_of_unchanged old None = λ i. refl
kept_of_unchanged old (Some id) = kept_unchanged old id

-- ---- entries of a table

-- the entries are updated at a key
pub kept_entry : (old new : List (ℕ × KeptConversation)) (id : ℕ) (w : KeptConversation) → ((i : ℕ) → lookup (nat_eq i) new ≡ cond (nat_eq id i) (Some w) (lookup (nat_eq i) old))
    → IsKept (λ i. kept_or_nothing (lookup (nat_eq i) old)) id w (λ i. kept_or_nothing (lookup (nat_eq i) new))
kept_entry old new id w h i = ap kept_or_nothing (h i) ∙ by (nat_eq id i)
  where
    by : (b : Bool) → kept_or_nothing (cond b (Some w) (lookup (nat_eq i) old)) ≡ cond b w (kept_or_nothing (lookup (nat_eq i) old))
    by true = refl
    by false = refl

-- the line of an event of a conversation that has an entry
pub line_found : (o : Option KeptConversation) (place at : ℕ) (k : KeptConversation) (line : Option ℕ) → o ≡ Some k → at ≡ place - 1 → line ≡ slice_get k.lines at → unwrap_or line 0 ≡ line_at (kept_or_nothing o).lines place
line_found o place at k line there is found =
    ap (λ (l : Option ℕ). unwrap_or l 0) (found ∙ ap (λ (n : ℕ). slice_get k.lines n) is)
    ∙ ap (λ (x : Option KeptConversation). line_at (kept_or_nothing x).lines place) (sym there)

-- what the entries keep
abbrev kept_by : List (ℕ × KeptConversation) → Keeping
kept_by es i = kept_or_nothing (lookup (nat_eq i) es)

-- a key's entry in a table after a write at this key
abbrev IsWritten : (old new : List (ℕ × KeptConversation)) → (id : ℕ) → Option KeptConversation → Type 0
IsWritten old new id w = (i : ℕ) → lookup (nat_eq i) new ≡ cond (nat_eq id i) w (lookup (nat_eq i) old)

-- a line was added to an entry
pub line_added : (old new : List (ℕ × KeptConversation)) (id line : ℕ) (k : KeptConversation) (lines : List ℕ) → lookup (nat_eq id) old ≡ Some k → lines ≡ k.lines ++ line ∷ []
    → IsWritten old new id (Some (record { lines = lines; offence = k.offence })) → IsKept (kept_by old) id (with_line (kept_by old id) line) (kept_by new)
line_added old new id line k lines there is written =
    let now : record { lines = lines; offence = k.offence } ≡ with_line (kept_by old id) line =
    ap (λ (l : List ℕ). record { lines = l; offence = k.offence }) is ∙ ap (λ (o : Option KeptConversation). with_line (kept_or_nothing o) line) (sym there) in
    subst (λ (x : KeptConversation). IsKept (kept_by old) id x (kept_by new)) now (kept_entry old new id (record { lines = lines; offence = k.offence }) written)

-- what the place of a conversation has is kept of the conversation
there_at : {S : Type 0} (m : IndexMap ℕ KeptConversation S) (at id : ℕ) (k kept : KeptConversation) → slice_get m.entries at ≡ Some (id, kept) → IsUnique nat_eq m
    → Some k ≡ slice_get (values_of m.entries) at → lookup (nat_eq id) m.entries ≡ Some k
there_at m at id k kept p unique read =
    let here : slice_get (values_of m.entries) at ≡ Some kept = slice_get-map (λ (e : ℕ × KeptConversation). e.1) m.entries at ∙ ap (option_map (λ (e : ℕ × KeptConversation). e.1)) p in
    lookup_from_place nat_eq_equiv m.entries at id kept unique p ∙ sym here ∙ sym read

-- a line was added at the place of a conversation
pub line_added_at : {S : Type 0} (m : IndexMap ℕ KeptConversation S) (at id line : ℕ) (k kept : KeptConversation) (lines : List ℕ) → slice_get m.entries at ≡ Some (id, kept) → IsUnique nat_eq m
    → Some k ≡ slice_get (values_of m.entries) at → lines ≡ k.lines ++ line ∷ []
    → IsKept (kept_by m.entries) id (with_line (kept_by m.entries id) line) (kept_by (with_value_at m at (record { lines = lines; offence = k.offence })).entries)
line_added_at m at id line k kept lines p unique read is =
    line_added m.entries (with_value_at m at w).entries id line k lines (there_at m at id k kept p unique read) is written
  where
    w : KeptConversation
    w = record { lines = lines; offence = k.offence }

    by : (i : ℕ) (b : Bool) → nat_eq id i ≡ b → lookup (nat_eq i) (with_value_at m at w).entries ≡ cond b (Some w) (lookup (nat_eq i) m.entries)
    by i true e = subst (λ (n : ℕ). lookup (nat_eq n) (with_value_at m at w).entries ≡ Some w) (same_id id i e) (updates-with_value_at m at w nat_eq_equiv unique id kept p).1
    by i false e = (updates-with_value_at m at w nat_eq_equiv unique id kept p).2 i e

    written : IsWritten m.entries (with_value_at m at w).entries id (Some w)
    written i = by i (nat_eq id i) refl
