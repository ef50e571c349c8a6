-- Two scripts that begin with the same lines: these give as many entries in both.
use Rattle.std.proofs.Common.{◌≡◌, ◌≢◌, ◌∙◌, ◌+◌, ℕ, suc, List, [], ◌∷◌, ◌++◌, Option, Some, None, length, refl, sym, ap, subst, inl, inr, arith}
use Rattle.std.specs.List.{AllByRecursion}
use Rattle.scrib_script_reader.specs.declared.entry.Entry.{Entry}
use Rattle.scrib_script_reader.specs.Scripts.{Text, empty_text, with_line, bare, text_end}
use Rattle.scrib_script_reader.specs.Entries.{SpellsEntries}
use Rattle.scrib_hold_lines.specs.Lines.{AreTextLines, no_line}
use Rattle.scrib_hold_lines.specs.Placement.{IsReaderEnded}
use Rattle.scrib_hold_lines.proofs.TextLines.{text_lines_more}
use Rattle.scrib_hold_lines.proofs.FirstLines.{Outside, Inside, inverts, put_entry, put_apart}

-- both are outside module texts, or both inside one
abbrev pub SameSide : Option Text → Option Text → Type 0
SameSide None None = Unit {0}
SameSide (Some t) (Some u) = Unit {0}
SameSide _ _ = ⊥

-- the module text so far consists of lines
abbrev pub HasLines : Option Text → Type 0
HasLines None = Unit {0}
HasLines (Some t) = AreTextLines t.bytes

-- The lines behind the common ones give the last of these entries.
pub record Walked (later other : List (List ℕ)) (xs ys : List Entry) : Type 0 where
  pub given : List Entry
  pub left : List Entry
  pub taken : List Entry
  pub rest : List Entry
  pub at : ℕ
  pub text : Option Text
  pub other_at : ℕ
  pub other_text : Option Text
  pub xs_are : xs ≡ given ++ left
  pub ys_are : ys ≡ taken ++ rest
  pub as_many : length given ≡ length taken
  pub whole : HasLines other_text
  pub spells : SpellsEntries at text later left
  pub other_spells : SpellsEntries other_at other_text other rest

walked_one : (later other : List (List ℕ)) (x y : Entry) (xs ys all all' : List Entry) → all ≡ x ∷ xs → all' ≡ y ∷ ys → Walked later other xs ys → Walked later other all all'
walked_one later other x y xs ys all all' is is' w = record {
  given = x ∷ w.given;
  left = w.left;
  taken = y ∷ w.taken;
  rest = w.rest;
  at = w.at;
  text = w.text;
  other_at = w.other_at;
  other_text = w.other_text;
  xs_are = is ∙ ap (λ (l : List Entry). x ∷ l) w.xs_are;
  ys_are = is' ∙ ap (λ (l : List Entry). y ∷ l) w.ys_are;
  as_many = ap suc w.as_many;
  whole = w.whole;
  spells = w.spells;
  other_spells = w.other_spells;
}

-- the lines after a first one are walked, wherever they begin
abbrev pub Walks : (before later other : List (List ℕ)) → Type 0
Walks before later other =
    (n m : ℕ) (t u : Option Text) (xs ys : List Entry) → SameSide t u → HasLines u → SpellsEntries n t (before ++ later) xs → SpellsEntries m u (before ++ other) ys → Walked later other xs ys

outside : (l : List ℕ) (before later other : List (List ℕ)) (n m : ℕ) (xs ys : List Entry) → Walks before later other
    → Outside n l (before ++ later) xs → Outside m l (before ++ other) ys → Walked later other xs ys
outside l before later other n m xs ys more (inl h) (inl k) = walked_one later other h.0 k.0 h.1 k.1 xs ys h.2 k.2 (more (n + 1) (m + 1) None None h.1 k.1 tt tt h.4 k.4)
outside l before later other n m xs ys more (inl h) (inr k) = absurd (put_apart (bare l) h.0 k.0 h.3 k.1)
outside l before later other n m xs ys more (inr h) (inl k) = absurd (put_apart (bare l) k.0 h.0 k.3 h.1)
outside l before later other n m xs ys more (inr h) (inr k) = more (n + 1) (m + 1) (Some (empty_text h.0)) (Some (empty_text k.0)) xs ys tt no_line h.2 k.2

line_more : (u : Text) (l : List ℕ) → IsReaderEnded l → bare l ≢ text_end → AreTextLines u.bytes → AreTextLines (with_line u l).bytes
line_more u l ended ne h =
    subst (λ (x : List ℕ). AreTextLines (u.bytes ++ x)) (sym ended.2)
    (text_lines_more h ended.0 ended.1 (subst (λ (x : List ℕ). bare x ≢ text_end) ended.2 ne))

inside : (l : List ℕ) (before later other : List (List ℕ)) (n m : ℕ) (t u : Text) (xs ys : List Entry) → IsReaderEnded l → AreTextLines u.bytes → Walks before later other
    → Inside n t l (before ++ later) xs → Inside m u l (before ++ other) ys → Walked later other xs ys
inside l before later other n m t u xs ys ended whole more (inl h) (inl k) = more (n + 1) (m + 1) (Some (with_line t l)) (Some (with_line u l)) xs ys tt (line_more u l ended k.0 whole) h.1 k.1
inside l before later other n m t u xs ys ended whole more (inl h) (inr k) = absurd (h.0 k.0)
inside l before later other n m t u xs ys ended whole more (inr h) (inl k) = absurd (k.0 h.0)
inside l before later other n m t u xs ys ended whole more (inr h) (inr k) =
    walked_one later other (put_entry t) (put_entry u) h.1.0 k.1.0 xs ys h.1.1 k.1.1 (more (n + 1) (m + 1) None None h.1.0 k.1.0 tt tt h.1.2 k.1.2)

first_walked : (l : List ℕ) (before later other : List (List ℕ)) → IsReaderEnded l → Walks before later other → (n m : ℕ) (t u : Option Text) (xs ys : List Entry) → SameSide t u → HasLines u
    → SpellsEntries n t (l ∷ (before ++ later)) xs → SpellsEntries m u (l ∷ (before ++ other)) ys → Walked later other xs ys
first_walked l before later other ended more n m None None xs ys side whole h k = outside l before later other n m xs ys more (inverts h) (inverts k)
first_walked l before later other ended more n m None (Some u) xs ys side whole h k = absurd side
first_walked l before later other ended more n m (Some t) None xs ys side whole h k = absurd side
first_walked l before later other ended more n m (Some t) (Some u) xs ys side whole h k = inside l before later other n m t u xs ys ended whole more (inverts h) (inverts k)

pub walked : (before later other : List (List ℕ)) → AllByRecursion IsReaderEnded before → Walks before later other
walked [] later other ended = λ n m t u xs ys side whole h k. record {
  given = [];
  left = xs;
  taken = [];
  rest = ys;
  at = n;
  text = t;
  other_at = m;
  other_text = u;
  xs_are = refl;
  ys_are = refl;
  as_many = refl;
  whole = whole;
  spells = h;
  other_spells = k;
}
walked (l ∷ before) later other ended = first_walked l before later other ended.0 (walked before later other ended.1)

-- ---- from the first line on

-- lists with a common front, cut at the same place
pub same_rests : (a b c d : List Entry) → a ++ b ≡ c ++ d → length a ≡ length c → b ≡ d
same_rests [] b [] d e n = e
same_rests [] b (y ∷ c) d e n = absurd (omega (arith, n))
same_rests (x ∷ a) b [] d e n = absurd (omega (arith, n))
same_rests (x ∷ a) b (y ∷ c) d e n = same_rests a b c d (tails e) (omega (arith, n))
  where
    tails : x ∷ (a ++ b) ≡ y ∷ (c ++ d) → a ++ b ≡ c ++ d
    tails f = cc
