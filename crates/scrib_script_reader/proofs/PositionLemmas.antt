-- What a script gives from a position on.
use Rattle.std.proofs.Common.{◌≡◌, ◌+◌, inl, inr, ℕ, List, [], ◌∷◌, ◌++◌, Option, Some, None, take, refl, sym, ap, subst}
use Rattle.std.proofs.lemmas.List.{append_assoc, append-nil}
use Rattle.scrib_core.specs.declared.step.Step.TheVariants.{Put}
use Rattle.scrib_script_reader.specs.Says.{Says}
use Rattle.scrib_script_reader.specs.declared.entry.Entry.{Entry}
use Rattle.scrib_script_reader.specs.declared.entry.Entry.TheVariants as entry
use Rattle.scrib_script_reader.specs.declared.line.Line.{Line}
use Rattle.scrib_script_reader.specs.declared.line.Line.TheVariants as line
use Rattle.scrib_script_reader.specs.declared.item.Item.{Item}
use Rattle.scrib_script_reader.specs.declared.item.Item.TheVariants as item
use Rattle.scrib_script_reader.specs.Scripts as script
use Rattle.scrib_script_reader.specs.Scripts.{NoLf, Text, with_line, Spells, lines, bare, text_end}
use Rattle.scrib_script_reader.specs.Entries.{SpellsEntries, ends, skips, makes, sweeps, is_bad, begins, goes_on, puts, stops, entry_items}
use Rattle.scrib_script_reader.specs.Positions.{Position, SpellsFrom, LeadsFrom, begun_text, entries_of}
use Rattle.scrib_script_reader.proofs.Decisions.{same_bytes, line_decided}
use Rattle.scrib_script_reader.proofs.Bytes.{lines_lf, lines_last}

-- lines that give these entries spell their items
pub spells_items : {n : ℕ} {text : Option Text} {ls : List (List ℕ)} {entries : List Entry} → SpellsEntries n text ls entries → Spells n text ls (entry_items entries)
spells_items (ends n) = script.ends n
spells_items (skips n l ls es says more) = script.skips n l ls (entry_items es) says (spells_items more)
spells_items (makes n l ls es f s says more) = script.makes n l ls (entry_items es) f s says (spells_items more)
spells_items (sweeps n l ls es f says more) = script.sweeps n l ls (entry_items es) f says (spells_items more)
spells_items (is_bad n l ls es says more) = script.is_bad n l ls (entry_items es) says (spells_items more)
spells_items (begins n l ls es f says more) = script.begins n l ls (entry_items es) f says (spells_items more)
spells_items (goes_on n t l ls es ne more) = script.goes_on n t l ls (entry_items es) ne (spells_items more)
spells_items (puts n t l ls es e more) = script.puts n t l ls (entry_items es) e (spells_items more)
spells_items (stops n t) = script.stops n t

-- the items of entries, and of more
pub items_more : (a b : List Entry) → entry_items (a ++ b) ≡ entry_items a ++ entry_items b
items_more [] b = refl
items_more (entry.Skipped ∷ a) b = items_more a b
items_more (entry.Item i ∷ a) b = ap (λ (is : List Item). i ∷ is) (items_more a b)

-- a line outside module texts
pub spells_line : (n : ℕ) (l : List ℕ) (ls : List (List ℕ)) (word : Line) (rest : List Entry) → Says (bare l) word
    → SpellsEntries (n + 1) (begun_text word) ls rest → SpellsEntries n None (l ∷ ls) (entries_of n word ++ rest)
spells_line n l ls line.Skipped rest says more = skips n l ls rest says more
spells_line n l ls (line.Put f) rest says more = begins n l ls rest f says more
spells_line n l ls (line.Step f s) rest says more = makes n l ls rest f s says more
spells_line n l ls (line.Sweep f) rest says more = sweeps n l ls rest f says more
spells_line n l ls line.Bad rest says more = is_bad n l ls rest says more

-- the lines give some entries, outside module texts and inside one
abbrev pub GiveEntries : List (List ℕ) → Type 0
GiveEntries ls = (n : ℕ) (text : Option Text) → (entries : List Entry) × SpellsEntries n text ls entries

given_inside : (l : List ℕ) (ls : List (List ℕ)) → GiveEntries ls → (n : ℕ) (text : Text) → (entries : List Entry) × SpellsEntries n (Some text) (l ∷ ls) entries
given_inside l ls more n text = elim (same_bytes (bare l) text_end) [
  | inl e ↦ let p = more (n + 1) None in (entry.Item (item.Step text.format (Put (take 1048577 text.bytes))) ∷ p.0, puts n text l ls p.0 e p.1)
  | inr ne ↦ let p = more (n + 1) (Some (with_line text l)) in (p.0, goes_on n text l ls p.0 ne p.1)
]

-- all lines give some entries
pub give_entries : (ls : List (List ℕ)) → GiveEntries ls
give_entries [] = λ n text. elim text as (λ t. (entries : List Entry) × SpellsEntries n t [] entries) [
  | None ↦ ([], ends n)
  | Some t ↦ (entry.Item item.EndOfText ∷ [], stops n t)
]
give_entries (l ∷ ls) =
    let more = give_entries ls in
    λ n text. elim text as (λ t. (entries : List Entry) × SpellsEntries n t (l ∷ ls) entries) [
      | None ↦
          let p = line_decided (bare l) in
          let q = more (n + 1) (begun_text p.0) in
          (entries_of n p.0 ++ q.0, spells_line n l ls p.0 q.0 p.1 q.1)
      | Some t ↦ given_inside l ls more n t
    ]

-- the lines spell some items, outside module texts and inside one
abbrev pub AreSpelled : List (List ℕ) → Type 0
AreSpelled ls = (n : ℕ) (text : Option Text) → (items : List Item) × Spells n text ls items

-- all lines spell some items
pub are_spelled : (ls : List (List ℕ)) → AreSpelled ls
are_spelled ls = λ n text. let p = give_entries ls n text in (entry_items p.0, spells_items p.1)

-- No bytes lead from a position to itself.
pub leads_none : (p : Position) → LeadsFrom p [] [] p
leads_none p = λ more rest h. h

pub leads_then : (p q r : Position) (a b : List ℕ) (x y : List Entry) → LeadsFrom p a x q → LeadsFrom q b y r → LeadsFrom p (a ++ b) (x ++ y) r
leads_then p q r a b x y f g = λ more rest h.
    let all : SpellsFrom p (a ++ (b ++ more)) (x ++ (y ++ rest)) = f (b ++ more) (y ++ rest) (g more rest h) in
    let at_bytes : SpellsFrom p (a ++ b ++ more) (x ++ (y ++ rest)) = subst (λ (u : List ℕ). SpellsFrom p u (x ++ (y ++ rest))) (sym (append_assoc a b more)) all in
    subst (λ (u : List Entry). SpellsFrom p (a ++ b ++ more) u) (sym (append_assoc x y rest)) at_bytes

abbrev pub at : ℕ → Option Text → List ℕ → Position
at n text k = record { number = n; text = text; line = k }

-- bytes of a line
pub leads_part : (n : ℕ) (text : Option Text) (k part : List ℕ) → LeadsFrom (at n text k) part [] (at n text (k ++ part))
leads_part n text k part = λ more rest h. subst (λ (u : List ℕ). SpellsEntries n text (lines u) rest) (append_assoc k part more) h

-- the end of a line
pub leads_line : (n : ℕ) (text next : Option Text) (k : List ℕ) (entries : List Entry) → NoLf k
    → ((ls : List (List ℕ)) (rest : List Entry) → SpellsEntries (n + 1) next ls rest → SpellsEntries n text ((k ++ 10 ∷ []) ∷ ls) (entries ++ rest))
    → LeadsFrom (at n text k) (10 ∷ []) entries (at (n + 1) next [])
leads_line n text next k entries no_lf step = λ more rest h.
    subst (λ (ls : List (List ℕ)). SpellsEntries n text ls (entries ++ rest)) (sym (lines_lf k more no_lf)) (step (lines more) rest h)

-- bytes that were all consumed, and a last line
pub spells_last : (n : ℕ) (text : Option Text) (k : List ℕ) (entries : List Entry) → NoLf k → ((k ≡ []) → ⊥)
    → SpellsEntries n text (k ∷ []) entries → SpellsFrom (at n text k) [] entries
spells_last n text [] entries no_lf some h = absurd (some refl)
spells_last n text (b ∷ k) entries no_lf some h =
    subst (λ (u : List ℕ). SpellsEntries n text (lines u) entries) (sym (append-nil (b ∷ k)))
    (subst (λ (ls : List (List ℕ)). SpellsEntries n text ls entries) (sym (lines_last b k no_lf)) h)
