-- What the reader of a script keeps while it moves from one position to another.
use Rattle.std.proofs.Common.{◌≡◌, ◌≢◌, ◌<◌, ◌≤◌, ◌+◌, ◌-◌, inl, inr, ℕ, zero, suc, true, false, List, [], ◌∷◌, ◌++◌, ◌∙◌, Option, Some, None, take, drop, get_or, length, refl, sym, ap, subst, arith, add-one, lit≤, eqb, Vec, Global, vec_len, Result, Ok, Err}
use Rattle.std.specs.Prelude.{option_map, IfOk}
use Rattle.std.specs.Option.{is_some}
use Rattle.std.proofs.lemmas.Bool.{eqb-true, eqb-false}
use Rattle.std.proofs.lemmas.List.{append_assoc, append-nil, take_all, length-take, length-drop}
use Rattle.std.proofs.lemmas.List.Elements.{All-nil, All-append}
use Rattle.scrib_core.specs.declared.step.Step.TheVariants.{Put}
use Rattle.scrib_script_reader.specs.Says.{Says}
use Rattle.scrib_script_reader.specs.declared.entry.Entry.{Entry}
use Rattle.scrib_script_reader.specs.declared.entry.Entry.TheVariants as entry
use Rattle.scrib_script_reader.specs.declared.line.Line.{Line}
use Rattle.scrib_script_reader.specs.declared.line.Line.TheVariants as line
use Rattle.scrib_script_reader.specs.declared.item.Item.{Item}
use Rattle.scrib_script_reader.specs.declared.item.Item.TheVariants as item
use Rattle.scrib_script_reader.specs.declared.kept_bytes.KeptText.{KeptText}
use Rattle.scrib_script_reader.specs.declared.reader.Reader.{Reader}
use Rattle.scrib_script_reader.specs.declared.script.Script.{Script}
use Rattle.scrib_script_reader.specs.Scripts.{NoLf, item_list, Text, empty_text, with_line, Spells, lines, bare, text_end}
use Rattle.scrib_script_reader.specs.Entries.{SpellsEntries, ends, goes_on, puts, stops, entry_list, entry_items}
use Rattle.scrib_script_reader.specs.Positions.{Position, SpellsFrom, LeadsFrom, capacity, cut, as_text, text_of, Holds, position, start, CountsBytes, TakesEntries, TakesBytes, TakesFront, TakesFrontEntries, IsPastWith, PassesLimits, EndGives, EndSpells, HasRead, HasConsumed, LineEnded, begun_text, entries_of, last_entries, TextGives}
use Rattle.scrib_script_reader.proofs.Bytes.{bare_last, length-bare, all_or_most, take_kept, take_kept_line, take_of_none, end_of_kept, end_is_kept, last_of_kept, last_is_kept}
use Rattle.scrib_script_reader.specs.declared.limits.Limits.{Limits}
use Rattle.scrib_script_reader.specs.Limits.{IsPast}
use Rattle.scrib_script_reader.proofs.LimitLemmas.{counts_none, counts_then, counts_line, first_ended, first_last, past_line, within_more}
use Rattle.scrib_script_reader.proofs.PositionLemmas.{at, give_entries, spells_items, items_more, spells_line, spells_last, leads_none, leads_then, leads_part, leads_line}

none_some : {A : Type 0} (x : A) → None ≡ Some x → ⊥
none_some x e = cc

some_same : {A : Type 0} (x y : A) → Some x ≡ Some y → x ≡ y
some_same x y e = cc

few : 4 ≤ 1048577
few = lit≤ tt

says_long : (a b : List ℕ) (meaning : Line) → 131072 < length a → 131072 < length b → Says a meaning → Says b meaning
says_long a b line.Skipped la lb s = absurd (omega (arith, s.0))
says_long a b (line.Put f) la lb s = absurd (omega (arith, s.0))
says_long a b (line.Step f t) la lb s = absurd (omega (arith, s.0))
says_long a b (line.Sweep f) la lb s = absurd (omega (arith, s.0))
says_long a b line.Bad la lb s = inl lb

-- the kept part of a line has the meaning of the line
says_kept : (k : List ℕ) (meaning : Line) → Says (bare (take 131074 k ++ 10 ∷ [])) meaning → Says (bare (k ++ 10 ∷ [])) meaning
says_kept k meaning s = elim (all_or_most 131074 k) [
  | inl all ↦ subst (λ (t : List ℕ). Says (bare (t ++ 10 ∷ [])) meaning) all s
  | inr long ↦
      says_long (bare (take 131074 k ++ 10 ∷ [])) (bare (k ++ 10 ∷ [])) meaning
      (omega (arith, length-bare (take 131074 k), long.0)) (omega (arith, length-bare k, long.1)) s
]

says_last : (k : List ℕ) (meaning : Line) → NoLf k → Says (take 131074 k) meaning → Says (bare k) meaning
says_last k meaning no_lf s = subst (λ (t : List ℕ). Says t meaning) (sym (bare_last k no_lf)) (elim (all_or_most 131074 k) [
  | inl all ↦ subst (λ (t : List ℕ). Says t meaning) all s
  | inr long ↦ says_long (take 131074 k) k meaning (omega (arith, long.0)) (omega (arith, long.1)) s
])

none_kept : (m : ℕ) (k : List ℕ) → 1 ≤ m → take m k ≡ [] → k ≡ []
none_kept zero k h e = absurd (omega arith)
none_kept (suc m) [] h e = refl
none_kept (suc m) (x ∷ k) h e = cc

capacity_map : (text : Option Text) → capacity (option_map cut text) ≡ capacity text
capacity_map None = refl
capacity_map (Some t) = refl

pub capacity_some : {A : Type 0} (f : A → Text) (o : Option A) → true ≡ is_some o → capacity (option_map f o) ≡ 1048577
capacity_some f None e = cc
capacity_some f (Some x) e = refl

pub capacity_none : {A : Type 0} (f : A → Text) (o : Option A) → false ≡ is_some o → capacity (option_map f o) ≡ 131074
capacity_none f None e = refl
capacity_none f (Some x) e = cc

pub text_inside : (s : Script) (kept : KeptText) → s.text ≡ Some kept → text_of s ≡ Some (as_text kept)
text_inside s kept e = ap (option_map as_text) e

pub text_outside : (s : Script) → s.text ≡ None → text_of s ≡ None
text_outside s e = ap (option_map as_text) e

begun_text_kept : (word : Line) → begun_text word ≡ option_map cut (begun_text word)
begun_text_kept line.Skipped = refl
begun_text_kept (line.Put f) = ap (λ (bytes : List ℕ). Some (record { bytes = bytes; format = f })) (sym (take_of_none 1048577))
begun_text_kept (line.Step f s) = refl
begun_text_kept (line.Sweep f) = refl
begun_text_kept line.Bad = refl

-- two stretches of bytes, one after the other
pub entries_then : (a b c : Script) (x y : List ℕ) (i j : List Entry) → TakesEntries a b x i → TakesEntries b c y j → TakesEntries a c (x ++ y) (i ++ j)
entries_then a b c x y i j f g = record {
  counts = counts_then a b c x y f.counts g.counts;
  goes = λ text line h.
      let p = f.goes text line h in
      let q = g.goes p.0 p.1 p.2 in
      (q.0, q.1, q.2, leads_then (position a text line) (position b p.0 p.1) (position c q.0 q.1) x y i j p.3 q.3);
}

-- the same for the items
pub takes_then : (a b c : Script) (x y : List ℕ) (i j : List Item) → TakesBytes a b x i → TakesBytes b c y j → TakesBytes a c (x ++ y) (i ++ j)
takes_then a b c x y i j f g = record {
  entries = f.entries ++ g.entries;
  spelled = (λ k. f.spelled k ++ g.spelled k) ∙ sym (items_more f.entries g.entries);
  takes = entries_then a b c x y f.entries g.entries f.takes g.takes;
}

-- the items of the entries are spelled
pub takes_items : (a b : Script) (bytes : List ℕ) (entries : List Entry) → TakesEntries a b bytes entries → TakesBytes a b bytes (entry_items entries)
takes_items a b bytes entries f = record { entries = entries; spelled = refl; takes = f }

pub front_items : (a b : Script) (piece rest : List ℕ) (entries : List Entry) → TakesFrontEntries a b piece rest entries → TakesFront a b piece rest (entry_items entries)
front_items a b piece rest entries f = (f.0, f.1, takes_items a b f.0 entries f.2)

-- the items of the entry of a line
pub line_items : (a b : Script) (bytes : List ℕ) (o : Option Entry) (i : Option Item) → item_list i ≡ entry_items (entry_list o) → TakesEntries a b bytes (entry_list o) → TakesBytes a b bytes (item_list i)
line_items a b bytes o i same takes = record { entries = entry_list o; spelled = same; takes = takes }

-- bytes of a line are consumed
pub takes_part : (old new : Script) (part : List ℕ) → CountsBytes old new part → text_of new ≡ text_of old → new.lines ≡ old.lines
    → (length old.line.items ≤ capacity (text_of old) → new.line.items ≡ take (capacity (text_of old)) (old.line.items ++ part)) → NoLf part → TakesEntries old new part []
takes_part old new part counts text_is lines_is line_is no_lf = record {
  counts = counts;
  goes = λ text line h.
      let m : capacity (text_of old) ≡ capacity text = ap capacity h.kept_text ∙ capacity_map text in
      let short : length old.line.items ≤ capacity (text_of old) = omega (arith, ap length h.kept_line, length-take (capacity text) line, m) in
      let kept : new.line.items ≡ take (capacity text) (line ++ part) =
      line_is short ∙ ap (λ (n : ℕ). take n (old.line.items ++ part)) m ∙ ap (λ (t : List ℕ). take (capacity text) (t ++ part)) h.kept_line ∙ take_kept (capacity text) line part in
      let holds : Holds new text (line ++ part) = record {
        kept_text = text_is ∙ h.kept_text;
        kept_line = kept;
        no_lf = All-append (λ b. b ≢ 10) line part h.no_lf no_lf;
      } in
      let leads : LeadsFrom (position old text line) part [] (at (old.lines + 1) text (line ++ part)) = leads_part (old.lines + 1) text line part in
      (text, line ++ part, holds, subst (λ (i : ℕ). LeadsFrom (position old text line) part [] (at (i + 1) text (line ++ part))) (sym lines_is) leads);
}

pub same_entries : (s : Script) (part : List ℕ) → part ≡ [] → NoLf part → TakesEntries s s part []
same_entries s part e no_lf =
    takes_part s s part (subst (λ (t : List ℕ). CountsBytes s s t) (sym e) (counts_none s)) refl refl (λ h. sym (ap (λ (t : List ℕ). take (capacity (text_of s)) (s.line.items ++ t)) e ∙ ap (take (capacity (text_of s))) (append-nil s.line.items) ∙ take_all (capacity (text_of s)) s.line.items h)) no_lf

pub takes_same : (s : Script) (part : List ℕ) → part ≡ [] → NoLf part → TakesBytes s s part []
takes_same s part e no_lf = takes_items s s part [] (same_entries s part e no_lf)

no_items : (xs : List ℕ) → length xs ≡ 0 → xs ≡ []
no_items [] e = refl
no_items (x ∷ xs) e = absurd (omega arith)

pub takes_none : (s : Script) (part : List ℕ) → true ≡ eqb (length part) 0 → NoLf part → TakesEntries s s part []
takes_none s part e no_lf = same_entries s part (no_items part (eqb-true (length part) 0 (sym e))) no_lf

pub line_is_empty : (v : Vec ℕ Global) → true ≡ eqb (vec_len v) 0 → v.items ≡ []
line_is_empty v e = no_items v.items (sym v.ok.0 ∙ eqb-true (vec_len v) 0 (sym e))

pub line_is_some : (v : Vec ℕ Global) → false ≡ eqb (vec_len v) 0 → v.items ≡ [] → ⊥
line_is_some v e h = eqb-false (vec_len v) 0 (sym e) (v.ok.0 ∙ ap length h)

-- the LF of a line is consumed
module _ (old : Script) where
  outer_at : (word : Line) → text_of old ≡ None → Says (bare (old.line.items ++ 10 ∷ [])) word
      → (text : Option Text) (line : List ℕ) → Holds old text line
      → (next : Option Text) × (begun_text word ≡ option_map cut next)
      × LeadsFrom (position old text line) (10 ∷ []) (entries_of (old.lines + 1) word) (at (old.lines + 1 + 1) next [])
  outer_at word outside meaning None line h =
      let n = old.lines + 1 in
      let says : Says (bare (line ++ 10 ∷ [])) word = says_kept line word (subst (λ (t : List ℕ). Says (bare (t ++ 10 ∷ [])) word) h.kept_line meaning) in
      let leads = leads_line n None (begun_text word) line (entries_of n word) h.no_lf (λ ls rest more. spells_line n (line ++ 10 ∷ []) ls word rest says more) in
      (begun_text word, begun_text_kept word, leads)
  outer_at word outside meaning (Some t) line h = absurd (none_some (cut t) (sym outside ∙ h.kept_text))

  pub ended_outer : (word : Line) → text_of old ≡ None → Says (bare (old.line.items ++ 10 ∷ [])) word
      → LineEnded old (begun_text word) (entries_of (old.lines + 1) word)
  ended_outer word outside meaning = record { goes = outer_at word outside meaning }

  inner_at : (kept : Text) (after : Option Text) (entries : List Entry) → text_of old ≡ Some kept → TextGives kept old.line.items after entries
      → (text : Option Text) (line : List ℕ) → Holds old text line
      → (next : Option Text) × (after ≡ option_map cut next)
      × LeadsFrom (position old text line) (10 ∷ []) entries (at (old.lines + 1 + 1) next [])
  inner_at kept after entries inside given None line h = absurd (none_some kept (sym h.kept_text ∙ inside))
  inner_at kept None entries inside given (Some t) line h =
      let n = old.lines + 1 in
      let same : kept ≡ cut t = some_same kept (cut t) (sym inside ∙ h.kept_text) in
      let is_end : bare (line ++ 10 ∷ []) ≡ text_end = end_of_kept 1048577 line few (subst (λ (x : List ℕ). bare (x ++ 10 ∷ []) ≡ text_end) h.kept_line given.0) in
      let put = entry.Item (item.Step t.format (Put (take 1048577 t.bytes))) ∷ [] in
      let entries_are : entries ≡ entry.Item (item.Step t.format (Put (take 1048577 t.bytes))) ∷ [] = subst (λ (x : Text). entries ≡ entry.Item (item.Step x.format (Put x.bytes)) ∷ []) same given.1 in
      let leads = leads_line n (Some t) None line put h.no_lf (λ ls rest more. puts n t (line ++ 10 ∷ []) ls rest is_end more) in
      (None, refl, subst (λ (x : List Entry). LeadsFrom (position old (Some t) line) (10 ∷ []) x (at (old.lines + 1 + 1) None [])) (sym entries_are) leads)
  inner_at kept (Some after) entries inside given (Some t) line h =
      let n = old.lines + 1 in
      let same : kept ≡ cut t = some_same kept (cut t) (sym inside ∙ h.kept_text) in
      let ne : bare (line ++ 10 ∷ []) ≢ text_end = λ e. given.0 (subst (λ (x : List ℕ). bare (x ++ 10 ∷ []) ≡ text_end) (sym h.kept_line) (end_is_kept 1048577 line few e)) in
      let short : length kept.bytes ≤ 1048577 = omega (arith, ap (λ (x : Text). length x.bytes) same, length-take 1048577 t.bytes) in
      let after_is : after ≡ cut (with_line t (line ++ 10 ∷ [])) =
      given.1 short ∙ ap (λ (x : Text). cut (with_line x (old.line.items ++ 10 ∷ []))) same
      ∙ ap (λ (x : List ℕ). cut (with_line (cut t) (x ++ 10 ∷ []))) h.kept_line
      ∙ ap (λ (bytes : List ℕ). record { bytes = bytes; format = t.format }) (take_kept_line 1048577 t.bytes line (10 ∷ [])) in
      let leads = leads_line n (Some t) (Some (with_line t (line ++ 10 ∷ []))) line [] h.no_lf (λ ls rest more. goes_on n t (line ++ 10 ∷ []) ls rest ne more) in (
        Some (with_line t (line ++ 10 ∷ [])),
        ap Some after_is,
        subst (λ (x : List Entry). LeadsFrom (position old (Some t) line) (10 ∷ []) x (at (old.lines + 1 + 1) (Some (with_line t (line ++ 10 ∷ []))) [])) (sym given.2) leads,
      )

  pub ended_inner : (kept : Text) (after : Option Text) (entries : List Entry) → text_of old ≡ Some kept → TextGives kept old.line.items after entries → LineEnded old after entries
  ended_inner kept after entries inside given = record { goes = inner_at kept after entries inside given }

-- A line that is whole in its piece, outside module texts.
module _ (old : Script) (k : List ℕ) (outside : text_of old ≡ None) (empty : old.line.items ≡ []) (no_lf : NoLf k) where
  -- what leads to its end also leads there from the position in front of it
  from_empty : (line : List ℕ) (entries : List Entry) (q : Position) → take 131074 line ≡ [] → LeadsFrom (at (old.lines + 1) None k) (10 ∷ []) entries q
      → LeadsFrom (at (old.lines + 1) None line) (k ++ 10 ∷ []) entries q
  from_empty line entries q none leads =
      let n = old.lines + 1 in
      let begins : LeadsFrom (at (old.lines + 1) None line) k [] (at (old.lines + 1) None k) =
      subst (λ (l : List ℕ). LeadsFrom (at (old.lines + 1) None line) k [] (at (old.lines + 1) None l)) (ap (λ (l : List ℕ). l ++ k) (none_kept 131074 line (lit≤ tt) none)) (leads_part n None line k) in
      leads_then (at n None line) (at n None k) q k (10 ∷ []) [] entries begins leads

  whole_at : (word : Line) → Says (bare (k ++ 10 ∷ [])) word
      → (text : Option Text) (line : List ℕ) → Holds old text line
      → (next : Option Text) × (begun_text word ≡ option_map cut next)
      × LeadsFrom (position old text line) (k ++ 10 ∷ []) (entries_of (old.lines + 1) word) (at (old.lines + 1 + 1) next [])
  whole_at word says None line h =
      let n = old.lines + 1 in
      let leads = leads_line n None (begun_text word) k (entries_of n word) no_lf (λ ls rest more. spells_line n (k ++ 10 ∷ []) ls word rest says more) in
      (begun_text word, begun_text_kept word, from_empty line (entries_of n word) (at (old.lines + 1 + 1) (begun_text word) []) (sym h.kept_line ∙ empty) leads)
  whole_at word says (Some t) line h = absurd (none_some (cut t) (sym outside ∙ h.kept_text))

  pub takes_whole : (new : Script) (word : Line) → CountsBytes old new (k ++ 10 ∷ []) → Says (bare (k ++ 10 ∷ [])) word
      → text_of new ≡ begun_text word → new.line.items ≡ [] → new.lines ≡ old.lines + 1
      → TakesEntries old new (k ++ 10 ∷ []) (entries_of (old.lines + 1) word)
  takes_whole new word counts says text_is line_is lines_is = record {
    counts = counts;
    goes = λ text line h.
        let p = whole_at word says text line h in
        let holds : Holds new p.0 [] = record {
          kept_text = text_is ∙ p.1;
          kept_line = line_is ∙ sym (take_of_none (capacity p.0));
          no_lf = All-nil (λ b. b ≢ 10);
        } in
        (p.0, [], holds, subst (λ (i : ℕ). LeadsFrom (position old text line) (k ++ 10 ∷ []) (entries_of (old.lines + 1) word) (at (i + 1) p.0 [])) (sym lines_is) p.2);
  }

-- the position after a consumed LF is the start of the next line
pub takes_line : (old new : Script) (after : Option Text) (entries : List Entry) → LineEnded old after entries
    → text_of new ≡ after → new.line.items ≡ [] → new.lines ≡ old.lines + 1 → new.limits ≡ old.limits → new.bytes ≡ old.bytes + 1 → new.bytes ≤ old.limits.bytes
    → old.lines < old.limits.lines → TakesEntries old new (10 ∷ []) entries
takes_line old new after entries ended text_is line_is lines_is limits bytes few_bytes few_lines = record {
  counts = counts_line old new [] 1 (omega arith) (All-nil (λ b. b ≢ 10)) limits bytes few_bytes few_lines lines_is;
  goes = λ text line h.
      let p = ended.goes text line h in
      let holds : Holds new p.0 [] = record {
        kept_text = text_is ∙ p.1;
        kept_line = line_is ∙ sym (take_of_none (capacity p.0));
        no_lf = All-nil (λ b. b ≢ 10);
      } in
      (p.0, [], holds, subst (λ (i : ℕ). LeadsFrom (position old text line) (10 ∷ []) entries (at (i + 1) p.0 [])) (sym lines_is) p.2);
}

-- the reader of lines has another cache, and nothing is consumed
pub entries_kept : (s : Script) (r : Reader) (piece : List ℕ) → TakesFrontEntries s (record s { reader = r }) piece piece []
entries_kept s r piece =
    let none = counts_none s in
    let kept : length s.line.items ≤ capacity (text_of s) → s.line.items ≡ take (capacity (text_of s)) (s.line.items ++ []) =
    λ h. sym (ap (take (capacity (text_of s))) (append-nil s.line.items) ∙ take_all (capacity (text_of s)) s.line.items h) in
    let counts : CountsBytes s (record s { reader = r }) [] = record {
      limits = none.limits;
      bytes = none.bytes;
      ended = none.ended;
      few_bytes = none.few_bytes;
      few_lines = none.few_lines;
    } in
    ([], refl, takes_part s (record s { reader = r }) [] counts refl refl kept (All-nil (λ b. b ≢ 10)))

pub front_moved : (s t : Script) (piece : List ℕ) → t.limits ≡ s.limits → t.bytes ≡ s.bytes → t.lines ≡ s.lines → text_of t ≡ text_of s → t.line.items ≡ s.line.items → TakesFront s t piece piece []
front_moved s t piece limits bytes lines_are text_is line_is =
    let none = counts_none s in
    let kept : length s.line.items ≤ capacity (text_of s) → t.line.items ≡ take (capacity (text_of s)) (s.line.items ++ []) =
    λ h. line_is ∙ sym (ap (take (capacity (text_of s))) (append-nil s.line.items) ∙ take_all (capacity (text_of s)) s.line.items h) in
    let counts : CountsBytes s t [] = record {
      limits = limits;
      bytes = omega (arith, bytes);
      ended = omega (arith, lines_are);
      few_bytes = none.few_bytes;
      few_lines = none.few_lines;
    } in
    front_items s t piece piece [] ([], refl, takes_part s t [] counts text_is lines_are kept (All-nil (λ b. b ≢ 10)))

pub front_none : (s : Script) (piece : List ℕ) → TakesFront s s piece piece []
front_none s piece = ([], refl, takes_same s [] refl (All-nil (λ b. b ≢ 10)))

pub entries_none_taken : (s : Script) (piece : List ℕ) → TakesFrontEntries s s piece piece []
entries_none_taken s piece = ([], refl, same_entries s [] refl (All-nil (λ b. b ≢ 10)))

-- a line, its LF and the bytes after it
at_lf_suc : (rest : List ℕ) (i : ℕ) → i < length rest → get_or rest i 0 ≡ 10 → rest ≡ take i rest ++ 10 ∷ drop (suc i) rest
at_lf_suc [] i h e = absurd (omega arith)
at_lf_suc (x ∷ rest) zero h e = ap (λ (b : ℕ). b ∷ rest) e
at_lf_suc (x ∷ rest) (suc i) h e = ap (λ (t : List ℕ). x ∷ t) (at_lf_suc rest i (omega arith) e)

at_lf : (rest : List ℕ) (i : ℕ) → i < length rest → get_or rest i 0 ≡ 10 → rest ≡ take i rest ++ 10 ∷ drop (i + 1) rest
at_lf rest i h e = subst (λ (n : ℕ). rest ≡ take i rest ++ 10 ∷ drop n rest) (sym (add-one i)) (at_lf_suc rest i h e)

-- all of a piece is consumed, and no line ends
pub front_part : (old new : Script) (piece : List ℕ) → TakesEntries old new piece [] → TakesFrontEntries old new piece [] []
front_part old new piece t = (piece, sym (append-nil piece), t)

-- one more stretch of a piece, behind one that spells no item
front_then : (old mid new : Script) (piece rest after : List ℕ) (items : List Item) → TakesFront old mid piece rest [] → TakesFront mid new rest after items → TakesFront old new piece after items
front_then old mid new piece rest after items t f = (
  t.0 ++ f.0,
  t.1 ∙ ap (λ (x : List ℕ). t.0 ++ x) f.1 ∙ sym (append_assoc t.0 f.0 after),
  takes_then old mid new t.0 f.0 [] items t.2 f.2,
)

-- the next line of a piece, of which the lines before spell no item
pub front_item : (old mid new : Script) (piece rest after : List ℕ) (o : Option Entry) (i : Option Item) → item_list i ≡ entry_items (entry_list o)
    → TakesFront old mid piece rest [] → TakesFrontEntries mid new rest after (entry_list o) → TakesFront old new piece after (item_list i)
front_item old mid new piece rest after o i same t f =
    front_then old mid new piece rest after (item_list i) t (f.0, f.1, line_items mid new f.0 o i same f.2)

-- the limits are passed behind lines that spell no item
pub passes_later : (old mid : Script) (piece rest : List ℕ) → TakesFront old mid piece rest [] → PassesLimits mid rest → PassesLimits old piece
passes_later old mid piece rest t p = record {
  mid = p.mid;
  line = p.line;
  rest = p.rest;
  before = front_then old mid p.mid piece rest (p.line ++ p.rest) [] t p.before;
  first = p.first;
  past = p.past;
}

-- the limits are passed in the first line of a piece, which an LF ends
pub passes_line : (old : Script) (piece : List ℕ) (i : ℕ) → i < length piece → get_or piece i 0 ≡ 10 → NoLf (take i piece)
    → IsPastWith old (take i piece ++ 10 ∷ []) → PassesLimits old piece
passes_line old piece i within lf no_lf past =
    let line = take i piece in
    let after = drop (i + 1) piece in
    let all : piece ≡ (take i piece ++ 10 ∷ []) ++ drop (i + 1) piece = at_lf piece i within lf ∙ sym (append_assoc line (10 ∷ []) after) in
    record {
      mid = old;
      line = take i piece ++ 10 ∷ [];
      rest = drop (i + 1) piece;
      before = subst (λ (x : List ℕ). TakesFront old old piece x []) all (front_none old piece);
      first = first_ended line after no_lf;
      past = past;
    }

-- the limits are passed in a part of a line
pub passes_part : (old : Script) (piece : List ℕ) → lines piece ≡ piece ∷ [] → IsPastWith old piece → PassesLimits old piece
passes_part old piece one past = record {
  mid = old;
  line = piece;
  rest = [];
  before = subst (λ (x : List ℕ). TakesFront old old piece x []) (sym (append-nil piece)) (front_none old piece);
  first = first_last piece one;
  past = past;
}

pub slice_rest : (i : ℕ) (xs : List ℕ) → take (length xs - i) (drop i xs) ≡ drop i xs
slice_rest i xs = take_all (length xs - i) (drop i xs) (omega (arith, length-drop i xs))

-- the first line of a piece is consumed, and its LF
pub front_first : (old new : Script) (piece : List ℕ) (i : ℕ) (entries : List Entry) → i < length piece → get_or piece i 0 ≡ 10 → TakesEntries old new (take i piece ++ 10 ∷ []) entries
    → TakesFrontEntries old new piece (take (length piece - (i + 1)) (drop (i + 1) piece)) entries
front_first old new piece i entries within lf taken =
    let line = take i piece in
    let after = drop (i + 1) piece in (
      line ++ 10 ∷ [],
      at_lf piece i within lf ∙ sym (append_assoc line (10 ∷ []) after) ∙ ap (λ (t : List ℕ). (take i piece ++ 10 ∷ []) ++ t) (sym (slice_rest (i + 1) piece)),
      taken,
    )

spells_end : (next n : ℕ) (word : Line) → (rest : List Entry) × SpellsEntries next (begun_text word) [] rest × (last_entries n word ≡ entries_of n word ++ rest)
spells_end next n line.Skipped = ([], ends next, refl)
spells_end next n (line.Put f) = (entry.Item item.EndOfText ∷ [], stops next (empty_text f), refl)
spells_end next n (line.Step f s) = ([], ends next, refl)
spells_end next n (line.Sweep f) = ([], ends next, refl)
spells_end next n line.Bad = ([], ends next, refl)

-- a module text that does not end spells `EndOfText`
unended : (n : ℕ) (t : Text) (k : List ℕ) → NoLf k → k ≢ text_end → SpellsFrom (at n (Some t) k) [] (entry.Item item.EndOfText ∷ [])
unended n t [] no_lf ne = stops n t
unended n t (b ∷ k) no_lf ne =
    let bare_ne : bare (b ∷ k) ≢ text_end = λ e. ne (sym (bare_last (b ∷ k) no_lf) ∙ e) in
    spells_last n (Some t) (b ∷ k) (entry.Item item.EndOfText ∷ []) no_lf (λ e. cc) (goes_on n t (b ∷ k) [] (entry.Item item.EndOfText ∷ []) bare_ne (stops (n + 1) (with_line t (b ∷ k))))

module _ (old : Script) where
  -- no line is left
  empty_at : text_of old ≡ None → old.line.items ≡ [] → (text : Option Text) (line : List ℕ) → Holds old text line → SpellsFrom (position old text line) [] []
  empty_at outside no_line None line h =
      let n = old.lines + 1 in
      let line_is : line ≡ [] = none_kept 131074 line (lit≤ tt) (sym h.kept_line ∙ no_line) in
      subst (λ (k : List ℕ). SpellsFrom (at (old.lines + 1) None k) [] []) (sym line_is) (ends n)
  empty_at outside no_line (Some t) line h = absurd (none_some (cut t) (sym outside ∙ h.kept_text))

  pub ends_empty : text_of old ≡ None → old.line.items ≡ [] → EndGives old []
  ends_empty outside no_line = record { ends = empty_at outside no_line }

  -- a line is left
  some_line : (line : List ℕ) → (old.line.items ≡ [] → ⊥) → old.line.items ≡ take 131074 line → line ≡ [] → ⊥
  some_line line some kept e = some (kept ∙ ap (take 131074) e)

  last_at : (word : Line) → text_of old ≡ None → (old.line.items ≡ [] → ⊥) → Says old.line.items word
      → (text : Option Text) (line : List ℕ) → Holds old text line → SpellsFrom (position old text line) [] (last_entries (old.lines + 1) word)
  last_at word outside some meaning None line h =
      let n = old.lines + 1 in
      let says : Says (bare line) word = says_last line word h.no_lf (subst (λ (t : List ℕ). Says t word) h.kept_line meaning) in
      let p = spells_end (n + 1) n word in
      let whole = spells_line n line [] word p.0 says p.1 in
      let all : SpellsFrom (at (old.lines + 1) None line) [] (entries_of (old.lines + 1) word ++ p.0) = spells_last n None line (entries_of n word ++ p.0) h.no_lf (some_line line some h.kept_line) whole in
      subst (λ (x : List Entry). SpellsFrom (at (old.lines + 1) None line) [] x) (sym p.2) all
  last_at word outside some meaning (Some t) line h = absurd (none_some (cut t) (sym outside ∙ h.kept_text))

  pub ends_outer : (word : Line) → text_of old ≡ None → (old.line.items ≡ [] → ⊥) → Says old.line.items word → EndGives old (last_entries (old.lines + 1) word)
  ends_outer word outside some meaning = record { ends = last_at word outside some meaning }

  -- the last line continues a module text
  inside_at : (kept : Text) → text_of old ≡ Some kept → old.line.items ≢ text_end
      → (text : Option Text) (line : List ℕ) → Holds old text line → SpellsFrom (position old text line) [] (entry.Item item.EndOfText ∷ [])
  inside_at kept inside ne None line h = absurd (none_some kept (sym h.kept_text ∙ inside))
  inside_at kept inside ne (Some t) line h =
      let ne_line : line ≢ text_end = λ e. ne (h.kept_line ∙ last_is_kept 1048577 line few e) in
      unended (old.lines + 1) t line h.no_lf ne_line

  pub ends_inside : (kept : Text) → text_of old ≡ Some kept → old.line.items ≢ text_end → EndGives old (entry.Item item.EndOfText ∷ [])
  ends_inside kept inside ne = record { ends = inside_at kept inside ne }

  -- the last line ends a module text
  put_at : (kept : Text) → text_of old ≡ Some kept → old.line.items ≡ text_end
      → (text : Option Text) (line : List ℕ) → Holds old text line → SpellsFrom (position old text line) [] (entry.Item (item.Step kept.format (Put kept.bytes)) ∷ [])
  put_at kept inside is_end None line h = absurd (none_some kept (sym h.kept_text ∙ inside))
  put_at kept inside is_end (Some t) line h =
      let n = old.lines + 1 in
      let same : kept ≡ cut t = some_same kept (cut t) (sym inside ∙ h.kept_text) in
      let line_ends : line ≡ text_end = last_of_kept 1048577 line few (sym h.kept_line ∙ is_end) in
      let bare_ends : bare line ≡ text_end = bare_last line h.no_lf ∙ line_ends in
      let whole : SpellsFrom (at (old.lines + 1) (Some t) line) [] (entry.Item (item.Step t.format (Put (take 1048577 t.bytes))) ∷ []) =
      spells_last n (Some t) line (entry.Item (item.Step t.format (Put (take 1048577 t.bytes))) ∷ []) h.no_lf (λ e. let d : [] ≡ text_end = sym e ∙ line_ends in cc)
      (puts n t line [] [] bare_ends (ends (n + 1))) in
      subst (λ (x : Text). SpellsFrom (at (old.lines + 1) (Some t) line) [] (entry.Item (item.Step x.format (Put x.bytes)) ∷ [])) (sym same) whole

  pub ends_put : (kept : Text) → text_of old ≡ Some kept → old.line.items ≡ text_end → EndGives old (entry.Item (item.Step kept.format (Put kept.bytes)) ∷ [])
  ends_put kept inside is_end = record { ends = put_at kept inside is_end }

-- For those who read a script: nothing is consumed yet.
pub entries_none : (m : Limits) (s : Script) → Holds s None [] → s.lines ≡ 0 → s.bytes ≡ 0 → s.limits ≡ m → HasRead m s [] []
entries_none m s holds no_lines no_bytes limits = record {
  limits = limits;
  bytes = no_bytes;
  ended = no_lines;
  within = (omega arith, omega arith);
  text = None;
  line = [];
  holds = holds;
  leads = subst (λ (i : ℕ). LeadsFrom start [] [] (at (i + 1) None [])) (sym no_lines) (leads_none start);
}

pub read_none : (m : Limits) (s : Script) → Holds s None [] → s.lines ≡ 0 → s.bytes ≡ 0 → s.limits ≡ m → HasConsumed m s [] []
read_none m s holds no_lines no_bytes limits = record {
  entries = [];
  spelled = refl;
  read = entries_none m s holds no_lines no_bytes limits;
}

-- One more stretch is consumed.
pub more_entries : (m : Limits) (a b : Script) (seen bytes : List ℕ) (entries more : List Entry) → HasRead m a seen entries → TakesEntries a b bytes more → HasRead m b (seen ++ bytes) (entries ++ more)
more_entries m a b seen bytes entries more r t =
    let p = t.goes r.text r.line r.holds in
    let q = within_more m a b seen bytes r.limits r.bytes r.ended r.within t.counts in
    record { limits = q.0; bytes = q.1; ended = q.2; within = q.3; text = p.0; line = p.1; holds = p.2; leads = leads_then start (position a r.text r.line) (position b p.0 p.1) seen bytes entries more r.leads p.3 }

pub read_more : (m : Limits) (a b : Script) (seen bytes : List ℕ) (items more : List Item) → HasConsumed m a seen items → TakesBytes a b bytes more → HasConsumed m b (seen ++ bytes) (items ++ more)
read_more m a b seen bytes items more r t = record {
  entries = r.entries ++ t.entries;
  spelled = (λ k. r.spelled k ++ t.spelled k) ∙ sym (items_more r.entries t.entries);
  read = more_entries m a b seen bytes r.entries t.entries r.read t.takes;
}

-- All is consumed, and the last entry is returned.
pub all_entries : (m : Limits) (s : Script) (seen : List ℕ) (entries last : List Entry) → HasRead m s seen entries → EndGives s last → SpellsEntries 1 None (lines seen) (entries ++ last)
all_entries m s seen entries last r e =
    let all : SpellsFrom start (seen ++ []) (entries ++ last) = r.leads [] last (e.ends r.text r.line r.holds) in
    subst (λ (u : List ℕ). SpellsEntries 1 None (lines u) (entries ++ last)) (append-nil seen) all

pub read_all : (m : Limits) (s : Script) (seen : List ℕ) (items last : List Item) → HasConsumed m s seen items → EndSpells s last → Spells 1 None (lines seen) (items ++ last)
read_all m s seen items last r e =
    let all = spells_items (all_entries m s seen r.entries e.entries r.read e.gives) in
    subst (λ (is : List Item). Spells 1 None (lines seen) is) (items_more r.entries e.entries ∙ (λ k. sym r.spelled k ++ sym e.spelled k)) all

-- Whatever follows, the script spells these items first.
pub read_first : (m : Limits) (s : Script) (seen : List ℕ) (items : List Item) → HasConsumed m s seen items → (more : List ℕ) → (rest : List Item) × Spells 1 None (lines (seen ++ more)) (items ++ rest)
read_first m s seen items r more =
    let h = r.read in
    let p = give_entries (lines (h.line ++ more)) (s.lines + 1) h.text in
    let all = spells_items (h.leads more p.0 p.1) in
    (entry_items p.0, subst (λ (is : List Item). Spells 1 None (lines (seen ++ more)) is) (items_more r.entries p.0 ∙ (λ k. sym r.spelled k ++ entry_items p.0)) all)

-- Where the limits are passed, the bytes before the line are consumed, and with the line the script is past them.
pub read_past : (m : Limits) (s : Script) (seen piece : List ℕ) (items : List Item) → HasConsumed m s seen items → (p : PassesLimits s piece)
    → HasConsumed m p.mid (seen ++ p.before.0) items × IsPast m ((seen ++ p.before.0) ++ p.line)
read_past m s seen piece items r p =
    let t = p.before in
    let read = subst (λ (x : List Item). HasConsumed m p.mid (seen ++ p.before.0) x) (append-nil items) (read_more m s p.mid seen t.0 items [] r t.2) in
    (read, past_line m p.mid (seen ++ p.before.0) p.line p.rest read.read.limits read.read.bytes read.read.ended p.first p.past)

-- For the proofs of functions: a line that an LF ended, inside a module text.
pub ended_text : {E : Type 0} (r : Result (Option Entry × Option KeptText) E) (old : Script) (kept : Text) (l : List ℕ) → text_of old ≡ Some kept → l ≡ old.line.items
    → IfOk r (λ p. TextGives kept l (option_map as_text p.1) (entry_list p.0)) → IfOk r (λ p. LineEnded old (option_map as_text p.1) (entry_list p.0))
ended_text (Ok p) old kept l inside same given =
    ended_inner old kept (option_map as_text p.1) (entry_list p.0) inside (subst (λ (t : List ℕ). TextGives kept t (option_map as_text p.1) (entry_list p.0)) same given)
ended_text (Err e) old kept l inside same given = tt

-- A line outside module texts, from the parts of what it gives.
pub ended_outside : (old : Script) (word : Line) (after : Option Text) (entries : List Entry) (l : List ℕ) → text_of old ≡ None → l ≡ bare (old.line.items ++ 10 ∷ []) → Says l word
    → after ≡ begun_text word → entries ≡ entries_of (old.lines + 1) word → LineEnded old after entries
ended_outside old word after entries l outside l_is meaning after_is entries_are =
    rw (after_is, entries_are) (ended_outer old word outside (subst (λ (t : List ℕ). Says t word) l_is meaning))

-- A line that is whole in its piece.
pub passed : (old new : Script) (k : List ℕ) (word : Line) (entries : List Entry) (l : List ℕ) → CountsBytes old new (k ++ 10 ∷ []) → text_of old ≡ None → old.line.items ≡ [] → NoLf k → l ≡ bare (k ++ 10 ∷ []) → Says l word
    → text_of new ≡ begun_text word → entries ≡ entries_of (old.lines + 1) word → new.line.items ≡ [] → new.lines ≡ old.lines + 1 → TakesEntries old new (k ++ 10 ∷ []) entries
passed old new k word entries l counts outside empty no_lf l_is meaning text_is entries_are line_is lines_is =
    subst (λ (x : List Entry). TakesEntries old new (k ++ 10 ∷ []) x) (sym entries_are)
    (takes_whole old k outside empty no_lf new word counts (subst (λ (t : List ℕ). Says t word) l_is meaning) text_is line_is lines_is)

-- A line of which a part is consumed already.
pub taken_then : {E : Type 0} (r : Result (Option Entry) E) (a b c : Script) (x y : List ℕ) → TakesEntries a b x [] → IfOk r (λ e. TakesEntries b c y (entry_list e)) → IfOk r (λ e. TakesEntries a c (x ++ y) (entry_list e))
taken_then (Ok o) a b c x y f g = entries_then a b c x y [] (entry_list o) f g
taken_then (Err e) a b c x y f g = tt

-- The last line.
pub last_line : (old : Script) (word : Line) (entries : List Entry) (l : List ℕ) → text_of old ≡ None → (old.line.items ≡ [] → ⊥) → l ≡ old.line.items → Says l word
    → entries ≡ last_entries (old.lines + 1) word → EndGives old entries
last_line old word entries l outside some l_is meaning entries_are =
    subst (λ (x : List Entry). EndGives old x) (sym entries_are) (ends_outer old word outside some (subst (λ (t : List ℕ). Says t word) l_is meaning))

-- The items of the last entry.
pub last_items : (s : Script) (o : Option Entry) (i : Option Item) → item_list i ≡ entry_items (entry_list o) → EndGives s (entry_list o) → EndSpells s (item_list i)
last_items s o i same gives = record { entries = entry_list o; spelled = same; gives = gives }

pub listed_none : (o : Option Item) → false ≡ is_some o → item_list o ≡ []
listed_none None e = refl
listed_none (Some i) e = cc
