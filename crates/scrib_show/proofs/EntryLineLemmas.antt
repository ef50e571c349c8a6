-- The number of the line of the next entry of a script that is read so far.
use Rattle.std.proofs.Common.{◌≡◌, ◌≢◌, ◌+◌, ◌==◌, if◌then◌else◌, ℕ, zero, suc, Bool, true, false, List, [], ◌∷◌, ◌++◌, ◌∙◌, Option, Some, None, length, take, refl, sym, ap, subst, arith, length-append}
use Rattle.std.proofs.lemmas.Bool.{ne_eqb}
use Rattle.std.proofs.lemmas.List.{append_assoc}
use Rattle.std.proofs.lemmas.List.Elements.{All-head, All-tail}
use Rattle.scrib_core.specs.declared.format.Format.{Format}
use Rattle.scrib_core.specs.declared.step.Step.TheVariants.{Put}
use Rattle.scrib_cli.specs.Requests.{RequestReply}
use Rattle.scrib_script_reader.specs.declared.entry.Entry.{Entry}
use Rattle.scrib_script_reader.specs.declared.entry.Entry.TheVariants as entry
use Rattle.scrib_script_reader.specs.declared.item.Item.{Item}
use Rattle.scrib_script_reader.specs.declared.item.Item.TheVariants as item
use Rattle.scrib_script_reader.specs.declared.script.Script.{Script}
use Rattle.scrib_script_reader.specs.declared.limits.Limits.{Limits}
use Rattle.scrib_script_reader.specs.Limits.{line_feeds}
use Rattle.scrib_script_reader.specs.Scripts.{NoLf, Text, lines, with_byte, requests_of}
use Rattle.scrib_script_reader.specs.Entries.{SpellsEntries, ends, skips, makes, sweeps, is_bad, begins, goes_on, puts, stops, entry_items}
use Rattle.scrib_script_reader.specs.Positions.{HasRead}
use Rattle.scrib_script_reader.proofs.PositionLemmas.{give_entries}
use Rattle.scrib_show.specs.EventLines.{lines_after, event_lines}
use Rattle.scrib_show.specs.Progress.{AreEventLines}
use Rattle.scrib_show.proofs.SplitLemmas.{Counts, counts_once, has_text, Split, split, none_left, one_entry}

-- bytes, cut behind their last LF
record Cut (seen : List ℕ) : Type 0 where
  pub first : List (List ℕ)
  pub tail : List ℕ
  pub count : length first ≡ line_feeds seen
  pub splits : (more : List ℕ) → lines (seen ++ more) ≡ first ++ lines (tail ++ more)
  pub one : lines (tail ++ 120 ∷ []) ≡ (tail ++ 120 ∷ []) ∷ []

-- a byte that is no LF, in front of no whole line
before_none : (b : ℕ) (bs : List ℕ) → (b == 10) ≡ false → (c : Cut bs) → c.first ≡ [] → Cut (b ∷ bs)
before_none b bs n c none = record {
  first = [];
  tail = b ∷ c.tail;
  count = ap length (sym none) ∙ c.count ∙ sym (ap (λ (t : Bool). if t then line_feeds bs + 1 else line_feeds bs) n);
  splits = λ more.
      let same : lines (bs ++ more) ≡ lines (c.tail ++ more) = c.splits more ∙ ap (λ (f : List (List ℕ)). f ++ lines (c.tail ++ more)) none in
      ap (λ (ls : List (List ℕ)). if b == 10 then (b ∷ []) ∷ ls else with_byte b ls) same;
  one = ap (λ (t : Bool). if t then (b ∷ []) ∷ lines (c.tail ++ 120 ∷ []) else with_byte b (lines (c.tail ++ 120 ∷ []))) n ∙ ap (with_byte b) c.one;
}

-- the same, in front of a line
before_line : (b : ℕ) (bs : List ℕ) → (b == 10) ≡ false → (c : Cut bs) → (l : List ℕ) (ls : List (List ℕ)) → c.first ≡ l ∷ ls → Cut (b ∷ bs)
before_line b bs n c l ls is = record {
  first = (b ∷ l) ∷ ls;
  tail = c.tail;
  count = ap length (sym is) ∙ c.count ∙ sym (ap (λ (t : Bool). if t then line_feeds bs + 1 else line_feeds bs) n);
  splits = λ more.
      let same : lines (bs ++ more) ≡ l ∷ (ls ++ lines (c.tail ++ more)) = c.splits more ∙ ap (λ (f : List (List ℕ)). f ++ lines (c.tail ++ more)) is in
      ap (λ (t : Bool). if t then (b ∷ []) ∷ lines (bs ++ more) else with_byte b (lines (bs ++ more))) n ∙ ap (with_byte b) same;
  one = c.one;
}

cut_byte : (b : ℕ) (bs : List ℕ) (t : Bool) → (b == 10) ≡ t → (c : Cut bs) → Cut (b ∷ bs)
cut_byte b bs true e c = record {
  first = (b ∷ []) ∷ c.first;
  tail = c.tail;
  count = omega (arith, c.count, ap (λ (t : Bool). if t then line_feeds bs + 1 else line_feeds bs) e);
  splits = λ more.
      ap (λ (t : Bool). if t then (b ∷ []) ∷ lines (bs ++ more) else with_byte b (lines (bs ++ more))) e ∙ ap (λ (ls : List (List ℕ)). (b ∷ []) ∷ ls) (c.splits more);
  one = c.one;
}
cut_byte b bs false e c = by c.first refl
  where
    by : (f : List (List ℕ)) → c.first ≡ f → Cut (b ∷ bs)
    by [] is = before_none b bs e c is
    by (l ∷ ls) is = before_line b bs e c l ls is

-- all bytes are cut so
cut : (seen : List ℕ) → Cut seen
cut [] = record { first = []; tail = []; count = refl; splits = λ more. refl; one = refl }
cut (b ∷ bs) = cut_byte b bs (b == 10) refl (cut bs)

line_and_x : (k : List ℕ) → NoLf k → lines (k ++ 120 ∷ []) ≡ (k ++ 120 ∷ []) ∷ []
line_and_x [] no_lf = refl
line_and_x (b ∷ k) no_lf =
    rw (ne_eqb b 10 (All-head (λ x. x ≢ 10) b k no_lf)) (ap (with_byte b) (line_and_x k (All-tail (λ x. x ≢ 10) b k no_lf)))

-- entries of a line that is alone
one_given : (n : ℕ) (text : Option Text) (l : List ℕ) (ls : List (List ℕ)) (entries : List Entry) → ls ≡ l ∷ [] → SpellsEntries n text ls entries → length entries ≡ 1
one_given n text l ls entries e d = one_entry (subst (λ (u : List (List ℕ)). SpellsEntries n text u entries) e d)

-- the whole lines that are read gave the entries so far
counted : (m : Limits) (s : Script) (seen : List ℕ) (entries : List Entry) → HasRead m s seen entries → (c : Cut seen) → (after : Bool) × Counts c.first false (length entries) after
counted m s seen entries r c =
    let given = give_entries (lines (r.line ++ 120 ∷ [])) (s.lines + 1) r.text in
    let whole : SpellsEntries 1 None (lines (seen ++ 120 ∷ [])) (entries ++ given.0) = r.leads (120 ∷ []) given.0 given.1 in
    let parts : SpellsEntries 1 None (c.first ++ (c.tail ++ 120 ∷ []) ∷ []) (entries ++ given.0) =
    subst (λ (u : List (List ℕ)). SpellsEntries 1 None u (entries ++ given.0)) (c.splits (120 ∷ []) ∙ ap (λ (u : List (List ℕ)). c.first ++ u) c.one) whole in
    let k = split 0 c.first ((c.tail ++ 120 ∷ []) ∷ []) parts in
    let one : length given.0 ≡ 1 = one_given (s.lines + 1) r.text (r.line ++ 120 ∷ []) (lines (r.line ++ 120 ∷ [])) given.0 (line_and_x r.line r.holds.no_lf) given.1 in
    let same : length k.before ≡ length entries = omega (arith, one, one_entry k.tail, ap length k.is, length-append entries given.0, length-append k.before k.behind) in
    (has_text k.left, subst (λ (j : ℕ). Counts c.first false j (has_text k.left)) same k.counted)

-- the item asks for a step or a sweep
abbrev pub Asks : Item → Type 0
Asks (item.Step f s) = Unit {0}
Asks (item.Sweep f) = Unit {0}
Asks (item.BadLine n) = ⊥
Asks item.EndOfText = ⊥

-- the item is a put of these bytes
abbrev pub IsPut : Item → List ℕ → Type 0
IsPut i bytes = (f : Format) × (i ≡ item.Step f (Put bytes))

-- the next entry behind a module text's line is its put
inside_put : (id : ℕ) (r : RequestReply) (so : List ℕ) (i : Item) (rest : List Entry) {n : ℕ} {text : Text} {ls : List (List ℕ)} {entries : List Entry} (d : SpellsEntries n (Some text) ls entries)
    → entries ≡ entry.Item i ∷ rest → Asks i → (bytes : List ℕ) × IsPut i bytes × (event_lines id d (r ∷ []) so ≡ so)
inside_put id r so i rest (goes_on n text l ls entries inside more) e asks = inside_put id r so i rest more e asks
inside_put id r so i rest (puts n text l ls entries end more) e asks = (take 1_048_577 text.bytes, (text.format, cc), none_left id so more)
inside_put id r so i rest (stops n text) e asks = let same : i ≡ item.EndOfText = cc in absurd (subst Asks same asks)

-- the line of a step or a sweep that is the next entry
item_line : (id : ℕ) (r : RequestReply) (so : List ℕ) (i : Item) (rest : List Entry) {n : ℕ} {text : Option Text} {ls : List (List ℕ)} {entries : List Entry} (d : SpellsEntries n text ls entries)
    → entries ≡ entry.Item i ∷ rest → Asks i → ((bytes : List ℕ) → IsPut i bytes → lines_after id so n r ≡ so) → ((f : Format) → i ≡ item.Sweep f → lines_after id so n r ≡ so) → event_lines id d (r ∷ []) so ≡ lines_after id so n r
item_line id r so i rest (ends n) e asks put swept = cc
item_line id r so i rest (skips n l ls entries says more) e asks put swept = cc
item_line id r so i rest (makes n l ls entries g t says more) e asks put swept = none_left id (lines_after id so n r) more
item_line id r so i rest (sweeps n l ls entries g says more) e asks put swept = none_left id so more ∙ sym (swept g (let same : i ≡ item.Sweep g = cc in same))
item_line id r so i rest (is_bad n l ls entries says more) e asks put swept = let same : i ≡ item.BadLine n = cc in absurd (subst Asks same asks)
item_line id r so i rest (begins n l ls entries g says more) e asks put swept =
    let p = inside_put id r so i rest more e asks in p.2 ∙ sym (put p.0 p.1)
item_line id r so i rest (goes_on n text l ls entries inside more) e asks put swept =
    let p = inside_put id r so i rest (goes_on n text l ls entries inside more) e asks in p.2 ∙ sym (put p.0 p.1)
item_line id r so i rest (puts n text l ls entries end more) e asks put swept =
    let p = inside_put id r so i rest (puts n text l ls entries end more) e asks in p.2 ∙ sym (put p.0 p.1)
item_line id r so i rest (stops n text) e asks put swept = let same : i ≡ item.EndOfText = cc in absurd (subst Asks same asks)

-- lists that are split at the same length
same_front : {A : Type 0} (xs as_ ys bs : List A) → xs ++ ys ≡ as_ ++ bs → length xs ≡ length as_ → (xs ≡ as_) × (ys ≡ bs)
same_front [] [] ys bs e l = (refl, e)
same_front [] (a ∷ as_) ys bs e l = absurd (omega (arith, l))
same_front (x ∷ xs) [] ys bs e l = absurd (omega (arith, l))
same_front (x ∷ xs) (a ∷ as_) ys bs e l =
    let heads : x ≡ a = cc in
    let tails : xs ++ ys ≡ as_ ++ bs = cc in
    let p = same_front xs as_ ys bs tails (omega (arith, l)) in
    ((λ i. heads i ∷ p.0 i), p.1)

-- One step or sweep more, where the script is split behind the whole lines that are read.
module _ (id : ℕ) (m : Limits) (s : Script) (seen : List ℕ) (entries : List Entry) (read : HasRead m s seen entries) (replies : List RequestReply) (numbers : List ℕ)
    (made : length replies ≡ length (requests_of (entry_items entries))) (i : Item) (asks : Asks i) (r : RequestReply)
    (put : (bytes : List ℕ) → IsPut i bytes → (n : ℕ) → lines_after id numbers n r ≡ numbers) (swept : (f : Format) → i ≡ item.Sweep f → (n : ℕ) → lines_after id numbers n r ≡ numbers) where
  numbered_at : (c : Cut seen) (rest : List (List ℕ)) (more : List Entry) (d : SpellsEntries 1 None (c.first ++ rest) (entries ++ entry.Item i ∷ more)) → event_lines id d replies [] ≡ numbers
      → event_lines id d (replies ++ r ∷ []) [] ≡ lines_after id numbers (s.lines + 1) r
  numbered_at c rest more d known =
      let k = split id c.first rest d in
      let count = counted m s seen entries read c in
      let short : length k.before ≡ length entries = counts_once c.first false (length k.before) (length entries) (has_text k.left) count.0 k.counted count.1 in
      let parts = same_front k.before entries k.behind (entry.Item i ∷ more) (sym k.is) short in
      let goes = k.goes replies (r ∷ []) [] (made ∙ ap (λ (es : List Entry). length (requests_of (entry_items es))) (sym parts.0)) in
      let number : k.at ≡ s.lines + 1 = omega (arith, k.at_is, c.count, read.ended) in
      goes ∙ ap (event_lines id k.tail (r ∷ [])) known
      ∙ item_line id r numbers i more k.tail parts.1 asks (λ bytes e. put bytes e k.at) (λ f e. swept f e k.at)
      ∙ ap (λ (n : ℕ). lines_after id numbers n r) number

  pub numbered_item : (front : List ℕ) → AreEventLines id seen entries replies numbers
      → AreEventLines id (seen ++ front) (entries ++ entry.Item i ∷ []) (replies ++ r ∷ []) (lines_after id numbers (s.lines + 1) r)
  numbered_item front known more rest =
      let c = cut seen in
      let e = entry.Item i in
      let here : lines (seen ++ (front ++ more)) ≡ c.first ++ lines (c.tail ++ (front ++ more)) = c.splits (front ++ more) in
      let known_here : (d : SpellsEntries 1 None (c.first ++ lines (c.tail ++ (front ++ more))) (entries ++ e ∷ rest)) → event_lines id d replies [] ≡ numbers =
      subst (λ (ls : List (List ℕ)). (d : SpellsEntries 1 None ls (entries ++ e ∷ rest)) → event_lines id d replies [] ≡ numbers) here (known (front ++ more) (e ∷ rest)) in
      let goal = λ (ls : List (List ℕ)) (es : List Entry). (d : SpellsEntries 1 None ls es) → event_lines id d (replies ++ r ∷ []) [] ≡ lines_after id numbers (s.lines + 1) r in
      let split_goal : goal (c.first ++ lines (c.tail ++ (front ++ more))) (entries ++ e ∷ rest) = λ d. numbered_at c (lines (c.tail ++ (front ++ more))) rest d (known_here d) in
      let at_lines : goal (lines ((seen ++ front) ++ more)) (entries ++ e ∷ rest) =
      subst (λ (ls : List (List ℕ)). goal ls (entries ++ e ∷ rest)) (sym here ∙ sym (ap lines (append_assoc seen front more))) split_goal in
      subst (λ (es : List Entry). goal (lines ((seen ++ front) ++ more)) es) (sym (append_assoc entries (e ∷ []) rest)) at_lines

-- an entry that makes no step, or none
pub numbered_same : (id : ℕ) (seen front : List ℕ) (entries next : List Entry) (replies : List RequestReply) (numbers : List ℕ) → AreEventLines id seen entries replies numbers → AreEventLines id (seen ++ front) (entries ++ next) replies numbers
numbered_same id seen front entries next replies numbers known more rest =
    let goal = λ (ls : List (List ℕ)) (es : List Entry). (d : SpellsEntries 1 None ls es) → event_lines id d replies [] ≡ numbers in
    let at_lines : goal (lines ((seen ++ front) ++ more)) (entries ++ (next ++ rest)) =
    subst (λ (ls : List (List ℕ)). goal ls (entries ++ (next ++ rest))) (sym (ap lines (append_assoc seen front more))) (known (front ++ more) (next ++ rest)) in
    subst (λ (es : List Entry). goal (lines ((seen ++ front) ++ more)) es) (sym (append_assoc entries next rest)) at_lines
