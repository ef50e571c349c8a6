-- Scripts that are split at a line: what their first lines give, and the numbers of the lines behind them.
use Rattle.std.proofs.Common.{◌≡◌, ◌≢◌, ◌⊎◌, inl, inr, ◌<◌, ◌≤◌, ◌+◌, ℕ, zero, suc, Bool, true, false, List, [], ◌∷◌, ◌++◌, ◌∙◌, Option, Some, None, length, take, refl, sym, ap, subst, arith, ◌==◌, if◌then◌else◌, cond}
use Rattle.std.specs.Prelude.{codes}
use Rattle.std.proofs.lemmas.Bool.{eqb-false}
use Rattle.scrib_core.specs.declared.format.Format.{Format}
use Rattle.scrib_core.specs.declared.format.Format.TheVariants as format
use Rattle.scrib_core.specs.declared.step.Step.{Step}
use Rattle.scrib_core.specs.declared.step.Step.TheVariants.{Put}
use Rattle.scrib_cli.specs.Requests.{RequestReply}
use Rattle.scrib_script_reader.specs.declared.line.Line.{Line}
use Rattle.scrib_script_reader.specs.declared.line.Line.TheVariants as line
use Rattle.scrib_script_reader.specs.declared.entry.Entry.{Entry}
use Rattle.scrib_script_reader.specs.declared.entry.Entry.TheVariants as entry
use Rattle.scrib_script_reader.specs.declared.item.Item.{Item}
use Rattle.scrib_script_reader.specs.declared.item.Item.TheVariants as item
use Rattle.scrib_script_reader.specs.Steps.{MakesStep}
use Rattle.scrib_script_reader.specs.Fields.{fields}
use Rattle.scrib_script_reader.specs.Says.{Says, IsSkipped, Asks, Puts, Sweeps, MakesIn}
use Rattle.scrib_script_reader.specs.Scripts.{Text, empty_text, with_line, bare, text_end, requests_of}
use Rattle.scrib_script_reader.specs.Entries.{SpellsEntries, ends, skips, makes, sweeps, is_bad, begins, goes_on, puts, stops, entry_items}
use Rattle.scrib_show.specs.EventLines.{lines_after, event_lines}

-- the line begins a module text
abbrev pub IsPutLine : List ℕ → Type 0
IsPutLine l = (f : Format) × Says (bare l) (line.Put f)

-- fields that are `put`, with or without a format, have no other meaning
no_comment : (b : ℕ) (bs : List ℕ) (fs : List (List ℕ)) → (b == 35) ≡ false → IsSkipped ((b ∷ bs) ∷ fs) → ⊥
no_comment b bs fs n s = eqb-false b 35 n s

put_not_skipped : (fs : List (List ℕ)) (f : Format) → Puts fs f → IsSkipped fs → ⊥
put_not_skipped fs format.Line p s = no_comment 112 (codes "ut") [] refl (subst IsSkipped (sym p.1.0 ∙ p.2) s)
put_not_skipped fs format.Json p s = no_comment 106 (codes "son") p.0 refl (subst IsSkipped p.1 s)

same_tail : (a b : List ℕ) (as_ bs : List (List ℕ)) → a ∷ as_ ≡ b ∷ bs → as_ ≡ bs
same_tail a b as_ bs e = cc

put_no_step : (rest : List (List ℕ)) (s : Step) → rest ≡ codes "put" ∷ [] → MakesStep rest s → ⊥
put_no_step rest s e m = subst (λ (fs : List (List ℕ)). MakesStep fs s) e m

put_not_made : (fs : List (List ℕ)) (f g : Format) (s : Step) → Puts fs f → MakesIn fs g s → ⊥
put_not_made fs format.Line format.Line s p m = put_no_step m.0 s (m.1.0 ∙ sym p.1.0 ∙ p.2) m.2
put_not_made fs format.Line format.Json s p m = p.1.1 m.0 m.1
put_not_made fs format.Json format.Line s p m = m.1.1 p.0 p.1
put_not_made fs format.Json format.Json s p m =
    put_no_step m.0 s (same_tail (codes "json") (codes "json") m.0 p.0 (sym m.1 ∙ p.1) ∙ p.2) m.2

put_no_sweep : (rest : List (List ℕ)) → rest ≡ codes "put" ∷ [] → rest ≡ codes "sweep" ∷ [] → ⊥
put_no_sweep rest e m = let same : codes "put" ∷ [] ≡ codes "sweep" ∷ [] = sym e ∙ m in cc

put_not_swept : (fs : List (List ℕ)) (f g : Format) → Puts fs f → Sweeps fs g → ⊥
put_not_swept fs format.Line format.Line p m = put_no_sweep m.0 (m.1.0 ∙ sym p.1.0 ∙ p.2) m.2
put_not_swept fs format.Line format.Json p m = p.1.1 m.0 m.1
put_not_swept fs format.Json format.Line p m = m.1.1 p.0 p.1
put_not_swept fs format.Json format.Json p m =
    put_no_sweep m.0 (same_tail (codes "json") (codes "json") m.0 p.0 (sym m.1 ∙ p.1) ∙ p.2) m.2

skipped_no_put : (l : List ℕ) → Says (bare l) line.Skipped → IsPutLine l → ⊥
skipped_no_put l s p = put_not_skipped (fields (bare l)) p.0 p.1.1 s.1

step_no_put : (l : List ℕ) (f : Format) (s : Step) → Says (bare l) (line.Step f s) → IsPutLine l → ⊥
step_no_put l f s m p = put_not_made (fields (bare l)) p.0 f s p.1.1 m.1

sweep_no_put : (l : List ℕ) (f : Format) → Says (bare l) (line.Sweep f) → IsPutLine l → ⊥
sweep_no_put l f m p = put_not_swept (fields (bare l)) p.0 f p.1.1 m.1

bad_no_put : (l : List ℕ) → Says (bare l) line.Bad → IsPutLine l → ⊥
bad_no_put l (inl long) p = omega (arith, long, p.1.0)
bad_no_put l (inr none) p = none.1 p.0 p.1.1

-- Lines that give so many entries, from outside of a module text or from inside, and whether they lead inside one.
abbrev pub Counts : List (List ℕ) → (inside : Bool) → ℕ → (after : Bool) → Type 0
Counts [] inside k after = (k ≡ 0) × (after ≡ inside)
Counts (l ∷ ls) false k after =
    (IsPutLine l × Counts ls true k after) ⊎ ((IsPutLine l → ⊥) × ((j : ℕ) × (k ≡ suc j) × Counts ls false j after))
Counts (l ∷ ls) true k after =
    ((bare l ≢ text_end) × Counts ls true k after) ⊎ ((bare l ≡ text_end) × ((j : ℕ) × (k ≡ suc j) × Counts ls false j after))

-- the lines give one number of entries
pub counts_once : (ls : List (List ℕ)) (b : Bool) (j k : ℕ) (x y : Bool) → Counts ls b j x → Counts ls b k y → j ≡ k
counts_once [] b j k x y p q = p.0 ∙ sym q.0
counts_once (l ∷ ls) false j k x y (inl p) (inl q) = counts_once ls true j k x y p.1 q.1
counts_once (l ∷ ls) false j k x y (inl p) (inr q) = absurd (q.0 p.0)
counts_once (l ∷ ls) false j k x y (inr p) (inl q) = absurd (p.0 q.0)
counts_once (l ∷ ls) false j k x y (inr p) (inr q) = p.1.1 ∙ ap suc (counts_once ls false p.1.0 q.1.0 x y p.1.2 q.1.2) ∙ sym q.1.1
counts_once (l ∷ ls) true j k x y (inl p) (inl q) = counts_once ls true j k x y p.1 q.1
counts_once (l ∷ ls) true j k x y (inl p) (inr q) = absurd (p.0 q.0)
counts_once (l ∷ ls) true j k x y (inr p) (inl q) = absurd (q.0 p.0)
counts_once (l ∷ ls) true j k x y (inr p) (inr q) = p.1.1 ∙ ap suc (counts_once ls false p.1.0 q.1.0 x y p.1.2 q.1.2) ∙ sym q.1.1

-- whether there is a text
abbrev pub has_text : Option Text → Bool
has_text None = false
has_text (Some t) = true

-- A script that is split behind its first lines: the entries that these give, and the script behind them.
pub record Split (id : ℕ) {n : ℕ} {text : Option Text} {ls : List (List ℕ)} {entries : List Entry} (d : SpellsEntries n text ls entries)
    (first rest : List (List ℕ)) : Type 0 where
  pub before : List Entry
  pub behind : List Entry
  pub is : entries ≡ before ++ behind
  pub at : ℕ
  pub at_is : at ≡ n + length first
  pub left : Option Text
  pub counted : Counts first (has_text text) (length before) (has_text left)
  pub tail : SpellsEntries at left rest behind
  pub goes : (replies qs : List RequestReply) (so : List ℕ) → length replies ≡ length (requests_of (entry_items before))
      → event_lines id d (replies ++ qs) so ≡ event_lines id tail qs (event_lines id d replies so)

-- where no step is made, the lines stay
pub none_left : (id : ℕ) (so : List ℕ) {n : ℕ} {text : Option Text} {ls : List (List ℕ)} {entries : List Entry} (d : SpellsEntries n text ls entries) → event_lines id d [] so ≡ so
none_left id so (ends n) = refl
none_left id so (skips n l ls entries says more) = none_left id so more
none_left id so (makes n l ls entries f s says more) = refl
none_left id so (sweeps n l ls entries f says more) = refl
none_left id so (is_bad n l ls entries says more) = none_left id so more
none_left id so (begins n l ls entries f says more) = none_left id so more
none_left id so (goes_on n text l ls entries inside more) = none_left id so more
none_left id so (puts n text l ls entries end more) = refl
none_left id so (stops n text) = refl

goes_none : (id : ℕ) {n : ℕ} {text : Option Text} {ls : List (List ℕ)} {entries : List Entry} (d : SpellsEntries n text ls entries) (replies qs : List RequestReply) (so : List ℕ) → length replies ≡ 0
    → event_lines id d (replies ++ qs) so ≡ event_lines id d qs (event_lines id d replies so)
goes_none id d [] qs so e = ap (event_lines id d qs) (sym (none_left id so d))
goes_none id d (r ∷ replies) qs so e = absurd (omega (arith, e))

-- no line
split_none : (id : ℕ) {n : ℕ} {text : Option Text} {ls : List (List ℕ)} {entries : List Entry} (d : SpellsEntries n text ls entries) → Split id d [] ls
split_none id {n} {text} {ls} {entries} d = record {
  before = [];
  behind = entries;
  is = refl;
  at = n;
  at_is = omega arith;
  left = text;
  counted = (refl, refl);
  tail = d;
  goes = goes_none id d;
}

-- one line more, which makes a step
made_goes : (id n : ℕ) (l : List ℕ) (first rest : List (List ℕ)) (entries : List Entry) (f : Format) (s : Step) (says : Says (bare l) (line.Step f s)) (more : SpellsEntries (n + 1) None (first ++ rest) entries) (k : Split id more first rest)
    (replies qs : List RequestReply) (so : List ℕ) → length replies ≡ suc (length (requests_of (entry_items k.before)))
    → event_lines id (makes n l (first ++ rest) entries f s says more) (replies ++ qs) so ≡ event_lines id k.tail qs (event_lines id (makes n l (first ++ rest) entries f s says more) replies so)
made_goes id n l first rest entries f s says more k [] qs so e = absurd (omega (arith, e))
made_goes id n l first rest entries f s says more k (r ∷ replies) qs so e = k.goes replies qs (lines_after id so n r) (omega (arith, e))

-- one line more, which sweeps
swept_goes : (id n : ℕ) (l : List ℕ) (first rest : List (List ℕ)) (entries : List Entry) (f : Format) (says : Says (bare l) (line.Sweep f)) (more : SpellsEntries (n + 1) None (first ++ rest) entries) (k : Split id more first rest)
    (replies qs : List RequestReply) (so : List ℕ) → length replies ≡ suc (length (requests_of (entry_items k.before)))
    → event_lines id (sweeps n l (first ++ rest) entries f says more) (replies ++ qs) so ≡ event_lines id k.tail qs (event_lines id (sweeps n l (first ++ rest) entries f says more) replies so)
swept_goes id n l first rest entries f says more k [] qs so e = absurd (omega (arith, e))
swept_goes id n l first rest entries f says more k (r ∷ replies) qs so e = k.goes replies qs so (omega (arith, e))

-- one line more, which ends a module text
put_goes : (id n : ℕ) (text : Text) (l : List ℕ) (first rest : List (List ℕ)) (entries : List Entry) (end : bare l ≡ text_end) (more : SpellsEntries (n + 1) None (first ++ rest) entries) (k : Split id more first rest)
    (replies qs : List RequestReply) (so : List ℕ) → length replies ≡ suc (length (requests_of (entry_items k.before)))
    → event_lines id (puts n text l (first ++ rest) entries end more) (replies ++ qs) so ≡ event_lines id k.tail qs (event_lines id (puts n text l (first ++ rest) entries end more) replies so)
put_goes id n text l first rest entries end more k [] qs so e = absurd (omega (arith, e))
put_goes id n text l first rest entries end more k (r ∷ replies) qs so e = k.goes replies qs so (omega (arith, e))

-- each script is split behind its first lines
pub split : (id : ℕ) (first rest : List (List ℕ)) {n : ℕ} {text : Option Text} {entries : List Entry} (d : SpellsEntries n text (first ++ rest) entries) → Split id d first rest
split id [] rest d = split_none id d
split id (l ∷ first) rest (skips n _ _ entries says more) =
    let k = split id first rest more in
    record {
      before = entry.Skipped ∷ k.before;
      behind = k.behind;
      is = ap (λ (es : List Entry). entry.Skipped ∷ es) k.is;
      at = k.at;
      at_is = omega (arith, k.at_is);
      left = k.left;
      counted = inr (skipped_no_put l says, (length k.before, refl, k.counted));
      tail = k.tail;
      goes = k.goes;
    }
split id (l ∷ first) rest (makes n _ _ entries f s says more) =
    let k = split id first rest more in
    record {
      before = entry.Item (item.Step f s) ∷ k.before;
      behind = k.behind;
      is = ap (λ (es : List Entry). entry.Item (item.Step f s) ∷ es) k.is;
      at = k.at;
      at_is = omega (arith, k.at_is);
      left = k.left;
      counted = inr (step_no_put l f s says, (length k.before, refl, k.counted));
      tail = k.tail;
      goes = made_goes id n l first rest entries f s says more k;
    }
split id (l ∷ first) rest (sweeps n _ _ entries f says more) =
    let k = split id first rest more in
    record {
      before = entry.Item (item.Sweep f) ∷ k.before;
      behind = k.behind;
      is = ap (λ (es : List Entry). entry.Item (item.Sweep f) ∷ es) k.is;
      at = k.at;
      at_is = omega (arith, k.at_is);
      left = k.left;
      counted = inr (sweep_no_put l f says, (length k.before, refl, k.counted));
      tail = k.tail;
      goes = swept_goes id n l first rest entries f says more k;
    }
split id (l ∷ first) rest (is_bad n _ _ entries says more) =
    let k = split id first rest more in
    record {
      before = entry.Item (item.BadLine n) ∷ k.before;
      behind = k.behind;
      is = ap (λ (es : List Entry). entry.Item (item.BadLine n) ∷ es) k.is;
      at = k.at;
      at_is = omega (arith, k.at_is);
      left = k.left;
      counted = inr (bad_no_put l says, (length k.before, refl, k.counted));
      tail = k.tail;
      goes = k.goes;
    }
split id (l ∷ first) rest (begins n _ _ entries f says more) =
    let k = split id first rest more in
    record {
      before = k.before;
      behind = k.behind;
      is = k.is;
      at = k.at;
      at_is = omega (arith, k.at_is);
      left = k.left;
      counted = inl ((f, says), k.counted);
      tail = k.tail;
      goes = k.goes;
    }
split id (l ∷ first) rest (goes_on n text _ _ entries inside more) =
    let k = split id first rest more in
    record {
      before = k.before;
      behind = k.behind;
      is = k.is;
      at = k.at;
      at_is = omega (arith, k.at_is);
      left = k.left;
      counted = inl (inside, k.counted);
      tail = k.tail;
      goes = k.goes;
    }
split id (l ∷ first) rest (puts n text _ _ entries end more) =
    let k = split id first rest more in
    record {
      before = entry.Item (item.Step text.format (Put (take 1_048_577 text.bytes))) ∷ k.before;
      behind = k.behind;
      is = ap (λ (es : List Entry). entry.Item (item.Step text.format (Put (take 1_048_577 text.bytes))) ∷ es) k.is;
      at = k.at;
      at_is = omega (arith, k.at_is);
      left = k.left;
      counted = inr (end, (length k.before, refl, k.counted));
      tail = k.tail;
      goes = put_goes id n text l first rest entries end more k;
    }

-- one line gives one entry
pub one_entry : {n : ℕ} {text : Option Text} {l : List ℕ} {entries : List Entry} → SpellsEntries n text (l ∷ []) entries → length entries ≡ 1
one_entry (skips n l _ _ says (ends k)) = refl
one_entry (makes n l _ _ f s says (ends k)) = refl
one_entry (sweeps n l _ _ f says (ends k)) = refl
one_entry (is_bad n l _ _ says (ends k)) = refl
one_entry (begins n l _ _ f says (stops k t)) = refl
one_entry (goes_on n text l _ _ inside (stops k t)) = refl
one_entry (puts n text l _ _ end (ends k)) = refl
