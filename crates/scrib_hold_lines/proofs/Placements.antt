-- Where a reader of lines is, and what its next bytes give.
use Rattle.std.proofs.Common.{◌≡◌, ◌≢◌, ◌∙◌, ◌<◌, ◌≤◌, ◌+◌, ℕ, suc, zero, true, false, eqb, List, [], ◌∷◌, ◌++◌, Option, Some, None, take, drop, get_or, length, length-append, refl, sym, ap, subst, inl, inr, arith}
use Rattle.std.specs.List.{AllByRecursion}
use Rattle.std.specs.Option.{is_some}
use Rattle.std.proofs.lemmas.Bool.{cases_eq, eqb-true, ne_eqb, true≢false}
use Rattle.std.proofs.lemmas.List.{append_assoc, append-nil, length-take}
use Rattle.std.proofs.lemmas.List.Elements.{All-nil, All-cons, All-head, All-tail, All-append, All-take}
use Rattle.scrib_script_reader.specs.declared.limits.Limits.{Limits}
use Rattle.scrib_script_reader.specs.declared.script.Script.{Script}
use Rattle.scrib_script_reader.specs.declared.entry.Entry.{Entry}
use Rattle.scrib_script_reader.specs.Scripts.{NoLf, Text, lines, with_byte}
use Rattle.scrib_script_reader.specs.Entries.{SpellsEntries, entry_list}
use Rattle.scrib_script_reader.specs.Positions.{HasRead, TakesEntries, TakesFrontEntries}
use Rattle.scrib_script_reader.proofs.Bytes.{lines_lf, take_kept, take_of_none}
use Rattle.scrib_script_reader.proofs.PositionLemmas.{give_entries}
use Rattle.scrib_script_reader.proofs.ScriptLemmas.{more_entries, entries_then, same_entries}
use Rattle.scrib_hold_lines.specs.Placement.{IsReaderEnded, IsOfLine, IsSplit, HasReadSome, IsReaderAt}
use Rattle.scrib_hold_lines.proofs.SpelledLines.{first_of}
use Rattle.scrib_hold_lines.proofs.FirstLines.{one_line}
use Rattle.scrib_hold_lines.proofs.Walks.{HasLines, walked, same_rests}

-- ---- lines, and then a part of one

pub split_none : IsSplit [] [] []
split_none = record { at = λ more. refl; full = tt; no_lf = All-nil (λ b. b ≢ 10) }

pub split_part : (seen : List ℕ) (before : List (List ℕ)) (part k : List ℕ) → IsSplit seen before part → NoLf k → IsSplit (seen ++ k) before (part ++ k)
split_part seen before part k s no_lf = record {
  at = λ more. ap lines (append_assoc seen k more) ∙ s.at (k ++ more) ∙ ap (λ (t : List ℕ). before ++ lines t) (sym (append_assoc part k more));
  full = s.full;
  no_lf = All-append (λ b. b ≢ 10) part k s.no_lf no_lf;
}

-- one more item at the end
all_push : (before : List (List ℕ)) (l : List ℕ) → AllByRecursion IsReaderEnded before → IsReaderEnded l → AllByRecursion IsReaderEnded (before ++ l ∷ [])
all_push [] l all one = (one, tt)
all_push (x ∷ before) l all one = (all.0, all_push before l all.1 one)

pub lines_push : (before : List (List ℕ)) (l : List ℕ) (more : List (List ℕ)) → (before ++ l ∷ []) ++ more ≡ before ++ (l ∷ more)
lines_push before l more = append_assoc before (l ∷ []) more

pub split_line : (seen : List ℕ) (before : List (List ℕ)) (part k : List ℕ) → IsSplit seen before part → NoLf k → IsSplit (seen ++ (k ++ 10 ∷ [])) (before ++ ((part ++ k) ++ 10 ∷ []) ∷ []) []
split_line seen before part k s no_lf =
    let whole : NoLf (part ++ k) = All-append (λ b. b ≢ 10) part k s.no_lf no_lf in
    let ended : IsReaderEnded ((part ++ k) ++ 10 ∷ []) = (part ++ k, whole, refl) in
    record {
      at = λ more.
          ap lines (append_assoc seen (k ++ 10 ∷ []) more) ∙ s.at ((k ++ 10 ∷ []) ++ more)
          ∙ ap (λ (t : List ℕ). before ++ lines t) (sym (append_assoc part (k ++ 10 ∷ []) more) ∙ ap (λ (t : List ℕ). t ++ more) (sym (append_assoc part k (10 ∷ []))))
          ∙ ap (λ (ls : List (List ℕ)). before ++ ls) (first_of ((part ++ k) ++ 10 ∷ []) more ended)
          ∙ sym (lines_push before ((part ++ k) ++ 10 ∷ []) (lines more));
      full = all_push before ((part ++ k) ++ 10 ∷ []) s.full ended;
      no_lf = All-nil (λ b. b ≢ 10);
    }

-- all bytes are split
pub record SplitOf (seen : List ℕ) : Type 0 where
  pub before : List (List ℕ)
  pub part : List ℕ
  pub split : IsSplit seen before part

-- a byte in front of the bytes
split_lf : (bs : List ℕ) → SplitOf bs → SplitOf (10 ∷ bs)
split_lf bs s = record {
  before = (10 ∷ []) ∷ s.before;
  part = s.part;
  split = record {
    at = λ more. ap (λ (ls : List (List ℕ)). (10 ∷ []) ∷ ls) (s.split.at more);
    full = (([], All-nil (λ b. b ≢ 10), refl), s.split.full);
    no_lf = s.split.no_lf;
  };
}

not_lf : (b : ℕ) (bs : List ℕ) → b ≢ 10 → lines (b ∷ bs) ≡ with_byte b (lines bs)
not_lf b bs ne = rw (ne_eqb b 10 ne) refl

split_other : (b : ℕ) (bs : List ℕ) → b ≢ 10 → (before : List (List ℕ)) (part : List ℕ) → IsSplit bs before part → SplitOf (b ∷ bs)
split_other b bs ne [] part s = record {
  before = [];
  part = b ∷ part;
  split = record {
    at = λ more. not_lf b (bs ++ more) ne ∙ ap (with_byte b) (s.at more) ∙ sym (not_lf b (part ++ more) ne);
    full = tt;
    no_lf = All-cons (λ x. x ≢ 10) b part ne s.no_lf;
  };
}
split_other b bs ne (l ∷ before) part s = record {
  before = (b ∷ l) ∷ before;
  part = part;
  split = record {
    at = λ more. not_lf b (bs ++ more) ne ∙ ap (with_byte b) (s.at more);
    full = ((b ∷ s.full.0.0, All-cons (λ x. x ≢ 10) b s.full.0.0 ne s.full.0.1, ap (λ (t : List ℕ). b ∷ t) s.full.0.2), s.full.1);
    no_lf = s.no_lf;
  };
}

pub split_of : (seen : List ℕ) → SplitOf seen
split_of [] = record { before = []; part = []; split = split_none }
split_of (b ∷ bs) =
    let s = split_of bs in
    elim (cases_eq b 10) [
      | inl e ↦ subst (λ (x : ℕ). SplitOf (x ∷ bs)) (sym e) (split_lf bs s)
      | inr ne ↦ split_other b bs ne s.before s.part s.split
    ]

-- ---- the entries of what was read

-- whatever follows, the script gives these entries first
pub first_entries : (m : Limits) (s : Script) (seen : List ℕ) (entries : List Entry) → HasRead m s seen entries → (more : List ℕ) → (rest : List Entry) × SpellsEntries 1 None (lines (seen ++ more)) (entries ++ rest)
first_entries m s seen entries r more = let p = give_entries (lines (r.line ++ more)) (s.lines + 1) r.text in (p.0, r.leads more p.0 p.1)

-- an LF gives one entry more
pub entry_at_lf : (m : Limits) (s : Script) (seen : List ℕ) (entries : List Entry) → HasRead m s seen entries
    → (rest : List Entry) × SpellsEntries 1 None (lines (seen ++ 10 ∷ [])) (entries ++ rest) × (length rest ≡ 1)
entry_at_lf m s seen entries r =
    let p = give_entries (lines (r.line ++ 10 ∷ [])) (s.lines + 1) r.text in
    let one : lines (r.line ++ 10 ∷ []) ≡ (r.line ++ 10 ∷ []) ∷ [] = lines_lf r.line [] r.holds.no_lf in (
      p.0,
      r.leads (10 ∷ []) p.0 p.1,
      one_line (s.lines + 1) r.text (r.line ++ 10 ∷ []) p.0 (subst (λ (ls : List (List ℕ)). SpellsEntries (s.lines + 1) r.text ls p.0) one p.1),
    )

-- the lines of what was read, with an LF behind it
lines_at_lf : (seen : List ℕ) (before : List (List ℕ)) (part : List ℕ) → IsSplit seen before part → lines (seen ++ 10 ∷ []) ≡ before ++ (part ++ 10 ∷ []) ∷ []
lines_at_lf seen before part s = s.at (10 ∷ []) ∙ ap (λ (ls : List (List ℕ)). before ++ ls) (lines_lf part [] s.no_lf)

-- The script that was read, with more behind it: the lines before the current one give the entries so far.
pub record BehindRead (later : List (List ℕ)) (entries rest : List Entry) : Type 0 where
  pub at : ℕ
  pub text : Option Text
  pub whole : HasLines text
  pub spells : SpellsEntries at text later rest

pub behind_read : (m : Limits) (s : Script) (seen : List ℕ) (entries : List Entry) (before : List (List ℕ)) (part : List ℕ) → HasRead m s seen entries → IsSplit seen before part
    → (later : List (List ℕ)) (rest : List Entry) → SpellsEntries 1 None (before ++ later) (entries ++ rest) → BehindRead later entries rest
behind_read m s seen entries before part r split later rest h =
    let k = entry_at_lf m s seen entries r in
    let here : SpellsEntries 1 None (before ++ (part ++ 10 ∷ []) ∷ []) (entries ++ k.0) =
    subst (λ (ls : List (List ℕ)). SpellsEntries 1 None ls (entries ++ k.0)) (lines_at_lf seen before part split) k.1 in
    let w = walked before ((part ++ 10 ∷ []) ∷ []) later split.full 1 1 None None (entries ++ k.0) (entries ++ rest) tt tt here h in
    let left_one : length w.left ≡ 1 = one_line w.at w.text (part ++ 10 ∷ []) w.left w.spells in
    let many : length entries ≡ length w.taken = omega (arith, left_one, k.2, w.as_many, ap length w.xs_are, length-append entries k.0, length-append w.given w.left) in
    let same : rest ≡ w.rest = same_rests entries rest w.taken w.rest w.ys_are many in
    record {
      at = w.other_at;
      text = w.other_text;
      whole = w.whole;
      spells = subst (λ (es : List Entry). SpellsEntries w.other_at w.other_text later es) (sym same) w.other_spells;
    }

-- ---- a part of a line

no_entries : (entries : List Entry) → length entries ≡ 0 → entries ≡ []
no_entries [] e = refl
no_entries (x ∷ entries) e = absurd (omega (arith, e))

-- it gives no entry
pub none_in_part : (m : Limits) (old new : Script) (seen : List ℕ) (entries : List Entry) (part : List ℕ) (more : List Entry) → HasRead m old seen entries → TakesEntries old new part more → NoLf part → more ≡ []
none_in_part m old new seen entries part more r takes no_lf =
    let s = split_of seen in
    let read = more_entries m old new seen part entries more r takes in
    let k = entry_at_lf m new (seen ++ part) (entries ++ more) read in
    let after : IsSplit (seen ++ part) s.before (s.part ++ part) = split_part seen s.before s.part part s.split no_lf in
    let here : SpellsEntries 1 None (s.before ++ ((s.part ++ part) ++ 10 ∷ []) ∷ []) (entries ++ (more ++ k.0)) =
    subst (λ (es : List Entry). SpellsEntries 1 None (s.before ++ ((s.part ++ part) ++ 10 ∷ []) ∷ []) es) (append_assoc entries more k.0)
    (subst (λ (ls : List (List ℕ)). SpellsEntries 1 None ls ((entries ++ more) ++ k.0)) (lines_at_lf (seen ++ part) s.before (s.part ++ part) after) k.1) in
    let b = behind_read m old seen entries s.before s.part r s.split (((s.part ++ part) ++ 10 ∷ []) ∷ []) (more ++ k.0) here in
    let one : length (more ++ k.0) ≡ 1 = one_line b.at b.text ((s.part ++ part) ++ 10 ∷ []) (more ++ k.0) b.spells in
    no_entries more (omega (arith, one, k.2, length-append more k.0))

-- ---- bytes of one line

-- a front of bytes with no LF
front_no_lf : (d after : List ℕ) → NoLf (d ++ after) → NoLf d
front_no_lf [] after no_lf = All-nil (λ b. b ≢ 10)
front_no_lf (x ∷ d) after no_lf = All-cons (λ b. b ≢ 10) x d (All-head (λ b. b ≢ 10) x (d ++ after) no_lf) (front_no_lf d after (All-tail (λ b. b ≢ 10) x (d ++ after) no_lf))

-- a front of a line that is not all of it
front_of_line : (k d : List ℕ) (x : ℕ) (after : List ℕ) → NoLf k → k ++ 10 ∷ [] ≡ d ++ x ∷ after → NoLf d
front_of_line k [] x after no_lf e = All-nil (λ b. b ≢ 10)
front_of_line [] (y ∷ d) x after no_lf e = absurd (omega (arith, ap length e, length-append d (x ∷ after)))
front_of_line (z ∷ k) (y ∷ d) x after no_lf e =
    All-cons (λ b. b ≢ 10) y d (subst (λ (b : ℕ). b ≢ 10) (ap (λ (l : List ℕ). get_or l 0 0) e) (All-head (λ b. b ≢ 10) z k no_lf))
    (front_of_line k d x after (All-tail (λ b. b ≢ 10) z k no_lf) (ap (drop 1) e))

-- a front with an LF is all of it
all_of_line : (bytes d after : List ℕ) → IsOfLine bytes → bytes ≡ d ++ after → (NoLf d → ⊥) → after ≡ []
all_of_line bytes d [] of_line is some = refl
all_of_line bytes d (x ∷ after) (inl no_lf) is some = absurd (some (front_no_lf d (x ∷ after) (subst NoLf is no_lf)))
all_of_line bytes d (x ∷ after) (inr ended) is some = absurd (some (front_of_line ended.0 d x after ended.1 (sym ended.2 ∙ is)))

-- A front of the bytes was consumed, and gives no entry.
pub record ConsumedFront (old new : Script) (bytes rest : List ℕ) : Type 0 where
  pub done : List ℕ
  pub is : bytes ≡ done ++ rest
  pub taken : TakesEntries old new done []

pub consumed_none : (s : Script) (bytes : List ℕ) → ConsumedFront s s bytes bytes
consumed_none s bytes = record { done = []; is = refl; taken = same_entries s [] refl (All-nil (λ b. b ≢ 10)) }

consumed_is : (bytes done rest front after : List ℕ) → bytes ≡ done ++ rest → rest ≡ front ++ after → bytes ≡ (done ++ front) ++ after
consumed_is bytes done rest front after is here = is ∙ ap (λ (t : List ℕ). done ++ t) here ∙ sym (append_assoc done front after)

pub consumed_more : (old mid new : Script) (bytes rest after : List ℕ) (o : Option Entry) → ConsumedFront old mid bytes rest → TakesFrontEntries mid new rest after (entry_list o) → false ≡ is_some o → ConsumedFront old new bytes after
consumed_more old mid new bytes rest after None k t none = record {
  done = k.done ++ t.0;
  is = consumed_is bytes k.done rest t.0 after k.is t.1;
  taken = entries_then old mid new k.done t.0 [] [] k.taken t.2;
}
consumed_more old mid new bytes rest after (Some e) k t none = absurd (true≢false (sym none))

pub consumed_entry : (old mid new : Script) (bytes rest after : List ℕ) (o : Option Entry) → HasReadSome old → IsOfLine bytes → ConsumedFront old mid bytes rest → TakesFrontEntries mid new rest after (entry_list o)
    → true ≡ is_some o → TakesEntries old new bytes (entry_list o)
consumed_entry old mid new bytes rest after None r of_line k t some = absurd (true≢false some)
consumed_entry old mid new bytes rest after (Some e) r of_line k t some =
    let takes : TakesEntries old new (k.done ++ t.0) (e ∷ []) = entries_then old mid new k.done t.0 [] (e ∷ []) k.taken t.2 in
    let is : bytes ≡ (k.done ++ t.0) ++ after = consumed_is bytes k.done rest t.0 after k.is t.1 in
    let none : after ≡ [] = all_of_line bytes (k.done ++ t.0) after of_line is (λ no_lf. not_none e (none_in_part r.limits old new r.seen r.entries (k.done ++ t.0) (e ∷ []) r.read takes no_lf)) in
    subst (λ (b : List ℕ). TakesEntries old new b (e ∷ [])) (sym (is ∙ ap (λ (t' : List ℕ). (k.done ++ t.0) ++ t') none ∙ append-nil (k.done ++ t.0))) takes
  where
    not_none : (x : Entry) → x ∷ [] ≡ [] → ⊥
    not_none x f = omega (arith, ap length f)

no_bytes : (xs : List ℕ) → length xs ≡ 0 → xs ≡ []
no_bytes [] e = refl
no_bytes (x ∷ xs) e = absurd (omega (arith, e))

pub consumed_all : (old new : Script) (bytes rest : List ℕ) → ConsumedFront old new bytes rest → true ≡ eqb (length rest) 0 → TakesEntries old new bytes []
consumed_all old new bytes rest k e =
    let none = no_bytes rest (eqb-true (length rest) 0 (sym e)) in
    subst (λ (b : List ℕ). TakesEntries old new b []) (sym (k.is ∙ ap (λ (t : List ℕ). k.done ++ t) none ∙ append-nil k.done)) k.taken

-- ---- what is kept of the line

pub some_read : (s : Script) (kept : List ℕ) → IsReaderAt s kept → HasReadSome s
some_read s kept a = record { limits = a.limits; seen = a.seen; entries = a.entries; read = a.read }

pub at_start : (m : Limits) (s : Script) (kept : List ℕ) → HasRead m s [] [] → kept ≡ [] → IsReaderAt s kept
at_start m s kept r none = record {
  limits = m;
  seen = [];
  entries = [];
  read = r;
  before = [];
  part = [];
  split = split_none;
  kept_is = none ∙ sym (take_of_none 131074);
}

-- a part of a line gives no entry
pub part_takes : (old new : Script) (kept part : List ℕ) (more : List Entry) → IsReaderAt old kept → NoLf part → TakesEntries old new part more → TakesEntries old new part []
part_takes old new kept part more a no_lf takes =
    subst (λ (es : List Entry). TakesEntries old new part es) (none_in_part a.limits old new a.seen a.entries part more a.read takes no_lf) takes

pub at_part : (old new : Script) (kept part now : List ℕ) → IsReaderAt old kept → NoLf part → TakesEntries old new part [] → now ≡ take 131074 (kept ++ part) → IsReaderAt new now
at_part old new kept part now a no_lf takes is = record {
  limits = a.limits;
  seen = a.seen ++ part;
  entries = a.entries ++ [];
  read = more_entries a.limits old new a.seen part a.entries [] a.read takes;
  before = a.before;
  part = a.part ++ part;
  split = split_part a.seen a.before a.part part a.split no_lf;
  kept_is = is ∙ ap (λ (t : List ℕ). take 131074 (t ++ part)) a.kept_is ∙ take_kept 131074 a.part part;
}

pub at_end : (old new : Script) (kept bytes : List ℕ) (more : List Entry) → IsReaderAt old kept → IsReaderEnded bytes → TakesEntries old new bytes more → IsReaderAt new []
at_end old new kept bytes more a ended takes = record {
  limits = a.limits;
  seen = a.seen ++ bytes;
  entries = a.entries ++ more;
  read = more_entries a.limits old new a.seen bytes a.entries more a.read takes;
  before = a.before ++ ((a.part ++ ended.0) ++ 10 ∷ []) ∷ [];
  part = [];
  split =
      subst (λ (t : List ℕ). IsSplit (a.seen ++ t) (a.before ++ ((a.part ++ ended.0) ++ 10 ∷ []) ∷ []) []) (sym ended.2)
      (split_line a.seen a.before a.part ended.0 a.split ended.1);
  kept_is = sym (take_of_none 131074);
}

pub kept_short : (s : Script) (kept : List ℕ) → IsReaderAt s kept → length kept ≤ 131074
kept_short s kept a = omega (arith, ap length a.kept_is, length-take 131074 a.part)

pub kept_no_lf : (s : Script) (kept : List ℕ) → IsReaderAt s kept → NoLf kept
kept_no_lf s kept a = subst NoLf (sym a.kept_is) (All-take (λ b. b ≢ 10) 131074 a.part a.split.no_lf)

-- ---- the first line of a piece

taken_more : (xs : List ℕ) (i : ℕ) → i < length xs → get_or xs i 0 ≡ 10 → take (suc i) xs ≡ take i xs ++ 10 ∷ []
taken_more [] i within lf = absurd (omega (arith, within))
taken_more (x ∷ xs) zero within lf = ap (λ (b : ℕ). b ∷ []) lf
taken_more (x ∷ xs) (suc i) within lf = ap (λ (t : List ℕ). x ∷ t) (taken_more xs i (omega (arith, within)) lf)

pub line_ended : (piece front : List ℕ) (at mid : ℕ) → at < length piece → get_or piece at 0 ≡ 10 → NoLf (take at piece) → front ≡ take mid piece → mid ≡ at + 1 → IsReaderEnded front
line_ended piece front at mid within lf no_lf is number =
    let suc_at : mid ≡ suc at = omega (arith, number) in
    (take at piece, no_lf, is ∙ ap (λ (n : ℕ). take n piece) suc_at ∙ taken_more piece at within lf)
