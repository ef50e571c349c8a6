-- What a run with labels consumed at a position of its script.
use Rattle.std.proofs.Common.{◌≡◌, ◌∙◌, ◌+◌, ◌≤◌, ◌<◌, inl, inr, ℕ, List, [], ◌∷◌, ◌++◌, Option, Some, None, take, length, min, sym, ap, subst, arith}
use Rattle.std.proofs.lemmas.Bool.{cases_lt}
use Rattle.std.proofs.lemmas.List.{append_assoc, append_cancel_right, take_all, append-nil, length-append, length-take, nil_from_length}
use Rattle.scrib_script_reader.specs.declared.limits.Limits.{Limits}
use Rattle.scrib_script_reader.specs.Limits.{IsWithinLimits}
use Rattle.scrib_script_reader.specs.Scripts.{NoLf, lines}
use Rattle.scrib_script_reader.proofs.Bytes.{take_kept, take_of_none}
use Rattle.scrib_script_reader.proofs.LimitLemmas.{one_last}
use Rattle.scrib_labelled.specs.declared.label_options.LabelOptions.{LabelOptions}
use Rattle.scrib_labelled.specs.declared.labelled_run.LabelledRun.{LabelledRun}
use Rattle.scrib_labelled.specs.declared.line_count.LineCount.{LineCount}
use Rattle.scrib_labelled.specs.declared.put_text.PutText.{PutText}
use Rattle.scrib_labelled.specs.GatheredBytes.{GatherFails, GathersBytes}
use Rattle.scrib_labelled.specs.LabelledEntries.{LabelledEntry, SpellsLabelledEntries}
use Rattle.scrib_labelled.specs.LabelledLines.{line_limit}
use Rattle.scrib_labelled.specs.LabelledScripts.{LabelledText}
use Rattle.scrib_labelled.specs.LineEnds.{EndsBody, FailsLine, OfLines, of_body, of_kept}
use Rattle.scrib_labelled.specs.Readings.{Beginning, HoldsUnended, IsPartOfLines, kept_len}
use Rattle.scrib_labelled.specs.Splits.{IsEnded, IsSplit}
use Rattle.scrib_labelled.specs.Stages.{OutputRelation, StageRelation}
use Rattle.scrib_labelled.proofs.SplitLemmas.{split_line, split_lines, split_part}

-- ---- limits

-- the lines of a part, at most one
few_part : (part : List ℕ) → NoLf part → length (lines part) ≤ 1
few_part [] no_lf = omega arith
few_part (b ∷ part) no_lf = omega (arith, ap length (one_last (b ∷ part) (omega arith) no_lf))

-- the limits hold for more bytes of the current line
within_part : (m : Limits) (seen : List ℕ) (before : List (List ℕ)) (part : List ℕ) (c d : LineCount) → IsSplit seen before part → c.lines ≡ length before → c.limits ≡ m → c.lines < c.limits.lines
    → d.bytes ≡ length seen → d.bytes ≤ c.limits.bytes → IsWithinLimits m seen
within_part m seen before part c d s lines_is limits few bytes_is few_bytes = (
  omega (arith, ap length (split_lines seen before part s), length-append before (lines part), few_part part s.no_lf, lines_is, few, ap (λ (x : Limits). x.lines) limits),
  omega (arith, bytes_is, few_bytes, ap (λ (x : Limits). x.bytes) limits),
)

-- ---- a part of a line

-- bytes of a line were consumed
pub gathers_part : {S : Type 0} (Took : StageRelation S) (gathered : S → List ℕ) (old new : LabelledRun S) (part : List ℕ) → NoLf part → new.options ≡ old.options → new.stage ≡ old.stage → new.text ≡ old.text
    → ((before : Option LabelledText) → HoldsUnended old.text before → length old.line.items ≤ kept_len old.options before → new.line.items ≡ take (kept_len old.options before) (old.line.items ++ part))
    → new.count.limits ≡ old.count.limits → new.count.lines ≡ old.count.lines → new.count.bytes ≡ old.count.bytes + length part → new.count.bytes ≤ old.count.limits.bytes → old.count.lines < old.count.limits.lines
    → GathersBytes Took gathered old new part
gathers_part {S} Took gathered old new part no_lf options stage text line limits lines_is bytes few_bytes few_lines = record {
  out = [];
  grows = ap gathered stage ∙ sym (append-nil (gathered old.stage));
  went = record {
    goes = λ b seen before at.
        let split : IsSplit (seen ++ part) at.whole (at.part ++ part) = split_part seen at.whole at.part part at.split no_lf in
        let counted : new.count.bytes ≡ length (seen ++ part) = omega (arith, bytes, at.bytes, length-append seen part) in
        record {
          options = options ∙ at.options;
          limits = limits ∙ at.limits;
          whole = at.whole;
          part = at.part ++ part;
          split = split;
          unended = at.unended;
          entries = at.entries;
          spells = subst (λ (n : ℕ). SpellsLabelledEntries b.labels at.whole (n + 1) at.unended at.entries) (sym lines_is) at.spells;
          text = subst (λ (t : Option PutText). HoldsUnended t at.unended) (sym text) at.text;
          kept =
              subst (λ (l : LabelOptions). new.line.items ≡ take (kept_len l at.unended) (at.part ++ part)) (sym options)
              (line at.unended at.text (omega (arith, ap length at.kept, length-take (kept_len old.options at.unended) at.part))
              ∙ ap (λ (t : List ℕ). take (kept_len old.options at.unended) (t ++ part)) at.kept ∙ take_kept (kept_len old.options at.unended) at.part part);
          took =
              subst (λ (t : List ℕ). Took b.stage new.stage at.entries t) (sym (append-nil before))
              (subst (λ (s : S). Took b.stage s at.entries before) (sym stage) at.took);
          bytes = counted;
          lines = lines_is ∙ at.lines;
          within = within_part b.limits (seen ++ part) at.whole (at.part ++ part) old.count new.count split at.lines at.limits few_lines counted few_bytes;
        };
  };
}

-- ---- the end of a line

pub none_taken : (o : LabelOptions) (before : Option LabelledText) (part : List ℕ) → take (kept_len o before) part ≡ [] → part ≡ []
none_taken o None part h = nil_from_length part (omega (arith, ap length h, length-take (line_limit o + 2) part))
none_taken o (Some t) part h = nil_from_length part (omega (arith, ap length h, length-take 1048577 part))

-- what is kept of a slice's front is kept of the slice
pub take_least : (n m : ℕ) (b : List ℕ) → m ≡ min (length b) n → take m b ≡ take n b
take_least n m b is = elim (cases_lt n (length b)) [
  | inl h ↦ let e : m ≡ n = omega (arith, is) in ap (λ (i : ℕ). take i b) e
  | inr h ↦
      let e : m ≡ length b = omega (arith, is) in
      ap (λ (i : ℕ). take i b) e ∙ take_all (length b) b (omega arith) ∙ sym (take_all n b h)
]

-- the bytes before an LF have none
pub no_lf_before : (k bytes : List ℕ) → IsEnded bytes → bytes ≡ k ++ 10 ∷ [] → NoLf k
no_lf_before k bytes ended is = subst NoLf (append_cancel_right ended.0 k (10 ∷ []) (sym ended.2 ∙ is)) ended.1

-- the whole of a line that was not begun
pub body_short : (o : LabelOptions) (text : Option PutText) (line body kept : List ℕ) (P : OfLines) → line ≡ [] → ((before : Option LabelledText) → HoldsUnended text before → kept ≡ take (kept_len o before) body)
    → of_kept o text kept P → of_body o text line body P
body_short o text line body kept P none is h = λ before part held line_is.
    let no_part : part ≡ [] = none_taken o before part (sym line_is ∙ none) in
    subst (λ (t : List ℕ). P before ((t ++ body) ++ 10 ∷ [])) (sym no_part) (h before body held (is before held))

-- the end of a line that was begun
pub body_long : (o : LabelOptions) (text : Option PutText) (line body kept : List ℕ) (P : OfLines)
    → ((before : Option LabelledText) → HoldsUnended text before → length line ≤ kept_len o before → kept ≡ take (kept_len o before) (line ++ body)) → of_kept o text kept P → of_body o text line body P
body_long o text line body kept P is h = λ before part held line_is.
    let whole : kept ≡ take (kept_len o before) (part ++ body) =
    is before held (omega (arith, ap length line_is, length-take (kept_len o before) part)) ∙ ap (λ (t : List ℕ). take (kept_len o before) (t ++ body)) line_is ∙ take_kept (kept_len o before) part body in
    h before (part ++ body) held whole

-- the limits hold for one more line
within_line : (m : Limits) (seen : List ℕ) (before : List (List ℕ)) (line : List ℕ) (c d : LineCount) → IsSplit seen (before ++ line ∷ []) [] → c.lines ≡ length before → c.limits ≡ m → c.lines < c.limits.lines
    → d.bytes ≡ length seen → d.bytes ≤ c.limits.bytes → IsWithinLimits m seen
within_line m seen before line c d s lines_is limits few bytes_is few_bytes = (
  omega (arith, ap length (split_lines seen (before ++ line ∷ []) [] s), length-append (before ++ line ∷ []) (lines []), length-append before (line ∷ []), lines_is, few, ap (λ (x : Limits). x.lines) limits),
  omega (arith, bytes_is, few_bytes, ap (λ (x : Limits). x.bytes) limits),
)

-- what the lines spell, for a run whose line is counted otherwise
spelled-as : {S : Type 0} (b : Beginning S) (old : LabelledRun S) (c : LineCount) (whole : List (List ℕ)) (before : Option LabelledText) (entries : List LabelledEntry) → old.options ≡ b.labels → c.lines ≡ old.count.lines
    → SpellsLabelledEntries b.labels whole (old.count.lines + 1) before entries → SpellsLabelledEntries old.options whole (c.lines + 1) before entries
spelled-as b old c whole before entries options lines_is s =
    subst (λ (n : ℕ). SpellsLabelledEntries old.options whole (n + 1) before entries) (sym lines_is) (subst (λ (l : LabelOptions). SpellsLabelledEntries l whole (old.count.lines + 1) before entries) (sym options) s)

-- an LF and the bytes before it were consumed
pub gathers_end : {S : Type 0} (Took : StageRelation S) (gathered : S → List ℕ) (old mid : LabelledRun S) (c1 c2 : LineCount) (k bytes : List ℕ) → NoLf k → bytes ≡ k ++ 10 ∷ [] → EndsBody Took gathered (record old { count = c1 }) mid k
    → c1.limits ≡ old.count.limits → c1.lines ≡ old.count.lines → c1.bytes ≡ old.count.bytes + length bytes → c1.bytes ≤ old.count.limits.bytes → old.count.lines < old.count.limits.lines
    → c2.limits ≡ c1.limits → c2.lines ≡ c1.lines + 1 → c2.bytes ≡ c1.bytes → GathersBytes Took gathered old (record mid { count = c2 }) bytes
gathers_end Took gathered old mid c1 c2 k bytes no_lf is e limits1 lines1 bytes1 few_bytes few_lines limits2 lines2 bytes2 = record {
  out = e.more;
  grows = e.grows;
  went = record {
    goes = λ b seen before at.
        let split : IsSplit (seen ++ bytes) (at.whole ++ ((at.part ++ k) ++ 10 ∷ []) ∷ []) [] =
        subst (λ (t : List ℕ). IsSplit (seen ++ t) (at.whole ++ ((at.part ++ k) ++ 10 ∷ []) ∷ []) []) (sym is) (split_line seen at.whole at.part k at.split no_lf) in
        let counted : c2.bytes ≡ length (seen ++ bytes) = omega (arith, bytes1, bytes2, at.bytes, length-append seen bytes) in
        let ended = e.ends at.unended at.part at.text at.kept in
        let spelled = ended.gives at.whole at.entries (spelled-as b old c1 at.whole at.unended at.entries at.options lines1 at.spells) in
        record {
          options = e.options ∙ at.options;
          limits = limits2 ∙ limits1 ∙ at.limits;
          whole = at.whole ++ ((at.part ++ k) ++ 10 ∷ []) ∷ [];
          part = [];
          split = split;
          unended = ended.after;
          entries = at.entries ++ ended.given;
          spells =
              subst (λ (l : LabelOptions). SpellsLabelledEntries l (at.whole ++ ((at.part ++ k) ++ 10 ∷ []) ∷ []) (c2.lines + 1) ended.after (at.entries ++ ended.given)) at.options
              (subst (λ (n : ℕ). SpellsLabelledEntries old.options (at.whole ++ ((at.part ++ k) ++ 10 ∷ []) ∷ []) (n + 1) ended.after (at.entries ++ ended.given)) (sym lines2) spelled);
          text = ended.text_is;
          kept = e.line ∙ sym (take_of_none (kept_len mid.options ended.after));
          took = ended.took b.stage at.entries before at.took;
          bytes = counted;
          lines = omega (arith, lines2, lines1, at.lines, length-append at.whole (((at.part ++ k) ++ 10 ∷ []) ∷ []));
          within = within_line b.limits (seen ++ bytes) at.whole ((at.part ++ k) ++ 10 ∷ []) old.count c2 split at.lines at.limits few_lines counted (omega (arith, bytes2, few_bytes));
        };
  };
}

-- what is a part for some first lines is one for more lines
part_longer : {S : Type 0} (Part : OutputRelation S) (o : LabelOptions) (first : S) (ls more all : List (List ℕ)) (out : List ℕ) → all ≡ ls ++ more → IsPartOfLines Part o first ls out → IsPartOfLines Part o first all out
part_longer Part o first ls more all out is p = record {
  read = p.read;
  later = p.later ++ more;
  is = is ∙ ap (λ (x : List (List ℕ)). x ++ more) p.is ∙ append_assoc p.read p.later more;
  number = p.number;
  unended = p.unended;
  entries = p.entries;
  spells = p.spells;
  part = p.part;
}

-- the run failed at a line
pub fails_end : {S : Type 0} (Took : StageRelation S) (Part : OutputRelation S) (gathered : S → List ℕ) (old mid : LabelledRun S) (c1 : LineCount) (k bytes : List ℕ) → NoLf k → bytes ≡ k ++ 10 ∷ [] → c1.lines ≡ old.count.lines
    → FailsLine Took Part gathered (record old { count = c1 }) mid (of_body old.options old.text old.line.items k) → GatherFails Took Part gathered old mid bytes
fails_end Took Part gathered old mid c1 k bytes no_lf is lines1 f = record {
  out = f.0;
  grows = f.1;
  fails = record {
    so = λ b seen before at more.
        let split : IsSplit (seen ++ bytes) (at.whole ++ ((at.part ++ k) ++ 10 ∷ []) ∷ []) [] =
        subst (λ (t : List ℕ). IsSplit (seen ++ t) (at.whole ++ ((at.part ++ k) ++ 10 ∷ []) ∷ []) []) (sym is) (split_line seen at.whole at.part k at.split no_lf) in
        let p = f.2 at.unended at.part at.text at.kept b.stage at.whole at.entries before (spelled-as b old c1 at.whole at.unended at.entries at.options lines1 at.spells) at.took in
        let all : lines (seen ++ (bytes ++ more)) ≡ (at.whole ++ ((at.part ++ k) ++ 10 ∷ []) ∷ []) ++ lines more = ap lines (sym (append_assoc seen bytes more)) ∙ split.at more in
        inl
        (part_longer Part b.labels b.stage (at.whole ++ ((at.part ++ k) ++ 10 ∷ []) ∷ []) (lines more) (lines (seen ++ (bytes ++ more))) (before ++ f.0) all
        (subst (λ (l : LabelOptions). IsPartOfLines Part l b.stage (at.whole ++ ((at.part ++ k) ++ 10 ∷ []) ∷ []) (before ++ f.0)) at.options p));
  };
}
