-- What a run has given at a position of its script, and where it fails.
use Rattle.std.proofs.Common.{◌≡◌, ◌∙◌, ℕ, true, List, [], ◌∷◌, ◌++◌, Option, Some, None, length, refl, sym, ap, subst, arith, eqb, Vec, Global, Result, Ok, Err}
use Rattle.std.specs.Prelude.{OnOk, OnErr, IfOk}
use Rattle.std.proofs.lemmas.Bool.{eqb-true}
use Rattle.std.proofs.lemmas.List.{append_assoc, append-nil}
use Rattle.scrib_script_reader.specs.declared.entry.Entry.{Entry}
use Rattle.scrib_script_reader.specs.declared.limits.Limits.{Limits}
use Rattle.scrib_script_reader.specs.declared.script.Script.{Script}
use Rattle.scrib_script_reader.specs.Scripts.{lines}
use Rattle.scrib_script_reader.specs.Entries.{SpellsEntries, entry_list}
use Rattle.scrib_script_reader.specs.Positions.{HasRead, TakesEntries, EndGives}
use Rattle.scrib_script_reader.proofs.ScriptLemmas.{more_entries, all_entries}
use Rattle.scrib_hold_stage.specs.declared.stage.Counts.{Counts}
use Rattle.scrib_script_io.specs.Writes.{AppendsPart}
use Rattle.scrib_hold_lines.specs.declared.line_reader.LineReader.{LineReader}
use Rattle.scrib_hold_lines.specs.declared.held_lines.HeldLines.{HeldLines}
use Rattle.scrib_hold_lines.specs.declared.line_run.LineRun.{LineRun}
use Rattle.scrib_hold_lines.specs.declared.open_text.OpenText.{OpenText}
use Rattle.scrib_hold_lines.specs.HeldLines.{IsHeldScriptOf, IsBeginningOfScript, IsHeldScriptPart}
use Rattle.scrib_hold_lines.specs.Placement.{IsReaderPlaced}
use Rattle.scrib_hold_lines.specs.Progress.{HasTakenLines, TakesLineEntry, LinesFailAt, LinesEnd, LinesEndFails, HasLinesProgressed, LinesAdvance, LinesPieceFails, GathersBytes, GathersLinesFront, LinesGatherFails, LinesEndSucceeds, LinesEndIsCut, TakesLastLine, WritesOut, IsNewLineRun}
use Rattle.scrib_hold_lines.proofs.Placements.{first_entries}
use Rattle.scrib_hold_lines.proofs.StageLemmas.{begun, begun_more, begun_less, begun_whole}

-- a run before its first byte
pub is_new : (m : Limits) (bound : ℕ) (run : LineRun) → HasRead m run.reader.script [] [] → HasTakenLines bound run.lines [] [] → IsReaderPlaced run.reader → IsNewLineRun m bound run
is_new m bound run read taken placed = record { progress = record { entries = []; read = read; taken = taken }; placed = placed }

-- a beginning for some entries, and others that follow in the script
held_part : (m : Limits) (bound : ℕ) (s : Script) (seen : List ℕ) (entries : List Entry) (part : List ℕ) → HasRead m s seen entries → IsBeginningOfScript bound entries part → (more : List ℕ) → IsHeldScriptPart bound (seen ++ more) part
held_part m bound s seen entries part r b more = let p = first_entries m s seen entries r more in (entries ++ p.0, p.1, begun_more bound entries p.0 part b)

-- the output of a run so far is a beginning
pub part_so_far : (m : Limits) (bound : ℕ) (run : LineRun) (seen out : List ℕ) → HasLinesProgressed m bound run seen out → (more : List ℕ) → IsHeldScriptPart bound (seen ++ more) out
part_so_far m bound run seen out c more =
    held_part m bound run.reader.script seen c.entries out c.read (subst (λ (l : List Entry). IsBeginningOfScript bound l out) (append-nil c.entries) (begun bound run.lines c.entries [] out c.taken)) more

pub part_less : (bound : ℕ) (input whole part rest : List ℕ) → whole ≡ part ++ rest → IsHeldScriptPart bound input whole → IsHeldScriptPart bound input part
part_less bound input whole part rest is p = (p.0, p.1, begun_less bound p.0 whole part rest is p.2)

-- ---- what is gathered does not matter for what was taken

pub taken_moved : (bound : ℕ) (m : HeldLines) (g : Vec ℕ Global) (entries : List Entry) (out : List ℕ) → HasTakenLines bound m entries out → HasTakenLines bound (record m { output = g }) entries out
taken_moved bound m g entries out c = record {
  at = record { numbered = c.at.numbered; so_far = c.at.so_far; inside = c.at.inside; written = c.at.written };
  wait = c.wait;
}

abbrev pub with_output : LineRun → Vec ℕ Global → LineRun
with_output run g = record run { lines = record run.lines { output = g } }

pub progress_moved : (m : Limits) (bound : ℕ) (run : LineRun) (g : Vec ℕ Global) (seen out : List ℕ) → HasLinesProgressed m bound run seen out → HasLinesProgressed m bound (with_output run g) seen out
progress_moved m bound run g seen out c = record { entries = c.entries; read = c.read; taken = taken_moved bound run.lines g c.entries out c.taken }

-- ---- a line

-- bytes that give no entry
pub gathers_none : (old : LineRun) (reader : LineReader) (text : OpenText) (bytes : List ℕ) → TakesEntries old.reader.script reader.script bytes [] → GathersBytes old (record old { reader = reader; text = text }) bytes
gathers_none old reader text bytes takes = record {
  out = [];
  grows = sym (append-nil old.lines.output.items);
  went = record {
    goes = λ m bound seen before c. record {
      entries = c.entries;
      read =
          subst (λ (l : List Entry). HasRead m reader.script (seen ++ bytes) l) (append-nil c.entries)
          (more_entries m old.reader.script reader.script seen bytes c.entries [] c.read takes);
      taken = subst (λ (l : List ℕ). HasTakenLines bound old.lines c.entries l) (sym (append-nil before)) c.taken;
    };
  };
}

-- the reader moved on to the next line
pub gathers_no_entry : (old : LineRun) (mid reader : LineReader) (text : OpenText) (bytes : List ℕ) (found : Option Entry) → found ≡ None → TakesEntries old.reader.script mid.script bytes (entry_list found) → reader.script ≡ mid.script
    → GathersBytes old (record old { reader = reader; text = text }) bytes
gathers_no_entry old mid reader text bytes found none takes same =
    gathers_none old reader text bytes
    (subst (λ (s : Script). TakesEntries old.reader.script s bytes []) (sym same) (subst (λ (f : Option Entry). TakesEntries old.reader.script mid.script bytes (entry_list f)) none takes))

-- bytes that give an entry
pub gathers_entry : (old : LineRun) (mid reader : LineReader) (text : OpenText) (lines_then : HeldLines) (bytes : List ℕ) (found : Option Entry) (e : Entry) → found ≡ Some e
    → TakesEntries old.reader.script mid.script bytes (entry_list found) → reader.script ≡ mid.script → TakesLineEntry old.lines lines_then e → GathersBytes old (record old { reader = reader; text = text; lines = lines_then }) bytes
gathers_entry old mid reader text lines_then bytes found e is takes same took =
    let here : TakesEntries old.reader.script reader.script bytes (e ∷ []) =
    subst (λ (s : Script). TakesEntries old.reader.script s bytes (e ∷ [])) (sym same) (subst (λ (f : Option Entry). TakesEntries old.reader.script mid.script bytes (entry_list f)) is takes) in
    record {
      out = took.out;
      grows = took.grows;
      went = record {
        goes = λ m bound seen before c. record {
          entries = c.entries ++ e ∷ [];
          read = more_entries m old.reader.script reader.script seen bytes c.entries (e ∷ []) c.read here;
          taken = took.after bound c.entries before c.taken;
        };
      };
    }

-- all bytes of a piece
pub gathers_all : (old new : LineRun) (piece rest : List ℕ) → rest ≡ [] → GathersBytes old new piece → GathersLinesFront old new piece rest
gathers_all old new piece rest none g = (piece, sym (append-nil piece) ∙ ap (λ (t : List ℕ). piece ++ t) (sym none), g)

-- nothing was consumed
pub fails_unread : (old new : LineRun) (piece : List ℕ) → new.lines.output.items ≡ old.lines.output.items → LinesGatherFails old new piece
fails_unread old new piece same = record {
  out = [];
  grows = same ∙ sym (append-nil old.lines.output.items);
  fails = record {
    so = λ m bound seen before c more. subst (λ (l : List ℕ). IsHeldScriptPart bound (seen ++ (piece ++ more)) l) (sym (append-nil before)) (part_so_far m bound old seen before c (piece ++ more));
  };
}

-- the entry of a line failed
pub fails_entry : (old new : LineRun) (mid : LineReader) (bytes : List ℕ) (found : Option Entry) (e : Entry) → found ≡ Some e → TakesEntries old.reader.script mid.script bytes (entry_list found)
    → LinesFailAt old.lines new.lines e → LinesGatherFails old new bytes
fails_entry old new mid bytes found e is takes failed =
    let here : TakesEntries old.reader.script mid.script bytes (e ∷ []) = subst (λ (f : Option Entry). TakesEntries old.reader.script mid.script bytes (entry_list f)) is takes in
    record {
      out = failed.out;
      grows = failed.grows;
      fails = record {
        so = λ m bound seen before c more.
            let read = more_entries m old.reader.script mid.script seen bytes c.entries (e ∷ []) c.read here in
            subst (λ (u : List ℕ). IsHeldScriptPart bound u (before ++ failed.out)) (append_assoc seen bytes more)
            (held_part m bound mid.script (seen ++ bytes) (c.entries ++ e ∷ []) (before ++ failed.out) read (failed.after bound c.entries before c.taken) more);
      };
    }

-- the consumed bytes and those that follow
ahead : (seen done rest more piece : List ℕ) → piece ≡ done ++ rest → (seen ++ done) ++ (rest ++ more) ≡ seen ++ (piece ++ more)
ahead seen done rest more piece e =
    append_assoc seen done (rest ++ more) ∙ ap (λ (u : List ℕ). seen ++ u) (sym (append_assoc done rest more) ∙ ap (λ (u : List ℕ). u ++ more) (sym e))

-- the first line of a piece failed
pub front_fails : (old new : LineRun) (piece front rest : List ℕ) → piece ≡ front ++ rest → LinesGatherFails old new front → LinesGatherFails old new piece
front_fails old new piece front rest is f = record {
  out = f.out;
  grows = f.grows;
  fails = record {
    so = λ m bound seen before c more.
        subst (λ (u : List ℕ). IsHeldScriptPart bound u (before ++ f.out)) (sym (append_assoc seen front (rest ++ more)) ∙ ahead seen front rest more piece is)
        (f.fails.so m bound seen before c (rest ++ more));
  };
}

-- ---- a piece

-- A part of a piece was consumed, and the rest is left. All of its output is gathered.
pub record ConsumedFront (old new : LineRun) (piece rest : List ℕ) : Type 0 where
  pub done : List ℕ
  pub is : piece ≡ done ++ rest
  pub went : LinesAdvance old new done new.lines.output.items

pub consumed_none : (run : LineRun) (g : Vec ℕ Global) (piece : List ℕ) → g.items ≡ [] → ConsumedFront run (with_output run g) piece piece
consumed_none run g piece none = record {
  done = [];
  is = refl;
  went = record {
    goes = λ m bound seen before c.
        let same : before ≡ before ++ g.items = sym (append-nil before) ∙ ap (λ (l : List ℕ). before ++ l) (sym none) in
        subst (λ (l : List ℕ). HasLinesProgressed m bound (with_output run g) l (before ++ g.items)) (sym (append-nil seen))
        (subst (λ (l : List ℕ). HasLinesProgressed m bound (with_output run g) seen l) same (progress_moved m bound run g seen before c));
  };
}

-- two outputs, one after the other
both : (all a b before : List ℕ) → all ≡ a ++ b → (before ++ a) ++ b ≡ before ++ all
both all a b before is = append_assoc before a b ∙ ap (λ (l : List ℕ). before ++ l) (sym is)

pub consumed_more : (old mid new : LineRun) (piece rest after : List ℕ) → ConsumedFront old mid piece rest → GathersLinesFront mid new rest after → ConsumedFront old new piece after
consumed_more old mid new piece rest after k f = record {
  done = k.done ++ f.0;
  is = k.is ∙ ap (λ (u : List ℕ). k.done ++ u) f.1 ∙ sym (append_assoc k.done f.0 after);
  went = record {
    goes = λ m bound seen before c.
        let d = f.2.went.goes m bound (seen ++ k.done) (before ++ mid.lines.output.items) (k.went.goes m bound seen before c) in
        subst (λ (u : List ℕ). HasLinesProgressed m bound new u (before ++ new.lines.output.items)) (append_assoc seen k.done f.0)
        (subst (λ (l : List ℕ). HasLinesProgressed m bound new ((seen ++ k.done) ++ f.0) l) (both new.lines.output.items mid.lines.output.items f.2.out before f.2.grows) d);
  };
}

no_items : (xs : List ℕ) → length xs ≡ 0 → xs ≡ []
no_items [] e = refl
no_items (x ∷ xs) e = absurd (omega (arith, e))

pub consumed_all : (old new : LineRun) (piece rest : List ℕ) → ConsumedFront old new piece rest → true ≡ eqb (length rest) 0 → LinesAdvance old new piece new.lines.output.items
consumed_all old new piece rest k e =
    let none = no_items rest (eqb-true (length rest) 0 (sym e)) in
    let all : piece ≡ k.done = k.is ∙ ap (λ (u : List ℕ). k.done ++ u) none ∙ append-nil k.done in
    subst (λ (u : List ℕ). LinesAdvance old new u new.lines.output.items) (sym all) k.went

-- a further line failed
pub consumed_fails : (old mid new : LineRun) (piece rest : List ℕ) → ConsumedFront old mid piece rest → LinesGatherFails mid new rest → LinesPieceFails old piece new.lines.output.items
consumed_fails old mid new piece rest k f = record {
  so = λ m bound seen before c more.
      let d = f.fails.so m bound (seen ++ k.done) (before ++ mid.lines.output.items) (k.went.goes m bound seen before c) more in
      subst (λ (u : List ℕ). IsHeldScriptPart bound u (before ++ new.lines.output.items)) (ahead seen k.done rest more piece k.is)
      (subst (λ (l : List ℕ). IsHeldScriptPart bound ((seen ++ k.done) ++ (rest ++ more)) l) (both new.lines.output.items mid.lines.output.items f.out before f.grows) d);
}

-- a piece that was consumed is also a beginning
pub advances_fails : (old new : LineRun) (piece out : List ℕ) → LinesAdvance old new piece out → LinesPieceFails old piece out
advances_fails old new piece out went = record {
  so = λ m bound seen before c more.
      subst (λ (u : List ℕ). IsHeldScriptPart bound u (before ++ out)) (append_assoc seen piece more)
      (part_so_far m bound new (seen ++ piece) (before ++ out) (went.goes m bound seen before c) more);
}

-- a beginning of what is gathered was written
pub piece_cut : (old : LineRun) (piece whole : List ℕ) (was now : Option (List ℕ)) → LinesPieceFails old piece whole → AppendsPart was now whole → WritesOut (LinesPieceFails old piece) was now
piece_cut old piece whole was now fails part = (
  part.0,
  record {
    so = λ m bound seen before c more.
        part_less bound (seen ++ (piece ++ more)) (before ++ whole) (before ++ part.0) part.1 (ap (λ (l : List ℕ). before ++ l) part.2 ∙ sym (append_assoc before part.0 part.1)) (fails.so m bound seen before c more);
  },
  part.3,
)

pub end_cut : (old : LineRun) (whole : List ℕ) (was now : Option (List ℕ)) → LinesEndIsCut old whole → AppendsPart was now whole → WritesOut (LinesEndIsCut old) was now
end_cut old whole was now fails part = (
  part.0,
  record {
    so = λ m bound seen before c.
        part_less bound seen (before ++ whole) (before ++ part.0) part.1 (ap (λ (l : List ℕ). before ++ l) part.2 ∙ sym (append_assoc before part.0 part.1)) (fails.so m bound seen before c);
  },
  part.3,
)

-- ---- the end of the script

pub took_no_end : (old : LineRun) (g : Vec ℕ Global) (found : Option Entry) → found ≡ None → g.items ≡ [] → EndGives old.reader.script (entry_list found) → TakesLastLine old (record old.lines { output = g })
took_no_end old g found none empty gives = record {
  out = [];
  grows = empty;
  so = λ m bound seen before c.
      let here = subst (λ (f : Option Entry). EndGives old.reader.script (entry_list f)) none gives in
      let taken = taken_moved bound old.lines g c.entries before c.taken in (
        c.entries,
        subst (λ (l : List Entry). SpellsEntries 1 None (lines seen) l) (append-nil c.entries) (all_entries m old.reader.script seen c.entries [] c.read here),
        subst (λ (l : List ℕ). HasTakenLines bound (record old.lines { output = g }) c.entries l) (sym (append-nil before)) taken,
        c.read.within,
      );
}

pub took_end : (old : LineRun) (g : Vec ℕ Global) (lines_then : HeldLines) (found : Option Entry) (e : Entry) → found ≡ Some e → g.items ≡ [] → EndGives old.reader.script (entry_list found)
    → TakesLineEntry (record old.lines { output = g }) lines_then e → TakesLastLine old lines_then
took_end old g lines_then found e is empty gives took = record {
  out = took.out;
  grows = took.grows ∙ ap (λ (l : List ℕ). l ++ took.out) empty;
  so = λ m bound seen before c.
      let here = subst (λ (f : Option Entry). EndGives old.reader.script (entry_list f)) is gives in
      let taken = taken_moved bound old.lines g c.entries before c.taken in (
        c.entries ++ e ∷ [],
        all_entries m old.reader.script seen c.entries (e ∷ []) c.read here,
        took.after bound c.entries before taken,
        c.read.within,
      );
}

pub end_succeeds : (old : LineRun) (mid new : HeldLines) (counts : Counts) → TakesLastLine old mid → LinesEnd mid new counts → LinesEndSucceeds old counts new.output.items
end_succeeds old mid new counts t f = record {
  so = λ m bound seen before c.
      let s = t.so m bound seen before c in
      let all : new.output.items ≡ t.out ++ f.out = f.grows ∙ ap (λ (l : List ℕ). l ++ f.out) t.grows in (
        (
          s.0,
          s.1,
          subst (λ (l : List ℕ). IsHeldScriptOf bound s.0 counts l) (both new.output.items t.out f.out before all) (f.after bound s.0 (before ++ t.out) s.2),
        ),
        s.3,
      );
}

pub end_fails : (old : LineRun) (mid new : HeldLines) → TakesLastLine old mid → LinesEndFails mid new → LinesEndIsCut old new.output.items
end_fails old mid new t f = record {
  so = λ m bound seen before c.
      let s = t.so m bound seen before c in
      let all : new.output.items ≡ t.out ++ f.out = f.grows ∙ ap (λ (l : List ℕ). l ++ f.out) t.grows in (
        s.0,
        s.1,
        subst (λ (l : List ℕ). IsBeginningOfScript bound s.0 l) (both new.output.items t.out f.out before all) (f.after bound s.0 (before ++ t.out) s.2),
      );
}

-- the last entry was not read
pub end_unread : (old : LineRun) (gathered : List ℕ) → gathered ≡ [] → LinesEndIsCut old gathered
end_unread old gathered none = record {
  so = λ m bound seen before c.
      let same : before ≡ before ++ gathered = sym (append-nil before) ∙ ap (λ (l : List ℕ). before ++ l) (sym none) in
      subst (λ (l : List ℕ). IsHeldScriptPart bound l (before ++ gathered)) (append-nil seen)
      (subst (λ (l : List ℕ). IsHeldScriptPart bound (seen ++ []) l) same (part_so_far m bound old seen before c []));
}

-- the last entry failed
pub end_entry_fails : (old : LineRun) (g : Vec ℕ Global) (lines_then : HeldLines) (found : Option Entry) (e : Entry) → found ≡ Some e → g.items ≡ [] → EndGives old.reader.script (entry_list found)
    → LinesFailAt (record old.lines { output = g }) lines_then e → LinesEndIsCut old lines_then.output.items
end_entry_fails old g lines_then found e is empty gives failed = record {
  so = λ m bound seen before c.
      let here = subst (λ (f : Option Entry). EndGives old.reader.script (entry_list f)) is gives in
      let all : lines_then.output.items ≡ failed.out = failed.grows ∙ ap (λ (l : List ℕ). l ++ failed.out) empty in
      let taken = taken_moved bound old.lines g c.entries before c.taken in (
        c.entries ++ e ∷ [],
        all_entries m old.reader.script seen c.entries (e ∷ []) c.read here,
        subst (λ (l : List ℕ). IsBeginningOfScript bound (c.entries ++ e ∷ []) (before ++ l)) (sym all) (failed.after bound c.entries before taken),
      );
}

-- ---- for the proofs of functions

-- a writer failed, however the piece was consumed
pub taken_cut : {T E : Type 0} (r : Result T E) (old new : LineRun) (piece whole : List ℕ) (was now : Option (List ℕ)) → OnOk r (LinesAdvance old new piece whole) → OnErr r (LinesPieceFails old piece whole)
    → AppendsPart was now whole → WritesOut (LinesPieceFails old piece) was now
taken_cut (Ok x) old new piece whole was now went failed part = piece_cut old piece whole was now (advances_fails old new piece whole went) part
taken_cut (Err e) old new piece whole was now went failed part = piece_cut old piece whole was now failed part

whole_part : (old : LineRun) (counts : Counts) (out : List ℕ) → LinesEndSucceeds old counts out → LinesEndIsCut old out
whole_part old counts out s = record {
  so = λ m bound seen before c. let p = s.so m bound seen before c in (p.0.0, p.0.1, begun_whole bound p.0.0 counts (before ++ out) p.0.2);
}

-- a writer failed, however the end was carried out
pub ended_cut : {E : Type 0} (r : Result Counts E) (old : LineRun) (whole : List ℕ) (was now : Option (List ℕ)) → IfOk r (λ counts. LinesEndSucceeds old counts whole) → OnErr r (LinesEndIsCut old whole)
    → AppendsPart was now whole → WritesOut (LinesEndIsCut old) was now
ended_cut (Ok counts) old whole was now ended failed part = end_cut old whole was now (whole_part old counts whole ended) part
ended_cut (Err e) old whole was now ended failed part = end_cut old whole was now failed part
