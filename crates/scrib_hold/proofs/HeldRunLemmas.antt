-- What a run with held events has given at a position of its script, and where it fails.
use Rattle.std.proofs.Common.{◌≡◌, ℕ, ◌+◌, true, List, [], ◌∷◌, ◌++◌, ◌∙◌, Option, Some, None, length, length-append, refl, sym, ap, subst, arith, eqb, Result, Ok, Err}
use Rattle.std.specs.Prelude.{OnOk, OnErr, IfOk}
use Rattle.std.specs.Io.KnownBytes.{Appends}
use Rattle.std.proofs.lemmas.Bool.{eqb-true}
use Rattle.std.proofs.lemmas.List.{append_assoc, append-nil}
use Rattle.scrib_core.specs.declared.format.Format.{Format}
use Rattle.scrib_script_reader.specs.declared.entry.Entry.{Entry}
use Rattle.scrib_script_reader.specs.declared.script.Script.{Script}
use Rattle.scrib_script_reader.specs.Scripts.{lines}
use Rattle.scrib_script_reader.specs.Entries.{SpellsEntries, entry_list}
use Rattle.scrib_script_reader.specs.declared.limits.Limits.{Limits}
use Rattle.scrib_script_reader.specs.Positions.{Holds, HasRead, TakesEntries, TakesFrontEntries, EndGives}
use Rattle.scrib_script_reader.proofs.PositionLemmas.{give_entries}
use Rattle.scrib_script_reader.proofs.ScriptLemmas.{entries_none, more_entries, all_entries}
use Rattle.scrib_hold_stage.specs.declared.stage.Counts.{Counts}
use Rattle.scrib_script_io.specs.Writes.{AppendsPart}
use Rattle.scrib_script_io.proofs.WriterLemmas.{appends_none, appends_more}
use Rattle.scrib_cli.specs.declared.gathered.Gathered.{Gathered}
use Rattle.scrib_cli.specs.Progress.{WritesFront}
use Rattle.scrib_hold.specs.declared.held_monitor.HeldMonitor.{HeldMonitor}
use Rattle.scrib_hold.specs.declared.held_run.HeldRun.{HeldRun}
use Rattle.scrib_hold.specs.declared.replies.Replies.{Replies}
use Rattle.scrib_hold.specs.HeldScripts.{IsOutputOf, IsBeginningOf, IsHeldPart}
use Rattle.scrib_hold.specs.Progress.{HasGiven, HasHeldProgressed, HeldRunAdvances, HeldPieceFails, GathersHeldFront, GatherFails, HeldEndSucceeds, EndIsCut, TakesLast, Writes, WritesFirst, IsNewHeld}
use Rattle.scrib_hold.proofs.RepliesLemmas.{GivesEntry, GivesPart, GivesEnd, GivesEndPart, begun_more, begun_less, begun_whole, given_begun, given_moved}

-- whatever follows, the script gives these entries first
pub first_entries : (m : Limits) (s : Script) (seen : List ℕ) (entries : List Entry) → HasRead m s seen entries → (more : List ℕ) → (rest : List Entry) × SpellsEntries 1 None (lines (seen ++ more)) (entries ++ rest)
first_entries m s seen entries r more = let p = give_entries (lines (r.line ++ more)) (s.lines + 1) r.text in (p.0, r.leads more p.0 p.1)

-- a run before its first byte
pub is_new : (o : Format) (bound : ℕ) (m : Limits) (run : HeldRun) → Holds run.script None [] → run.script.lines ≡ 0 → run.script.bytes ≡ 0 → run.script.limits ≡ m → HasGiven o bound run.monitor [] [] → IsNewHeld o bound m run
is_new o bound m run holds no_lines no_bytes limits taken = record {
  progress = record { entries = []; read = entries_none m run.script holds no_lines no_bytes limits; taken = taken };
}

-- a beginning of the output of some entries, and others that follow in the script
held_part : (o : Format) (bound : ℕ) (m : Limits) (s : Script) (seen : List ℕ) (entries : List Entry) (part : List ℕ) → HasRead m s seen entries → IsBeginningOf o bound entries part → (more : List ℕ) → IsHeldPart o bound (seen ++ more) part
held_part o bound m s seen entries part r b more = let p = first_entries m s seen entries r more in (entries ++ p.0, p.1, begun_more o bound entries p.0 part b)

-- the output of a run so far is a beginning of that of the script
pub part_so_far : (o : Format) (bound : ℕ) (m : Limits) (run : HeldRun) (seen out : List ℕ) → HasHeldProgressed o bound m run seen out → (more : List ℕ) → IsHeldPart o bound (seen ++ more) out
part_so_far o bound m run seen out c more =
    held_part o bound m run.script seen c.entries out c.read (subst (λ (l : List Entry). IsBeginningOf o bound l out) (append-nil c.entries) (given_begun o bound run.monitor c.entries [] out c.taken)) more

pub part_less : (o : Format) (bound : ℕ) (input whole part rest : List ℕ) → whole ≡ part ++ rest → IsHeldPart o bound input whole → IsHeldPart o bound input part
part_less o bound input whole part rest is p = (p.0, p.1, begun_less o bound p.0 whole part rest is p.2)

-- ---- what is gathered does not matter for what was taken

abbrev pub with_gathered : HeldRun → Gathered → HeldRun
with_gathered run g = record run { monitor = record run.monitor { sink = record run.monitor.sink { gathered = g } } }

pub progress_moved : (o : Format) (bound : ℕ) (m : Limits) (run : HeldRun) (g : Gathered) (seen out : List ℕ) → HasHeldProgressed o bound m run seen out → HasHeldProgressed o bound m (with_gathered run g) seen out
progress_moved o bound m run g seen out c = record { entries = c.entries; read = c.read; taken = given_moved o bound run.monitor (record run.monitor.sink { gathered = g }) c.entries out refl refl c.taken }

-- ---- a line

-- a line without an entry
pub gathers_none : (old : HeldRun) (script : Script) (piece rest : List ℕ) (found : Option Entry) → found ≡ None → TakesFrontEntries old.script script piece rest (entry_list found)
    → GathersHeldFront old (record old { script = script }) piece rest
gathers_none old script piece rest found none takes =
    let here : TakesEntries old.script script takes.0 [] = subst (λ (f : Option Entry). TakesEntries old.script script takes.0 (entry_list f)) none takes.2 in
    record {
      front = takes.0;
      out = [];
      is = takes.1;
      grows = sym (append-nil old.monitor.sink.gathered.bytes.items);
      went = record {
        goes = λ o bound m seen before c. record {
          entries = c.entries;
          read =
              subst (λ (l : List Entry). HasRead m script (seen ++ takes.0) l) (append-nil c.entries)
              (more_entries m old.script script seen takes.0 c.entries [] c.read here);
          taken = subst (λ (l : List ℕ). HasGiven o bound old.monitor c.entries l) (sym (append-nil before)) c.taken;
        };
      };
    }

-- a line with one
pub gathers_entry : (old : HeldRun) (script : Script) (monitor : HeldMonitor Replies) (piece rest : List ℕ) (found : Option Entry) (e : Entry) → found ≡ Some e → TakesFrontEntries old.script script piece rest (entry_list found)
    → GivesEntry old.monitor monitor e → GathersHeldFront old (record old { script = script; monitor = monitor }) piece rest
gathers_entry old script monitor piece rest found e is takes took =
    let here : TakesEntries old.script script takes.0 (e ∷ []) = subst (λ (f : Option Entry). TakesEntries old.script script takes.0 (entry_list f)) is takes.2 in
    record {
      front = takes.0;
      out = took.out;
      is = takes.1;
      grows = took.grows;
      went = record {
        goes = λ o bound m seen before c. record {
          entries = c.entries ++ e ∷ [];
          read = more_entries m old.script script seen takes.0 c.entries (e ∷ []) c.read here;
          taken = took.after o bound c.entries before c.taken;
        };
      };
    }

-- ---- a line that is read without an entry

-- nothing was consumed by a first attempt at the line
no_front : (front piece : List ℕ) → piece ≡ front ++ piece → front ≡ []
no_front [] piece is = refl
no_front (x ∷ front) piece is = absurd (omega (arith, ap length is, length-append front piece))

pub progress_unread : (o : Format) (bound : ℕ) (m : Limits) (run : HeldRun) (script : Script) (piece seen out : List ℕ) → TakesFrontEntries run.script script piece piece [] → HasHeldProgressed o bound m run seen out
    → HasHeldProgressed o bound m (record run { script = script }) seen out
progress_unread o bound m run script piece seen out takes c =
    let none : takes.0 ≡ [] = no_front takes.0 piece takes.1 in
    let here : TakesEntries run.script script [] [] = subst (λ (u : List ℕ). TakesEntries run.script script u []) none takes.2 in
    record {
      entries = c.entries;
      read =
          subst (λ (u : List ℕ). HasRead m script u c.entries) (append-nil seen)
          (subst (λ (l : List Entry). HasRead m script (seen ++ []) l) (append-nil c.entries) (more_entries m run.script script seen [] c.entries [] c.read here));
      taken = c.taken;
    }

pub gathers_later : (old new : HeldRun) (script : Script) (piece rest : List ℕ) → TakesFrontEntries old.script script piece piece [] → GathersHeldFront (record old { script = script }) new piece rest → GathersHeldFront old new piece rest
gathers_later old new script piece rest takes f = record {
  front = f.front;
  out = f.out;
  is = f.is;
  grows = f.grows;
  went = record {
    goes = λ o bound m seen before c. f.went.goes o bound m seen before (progress_unread o bound m old script piece seen before takes c);
  };
}

pub fails_later : (old new : HeldRun) (script : Script) (piece : List ℕ) → TakesFrontEntries old.script script piece piece [] → GatherFails (record old { script = script }) new piece → GatherFails old new piece
fails_later old new script piece takes f = record {
  out = f.out;
  grows = f.grows;
  fails = record {
    so = λ o bound m seen before c more. f.fails.so o bound m seen before (progress_unread o bound m old script piece seen before takes c) more;
  };
}

-- the entry of a line that was read at the first attempt
pub gathers_line : (old : HeldRun) (script : Script) (monitor : HeldMonitor Replies) (piece rest : List ℕ) (e : Entry) → TakesFrontEntries old.script script piece rest (e ∷ [])
    → GivesEntry old.monitor monitor e → GathersHeldFront old (record old { script = script; monitor = monitor }) piece rest
gathers_line old script monitor piece rest e takes took = gathers_entry old script monitor piece rest (Some e) e refl takes took

-- nothing was consumed
pub fails_unread : (old new : HeldRun) (piece : List ℕ) → new.monitor.sink.gathered.bytes.items ≡ old.monitor.sink.gathered.bytes.items → GatherFails old new piece
fails_unread old new piece same = record {
  out = [];
  grows = same ∙ sym (append-nil old.monitor.sink.gathered.bytes.items);
  fails = record {
    so = λ o bound m seen before c more. subst (λ (l : List ℕ). IsHeldPart o bound (seen ++ (piece ++ more)) l) (sym (append-nil before)) (part_so_far o bound m old seen before c (piece ++ more));
  };
}

-- the consumed bytes and those that follow
ahead : (seen done rest more piece : List ℕ) → piece ≡ done ++ rest → (seen ++ done) ++ (rest ++ more) ≡ seen ++ (piece ++ more)
ahead seen done rest more piece e =
    append_assoc seen done (rest ++ more) ∙ ap (λ (u : List ℕ). seen ++ u) (sym (append_assoc done rest more) ∙ ap (λ (u : List ℕ). u ++ more) (sym e))

-- the entry of a line failed
pub fails_entry : (old new : HeldRun) (script : Script) (piece rest : List ℕ) (found : Option Entry) (e : Entry) → found ≡ Some e → TakesFrontEntries old.script script piece rest (entry_list found)
    → GivesPart old.monitor new.monitor e → GatherFails old new piece
fails_entry old new script piece rest found e is takes failed =
    let here : TakesEntries old.script script takes.0 (e ∷ []) = subst (λ (f : Option Entry). TakesEntries old.script script takes.0 (entry_list f)) is takes.2 in
    record {
      out = failed.out;
      grows = failed.grows;
      fails = record {
        so = λ o bound m seen before c more.
            let read = more_entries m old.script script seen takes.0 c.entries (e ∷ []) c.read here in
            subst (λ (u : List ℕ). IsHeldPart o bound u (before ++ failed.out)) (ahead seen takes.0 rest more piece takes.1)
            (held_part o bound m script (seen ++ takes.0) (c.entries ++ e ∷ []) (before ++ failed.out) read (failed.after o bound c.entries before c.taken) (rest ++ more));
      };
    }

pub fails_line : (old new : HeldRun) (script : Script) (piece rest : List ℕ) (e : Entry) → TakesFrontEntries old.script script piece rest (e ∷ []) → GivesPart old.monitor new.monitor e → GatherFails old new piece
fails_line old new script piece rest e takes failed = fails_entry old new script piece rest (Some e) e refl takes failed

-- ---- a piece

-- A part of a piece was consumed, and the rest is left. Some of its output was written, and the rest is gathered.
pub record ConsumedFront (old new : HeldRun) (piece rest : List ℕ) (was now : Option (List ℕ)) : Type 0 where
  pub done : List ℕ
  pub is : piece ≡ done ++ rest
  pub out : List ℕ
  pub went : HeldRunAdvances old new done (out ++ new.monitor.sink.gathered.bytes.items)
  pub wrote : Appends was now out

pub consumed_none : (run : HeldRun) (g : Gathered) (piece : List ℕ) (w : Option (List ℕ)) → g.bytes.items ≡ [] → ConsumedFront run (with_gathered run g) piece piece w w
consumed_none run g piece w none = record {
  done = [];
  is = refl;
  out = [];
  went = record {
    goes = λ o bound m seen before c.
        let same : before ≡ before ++ g.bytes.items = sym (append-nil before) ∙ ap (λ (l : List ℕ). before ++ l) (sym none) in
        subst (λ (l : List ℕ). HasHeldProgressed o bound m (with_gathered run g) l (before ++ g.bytes.items)) (sym (append-nil seen))
        (subst (λ (l : List ℕ). HasHeldProgressed o bound m (with_gathered run g) seen l) same (progress_moved o bound m run g seen before c));
  };
  wrote = appends_none w;
}

-- two outputs, one after the other
both : (all a b before : List ℕ) → all ≡ a ++ b → (before ++ a) ++ b ≡ before ++ all
both all a b before is = append_assoc before a b ∙ ap (λ (l : List ℕ). before ++ l) (sym is)

-- what was written is in front of two gathered outputs
both_behind : (out all a b : List ℕ) → all ≡ a ++ b → out ++ all ≡ (out ++ a) ++ b
both_behind out all a b is = sym (both all a b out is)

pub consumed_more : (old mid new : HeldRun) (piece rest after : List ℕ) (was now : Option (List ℕ)) → ConsumedFront old mid piece rest was now → GathersHeldFront mid new rest after → ConsumedFront old new piece after was now
consumed_more old mid new piece rest after was now k f =
    let all = k.out ++ new.monitor.sink.gathered.bytes.items in
    let first = k.out ++ mid.monitor.sink.gathered.bytes.items in
    let is : all ≡ first ++ f.out = both_behind k.out new.monitor.sink.gathered.bytes.items mid.monitor.sink.gathered.bytes.items f.out f.grows in
    record {
      done = k.done ++ f.front;
      is = k.is ∙ ap (λ (u : List ℕ). k.done ++ u) f.is ∙ sym (append_assoc k.done f.front after);
      out = k.out;
      went = record {
        goes = λ o bound m seen before c.
            let d = f.went.goes o bound m (seen ++ k.done) (before ++ first) (k.went.goes o bound m seen before c) in
            subst (λ (u : List ℕ). HasHeldProgressed o bound m new u (before ++ all)) (append_assoc seen k.done f.front)
            (subst (λ (l : List ℕ). HasHeldProgressed o bound m new ((seen ++ k.done) ++ f.front) l) (both all first f.out before is) d);
      };
      wrote = k.wrote;
    }

no_items : (xs : List ℕ) → length xs ≡ 0 → xs ≡ []
no_items [] e = refl
no_items (x ∷ xs) e = absurd (omega (arith, e))

pub consumed_all : (old new : HeldRun) (piece rest : List ℕ) (was now : Option (List ℕ)) → ConsumedFront old new piece rest was now → true ≡ eqb (length rest) 0
    → WritesFirst (HeldRunAdvances old new piece) new.monitor.sink.gathered.bytes.items was now
consumed_all old new piece rest was now k e =
    let none = no_items rest (eqb-true (length rest) 0 (sym e)) in
    let all : piece ≡ k.done = k.is ∙ ap (λ (u : List ℕ). k.done ++ u) none ∙ append-nil k.done in
    (k.out, subst (λ (u : List ℕ). HeldRunAdvances old new u (k.out ++ new.monitor.sink.gathered.bytes.items)) (sym all) k.went, k.wrote)

-- a further line failed
pub consumed_fails : (old mid new : HeldRun) (piece rest : List ℕ) (was now : Option (List ℕ)) → ConsumedFront old mid piece rest was now → GatherFails mid new rest
    → WritesFirst (HeldPieceFails old piece) new.monitor.sink.gathered.bytes.items was now
consumed_fails old mid new piece rest was now k f =
    let all = k.out ++ new.monitor.sink.gathered.bytes.items in
    let first = k.out ++ mid.monitor.sink.gathered.bytes.items in
    let is : all ≡ first ++ f.out = both_behind k.out new.monitor.sink.gathered.bytes.items mid.monitor.sink.gathered.bytes.items f.out f.grows in (
      k.out,
      record {
        so = λ o bound m seen before c more.
            let d = f.fails.so o bound m (seen ++ k.done) (before ++ first) (k.went.goes o bound m seen before c) more in
            subst (λ (u : List ℕ). IsHeldPart o bound u (before ++ all)) (ahead seen k.done rest more piece k.is)
            (subst (λ (l : List ℕ). IsHeldPart o bound ((seen ++ k.done) ++ (rest ++ more)) l) (both all first f.out before is) d);
      },
      k.wrote,
    )

-- it ends somewhere in the piece
consumed_ends : (old new : HeldRun) (piece rest : List ℕ) (was now : Option (List ℕ)) → (k : ConsumedFront old new piece rest was now) → HeldPieceFails old piece (k.out ++ new.monitor.sink.gathered.bytes.items)
consumed_ends old new piece rest was now k = record {
  so = λ o bound m seen before c more.
      let all = k.out ++ new.monitor.sink.gathered.bytes.items in
      subst (λ (u : List ℕ). IsHeldPart o bound u (before ++ all)) (ahead seen k.done rest more piece k.is)
      (part_so_far o bound m new (seen ++ k.done) (before ++ all) (k.went.goes o bound m seen before c) (rest ++ more));
}

-- a piece that was carried out is also a beginning
pub advances_fails : (old new : HeldRun) (piece out : List ℕ) → HeldRunAdvances old new piece out → HeldPieceFails old piece out
advances_fails old new piece out went = record {
  so = λ o bound m seen before c more.
      subst (λ (u : List ℕ). IsHeldPart o bound u (before ++ out)) (append_assoc seen piece more)
      (part_so_far o bound m new (seen ++ piece) (before ++ out) (went.goes o bound m seen before c) more);
}

pub advances_moved : (old new : HeldRun) (g : Gathered) (piece out : List ℕ) → HeldRunAdvances old new piece out → HeldRunAdvances old (with_gathered new g) piece out
advances_moved old new g piece out went = record {
  goes = λ o bound m seen before c. progress_moved o bound m new g (seen ++ piece) (before ++ out) (went.goes o bound m seen before c);
}

-- a front of what is gathered was written
pub consumed_written : (old new : HeldRun) (g : Gathered) (piece rest : List ℕ) (was now end : Option (List ℕ)) → ConsumedFront old new piece rest was now
    → WritesFront new.monitor.sink.gathered.bytes.items g.bytes.items now end → ConsumedFront old (with_gathered new g) piece rest was end
consumed_written old new g piece rest was now end k f =
    let out = k.out ++ f.0 in
    let all = both_behind k.out new.monitor.sink.gathered.bytes.items f.0 g.bytes.items f.1 in
    record {
      done = k.done;
      is = k.is;
      out = out;
      went = advances_moved old new g k.done (out ++ g.bytes.items) (subst (λ (l : List ℕ). HeldRunAdvances old new k.done l) all k.went);
      wrote = appends_more was now end k.out f.0 k.wrote f.2;
    }

-- what was written, and then all that is gathered
pub all_written : (P : List ℕ → Type 0) (gathered : List ℕ) (was now end : Option (List ℕ)) → WritesFirst P gathered was now → Appends now end gathered → Writes P was end
all_written P gathered was now end w more = (w.0 ++ gathered, w.1, appends_more was now end w.0 gathered w.2 more)

-- what was written, and then a beginning of what is gathered
part_behind : (out gathered : List ℕ) (was now end : Option (List ℕ)) → Appends was now out → AppendsPart now end gathered → AppendsPart was end (out ++ gathered)
part_behind out gathered was now end wrote part = (
  out ++ part.0,
  part.1,
  both_behind out gathered part.0 part.1 part.2,
  appends_more was now end out part.0 wrote part.3,
)

-- a beginning of what is gathered was written
pub piece_cut : (old : HeldRun) (piece whole : List ℕ) (was now : Option (List ℕ)) → HeldPieceFails old piece whole → AppendsPart was now whole → Writes (HeldPieceFails old piece) was now
piece_cut old piece whole was now fails part = (
  part.0,
  record {
    so = λ o bound m seen before c more.
        part_less o bound (seen ++ (piece ++ more)) (before ++ whole) (before ++ part.0) part.1 (ap (λ (l : List ℕ). before ++ l) part.2 ∙ sym (append_assoc before part.0 part.1)) (fails.so o bound m seen before c more);
  },
  part.3,
)

-- it was not written whole, and is dropped
pub consumed_cut : (old new : HeldRun) (piece rest left : List ℕ) (was now end : Option (List ℕ)) → ConsumedFront old new piece rest was now
    → AppendsPart now end new.monitor.sink.gathered.bytes.items → left ≡ [] → WritesFirst (HeldPieceFails old piece) left was end
consumed_cut old new piece rest left was now end k part none =
    let whole = k.out ++ new.monitor.sink.gathered.bytes.items in
    let cut = piece_cut old piece whole was end (consumed_ends old new piece rest was now k) (part_behind k.out new.monitor.sink.gathered.bytes.items was now end k.wrote part) in
    let same : cut.0 ≡ cut.0 ++ left = sym (append-nil cut.0) ∙ ap (λ (l : List ℕ). cut.0 ++ l) (sym none) in
    (cut.0, subst (λ (l : List ℕ). HeldPieceFails old piece l) same cut.1, cut.2)

pub end_cut : (old : HeldRun) (whole : List ℕ) (was now : Option (List ℕ)) → EndIsCut old whole → AppendsPart was now whole → Writes (EndIsCut old) was now
end_cut old whole was now fails part = (
  part.0,
  record {
    so = λ o bound m seen before c.
        part_less o bound seen (before ++ whole) (before ++ part.0) part.1 (ap (λ (l : List ℕ). before ++ l) part.2 ∙ sym (append_assoc before part.0 part.1)) (fails.so o bound m seen before c);
  },
  part.3,
)

-- ---- the end of the script

pub took_no_end : (old : HeldRun) (g : Gathered) (found : Option Entry) → found ≡ None → g.bytes.items ≡ [] → EndGives old.script (entry_list found) → TakesLast old (record old.monitor { sink = record old.monitor.sink { gathered = g } })
took_no_end old g found none empty gives = record {
  out = [];
  grows = empty;
  so = λ o bound m seen before c.
      let here = subst (λ (f : Option Entry). EndGives old.script (entry_list f)) none gives in
      let taken = given_moved o bound old.monitor (record old.monitor.sink { gathered = g }) c.entries before refl refl c.taken in (
        c.entries,
        subst (λ (l : List Entry). SpellsEntries 1 None (lines seen) l) (append-nil c.entries) (all_entries m old.script seen c.entries [] c.read here),
        subst (λ (l : List ℕ). HasGiven o bound (record old.monitor { sink = record old.monitor.sink { gathered = g } }) c.entries l) (sym (append-nil before)) taken,
        c.read.within,
      );
}

pub took_end : (old : HeldRun) (g : Gathered) (monitor : HeldMonitor Replies) (found : Option Entry) (e : Entry) → found ≡ Some e → g.bytes.items ≡ [] → EndGives old.script (entry_list found)
    → GivesEntry (record old.monitor { sink = record old.monitor.sink { gathered = g } }) monitor e → TakesLast old monitor
took_end old g monitor found e is empty gives took = record {
  out = took.out;
  grows = took.grows ∙ ap (λ (l : List ℕ). l ++ took.out) empty;
  so = λ o bound m seen before c.
      let here = subst (λ (f : Option Entry). EndGives old.script (entry_list f)) is gives in
      let taken = given_moved o bound old.monitor (record old.monitor.sink { gathered = g }) c.entries before refl refl c.taken in (
        c.entries ++ e ∷ [],
        all_entries m old.script seen c.entries (e ∷ []) c.read here,
        took.after o bound c.entries before taken,
        c.read.within,
      );
}

pub end_succeeds : (old : HeldRun) (mid new : HeldMonitor Replies) (counts : Counts) → TakesLast old mid → GivesEnd mid new counts → HeldEndSucceeds old counts new.sink.gathered.bytes.items
end_succeeds old mid new counts t f = record {
  so = λ o bound m seen before c.
      let s = t.so o bound m seen before c in
      let all : new.sink.gathered.bytes.items ≡ t.out ++ f.out = f.grows ∙ ap (λ (l : List ℕ). l ++ f.out) t.grows in (
        (
          s.0,
          s.1,
          subst (λ (l : List ℕ). IsOutputOf o bound s.0 counts l) (both new.sink.gathered.bytes.items t.out f.out before all) (f.after o bound s.0 (before ++ t.out) s.2),
        ),
        s.3,
      );
}

pub end_fails : (old : HeldRun) (mid new : HeldMonitor Replies) → TakesLast old mid → GivesEndPart mid new → EndIsCut old new.sink.gathered.bytes.items
end_fails old mid new t f = record {
  so = λ o bound m seen before c.
      let s = t.so o bound m seen before c in
      let all : new.sink.gathered.bytes.items ≡ t.out ++ f.out = f.grows ∙ ap (λ (l : List ℕ). l ++ f.out) t.grows in (
        s.0,
        s.1,
        subst (λ (l : List ℕ). IsBeginningOf o bound s.0 l) (both new.sink.gathered.bytes.items t.out f.out before all) (f.after o bound s.0 (before ++ t.out) s.2),
      );
}

-- the last entry was not read
pub end_unread : (old : HeldRun) (gathered : List ℕ) → gathered ≡ [] → EndIsCut old gathered
end_unread old gathered none = record {
  so = λ o bound m seen before c.
      let same : before ≡ before ++ gathered = sym (append-nil before) ∙ ap (λ (l : List ℕ). before ++ l) (sym none) in
      subst (λ (l : List ℕ). IsHeldPart o bound l (before ++ gathered)) (append-nil seen)
      (subst (λ (l : List ℕ). IsHeldPart o bound (seen ++ []) l) same (part_so_far o bound m old seen before c []));
}

-- the last entry failed
pub end_entry_fails : (old : HeldRun) (g : Gathered) (monitor : HeldMonitor Replies) (found : Option Entry) (e : Entry) → found ≡ Some e → g.bytes.items ≡ [] → EndGives old.script (entry_list found)
    → GivesPart (record old.monitor { sink = record old.monitor.sink { gathered = g } }) monitor e → EndIsCut old monitor.sink.gathered.bytes.items
end_entry_fails old g monitor found e is empty gives failed = record {
  so = λ o bound m seen before c.
      let here = subst (λ (f : Option Entry). EndGives old.script (entry_list f)) is gives in
      let all : monitor.sink.gathered.bytes.items ≡ failed.out = failed.grows ∙ ap (λ (l : List ℕ). l ++ failed.out) empty in
      let taken = given_moved o bound old.monitor (record old.monitor.sink { gathered = g }) c.entries before refl refl c.taken in (
        c.entries ++ e ∷ [],
        all_entries m old.script seen c.entries (e ∷ []) c.read here,
        subst (λ (l : List ℕ). IsBeginningOf o bound (c.entries ++ e ∷ []) (before ++ l)) (sym all) (failed.after o bound c.entries before taken),
      );
}

-- ---- for the proofs of functions

-- a writer failed, however the piece was carried out
pub taken_cut : {T E : Type 0} (r : Result T E) (old new : HeldRun) (piece gathered : List ℕ) (was now end : Option (List ℕ)) → OnOk r (WritesFirst (HeldRunAdvances old new piece) gathered was now)
    → OnErr r (WritesFirst (HeldPieceFails old piece) gathered was now) → AppendsPart now end gathered → Writes (HeldPieceFails old piece) was end
taken_cut (Ok x) old new piece gathered was now end went failed part =
    let whole = went.0 ++ gathered in
    piece_cut old piece whole was end (advances_fails old new piece whole went.1) (part_behind went.0 gathered was now end went.2 part)
taken_cut (Err e) old new piece gathered was now end went failed part = piece_cut old piece (failed.0 ++ gathered) was end failed.1 (part_behind failed.0 gathered was now end failed.2 part)

whole_part : (old : HeldRun) (counts : Counts) (out : List ℕ) → HeldEndSucceeds old counts out → EndIsCut old out
whole_part old counts out s = record {
  so = λ o bound m seen before c. let p = s.so o bound m seen before c in (p.0.0, p.0.1, begun_whole o bound p.0.0 counts (before ++ out) p.0.2);
}

-- a writer failed, however the end was carried out
pub ended_cut : {E : Type 0} (r : Result Counts E) (old : HeldRun) (whole : List ℕ) (was now : Option (List ℕ)) → IfOk r (λ counts. HeldEndSucceeds old counts whole) → OnErr r (EndIsCut old whole)
    → AppendsPart was now whole → Writes (EndIsCut old) was now
ended_cut (Ok counts) old whole was now ended failed part = end_cut old whole was now (whole_part old counts whole ended) part
ended_cut (Err e) old whole was now ended failed part = end_cut old whole was now failed part
