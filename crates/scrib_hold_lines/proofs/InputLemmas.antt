-- What a run has read and written, at its end, and where it fails.
use Rattle.std.proofs.Common.{◌≡◌, ◌∙◌, ℕ, List, [], ◌++◌, Option, Some, None, take, rules, sym, ap, subst}
use Rattle.std.specs.Prelude.{IfSome}
use Rattle.std.specs.Io.KnownBytes.{Appends, Consumes, IsAtEnd, Keeps}
use Rattle.std.proofs.lemmas.List.{append_assoc, append-nil}
use Rattle.scrib_script_reader.specs.declared.limits.Limits.{Limits}
use Rattle.scrib_script_reader.specs.Limits.{IsWithinLimits}
use Rattle.scrib_script_reader.specs.Scripts.{lines}
use Rattle.scrib_script_reader.proofs.PositionLemmas.{give_entries}
use Rattle.scrib_hold_stage.specs.declared.stage.Counts.{Counts}
use Rattle.scrib_script_io.proofs.WriterLemmas.{appends_kept, appends_more, appends_none, consumes_none, consumes_more}
use Rattle.scrib_hold_lines.specs.declared.line_run.LineRun.{LineRun}
use Rattle.scrib_hold_lines.specs.HeldLines.{IsHeldScript, IsHeldScriptPart}
use Rattle.scrib_hold_lines.specs.Placement.{IsReaderPlaced}
use Rattle.scrib_hold_lines.specs.Progress.{HasLinesProgressed, IsNewLineRun, LinesAdvance, LinesPieceFails, LinesEndSucceeds, LinesEndIsCut, WritesOut, LinesRunSucceeds, LinesRunFails}
use Rattle.scrib_hold_lines.proofs.StageLemmas.{begun_whole, begun_none}
use Rattle.scrib_hold_lines.proofs.RunLemmas.{part_so_far}

-- a new run has the given limits and bound
limits_kept : (m : Limits) (bound : ℕ) (run : LineRun) → IsNewLineRun m bound run → run.reader.script.limits ≡ m
limits_kept m bound run new = new.progress.read.limits

bound_kept : (m : Limits) (bound : ℕ) (run : LineRun) → IsNewLineRun m bound run → run.lines.stage.bound ≡ bound
bound_kept m bound run new = new.progress.taken.at.so_far.staged.kept.bounded

pub new_itself : (m : Limits) (bound : ℕ) (run : LineRun) → IsNewLineRun m bound run → IsNewLineRun run.reader.script.limits run.lines.stage.bound run
new_itself m bound run new =
    subst (λ (b : ℕ). IsNewLineRun run.reader.script.limits b run) (sym (bound_kept m bound run new))
    (subst (λ (f : Limits). IsNewLineRun f bound run) (sym (limits_kept m bound run new)) new)

-- A run consumed all that was read, and wrote its output.
pub record HasReadAll (m : Limits) (bound : ℕ) (run : LineRun) (r0 r w0 w : Option (List ℕ)) : Type 0 where
  pub seen : List ℕ
  pub out : List ℕ
  pub read : Consumes r0 r seen
  pub progress : HasLinesProgressed m bound run seen out
  pub wrote : Appends w0 w out
  pub placed : IsReaderPlaced run.reader

pub reaches_none : (m : Limits) (bound : ℕ) (run : LineRun) (r w : Option (List ℕ)) → IsNewLineRun m bound run → HasReadAll m bound run r r w w
reaches_none m bound run r w new = record { seen = []; out = []; read = consumes_none r; progress = new.progress; wrote = appends_none w; placed = new.placed }

-- the writer was flushed
pub reaches_flushed : (m : Limits) (bound : ℕ) (run : LineRun) (r0 r w0 w w' : Option (List ℕ)) → HasReadAll m bound run r0 r w0 w → Keeps w w' → HasReadAll m bound run r0 r w0 w'
reaches_flushed m bound run r0 r w0 w w' h keeps = record { seen = h.seen; out = h.out; read = h.read; progress = h.progress; wrote = appends_kept w0 w w' h.out h.wrote keeps; placed = h.placed }

pub reaches_end : (m : Limits) (bound : ℕ) (run : LineRun) (r0 r r' w0 w : Option (List ℕ)) (n : ℕ) (piece : List ℕ) → HasReadAll m bound run r0 r w0 w → Consumes r r' (take n piece) → n ≡ 0 → HasReadAll m bound run r0 r' w0 w
reaches_end m bound run r0 r r' w0 w n piece h read none =
    let nothing_read : Consumes r r' [] = subst (λ (i : ℕ). Consumes r r' (take i piece)) none read in
    record {
      seen = h.seen;
      out = h.out;
      read = subst (λ (u : List ℕ). Consumes r0 r' u) (append-nil h.seen) (consumes_more r0 r r' h.seen [] h.read nothing_read);
      progress = h.progress;
      wrote = h.wrote;
      placed = h.placed;
    }

pub reaches_went : (m : Limits) (bound : ℕ) (run new : LineRun) (r0 r r' w0 w w' : Option (List ℕ)) (piece : List ℕ) → HasReadAll m bound run r0 r w0 w → Consumes r r' piece → WritesOut (LinesAdvance run new piece) w w' → IsReaderPlaced new.reader
    → HasReadAll m bound new r0 r' w0 w'
reaches_went m bound run new r0 r r' w0 w w' piece h read went placed = record {
  seen = h.seen ++ piece;
  out = h.out ++ went.0;
  read = consumes_more r0 r r' h.seen piece h.read read;
  progress = went.1.goes m bound h.seen h.out h.progress;
  wrote = appends_more w0 w w' h.out went.0 h.wrote went.2;
  placed = placed;
}

at_end_is : (input seen left : List ℕ) → input ≡ seen ++ left → left ≡ [] → seen ≡ input
at_end_is input seen left read none = sym (read ∙ ap (λ (u : List ℕ). seen ++ u) none ∙ append-nil seen)

-- the whole script was read and carried out
pub reached_end : (m : Limits) (bound : ℕ) (run : LineRun) (counts : Counts) (r0 r w0 w w' : Option (List ℕ)) → HasReadAll m bound run r0 r w0 w → IsAtEnd r → WritesOut (LinesEndSucceeds run counts) w w' → LinesRunSucceeds m bound r0 counts w0 w'
reached_end m bound run counts None r w0 w w' h at_end ended = search rules
reached_end m bound run counts (Some input) None w0 w w' h at_end ended = absurd h.read
reached_end m bound run counts (Some input) (Some left) w0 w w' h at_end ended =
    let p = ended.1.so m bound h.seen h.out h.progress in
    let all : h.seen ≡ input = at_end_is input h.seen left h.read at_end in (
      (h.out ++ ended.0, subst (λ (u : List ℕ). IsHeldScript bound u counts (h.out ++ ended.0)) all p.0, appends_more w0 w w' h.out ended.0 h.wrote ended.2),
      subst (λ (u : List ℕ). IsWithinLimits m u) all p.1,
    )

-- the run failed at its end
pub end_failed : (m : Limits) (bound : ℕ) (run : LineRun) (r0 r w0 w w' : Option (List ℕ)) → HasReadAll m bound run r0 r w0 w → IsAtEnd r → WritesOut (LinesEndIsCut run) w w' → LinesRunFails bound r0 w0 w'
end_failed m bound run None r w0 w w' h at_end failed = search rules
end_failed m bound run (Some input) None w0 w w' h at_end failed = absurd h.read
end_failed m bound run (Some input) (Some left) w0 w w' h at_end failed = (
  h.out ++ failed.0,
  subst (λ (u : List ℕ). IsHeldScriptPart bound u (h.out ++ failed.0)) (at_end_is input h.seen left h.read at_end) (failed.1.so m bound h.seen h.out h.progress),
  appends_more w0 w w' h.out failed.0 h.wrote failed.2,
)

-- a read failed
pub read_failed : (m : Limits) (bound : ℕ) (run : LineRun) (r0 r w0 w : Option (List ℕ)) → HasReadAll m bound run r0 r w0 w → LinesRunFails bound r0 w0 w
read_failed m bound run None r w0 w h = search rules
read_failed m bound run (Some input) None w0 w h = absurd h.read
read_failed m bound run (Some input) (Some left) w0 w h = (h.out, subst (λ (u : List ℕ). IsHeldScriptPart bound u h.out) (sym h.read) (part_so_far m bound run h.seen h.out h.progress left), h.wrote)

failed_at : (m : Limits) (bound : ℕ) (run : LineRun) (r0 r w0 w w' : Option (List ℕ)) (seen piece out : List ℕ) → HasLinesProgressed m bound run seen out → Consumes r0 r (seen ++ piece) → Appends w0 w out → WritesOut (LinesPieceFails run piece) w w' → LinesRunFails bound r0 w0 w'
failed_at m bound run None r w0 w w' seen piece out c read wrote stopped = search rules
failed_at m bound run (Some input) None w0 w w' seen piece out c read wrote stopped = absurd read
failed_at m bound run (Some input) (Some left) w0 w w' seen piece out c read wrote stopped = (
  out ++ stopped.0,
  subst (λ (u : List ℕ). IsHeldScriptPart bound u (out ++ stopped.0)) (sym (read ∙ append_assoc seen piece left)) (stopped.1.so m bound seen out c left),
  appends_more w0 w w' out stopped.0 wrote stopped.2,
)

-- consuming a piece failed
pub piece_failed : (m : Limits) (bound : ℕ) (run : LineRun) (r0 r r' w0 w w' : Option (List ℕ)) (piece : List ℕ) → HasReadAll m bound run r0 r w0 w → Consumes r r' piece → WritesOut (LinesPieceFails run piece) w w' → LinesRunFails bound r0 w0 w'
piece_failed m bound run r0 r r' w0 w w' piece h read stopped = failed_at m bound run r0 r' w0 w w' h.seen piece h.out h.progress (consumes_more r0 r r' h.seen piece h.read read) h.wrote stopped

-- a script that was run is within the limits
pub ran_within : (m : Limits) (bound : ℕ) (r : Option (List ℕ)) (counts : Counts) (was now : Option (List ℕ)) → LinesRunSucceeds m bound r counts was now → IfSome r (λ input. IsWithinLimits m input)
ran_within m bound None counts was now h = search rules
ran_within m bound (Some input) counts was now h = h.1

-- all of an output was written
abbrev pub WritesOutput : ℕ → Counts → Option (List ℕ) → Option (List ℕ) → Option (List ℕ) → Type 0
WritesOutput bound counts r old new = IfSome r (λ input. (output : List ℕ) × IsHeldScript bound input counts output × Appends old new output)

-- a flush keeps what was written
pub flushed : (m : Limits) (bound : ℕ) (r : Option (List ℕ)) (counts : Counts) (was mid now : Option (List ℕ)) → LinesRunSucceeds m bound r counts was mid → Keeps mid now → WritesOutput bound counts r was now
flushed m bound None counts was mid now h keeps = search rules
flushed m bound (Some input) counts was mid now h keeps = (h.0.0, h.0.1, appends_kept was mid now h.0.0 h.0.2 keeps)

-- a flush that fails after all was written
pub flush_failed : (m : Limits) (bound : ℕ) (r : Option (List ℕ)) (counts : Counts) (was mid now : Option (List ℕ)) → LinesRunSucceeds m bound r counts was mid → Keeps mid now → LinesRunFails bound r was now
flush_failed m bound None counts was mid now h keeps = search rules
flush_failed m bound (Some input) counts was mid now h keeps = (h.0.0, (h.0.1.0, h.0.1.1, begun_whole bound h.0.1.0 counts h.0.0 h.0.1.2), appends_kept was mid now h.0.0 h.0.2 keeps)

-- nothing was read or written
pub never_started : (bound : ℕ) (r0 w0 : Option (List ℕ)) → LinesRunFails bound r0 w0 w0
never_started bound None w0 = search rules
never_started bound (Some input) w0 = let p = give_entries (lines input) 1 None in ([], (p.0, p.1, begun_none bound p.0), appends_none w0)

-- a run that was new is of these limits and this bound
pub same_success : (m : Limits) (bound : ℕ) (run : LineRun) (counts : Counts) (r was now : Option (List ℕ)) → IsNewLineRun m bound run → LinesRunSucceeds run.reader.script.limits run.lines.stage.bound r counts was now → LinesRunSucceeds m bound r counts was now
same_success m bound run counts r was now new h =
    subst (λ (b : ℕ). LinesRunSucceeds m b r counts was now) (bound_kept m bound run new)
    (subst (λ (f : Limits). LinesRunSucceeds f run.lines.stage.bound r counts was now) (limits_kept m bound run new) h)

pub same_failure : (m : Limits) (bound : ℕ) (run : LineRun) (r was now : Option (List ℕ)) → IsNewLineRun m bound run → LinesRunFails run.lines.stage.bound r was now → LinesRunFails bound r was now
same_failure m bound run r was now new h = subst (λ (b : ℕ). LinesRunFails b r was now) (bound_kept m bound run new) h
