-- What a run with held events has read and written, at its end, and where it fails.
use Rattle.std.proofs.Common.{◌≡◌, ℕ, List, [], ◌++◌, ◌∙◌, Option, Some, None, take, rules, sym, ap, subst}
use Rattle.std.specs.Prelude.{IfSome}
use Rattle.std.specs.Io.KnownBytes.{Appends, Consumes, IsAtEnd, Keeps}
use Rattle.std.proofs.lemmas.List.{append_assoc, append-nil}
use Rattle.scrib_core.specs.declared.format.Format.{Format}
use Rattle.scrib_script_reader.specs.declared.limits.Limits.{Limits}
use Rattle.scrib_script_reader.specs.Limits.{IsWithinLimits}
use Rattle.scrib_script_reader.specs.Scripts.{lines}
use Rattle.scrib_script_reader.proofs.PositionLemmas.{give_entries}
use Rattle.scrib_hold_stage.specs.declared.stage.Counts.{Counts}
use Rattle.scrib_script_io.proofs.WriterLemmas.{appends_kept, appends_more, appends_none, consumes_none, consumes_more}
use Rattle.scrib_hold.specs.declared.held_run.HeldRun.{HeldRun}
use Rattle.scrib_hold.specs.HeldScripts.{IsHeldOutput, IsHeldPart}
use Rattle.scrib_hold.specs.Progress.{HasHeldProgressed, IsNewHeld, HeldRunAdvances, HeldPieceFails, HeldEndSucceeds, EndIsCut, Writes, HeldRunSucceeds, HeldRunFails}
use Rattle.scrib_hold.proofs.RepliesLemmas.{begun_whole, begun_none}
use Rattle.scrib_hold.proofs.HeldRunLemmas.{part_so_far}

-- a new run has the given format, bound and limits
pub format_kept : (o : Format) (bound : ℕ) (m : Limits) (run : HeldRun) → IsNewHeld o bound m run → run.monitor.sink.format ≡ o
format_kept o bound m run new = new.progress.taken.format

pub bound_kept : (o : Format) (bound : ℕ) (m : Limits) (run : HeldRun) → IsNewHeld o bound m run → run.monitor.stage.bound ≡ bound
bound_kept o bound m run new = new.progress.taken.taken.at.so_far.staged.kept.bounded

pub limits_kept : (o : Format) (bound : ℕ) (m : Limits) (run : HeldRun) → IsNewHeld o bound m run → run.script.limits ≡ m
limits_kept o bound m run new = new.progress.read.limits

pub new_itself : (o : Format) (bound : ℕ) (m : Limits) (run : HeldRun) → IsNewHeld o bound m run → IsNewHeld run.monitor.sink.format run.monitor.stage.bound run.script.limits run
new_itself o bound m run new =
    subst (λ (k : Limits). IsNewHeld run.monitor.sink.format run.monitor.stage.bound k run) (sym (limits_kept o bound m run new))
    (subst (λ (b : ℕ). IsNewHeld run.monitor.sink.format b m run) (sym (bound_kept o bound m run new))
    (subst (λ (f : Format). IsNewHeld f bound m run) (sym (format_kept o bound m run new)) new))

-- A run consumed all that was read, and wrote its output.
pub record HasReadAll (o : Format) (bound : ℕ) (m : Limits) (run : HeldRun) (r0 r w0 w : Option (List ℕ)) : Type 0 where
  pub seen : List ℕ
  pub out : List ℕ
  pub read : Consumes r0 r seen
  pub progress : HasHeldProgressed o bound m run seen out
  pub wrote : Appends w0 w out

pub reaches_none : (o : Format) (bound : ℕ) (m : Limits) (run : HeldRun) (r w : Option (List ℕ)) → IsNewHeld o bound m run → HasReadAll o bound m run r r w w
reaches_none o bound m run r w new = record { seen = []; out = []; read = consumes_none r; progress = new.progress; wrote = appends_none w }

-- the writer was flushed
pub reaches_flushed : (o : Format) (bound : ℕ) (m : Limits) (run : HeldRun) (r0 r w0 w w' : Option (List ℕ)) → HasReadAll o bound m run r0 r w0 w → Keeps w w' → HasReadAll o bound m run r0 r w0 w'
reaches_flushed o bound m run r0 r w0 w w' h keeps = record { seen = h.seen; out = h.out; read = h.read; progress = h.progress; wrote = appends_kept w0 w w' h.out h.wrote keeps }

pub reaches_end : (o : Format) (bound : ℕ) (m : Limits) (run : HeldRun) (r0 r r' w0 w : Option (List ℕ)) (n : ℕ) (piece : List ℕ) → HasReadAll o bound m run r0 r w0 w → Consumes r r' (take n piece) → n ≡ 0 → HasReadAll o bound m run r0 r' w0 w
reaches_end o bound m run r0 r r' w0 w n piece h read none =
    let nothing_read : Consumes r r' [] = subst (λ (i : ℕ). Consumes r r' (take i piece)) none read in
    record {
      seen = h.seen;
      out = h.out;
      read = subst (λ (u : List ℕ). Consumes r0 r' u) (append-nil h.seen) (consumes_more r0 r r' h.seen [] h.read nothing_read);
      progress = h.progress;
      wrote = h.wrote;
    }

pub reaches_went : (o : Format) (bound : ℕ) (m : Limits) (run new : HeldRun) (r0 r r' w0 w w' : Option (List ℕ)) (piece : List ℕ) → HasReadAll o bound m run r0 r w0 w → Consumes r r' piece → Writes (HeldRunAdvances run new piece) w w' → HasReadAll o bound m new r0 r' w0 w'
reaches_went o bound m run new r0 r r' w0 w w' piece h read went = record {
  seen = h.seen ++ piece;
  out = h.out ++ went.0;
  read = consumes_more r0 r r' h.seen piece h.read read;
  progress = went.1.goes o bound m h.seen h.out h.progress;
  wrote = appends_more w0 w w' h.out went.0 h.wrote went.2;
}

at_end_is : (input seen left : List ℕ) → input ≡ seen ++ left → left ≡ [] → seen ≡ input
at_end_is input seen left read none = sym (read ∙ ap (λ (u : List ℕ). seen ++ u) none ∙ append-nil seen)

-- the whole script was read and carried out
pub reached_end : (o : Format) (bound : ℕ) (m : Limits) (run : HeldRun) (counts : Counts) (r0 r w0 w w' : Option (List ℕ)) → HasReadAll o bound m run r0 r w0 w → IsAtEnd r → Writes (HeldEndSucceeds run counts) w w' → HeldRunSucceeds o bound m r0 counts w0 w'
reached_end o bound m run counts None r w0 w w' h at_end ended = search rules
reached_end o bound m run counts (Some input) None w0 w w' h at_end ended = absurd h.read
reached_end o bound m run counts (Some input) (Some left) w0 w w' h at_end ended =
    let p = ended.1.so o bound m h.seen h.out h.progress in
    let all : h.seen ≡ input = at_end_is input h.seen left h.read at_end in (
      (h.out ++ ended.0, subst (λ (u : List ℕ). IsHeldOutput o bound u counts (h.out ++ ended.0)) all p.0, appends_more w0 w w' h.out ended.0 h.wrote ended.2),
      subst (λ (u : List ℕ). IsWithinLimits m u) all p.1,
    )

-- the run failed at its end
pub end_failed : (o : Format) (bound : ℕ) (m : Limits) (run : HeldRun) (r0 r w0 w w' : Option (List ℕ)) → HasReadAll o bound m run r0 r w0 w → IsAtEnd r → Writes (EndIsCut run) w w' → HeldRunFails o bound r0 w0 w'
end_failed o bound m run None r w0 w w' h at_end failed = search rules
end_failed o bound m run (Some input) None w0 w w' h at_end failed = absurd h.read
end_failed o bound m run (Some input) (Some left) w0 w w' h at_end failed = (
  h.out ++ failed.0,
  subst (λ (u : List ℕ). IsHeldPart o bound u (h.out ++ failed.0)) (at_end_is input h.seen left h.read at_end) (failed.1.so o bound m h.seen h.out h.progress),
  appends_more w0 w w' h.out failed.0 h.wrote failed.2,
)

-- a read failed
pub read_failed : (o : Format) (bound : ℕ) (m : Limits) (run : HeldRun) (r0 r w0 w : Option (List ℕ)) → HasReadAll o bound m run r0 r w0 w → HeldRunFails o bound r0 w0 w
read_failed o bound m run None r w0 w h = search rules
read_failed o bound m run (Some input) None w0 w h = absurd h.read
read_failed o bound m run (Some input) (Some left) w0 w h = (h.out, subst (λ (u : List ℕ). IsHeldPart o bound u h.out) (sym h.read) (part_so_far o bound m run h.seen h.out h.progress left), h.wrote)

failed_at : (o : Format) (bound : ℕ) (m : Limits) (run : HeldRun) (r0 r w0 w w' : Option (List ℕ)) (seen piece out : List ℕ) → HasHeldProgressed o bound m run seen out → Consumes r0 r (seen ++ piece) → Appends w0 w out → Writes (HeldPieceFails run piece) w w' → HeldRunFails o bound r0 w0 w'
failed_at o bound m run None r w0 w w' seen piece out c read wrote stopped = search rules
failed_at o bound m run (Some input) None w0 w w' seen piece out c read wrote stopped = absurd read
failed_at o bound m run (Some input) (Some left) w0 w w' seen piece out c read wrote stopped = (
  out ++ stopped.0,
  subst (λ (u : List ℕ). IsHeldPart o bound u (out ++ stopped.0)) (sym (read ∙ append_assoc seen piece left)) (stopped.1.so o bound m seen out c left),
  appends_more w0 w w' out stopped.0 wrote stopped.2,
)

-- consuming a piece failed
pub piece_failed : (o : Format) (bound : ℕ) (m : Limits) (run : HeldRun) (r0 r r' w0 w w' : Option (List ℕ)) (piece : List ℕ) → HasReadAll o bound m run r0 r w0 w → Consumes r r' piece → Writes (HeldPieceFails run piece) w w' → HeldRunFails o bound r0 w0 w'
piece_failed o bound m run r0 r r' w0 w w' piece h read stopped = failed_at o bound m run r0 r' w0 w w' h.seen piece h.out h.progress (consumes_more r0 r r' h.seen piece h.read read) h.wrote stopped

-- a script that was run is within the limits
pub ran_within : (o : Format) (bound : ℕ) (m : Limits) (r : Option (List ℕ)) (counts : Counts) (was now : Option (List ℕ)) → HeldRunSucceeds o bound m r counts was now → IfSome r (λ input. IsWithinLimits m input)
ran_within o bound m None counts was now h = search rules
ran_within o bound m (Some input) counts was now h = h.1

-- all of an output was written
abbrev pub WritesOutput : Format → ℕ → Counts → Option (List ℕ) → Option (List ℕ) → Option (List ℕ) → Type 0
WritesOutput o bound counts r old new = IfSome r (λ input. (output : List ℕ) × IsHeldOutput o bound input counts output × Appends old new output)

-- a flush keeps what was written
pub flushed : (o : Format) (bound : ℕ) (m : Limits) (r : Option (List ℕ)) (counts : Counts) (was mid now : Option (List ℕ)) → HeldRunSucceeds o bound m r counts was mid → Keeps mid now → WritesOutput o bound counts r was now
flushed o bound m None counts was mid now h keeps = search rules
flushed o bound m (Some input) counts was mid now h keeps = (h.0.0, h.0.1, appends_kept was mid now h.0.0 h.0.2 keeps)

-- a flush that fails after all was written
pub flush_failed : (o : Format) (bound : ℕ) (m : Limits) (r : Option (List ℕ)) (counts : Counts) (was mid now : Option (List ℕ)) → HeldRunSucceeds o bound m r counts was mid → Keeps mid now → HeldRunFails o bound r was now
flush_failed o bound m None counts was mid now h keeps = search rules
flush_failed o bound m (Some input) counts was mid now h keeps = (h.0.0, (h.0.1.0, h.0.1.1, begun_whole o bound h.0.1.0 counts h.0.0 h.0.1.2), appends_kept was mid now h.0.0 h.0.2 keeps)

-- nothing was read or written
pub never_started : (o : Format) (bound : ℕ) (r0 w0 : Option (List ℕ)) → HeldRunFails o bound r0 w0 w0
never_started o bound None w0 = search rules
never_started o bound (Some input) w0 = let p = give_entries (lines input) 1 None in ([], (p.0, p.1, begun_none o bound p.0), appends_none w0)

-- a run that was new is of this format and bound, and of these limits
pub same_success : (o : Format) (bound : ℕ) (m : Limits) (run : HeldRun) (counts : Counts) (r was now : Option (List ℕ)) → IsNewHeld o bound m run
    → HeldRunSucceeds run.monitor.sink.format run.monitor.stage.bound run.script.limits r counts was now → HeldRunSucceeds o bound m r counts was now
same_success o bound m run counts r was now new h =
    subst (λ (k : Limits). HeldRunSucceeds o bound k r counts was now) (limits_kept o bound m run new)
    (subst (λ (b : ℕ). HeldRunSucceeds o b run.script.limits r counts was now) (bound_kept o bound m run new)
    (subst (λ (f : Format). HeldRunSucceeds f run.monitor.stage.bound run.script.limits r counts was now) (format_kept o bound m run new) h))

pub same_failure : (o : Format) (bound : ℕ) (m : Limits) (run : HeldRun) (r was now : Option (List ℕ)) → IsNewHeld o bound m run → HeldRunFails run.monitor.sink.format run.monitor.stage.bound r was now → HeldRunFails o bound r was now
same_failure o bound m run r was now new h =
    subst (λ (b : ℕ). HeldRunFails o b r was now) (bound_kept o bound m run new)
    (subst (λ (f : Format). HeldRunFails f run.monitor.stage.bound r was now) (format_kept o bound m run new) h)
