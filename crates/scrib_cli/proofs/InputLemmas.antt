-- What a run has read and written once it consumed all that was read, at its end, and where it fails.
use Rattle.std.proofs.Common.{◌≡◌, ℕ, List, [], ◌++◌, ◌∙◌, Option, Some, None, take, rules, sym, ap, subst}
use Rattle.std.specs.Prelude.{IfSome}
use Rattle.std.specs.Io.KnownBytes.{Appends, Consumes, IsAtEnd, Keeps}
use Rattle.std.proofs.lemmas.List.{append_assoc, append-nil}
use Rattle.scrib_core.specs.Answers.{State}
use Rattle.scrib_core.specs.declared.format.Format.{Format}
use Rattle.scrib_script_reader.specs.declared.limits.Limits.{Limits}
use Rattle.scrib_script_reader.specs.Limits.{IsWithinLimits}
use Rattle.scrib_cli.specs.declared.run.ScriptRun.{ScriptRun}
use Rattle.scrib_cli.specs.declared.output_mode.OutputMode.{OutputMode}
use Rattle.scrib_cli.specs.declared.output_mode.OutputMode.TheVariants.{Printed}
use Rattle.scrib_script_io.specs.Writes.{AppendsPart}
use Rattle.scrib_cli.specs.Scripts.{IsOutput}
use Rattle.scrib_cli.specs.Progress.{IsWholeOutput, RunFailsOn, RunSucceeds, RunFails, HasProgressed, IsNew, RunAdvances, PieceFails, EndSucceeds, EndFails, items_shown}
use Rattle.scrib_script_io.proofs.WriterLemmas.{appends_kept, consumes_none, consumes_more, consumes_kept}
use Rattle.scrib_cli.proofs.RunLemmas.{failed_after}

-- A run in this mode consumed all that was read.
pub record HasReadAll (m : Limits) (t : OutputMode) (run : ScriptRun) (r0 r w0 w : Option (List ℕ)) : Type 0 where
  pub seen : List ℕ
  pub read : Consumes r0 r seen
  pub progress : HasProgressed m t run seen w0 w

-- a new run has the given mode
pub mode_kept : (m : Limits) (t : OutputMode) (run : ScriptRun) → IsNew m t run → run.output_mode ≡ t
mode_kept m t run new = (new.progress None).output_mode

-- a new run has the given limits
pub limits_kept : (m : Limits) (t : OutputMode) (run : ScriptRun) → IsNew m t run → run.script.limits ≡ m
limits_kept m t run new = (new.progress None).read.read.limits

pub new_itself : (m : Limits) (t : OutputMode) (run : ScriptRun) → IsNew m t run → IsNew run.script.limits run.output_mode run
new_itself m t run new =
    subst (λ (u : Limits). IsNew u run.output_mode run) (sym (limits_kept m t run new)) (subst (λ (u : OutputMode). IsNew m u run) (sym (mode_kept m t run new)) new)

pub reaches_none : (m : Limits) (t : OutputMode) (run : ScriptRun) (r w : Option (List ℕ)) → IsNew m t run → HasReadAll m t run r r w w
reaches_none m t run r w new = record { seen = []; read = consumes_none r; progress = new.progress w }

-- a read that returned no byte
pub reaches_kept : (m : Limits) (t : OutputMode) (run : ScriptRun) (r0 r r' w0 w : Option (List ℕ)) → HasReadAll m t run r0 r w0 w → Keeps r r' → HasReadAll m t run r0 r' w0 w
reaches_kept m t run r0 r r' w0 w h keeps = record { seen = h.seen; read = consumes_kept r0 r r' h.seen h.read keeps; progress = h.progress }

-- the writer was flushed
pub reaches_flushed : (m : Limits) (t : OutputMode) (run : ScriptRun) (r0 r w0 w w' : Option (List ℕ)) → HasReadAll m t run r0 r w0 w → Keeps w w' → HasReadAll m t run r0 r w0 w'
reaches_flushed m t run r0 r w0 w w' h keeps = record {
  seen = h.seen;
  read = h.read;
  progress = record {
    output_mode = h.progress.output_mode;
    items = h.progress.items;
    replies = h.progress.replies;
    read = h.progress.read;
    answered = h.progress.answered;
    goes_on = h.progress.goes_on;
    appends = appends_kept w0 w w' (items_shown t h.progress.items h.progress.replies) h.progress.appends keeps;
  };
}

pub reaches_end : (m : Limits) (t : OutputMode) (run : ScriptRun) (r0 r r' w0 w : Option (List ℕ)) (n : ℕ) (piece : List ℕ) → HasReadAll m t run r0 r w0 w → Consumes r r' (take n piece) → n ≡ 0 → HasReadAll m t run r0 r' w0 w
reaches_end m t run r0 r r' w0 w n piece h read none =
    let nothing_read : Consumes r r' [] = subst (λ (i : ℕ). Consumes r r' (take i piece)) none read in
    record {
      seen = h.seen;
      read = subst (λ (u : List ℕ). Consumes r0 r' u) (append-nil h.seen) (consumes_more r0 r r' h.seen [] h.read nothing_read);
      progress = h.progress;
    }

pub reaches_went : (m : Limits) (t : OutputMode) (run new : ScriptRun) (r0 r r' w0 w w' : Option (List ℕ)) (piece : List ℕ) → HasReadAll m t run r0 r w0 w → Consumes r r' piece → RunAdvances run new piece w w' → HasReadAll m t new r0 r' w0 w'
reaches_went m t run new r0 r r' w0 w w' piece h read went = record {
  seen = h.seen ++ piece;
  read = consumes_more r0 r r' h.seen piece h.read read;
  progress = went.goes m t h.seen w0 h.progress;
}

-- a piece that was read was consumed
at_end_is : (input seen left : List ℕ) → input ≡ seen ++ left → left ≡ [] → seen ≡ input
at_end_is input seen left read none = sym (read ∙ ap (λ (u : List ℕ). seen ++ u) none ∙ append-nil seen)

-- the whole script was read and carried out
pub reached_end : (m : Limits) (t : OutputMode) (run : ScriptRun) (v : State) (r0 r w0 w w' : Option (List ℕ)) → HasReadAll m t run r0 r w0 w → IsAtEnd r → EndSucceeds run v w w' → RunSucceeds m t r0 v w0 w'
reached_end m t run v None r w0 w w' h at_end ended = search rules
reached_end m t run v (Some input) None w0 w w' h at_end ended = absurd h.read
reached_end m t run v (Some input) (Some left) w0 w w' h at_end ended =
    let p = ended.so m t h.seen w0 h.progress in
    let all : h.seen ≡ input = at_end_is input h.seen left h.read at_end in
    (p.0, subst (λ (u : List ℕ). IsWholeOutput t u v p.0) all p.1, p.2, subst (λ (u : List ℕ). IsWithinLimits m u) all p.3)

-- a script that was run is within the limits
pub ran_within : (m : Limits) (t : OutputMode) (r : Option (List ℕ)) (v : State) (was now : Option (List ℕ)) → RunSucceeds m t r v was now → IfSome r (λ input. IsWithinLimits m input)
ran_within m t None v was now h = search rules
ran_within m t (Some input) v was now h = h.3

-- the run failed at its end
pub end_failed : (m : Limits) (t : OutputMode) (run : ScriptRun) (r0 r w0 w w' : Option (List ℕ)) → HasReadAll m t run r0 r w0 w → IsAtEnd r → EndFails run w w' → RunFails t r0 w0 w'
end_failed m t run None r w0 w w' h at_end failed = search rules
end_failed m t run (Some input) None w0 w w' h at_end failed = absurd h.read
end_failed m t run (Some input) (Some left) w0 w w' h at_end failed =
    subst (λ (u : List ℕ). RunFailsOn t u w0 w') (at_end_is input h.seen left h.read at_end) (failed.so m t h.seen w0 h.progress)

-- a read failed
pub read_failed : (m : Limits) (t : OutputMode) (run : ScriptRun) (r0 r w0 w : Option (List ℕ)) → HasReadAll m t run r0 r w0 w → RunFails t r0 w0 w
read_failed m t run None r w0 w h = search rules
read_failed m t run (Some input) None w0 w h = absurd h.read
read_failed m t run (Some input) (Some left) w0 w h = subst (λ (u : List ℕ). RunFailsOn t u w0 w) (sym h.read) (failed_after m t run h.seen w0 w h.progress left)

stopped_reading : (m : Limits) (t : OutputMode) (run : ScriptRun) (r0 r w0 w w' : Option (List ℕ)) (seen piece : List ℕ) → HasProgressed m t run seen w0 w → Consumes r0 r (seen ++ piece) → PieceFails run piece w w' → RunFails t r0 w0 w'
stopped_reading m t run None r w0 w w' seen piece c read stopped = search rules
stopped_reading m t run (Some input) None w0 w w' seen piece c read stopped = absurd read
stopped_reading m t run (Some input) (Some left) w0 w w' seen piece c read stopped =
    subst (λ (u : List ℕ). RunFailsOn t u w0 w') (sym (read ∙ append_assoc seen piece left)) (stopped.so m t seen w0 c left)

-- consuming a piece failed
pub piece_failed : (m : Limits) (t : OutputMode) (run : ScriptRun) (r0 r r' w0 w w' : Option (List ℕ)) (piece : List ℕ) → HasReadAll m t run r0 r w0 w → Consumes r r' piece → PieceFails run piece w w' → RunFails t r0 w0 w'
piece_failed m t run r0 r r' w0 w w' piece h read stopped = stopped_reading m t run r0 r' w0 w w' h.seen piece h.progress (consumes_more r0 r r' h.seen piece h.read read) stopped

-- all of an output in this format was written
abbrev pub Writes : Format → Option (List ℕ) → Option (List ℕ) → Option (List ℕ) → Type 0
Writes o r old new = IfSome r (λ input. (output : List ℕ) × IsOutput o input output × Appends old new output)

-- a prefix of an output in this format was written
abbrev pub WritesPart : Format → Option (List ℕ) → Option (List ℕ) → Option (List ℕ) → Type 0
WritesPart o r old new = IfSome r (λ input. (output : List ℕ) × IsOutput o input output × AppendsPart old new output)

whole_output : (o : Format) (input : List ℕ) (v : State) (output : List ℕ) → IsWholeOutput (Printed o) input v output → IsOutput o input output
whole_output o input v output h = (h.items, h.replies, v, h.spelled, h.answered, h.is)

-- a flush keeps what was written
pub flushed : (m : Limits) (o : Format) (r : Option (List ℕ)) (v : State) (was mid now : Option (List ℕ)) → RunSucceeds m (Printed o) r v was mid → Keeps mid now → Writes o r was now
flushed m o None v was mid now h keeps = search rules
flushed m o (Some input) v was mid now h keeps = (h.0, whole_output o input v h.0 h.1, appends_kept was mid now h.0 h.2 keeps)

-- a flush that fails after all was written
pub flush_failed : (m : Limits) (o : Format) (r : Option (List ℕ)) (v : State) (was mid now : Option (List ℕ)) → RunSucceeds m (Printed o) r v was mid → Keeps mid now → WritesPart o r was now
flush_failed m o None v was mid now h keeps = search rules
flush_failed m o (Some input) v was mid now h keeps = (h.0, whole_output o input v h.0 h.1, (h.0, [], sym (append-nil h.0), appends_kept was mid now h.0 h.2 keeps))

-- a run of the script failed
pub run_failed : (o : Format) (r : Option (List ℕ)) (was now : Option (List ℕ)) → RunFails (Printed o) r was now → WritesPart o r was now
run_failed o None was now h = search rules
run_failed o (Some input) was now h =
    let s = h.1 in
    (s.output, whole_output o input s.after s.output s.whole, (h.0, s.rest, s.is, h.2))
