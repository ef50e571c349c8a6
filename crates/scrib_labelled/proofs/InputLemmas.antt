-- What a run with labels has read and written, at its end, and where it fails.
use Rattle.std.proofs.Common.{◌≡◌, ℕ, List, [], ◌++◌, ◌∙◌, Option, Some, None, take, rules, sym, ap, subst}
use Rattle.std.specs.Io.KnownBytes.{Appends, Consumes, IsAtEnd, Keeps}
use Rattle.std.proofs.lemmas.List.{append_assoc, append-nil}
use Rattle.scrib_script_reader.specs.Limits.{IsWithinLimits}
use Rattle.scrib_script_io.proofs.WriterLemmas.{appends_kept, appends_more, appends_none, consumes_none, consumes_more}
use Rattle.scrib_labelled.specs.declared.labelled_run.LabelledRun.{LabelledRun}
use Rattle.scrib_labelled.specs.Readings.{Beginning, EndIsCut, EndSucceeds, IsAt, IsPartOf, IsWholeOf, PieceFails, ReadingFails, ReadingSucceeds, RunAdvances, Writes}
use Rattle.scrib_labelled.specs.Stages.{OutputRelation, StageRelation}
use Rattle.scrib_labelled.proofs.PieceLemmas.{IsPartLaw, part_so_far}

-- A run consumed all that was read, and wrote its output.
pub record HasReadAll {S : Type 0} (Took : StageRelation S) (b : Beginning S) (run : LabelledRun S) (r0 r w0 w : Option (List ℕ)) : Type 0 where
  pub seen : List ℕ
  pub out : List ℕ
  pub read : Consumes r0 r seen
  pub progress : IsAt Took b run seen out
  pub wrote : Appends w0 w out

pub reaches_none : {S : Type 0} (Took : StageRelation S) (b : Beginning S) (run : LabelledRun S) (r w : Option (List ℕ)) → IsAt Took b run [] [] → HasReadAll Took b run r r w w
reaches_none Took b run r w new = record { seen = []; out = []; read = consumes_none r; progress = new; wrote = appends_none w }

-- the writer was flushed
pub reaches_flushed : {S : Type 0} (Took : StageRelation S) (b : Beginning S) (run : LabelledRun S) (r0 r w0 w w' : Option (List ℕ)) → HasReadAll Took b run r0 r w0 w → Keeps w w' → HasReadAll Took b run r0 r w0 w'
reaches_flushed Took b run r0 r w0 w w' h keeps = record { seen = h.seen; out = h.out; read = h.read; progress = h.progress; wrote = appends_kept w0 w w' h.out h.wrote keeps }

pub reaches_end : {S : Type 0} (Took : StageRelation S) (b : Beginning S) (run : LabelledRun S) (r0 r r' w0 w : Option (List ℕ)) (n : ℕ) (piece : List ℕ) → HasReadAll Took b run r0 r w0 w → Consumes r r' (take n piece) → n ≡ 0 → HasReadAll Took b run r0 r' w0 w
reaches_end Took b run r0 r r' w0 w n piece h read none =
    let nothing_read : Consumes r r' [] = subst (λ (i : ℕ). Consumes r r' (take i piece)) none read in
    record {
      seen = h.seen;
      out = h.out;
      read = subst (λ (u : List ℕ). Consumes r0 r' u) (append-nil h.seen) (consumes_more r0 r r' h.seen [] h.read nothing_read);
      progress = h.progress;
      wrote = h.wrote;
    }

pub reaches_went : {S : Type 0} (Took : StageRelation S) (b : Beginning S) (run new : LabelledRun S) (r0 r r' w0 w w' : Option (List ℕ)) (piece : List ℕ) → HasReadAll Took b run r0 r w0 w → Consumes r r' piece → Writes (RunAdvances Took run new piece) w w'
    → HasReadAll Took b new r0 r' w0 w'
reaches_went Took b run new r0 r r' w0 w w' piece h read went = record {
  seen = h.seen ++ piece;
  out = h.out ++ went.0;
  read = consumes_more r0 r r' h.seen piece h.read read;
  progress = went.1.goes b h.seen h.out h.progress;
  wrote = appends_more w0 w w' h.out went.0 h.wrote went.2;
}

at_end_is : (input seen left : List ℕ) → input ≡ seen ++ left → left ≡ [] → seen ≡ input
at_end_is input seen left read none = sym (read ∙ ap (λ (u : List ℕ). seen ++ u) none ∙ append-nil seen)

-- the whole script was read
pub reached_end : {S : Type 0} (Took TookAll : StageRelation S) (b : Beginning S) (run : LabelledRun S) (after : S) (r0 r w0 w w' : Option (List ℕ)) → HasReadAll Took b run r0 r w0 w → IsAtEnd r → Writes (EndSucceeds Took TookAll run after) w w'
    → ReadingSucceeds TookAll b after r0 w0 w'
reached_end Took TookAll b run after None r w0 w w' h at_end ended = search rules
reached_end Took TookAll b run after (Some input) None w0 w w' h at_end ended = absurd h.read
reached_end Took TookAll b run after (Some input) (Some left) w0 w w' h at_end ended =
    let p = ended.1.so b h.seen h.out h.progress in
    let all : h.seen ≡ input = at_end_is input h.seen left h.read at_end in (
      (h.out ++ ended.0, subst (λ (u : List ℕ). IsWholeOf TookAll b after u (h.out ++ ended.0)) all p.0, appends_more w0 w w' h.out ended.0 h.wrote ended.2),
      subst (λ (u : List ℕ). IsWithinLimits b.limits u) all p.1,
    )

-- the run failed at its end
pub end_failed : {S : Type 0} (Took : StageRelation S) (Part : OutputRelation S) (b : Beginning S) (run : LabelledRun S) (r0 r w0 w w' : Option (List ℕ)) → HasReadAll Took b run r0 r w0 w → IsAtEnd r → Writes (EndIsCut Took Part run) w w' → ReadingFails Part b r0 w0 w'
end_failed Took Part b run None r w0 w w' h at_end failed = search rules
end_failed Took Part b run (Some input) None w0 w w' h at_end failed = absurd h.read
end_failed Took Part b run (Some input) (Some left) w0 w w' h at_end failed = (
  h.out ++ failed.0,
  subst (λ (u : List ℕ). IsPartOf Part b u (h.out ++ failed.0)) (at_end_is input h.seen left h.read at_end) (failed.1.so b h.seen h.out h.progress),
  appends_more w0 w w' h.out failed.0 h.wrote failed.2,
)

-- a read failed
pub read_failed : {S : Type 0} (Took : StageRelation S) (Part : OutputRelation S) → IsPartLaw Took Part → (b : Beginning S) (run : LabelledRun S) (r0 r w0 w : Option (List ℕ)) → HasReadAll Took b run r0 r w0 w → ReadingFails Part b r0 w0 w
read_failed Took Part law b run None r w0 w h = search rules
read_failed Took Part law b run (Some input) None w0 w h = absurd h.read
read_failed Took Part law b run (Some input) (Some left) w0 w h = (h.out, subst (λ (u : List ℕ). IsPartOf Part b u h.out) (sym h.read) (part_so_far Took Part law b run h.seen h.out h.progress left), h.wrote)

failed_at : {S : Type 0} (Took : StageRelation S) (Part : OutputRelation S) (b : Beginning S) (run : LabelledRun S) (r0 r w0 w w' : Option (List ℕ)) (seen piece out : List ℕ) → IsAt Took b run seen out → Consumes r0 r (seen ++ piece) → Appends w0 w out
    → Writes (PieceFails Took Part run piece) w w' → ReadingFails Part b r0 w0 w'
failed_at Took Part b run None r w0 w w' seen piece out c read wrote stopped = search rules
failed_at Took Part b run (Some input) None w0 w w' seen piece out c read wrote stopped = absurd read
failed_at Took Part b run (Some input) (Some left) w0 w w' seen piece out c read wrote stopped = (
  out ++ stopped.0,
  subst (λ (u : List ℕ). IsPartOf Part b u (out ++ stopped.0)) (sym (read ∙ append_assoc seen piece left)) (stopped.1.so b seen out c left),
  appends_more w0 w w' out stopped.0 wrote stopped.2,
)

-- consuming a piece failed
pub piece_failed : {S : Type 0} (Took : StageRelation S) (Part : OutputRelation S) (b : Beginning S) (run : LabelledRun S) (r0 r r' w0 w w' : Option (List ℕ)) (piece : List ℕ) → HasReadAll Took b run r0 r w0 w → Consumes r r' piece
    → Writes (PieceFails Took Part run piece) w w' → ReadingFails Part b r0 w0 w'
piece_failed Took Part b run r0 r r' w0 w w' piece h read stopped = failed_at Took Part b run r0 r' w0 w w' h.seen piece h.out h.progress (consumes_more r0 r r' h.seen piece h.read read) h.wrote stopped
