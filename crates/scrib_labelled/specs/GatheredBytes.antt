-- What a run gathers for bytes of its script (this project's own). Only contracts of private functions cite this file.
use Rattle.std.specs.Prelude.{◌≡◌, ℕ, List, ◌++◌, Option}
use Rattle.std.specs.Io.KnownBytes.{Appends}
use Rattle.scrib_labelled.specs.declared.labelled_run.LabelledRun.{LabelledRun}
use Rattle.scrib_labelled.specs.Readings.{PieceFails, RunAdvances}
use Rattle.scrib_labelled.specs.Stages.{OutputRelation, StageRelation}

-- the bytes were consumed, and their output was gathered
pub record GathersBytes {S : Type 0} (Took : StageRelation S) (gathered : S → List ℕ) (old new : LabelledRun S)
    (bytes : List ℕ) : Type 0 where
  pub out : List ℕ
  pub grows : gathered new.stage ≡ gathered old.stage ++ out
  pub went : RunAdvances Took old new bytes out

-- a front of the bytes was consumed, and its output was gathered
pub record GathersFront {S : Type 0} (Took : StageRelation S) (gathered : S → List ℕ) (old new : LabelledRun S)
    (bytes rest : List ℕ) : Type 0 where
  pub front : List ℕ
  pub is : bytes ≡ front ++ rest
  pub out : List ℕ
  pub grows : gathered new.stage ≡ gathered old.stage ++ out
  pub went : RunAdvances Took old new front out

-- the run failed within these bytes, and gathered a part
pub record GatherFails {S : Type 0} (Took : StageRelation S) (Part : OutputRelation S) (gathered : S → List ℕ)
    (old new : LabelledRun S) (bytes : List ℕ) : Type 0 where
  pub out : List ℕ
  pub grows : gathered new.stage ≡ gathered old.stage ++ out
  pub fails : PieceFails Took Part old bytes out

-- some bytes were written, and the others of the output are gathered
abbrev pub WritesFirst : (List ℕ → Type 0) → (gathered : List ℕ) → (was now : Option (List ℕ)) → Type 0
WritesFirst P gathered was now = (out : List ℕ) × P (out ++ gathered) × Appends was now out
