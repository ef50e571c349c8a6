use Rattle.scrib_partition.proofs.PartRuns.{answers_part, restricted_part, initial_part, stays_consistent}
use Rattle.scrib_partition.proofs.WholeRuns.{answers_whole}
use Rattle.scrib_partition.proofs.law.answers_parts.Goals as goal

pub returns : goal.returns
returns c = record {
  part = answers_part;
  whole = answers_whole;
  restricted = restricted_part;
  initial = initial_part;
  consistent = stays_consistent;
}
