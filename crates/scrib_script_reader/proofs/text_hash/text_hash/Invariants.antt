use Rattle.std.proofs.Common.{length}
use Rattle.scrib_script_reader.proofs.text_hash.text_hash.Given as goal

abbrev pub decreases-loop-rest : goal.decreases-loop-rest
decreases-loop-rest l = length l.rest
