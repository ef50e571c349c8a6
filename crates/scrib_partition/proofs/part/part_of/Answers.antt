use Rattle.std.proofs.Common.{rules}
use Rattle.std.proofs.lemmas.Fn.{filter_same}
use Rattle.scrib_partition.specs.Partition.{among, is_of}
use Rattle.scrib_partition.proofs.part.part_of.Goals as goal

pub returns : goal.returns
returns c = filter_same _ (is_of (among c.args.ids.now)) _ (λ x b f' k. search rules) _ _ c.retain.ensures.filtered
