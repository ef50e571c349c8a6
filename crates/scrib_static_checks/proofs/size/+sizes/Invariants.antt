use Rattle.std.proofs.Common.{drop}
use Rattle.scrib_static_checks.specs.SourceView.{body_of, blocks_of}
use Rattle.scrib_static_checks.specs.Table.{protocol_at, IsPartSomewhere, AreSomewhere}
use Rattle.scrib_static_checks.proofs.SizeFunctionLemmas.{IsPartialSize, ArePartialSizes}
use Rattle.scrib_static_checks.proofs.size.+sizes.Given as goal

abbrev pub invariant-size_block-loop-statement : goal.invariant-size_block-loop-statement
invariant-size_block-loop-statement l = record {
  sizing : IsPartialSize l.context.modules.now (protocol_at l.context) (body_of l.body) l.size (body_of (drop l.statement-index l.body));
  part : IsPartSomewhere (protocol_at l.context) (body_of (drop l.statement-index l.body));
}

abbrev pub invariant-size_branches-loop-branch : goal.invariant-size_branches-loop-branch
invariant-size_branches-loop-branch l = record {
  sizing : ArePartialSizes l.context.modules.now (protocol_at l.context) (blocks_of l.branches) l.size (blocks_of (drop l.branch-index l.branches));
  part : AreSomewhere (protocol_at l.context) (blocks_of (drop l.branch-index l.branches));
}
