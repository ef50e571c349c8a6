use Rattle.std.proofs.Common.{drop}
use Rattle.scrib_static_checks.specs.SourceView.{body_of, blocks_of}
use Rattle.scrib_static_checks.specs.Table.{protocol_at, enclosing_names}
use Rattle.scrib_static_checks.proofs.Checks.{IsLeft, AreLeft}
use Rattle.scrib_static_checks.proofs.statements.+statements.Given as goal

abbrev pub invariant-check_block-loop-statement : goal.invariant-check_block-loop-statement
invariant-check_block-loop-statement l =
    IsLeft l.context.modules.now (protocol_at l.context) (enclosing_names l.recs) (body_of l.body) l.exits (body_of (drop l.statement-index l.body))

abbrev pub invariant-check_branches-loop-branch : goal.invariant-check_branches-loop-branch
invariant-check_branches-loop-branch l =
    AreLeft l.context.modules.now (protocol_at l.context) (enclosing_names l.recs) (blocks_of l.branches) l.exits (blocks_of (drop l.branch-index l.branches))
