use Rattle.std.proofs.Common.{drop}
use Rattle.scrib_static_checks.specs.SourceView.{body_of, blocks_of}
use Rattle.scrib_elaborate.specs.NoExit.{Stays, AllStay}
use Rattle.scrib_elaborate.proofs.exits.+exits.Given as goal

abbrev pub invariant-has_exit-loop-statement : goal.invariant-has_exit-loop-statement
invariant-has_exit-loop-statement l =
    Stays l.context.modules.now l.home (body_of (drop l.statement-index l.body)) → Stays l.context.modules.now l.home (body_of l.body)

abbrev pub invariant-some_exit-loop-branch : goal.invariant-some_exit-loop-branch
invariant-some_exit-loop-branch l =
    AllStay l.context.modules.now l.home (blocks_of (drop l.branch-index l.branches)) → AllStay l.context.modules.now l.home (blocks_of l.branches)
