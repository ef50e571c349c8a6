use Rattle.std.proofs.Common.{◌≡◌, drop}
use Rattle.scrib_static_checks.specs.SourceView.{body_of, blocks_of}
use Rattle.scrib_static_checks.specs.Elaboration.{continues_in, continues_some}
use Rattle.scrib_static_checks.proofs.size.+continues.Given as goal

abbrev pub invariant-continues_in-loop-statement : goal.invariant-continues_in-loop-statement
invariant-continues_in-loop-statement l = continues_in l.name (body_of (drop l.statement-index l.body)) ≡ continues_in l.name (body_of l.body)

abbrev pub invariant-continues_some-loop-branch : goal.invariant-continues_some-loop-branch
invariant-continues_some-loop-branch l =
    continues_some l.name (blocks_of (drop l.branch-index l.branches)) ≡ continues_some l.name (blocks_of l.branches)
