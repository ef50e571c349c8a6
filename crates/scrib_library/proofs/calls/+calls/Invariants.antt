use Rattle.std.proofs.Common.{take}
use Rattle.scrib_static_checks.specs.SourceView.{body_of, blocks_of}
use Rattle.scrib_library.specs.Calls.{EachCall, EachCallOf, IsOther}
use Rattle.scrib_library.proofs.calls.+calls.Given as goal

abbrev pub invariant-calls_in-loop-statement : goal.invariant-calls_in-loop-statement
invariant-calls_in-loop-statement l =
    EachCall (IsOther l.at l.home l.name) (body_of (take l.statement-index l.body))

abbrev pub invariant-calls_of-loop-block : goal.invariant-calls_of-loop-block
invariant-calls_of-loop-block l =
    EachCallOf (IsOther l.at l.home l.name) (blocks_of (take l.block-index l.blocks))
