use Rattle.std.proofs.Common.{List, subst}
use Rattle.scrib_tree.specs.declared.tree.Statement.{Statement}
use Rattle.scrib_static_checks.specs.SourceView.{body_of}
use Rattle.scrib_library.specs.Calls.{EachCall, IsOther}
use Rattle.scrib_library.proofs.CallLemmas.{each_more, each_of_more}
use Rattle.scrib_library.proofs.calls.+calls.Goals as goal

pub calls_in-loop-statement-preserved : goal.calls_in-loop-statement-preserved
calls_in-loop-statement-preserved u c =
    each_more (IsOther c.args.at.now c.args.home.now c.args.name.now) c.args.body.now c.loop-statement.statement-index c.statement-item.result c.loop-statement-test.true c.statement-item.is c.loop-statement.invariant (c.calls_at.ensures c.if-calls_at.false)

pub calls_of-loop-block-preserved : goal.calls_of-loop-block-preserved
calls_of-loop-block-preserved u c =
    let P : List Statement → Type 0 = λ l. EachCall (IsOther c.args.at.now c.args.home.now c.args.name.now) (body_of l) in
    each_of_more (IsOther c.args.at.now c.args.home.now c.args.name.now) c.args.blocks.now c.loop-block.block-index c.block-item.result c.loop-block-test.true c.block-item.is c.loop-block.invariant (subst P c.as_slice.ensures (c.calls_in.ensures c.if-calls_in.false))
