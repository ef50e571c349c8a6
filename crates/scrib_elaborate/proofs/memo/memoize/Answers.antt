use Rattle.std.proofs.Common.{sym, subst}
use Rattle.scrib_static_checks.specs.Table.{shown}
use Rattle.scrib_elaborate.specs.Typing.{IsMemo}
use Rattle.scrib_elaborate.proofs.memo.memoize.Goals as goal

pub alone-requires : goal.alone-requires
alone-requires c = record {
  all = c.requires.all;
  indexed = c.requires.indexed;
  names_checked = c.requires.names_checked;
  idle = c.requires.idle;
  memo = subst (λ ts. IsMemo c.args.table.now.modules.now (shown c.args.table.now.declared.now) ts) (sym c.deref.ensures.value) c.loop-place.invariant;
}
