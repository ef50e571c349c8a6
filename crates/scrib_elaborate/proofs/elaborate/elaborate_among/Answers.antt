use Rattle.std.proofs.Common.{refl, sym, subst}
use Rattle.std.proofs.lemmas.Result.{err_from_is_err_and}
use Rattle.scrib_static_checks.specs.Table.{shown}
use Rattle.scrib_elaborate.specs.Typing.{IsMemo}
use Rattle.scrib_static_checks.specs.Walking.{AreSummaries, IsIdle}
use Rattle.scrib_elaborate.proofs.FaultLemmas.{walk_fault, size_fault, root_stated, root_within, nothing_missed}
use Rattle.scrib_elaborate.proofs.PassResults.{is_counted, only_meant}
use Rattle.scrib_elaborate.proofs.elaborate.elaborate_among.Goals as goal

pub returns-in_err-root-clause-only : goal.returns-in_err-root-clause-only
returns-in_err-root-clause-only c =
    let p = err_from_is_err_and c.from_residual.result c.from_residual.ensures.1 in
    rw (p.1, p.2) (nothing_missed c.args.table.now.modules.now c.args.module.now c.args.protocol.now c.in_err-root.field-0.0 c.in_err-root.ensures)

pub walk-requires-clause-there : goal.walk-requires-clause-there
walk-requires-clause-there c =
    root_within c.args.table.now.declared.now c.args.module.now c.args.protocol.now c.in_ok-root.root c.in_ok-root.ensures

pub returns-in_err-walk-clause-fault : goal.returns-in_err-walk-clause-fault
returns-in_err-walk-clause-fault c =
    let p = err_from_is_err_and c.from_residual-in_err-walk.result c.from_residual-in_err-walk.ensures.1 in
    rw (p.1, p.2) (walk_fault c.args.table.now.modules.now c.args.table.now.modules.now c.args.module.now c.args.protocol.now c.args.table.now.declared.now c.args.table.now.declared.now c.args.table.now.declared.now c.in_ok-root.root c.in_err-walk.field-0.0 refl refl refl c.requires.all c.in_ok-root.ensures c.in_err-walk.ensures.fault)

pub returns-in_err-walk-clause-only : goal.returns-in_err-walk-clause-only
returns-in_err-walk-clause-only c =
    let p = err_from_is_err_and c.from_residual-in_err-walk.result c.from_residual-in_err-walk.ensures.1 in
    let fault = walk_fault c.args.table.now.modules.now c.args.table.now.modules.now c.args.module.now c.args.protocol.now c.args.table.now.declared.now c.args.table.now.declared.now c.args.table.now.declared.now c.in_ok-root.root c.in_err-walk.field-0.0 refl refl refl c.requires.all c.in_ok-root.ensures c.in_err-walk.ensures.fault in
    rw (p.1, p.2) (nothing_missed c.args.table.now.modules.now c.args.module.now c.args.protocol.now c.in_err-walk.field-0.0 fault)

pub check_size-requires-clause-there : goal.check_size-requires-clause-there
check_size-requires-clause-there c =
    root_within c.args.table.now.declared.now c.args.module.now c.args.protocol.now c.in_ok-root.root c.in_ok-root.ensures

pub check_size-requires-clause-stated : goal.check_size-requires-clause-stated
check_size-requires-clause-stated c =
    root_stated c.args.table.now.modules.now c.args.module.now c.args.protocol.now c.args.table.now.declared.now c.args.table.now.declared.now c.args.table.now.declared.now c.walk.new.states.items c.deref.result.now c.in_ok-root.root refl refl c.deref.ensures.value c.in_ok-root.ensures c.in_ok-walk.ensures.ok

pub returns-in_err-count-clause-fault : goal.returns-in_err-count-clause-fault
returns-in_err-count-clause-fault c =
    let p = err_from_is_err_and c.from_residual-in_err-count.result c.from_residual-in_err-count.ensures.1 in
    rw (p.1, p.2) (size_fault c.args.table.now.modules.now c.args.table.now.modules.now c.args.module.now c.args.protocol.now c.args.table.now.declared.now c.args.table.now.declared.now c.args.table.now.declared.now c.args.table.now.declared.now c.walk.new.states.items c.deref.result.now c.in_ok-root.root c.in_err-count.field-0.0 refl refl refl refl c.deref.ensures.value c.requires.all c.in_ok-root.ensures c.in_ok-walk.ensures.ok (c.in_err-count.ensures.fault c.args.table.now.modules.now))

pub returns-in_err-count-clause-only : goal.returns-in_err-count-clause-only
returns-in_err-count-clause-only c =
    let p = err_from_is_err_and c.from_residual-in_err-count.result c.from_residual-in_err-count.ensures.1 in
    let fault = size_fault c.args.table.now.modules.now c.args.table.now.modules.now c.args.module.now c.args.protocol.now c.args.table.now.declared.now c.args.table.now.declared.now c.args.table.now.declared.now c.args.table.now.declared.now c.walk.new.states.items c.deref.result.now c.in_ok-root.root c.in_err-count.field-0.0 refl refl refl refl c.deref.ensures.value c.requires.all c.in_ok-root.ensures c.in_ok-walk.ensures.ok (c.in_err-count.ensures.fault c.args.table.now.modules.now) in
    rw (p.1, p.2) (nothing_missed c.args.table.now.modules.now c.args.module.now c.args.protocol.now c.in_err-count.field-0.0 fault)

pub finish-answer-requires-clause-ready : goal.finish-answer-requires-clause-ready
finish-answer-requires-clause-ready c =
    is_counted c.args.table.now.modules.now c.args.module.now c.args.protocol.now c.args.table.now.declared.now c.args.table.now.declared.now c.args.table.now.declared.now c.args.table.now.declared.now c.args.table.now.declared.now c.walk.new.states.items c.deref.result.now c.in_ok-root.root c.in_ok-count.count c.index-declared-root.result refl refl refl refl c.deref.ensures.value c.requires.all c.in_ok-root.ensures c.in_ok-walk.ensures.ok (c.in_ok-count.ensures.ok c.args.table.now.modules.now) c.index-declared-root.is

pub memoize-requires : goal.memoize-requires
memoize-requires c = record {
  all = c.requires.all;
  indexed = c.requires.indexed;
  names_checked = c.requires.names_checked;
  idle = subst (λ ss. IsIdle c.args.table.now.modules.now (shown c.args.table.now.declared.now) ss) (sym c.deref-2.ensures.value) c.walk.ensures.idle;
  memo = c.requires.memo;
}

pub finish-answer-requires-clause-table : goal.finish-answer-requires-clause-table
finish-answer-requires-clause-table c = record {
  all = c.requires.all;
  indexed = c.requires.indexed;
  kept = subst (λ ss. AreSummaries c.args.table.now.modules.now (shown c.args.table.now.declared.now) ss) (sym c.deref-4.ensures.value) c.walk.ensures.idle.kept;
  memo = subst (λ ts. IsMemo c.args.table.now.modules.now (shown c.args.table.now.declared.now) ts) (sym c.deref-5.ensures.value) c.memoize.ensures;
}

pub returns-clause-only : goal.returns-clause-only
returns-clause-only c =
    only_meant c.args.table.now.modules.now c.args.module.now c.args.protocol.now c.finish-answer.result c.finish-answer.ensures.ok c.finish-answer.ensures.fault

pub returns-clause-tabled : goal.returns-clause-tabled
returns-clause-tabled c = record {
  all = c.requires.all;
  indexed = c.requires.indexed;
  names_checked = c.requires.names_checked;
  idle = c.remove_walk.ensures c.args.table.now.modules.now (shown c.args.table.now.declared.now) c.walk.ensures.idle;
  memo = c.memoize.ensures;
}
