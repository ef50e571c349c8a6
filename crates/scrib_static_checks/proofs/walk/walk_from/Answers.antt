use Rattle.std.proofs.Common.{◌<◌, length, sym, subst, rules, arith}
use Rattle.std.proofs.lemmas.Grind.{common_steps}
use Rattle.std.proofs.lemmas.Result.{err_from_is_err_and}
use Rattle.scrib_static_checks.specs.Table.{HasCheckedNames}
use Rattle.scrib_static_checks.specs.Walking.{IsReady}
use Rattle.scrib_static_checks.proofs.Walks.{states_long, ready, top_within, begins_from, leaves_from, next_of, enters_from, less_entering, less_leaving, first_fails, next_fails, broken_fails, ended_from, idle_from, no_items}
use Rattle.scrib_static_checks.proofs.walk.walk_from.Goals as goal

pub returns-in_err-enter-clause-fault : goal.returns-in_err-enter-clause-fault
returns-in_err-enter-clause-fault c =
    let p = err_from_is_err_and c.from_residual.result c.from_residual.ensures.1 in
    rw (p.1, p.2) (first_fails c.args.table.now.modules.now c.args.table.now.declared.now c.args.root c.index-declared-root.result c.requires.there c.index-declared-root.is c.in_err-enter.field-0.0 c.in_err-enter.ensures.fault)

pub loop-top-init : goal.loop-top-init
loop-top-init c =
    begins_from c.args.table.now.modules.now c.args.table.now.declared.now c.args.root c.index-declared-root.result c.args.states.now.items c.enter.new.states.items c.new-stack.result.items c.enter.new.stack.items c.requires.there c.index-declared-root.is c.requires.idle c.new-stack.ensures.items c.in_ok-enter.ensures.ok

pub check-requires-clause-ready : goal.check-requires-clause-ready
check-requires-clause-ready c =
    subst (λ ss. IsReady c.args.table.now.modules.now c.args.table.now.declared.now ss c.in-Some.top) (sym c.deref.ensures.value) (ready c.args.table.now.modules.now c.args.table.now.declared.now c.args.root c.loop-top.states.items c.loop-top.stack.items c.pop.new.self.items c.in-Some.top c.requires.all c.in-Some.ensures.items c.loop-top.invariant)

pub check-requires-clause-there : goal.check-requires-clause-there
check-requires-clause-there c =
    top_within c.args.table.now.modules.now c.args.table.now.declared.now c.args.root c.loop-top.states.items c.loop-top.stack.items c.pop.new.self.items c.in-Some.top c.in-Some.ensures.items c.loop-top.invariant

pub index_mut-requires : goal.index_mut-requires
index_mut-requires c =
    let within = top_within c.args.table.now.modules.now c.args.table.now.declared.now c.args.root c.loop-top.states.items c.loop-top.stack.items c.pop.new.self.items c.in-Some.top c.in-Some.ensures.items c.loop-top.invariant in
    let long = states_long c.args.table.now.modules.now c.args.table.now.declared.now c.args.root c.loop-top.states.items c.loop-top.stack.items c.loop-top.invariant in
    omega (arith, within, long, c.loop-top.states.ok.0)

pub loop-top-preserved-in-Ok : goal.loop-top-preserved-in-Ok
loop-top-preserved-in-Ok c =
    leaves_from c.args.table.now.modules.now c.args.table.now.declared.now c.args.root c.loop-top.states.items c.loop-top.stack.items c.pop.new.self.items c.in-Some.top c.in-Ok.summary c.in-Some.ensures.items c.loop-top.invariant c.in-Ok.ensures

pub loop-top-smaller-in-Ok : goal.loop-top-smaller-in-Ok
loop-top-smaller-in-Ok c =
    let within = top_within c.args.table.now.modules.now c.args.table.now.declared.now c.args.root c.loop-top.states.items c.loop-top.stack.items c.pop.new.self.items c.in-Some.top c.in-Some.ensures.items c.loop-top.invariant in
    let long = states_long c.args.table.now.modules.now c.args.table.now.declared.now c.args.root c.loop-top.states.items c.loop-top.stack.items c.loop-top.invariant in
    less_leaving c.loop-top.states.items c.loop-top.stack.items c.pop.new.self.items c.in-Some.top c.in-Ok.summary c.in-Some.ensures.items (omega (arith, within, long))

pub offset_bounds-declared-to : goal.offset_bounds-declared-to
offset_bounds-declared-to c =
    let n = next_of c.args.table.now.modules.now c.args.table.now.declared.now c.args.root c.loop-top.states.items c.deref.result.now c.loop-top.stack.items c.pop.new.self.items c.in-Some.top c.in-Err-Call.to c.in-Err-Call.field-0 c.in-Some.ensures.items c.loop-top.invariant c.deref.ensures.value c.in-Err-Call.field-0-is c.in-Err-Call.ensures in
    let within : c.in-Err-Call.to < length c.args.table.now.declared.now = n.within in
    search rules

pub bounds-declared-to : goal.bounds-declared-to
bounds-declared-to c =
    let n = next_of c.args.table.now.modules.now c.args.table.now.declared.now c.args.root c.loop-top.states.items c.deref.result.now c.loop-top.stack.items c.pop.new.self.items c.in-Some.top c.in-Err-Call.to c.in-Err-Call.field-0 c.in-Some.ensures.items c.loop-top.invariant c.deref.ensures.value c.in-Err-Call.field-0-is c.in-Err-Call.ensures in
    n.within

pub enter-requires-in-Err-Call-clause-within : goal.enter-requires-in-Err-Call-clause-within
enter-requires-in-Err-Call-clause-within c =
    let n = next_of c.args.table.now.modules.now c.args.table.now.declared.now c.args.root c.loop-top.states.items c.deref.result.now c.loop-top.stack.items c.pop.new.self.items c.in-Some.top c.in-Err-Call.to c.in-Err-Call.field-0 c.in-Some.ensures.items c.loop-top.invariant c.deref.ensures.value c.in-Err-Call.field-0-is c.in-Err-Call.ensures in
    n.stated

pub enter-requires-in-Err-Call-clause-names_checked : goal.enter-requires-in-Err-Call-clause-names_checked
enter-requires-in-Err-Call-clause-names_checked c =
    let n = next_of c.args.table.now.modules.now c.args.table.now.declared.now c.args.root c.loop-top.states.items c.deref.result.now c.loop-top.stack.items c.pop.new.self.items c.in-Some.top c.in-Err-Call.to c.in-Err-Call.field-0 c.in-Some.ensures.items c.loop-top.invariant c.deref.ensures.value c.in-Err-Call.field-0-is c.in-Err-Call.ensures in
    subst HasCheckedNames (sym c.index-declared-to.is) (c.requires.names_checked c.in-Err-Call.to c.index-declared-to.result n.within)

pub loop-top-smaller : goal.loop-top-smaller
loop-top-smaller c =
    let n = next_of c.args.table.now.modules.now c.args.table.now.declared.now c.args.root c.loop-top.states.items c.deref.result.now c.loop-top.stack.items c.pop.new.self.items c.in-Some.top c.in-Err-Call.to c.in-Err-Call.field-0 c.in-Some.ensures.items c.loop-top.invariant c.deref.ensures.value c.in-Err-Call.field-0-is c.in-Err-Call.ensures in
    less_entering c.args.table.now.modules.now c.args.table.now.declared.now c.loop-top.states.items c.enter-in-Err-Call.new.states.items c.loop-top.stack.items c.pop.new.self.items c.push-in-Err-Call.new.self.items c.enter-in-Err-Call.new.stack.items c.in-Some.top c.in-Err-Call.to _ _ c.in-Some.ensures.items c.in_ok-push-in-Err-Call.ensures.items n c.in_ok-enter-in-Err-Call.ensures.ok

pub loop-top-preserved : goal.loop-top-preserved
loop-top-preserved c =
    let n = next_of c.args.table.now.modules.now c.args.table.now.declared.now c.args.root c.loop-top.states.items c.deref.result.now c.loop-top.stack.items c.pop.new.self.items c.in-Some.top c.in-Err-Call.to c.in-Err-Call.field-0 c.in-Some.ensures.items c.loop-top.invariant c.deref.ensures.value c.in-Err-Call.field-0-is c.in-Err-Call.ensures in
    enters_from c.args.table.now.modules.now c.args.table.now.declared.now c.args.root c.loop-top.states.items c.enter-in-Err-Call.new.states.items c.loop-top.stack.items c.pop.new.self.items c.push-in-Err-Call.new.self.items c.enter-in-Err-Call.new.stack.items c.in-Some.top c.in-Err-Call.to c.index-declared-to.result c.in-Some.ensures.items c.in_ok-push-in-Err-Call.ensures.items c.index-declared-to.is c.loop-top.invariant n c.in_ok-enter-in-Err-Call.ensures.ok

pub returns-in_err-enter-in-Err-Call-clause-fault : goal.returns-in_err-enter-in-Err-Call-clause-fault
returns-in_err-enter-in-Err-Call-clause-fault c =
    let n = next_of c.args.table.now.modules.now c.args.table.now.declared.now c.args.root c.loop-top.states.items c.deref.result.now c.loop-top.stack.items c.pop.new.self.items c.in-Some.top c.in-Err-Call.to c.in-Err-Call.field-0 c.in-Some.ensures.items c.loop-top.invariant c.deref.ensures.value c.in-Err-Call.field-0-is c.in-Err-Call.ensures in
    let p = err_from_is_err_and c.from_residual-in_err-enter-in-Err-Call.result c.from_residual-in_err-enter-in-Err-Call.ensures.1 in
    rw (p.1, p.2) (next_fails c.args.table.now.modules.now c.args.table.now.declared.now c.args.root c.loop-top.states.items c.loop-top.stack.items c.pop.new.self.items c.in-Some.top c.in-Err-Call.to c.index-declared-to.result c.in-Some.ensures.items c.index-declared-to.is c.loop-top.invariant n c.in_err-enter-in-Err-Call.field-0.0 c.in_err-enter-in-Err-Call.ensures.fault)

pub offset_bounds-declared-top : goal.offset_bounds-declared-top
offset_bounds-declared-top c =
    let within : c.in-Some.top < length c.args.table.now.declared.now = top_within c.args.table.now.modules.now c.args.table.now.declared.now c.args.root c.loop-top.states.items c.loop-top.stack.items c.pop.new.self.items c.in-Some.top c.in-Some.ensures.items c.loop-top.invariant in
    search rules

pub bounds-declared-top : goal.bounds-declared-top
bounds-declared-top c =
    top_within c.args.table.now.modules.now c.args.table.now.declared.now c.args.root c.loop-top.states.items c.loop-top.stack.items c.pop.new.self.items c.in-Some.top c.in-Some.ensures.items c.loop-top.invariant

pub returns-in-Err-Broken-clause-fault : goal.returns-in-Err-Broken-clause-fault
returns-in-Err-Broken-clause-fault c =
    broken_fails c.args.table.now.modules.now c.args.table.now.declared.now c.args.root c.loop-top.states.items c.deref.result.now c.loop-top.stack.items c.pop.new.self.items c.in-Some.top c.index-declared-top.result c.in-Err-Broken.rule c.in-Err-Broken.field-0 c.in-Some.ensures.items c.index-declared-top.is c.loop-top.invariant c.in-Err-Broken.field-0-is c.in-Err-Broken.ensures c.fault_in.result c.fault_in.ensures

pub returns-clause-ok : goal.returns-clause-ok
returns-clause-ok c =
    ended_from c.args.table.now.modules.now c.args.table.now.declared.now c.args.root c.loop-top.states.items c.loop-top.stack.items (no_items c.loop-top.stack.items (let none = c.in_default.ensures.cases.0 in omega (arith, none, c.loop-top.stack.ok.0))) c.loop-top.invariant

pub returns-clause-idle : goal.returns-clause-idle
returns-clause-idle c =
    idle_from c.args.table.now.modules.now c.args.table.now.declared.now c.args.root c.loop-top.states.items c.loop-top.stack.items (no_items c.loop-top.stack.items (let none = c.in_default.ensures.cases.0 in omega (arith, none, c.loop-top.stack.ok.0))) c.loop-top.invariant

pub returns-in_err-enter-clause-long : goal.returns-in_err-enter-clause-long
returns-in_err-enter-clause-long c = grind (arith, common_steps)

pub returns-in_err-push-in-Ok-clause-long : goal.returns-in_err-push-in-Ok-clause-long
returns-in_err-push-in-Ok-clause-long c = grind (arith, common_steps)

pub returns-in_err-push-in-Err-Call-clause-long : goal.returns-in_err-push-in-Err-Call-clause-long
returns-in_err-push-in-Err-Call-clause-long c = grind (arith, common_steps)

pub returns-in_err-enter-in-Err-Call-clause-long : goal.returns-in_err-enter-in-Err-Call-clause-long
returns-in_err-enter-in-Err-Call-clause-long c = grind (arith, common_steps)

pub returns-in-Err-Broken-clause-long : goal.returns-in-Err-Broken-clause-long
returns-in-Err-Broken-clause-long c = grind (arith, common_steps)

pub returns-in-Err-OutOfMemory-clause-long : goal.returns-in-Err-OutOfMemory-clause-long
returns-in-Err-OutOfMemory-clause-long c = grind (arith, common_steps)

pub returns-clause-long : goal.returns-clause-long
returns-clause-long c = grind (arith, common_steps)
