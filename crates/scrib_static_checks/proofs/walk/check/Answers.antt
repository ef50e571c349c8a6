use Rattle.std.proofs.lemmas.Result.{err_from_is_err_and}
use Rattle.scrib_static_checks.proofs.Walks.{block_kept, top_stops}
use Rattle.scrib_static_checks.proofs.walk.check.Goals as goal

pub returns : goal.returns
returns c = λ d e.
    block_kept c.args.table.now.modules.now c.args.table.now.declared.now c.args.top c.index-declared-top.result d c.as_slice.result.now c.as_slice-2.result.now c.as_slice-3.result.now (record { exits = c.in_ok-exits.exits; size = c.in_ok-size.size; effect = c.in_ok-effect.effect }) e c.index-declared-top.is c.as_slice.ensures c.as_slice-2.ensures c.as_slice-3.ensures c.in_ok-exits.ensures c.in_ok-size.ensures c.in_ok-effect.ensures

pub returns-in_err-exits : goal.returns-in_err-exits
returns-in_err-exits c =
    let p = err_from_is_err_and c.from_residual.result c.from_residual.ensures.1 in
    rw (p.1, p.2) (top_stops _ c.args.top c.in_err-exits.field-0.0 c.index-declared-top.is c.in_err-exits.ensures)

pub returns-in_err-size : goal.returns-in_err-size
returns-in_err-size c =
    let p = err_from_is_err_and c.from_residual-in_err-size.result c.from_residual-in_err-size.ensures.1 in
    rw (p.1, p.2) (top_stops _ c.args.top c.in_err-size.field-0.0 c.index-declared-top.is c.in_err-size.ensures)

pub returns-in_err-effect : goal.returns-in_err-effect
returns-in_err-effect c =
    let p = err_from_is_err_and c.from_residual-in_err-effect.result c.from_residual-in_err-effect.ensures.1 in
    rw (p.1, p.2) (top_stops _ c.args.top c.in_err-effect.field-0.0 c.index-declared-top.is c.in_err-effect.ensures)
