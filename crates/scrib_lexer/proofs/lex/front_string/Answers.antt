use Rattle.std.proofs.Common.{sym, arith, drop}
use Rattle.std.proofs.lemmas.List.{take_rest, length-take-le, length-drop}
use Rattle.scrib_lexer.proofs.Steps.{front-string, quote-within, string_fault, open_fault}
use Rattle.scrib_lexer.proofs.lex.front_string.Goals as goal

pub returns-in_default-clause-fault : goal.returns-in_default-clause-fault
returns-in_default-clause-fault c =
    let h = rw take_rest at c.in_default.ensures in
    open_fault c.args.text.now c.args.at (omega arith) c.requires.quote (sym h)

pub slice_bounds-from_utf8-end : goal.slice_bounds-from_utf8-end
slice_bounds-from_utf8-end c =
    let h = rw take_rest at c.in-Some.ensures in
    let within = quote-within c.args.text.now c.in-Some.len (sym h) in
    rw take_rest (sym (length-take-le c.in-Some.len (drop 1 c.args.text.now) (omega arith)))

pub overflow_add-result : goal.overflow_add-result
overflow_add-result c =
    let h = rw take_rest at c.in-Some.ensures in
    let within = quote-within c.args.text.now c.in-Some.len (sym h) in
    omega (arith, length-drop 1 c.args.text.now)

pub returns-in-Ok-clause-found : goal.returns-in-Ok-clause-found
returns-in-Ok-clause-found c =
    let h = rw take_rest at c.in-Some.ensures in
    let u = rw take_rest at c.in-Ok.ensures.cases.1 in
    front-string c.args.text.now c.in-Some.len (omega arith) c.requires.quote (sym h) u

pub returns-in-Err-clause-fault : goal.returns-in-Err-clause-fault
returns-in-Err-clause-fault c =
    let h = rw take_rest at c.in-Some.ensures in
    let v = rw take_rest at c.in-Err.ensures.cases.1 in
    rw c.valid_up_to.ensures (string_fault c.args.text.now c.in-Some.len _ c.args.at (omega arith) c.requires.quote (sym h) v)
