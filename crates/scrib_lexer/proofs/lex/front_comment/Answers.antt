use Rattle.std.proofs.Common.{sym, arith}
use Rattle.std.proofs.lemmas.List.{take_rest, length-drop}
use Rattle.scrib_lexer.proofs.Steps.{front-line, front-block, block-within, comment_fault, slash_fault}
use Rattle.scrib_lexer.proofs.lex.front_comment.Goals as goal

pub overflow_add-result : goal.overflow_add-result
overflow_add-result c =
    let h = rw take_rest at c.in-Some.ensures in
    let within = block-within c.args.text.now c.in-Some.len (sym h) in
    omega (arith, length-drop 2 c.args.text.now)

pub returns-in-47-clause-found : goal.returns-in-47-clause-found
returns-in-47-clause-found c =
    front-line c.args.text.now c.line_len.result (omega arith) c.requires.slash c.in-47.is c.line_len.ensures.within c.line_len.ensures.line c.line_len.ensures.longest

pub returns-in-Some-clause-found : goal.returns-in-Some-clause-found
returns-in-Some-clause-found c =
    let h = rw take_rest at c.in-Some.ensures in
    front-block c.args.text.now c.in-Some.len (omega arith) c.requires.slash c.in-42.is (sym h)

pub returns-in-None-clause-fault : goal.returns-in-None-clause-fault
returns-in-None-clause-fault c =
    let h = rw take_rest at c.in-None.ensures in
    comment_fault c.args.text.now c.args.at (omega arith) c.requires.slash c.in-42.is (sym h)

pub returns-in_default-clause-fault : goal.returns-in_default-clause-fault
returns-in_default-clause-fault c =
    slash_fault c.args.text.now c.args.at c.requires.some c.requires.slash (λ x. omega arith) (λ x. omega arith)
