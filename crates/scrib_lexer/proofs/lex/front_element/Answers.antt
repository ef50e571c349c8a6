use Rattle.std.proofs.Common.{sym, arith}
use Rattle.scrib_lexer.proofs.Steps.{byte_fault}
use Rattle.scrib_lexer.proofs.lex.front_element.Goals as goal

pub returns-in_default-first-clause-fault : goal.returns-in_default-first-clause-fault
returns-in_default-first-clause-fault c =
    byte_fault c.args.text.now c.args.at c.requires.some (sym c.if-is_space.ensures) (sym c.if-begins_word.ensures) (sym c.in_default.ensures) (λ x. omega arith) (λ x. omega arith)
