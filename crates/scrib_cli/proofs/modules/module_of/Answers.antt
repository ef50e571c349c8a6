use Rattle.std.proofs.lemmas.Result.{err_from_is_err_and}
use Rattle.scrib_lexer.specs.Lexeme.{lexemes_of}
use Rattle.scrib_lexer.specs.Tokens.{IsTokens}
use Rattle.scrib_cli.proofs.ProjectionLemmas.{lex_refused, parse_refused}
use Rattle.scrib_cli.proofs.modules.module_of.Goals as goal

pub returns-in_err-tree-clause-fault : goal.returns-in_err-tree-clause-fault
returns-in_err-tree-clause-fault c =
    let p = err_from_is_err_and c.from_residual-in_err-tree.result c.from_residual-in_err-tree.ensures.1 in
    let read : IsTokens c.args.text.now (lexemes_of c.as_slice.result.now) = rw c.as_slice.ensures.value c.in_ok-tokens.ensures.found in
    rw (p.1, p.2) (parse_refused c.args.text.now (lexemes_of c.as_slice.result.now) _ read c.in_err-tree.ensures.fault)

pub returns-in_err-tokens-clause-fault : goal.returns-in_err-tokens-clause-fault
returns-in_err-tokens-clause-fault c =
    let p = err_from_is_err_and c.from_residual.result c.from_residual.ensures.1 in
    rw (p.1, p.2) (lex_refused c.args.text.now _ c.in_err-tokens.ensures.fault)

pub returns-clause-ok : goal.returns-clause-ok
returns-clause-ok c =
    let read : IsTokens c.args.text.now (lexemes_of c.as_slice.result.now) = rw c.as_slice.ensures.value c.in_ok-tokens.ensures.found in
    (lexemes_of c.as_slice.result.now, read, c.in_ok-tree.ensures.found)
