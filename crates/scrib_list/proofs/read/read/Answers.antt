use Rattle.std.proofs.Common.{rules}
use Rattle.scrib_lexer.specs.Lexeme.{lexemes_of}
use Rattle.scrib_lexer.specs.Tokens.{IsTokens}
use Rattle.scrib_list.proofs.Refusals.{has_no_tree}
use Rattle.scrib_list.proofs.read.read.Goals as goal

pub returns-in-Ok-parse : goal.returns-in-Ok-parse
returns-in-Ok-parse c =
    let read : IsTokens c.args.text.now (lexemes_of c.as_slice.result.now) = rw c.as_slice.ensures.value c.in-Ok.ensures.found in
    (lexemes_of c.as_slice.result.now, read, c.in-Ok-parse.ensures.found)

pub returns : goal.returns
returns c =
    let read : IsTokens c.args.text.now (lexemes_of c.as_slice.result.now) = rw c.as_slice.ensures.value c.in-Ok.ensures.found in
    has_no_tree c.args.text.now (lexemes_of c.as_slice.result.now) c.in-Err-parse.fault read c.in-Err-parse.ensures.fault (search rules)
