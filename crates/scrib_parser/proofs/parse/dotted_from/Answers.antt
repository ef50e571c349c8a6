use Rattle.std.proofs.Common.{sym, arith}
use Rattle.std.proofs.lemmas.Result.{err_from_is_err_and}
use Rattle.std.proofs.lemmas.List.{length_push}
use Rattle.scrib_lexer.specs.declared.token.TokenKind.TheVariants.{Dot}
use Rattle.scrib_lexer.specs.Lexeme.{lexemes_of}
use Rattle.scrib_parser.specs.Reading.{same_kind, token_of, after, read_name, dotted_from}
use Rattle.scrib_parser.proofs.Loop.{goes_on, fails, is_done, behind_mark, no_mark, none_behind_mark}
use Rattle.scrib_parser.proofs.Headers.{dot_takes}
use Rattle.scrib_parser.proofs.parse.dotted_from.Goals as goal

pub returns-in_err-take : goal.returns-in_err-take
returns-in_err-take c =
    let ts = lexemes_of c.loop-tokens.tokens.rest.now in
    let p = err_from_is_err_and c.from_residual-in_err-take.result c.from_residual-in_err-take.ensures.1 in
    rw (p.1, p.2) (fails (same_kind Dot) (after (token_of Dot) read_name) dot_takes c.loop-tokens.words.items ts (dotted_from c.args.first (lexemes_of c.args.tokens.now.rest.now)) c.in_err-take.field-0.0 (sym c.loop-tokens-test.ensures)
    (no_mark Dot read_name ts c.in_err-take.field-0.0 c.in_err-take.ensures) c.loop-tokens.invariant.0)

pub returns-in_err-word : goal.returns-in_err-word
returns-in_err-word c =
    let ts = lexemes_of c.loop-tokens.tokens.rest.now in
    let p = err_from_is_err_and c.from_residual-in_err-word.result c.from_residual-in_err-word.ensures.1 in
    rw (p.1, p.2) (fails (same_kind Dot) (after (token_of Dot) read_name) dot_takes c.loop-tokens.words.items ts (dotted_from c.args.first (lexemes_of c.args.tokens.now.rest.now)) c.in_err-word.field-0.0 (sym c.loop-tokens-test.ensures)
    (none_behind_mark Dot read_name ts _ _ c.in_err-word.field-0.0 c.in_ok-take.ensures c.in_err-word.ensures) c.loop-tokens.invariant.0)

pub loop-tokens-smaller : goal.loop-tokens-smaller
loop-tokens-smaller c = dot_takes _ _ _ (behind_mark Dot read_name (lexemes_of c.loop-tokens.tokens.rest.now) _ _ _ _ c.in_ok-take.ensures c.in_ok-word.ensures)

pub loop-tokens-preserved : goal.loop-tokens-preserved
loop-tokens-preserved c =
    let ts = lexemes_of c.loop-tokens.tokens.rest.now in
    rw c.in_ok-push-2.ensures.items (
      goes_on (same_kind Dot) (after (token_of Dot) read_name) dot_takes c.loop-tokens.words.items ts (dotted_from c.args.first (lexemes_of c.args.tokens.now.rest.now)) _ _ (sym c.loop-tokens-test.ensures)
          (behind_mark Dot read_name ts _ _ _ _ c.in_ok-take.ensures c.in_ok-word.ensures) c.loop-tokens.invariant.0,
      omega (arith, length_push c.loop-tokens.words.items c.in_ok-word.field-0),
    )

pub returns : goal.returns
returns c =
    rw c.in_ok-intern.ensures (is_done (same_kind Dot) (after (token_of Dot) read_name) dot_takes c.loop-tokens.words.items (lexemes_of c.loop-tokens.tokens.rest.now) (dotted_from c.args.first (lexemes_of c.args.tokens.now.rest.now)) (sym c.loop-tokens-test.ensures) c.loop-tokens.invariant.0)
