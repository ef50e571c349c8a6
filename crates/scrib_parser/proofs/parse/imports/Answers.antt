use Rattle.std.proofs.Common.{sym}
use Rattle.std.proofs.lemmas.Result.{err_from_is_err_and}
use Rattle.scrib_lexer.specs.declared.token.Keyword.TheVariants.{Import}
use Rattle.scrib_lexer.specs.declared.token.TokenKind.TheVariants.{Keyword}
use Rattle.scrib_lexer.specs.Lexeme.{lexemes_of}
use Rattle.scrib_parser.specs.Reading.{same_kind, import_of, imports_of}
use Rattle.scrib_parser.proofs.Loop.{goes_on, fails, is_done}
use Rattle.scrib_parser.proofs.Headers.{import_takes}
use Rattle.scrib_parser.proofs.parse.imports.Goals as goal

pub returns-in_err-import : goal.returns-in_err-import
unfolding imports_of
returns-in_err-import c =
    let p = err_from_is_err_and c.from_residual.result c.from_residual.ensures.1 in
    rw (p.1, p.2) (fails (same_kind (Keyword Import)) import_of import_takes c.loop-alloc.imports.items (lexemes_of c.loop-alloc.tokens.rest.now) (imports_of (lexemes_of c.args.tokens.now.rest.now)) c.in_err-import.field-0.0 (sym c.loop-alloc-test.ensures) c.in_err-import.ensures c.loop-alloc.invariant)

pub loop-alloc-smaller : goal.loop-alloc-smaller
loop-alloc-smaller c = import_takes _ _ _ c.in_ok-import.ensures

pub loop-alloc-preserved : goal.loop-alloc-preserved
unfolding imports_of
loop-alloc-preserved c =
    rw c.in_ok-push.ensures.items (goes_on (same_kind (Keyword Import)) import_of import_takes c.loop-alloc.imports.items (lexemes_of c.loop-alloc.tokens.rest.now) (imports_of (lexemes_of c.args.tokens.now.rest.now)) _ _ (sym c.loop-alloc-test.ensures) c.in_ok-import.ensures c.loop-alloc.invariant)

pub returns : goal.returns
unfolding imports_of
returns c =
    rw c.fitted.ensures (is_done (same_kind (Keyword Import)) import_of import_takes c.loop-alloc.imports.items (lexemes_of c.loop-alloc.tokens.rest.now) (imports_of (lexemes_of c.args.tokens.now.rest.now)) (sym c.loop-alloc-test.ensures) c.loop-alloc.invariant)
