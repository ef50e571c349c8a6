use Rattle.std.proofs.Common.{sym}
use Rattle.std.proofs.lemmas.Result.{err_from_is_err_and}
use Rattle.scrib_lexer.specs.declared.token.TokenKind.TheVariants.{Comma}
use Rattle.scrib_lexer.specs.Lexeme.{lexemes_of}
use Rattle.scrib_parser.specs.Reading.{same_kind, token_of, after, role_of, read_roles}
use Rattle.scrib_parser.proofs.Loop.{goes_on, fails, is_done, behind_mark, no_mark, none_behind_mark}
use Rattle.scrib_parser.proofs.Headers.{role_takes}
use Rattle.scrib_parser.proofs.parse.roles.Goals as goal

pub returns-in_err-take : goal.returns-in_err-take
returns-in_err-take c =
    let ts = lexemes_of c.loop-alloc.tokens.rest.now in
    let p = err_from_is_err_and c.from_residual-in_err-take.result c.from_residual-in_err-take.ensures.1 in
    rw (p.1, p.2) (fails (same_kind Comma) (after (token_of Comma) role_of) role_takes c.loop-alloc.roles.items ts (read_roles (lexemes_of c.args.tokens.now.rest.now)) c.in_err-take.field-0.0 (sym c.loop-alloc-test.ensures)
    (no_mark Comma role_of ts c.in_err-take.field-0.0 c.in_err-take.ensures) c.loop-alloc.invariant)

pub returns-in_err-role-2 : goal.returns-in_err-role-2
returns-in_err-role-2 c =
    let ts = lexemes_of c.loop-alloc.tokens.rest.now in
    let p = err_from_is_err_and c.from_residual-in_err-role-2.result c.from_residual-in_err-role-2.ensures.1 in
    rw (p.1, p.2) (fails (same_kind Comma) (after (token_of Comma) role_of) role_takes c.loop-alloc.roles.items ts (read_roles (lexemes_of c.args.tokens.now.rest.now)) c.in_err-role-2.field-0.0 (sym c.loop-alloc-test.ensures)
    (none_behind_mark Comma role_of ts _ _ c.in_err-role-2.field-0.0 c.in_ok-take.ensures c.in_err-role-2.ensures) c.loop-alloc.invariant)

pub loop-alloc-smaller : goal.loop-alloc-smaller
loop-alloc-smaller c = role_takes _ _ _ (behind_mark Comma role_of (lexemes_of c.loop-alloc.tokens.rest.now) _ _ _ _ c.in_ok-take.ensures c.in_ok-role-2.ensures)

pub loop-alloc-preserved : goal.loop-alloc-preserved
loop-alloc-preserved c =
    let ts = lexemes_of c.loop-alloc.tokens.rest.now in
    rw c.in_ok-push-2.ensures.items (goes_on (same_kind Comma) (after (token_of Comma) role_of) role_takes c.loop-alloc.roles.items ts (read_roles (lexemes_of c.args.tokens.now.rest.now)) _ _ (sym c.loop-alloc-test.ensures)
    (behind_mark Comma role_of ts _ _ _ _ c.in_ok-take.ensures c.in_ok-role-2.ensures) c.loop-alloc.invariant)

pub returns : goal.returns
returns c =
    rw c.fitted.ensures (is_done (same_kind Comma) (after (token_of Comma) role_of) role_takes c.loop-alloc.roles.items (lexemes_of c.loop-alloc.tokens.rest.now) (read_roles (lexemes_of c.args.tokens.now.rest.now)) (sym c.loop-alloc-test.ensures) c.loop-alloc.invariant)
