use Rattle.std.proofs.Common.{◌≡◌, [], ◌∷◌, refl, sym}
use Rattle.std.proofs.lemmas.Result.{err_from_is_err_and}
use Rattle.scrib_lexer.specs.declared.token.TokenKind.TheVariants.{Comma}
use Rattle.scrib_lexer.specs.Lexeme.{lexemes_of}
use Rattle.scrib_parser.specs.Reading.{left, same_kind, token_of, after, read_name, more_names_of, read_names}
use Rattle.scrib_parser.proofs.Loop.{with_front, goes_on, fails, is_done, behind_mark, no_mark, none_behind_mark}
use Rattle.scrib_parser.proofs.Headers.{name_takes}
use Rattle.scrib_parser.proofs.parse.names.Goals as goal

pub returns-in_err-take : goal.returns-in_err-take
returns-in_err-take c =
    let ts = lexemes_of c.loop-alloc.tokens.rest.now in
    let p = err_from_is_err_and c.from_residual-in_err-take.result c.from_residual-in_err-take.ensures.1 in
    rw (p.1, p.2) (fails (same_kind Comma) (after (token_of Comma) read_name) name_takes c.loop-alloc.names.items ts (read_names (lexemes_of c.args.tokens.now.rest.now)) c.in_err-take.field-0.0 (sym c.loop-alloc-test.ensures)
    (no_mark Comma read_name ts c.in_err-take.field-0.0 c.in_err-take.ensures) c.loop-alloc.invariant)

pub returns-in_err-name : goal.returns-in_err-name
returns-in_err-name c =
    let ts = lexemes_of c.loop-alloc.tokens.rest.now in
    let p = err_from_is_err_and c.from_residual-in_err-name.result c.from_residual-in_err-name.ensures.1 in
    rw (p.1, p.2) (fails (same_kind Comma) (after (token_of Comma) read_name) name_takes c.loop-alloc.names.items ts (read_names (lexemes_of c.args.tokens.now.rest.now)) c.in_err-name.field-0.0 (sym c.loop-alloc-test.ensures)
    (none_behind_mark Comma read_name ts _ _ c.in_err-name.field-0.0 c.in_ok-take.ensures c.in_err-name.ensures) c.loop-alloc.invariant)

pub loop-alloc-smaller : goal.loop-alloc-smaller
loop-alloc-smaller c = name_takes _ _ _ (behind_mark Comma read_name (lexemes_of c.loop-alloc.tokens.rest.now) _ _ _ _ c.in_ok-take.ensures c.in_ok-name.ensures)

pub loop-alloc-preserved : goal.loop-alloc-preserved
loop-alloc-preserved c =
    let ts = lexemes_of c.loop-alloc.tokens.rest.now in
    rw c.in_ok-push-2.ensures.items (goes_on (same_kind Comma) (after (token_of Comma) read_name) name_takes c.loop-alloc.names.items ts (read_names (lexemes_of c.args.tokens.now.rest.now)) _ _ (sym c.loop-alloc-test.ensures)
    (behind_mark Comma read_name ts _ _ _ _ c.in_ok-take.ensures c.in_ok-name.ensures) c.loop-alloc.invariant)

pub returns : goal.returns
returns c =
    rw c.from_vec.ensures (is_done (same_kind Comma) (after (token_of Comma) read_name) name_takes c.loop-alloc.names.items (lexemes_of c.loop-alloc.tokens.rest.now) (read_names (lexemes_of c.args.tokens.now.rest.now)) (sym c.loop-alloc-test.ensures) c.loop-alloc.invariant)

pub returns-then-not-next_is : goal.returns-then-not-next_is
unfolding read_names
returns-then-not-next_is c =
    let front = c.in_ok-first.first ∷ [] in
    let so_far : with_front front (more_names_of (left c.name.new.self)) ≡ read_names (left c.args.tokens.now) = rw c.in_ok-first.ensures refl in
    rw c.one.ensures (is_done (same_kind Comma) (after (token_of Comma) read_name) name_takes front (left c.name.new.self) (read_names (left c.args.tokens.now)) (sym c.if-not-next_is.ensures) so_far)
