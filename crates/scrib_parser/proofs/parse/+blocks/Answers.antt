use Rattle.std.proofs.Common.{◌-◌, sym, subst, arith}
use Rattle.std.proofs.lemmas.Result.{err_from_is_err_and}
use Rattle.scrib_lexer.specs.declared.token.Keyword.TheVariants.{Or}
use Rattle.scrib_lexer.specs.declared.token.TokenKind.TheVariants.{Keyword}
use Rattle.scrib_lexer.specs.Lexeme.{lexemes_of}
use Rattle.scrib_parser.specs.Reading.{left, Gives, same_kind, token_of, after, begins_statement, statement_of, statements_of, block_of, read_blocks}
use Rattle.scrib_parser.proofs.Loop.{goes_on, fails, is_done, behind_mark, no_mark, none_behind_mark}
use Rattle.scrib_parser.proofs.Blocks.{statement_takes_of, or_takes_of, stops_deep, opens_more}
use Rattle.scrib_parser.proofs.parse.+blocks.Goals as goal

pub block-returns-then-levels-eq0 : goal.block-returns-then-levels-eq0
block-returns-then-levels-eq0 n c = stops_deep c.args.levels _ c.too_deep.result (omega arith) c.too_deep.ensures

pub block-returns : goal.block-returns
block-returns n c =
    let ts = left c.args.tokens.now in
    subst (λ r. Gives c.opened_block.result (left c.opened_block.new.tokens) r) (opens_more c.args.levels (c.args.levels - 1) ts (omega arith)) c.opened_block.ensures

pub blocks-returns-in_err-take : goal.blocks-returns-in_err-take
blocks-returns-in_err-take n c =
    let ts = lexemes_of c.loop-alloc.tokens.rest.now in
    let p = err_from_is_err_and c.from_residual-in_err-take.result c.from_residual-in_err-take.ensures.1 in
    rw (p.1, p.2) (fails (same_kind (Keyword Or)) (after (token_of (Keyword Or)) (block_of c.args.levels)) (or_takes_of c.args.levels) c.loop-alloc.blocks.items ts (read_blocks (block_of c.args.levels) (lexemes_of c.args.tokens.now.rest.now)) c.in_err-take.field-0.0 (sym c.loop-alloc-test.ensures)
    (no_mark (Keyword Or) (block_of c.args.levels) ts c.in_err-take.field-0.0 c.in_err-take.ensures) c.loop-alloc.invariant)

pub blocks-returns-in_err-block-2 : goal.blocks-returns-in_err-block-2
blocks-returns-in_err-block-2 n c =
    let ts = lexemes_of c.loop-alloc.tokens.rest.now in
    let p = err_from_is_err_and c.from_residual-in_err-block-2.result c.from_residual-in_err-block-2.ensures.1 in
    rw (p.1, p.2) (fails (same_kind (Keyword Or)) (after (token_of (Keyword Or)) (block_of c.args.levels)) (or_takes_of c.args.levels) c.loop-alloc.blocks.items ts (read_blocks (block_of c.args.levels) (lexemes_of c.args.tokens.now.rest.now)) c.in_err-block-2.field-0.0 (sym c.loop-alloc-test.ensures)
    (none_behind_mark (Keyword Or) (block_of c.args.levels) ts _ _ c.in_err-block-2.field-0.0 c.in_ok-take.ensures c.in_err-block-2.ensures) c.loop-alloc.invariant)

pub blocks-loop-alloc-smaller : goal.blocks-loop-alloc-smaller
blocks-loop-alloc-smaller n c = or_takes_of c.args.levels _ _ _ (behind_mark (Keyword Or) (block_of c.args.levels) (lexemes_of c.loop-alloc.tokens.rest.now) _ _ _ _ c.in_ok-take.ensures c.in_ok-block-2.ensures)

pub blocks-loop-alloc-preserved : goal.blocks-loop-alloc-preserved
blocks-loop-alloc-preserved n c =
    let ts = lexemes_of c.loop-alloc.tokens.rest.now in
    rw c.in_ok-push-2.ensures.items (goes_on (same_kind (Keyword Or)) (after (token_of (Keyword Or)) (block_of c.args.levels)) (or_takes_of c.args.levels) c.loop-alloc.blocks.items ts (read_blocks (block_of c.args.levels) (lexemes_of c.args.tokens.now.rest.now)) _ _ (sym c.loop-alloc-test.ensures)
    (behind_mark (Keyword Or) (block_of c.args.levels) ts _ _ _ _ c.in_ok-take.ensures c.in_ok-block-2.ensures) c.loop-alloc.invariant)

pub blocks-returns : goal.blocks-returns
blocks-returns n c =
    rw c.fitted.ensures (is_done (same_kind (Keyword Or)) (after (token_of (Keyword Or)) (block_of c.args.levels)) (or_takes_of c.args.levels) c.loop-alloc.blocks.items (lexemes_of c.loop-alloc.tokens.rest.now) (read_blocks (block_of c.args.levels) (lexemes_of c.args.tokens.now.rest.now)) (sym c.loop-alloc-test.ensures) c.loop-alloc.invariant)

pub statements-returns-in_err-statement : goal.statements-returns-in_err-statement
unfolding statements_of
statements-returns-in_err-statement n c =
    let p = err_from_is_err_and c.from_residual.result c.from_residual.ensures.1 in
    rw (p.1, p.2) (fails begins_statement (statement_of (block_of c.args.levels)) (statement_takes_of c.args.levels) c.loop-alloc.statements.items (lexemes_of c.loop-alloc.tokens.rest.now) (statements_of (block_of c.args.levels) (lexemes_of c.args.tokens.now.rest.now)) c.in_err-statement.field-0.0 (sym c.loop-alloc-test.ensures) c.in_err-statement.ensures c.loop-alloc.invariant)

pub statements-loop-alloc-smaller : goal.statements-loop-alloc-smaller
statements-loop-alloc-smaller n c = statement_takes_of c.args.levels _ _ _ c.in_ok-statement.ensures

pub statements-loop-alloc-preserved : goal.statements-loop-alloc-preserved
unfolding statements_of
statements-loop-alloc-preserved n c =
    rw c.in_ok-push.ensures.items (goes_on begins_statement (statement_of (block_of c.args.levels)) (statement_takes_of c.args.levels) c.loop-alloc.statements.items (lexemes_of c.loop-alloc.tokens.rest.now) (statements_of (block_of c.args.levels) (lexemes_of c.args.tokens.now.rest.now)) _ _ (sym c.loop-alloc-test.ensures) c.in_ok-statement.ensures c.loop-alloc.invariant)

pub statements-returns : goal.statements-returns
unfolding statements_of
statements-returns n c =
    rw c.fitted.ensures (is_done begins_statement (statement_of (block_of c.args.levels)) (statement_takes_of c.args.levels) c.loop-alloc.statements.items (lexemes_of c.loop-alloc.tokens.rest.now) (statements_of (block_of c.args.levels) (lexemes_of c.args.tokens.now.rest.now)) (sym c.loop-alloc-test.ensures) c.loop-alloc.invariant)
