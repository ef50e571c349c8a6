use Rattle.std.proofs.Common.{◌≡◌, ◌+◌, ◌*◌, length}
use Rattle.scrib_lexer.specs.Lexeme.{lexemes_of}
use Rattle.scrib_parser.specs.Reading as reading
use Rattle.scrib_parser.proofs.Loop.{with_front}
use Rattle.scrib_parser.proofs.parse.+blocks.Given as goal

abbrev pub decreases-block : goal.decreases-block
decreases-block l = 8 * l.levels + 1

abbrev pub decreases-blocks : goal.decreases-blocks
decreases-blocks l = 8 * l.levels + 2

abbrev pub decreases-choice : goal.decreases-choice
decreases-choice l = 8 * l.levels + 3

abbrev pub decreases-opened_block : goal.decreases-opened_block
decreases-opened_block l = 8 * l.levels + 6

abbrev pub decreases-recursion : goal.decreases-recursion
decreases-recursion l = 8 * l.levels + 3

abbrev pub decreases-statement : goal.decreases-statement
decreases-statement l = 8 * l.levels + 4

abbrev pub decreases-statements : goal.decreases-statements
decreases-statements l = 8 * l.levels + 5

abbrev pub invariant-blocks-loop-alloc : goal.invariant-blocks-loop-alloc
invariant-blocks-loop-alloc l =
    with_front l.blocks.items (reading.more_blocks_of (reading.block_of l.levels) (lexemes_of l.tokens.rest.now)) ≡ reading.read_blocks (reading.block_of l.levels) (lexemes_of l.fn.tokens.rest.now)

abbrev pub decreases-blocks-loop-alloc : goal.decreases-blocks-loop-alloc
decreases-blocks-loop-alloc l = length (lexemes_of l.tokens.rest.now)

abbrev pub invariant-statements-loop-alloc : goal.invariant-statements-loop-alloc
invariant-statements-loop-alloc l =
    with_front l.statements.items (reading.statements_of (reading.block_of l.levels) (lexemes_of l.tokens.rest.now)) ≡ reading.statements_of (reading.block_of l.levels) (lexemes_of l.fn.tokens.rest.now)

abbrev pub decreases-statements-loop-alloc : goal.decreases-statements-loop-alloc
decreases-statements-loop-alloc l = length (lexemes_of l.tokens.rest.now)
