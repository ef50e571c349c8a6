use Rattle.std.proofs.Common.{◌≡◌, ◌<◌, length}
use Rattle.scrib_lexer.specs.Lexeme.{lexemes_of}
use Rattle.scrib_parser.specs.Reading as reading
use Rattle.scrib_parser.proofs.Loop.{with_front}
use Rattle.scrib_parser.proofs.parse.dotted_from.Given as goal

abbrev pub invariant-loop-tokens : goal.invariant-loop-tokens
invariant-loop-tokens l = (with_front l.words.items (reading.dots_of (lexemes_of l.tokens.rest.now)) ≡ reading.dotted_from l.fn.first (lexemes_of l.fn.tokens.rest.now)) × (0 < length l.words.items)

abbrev pub decreases-loop-tokens : goal.decreases-loop-tokens
decreases-loop-tokens l = length (lexemes_of l.tokens.rest.now)
