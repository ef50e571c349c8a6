use Rattle.std.proofs.Common.{◌≡◌, length}
use Rattle.scrib_lexer.specs.Lexeme.{lexemes_of}
use Rattle.scrib_parser.specs.Reading as reading
use Rattle.scrib_parser.proofs.Loop.{with_front}
use Rattle.scrib_parser.proofs.parse.roles.Given as goal

abbrev pub invariant-loop-alloc : goal.invariant-loop-alloc
invariant-loop-alloc l = with_front l.roles.items (reading.more_roles_of (lexemes_of l.tokens.rest.now)) ≡ reading.read_roles (lexemes_of l.fn.tokens.rest.now)

abbrev pub decreases-loop-alloc : goal.decreases-loop-alloc
decreases-loop-alloc l = length (lexemes_of l.tokens.rest.now)
