use Rattle.scrib_lexer.specs.Lexeme.{lexemes_of}
use Rattle.scrib_parser.proofs.WholeModules.{is_found, is_only, is_fault}
use Rattle.scrib_parser.proofs.parse.parse.Goals as goal

pub returns-clause-found : goal.returns-clause-found
returns-clause-found c = is_found (lexemes_of c.args.tokens.now) c.whole.result c.whole.ensures

pub returns-clause-only : goal.returns-clause-only
returns-clause-only c = is_only (lexemes_of c.args.tokens.now) c.whole.result c.whole.ensures

pub returns-clause-fault : goal.returns-clause-fault
returns-clause-fault c = is_fault (lexemes_of c.args.tokens.now) c.whole.result c.whole.ensures
