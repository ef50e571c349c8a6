use Rattle.std.proofs.Common.{Ok, sym, ap, ◌∙◌}
use Rattle.std.proofs.lemmas.Result.{err_from_is_err_and}
use Rattle.scrib_lexer.specs.Lexeme.{lexemes_of}
use Rattle.scrib_parser.specs.Reading.{declarations_of}
use Rattle.scrib_parser.proofs.Modules.{declaration_takes}
use Rattle.scrib_parser.proofs.Declarations.{keeps, skips, refuses, ended}
use Rattle.scrib_parser.proofs.parse.declarations.Goals as goal

pub returns-in_err-declared : goal.returns-in_err-declared
returns-in_err-declared c =
    let p = err_from_is_err_and c.from_residual.result c.from_residual.ensures.1 in
    rw (p.1, p.2) (refuses c.args.levels c.loop-alloc.protocols.items (lexemes_of c.loop-alloc.tokens.rest.now) (declarations_of c.args.levels (lexemes_of c.args.tokens.now.rest.now)) c.in_err-declared.field-0.0 (sym c.loop-alloc-test.ensures) c.in_err-declared.ensures c.loop-alloc.invariant)

pub returns : goal.returns
returns c =
    rw c.fitted.ensures (ended c.args.levels c.loop-alloc.protocols.items (lexemes_of c.loop-alloc.tokens.rest.now) (declarations_of c.args.levels (lexemes_of c.args.tokens.now.rest.now)) (sym c.loop-alloc-test.ensures) c.loop-alloc.invariant)

pub loop-alloc-smaller-in-Continue-branch-2 : goal.loop-alloc-smaller-in-Continue-branch-2
loop-alloc-smaller-in-Continue-branch-2 c = declaration_takes c.args.levels _ _ _ c.in_ok-declared.ensures

pub loop-alloc-smaller : goal.loop-alloc-smaller
loop-alloc-smaller c = declaration_takes c.args.levels _ _ _ c.in_ok-declared.ensures

pub loop-alloc-preserved-in-Continue-branch-2 : goal.loop-alloc-preserved-in-Continue-branch-2
loop-alloc-preserved-in-Continue-branch-2 c =
    rw c.in_ok-push.ensures.items (keeps c.args.levels c.loop-alloc.protocols.items (lexemes_of c.loop-alloc.tokens.rest.now) (declarations_of c.args.levels (lexemes_of c.args.tokens.now.rest.now)) c.in-Some.protocol (lexemes_of c.declaration.new.tokens.rest.now) (sym c.loop-alloc-test.ensures) (c.in_ok-declared.ensures ∙ ap (λ d. Ok (d, lexemes_of c.declaration.new.tokens.rest.now)) c.in-Some.is) c.loop-alloc.invariant)

pub loop-alloc-preserved : goal.loop-alloc-preserved
loop-alloc-preserved c =
    skips c.args.levels c.loop-alloc.protocols.items (lexemes_of c.loop-alloc.tokens.rest.now) (declarations_of c.args.levels (lexemes_of c.args.tokens.now.rest.now)) (lexemes_of c.declaration.new.tokens.rest.now) (sym c.loop-alloc-test.ensures) (c.in_ok-declared.ensures ∙ ap (λ d. Ok (d, lexemes_of c.declaration.new.tokens.rest.now)) c.in_default.is) c.loop-alloc.invariant
