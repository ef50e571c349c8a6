use Rattle.std.proofs.Common.{◌≡◌, true, subst, inl, inr}
use Rattle.scrib_lexer.specs.Pieces.{IsElement}
use Rattle.scrib_lexer.specs.Words.{in_line}
use Rattle.scrib_lexer.proofs.Spots.{past_in_line}
use Rattle.scrib_lexer.proofs.Lines.{token-in_line, comment-in_line}
use Rattle.scrib_lexer.proofs.lex.Line.past_element.Goals as goal

pub returns-in-Token-clause-spot : goal.returns-in-Token-clause-spot
returns-in-Token-clause-spot c =
    let bytes = c.args.bytes.now in
    let line : in_line bytes ≡ true = elim c.in-Token.is [
      | inl t ↦ token-in_line t.0 bytes (subst (λ e. IsElement e bytes) t.1 c.requires.element)
      | inr t ↦ comment-in_line bytes (subst (λ e. IsElement e bytes) t c.requires.element)
    ] in
    past_in_line c.args.self c.args.index bytes c.requires.within line
