use Rattle.std.proofs.Common.{◌∙◌, sym, arith}
use Rattle.std.proofs.lemmas.List.{take_rest}
use Rattle.scrib_lexer.proofs.Quotes.{close_in-goes_on}
use Rattle.scrib_lexer.proofs.lex.close_in.Goals as goal

pub loop-i-preserved : goal.loop-i-preserved
loop-i-preserved c =
    let here = rw take_rest at c.begins_close.ensures in
    close_in-goes_on c.args.text.now c.loop-i.i (omega arith) (sym here ∙ c.if-begins_close.false) c.loop-i.invariant
