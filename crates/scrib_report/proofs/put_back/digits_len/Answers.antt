use Rattle.std.proofs.Common.{sym, arith}
use Rattle.std.proofs.lemmas.Bool.Decides.{nat_tests}
use Rattle.std.proofs.lemmas.List.Sums.{prefix_len_is}
use Rattle.scrib_types.specs.Names.{is_digit}
use Rattle.scrib_report.proofs.put_back.digits_len.Goals as goal

pub returns-then-text-at-lt48-clause-is : goal.returns-then-text-at-lt48-clause-is
returns-then-text-at-lt48-clause-is c = sym (prefix_len_is is_digit c.args.text.now c.loop-at.at 0 c.loop-at.auto.at-end c.loop-at.invariant (λ _. grind (arith, nat_tests)))

pub returns-clause-is : goal.returns-clause-is
returns-clause-is c = sym (prefix_len_is is_digit c.args.text.now _ 0 (omega arith) (λ k h. c.loop-at.invariant k (omega arith)) (λ h. absurd (omega arith)))
