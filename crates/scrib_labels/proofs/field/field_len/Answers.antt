use Rattle.std.proofs.Common.{◌∙◌, sym, arith}
use Rattle.std.proofs.lemmas.List.Sums.{position_or_len_is}
use Rattle.scrib_script_reader.specs.Fields.{is_blank}
use Rattle.scrib_labels.proofs.field.field_len.Goals as goal

pub returns-then-is_blank-clause-is : goal.returns-then-is_blank-clause-is
returns-then-is_blank-clause-is c = sym (position_or_len_is is_blank c.args.bytes.now c.loop-at.at 0 c.loop-at.auto.at-end c.loop-at.invariant (λ _. sym c.is_blank.ensures ∙ c.if-is_blank.true))

pub returns-clause-is : goal.returns-clause-is
returns-clause-is c = sym (position_or_len_is is_blank c.args.bytes.now _ 0 (omega arith) (λ k h. c.loop-at.invariant k (omega arith)) (λ h. absurd (omega arith)))
