use Rattle.std.proofs.Common.{◌≤◌, ◌-◌, ◌++◌, ◌∙◌, ap, codes, drop, length, arith}
use Rattle.std.proofs.lemmas.List.{length-drop, take_all}
use Rattle.std.specs.Fmt.{decimal}
use Rattle.scrib_report.proofs.EventLine.{end_added, short_digits}
use Rattle.scrib_report.proofs.event_line.push_permitted_verdict.Goals as goal

pub write_digits-id_at-requires : goal.write_digits-id_at-requires
write_digits-id_at-requires c =
    let few : length (decimal c.from.result) ≤ 10 = rw c.from.ensures (short_digits c.args.id c.ranges.id.fits) in
    (omega (arith, few), omega arith)

pub returns-clause-ok : goal.returns-clause-ok
returns-clause-ok c =
    let one = c.write_digits-id_at in
    let text = one.ensures.written ∙ ap (λ i. decimal i ++ codes " permitted\n") c.from.ensures in
    let behind : length (drop one.result one.new.buf) ≤ 49 - one.result = omega (arith, length-drop one.result one.new.buf, one.auto.buf) in
    end_added c.extend_from_slice.result _ _ _ (decimal c.args.id ++ codes " permitted\n") (take_all (49 - one.result) (drop one.result one.new.buf) behind ∙ text) c.extend_from_slice.ensures.items
