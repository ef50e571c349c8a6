use Rattle.std.proofs.lemmas.Result.{on_ok_weaker}
use Rattle.scrib_hold_lines.proofs.Passings.{ok_added, written_closing}
use Rattle.scrib_hold_lines.proofs.output.append_closing.Goals as goal

pub returns-clause-ok : goal.returns-clause-ok
returns-clause-ok c =
    on_ok_weaker c.extend_from_slice.result
    (λ is. written_closing c.args.closing.now c.in-Some.text.now c.args.output.now.items c.extend_from_slice.new.self.items c.in-Some.ensures is)
    (ok_added c.extend_from_slice.result c.args.output.now.items c.extend_from_slice.new.self.items c.in-Some.text.now c.extend_from_slice.ensures.items)
