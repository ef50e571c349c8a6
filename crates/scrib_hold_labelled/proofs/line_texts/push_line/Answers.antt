use Rattle.std.proofs.lemmas.Result.{on_ok_weaker}
use Rattle.scrib_hold_labelled.specs.WrittenLines.{ended}
use Rattle.scrib_hold_labelled.proofs.TextLemmas.{ok_added, two_added}
use Rattle.scrib_hold_labelled.proofs.line_texts.push_line.Goals as goal

pub returns : goal.returns
returns c =
    let end = c.end_of-end.result.now in
    on_ok_weaker c.extend_from_slice-2.result
    (λ h. two_added c.args.out.now.items c.extend_from_slice.new.self.items c.extend_from_slice-2.new.self.items c.args.text.now end (ended c.args.text.now) c.in_ok-extend_from_slice.ensures.items h c.end_of-end.ensures)
    (ok_added c.extend_from_slice-2.result c.extend_from_slice.new.self.items c.extend_from_slice-2.new.self.items end c.extend_from_slice-2.ensures.items)
