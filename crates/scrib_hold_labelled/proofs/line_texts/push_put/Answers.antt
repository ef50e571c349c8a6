use Rattle.std.proofs.lemmas.Result.{on_ok_weaker}
use Rattle.scrib_hold_labelled.proofs.TextLemmas.{object_added, ok_added, put_added}
use Rattle.scrib_hold_labelled.proofs.line_texts.push_put.Goals as goal

pub returns-then-objects : goal.returns-then-objects
returns-then-objects c = object_added c.args.objects c.args.out.now.items c.push_line.new.out.items c.args.text.now c.args.put.now c.if-objects.true c.in_ok-push_line.ensures

pub returns : goal.returns
returns c =
    let tail = c.tail_of-tail.result.now in
    on_ok_weaker c.extend_from_slice-2.result
    (λ h. put_added c.args.objects c.args.out.now.items c.push_line.new.out.items c.extend_from_slice.new.self.items c.extend_from_slice-2.new.self.items c.args.text.now c.args.put.now tail c.if-objects.false c.in_ok-push_line.ensures
    c.in_ok-extend_from_slice.ensures.items h c.tail_of-tail.ensures)
    (ok_added c.extend_from_slice-2.result c.extend_from_slice.new.self.items c.extend_from_slice-2.new.self.items tail c.extend_from_slice-2.ensures.items)
