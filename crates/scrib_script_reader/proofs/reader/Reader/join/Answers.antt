use Rattle.scrib_script_reader.proofs.NamedHeads.{join_says}
use Rattle.scrib_script_reader.proofs.reader.Reader.join.Goals as goal

pub returns : goal.returns
returns c =
    let spelled = rw c.in-Some-2.is at c.in_ok-event.ensures in
    join_says c.args.bytes.now c.in-Some.head.text.now c.in-Some.head.id c.in-Some-2.event c.in-Some.ensures spelled
