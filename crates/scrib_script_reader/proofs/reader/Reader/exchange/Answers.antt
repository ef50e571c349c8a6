use Rattle.scrib_script_reader.proofs.Heads.{head-says}
use Rattle.scrib_script_reader.proofs.reader.Reader.exchange.Goals as goal

pub returns : goal.returns
returns c =
    let spelled = rw c.in-Some-2.is at c.in_ok-event.ensures in
    head-says c.args.bytes.now c.in-Some.head.text.now c.in-Some.head.direction c.in-Some.head.id c.in-Some-2.event c.in-Some.ensures spelled
