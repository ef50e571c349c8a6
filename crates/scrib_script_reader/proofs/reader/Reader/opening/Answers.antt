use Rattle.scrib_script_reader.proofs.NamedHeads.{open_says}
use Rattle.scrib_script_reader.proofs.reader.Reader.opening.Goals as goal

pub returns : goal.returns
returns c =
    let spelled = rw c.in-Some-2.is at c.in_ok-name.ensures in
    open_says c.args.bytes.now c.in-Some.head.text.now c.in-Some.head.id c.in-Some-2.name c.in-Some.ensures spelled
