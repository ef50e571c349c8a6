use Rattle.scrib_script_reader.proofs.reader.Reader.other_short_line.Goals as goal

pub returns-in-Some : goal.returns-in-Some
returns-in-Some c = c.numbered.ensures c.args.bytes.now c.in-Some.ensures

pub returns-in-None : goal.returns-in-None
returns-in-None c = c.named_short_line.ensures c.args.number
