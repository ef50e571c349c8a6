use Rattle.scrib_cli.proofs.reading.read_text.Goals as goal

pub returns-clause-text : goal.returns-clause-text
returns-clause-text g c = rw c.from_vec.ensures c.in_ok-text.ensures.text
