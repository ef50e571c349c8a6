use Rattle.scrib_script_reader.proofs.line.line_of.Goals as goal

pub returns-in-Some : goal.returns-in-Some
returns-in-Some c = rw c.meaning.ensures c.in-Some.ensures
