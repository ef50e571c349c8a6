use Rattle.scrib_script_reader.proofs.Heads.{comment_skipped}
use Rattle.scrib_script_reader.proofs.plain_line.is_comment.Goals as goal

pub returns-in-Some : goal.returns-in-Some
returns-in-Some c = λ _. comment_skipped c.args.bytes.now c.in-Some.field-0.now c.in-Some.ensures
