use Rattle.std.proofs.lemmas.Result.{on_ok_weaker}
use Rattle.scrib_labels.proofs.NumberedLines.{numbered_fields}
use Rattle.scrib_labels.proofs.session_line.push_numbered_line.Goals as goal

pub returns-clause-fields : goal.returns-clause-fields
returns-clause-fields c =
    on_ok_weaker c.push_bytes-5.result
    (λ _. λ h. numbered_fields c.args.line.json c.args.line.word.now c.args.line.rest.now c.args.number h c.ranges.number.fits)
    c.push_bytes-5.ensures
