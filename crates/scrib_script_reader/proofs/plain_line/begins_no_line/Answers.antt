use Rattle.std.proofs.Common.{sym, ◌∙◌}
use Rattle.scrib_script_reader.proofs.FirstBytes.{first_bytes_bad, false_of_not}
use Rattle.scrib_script_reader.proofs.plain_line.begins_no_line.Goals as goal

pub returns-in-len2-up : goal.returns-in-len2-up
returns-in-len2-up c = λ other.
    first_bytes_bad c.args.bytes.now c.in-len2-up.len_at_least (sym c.may_begin.ensures ∙ false_of_not c.may_begin.result other)
