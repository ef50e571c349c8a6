use Rattle.std.proofs.Common.{◌≡◌, true, take}
use Rattle.std.specs.List.{list_all}
use Rattle.scrib_script_reader.specs.Fields.{is_blank}
use Rattle.scrib_objects.proofs.exchange_members.after_blanks.Given as goal

abbrev pub invariant-loop-at : goal.invariant-loop-at
invariant-loop-at l = list_all is_blank (take l.at l.bytes) ≡ true
