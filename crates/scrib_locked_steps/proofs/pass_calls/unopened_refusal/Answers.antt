use Rattle.std.proofs.Common.{Some, sym}
use Rattle.scrib_locked_steps.proofs.Notes.{compared_none}
use Rattle.scrib_locked_steps.proofs.pass_calls.unopened_refusal.Goals as goal

pub returns-in-Some : goal.returns-in-Some
returns-in-Some c rs p absent at newest = (sym at, compared_none rs p c.args.id c.args.newest.now (Some c.in-Some.place) absent at newest c.in-Some.ensures)
