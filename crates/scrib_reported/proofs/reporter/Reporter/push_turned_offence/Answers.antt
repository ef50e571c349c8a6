use Rattle.std.proofs.lemmas.Result.{on_ok_weaker}
use Rattle.scrib_core.specs.Held.{state_of}
use Rattle.scrib_reported.proofs.ReportLemmas.{turn_changes, turn_stays}
use Rattle.scrib_reported.proofs.reporter.Reporter.push_turned_offence.Goals as goal

pub returns-then-is_reported : goal.returns-then-is_reported
returns-then-is_reported c = λ i place events role name reported.
    let same = c.is_reported.ensures.same c.if-is_reported.true in
    turn_stays c.args.head (state_of c.args.core.now) c.args.id c.args.self.now place role c.args.allowed c.in_ok-found.found same.0 (c.in_ok-found.ensures place role reported) same.1 same.2 i events name

pub returns : goal.returns
returns c =
    on_ok_weaker c.push_offence.result
    (λ a. λ i place events role name reported. turn_changes c.args.head (state_of c.args.core.now) c.args.id c.args.self.now c.push_offence.new.self place role c.args.allowed c.in_ok-found.found
    (c.in_ok-found.ensures place role reported) (c.is_reported.ensures.other c.if-is_reported.false) a i events name)
    c.push_offence.ensures
