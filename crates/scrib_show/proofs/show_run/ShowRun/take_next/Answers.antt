use Rattle.std.proofs.Common.{◌+◌, ℕ, sym, subst}
use Rattle.scrib_show.specs.Progress.{Takes}
use Rattle.scrib_show.proofs.RunLemmas.{front_unended, front_entry}
use Rattle.scrib_show.proofs.show_run.ShowRun.take_next.Goals as goal

pub returns-in_default-clause-ok : goal.returns-in_default-clause-ok
returns-in_default-clause-ok c =
    front_unended c.args.self.now c.next_entry.new.self c.args.piece.now c.in_ok-entry.rest.now c.in_ok-entry.entry c.in_default.is c.in_ok-entry.ensures.taken

pub returns-clause-ok : goal.returns-clause-ok
returns-clause-ok c =
    front_entry c.args.self.now c.next_entry.new.self c.take.new.self c.args.piece.now c.in_ok-entry.rest.now c.in_ok-entry.entry c.in-Some.entry c.in-Some.is c.in_ok-entry.ensures.taken c.take.ensures.id
    (subst (λ (n : ℕ). Takes c.args.self.now.monitor c.take.new.self (n + 1) c.in-Some.entry) c.lines-number.ensures.is c.in_ok-take.ensures.took)
