use Rattle.std.proofs.Common.{◌+◌, ℕ, sym, subst}
use Rattle.std.proofs.lemmas.Result.{on_ok_weaker}
use Rattle.scrib_show.specs.Progress.{Takes}
use Rattle.scrib_show.proofs.RunLemmas.{end_none, end_entry}
use Rattle.scrib_show.proofs.show_run.ShowRun.finish.Goals as goal

pub returns-in_default-clause-ok : goal.returns-in_default-clause-ok
returns-in_default-clause-ok c =
    end_none c.args.self.now c.last_entry.new.self c.in_ok-last.last c.in_default.is c.in_ok-last.ensures.ends

pub returns-clause-ok : goal.returns-clause-ok
returns-clause-ok c =
    on_ok_weaker c.take.result
    (λ took. end_entry c.args.self.now c.last_entry.new.self c.take.new.self c.in_ok-last.last c.in-Some.entry c.in-Some.is c.in_ok-last.ensures.ends c.take.ensures.id
    (subst (λ (n : ℕ). Takes c.args.self.now.monitor c.take.new.self (n + 1) c.in-Some.entry) c.lines-number.ensures.is took))
    c.take.ensures.took
