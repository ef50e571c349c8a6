use Rattle.std.proofs.Common.{◌∙◌, ◌∷◌, [], sym}
use Rattle.std.proofs.lemmas.Result.{err_from_is_err_and}
use Rattle.scrib_script_reader.proofs.LimitLemmas.{past_longer, limit_later}
use Rattle.scrib_script_reader.proofs.ScriptLemmas.{taken_then}
use Rattle.scrib_script_reader.proofs.script.Script.take_line.Goals as goal

pub returns-in_err-take_part-clause-limit : goal.returns-in_err-take_part-clause-limit
returns-in_err-take_part-clause-limit c =
    let p = err_from_is_err_and c.from_residual.result c.from_residual.ensures.1 in
    rw p.1 (λ e. let q = c.in_err-take_part.ensures.limit (sym p.2 ∙ e) in past_longer c.args.self.now c.args.part.now (10 ∷ []) q.1)

pub returns-clause-limit : goal.returns-clause-limit
returns-clause-limit c =
    limit_later c.end_line.result c.args.self.now c.take_part.new.self c.args.part.now (10 ∷ []) c.requires c.in_ok-take_part.ensures.taken.counts c.end_line.ensures.limit

pub returns-clause-taken : goal.returns-clause-taken
returns-clause-taken c =
    taken_then c.end_line.result c.args.self.now c.take_part.new.self c.end_line.new.self c.args.part.now (10 ∷ []) c.in_ok-take_part.ensures.taken c.end_line.ensures.taken
