use Rattle.std.proofs.Common.{◌∙◌, sym}
use Rattle.std.proofs.lemmas.Result.{err_from_is_err_and}
use Rattle.scrib_script_reader.specs.Entries.{entry_list}
use Rattle.scrib_script_reader.proofs.ScriptLemmas.{passes_line, passes_part, front_first, front_part}
use Rattle.scrib_script_reader.proofs.script.Script.next_entry.Goals as goal

pub returns-in_default-clause-taken : goal.returns-in_default-clause-taken
returns-in_default-clause-taken c = front_part c.args.self.now c.take_part.new.self c.args.piece.now c.in_ok-take_part.ensures.taken

pub returns-in_err-take_part-clause-limit : goal.returns-in_err-take_part-clause-limit
returns-in_err-take_part-clause-limit c =
    let p = err_from_is_err_and c.from_residual.result c.from_residual.ensures.1 in
    rw p.1 (λ e.
    let q = c.in_err-take_part.ensures.limit (sym p.2 ∙ e) in
    passes_part c.args.self.now c.args.piece.now q.0 q.1)

pub returns-clause-taken : goal.returns-clause-taken
returns-clause-taken c =
    front_first c.args.self.now c.take_line.new.self c.args.piece.now c.in-Some.at (entry_list c.in_ok-entry.entry) c.in-Some.ensures.within c.in-Some.ensures.lf c.in_ok-entry.ensures.taken

pub returns-in_err-entry-clause-limit : goal.returns-in_err-entry-clause-limit
returns-in_err-entry-clause-limit c =
    let p = err_from_is_err_and c.from_residual-in_err-entry.result c.from_residual-in_err-entry.ensures.1 in
    rw p.1 (λ e. passes_line c.args.self.now c.args.piece.now c.in-Some.at c.in-Some.ensures.within c.in-Some.ensures.lf c.in-Some.ensures.before (c.in_err-entry.ensures.limit (sym p.2 ∙ e)))
