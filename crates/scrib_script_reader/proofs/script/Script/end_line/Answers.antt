use Rattle.std.proofs.Common.{◌+◌, ◌∷◌, [], ℕ, refl, ap}
use Rattle.std.specs.Prelude.{option_map}
use Rattle.std.proofs.lemmas.Result.{err_from_is_err_and}
use Rattle.scrib_script_reader.specs.Entries.{entry_list}
use Rattle.scrib_script_reader.specs.Positions.{as_text}
use Rattle.scrib_script_reader.proofs.LimitLemmas.{memory_is_other, past_with}
use Rattle.scrib_script_reader.proofs.ScriptLemmas.{takes_line}
use Rattle.scrib_script_reader.proofs.script.Script.end_line.Goals as goal

pub returns-in_err-bytes-clause-limit : goal.returns-in_err-bytes-clause-limit
returns-in_err-bytes-clause-limit c =
    let p = err_from_is_err_and c.from_residual.result c.from_residual.ensures.1 in
    rw p.1 (λ e. past_with c.args.self.now (10 ∷ []) 1 refl c.in_err-bytes.ensures.limit)

pub returns-in_err-entry-clause-limit : goal.returns-in_err-entry-clause-limit
returns-in_err-entry-clause-limit c =
    let p = err_from_is_err_and c.from_residual-in_err-entry.result c.from_residual-in_err-entry.ensures.1 in
    rw p.1 (λ e. absurd (memory_is_other p.0 p.2 e))

pub returns-clause-taken : goal.returns-clause-taken
returns-clause-taken c =
    takes_line c.args.self.now _ (option_map as_text c.in_ok-entry.text) (entry_list c.in_ok-entry.entry) c.in_ok-entry.ensures.ended refl c.clear.ensures.items
    (ap (λ (n : ℕ). n + 1) c.in_ok-entry.ensures.lines) c.in_ok-entry.ensures.limits c.in_ok-bytes.ensures.bytes c.in_ok-bytes.ensures.few_bytes c.in_ok-bytes.ensures.few_lines
