use Rattle.std.proofs.Common.{length, ◌+◌, ◌∷◌, ◌++◌, [], refl, arith}
use Rattle.std.proofs.lemmas.List.{length-append}
use Rattle.std.proofs.lemmas.Result.{err_from_is_err_and}
use Rattle.scrib_script_reader.proofs.LimitLemmas.{memory_is_other, past_with, counts_line}
use Rattle.scrib_script_reader.proofs.ScriptLemmas.{text_outside, passed}
use Rattle.scrib_script_reader.proofs.script.Script.pass_line.Goals as goal

pub returns-in_err-self-clause-limit : goal.returns-in_err-self-clause-limit
returns-in_err-self-clause-limit c =
    let p = err_from_is_err_and c.from_residual.result c.from_residual.ensures.1 in
    rw p.1 (λ e. past_with c.args.self.now (c.args.line.now ++ 10 ∷ []) (length c.args.line.now + 1) (omega (arith, length-append c.args.line.now (10 ∷ []))) c.in_err-self.ensures.limit)

pub returns-in_err-meaning-clause-limit : goal.returns-in_err-meaning-clause-limit
returns-in_err-meaning-clause-limit c =
    let p = err_from_is_err_and c.from_residual-in_err-meaning.result c.from_residual-in_err-meaning.ensures.1 in
    rw p.1 (λ e. absurd (memory_is_other p.0 p.2 e))

pub returns-clause-taken : goal.returns-clause-taken
returns-clause-taken c =
    passed c.args.self.now _ c.args.line.now c.in_ok-meaning.meaning _ c.without_cr.result.now
    (counts_line c.args.self.now _ c.args.line.now (length c.args.line.now + 1) refl c.requires.no_lf refl c.in_ok-self.ensures.bytes c.in_ok-self.ensures.few_bytes c.in_ok-self.ensures.few_lines refl)
    (text_outside c.args.self.now c.requires.text) c.requires.line c.requires.no_lf
    c.without_cr.ensures c.in_ok-meaning.ensures c.entry_of-entry.ensures.text c.entry_of-entry.ensures.entry c.requires.line refl
