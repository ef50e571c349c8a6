use Rattle.std.proofs.Common.{ℕ, List, ◌++◌, ◌∙◌, ap}
use Rattle.std.proofs.lemmas.Result.{err_from_is_err_and, on_err_weaker}
use Rattle.scrib_hold_lines.proofs.Passings.{err_unadded, put_part_none, put_part_line, put_part_text}
use Rattle.scrib_hold_lines.proofs.output.append_put.Goals as goal

pub returns-in_err-extend_from_slice-clause-err : goal.returns-in_err-extend_from_slice-clause-err
returns-in_err-extend_from_slice-clause-err c =
    let p = err_from_is_err_and c.from_residual.result c.from_residual.ensures.1 in
    rw p.1 (put_part_none c.args.format c.args.text.now c.tail_of-tail.result.now c.args.output.now.items c.extend_from_slice.new.self.items c.tail_of-tail.ensures c.in_err-extend_from_slice.ensures.items)

pub returns-in_err-extend_from_slice-2-clause-err : goal.returns-in_err-extend_from_slice-2-clause-err
returns-in_err-extend_from_slice-2-clause-err c =
    let p = err_from_is_err_and c.from_residual-in_err-extend_from_slice-2.result c.from_residual-in_err-extend_from_slice-2.ensures.1 in
    rw p.1 (put_part_line c.args.format c.args.text.now c.tail_of-tail.result.now c.args.output.now.items c.extend_from_slice-2.new.self.items c.tail_of-tail.ensures
    (c.in_err-extend_from_slice-2.ensures.items ∙ c.in_ok-extend_from_slice.ensures.items ∙ ap (λ (t : List ℕ). c.args.output.now.items ++ t) c.put_line.ensures))

pub returns-clause-err : goal.returns-clause-err
returns-clause-err c =
    on_err_weaker c.extend_from_slice-3.result
    (λ same. put_part_text c.args.format c.args.text.now c.tail_of-tail.result.now c.args.output.now.items c.extend_from_slice-3.new.self.items c.tail_of-tail.ensures
    (same ∙ c.in_ok-extend_from_slice-2.ensures.items ∙ ap (λ (t : List ℕ). t ++ c.args.text.now) (c.in_ok-extend_from_slice.ensures.items ∙ ap (λ (t : List ℕ). c.args.output.now.items ++ t) c.put_line.ensures)))
    (err_unadded c.extend_from_slice-3.result c.extend_from_slice-2.new.self.items c.extend_from_slice-3.new.self.items c.tail_of-tail.result.now c.extend_from_slice-3.ensures.items)
