use Rattle.std.proofs.Common.{length, ◌≡◌, ◌∙◌, ℕ, refl, sym, subst, take, ◌++◌, arith}
use Rattle.scrib_script_reader.specs.Positions.{capacity, as_text, text_of}
use Rattle.std.proofs.lemmas.Result.{err_from_is_err_and}
use Rattle.scrib_script_reader.proofs.LimitLemmas.{memory_is_other, some_part, one_last, past_with, counts_part}
use Rattle.scrib_script_reader.proofs.ScriptLemmas.{takes_part, takes_none, capacity_some, capacity_none}
use Rattle.scrib_script_reader.proofs.script.Script.take_part.Goals as goal
use Rattle.scrib_script_reader.proofs.script.Script.take_part.Goals.{then-is_some, else-is_some}

pub returns-then-is_empty-clause-taken : goal.returns-then-is_empty-clause-taken
returns-then-is_empty-clause-taken c = takes_none c.args.self.now c.args.part.now c.if-is_empty.ensures c.requires

pub returns-in_err-self-clause-limit : goal.returns-in_err-self-clause-limit
returns-in_err-self-clause-limit c =
    let p = err_from_is_err_and c.from_residual.result c.from_residual.ensures.1 in
    let some = some_part c.args.part.now c.if-is_empty.ensures in
    rw p.1 (λ e. (one_last c.args.part.now some c.requires, past_with c.args.self.now c.args.part.now (length c.args.part.now) refl c.in_err-self.ensures.limit))

pub returns-in_err-append_up_to-clause-limit : goal.returns-in_err-append_up_to-clause-limit
returns-in_err-append_up_to-clause-limit c =
    let p = err_from_is_err_and c.from_residual-in_err-append_up_to.result c.from_residual-in_err-append_up_to.ensures.1 in
    rw p.1 (λ e. absurd (memory_is_other p.0 p.2 e))

pub returns-clause-taken : goal.returns-clause-taken
returns-clause-taken c =
    let self = c.args.self.now in
    let part = c.args.part.now in
    let some = some_part c.args.part.now c.if-is_empty.ensures in
    elim c.if-is_some.branch [
      | then-is_some w ↦
          let e : c.if-is_some.capacity ≡ capacity (text_of c.args.self.now) = w.capacity-is ∙ sym (capacity_some as_text c.args.self.now.text w.if-is_some.ensures) in
          takes_part self _ part (counts_part self _ part (length c.args.part.now) refl some c.requires refl c.in_ok-self.ensures.bytes c.in_ok-self.ensures.few_bytes c.in_ok-self.ensures.few_lines refl) refl refl (λ h. subst (λ (n : ℕ). c.append_up_to.new.kept.items ≡ take n (c.args.self.now.line.items ++ c.args.part.now)) e (c.in_ok-append_up_to.ensures (omega (arith, h, e, c.args.self.now.line.ok.0)))) c.requires
      | else-is_some w ↦
          let e : c.if-is_some.capacity ≡ capacity (text_of c.args.self.now) = w.capacity-is ∙ sym (capacity_none as_text c.args.self.now.text w.if-is_some.ensures) in
          takes_part self _ part (counts_part self _ part (length c.args.part.now) refl some c.requires refl c.in_ok-self.ensures.bytes c.in_ok-self.ensures.few_bytes c.in_ok-self.ensures.few_lines refl) refl refl (λ h. subst (λ (n : ℕ). c.append_up_to.new.kept.items ≡ take n (c.args.self.now.line.items ++ c.args.part.now)) e (c.in_ok-append_up_to.ensures (omega (arith, h, e, c.args.self.now.line.ok.0)))) c.requires
    ]
