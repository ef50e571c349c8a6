use Rattle.std.proofs.Common.{List, ◌∙◌, sym, subst, arith}
use Rattle.std.proofs.lemmas.Result.{err_from_is_err_and}
use Rattle.scrib_script_reader.specs.declared.item.Item.{Item}
use Rattle.scrib_script_reader.specs.Positions.{TakesFront}
use Rattle.scrib_script_reader.proofs.ScriptLemmas.{front_item, passes_later, listed_none}
use Rattle.scrib_script_reader.proofs.LimitLemmas.{some_part}
use Rattle.scrib_script_reader.proofs.script.Script.next_item.Goals as goal

pub returns-then-is_some-clause-taken : goal.returns-then-is_some-clause-taken
returns-then-is_some-clause-taken c =
    front_item c.args.self.now c.loop-self.self c.next_entry.new.self c.args.piece.now c.loop-self.rest.now c.in_ok-entry.after.now c.in_ok-entry.entry c.into_item-item.result c.into_item-item.ensures
    c.loop-self.invariant.taken c.in_ok-entry.ensures.taken

pub loop-self-preserved : goal.loop-self-preserved
loop-self-preserved c =
    let front = front_item c.args.self.now c.loop-self.self c.next_entry.new.self c.args.piece.now c.loop-self.rest.now c.in_ok-entry.after.now c.in_ok-entry.entry c.into_item-item.result c.into_item-item.ensures
    c.loop-self.invariant.taken c.in_ok-entry.ensures.taken in
    record {
      taken = subst (λ (items : List Item). TakesFront c.args.self.now c.next_entry.new.self c.args.piece.now c.in_ok-entry.after.now items) (listed_none c.into_item-item.result c.if-is_some.ensures) front;
      within = omega (arith, c.in_ok-entry.ensures.shorter (some_part c.loop-self.rest.now c.loop-self-test.ensures), c.loop-self.invariant.within);
    }

pub returns-in_err-entry-clause-limit : goal.returns-in_err-entry-clause-limit
returns-in_err-entry-clause-limit c =
    let p = err_from_is_err_and c.from_residual.result c.from_residual.ensures.1 in
    rw p.1 (λ e. passes_later c.args.self.now c.loop-self.self c.args.piece.now c.loop-self.rest.now c.loop-self.invariant.taken (c.in_err-entry.ensures.limit (sym p.2 ∙ e)))
