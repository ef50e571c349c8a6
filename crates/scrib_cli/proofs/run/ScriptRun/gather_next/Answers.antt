use Rattle.std.proofs.Common.{List, refl, sym, subst}
use Rattle.std.proofs.lemmas.Result.{IfOk-weaker, IfErr-weaker}
use Rattle.scrib_script_reader.specs.declared.item.Item.{Item}
use Rattle.scrib_script_reader.specs.Positions.{TakesFront}
use Rattle.scrib_cli.proofs.GatherLemmas.{gathers_after, passes_after}
use Rattle.scrib_cli.proofs.run.ScriptRun.gather_next.Goals as goal

pub returns-in-None-clause-ok : goal.returns-in-None-clause-ok
returns-in-None-clause-ok c =
    IfOk-weaker c.gather_other.result _ _
    (λ rest f. gathers_after c.args.self.now c.gather_other.new.self c.next_short.new.self c.args.piece.now rest.now c.in-None.ensures.taken f)
    c.gather_other.ensures.ok

pub returns-in-None-clause-limit : goal.returns-in-None-clause-limit
returns-in-None-clause-limit c =
    IfErr-weaker c.gather_other.result _ _
    (λ _ passes e. passes_after c.args.self.now.script c.next_short.new.self c.args.piece.now c.in-None.ensures.taken (passes e))
    c.gather_other.ensures.limit

pub returns-in_ok-gather_short-in-Some-clause-ok : goal.returns-in_ok-gather_short-in-Some-clause-ok
returns-in_ok-gather_short-in-Some-clause-ok c =
    let done = c.in_ok-gather_short-in-Some.ensures.ok in
    record {
      output_mode = refl;
      found = done.0;
      takes = subst (λ (items : List Item). TakesFront c.args.self.now.script c.next_short.new.self c.args.piece.now c.in-Some.rest.now items) (sym done.1) c.in-Some.ensures.taken;
      carried = done.2;
    }
