use Rattle.std.proofs.Common.{List, subst}
use Rattle.std.proofs.lemmas.Result.{on_ok_weaker}
use Rattle.scrib_script_reader.specs.declared.item.Item.{Item}
use Rattle.scrib_run_service.specs.Outcomes.{TakesItems}
use Rattle.scrib_run_service.proofs.reading.submit_rare.Goals as goal

pub returns-clause-took : goal.returns-clause-took
returns-clause-took g c =
    on_ok_weaker c.submit_any.result
    (subst (λ (items : List Item). TakesItems c.args.connection.now c.submit_any.new.connection items) c.item_of.ensures)
    c.submit_any.ensures.took
