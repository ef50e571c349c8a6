use Rattle.std.proofs.Common.{Option, sym, subst}
use Rattle.scrib_script_reader.specs.declared.item.Item.{Item}
use Rattle.scrib_script_reader.specs.Scripts.{item_list}
use Rattle.scrib_run_service.specs.Outcomes.{TakesItems}
use Rattle.scrib_run_service.proofs.ConnectionLemmas.{takes_none}
use Rattle.scrib_run_service.proofs.reading.submit_any.Goals as goal

pub returns-in-None-clause-took : goal.returns-in-None-clause-took
returns-in-None-clause-took g c = subst (λ (o : Option Item). TakesItems c.args.connection.now c.args.connection.now (item_list o)) (sym c.in-None.is) (takes_none c.args.connection.now)
