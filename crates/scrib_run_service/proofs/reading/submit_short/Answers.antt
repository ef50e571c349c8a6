use Rattle.std.proofs.Common.{List, sym, ap, subst}
use Rattle.std.proofs.lemmas.Result.{on_ok_weaker}
use Rattle.scrib_script_reader.specs.declared.item.Item.{Item}
use Rattle.scrib_script_reader.specs.ShortLines.{short_items}
use Rattle.scrib_run_service.specs.Outcomes.{TakesItems}
use Rattle.scrib_run_service.proofs.reading.submit_short.Goals as goal

pub returns-in-Note-clause-took : goal.returns-in-Note-clause-took
returns-in-Note-clause-took g c =
    on_ok_weaker c.submit_note.result
    (subst (λ (items : List Item). TakesItems c.args.connection.now c.submit_note.new.self items) (sym (ap short_items c.in-Note.is)))
    c.submit_note.ensures.took
