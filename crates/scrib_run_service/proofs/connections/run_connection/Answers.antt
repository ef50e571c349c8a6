use Rattle.std.proofs.Common.{sym, subst}
use Rattle.scrib_run_service.specs.declared.connection.Connection.{Connection}
use Rattle.scrib_run_service.specs.Outputs.{IsConnectionText}
use Rattle.scrib_run_service.proofs.RunLemmas.{text_of_all, text_of_failed, closed_text}
use Rattle.scrib_run_service.proofs.connections.run_connection.Goals as goal
use Rattle.scrib_run_service.proofs.connections.run_connection.Goals.{in-Ok, in-Err-Read+in_ok-append_read_fault-in-Err-Read}

pub returns : goal.returns
returns g c =
    let f = c.args.common.now.format in
    let r = g.C.Read.remaining c.args.reader in
    let a = c.new-connection.result in
    let b = c.run_script.new.connection in
    let last = c.match-run_script.connection in
    let text : IsConnectionText f r last.lines.items = elim c.match-run_script.branch [
      | in-Ok w ↦ subst (λ (x : Connection). IsConnectionText f r x.lines.items) (sym w.connection-is) (text_of_all f r a b c.new-connection.ensures.lines c.new-connection.ensures.format w.in-Ok.ensures.ok)
      | in-Err-Read+in_ok-append_read_fault-in-Err-Read w ↦ subst (λ (x : Connection). IsConnectionText f r x.lines.items) (sym w.connection-is) (text_of_failed f r a b c.new-connection.ensures.lines c.new-connection.ensures.format (w.in-Err-Read.ensures.read w.in-Err-Read.field-0-is) w.append_read_fault.new.self.lines.items w.in_ok-append_read_fault-in-Err-Read.ensures)
    ] in
    closed_text c.close.result f r last.lines c.close.ensures.lines text
