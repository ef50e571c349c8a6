use Rattle.std.proofs.Common.{sym}
use Rattle.scrib_core.specs.Held.{state_of}
use Rattle.scrib_cli.proofs.ItemLemmas.{permitted_carried_out}
use Rattle.scrib_cli.proofs.item_output.gather_asked.Goals as goal

pub returns-then-is_permitted-clause-ok : goal.returns-then-is_permitted-clause-ok
returns-then-is_permitted-clause-ok c =
    permitted_carried_out c.args.output_mode c.args.id (state_of c.args.core.now) c.is_permitted.result c.args.gathered.now.bytes.items c.add_permitted_verdict.new.self.bytes.items
    (c.prints_lines.ensures c.if-prints_lines.true)
    c.is_permitted.ensures
    (sym c.if-is_permitted.true)
    c.in_ok-add_permitted_verdict.ensures.ok
