use Rattle.std.proofs.Common.{Option, subst}
use Rattle.std.proofs.lemmas.Result.{err_from_is_err_and, on_ok_weaker, on_err_weaker}
use Rattle.scrib_core.specs.Held.{state_of}
use Rattle.scrib_script_reader.specs.declared.item.Item.{Item}
use Rattle.scrib_script_reader.specs.Scripts.{item_list}
use Rattle.scrib_script_reader.specs.Positions.{EndSpells}
use Rattle.scrib_script_io.proofs.FaultLemmas.{not_limit}
use Rattle.scrib_cli.proofs.Results.{on_err_any}
use Rattle.scrib_cli.proofs.RunLemmas.{ended_item, ended_none, failed_last, failed_none}
use Rattle.scrib_cli.proofs.GatherLemmas.{carried_alone, part_alone}
use Rattle.scrib_cli.proofs.run.ScriptRun.finish.Goals as goal

pub returns-in_err-last-clause-err : goal.returns-in_err-last-clause-err
returns-in_err-last-clause-err g c = on_err_any c.from_residual.result (failed_none c.args.self.now (g.W.Write.contents c.args.writer.now))

pub returns-in_err-last-clause-fault : goal.returns-in_err-last-clause-fault
returns-in_err-last-clause-fault g c =
    let p = err_from_is_err_and c.from_residual.result c.from_residual.ensures.1 in
    rw p.1 (not_limit _ p.0 p.2 c.in_err-last.ensures.limit)

pub returns-in_err-gather_item-clause-err : goal.returns-in_err-gather_item-clause-err
returns-in_err-gather_item-clause-err g c = on_err_any c.from_residual-in_err-gather_item.result (failed_none c.args.self.now (g.W.Write.contents c.args.writer.now))

pub returns-in_default-clause-ok : goal.returns-in_default-clause-ok
returns-in_default-clause-ok g c =
    ended_none c.args.self.now c.in_ok-last.last (g.W.Write.contents c.args.writer.now) c.in_default.is c.in_ok-last.ensures.ends

pub returns-clause-ok : goal.returns-clause-ok
returns-clause-ok g c =
    let ends = subst (λ (o : Option Item). EndSpells c.args.self.now.script (item_list o)) c.in-Some.is c.in_ok-last.ensures.ends in
    on_ok_weaker c.write_all.result
    (λ written. ended_item c.args.self.now c.in-Some.item (state_of c.gather_item.new.core) (g.W.Write.contents c.args.writer.now) (g.W.Write.contents c.write_all.new.writer) ends
    (carried_alone c.args.self.now.output_mode c.in-Some.item (state_of c.args.self.now.core) (state_of c.gather_item.new.core) c.clear.new.self.bytes.items c.gather_item.new.gathered.bytes.items (g.W.Write.contents c.args.writer.now) (g.W.Write.contents c.write_all.new.writer) c.in_ok-gather_item.ensures.ok c.clear.ensures written))
    c.write_all.ensures.ok

pub returns-clause-err : goal.returns-clause-err
returns-clause-err g c =
    let ends = subst (λ (o : Option Item). EndSpells c.args.self.now.script (item_list o)) c.in-Some.is c.in_ok-last.ensures.ends in
    on_err_weaker c.write_all.result
    (λ part. failed_last c.args.self.now c.in-Some.item (g.W.Write.contents c.args.writer.now) (g.W.Write.contents c.write_all.new.writer) ends
    (part_alone c.args.self.now.output_mode c.in-Some.item (state_of c.args.self.now.core) (state_of c.gather_item.new.core) c.clear.new.self.bytes.items c.gather_item.new.gathered.bytes.items (g.W.Write.contents c.args.writer.now) (g.W.Write.contents c.write_all.new.writer) c.in_ok-gather_item.ensures.ok c.clear.ensures part))
    c.write_all.ensures.err
