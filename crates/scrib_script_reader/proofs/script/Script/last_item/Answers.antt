use Rattle.scrib_script_reader.proofs.ScriptLemmas.{last_items}
use Rattle.scrib_script_reader.proofs.script.Script.last_item.Goals as goal

pub returns-clause-ends : goal.returns-clause-ends
returns-clause-ends c = last_items c.args.self.now c.in_ok-entry.entry c.into_item.result c.into_item.ensures c.in_ok-entry.ensures.ends
