use Rattle.std.proofs.Common.{◌∙◌, sym, length}
use Rattle.std.proofs.lemmas.Bool.{eqb-false}
use Rattle.scrib_holdback.proofs.WaitingLemmas.{skipped_one, some_since}
use Rattle.scrib_holdback.proofs.waiting.push_empty.Goals as goal

pub returns-clause-ok : goal.returns-clause-ok
returns-clause-ok g c =
    skipped_one c.args.slots.now.items c.push_back.new.self.items
    (some_since c.args.slots.now.len (length c.args.slots.now.items) (eqb-false c.args.slots.now.len 0 (sym c.is_empty.ensures ∙ c.if-is_empty.false)) c.args.slots.now.ok.0)
    c.in_ok-push_back.ensures.items
