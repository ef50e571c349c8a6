use Rattle.std.proofs.Common.{ap}
use Rattle.scrib_locked_steps.specs.Passes.{PassHeld}
use Rattle.scrib_client.proofs.PassLemmas.{connected, own_after_insert}
use Rattle.scrib_client.proofs.IndexLemmas.{index_inserted}
use Rattle.scrib_client.proofs.passes.Passes.connect.Goals as goal

pub invariant_of-self : goal.invariant_of-self
invariant_of-self g c = record {
  own = own_after_insert c.args.id c.args.self.now.by_id c.insert_full.new.self c.insert_full.result c.in_ok-pass.pass c.insert_full.ensures.entries c.insert_full.ensures.err (ap (λ (p : PassHeld). p.conversation) c.in_ok-pass.ensures.new.1) c.args.self.now.own;
}

pub returns-in-Ok-clause-found : goal.returns-in-Ok-clause-found
returns-in-Ok-clause-found g c = rw (c.in-Ok.ensures.entries, c.in-Ok.ensures.index) (index_inserted c.args.self.now.by_id.entries c.args.id c.in_ok-pass.pass)

pub returns-in-Ok-clause-kept : goal.returns-in-Ok-clause-kept
returns-in-Ok-clause-kept g c =
    connected c.args.self.now.by_id c.insert_full.new.self c.args.id c.in_ok-pass.ensures.new.0 c.in_ok-pass.pass c.requires.absent c.in-Ok.ensures.updates.1 c.in_ok-pass.ensures.new.1
