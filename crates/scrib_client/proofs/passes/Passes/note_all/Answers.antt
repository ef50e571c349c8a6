use Rattle.std.proofs.Common.{◌≡◌, ◌∙◌, arith}
use Rattle.indexmap.specs.IndexMap.{set_value_at}
use Rattle.scrib_client.specs.ConnectionPasses.{pass_for}
use Rattle.scrib_client.proofs.PassLemmas.{replies_each, before_kept, both_kept_by_all, own_pass, own_set, own_there, pass_there, pass_set, value_read}
use Rattle.scrib_client.proofs.passes.Passes.note_all.Goals as goal

pub invariant_of-self : goal.invariant_of-self
invariant_of-self g c =
    let kept = c.find_or_connect.new.self.by_id.entries in
    let p = c.pair_mut-pass.result.1.now in
    let q = c.note_all.new.pass in
    let value = value_read c.args.id kept c.in-Ok.at c.pair_mut-pass.result.0.now p c.pair_mut-pass.ensures.value in
    record {
      own = own_set c.args.id kept c.in-Ok.at q c.find_or_connect.new.self.own c.in-Ok.ensures.found
          ((both_kept_by_all p q c.args.batch.events.items c.note_all.result.items c.note_all.ensures).0 ∙ own_there c.args.id kept c.in-Ok.at p c.find_or_connect.new.self.own c.in-Ok.ensures.found value);
    }

pub returns-in_default-clause-own : goal.returns-in_default-clause-own
returns-in_default-clause-own g c = own_pass c.args.id _ c.args.self.now.by_id.entries c.args.self.now.own

pub returns-clause-own : goal.returns-clause-own
returns-clause-own g c = own_pass c.args.id _ c.args.self.now.by_id.entries c.args.self.now.own

pub returns-clause-answered : goal.returns-clause-answered
returns-clause-answered g c =
    let kept = c.find_or_connect.new.self.by_id.entries in
    let p = c.pair_mut-pass.result.1.now in
    let q = c.note_all.new.pass in
    let value = value_read c.args.id kept c.in-Ok.at c.pair_mut-pass.result.0.now p c.pair_mut-pass.ensures.value in
    let first : pass_for 0 kept c.args.id ≡ p = pass_there c.args.id 0 kept c.in-Ok.at p c.pair_mut-pass.ensures.unique c.in-Ok.ensures.found value in
    let after = pass_set c.args.id 0 kept c.in-Ok.at q c.pair_mut-pass.ensures.unique c.in-Ok.ensures.found in
    let left = both_kept_by_all p q c.args.batch.events.items c.note_all.result.items c.note_all.ensures in
    let before = before_kept c.args.self.now.by_id.entries kept (set_value_at kept c.in-Ok.at q) c.args.id p q first after left.1 c.in-Ok.ensures.kept in
    rw (before, after) c.note_all.ensures

pub returns-clause-each : goal.returns-clause-each
returns-clause-each g c =
    omega (arith, replies_each c.pair_mut-pass.result.1.now c.note_all.new.pass c.args.batch.events.items c.note_all.result.items c.note_all.ensures, c.args.batch.events.ok.0, c.note_all.result.ok.0)
