use Rattle.std.proofs.Common.{◌≡◌, ◌∙◌, refl, sym}
use Rattle.indexmap.specs.IndexMap.{set_value_at}
use Rattle.scrib_client.specs.ConnectionPasses.{pass_for}
use Rattle.scrib_client.proofs.PassLemmas.{before_kept, own_pass, own_set, own_there, pass_there, pass_set, refused_so, value_read}
use Rattle.scrib_client.proofs.passes.Passes.ask.Goals as goal

pub invariant_of-self : goal.invariant_of-self
invariant_of-self g c =
    let kept = c.find_or_connect.new.self.by_id.entries in
    let p = c.pair_mut-pass.result.1.now in
    let value = value_read c.args.id kept c.in-Ok.at c.pair_mut-pass.result.0.now p c.pair_mut-pass.ensures.value in
    record {
      own = own_set c.args.id kept c.in-Ok.at p c.find_or_connect.new.self.own c.in-Ok.ensures.found (own_there c.args.id kept c.in-Ok.at p c.find_or_connect.new.self.own c.in-Ok.ensures.found value);
    }

pub returns-in-Err-clause-own : goal.returns-in-Err-clause-own
returns-in-Err-clause-own g c = own_pass c.args.id _ c.args.self.now.by_id.entries c.args.self.now.own

pub returns-clause-own : goal.returns-clause-own
returns-clause-own g c = own_pass c.args.id _ c.args.self.now.by_id.entries c.args.self.now.own

pub returns-clause-asked : goal.returns-clause-asked
returns-clause-asked g c =
    let kept = c.find_or_connect.new.self.by_id.entries in
    let p = c.pair_mut-pass.result.1.now in
    let value = value_read c.args.id kept c.in-Ok.at c.pair_mut-pass.result.0.now p c.pair_mut-pass.ensures.value in
    let first : pass_for 0 kept c.args.id ≡ p = pass_there c.args.id 0 kept c.in-Ok.at p c.pair_mut-pass.ensures.unique c.in-Ok.ensures.found value in
    let after = pass_set c.args.id 0 kept c.in-Ok.at p c.pair_mut-pass.ensures.unique c.in-Ok.ensures.found in
    let before = before_kept c.args.self.now.by_id.entries kept (set_value_at kept c.in-Ok.at p) c.args.id p p first after refl c.in-Ok.ensures.kept in
    rw before c.ask.ensures.ok

pub returns-clause-answered : goal.returns-clause-answered
returns-clause-answered g c =
    let kept = c.find_or_connect.new.self.by_id.entries in
    let p = c.pair_mut-pass.result.1.now in
    let value = value_read c.args.id kept c.in-Ok.at c.pair_mut-pass.result.0.now p c.pair_mut-pass.ensures.value in
    let first : pass_for 0 kept c.args.id ≡ p = pass_there c.args.id 0 kept c.in-Ok.at p c.pair_mut-pass.ensures.unique c.in-Ok.ensures.found value in
    let after = pass_set c.args.id 0 kept c.in-Ok.at p c.pair_mut-pass.ensures.unique c.in-Ok.ensures.found in
    let before = before_kept c.args.self.now.by_id.entries kept (set_value_at kept c.in-Ok.at p) c.args.id p p first after refl c.in-Ok.ensures.kept in
    rw before c.ask.ensures.answered

pub returns-clause-kept : goal.returns-clause-kept
returns-clause-kept g c =
    let kept = c.find_or_connect.new.self.by_id.entries in
    let p = c.pair_mut-pass.result.1.now in
    let value = value_read c.args.id kept c.in-Ok.at c.pair_mut-pass.result.0.now p c.pair_mut-pass.ensures.value in
    let first : pass_for 0 kept c.args.id ≡ p = pass_there c.args.id 0 kept c.in-Ok.at p c.pair_mut-pass.ensures.unique c.in-Ok.ensures.found value in
    let after = pass_set c.args.id 0 kept c.in-Ok.at p c.pair_mut-pass.ensures.unique c.in-Ok.ensures.found in
    let before = before_kept c.args.self.now.by_id.entries kept (set_value_at kept c.in-Ok.at p) c.args.id p p first after refl c.in-Ok.ensures.kept in
    after ∙ sym before

pub returns-clause-fault : goal.returns-clause-fault
returns-clause-fault g c =
    let kept = c.find_or_connect.new.self.by_id.entries in
    let p = c.pair_mut-pass.result.1.now in
    let value = value_read c.args.id kept c.in-Ok.at c.pair_mut-pass.result.0.now p c.pair_mut-pass.ensures.value in
    let first : pass_for 0 kept c.args.id ≡ p = pass_there c.args.id 0 kept c.in-Ok.at p c.pair_mut-pass.ensures.unique c.in-Ok.ensures.found value in
    let after = pass_set c.args.id 0 kept c.in-Ok.at p c.pair_mut-pass.ensures.unique c.in-Ok.ensures.found in
    let before = before_kept c.args.self.now.by_id.entries kept (set_value_at kept c.in-Ok.at p) c.args.id p p first after refl c.in-Ok.ensures.kept in
    rw before (refused_so _ _ c.ask.result c.ask.ensures.fault)
