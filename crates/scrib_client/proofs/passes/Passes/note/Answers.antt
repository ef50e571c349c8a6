use Rattle.std.proofs.Common.{◌≡◌, ◌∙◌}
use Rattle.indexmap.specs.IndexMap.{set_value_at}
use Rattle.scrib_client.specs.ConnectionPasses.{pass_for}
use Rattle.scrib_client.proofs.PassLemmas.{before_kept, both_kept, own_pass, own_set, own_there, pass_there, pass_set, refused_so, value_read}
use Rattle.scrib_client.proofs.passes.Passes.note.Goals as goal

pub invariant_of-self : goal.invariant_of-self
invariant_of-self g c =
    let kept = c.find_or_connect.new.self.by_id.entries in
    let p = c.pair_mut-pass.result.1.now in
    let value = value_read c.args.id kept c.in-Ok.at c.pair_mut-pass.result.0.now p c.pair_mut-pass.ensures.value in
    record {
      own = own_set c.args.id kept c.in-Ok.at c.note.new.pass c.find_or_connect.new.self.own c.in-Ok.ensures.found
          ((both_kept p c.note.new.pass c.args.event c.note.result c.note.ensures.receipted c.note.ensures.err).0 ∙ own_there c.args.id kept c.in-Ok.at p c.find_or_connect.new.self.own c.in-Ok.ensures.found value);
    }

pub returns-in-Err-clause-own : goal.returns-in-Err-clause-own
returns-in-Err-clause-own g c = own_pass c.args.id _ c.args.self.now.by_id.entries c.args.self.now.own

pub returns : goal.returns
returns g c =
    let kept = c.find_or_connect.new.self.by_id.entries in
    let p = c.pair_mut-pass.result.1.now in
    let q = c.note.new.pass in
    let value = value_read c.args.id kept c.in-Ok.at c.pair_mut-pass.result.0.now p c.pair_mut-pass.ensures.value in
    let first : pass_for 0 kept c.args.id ≡ p = pass_there c.args.id 0 kept c.in-Ok.at p c.pair_mut-pass.ensures.unique c.in-Ok.ensures.found value in
    let after = pass_set c.args.id 0 kept c.in-Ok.at q c.pair_mut-pass.ensures.unique c.in-Ok.ensures.found in
    let left = both_kept p q c.args.event c.note.result c.note.ensures.receipted c.note.ensures.err in
    let before = before_kept c.args.self.now.by_id.entries kept (set_value_at kept c.in-Ok.at q) c.args.id p q first after left.1 c.in-Ok.ensures.kept in
    record {
      own = own_pass c.args.id _ c.args.self.now.by_id.entries c.args.self.now.own;
      noted = rw before c.note.ensures.ok;
      receipted = rw (before, after) c.note.ensures.receipted;
      fault = rw before (refused_so _ _ c.note.result c.note.ensures.fault);
      kept = rw (before, after) c.note.ensures.err;
    }
