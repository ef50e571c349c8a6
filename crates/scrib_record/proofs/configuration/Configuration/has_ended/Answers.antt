use Rattle.scrib_record.specs.Versions.{meaning_of}
use Rattle.scrib_record.proofs.AdvanceLemmas.{at_read}
use Rattle.scrib_record.proofs.CompleteLogLemmas.{ended_test}
use Rattle.scrib_record.proofs.ConfigurationLemmas.{state_within}
use Rattle.scrib_record.proofs.configuration.Configuration.has_ended.Goals as goal

pub edges-edges-requires : goal.edges-edges-requires
edges-edges-requires c =
    let v = c.args.version.now in
    let a = meaning_of v in
    let role = c.requires.declared in
    let reached = c.requires.reached in
    state_within a v.machines reached.0 role.0 c.args.place c.index-role_state.result.now c.index-machines-place.result
    (at_read a v.machines c.machines.result.now reached.0 c.args.self.now role.0 c.args.place c.index-role_state.result.now c.index-machines-place.result c.machines.ensures.follow reached.1 role.1 c.index-role_state.ensures c.machines.ensures.machines c.index-machines-place.is)

pub returns : goal.returns
returns c log st role place =
    let v = c.args.version.now in
    let a = meaning_of v in
    let at = at_read a v.machines c.machines.result.now log c.args.self.now role c.args.place c.index-role_state.result.now c.index-machines-place.result c.machines.ensures.follow st place c.index-role_state.ensures c.machines.ensures.machines c.index-machines-place.is in
    ended_test a v.machines log role c.args.place c.index-role_state.result.now c.index-machines-place.result c.edges-edges.result.now c.is_empty.result at c.edges-edges.ensures.here c.is_empty.ensures
