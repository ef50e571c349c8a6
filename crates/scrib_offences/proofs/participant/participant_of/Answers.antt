use Rattle.scrib_record.specs.Versions.{meaning_of}
use Rattle.scrib_record.proofs.AdvanceLemmas.{at_read}
use Rattle.scrib_record.proofs.ConfigurationLemmas.{state_within}
use Rattle.scrib_offences.proofs.MachineSteps.{type_steps}
use Rattle.scrib_offences.proofs.participant.participant_of.Goals as goal

pub returns : goal.returns
returns c role place =
    let v = c.args.version.now in
    let a = meaning_of v in
    let conf = c.args.configuration.now in
    let s = c.index.result.now in
    let m = c.index-machines-place.result in
    let i = c.args.place in
    let reached = c.requires.reached in
    let first = at_read a v.machines c.machines.result.now reached.0 conf role i s m c.machines.ensures.follow reached.1 place c.index.ensures c.machines.ensures.machines c.index-machines-place.is in
    record {
      place = place;
      within = state_within a v.machines reached.0 role i s m first;
      after = λ log st.
          let at = at_read a v.machines c.machines.result.now log conf role i s m c.machines.ensures.follow st place c.index.ensures c.machines.ensures.machines c.index-machines-place.is in
          record {
            joined = at.role_state.joined;
            exact = λ left x act. type_steps a v.machines log role i s m at left x act;
          };
    }
