use Rattle.scrib_shards.proofs.service.Service.turn.Goals as goal

pub returns-clause-ok : goal.returns-clause-ok
returns-clause-ok g c =
    let j = c.in_ok-turned.field-0 in
    (c.deref-library.result.now, c.deref_mut.result.now.records, c.turn_step-turned.new.shard.records, c.is_accepting.ensures, (j.name, j.events, c.in_ok-turned.ensures.ok))
