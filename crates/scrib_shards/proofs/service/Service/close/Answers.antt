use Rattle.scrib_shards.proofs.service.Service.close.Goals as goal

pub returns-in-Err-clause-fault : goal.returns-in-Err-clause-fault
returns-in-Err-clause-fault g c = (c.deref_mut.result.now, rw c.deref-3.ensures.value at c.in-Err.ensures.fault)
