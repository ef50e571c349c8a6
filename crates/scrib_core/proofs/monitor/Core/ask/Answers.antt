use Rattle.scrib_core.proofs.monitor.Core.ask.Goals as goal

pub returns-clause-answered : goal.returns-clause-answered
returns-clause-answered c = rw c.verdict_reply.ensures c.verdict_on-asked.ensures.answered

pub returns-clause-memory : goal.returns-clause-memory
returns-clause-memory c = rw c.verdict_reply.ensures c.verdict_on-asked.ensures.memory

pub returns-clause-refused : goal.returns-clause-refused
returns-clause-refused c = rw c.verdict_reply.ensures c.verdict_on-asked.ensures.refused
