use Rattle.scrib_core.proofs.monitor.Core.close.Goals as goal

pub returns-clause-answered : goal.returns-clause-answered
returns-clause-answered c = rw c.close_reply.ensures c.close_conversation-closed.ensures.answered

pub returns-clause-memory : goal.returns-clause-memory
returns-clause-memory c = rw c.close_reply.ensures c.close_conversation-closed.ensures.memory

pub returns-clause-refused : goal.returns-clause-refused
returns-clause-refused c = rw c.close_reply.ensures c.close_conversation-closed.ensures.refused
