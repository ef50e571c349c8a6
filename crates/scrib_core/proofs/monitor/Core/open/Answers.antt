use Rattle.scrib_core.proofs.monitor.Core.open.Goals as goal

pub returns-clause-answered : goal.returns-clause-answered
returns-clause-answered c = rw c.open_reply.ensures c.open_conversation-opened.ensures.answered

pub returns-clause-memory : goal.returns-clause-memory
returns-clause-memory c = rw c.open_reply.ensures c.open_conversation-opened.ensures.memory

pub returns-clause-refused : goal.returns-clause-refused
returns-clause-refused c = rw c.open_reply.ensures c.open_conversation-opened.ensures.refused
