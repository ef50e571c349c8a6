use Rattle.scrib_core.proofs.monitor.Core.note.Goals as goal

pub returns-clause-answered : goal.returns-clause-answered
returns-clause-answered c = rw c.note_reply.ensures c.note_event-noted.ensures.answered

pub returns-clause-memory : goal.returns-clause-memory
returns-clause-memory c = rw c.note_reply.ensures c.note_event-noted.ensures.memory

pub returns-clause-refused : goal.returns-clause-refused
returns-clause-refused c = rw c.note_reply.ensures c.note_event-noted.ensures.refused
