use Rattle.scrib_library.specs.Drafts.{IsDraft}
use Rattle.scrib_library.proofs.draft.draft_of.Given as goal

abbrev pub invariant-loop-named : goal.invariant-loop-named
invariant-loop-named l = IsDraft l.versions l.yielded l.fn.used l.edits.items l.next
