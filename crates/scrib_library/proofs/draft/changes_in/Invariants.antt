use Rattle.std.proofs.Common.{◌≡◌, take}
use Rattle.scrib_library.specs.Drafts.{shown_changes}
use Rattle.scrib_library.proofs.draft.changes_in.Given as goal

abbrev pub invariant-loop-edit : goal.invariant-loop-edit
invariant-loop-edit l = l.changes.items ≡ shown_changes (take l.edit-index l.edits)
