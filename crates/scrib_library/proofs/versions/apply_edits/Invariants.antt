use Rattle.std.proofs.Common.{◌+◌, ◌≤◌, length}
use Rattle.std.specs.Prelude.{vec_len, vec_capacity}
use Rattle.scrib_library.specs.Drafts.{AreApplied}
use Rattle.scrib_library.proofs.versions.apply_edits.Given as goal

abbrev pub invariant-loop-edit : goal.invariant-loop-edit
invariant-loop-edit l = record {
  made : AreApplied l.fn.versions.items l.yielded l.versions.items;
  room : vec_len l.versions + vec_len l.fn.edits ≤ vec_capacity l.versions + length l.yielded;
}
