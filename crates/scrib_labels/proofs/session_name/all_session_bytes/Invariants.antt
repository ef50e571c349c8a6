use Rattle.std.proofs.Common.{◌≡◌, drop}
use Rattle.scrib_labels.specs.SessionNames.{all_session_bytes}
use Rattle.scrib_labels.proofs.session_name.all_session_bytes.Given as goal

abbrev pub invariant-loop-byte : goal.invariant-loop-byte
invariant-loop-byte l = all_session_bytes (drop l.byte-index l.bytes) ≡ all_session_bytes l.bytes
