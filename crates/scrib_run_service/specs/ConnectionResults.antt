-- The results of connections (this project's own). `r` holds the bytes that a reader has left, where they are known.
use Rattle.std.specs.Prelude.{ℕ, List, Option, Result, IfOk}
use Rattle.std.specs.List.{AllZip}
use Rattle.scrib_core.specs.declared.format.Format.{Format}
use Rattle.scrib_run_service.specs.declared.connection.Closed.{Closed}
use Rattle.scrib_run_service.specs.Outputs.{IsConnectionText}

-- where the connection did not fail, it has the lines of the script
abbrev pub IsConnectionClosed : {E : Type 0} → Format → Option (List ℕ) → Result Closed E → Type 0
IsConnectionClosed f r ran = IfOk ran (λ closed. IsConnectionText f r closed.lines.items)

-- each connection has the lines of its own script
abbrev pub AreClosed : {E : Type 0} → Format → List (Option (List ℕ)) → List (Result Closed E) → Type 0
AreClosed f readers ran = AllZip (IsConnectionClosed f) readers ran

-- each text has the lines of its own script
abbrev pub AreTexts : Format → List (Option (List ℕ)) → List (List ℕ) → Type 0
AreTexts f readers texts = AllZip (IsConnectionText f) readers texts
