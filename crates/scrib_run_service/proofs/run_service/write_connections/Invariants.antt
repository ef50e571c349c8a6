use Rattle.std.proofs.Common.{◌≡◌, ℕ, ◌+◌, List, Option, drop, map}
use Rattle.std.specs.Io.KnownBytes.{Appends}
use Rattle.scrib_script_io.specs.Writes.{AppendsPart}
use Rattle.scrib_run_service.specs.Outputs.{connections_text}
use Rattle.scrib_run_service.proofs.run_service.write_connections.Given as goal

abbrev pub invariant-loop-lines : goal.invariant-loop-lines
invariant-loop-lines g l = record {
  counted : l.number ≡ l.lines-index;
  all : (now : Option (List ℕ)) → Appends (g.W.Write.contents l.writer) now (connections_text l.format (l.number + 1) (map (λ v. v.items) (drop l.lines-index l.texts)))
      → Appends (g.W.Write.contents l.fn.writer) now (connections_text l.format 1 (map (λ v. v.items) l.texts));
  part : (now : Option (List ℕ)) → AppendsPart (g.W.Write.contents l.writer) now (connections_text l.format (l.number + 1) (map (λ v. v.items) (drop l.lines-index l.texts)))
      → AppendsPart (g.W.Write.contents l.fn.writer) now (connections_text l.format 1 (map (λ v. v.items) l.texts));
}
