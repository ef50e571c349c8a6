use Rattle.std.proofs.lemmas.Result.{IfErr-weaker}
use Rattle.scrib_cli.proofs.GatherLemmas.{passes_written}
use Rattle.scrib_cli.proofs.run.ScriptRun.take_piece.Goals as goal

pub returns-clause-limit : goal.returns-clause-limit
returns-clause-limit g c =
    IfErr-weaker c.gather_piece-taken.result _ _
    (λ _ passes e. passes_written c.args.self.now c.args.piece.now c.gather_piece-taken.new.self.gathered.bytes.items (g.W.Write.contents c.args.writer.now) (g.W.Write.contents c.gather_piece-taken.new.writer) (g.W.Write.contents c.write_all.new.writer) c.in_ok-write_all.ensures.ok (passes e))
    c.gather_piece-taken.ensures.limit
