use Rattle.std.proofs.Common.{◌+◌, take, sym}
use Rattle.scrib_script_io.proofs.WriterLemmas.{part_all, part_at, appends_kept, wrote, wrote_within}
use Rattle.scrib_script_io.proofs.writing.write_out.Goals as goal
use Rattle.scrib_script_io.proofs.writing.write_out.Goals.{in-Ok, in-Err+else-ne}

pub returns-then-at-bytes-clause-ok : goal.returns-then-at-bytes-clause-ok
returns-then-at-bytes-clause-ok g c =
    part_all (g.W.Write.contents c.args.writer.now) (g.W.Write.contents c.loop.writer) c.loop.at c.args.bytes.now (sym c.if-at-bytes.true) c.loop.invariant.1

pub returns-in-Ok-eq0-clause-err : goal.returns-in-Ok-eq0-clause-err
returns-in-Ok-eq0-clause-err g c =
    part_at (g.W.Write.contents c.args.writer.now) (g.W.Write.contents c.write.new.self) (c.loop.at + c.in-Ok-eq0.field-0) c.args.bytes.now
    (wrote (g.W.Write.contents c.args.writer.now) (g.W.Write.contents c.loop.writer) (g.W.Write.contents c.write.new.self) c.loop.at c.in-Ok-eq0.field-0 c.args.bytes.now c.loop.invariant.1 c.in-Ok-eq0.ensures.bytes)

pub returns-then-ne-clause-err : goal.returns-then-ne-clause-err
returns-then-ne-clause-err g c =
    part_at (g.W.Write.contents c.args.writer.now) (g.W.Write.contents c.write.new.self) c.loop.at c.args.bytes.now
    (appends_kept (g.W.Write.contents c.args.writer.now) (g.W.Write.contents c.loop.writer) (g.W.Write.contents c.write.new.self) (take c.loop.at c.args.bytes.now) c.loop.invariant.1 c.in-Err.ensures.bytes)

pub loop-preserved : goal.loop-preserved
loop-preserved g c = elim c.match-write.branch [
  | in-Ok w ↦
      rw w.at-is (
        wrote_within c.loop.at w.in-Ok.n c.args.bytes.now c.loop.invariant.0 w.in-Ok.ensures.bound,
        wrote (g.W.Write.contents c.args.writer.now) (g.W.Write.contents c.loop.writer) (g.W.Write.contents c.write.new.self) c.loop.at w.in-Ok.n c.args.bytes.now c.loop.invariant.1 w.in-Ok.ensures.bytes,
      )
  | in-Err+else-ne w ↦
      rw w.at-is (
        c.loop.invariant.0,
        appends_kept (g.W.Write.contents c.args.writer.now) (g.W.Write.contents c.loop.writer) (g.W.Write.contents c.write.new.self) (take c.loop.at c.args.bytes.now) c.loop.invariant.1 w.in-Err.ensures.bytes,
      )
]

pub returns-clause-err : goal.returns-clause-err
returns-clause-err g c =
    part_at (g.W.Write.contents c.args.writer.now) (g.W.Write.contents c.loop.writer) c.loop.at c.args.bytes.now c.loop.invariant.1
