use Rattle.scrib_record.proofs.Blocks.{left_alike, left_same, left_of_same}
use Rattle.scrib_record.proofs.long_bytes.same_long_bytes.Goals as goal

pub loop-left-preserved : goal.loop-left-preserved
loop-left-preserved c =
    let a = c.loop-left.left.now in
    let b = c.loop-left.right.now in
    let now = c.loop-left.invariant in
    let first = c.same_block.ensures.0 c.if-not-same_block.false in (
      left_alike 16 a b now.0,
      (λ rest. now.1.0 (left_same 16 a b first rest), λ same. left_of_same 16 a b (now.1.1 same)),
    )
