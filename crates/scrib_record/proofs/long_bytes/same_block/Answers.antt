use Rattle.std.proofs.Common.{◌∙◌, ℕ, List, ap, sym, take}
use Rattle.scrib_record.proofs.Blocks.{both_halves, second_half, from_index}
use Rattle.scrib_record.proofs.long_bytes.same_block.Goals as goal

pub returns-then-same_eight : goal.returns-then-same_eight
returns-then-same_eight c =
    let a = c.args.a.now in
    let b = c.args.b.now in
    let later = c.same_eight-then-same_eight.ensures in
    let at_a = ap (λ (xs : List ℕ). take 8 xs) (from_index 8 a) in
    let at_b = ap (λ (xs : List ℕ). take 8 xs) (from_index 8 b) in (
      λ yes. both_halves a b c.requires.a c.requires.b (c.same_eight.ensures.0 c.if-same_eight.true) (sym at_a ∙ later.0 yes ∙ at_b),
      λ same. later.1 (at_a ∙ second_half a b same ∙ sym at_b),
    )
