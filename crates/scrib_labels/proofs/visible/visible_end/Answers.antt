use Rattle.std.proofs.Common.{◌≡◌, ◌<◌, ℕ, false, length, sym, arith}
use Rattle.std.proofs.lemmas.List.Sums.{prefix_len_is}
use Rattle.std.proofs.lemmas.Bool.Decides.{nat_tests}
use Rattle.scrib_labels.specs.Tags.{is_visible}
use Rattle.scrib_labels.proofs.visible.visible_end.Goals as goal
use Rattle.scrib_labels.proofs.visible.visible_end.Goals.{then-bytes-at-lt33-via-then-bytes-at-lt33, then-bytes-at-lt33-via-else-bytes-at-lt33+then-bytes-at-gt126}

below : (b : ℕ) → b < 33 → is_visible b ≡ false
below b h = grind (arith, nat_tests)

above : (b : ℕ) → 126 < b → is_visible b ≡ false
above b h = grind (arith, nat_tests)

pub returns-then-bytes-at-lt33 : goal.returns-then-bytes-at-lt33
returns-then-bytes-at-lt33 c =
    sym (prefix_len_is is_visible c.args.bytes.now c.loop-at.at 0 (omega arith) c.loop-at.invariant
    (λ more. elim c.then-bytes-at-lt33.branch [
      | then-bytes-at-lt33-via-then-bytes-at-lt33 w ↦ below _ w.if-bytes-at-lt33.true
      | then-bytes-at-lt33-via-else-bytes-at-lt33+then-bytes-at-gt126 w ↦ above _ w.if-bytes-at-gt126.true
    ]))

pub returns : goal.returns
returns c = sym (prefix_len_is is_visible c.args.bytes.now (length c.args.bytes.now) 0 (omega arith) (λ k within. c.loop-at.invariant k (omega arith)) (λ more. absurd (omega arith)))
