use Rattle.std.proofs.Common.{◌≡◌, ◌<◌, ◌-◌, ◌+◌, ◌%◌, ◌^◌, ◌∙◌, min, length, get_or, refl, arith}
use Rattle.std.proofs.lemmas.List.{get_or-replicate, length-set}
use Rattle.scrib_settlement.proofs.ShareLemmas.{share_counted}
use Rattle.scrib_settlement.proofs.shares.shares_of.Goals as goal

pub loop-pass-init : goal.loop-pass-init
loop-pass-init c = record {
  size = refl;
  counted = λ k h. get_or-replicate 64 k 0 0 (omega (arith, c.requires.most));
}

pub loop-pass-preserved : goal.loop-pass-preserved
loop-pass-preserved c =
    let p = c.pass-item.result in
    let size : length c.loop-pass.shares ≡ 64 = c.loop-pass.invariant.size in
    let within : p.conversation % c.args.count < length c.loop-pass.shares = omega arith in
    let in_passes : c.loop-pass.pass-index < length c.args.passes.now = omega arith in
    let now : c.saturating_add.result ≡ min (get_or c.loop-pass.shares (p.conversation % c.args.count) 0 + length p.receipts) (2 ^ 64 - 1) =
    rw (c.conversation.ensures, c.receipts.ensures.all) at c.saturating_add.ensures in
    rw c.conversation.ensures (record {
      size = length-set c.loop-pass.shares (p.conversation % c.args.count) c.saturating_add.result ∙ size;
      counted = λ k h. share_counted c.args.count c.args.passes.now c.loop-pass.pass-index p k c.loop-pass.shares c.saturating_add.result
          within in_passes c.pass-item.is (c.loop-pass.invariant.counted k h) now;
    })
