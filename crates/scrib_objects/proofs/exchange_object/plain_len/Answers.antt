use Rattle.std.proofs.Common.{◌<◌, ◌∙◌, length, add-one, sym, arith}
use Rattle.scrib_objects.proofs.ExchangeObjectLemmas.{plain_more}
use Rattle.scrib_objects.proofs.exchange_object.plain_len.Goals as goal

pub loop-at-preserved : goal.loop-at-preserved
loop-at-preserved c =
    let at = c.loop-at.at in
    let bytes = c.args.bytes.now in
    let here : at < length bytes = omega arith in
    rw add-one (plain_more bytes at here c.loop-at.invariant (sym c.is_plain.ensures ∙ c.if-not-is_plain.false))
