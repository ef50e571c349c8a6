use Rattle.std.proofs.Common.{◌≡◌, ◌<◌, ◌^◌, true, inl, arith}
use Rattle.scrib_labels.specs.SessionNames.{is_session_name}
use Rattle.scrib_labelled.proofs.ExchangeLemmas.{exchange_named}
use Rattle.scrib_labelled.proofs.exchange_line.named_exchange.Goals as goal

pub returns : goal.returns
returns c =
    let head = c.in_ok-head.head in
    let id = c.in_ok-id.id in
    let has = c.in_ok-id.ensures in
    let named : is_session_name head.word.now ≡ true = c.args.names.now.named head.word.now id has in
    let small : id < 2 ^ 32 = omega arith in
    let is = exchange_named c.args.rest.now head.direction head.word.now head.text.now id c.in-Ok-Some.event c.in_ok-head.ensures.0 c.in_ok-head.ensures.1 named small
    (rw c.in-Ok-Some.field-0-is at c.in-Ok-Some.ensures) in
    record { plain = is.0; numbered = is.1; says = is.2; numbers = (inl has, named) }
