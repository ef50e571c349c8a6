use Rattle.std.proofs.Common.{◌∙◌, ap, sym, List, slice_get}
use Rattle.std.proofs.lemmas.Bool.{ltb-true}
use Rattle.std.proofs.lemmas.Option.{slice_get_past}
use Rattle.scrib_record.specs.declared.exchanges.Exchange.{Exchange}
use Rattle.scrib_record.specs.Configurations.{exchanges_of}
use Rattle.scrib_record.proofs.AdvanceLemmas.{exchanges_are, read_at}
use Rattle.scrib_offences.proofs.OldestLemmas.{Between, from_nobody, none_queued, not_missing, first_queued}
use Rattle.scrib_offences.proofs.oldest.oldest.Goals as goal

pub returns-in_err-sender : goal.returns-in_err-sender
returns-in_err-sender c log st pm role place =
    rw c.from_residual.ensures (from_nobody c.args.version.now log c.args.from.now role pm (sym c.in_err-sender.ensures.place))

pub returns-in_err-number : goal.returns-in_err-number
returns-in_err-number c log st pm role place =
    let v = c.args.version.now in
    let conf = c.args.configuration.now in
    let x : Between v conf log c.args.from.now role c.in_ok-sender.sender c.args.to = record { leads = st; sender = sym c.in_ok-sender.ensures.place; receiver = place } in
    rw c.from_residual-in_err-number.ensures (none_queued v conf log c.args.from.now role c.in_ok-sender.sender c.args.to x c.in_err-number.ensures)

pub returns-in_err-exchange : goal.returns-in_err-exchange
returns-in_err-exchange c log st pm role place =
    let v = c.args.version.now in
    let conf = c.args.configuration.now in
    let k = c.in_ok-number.number.now in
    let x : Between v conf log c.args.from.now role c.in_ok-sender.sender c.args.to = record { leads = st; sender = sym c.in_ok-sender.ensures.place; receiver = place } in
    let same = c.exchanges.ensures ∙ exchanges_are conf.numbering c.in-Some.numbering c.in-Some.is in
    let none = ap (λ (xs : List Exchange). slice_get xs k) (sym same) ∙ slice_get_past c.exchanges.result.now k c.in_err-exchange.ensures.lookup.3 in
    absurd (not_missing v conf log c.args.from.now role c.in_ok-sender.sender c.args.to k _ x none c.in_ok-number.ensures)

pub returns : goal.returns
returns c log st pm role place =
    let v = c.args.version.now in
    let conf = c.args.configuration.now in
    let k = c.in_ok-number.number.now in
    let y = c.in_ok-exchange.exchange.now in
    let x : Between v conf log c.args.from.now role c.in_ok-sender.sender c.args.to = record { leads = st; sender = sym c.in_ok-sender.ensures.place; receiver = place } in
    let read = c.in_ok-exchange.ensures.lookup in
    let same = c.exchanges.ensures ∙ exchanges_are conf.numbering c.in-Some.numbering c.in-Some.is in
    let here = read_at c.exchanges.result.now (exchanges_of conf.numbering) k y same (ltb-true k _ (sym read.0)) read.1 in
    first_queued v conf log c.args.from.now role c.in_ok-sender.sender c.args.to k _ y x here c.in_ok-number.ensures
