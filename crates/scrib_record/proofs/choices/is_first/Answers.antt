use Rattle.std.proofs.Common.{◌∙◌, List, ap, slice_get, sym}
use Rattle.std.proofs.lemmas.Bool.{true≢false, ltb-true}
use Rattle.std.proofs.lemmas.Option.{slice_get_past}
use Rattle.scrib_queues.specs.Channels.{queue_of}
use Rattle.scrib_record.specs.declared.exchanges.Exchange.{Exchange}
use Rattle.scrib_record.specs.Configurations.{exchanges_of}
use Rattle.scrib_record.proofs.AdvanceLemmas.{exchanges_are, read_at}
use Rattle.scrib_record.proofs.FlightLemmas.{front_unnumbered, front_missing, front_is}
use Rattle.scrib_record.proofs.choices.is_first.Goals as goal

pub returns-in_default : goal.returns-in_default
returns-in_default c =
    let conf = c.args.configuration.now in
    let p = c.args.p in
    let q = c.args.q in (
      λ f. absurd (true≢false (sym f)),
      λ h. absurd (front_unnumbered (exchanges_of conf.numbering) p q (queue_of conf.queues p q) c.args.message.now (ap exchanges_of c.in_default.is) (c.requires.queued p q) h),
    )

pub returns-in-Some-get : goal.returns-in-Some-get
returns-in-Some-get c =
    let conf = c.args.configuration.now in
    let n = c.in-Some.numbering in
    let k = c.in-Some-front.number.now in
    let x = c.in-Some-get.exchange.now in
    let read = c.in-Some-get.ensures.lookup in
    let same = c.exchanges.ensures ∙ exchanges_are conf.numbering n c.in-Some.is in
    let here = read_at c.exchanges.result.now (exchanges_of conf.numbering) k x same (ltb-true k _ (sym read.0)) read.1 in
    let f = front_is (exchanges_of conf.numbering) k (queue_of conf.queues c.args.p c.args.q) _ x c.args.message.now here c.in-Some-front.ensures in
    (λ t. f.0 (c.equal.ensures.0 t), λ h. c.equal.ensures.1 (f.1 h))

pub returns-in-None : goal.returns-in-None
returns-in-None c =
    let conf = c.args.configuration.now in
    let n = c.in-Some.numbering in
    let k = c.in-Some-front.number.now in
    let same = c.exchanges.ensures ∙ exchanges_are conf.numbering n c.in-Some.is in
    let none = ap (λ (xs : List Exchange). slice_get xs k) (sym same) ∙ slice_get_past c.exchanges.result.now k c.in-None.ensures.lookup.3 in (
      λ f. absurd (true≢false (sym f)),
      λ h. absurd (front_missing (exchanges_of conf.numbering) c.args.p c.args.q k (queue_of conf.queues c.args.p c.args.q) _ none c.in-Some-front.ensures (c.requires.queued c.args.p c.args.q)),
    )
