use Rattle.std.proofs.lemmas.Result.{IfOk-weaker}
use Rattle.scrib_types.specs.Meaning.{agreement_of}
use Rattle.scrib_show.specs.Progress.{conversation_of}
use Rattle.scrib_show.proofs.ShownLemmas.{offence_is}
use Rattle.scrib_show.proofs.shown.offence_text.Goals as goal

pub returns : goal.returns
returns c =
    let off = c.in_ok-reason.ensures in
    IfOk-weaker c.offence_page.result _ _
    (λ text h. offence_is (conversation_of c.args.page) c.args.page.stale c.args.page.numbers.now (agreement_of c.args.protocol.now) c.args.at off.0 c.in_ok-reason.reason
    c.in_ok-before.before.flights.items c.in_ok-before.before.roles.items text.items off.1 c.in_ok-before.ensures h)
    c.offence_page.ensures
