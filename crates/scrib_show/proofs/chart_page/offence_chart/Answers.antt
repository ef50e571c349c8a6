use Rattle.scrib_types.specs.Meaning.{agreement_of}
use Rattle.scrib_show.proofs.ShownLemmas.{offence_event, offence_chart_is, offence_chart_made}
use Rattle.std.proofs.Common.{◌≡◌, ◌∙◌}
use Rattle.scrib_types.specs.declared.event.Event.{Event}
use Rattle.scrib_show.proofs.chart_page.offence_chart.Goals as goal

pub returns : goal.returns
returns c =
    let a = agreement_of c.args.protocol.now in
    let log = c.args.log.now in
    let off = c.in_ok-reason.ensures in
    let flights = c.in_ok-before.before.flights.items in
    let event : c.get.result.now ≡ c.in_ok-reason.ensures.0 =
    c.get.ensures ∙ offence_event a log c.args.at off.0 c.index-log-at.result c.in_ok-reason.reason off.1 c.index-log-at.is c.requires.within in
    let text = offence_chart_made a log c.args.at off.0 c.get.result.now c.in_ok-reason.reason c.roles.result.now c.roles-2.result.now c.as_slice.result.now flights
    c.new-out.result.items c.push_chart.new.out.items c.push_offence_note.new.out.items
    c.roles.ensures.roles c.roles-2.ensures.roles c.as_slice.ensures.value event c.new-out.ensures.items c.in_ok-push_chart.ensures c.in_ok-push_offence_note.ensures in
    offence_chart_is log a c.args.at off.0 c.in_ok-reason.reason flights c.in_ok-before.before.roles.items c.push_offence_note.new.out.items off.1 c.in_ok-before.ensures text
