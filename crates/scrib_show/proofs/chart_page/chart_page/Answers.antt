use Rattle.std.proofs.Common.{◌≡◌, ◌∙◌, true, false, ℕ, List, Option, None, option_map, sym, ap, subst}
use Rattle.std.specs.Borrow.{Bor}
use Rattle.scrib_types.specs.declared.protocol.Protocol.{Protocol}
use Rattle.scrib_types.specs.Meaning.{agreement_of}
use Rattle.scrib_global.specs.declared.explain.Flight.{Flight}
use Rattle.scrib_show.specs.ChartLines.{chart_text}
use Rattle.scrib_show.specs.Charts.{IsChart, unknown}
use Rattle.scrib_show.proofs.ShownLemmas.{chart_is}
use Rattle.scrib_show.proofs.chart_page.chart_page.Goals as goal

pub returns-in_default-clause-chart : goal.returns-in_default-clause-chart
returns-in_default-clause-chart c =
    subst (λ (q : Option (Bor Protocol)). IsChart c.args.log.now (option_map (λ p. agreement_of p.now) q) false c.in_ok-refusal.field-0.items) (sym c.in_default.is)
    (subst (λ (t : List ℕ). IsChart c.args.log.now None false t) (sym c.in_ok-refusal.ensures) unknown)

pub returns-in_ok-permitted_chart-in-Ok-clause-chart : goal.returns-in_ok-permitted_chart-in-Ok-clause-chart
returns-in_ok-permitted_chart-in-Ok-clause-chart c =
    let a = agreement_of c.in-Some.protocol.now in
    let text : c.in_ok-permitted_chart-in-Ok.field-0.items ≡ chart_text a.roles c.args.log.now c.in-Ok.flights.items =
    c.in_ok-permitted_chart-in-Ok.ensures ∙ ap (λ (fs : List Flight). chart_text a.roles c.args.log.now fs) c.as_slice.ensures.value in
    subst (λ (q : Option (Bor Protocol)). IsChart c.args.log.now (option_map (λ p. agreement_of p.now) q) true c.in_ok-permitted_chart-in-Ok.field-0.items) (sym c.in-Some.is)
    (chart_is c.args.log.now a c.in-Ok.flights.items c.in_ok-permitted_chart-in-Ok.field-0.items c.in-Ok.ensures text)
