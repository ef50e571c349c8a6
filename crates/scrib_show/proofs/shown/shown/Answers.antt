use Rattle.std.proofs.Common.{ℕ, List, false, true, option_map, refl, sym, subst}
use Rattle.std.proofs.lemmas.Result.{IfOk-weaker}
use Rattle.scrib_types.specs.Meaning.{agreement_of}
use Rattle.scrib_core.specs.Held.{state_of}
use Rattle.scrib_show.specs.declared.show_form.ShowForm.{ShowForm}
use Rattle.scrib_show.specs.Shown.{Shown, absent, IsPage, IsShownAs}
use Rattle.scrib_show.proofs.ShownLemmas.{shown_open}
use Rattle.scrib_show.proofs.shown.shown.Goals as goal

pub returns-in_default-clause-shown : goal.returns-in_default-clause-shown
returns-in_default-clause-shown c =
    subst (λ (t : List ℕ). Shown c.args.form (state_of c.args.monitor.now.core) c.args.monitor.now.id c.args.monitor.now.numbers.items false t) (sym c.in_ok-text.ensures) (absent c.in_default.ensures)

pub returns-in-Text-clause-shown : goal.returns-in-Text-clause-shown
returns-in-Text-clause-shown c =
    let mon = c.args.monitor.now in
    let o = option_map (λ p. agreement_of p.now) c.in-Some.protocol in
    let text = c.in_ok-page_text-in-Text.field-0.items in
    let page = subst (λ (ns : List ℕ). IsPage (record { name = c.in-Ok.judged.name; log = c.in-Some.log.now }) c.is_stale.result ns (option_map (λ p. agreement_of p.now) c.in-Some.protocol) c.in_ok-page_text-in-Text.field-0.items) c.as_slice.ensures.value c.in_ok-page_text-in-Text.ensures.text in
    shown_open c.args.form (state_of mon.core) mon.id mon.numbers.items c.in-Some.protocol c.in-Some.log c.in-Ok.judged.name c.in-Ok.judged.events c.in-Ok.judged.told c.is_stale.result true text
    c.in-Some.ensures c.in-Ok.ensures.answered.replies.1 c.is_stale.ensures
    (subst (λ (f : ShowForm). IsShownAs f (record { name = c.in-Ok.judged.name; log = c.in-Some.log.now }) c.is_stale.result c.args.monitor.now.numbers.items (option_map (λ p. agreement_of p.now) c.in-Some.protocol) true c.in_ok-page_text-in-Text.field-0.items) (sym c.in-Text.is) (refl, page))

pub returns-clause-shown : goal.returns-clause-shown
returns-clause-shown c =
    let mon = c.args.monitor.now in
    IfOk-weaker c.chart_page.result _ _
    (λ r chart. shown_open c.args.form (state_of mon.core) mon.id mon.numbers.items c.in-Some.protocol c.in-Some.log c.in-Ok.judged.name c.in-Ok.judged.events c.in-Ok.judged.told c.is_stale.result r.0 r.1.items
    c.in-Some.ensures c.in-Ok.ensures.answered.replies.1 c.is_stale.ensures
    (subst (λ (f : ShowForm). IsShownAs f (record { name = c.in-Ok.judged.name; log = c.in-Some.log.now }) c.is_stale.result c.args.monitor.now.numbers.items (option_map (λ p. agreement_of p.now) c.in-Some.protocol) r.0 r.1.items) (sym c.in-Chart.is) chart))
    c.chart_page.ensures.chart
