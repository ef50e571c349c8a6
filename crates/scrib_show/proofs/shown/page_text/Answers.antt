use Rattle.std.proofs.Common.{ℕ, List, Option, None, option_map, sym, subst}
use Rattle.std.specs.Borrow.{Bor}
use Rattle.scrib_types.specs.declared.protocol.Protocol.{Protocol}
use Rattle.scrib_types.specs.Meaning.{agreement_of}
use Rattle.scrib_show.specs.Progress.{conversation_of}
use Rattle.scrib_show.specs.Shown.{IsPage, withdrawn}
use Rattle.scrib_show.proofs.ShownLemmas.{permitted_is}
use Rattle.scrib_show.proofs.shown.page_text.Goals as goal

pub returns-in_default-clause-text : goal.returns-in_default-clause-text
returns-in_default-clause-text c =
    let page = conversation_of c.args.page in
    subst (λ (q : Option (Bor Protocol)). IsPage page c.args.page.stale c.args.page.numbers.now (option_map (λ p. agreement_of p.now) q) c.in_ok-withdrawn_page.field-0.items) (sym c.in_default.is)
    (subst (λ (t : List ℕ). IsPage page c.args.page.stale c.args.page.numbers.now None t) (sym c.in_ok-withdrawn_page.ensures) withdrawn)

pub returns-in_ok-permitted_page-in-Ok-clause-text : goal.returns-in_ok-permitted_page-in-Ok-clause-text
returns-in_ok-permitted_page-in-Ok-clause-text c =
    let page = conversation_of c.args.page in
    subst (λ (q : Option (Bor Protocol)). IsPage page c.args.page.stale c.args.page.numbers.now (option_map (λ p. agreement_of p.now) q) c.in_ok-permitted_page-in-Ok.field-0.items) (sym c.in-Some.is)
    (permitted_is page c.args.page.stale c.args.page.numbers.now c.in-Some.protocol.now c.in-Ok.after.flights.items c.in-Ok.after.roles.items c.in_ok-permitted_page-in-Ok.field-0.items
    c.in-Ok.ensures c.in_ok-permitted_page-in-Ok.ensures)
