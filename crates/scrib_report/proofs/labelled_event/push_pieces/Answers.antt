use Rattle.std.proofs.Common.{◌≡◌, ◌<◌, ◌^◌, ◌∙◌, ◌++◌, ℕ, List, Option, codes, sym, ap, arith}
use Rattle.std.specs.Borrow.{Bor}
use Rattle.std.specs.Fmt.{decimal}
use Rattle.std.proofs.lemmas.Result.{on_ok_weaker}
use Rattle.scrib_report.specs.HeadedEvents.{permitted_text}
use Rattle.scrib_report.specs.PutBack.{bytes_of, with_name}
use Rattle.scrib_report.proofs.HeadedEventLemmas.{pieces_named}
use Rattle.scrib_report.proofs.labelled_event.push_pieces.Goals as goal

pub returns-in-Some-clause-ok : goal.returns-in-Some-clause-ok
returns-in-Some-clause-ok c =
    let old = c.args.out.now.items in
    let tag = c.args.head.tag_text.now in
    let name = c.in-Some.name.now in
    let small : c.args.id < 2 ^ 64 = omega (arith, c.ranges.id.fits) in
    let whole =
    ap (λ (t : List ℕ). t ++ name ++ codes "." ++ decimal c.args.place ++ codes " permitted\n") c.in_ok-push_tag_text.ensures.ok
    ∙ pieces_named old tag name c.args.id c.args.place small
    ∙ ap (λ (o : Option (Bor (List ℕ))). old ++ (tag ++ with_name (bytes_of o) (permitted_text c.args.id c.args.place))) (sym c.in-Some.is) in
    on_ok_weaker c.push_named.result (λ e. e ∙ whole) c.push_named.ensures.ok
