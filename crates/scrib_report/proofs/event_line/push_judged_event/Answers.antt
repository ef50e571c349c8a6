use Rattle.std.proofs.Common.{◌++◌, ◌∷◌, [], ◌∙◌, ap, sym}
use Rattle.std.proofs.lemmas.Result.{on_ok_weaker}
use Rattle.scrib_types.specs.declared.event.Told.TheVariants.{Judged}
use Rattle.scrib_types.specs.declared.event.Verdict.{Verdict}
use Rattle.scrib_core.specs.declared.reply.Reply.TheVariants.{Noted}
use Rattle.scrib_report.specs.Lines.{line_of}
use Rattle.scrib_report.proofs.EventLine.{withdrawn_and_end, offence_and_end}
use Rattle.scrib_report.proofs.event_line.push_judged_event.Goals as goal

pub returns-in-Permitted-clause-ok : goal.returns-in-Permitted-clause-ok
returns-in-Permitted-clause-ok c =
    let line = λ (v : Verdict). c.args.out.now.items ++ line_of (Noted c.args.id c.args.place (Judged v)) ++ 10 ∷ [] in
    on_ok_weaker c.push_permitted.result (λ e. e ∙ ap line (sym c.in-Permitted.is)) c.push_permitted.ensures.ok

pub returns-in-Withdrawn-clause-ok : goal.returns-in-Withdrawn-clause-ok
returns-in-Withdrawn-clause-ok c =
    let line = λ (v : Verdict). c.args.out.now.items ++ line_of (Noted c.args.id c.args.place (Judged v)) ++ 10 ∷ [] in
    on_ok_weaker c.push_event.result (λ e. e ∙ withdrawn_and_end c.args.out.now.items c.args.id c.args.place ∙ ap line (sym c.in-Withdrawn.is)) c.push_event.ensures.ok

pub returns-in-Offence-clause-ok : goal.returns-in-Offence-clause-ok
returns-in-Offence-clause-ok c =
    let b = c.in-Offence in
    let line = λ (v : Verdict). c.args.out.now.items ++ line_of (Noted c.args.id c.args.place (Judged v)) ++ 10 ∷ [] in
    on_ok_weaker c.push_offended_event.result (λ e. e ∙ offence_and_end c.args.out.now.items c.args.id c.args.place b.at b.role b.allowed ∙ ap line (sym b.is)) c.push_offended_event.ensures.ok
