use Rattle.std.proofs.Common.{◌∙◌, List, ap, subst, sym}
use Rattle.scrib_types.specs.declared.event.Action.{Action}
use Rattle.scrib_types.specs.Judgement.{AreAllowed}
use Rattle.scrib_types.specs.Logs.{subject_of}
use Rattle.scrib_record.specs.Versions.{meaning_of}
use Rattle.scrib_record.proofs.VerdictLemmas.{led_before, offends_there, throughout_all}
use Rattle.scrib_record.proofs.judging.offence.Goals as goal

pub returns : goal.returns
returns c log st p at never =
    let a = meaning_of c.args.version.now in (
      offends_there a log c.args.event.now c.args.place c.in_ok-role.role c.in_ok-allowed.allowed p at never (c.in_ok-role.ensures ∙ c.subject.ensures ∙ ap subject_of c.get.ensures)
          (subst (λ (list : List Action). AreAllowed a log c.in_ok-role.role list) (sym c.in_ok-allowed.ensures) (c.in_ok-list.ensures log st (throughout_all a log p))),
      led_before c.args.version.now log c.args.event.now c.args.place c.args.configuration.now at st,
    )
