use Rattle.std.proofs.Common.{Option, subst, sym}
use Rattle.scrib_labels.specs.Naming.{number_of}
use Rattle.scrib_labelled.specs.declared.line_parts.Session.{Session}
use Rattle.scrib_labelled.specs.NamedLines.{session_of}
use Rattle.scrib_held_labels.specs.HeldRuns.{KeepsNames, with_session}
use Rattle.scrib_hold_labelled.specs.Stages.{HasGone, naming_of}
use Rattle.scrib_held_labels.proofs.NameLemmas.{keeps_without}
use Rattle.scrib_hold_labelled.proofs.line_stage.LineStage.keep_name.Goals as goal

pub returns-clause-kept : goal.returns-clause-kept
returns-clause-kept c =
    let old = c.args.self.now in
    let session = c.in-Some.session in
    subst (λ (s : Option Session). KeepsNames (with_session (naming_of old) (session_of s)) (number_of c.remove.new.self) (HasGone old)) (sym c.in-Some.is)
    (keeps_without (naming_of old) (number_of c.remove.new.self) (session.name.now, session.number) (HasGone old) (c.has_left.ensures c.if-has_left.false) c.remove.ensures)
