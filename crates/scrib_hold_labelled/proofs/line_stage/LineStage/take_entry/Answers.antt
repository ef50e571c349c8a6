use Rattle.std.proofs.Common.{refl}
use Rattle.std.proofs.lemmas.Result.{err_from_is_err_and}
use Rattle.scrib_labelled.specs.NamedLines.{label_of}
use Rattle.scrib_held_labels.specs.HeldRuns.{with_session}
use Rattle.scrib_hold_labelled.specs.declared.line_stage.LineStage.{LineStage}
use Rattle.scrib_hold_labelled.specs.Stages.{naming_of}
use Rattle.scrib_hold_labelled.proofs.StageLemmas.{fails_keeping, fails_lining, fails_taking, keeps_more, renamed_alone, renamed_both, takes_entry}
use Rattle.scrib_hold_labelled.proofs.line_stage.LineStage.take_entry.Goals as goal

pub returns-in_err-keep_lines-clause-err : goal.returns-in_err-keep_lines-clause-err
returns-in_err-keep_lines-clause-err c =
    let p = err_from_is_err_and c.from_residual.result c.from_residual.ensures.1 in
    rw p.1 (fails_lining c.args.self.now c.keep_lines.new.self (label_of c.args.parts) c.args.entry c.keep_lines.ensures.same)

pub returns-in_default-clause-err : goal.returns-in_default-clause-err
returns-in_default-clause-err c =
    fails_taking c.args.self.now c.keep_lines.new.self (label_of c.args.parts) c.args.entry c.keep_lines.ensures.same c.in_ok-keep_lines.ensures.ok c.requires (record c.keep_lines.new.self { held = c.take.new.self }) c.in_default.ensures.err

pub returns-in_err-keep_name-clause-err : goal.returns-in_err-keep_name-clause-err
returns-in_err-keep_name-clause-err c =
    let p = err_from_is_err_and c.from_residual-in_err-keep_name.result c.from_residual-in_err-keep_name.ensures.1 in
    let next : LineStage = record c.keep_lines.new.self { held = c.take.new.self } in
    rw p.1
    (fails_keeping c.args.self.now c.keep_lines.new.self (label_of c.args.parts) c.args.entry c.keep_lines.ensures.same c.in_ok-keep_lines.ensures.ok c.requires next c.keep_name.new.self c.in-Ok.ensures.ok refl (renamed_alone next c.keep_name.new.self c.keep_name.ensures.same))

pub returns-clause-ok : goal.returns-clause-ok
returns-clause-ok c =
    let old = c.args.self.now in
    let next : LineStage = record c.keep_lines.new.self { held = c.take.new.self } in
    let kept = c.keep_name.new.self in
    let new = c.drop_names.new.self in
    let first = renamed_alone next kept c.keep_name.ensures.same in
    takes_entry old c.keep_lines.new.self (label_of c.args.parts) c.args.entry c.keep_lines.ensures.same c.in_ok-keep_lines.ensures.ok c.requires next new c.in-Ok.ensures.ok refl (renamed_both next kept new first c.drop_names.ensures.same)
    (keeps_more next kept new (with_session (naming_of next) (label_of c.args.parts).session) first c.in_ok-keep_name.ensures.kept c.drop_names.ensures.kept)
