use Rattle.std.proofs.Common.{refl}
use Rattle.std.proofs.lemmas.Result.{err_from_is_err_and}
use Rattle.scrib_labelled.specs.NamedLines.{label_of}
use Rattle.scrib_held_labels.specs.declared.held_stage.HeldStage.{HeldStage}
use Rattle.scrib_held_labels.proofs.StageLemmas.{fails_keeping, fails_labelling, fails_taking, renamed_alone, takes_named}
use Rattle.scrib_held_labels.proofs.held_stage.HeldStage.take_entry.Goals as goal

pub returns-in_err-put_label-clause-err : goal.returns-in_err-put_label-clause-err
returns-in_err-put_label-clause-err c =
    let p = err_from_is_err_and c.from_residual.result c.from_residual.ensures.1 in
    rw p.1 (fails_labelling c.args.self.now c.put_label.new.self (label_of c.args.parts) c.args.entry c.put_label.ensures.same)

pub returns-in_default-clause-err : goal.returns-in_default-clause-err
returns-in_default-clause-err c =
    fails_taking c.args.self.now c.put_label.new.self (label_of c.args.parts) c.args.entry c.put_label.ensures.same c.in_ok-put_label.ensures.ok c.requires (record c.put_label.new.self { held = c.take.new.self }) c.in_default.ensures.err

pub returns-in_err-keep_name-clause-err : goal.returns-in_err-keep_name-clause-err
returns-in_err-keep_name-clause-err c =
    let p = err_from_is_err_and c.from_residual-in_err-keep_name.result c.from_residual-in_err-keep_name.ensures.1 in
    let next : HeldStage = record c.put_label.new.self { held = c.take.new.self } in
    rw p.1
    (fails_keeping c.args.self.now c.put_label.new.self (label_of c.args.parts) c.args.entry c.put_label.ensures.same c.in_ok-put_label.ensures.ok c.requires next c.keep_name.new.self c.in-Ok.ensures.ok
    (renamed_alone next c.keep_name.new.self c.keep_name.ensures.same))

pub returns-clause-ok : goal.returns-clause-ok
returns-clause-ok c =
    let next : HeldStage = record c.put_label.new.self { held = c.take.new.self } in
    takes_named c.args.self.now c.put_label.new.self next c.keep_name.new.self c.drop_names.new.self (label_of c.args.parts) c.args.entry c.put_label.ensures.same c.in_ok-put_label.ensures.ok c.requires c.in-Ok.ensures.ok
    refl c.keep_name.ensures.same c.drop_names.ensures.same c.in_ok-keep_name.ensures.kept c.drop_names.ensures.kept
