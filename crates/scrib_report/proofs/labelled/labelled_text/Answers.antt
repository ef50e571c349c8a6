use Rattle.std.proofs.Common.{◌∙◌, ap}
use Rattle.std.proofs.lemmas.Result.{IfOk-weaker}
use Rattle.serde_json.specs.View.{view}
use Rattle.serde_json.specs.Written.{compact_text, has_float}
use Rattle.scrib_report.specs.PutBack.{put_back_by}
use Rattle.scrib_report.proofs.LabelledMembers.{label_has_no_float}
use Rattle.scrib_report.proofs.labelled.labelled_text.Goals as goal

pub returns : goal.returns
returns c =
    let none = ap has_float c.in_ok-labelled_value.ensures ∙ label_has_no_float (put_back_by c.args.label) (view c.args.value) c.requires in
    IfOk-weaker c.to_vec.result _ _ (λ text h. h none ∙ ap compact_text c.in_ok-labelled_value.ensures) c.to_vec.ensures.text
