use Rattle.std.proofs.Common.{◌∙◌, ap, refl}
use Rattle.serde_json.specs.Written.{has_float}
use Rattle.scrib_report.specs.PutBack.{put_back_by}
use Rattle.scrib_report.proofs.LabelledMembers.{object_has_no_float}
use Rattle.scrib_report.proofs.labelled.push_labelled_json.Goals as goal

pub push_labelled_object-requires : goal.push_labelled_object-requires
push_labelled_object-requires c =
    ap has_float (c.in_ok-value.ensures (put_back_by c.args.label) refl) ∙ object_has_no_float (put_back_by c.args.label) c.args.reply.now

pub push_labelled_object-requires-else-has_conversation : goal.push_labelled_object-requires-else-has_conversation
push_labelled_object-requires-else-has_conversation c =
    ap has_float (c.in_ok-value.ensures (put_back_by c.args.label) refl) ∙ object_has_no_float (put_back_by c.args.label) c.args.reply.now
