use Rattle.scrib_types.specs.GlobalView.{global_branches}
use Rattle.scrib_type_builder.proofs.OperatorIndexLemmas.{share_sym}
use Rattle.scrib_type_builder.proofs.choice_branches.share_operator.Goals as goal

pub loop-message-init : goal.loop-message-init
loop-message-init c = share_sym (global_branches c.args.other.now) (global_branches c.args.first.now.branches)
