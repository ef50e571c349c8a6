use Rattle.std.proofs.Common.{[], ◌∷◌, ◌++◌, ap, ◌∙◌}
use Rattle.scrib_type_builder.proofs.Branches.{global_of-one_branch}
use Rattle.scrib_type_builder.proofs.built_type.communication.Goals as goal

pub returns : goal.returns
returns c =
    global_of-one_branch c.args.from.now c.args.to.now c.in_ok-from.from c.in_ok-to.to c.args.message.now c.in_ok-message.message c.args.follows c.from_vec-branches.result c.in_ok-from.ensures c.in_ok-to.ensures c.in_ok-message.ensures (c.from_vec-branches.ensures ∙ c.in_ok-push.ensures.items ∙ ap (λ bs. bs ++ (c.in_ok-message.message, c.args.follows) ∷ []) c.in_ok-branches.ensures.items)
