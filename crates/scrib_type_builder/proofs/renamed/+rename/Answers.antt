use Rattle.scrib_static_checks.specs.Names.{role_names}
use Rattle.scrib_static_checks.specs.Elaboration.{given_for}
use Rattle.scrib_type_builder.specs.Renaming.{named}
use Rattle.scrib_type_builder.proofs.Branches.{renamed_more}
use Rattle.scrib_type_builder.proofs.renamed.+rename.Goals as goal

pub renamed_branches-loop-message-preserved : goal.renamed_branches-loop-message-preserved
renamed_branches-loop-message-preserved t c =
    renamed_more (given_for (role_names c.args.declared.now) (named c.args.given.now)) c.loop-message.more.items c.push.new.self.items c.args.branches.now c.loop-message.message-index c.loop-message-item.result c.in_ok-message.message c.in_ok-global.global c.loop-message-test.true c.loop-message-item.is c.in_ok-message.ensures c.in_ok-global.ensures c.in_ok-push.ensures.items c.loop-message.invariant
