use Rattle.std.proofs.Common.{◌≡◌, take}
use Rattle.scrib_types.specs.GlobalView.{global_branches}
use Rattle.scrib_static_checks.specs.Names.{role_names}
use Rattle.scrib_static_checks.specs.Elaboration.{given_for}
use Rattle.scrib_type_builder.specs.Renaming.{branches_renamed}
use Rattle.scrib_type_builder.specs.Renaming.{named}
use Rattle.scrib_type_builder.proofs.renamed.+rename.Given as goal

abbrev pub invariant-renamed_branches-loop-message : goal.invariant-renamed_branches-loop-message
invariant-renamed_branches-loop-message l =
    global_branches l.more.items ≡ branches_renamed (given_for (role_names l.declared) (named l.given)) (global_branches (take l.message-index l.branches))
