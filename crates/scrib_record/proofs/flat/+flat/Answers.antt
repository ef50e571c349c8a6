use Rattle.std.proofs.Common.{◌∙◌, ◌++◌, ◌∷◌, ap, sym, arith}
use Rattle.std.proofs.lemmas.Grind.{common_steps}
use Rattle.scrib_types.specs.GlobalView.{global_of, global_branches, global_var, global_rec, global_comm}
use Rattle.scrib_types.specs.Flat.{number_bytes, name_bytes}
use Rattle.scrib_record.specs.Flat.{global_bytes, branches_bytes}
use Rattle.scrib_record.proofs.ByteLemmas.{tagged, tagged_three}
use Rattle.scrib_record.proofs.flat.+flat.Goals as goal

pub push_global-returns-in_ok-push_number-in-Var : goal.push_global-returns-in_ok-push_number-in-Var
push_global-returns-in_ok-push_number-in-Var t c =
    tagged _ _ _ _ 1 c.in_ok-push-in-Var.ensures.items c.in_ok-push_number-in-Var.ensures
    ∙ ap (λ n. c.args.out.now.items ++ 1 ∷ number_bytes n) c.from.ensures
    ∙ ap (λ g. c.args.out.now.items ++ global_bytes g) (sym (ap global_of c.in-Var.is ∙ global_var _))

pub push_global-returns-in_ok-push_global-in-Rec : goal.push_global-returns-in_ok-push_global-in-Rec
push_global-returns-in_ok-push_global-in-Rec t c =
    tagged _ _ _ _ 2 c.in_ok-push-in-Rec.ensures.items c.in_ok-push_global-in-Rec.ensures
    ∙ ap (λ b. c.args.out.now.items ++ 2 ∷ global_bytes (global_of b)) c.get.ensures
    ∙ ap (λ g. c.args.out.now.items ++ global_bytes g) (sym (ap global_of c.in-Rec.is ∙ global_rec _))

pub push_global-returns-in_ok-push_branches-in-Comm : goal.push_global-returns-in_ok-push_branches-in-Comm
push_global-returns-in_ok-push_branches-in-Comm t c =
    tagged_three _ _ _ _ _ _ _ _ 3 c.in_ok-push-in-Comm.ensures.items c.in_ok-push_name-in-Comm.ensures c.in_ok-push_name-in-Comm-2.ensures c.in_ok-push_branches-in-Comm.ensures
    ∙ (λ i. c.args.out.now.items ++ ((3 ∷ name_bytes c.in-Comm.from) ++ (name_bytes c.in-Comm.to ++ branches_bytes (global_branches (c.as_slice.ensures i)))))
    ∙ ap (λ g. c.args.out.now.items ++ global_bytes g) (sym (ap global_of c.in-Comm.is ∙ global_comm _ _ _))

pub push_branches-loop-message-preserved : goal.push_branches-loop-message-preserved
push_branches-loop-message-preserved t c = grind (arith, common_steps)

pub push_branches-returns : goal.push_branches-returns
push_branches-returns t c = grind (arith, common_steps)
