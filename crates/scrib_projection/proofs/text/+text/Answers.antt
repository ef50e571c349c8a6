use Rattle.std.proofs.Common.{◌∙◌, ◌++◌, ◌∷◌, ◌+◌, ◌-◌, ap, sym, codes, arith}
use Rattle.std.proofs.lemmas.Grind.{common_steps}
use Rattle.std.specs.Fmt.{decimal}
use Rattle.scrib_types.specs.Texts.{joined_by}
use Rattle.scrib_types.specs.LocalView.{local_of, local_branches, local_var, local_rec, local_send, local_recv}
use Rattle.scrib_projection.specs.Text.{local_text, branch_texts, is_one, braced}
use Rattle.scrib_projection.proofs.Texts.{after_two, after_three, after_four}
use Rattle.scrib_projection.proofs.text.+text.Goals as goal

pub push_local-returns-in_ok-push_braced-in-Send : goal.push_local-returns-in_ok-push_braced-in-Send
push_local-returns-in_ok-push_braced-in-Send t c =
    after_three _ _ _ _ _ _ _ c.in_ok-push_bytes-in-Send.ensures c.in_ok-push_bytes-in-Send-2.ensures c.in_ok-push_braced-in-Send.ensures
    ∙ (λ i. c.args.out.now.items ++ (c.as_bytes.ensures i ++ 33 ∷ braced (is_one (local_branches (c.as_slice.ensures i))) (joined_by 44 (branch_texts c.args.depth (local_branches (c.as_slice.ensures i))))))
    ∙ ap (λ l. c.args.out.now.items ++ local_text c.args.depth l) (sym (ap local_of c.in-Send.is ∙ local_send _ _))

pub push_local-returns-in_ok-push_braced-in-Recv : goal.push_local-returns-in_ok-push_braced-in-Recv
push_local-returns-in_ok-push_braced-in-Recv t c =
    after_three _ _ _ _ _ _ _ c.in_ok-push_bytes-in-Recv.ensures c.in_ok-push_bytes-in-Recv-2.ensures c.in_ok-push_braced-in-Recv.ensures
    ∙ (λ i. c.args.out.now.items ++ (c.as_bytes-in-Recv.ensures i ++ 63 ∷ braced (is_one (local_branches (c.as_slice-in-Recv.ensures i))) (joined_by 44 (branch_texts c.args.depth (local_branches (c.as_slice-in-Recv.ensures i))))))
    ∙ ap (λ l. c.args.out.now.items ++ local_text c.args.depth l) (sym (ap local_of c.in-Recv.is ∙ local_recv _ _))

pub push_local-returns-in_ok-push_local-in-Rec : goal.push_local-returns-in_ok-push_local-in-Rec
push_local-returns-in_ok-push_local-in-Rec t c =
    after_four _ _ _ _ _ _ _ _ _ c.in_ok-push_bytes-in-Rec.ensures c.in_ok-push_number-in-Rec.ensures c.in_ok-push_bytes-in-Rec-2.ensures c.in_ok-push_local-in-Rec.ensures
    ∙ ap (λ b. c.args.out.now.items ++ ((codes "rec X" ++ decimal c.args.depth) ++ 46 ∷ local_text (c.args.depth + 1) (local_of b))) c.get.ensures
    ∙ ap (λ l. c.args.out.now.items ++ local_text c.args.depth l) (sym (ap local_of c.in-Rec.is ∙ local_rec _))

pub push_local-returns-in_ok-push_number-in-Var : goal.push_local-returns-in_ok-push_number-in-Var
push_local-returns-in_ok-push_number-in-Var t c =
    after_two _ _ _ _ _ c.in_ok-push_bytes-in-Var.ensures c.in_ok-push_number-in-Var.ensures
    ∙ ap (λ n. c.args.out.now.items ++ 88 ∷ decimal n) (c.saturating_sub-in-Var.ensures ∙ (λ j. c.saturating_sub.ensures j - c.from.ensures j))
    ∙ ap (λ l. c.args.out.now.items ++ local_text c.args.depth l) (sym (ap local_of c.in-Var.is ∙ local_var _))

pub push_braced-returns : goal.push_braced-returns
push_braced-returns t c = grind (arith, common_steps)

pub push_branches-loop-i-preserved : goal.push_branches-loop-i-preserved
push_branches-loop-i-preserved t c = grind (arith, common_steps)

pub push_branches-returns : goal.push_branches-returns
push_branches-returns t c = grind (arith, common_steps)
