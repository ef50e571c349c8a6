use Rattle.std.proofs.Common.{sym, ap, ◌∙◌, ◌<◌, arith}
use Rattle.scrib_types.specs.LocalView.{local_of, local_rec}
use Rattle.scrib_global.specs.Unfolded.{acts_first}
use Rattle.scrib_global.proofs.Steps.{recursions, rec_idle, rec_leaves, rec_falls}
use Rattle.scrib_global.proofs.trace.+after.Goals as goal

pub returns-then-not-acts_first : goal.returns-then-not-acts_first
returns-then-not-acts_first t c =
    rec_idle _ (local_of c.in-Rec.body) c.args.action.now (ap local_of c.in-Rec.is ∙ local_rec c.in-Rec.body) (sym (c.if-not-acts_first.ensures ∙ ap (λ l. acts_first (local_of l)) c.get.ensures))

pub after-requires : goal.after-requires
after-requires t c =
    let falls = rec_falls (local_of c.args.local.now) (local_of c.in_ok-unfolded-in-Rec.unfolded) (local_of c.in-Rec.body) (ap local_of c.in-Rec.is ∙ local_rec c.in-Rec.body) (sym (c.if-not-acts_first.ensures ∙ ap (λ l. acts_first (local_of l)) c.get.ensures)) (rw c.get-in-Rec.ensures at c.in_ok-unfolded-in-Rec.ensures) in
    let falls_below : recursions (local_of c.in_ok-unfolded-in-Rec.unfolded) < t = omega (arith, c.decreases, falls) in
    (falls_below, tt)

pub returns-in_ok-unfolded-in-Rec : goal.returns-in_ok-unfolded-in-Rec
returns-in_ok-unfolded-in-Rec t c =
    rec_leaves _ _ (local_of c.in-Rec.body) c.args.action.now c.after.result (ap local_of c.in-Rec.is ∙ local_rec c.in-Rec.body) (rw c.get-in-Rec.ensures at c.in_ok-unfolded-in-Rec.ensures) c.after.ensures
