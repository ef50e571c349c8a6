-- Lists of steps.
use Rattle.std.proofs.Common.{List, [], ◌∷◌, ◌++◌, refl, subst}
use Rattle.scrib_core.specs.declared.step.Step.{Step}
use Rattle.scrib_core.specs.declared.reply.Reply.{Reply}
use Rattle.scrib_core.specs.Answers.{State, IsAnswered, IsDue, AnswersAsDue}
use Rattle.scrib_core.specs.Held.{Held, LeavesRefused, state_of, AnswersHeld}

-- the case of one more step
pub answers_push : (ss : List Step) (rs : List Reply) (s t u : State) (step : Step) (r : Reply) → AnswersAsDue s ss rs t → IsAnswered t step r u → IsDue t.world step r → AnswersAsDue s (ss ++ step ∷ []) (rs ++ r ∷ []) u
answers_push [] [] s t u step r all one due = (u, subst (λ (x : State). IsAnswered x step r u) all one, subst (λ (x : State). IsDue x.world step r) all due, refl)
answers_push [] (q ∷ rs) s t u step r all one due = absurd all
answers_push (x ∷ ss) [] s t u step r all one due = absurd all
answers_push (x ∷ ss) (q ∷ rs) s t u step r all one due = (all.0, all.1, all.2, answers_push ss rs all.0 t u step r all.3 one due)

-- the same for the contents
pub held_push : (ss : List Step) (rs : List Reply) (c d e : Held) (step : Step) (r : Reply) → AnswersHeld c ss rs d → IsAnswered (state_of d) step r (state_of e) → IsDue (state_of d).world step r → LeavesRefused r d e
    → AnswersHeld c (ss ++ step ∷ []) (rs ++ r ∷ []) e
held_push [] [] c d e step r all one due left = (
  e,
  subst (λ (x : Held). IsAnswered (state_of x) step r (state_of e)) all one,
  subst (λ (x : Held). IsDue (state_of x).world step r) all due,
  subst (λ (x : Held). LeavesRefused r x e) all left,
  refl,
)
held_push [] (q ∷ rs) c d e step r all one due left = absurd all
held_push (x ∷ ss) [] c d e step r all one due left = absurd all
held_push (x ∷ ss) (q ∷ rs) c d e step r all one due left = (all.0, all.1, all.2, all.3, held_push ss rs all.0 d e step r all.4 one due left)
