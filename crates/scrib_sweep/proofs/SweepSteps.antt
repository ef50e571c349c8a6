-- Sweeps, one turn after another, and the turns of one conversation.
use Rattle.std.proofs.Common.{◌≡◌, inl, inr, ℕ, ◌+◌, ◌*◌, ◌<◌, List, [], ◌∷◌, ◌++◌, Option, Some, None, refl, subst, ◌∙◌, arith, length-append}
use Rattle.std.proofs.lemmas.Bool.{cases_eq}
use Rattle.scrib_core.specs.declared.step.Step.TheVariants.{Turn}
use Rattle.scrib_core.specs.declared.reply.Reply.{Reply}
use Rattle.scrib_core.specs.Marks.{Mark, Fresh, Stale, IsStale, IsMarkTurned}
use Rattle.scrib_core.specs.Answers.{State, IsAccepted, Answers}
use Rattle.scrib_core.proofs.TurnLemmas.{Counts}
use Rattle.scrib_sweep.specs.Sweeps.{IsFirstStale, AreSweepTurns, turns_of, IsSweep, IsSwept}
use Rattle.scrib_sweep.specs.ConversationTurns.{AreTurnsOf}
use Rattle.scrib_sweep.proofs.TurnEffects.{OnlyOpenMarked, IsTurn, turned, accepted_answered}

-- turns, and then turns
joined : (s t u : State) (xs ys : List ℕ) (qs rs : List Reply) → AreSweepTurns s xs qs t → AreSweepTurns t ys rs u → AreSweepTurns s (xs ++ ys) (qs ++ rs) u
joined s t u [] ys [] rs a b = subst (λ (x : State). AreSweepTurns x ys rs u) a b
joined s t u [] ys (q ∷ qs) rs a b = absurd a
joined s t u (x ∷ xs) ys [] rs a b = absurd a
joined s t u (x ∷ xs) ys (q ∷ qs) rs a b = (a.0, a.1, a.2, joined a.0 t u xs ys qs rs a.3 b)

answered : (s t : State) (ids : List ℕ) (rs : List Reply) → AreSweepTurns s ids rs t → Answers s (turns_of ids) rs t
answered s t [] [] a = a
answered s t [] (r ∷ rs) a = absurd a
answered s t (id ∷ ids) [] a = absurd a
answered s t (id ∷ ids) (r ∷ rs) a = (a.0, accepted_answered s a.0 id r a.2, answered a.0 t ids rs a.3)

pub sweep_none : (s : State) → IsSweep s 0 s
sweep_none s = record { ids = []; replies = []; made = refl; count = refl; answered = refl; world = refl }

pub sweep_turn : (s t : State) (id : ℕ) (r : Reply) → IsFirstStale s id → IsAccepted s (Turn id) r t → IsSweep s 1 t
sweep_turn s t id r first a =
    let made : AreSweepTurns s (id ∷ []) (r ∷ []) t = (t, first, a, refl) in
    record {
      ids = id ∷ [];
      replies = r ∷ [];
      made = made;
      count = refl;
      answered = answered s t (id ∷ []) (r ∷ []) made;
      world = a.follows.1;
    }

pub sweep_both : (s t u : State) (m n : ℕ) → IsSweep s m t → IsSweep t n u → IsSweep s (m + n) u
sweep_both s t u m n a b =
    let made : AreSweepTurns s (a.ids ++ b.ids) (a.replies ++ b.replies) u = joined s t u a.ids b.ids a.replies b.replies a.made b.made in
    record {
      ids = a.ids ++ b.ids;
      replies = a.replies ++ b.replies;
      made = made;
      count = omega (arith, length-append a.ids b.ids, a.count, b.count);
      answered = answered s u (a.ids ++ b.ids) (a.replies ++ b.replies) made;
      world = b.world ∙ a.world;
    }

-- a sweep leaves the world
pub swept_world : (s t : State) (judged : Option ℕ) → IsSwept s judged t → t.world ≡ s.world
swept_world s t None swept = let made = swept.1 in made.world
swept_world s t (Some n) swept = let made = swept.0.1 in made.world

-- ---- turns of one conversation

pub turns_none : (s : State) (id : ℕ) → AreTurnsOf s id 0 s
turns_none s id = record { sweep = sweep_none s; others = λ j apart. refl }

module _ (s t u : State) (id turns : ℕ) (r : Reply) (only : OnlyOpenMarked t) (first : IsFirstStale t id) (made : AreTurnsOf s id turns t) (a : IsAccepted t (Turn id) r u) where
  turn : IsTurn t id u
  turn = turned t u id r only a

  pub turns_more : AreTurnsOf s id (turns + 1) u
  turns_more = record {
    sweep = sweep_both s t u turns 1 made.sweep (sweep_turn t u id r first a);
    others = λ j apart. turn.others j apart ∙ made.others j apart;
  }

  -- a conversation that is still stale is still the first one
  pub still_first : IsStale (u.marks id) → IsFirstStale u id
  still_first stale = record {
    stale = stale;
    least = λ j other. elim (cases_eq j id) [
      | inl same ↦ omega arith
      | inr apart ↦ first.least j (subst IsStale (turn.others j apart) other)
    ];
  }

-- a turn that leaves a mark stale is counted, and does not cover the log
pub counted : (events turns : ℕ) (old new : Mark) → IsMarkTurned events old new → IsStale old → IsStale new → Counts turns old → Counts (turns + 1) new × (256 * (turns + 1) < events)
counted events turns Fresh new m before after c = absurd before
counted events turns (Stale k) Fresh m before after c = absurd after
counted events turns (Stale k) (Stale n) m before after c = (omega (arith, m.0, c), omega (arith, m.0, m.1, c))
