-- The turns of one conversation, until it is not stale.
use Rattle.std.proofs.Common.{◌≡◌, ℕ, ◌+◌, ◌*◌, ◌<◌, ◌≤◌, Option, Some, None, length, refl, sym, ap, subst, ◌∙◌, arith}
use Rattle.scrib_types.specs.declared.event.Told.{Told}
use Rattle.scrib_types.specs.declared.event.Told.TheVariants as tell
use Rattle.scrib_types.specs.declared.event.Verdict.{Verdict}
use Rattle.scrib_core.specs.World.{World, Conversation, conversation}
use Rattle.scrib_core.specs.Marks.{Mark, Fresh, Stale, IsStale}
use Rattle.scrib_core.specs.Answers.{State, IsReportedIn}
use Rattle.scrib_core.proofs.TurnLemmas.{Counts}
use Rattle.scrib_sweep.specs.declared.conversation_turns.End.TheVariants as end
use Rattle.scrib_sweep.specs.Sweeps.{IsFirstStale}
use Rattle.scrib_sweep.specs.ConversationTurns.{IsTurnOf, AreTurnsOf, AreTooFew, IsConversationSwept, AreEnough}
use Rattle.scrib_sweep.proofs.TurnEffects.{OnlyOpenMarked, stale_open, turned}
use Rattle.scrib_sweep.proofs.SweepSteps.{turns_none, turns_more, still_first, counted}

-- after so many turns the conversation is still the first stale one, and they do not cover its log
pub record IsStillStale (s : State) (id turns : ℕ) (t : State) : Type 0 where
  pub made : AreTurnsOf s id turns t
  pub first : IsFirstStale t id
  pub counts : Counts turns (t.marks id)
  pub few : AreTooFew t id turns

counts_none : (m : Mark) → Counts 0 m
counts_none Fresh = tt
counts_none (Stale n) = omega arith

pub still_none : (s : State) (id : ℕ) → IsFirstStale s id → IsStillStale s id 0 s
still_none s id first = record {
  made = turns_none s id;
  first = first;
  counts = counts_none (s.marks id);
  few = λ some c e. absurd (omega (arith, some));
}

-- as many turns as the limit left it stale
pub limited : (s t : State) (id limit turns : ℕ) → IsStillStale s id turns t → turns ≤ limit → limit ≤ turns → IsConversationSwept s id limit (record { turns = limit; end = end.Limited }) t
limited s t id limit turns still most least =
    let same : turns ≡ limit = omega arith in
    record {
      made = subst (λ (n : ℕ). AreTurnsOf s id n t) same still.made;
      few = omega arith;
      ends = (still.first.stale, refl, subst (AreTooFew t id) same still.few);
    }

some_same : (x y : Conversation) → Some x ≡ Some y → x ≡ y
some_same x y e = cc

-- one turn more
module _ (s t u : State) (id turns : ℕ) (only : OnlyOpenMarked t) (still : IsStillStale s id turns t) (o : Option Told) (made : IsTurnOf t id o u) where
  -- its verdict is stale
  pub still_more : (told : Told) → o ≡ Some told → told ≡ tell.Stale → IsStillStale s id (turns + 1) u
  still_more told e f =
      let one : IsTurnOf t id (Some tell.Stale) u = subst (λ (x : Option Told). IsTurnOf t id x u) (e ∙ ap (λ (x : Told). Some x) f) made in
      let turn = turned t u id one.0 only one.1 in
      let after : IsStale (u.marks id) = one.2 in
      let here = stale_open t only id still.first.stale in
      let both = counted (length here.0.log) turns (t.marks id) (u.marks id) (turn.own here.0 here.1) still.first.stale after still.counts in
      record {
        made = turns_more s t u id turns one.0 only still.first still.made one.1;
        first = still_first s t u id turns one.0 only still.first still.made one.1 after;
        counts = both.0;
        few = λ some c found.
            let same : here.0 ≡ c = some_same here.0 c (sym here.1 ∙ sym (ap (λ (w : World). conversation w id) turn.world) ∙ found) in
            subst (λ (x : Conversation). 256 * (turns + 1) < length x.log) same both.1;
      }

  -- its verdict is not stale
  pub judged : (told : Told) (v : Verdict) (limit : ℕ) → o ≡ Some told → told ≡ tell.Judged v → turns < limit → IsConversationSwept s id limit (record { turns = turns + 1; end = end.Judged }) u
  judged told v limit e f within =
      let one : IsTurnOf t id (Some (tell.Judged v)) u = subst (λ (x : Option Told). IsTurnOf t id x u) (e ∙ ap (λ (x : Told). Some x) f) made in
      let reported : IsReportedIn u id (tell.Judged v) = one.2 in
      record {
        made = turns_more s t u id turns one.0 only still.first still.made one.1;
        few = omega arith;
        ends = reported.0;
      }

  -- it was refused
  pub refused : (limit : ℕ) → o ≡ None → turns < limit → IsConversationSwept s id limit (record { turns = turns; end = end.Refused }) u
  refused limit e within =
      let same : u ≡ t = subst (λ (x : Option Told). IsTurnOf t id x u) e made in
      subst (λ (x : State). IsConversationSwept s id limit (record { turns = turns; end = end.Refused }) x) (sym same)
      (record { made = still.made; few = omega arith; ends = still.first.stale })

-- enough turns do not end by their limit
pub enough_end : (s t : State) (id limit turns : ℕ) → OnlyOpenMarked s → IsFirstStale s id → AreEnough s id limit → IsConversationSwept s id limit (record { turns = turns; end = end.Limited }) t → ⊥
enough_end s t id limit turns only first enough swept =
    let here = stale_open s only id first.stale in
    let made = swept.made in
    let sweep = made.sweep in
    let after : conversation t.world id ≡ Some here.0 = ap (λ (w : World). conversation w id) sweep.world ∙ here.1 in
    let more = swept.ends.2 enough.some here.0 after in
    omega (arith, more, enough.covers here.0 here.1)
