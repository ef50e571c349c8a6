-- Sequences of steps and the mark of a conversation.
use Rattle.std.specs.Prelude.{◌≡◌, ◌==◌, Bool, true, false, if◌then◌else◌, ℕ, ◌+◌, ◌*◌, ◌≤◌, length, refl}
use Rattle.std.proofs.Common.{sym, ◌∙◌, subst, arith, inl, inr}
use Rattle.std.proofs.lemmas.Bool.{true≢false}
use Rattle.std.proofs.lemmas.Bool.Decides.{Decides-eqb, eqb_tells}
use Rattle.scrib_core.specs.declared.step.Step.{Step}
use Rattle.scrib_core.specs.declared.step.Step.TheVariants.{Put, Withdraw, Open, Note, Turn, Ask, Close}
use Rattle.scrib_core.specs.declared.step.Step.TheVariants as step
use Rattle.scrib_core.specs.Marks.{Mark, Fresh, Stale, IsMarkTurned, IsLeft}
use Rattle.scrib_core.specs.Answers.{State}
use Rattle.scrib_core.specs.Turns.{turns, IsAcceptedBeside, Stretch, none, more, StaysFresh, TurnsSuffice}

-- a mark that is stale after so many turns counts them
abbrev pub Counts : ℕ → Mark → Type 0
Counts n Fresh = Unit {0}
Counts n (Stale u) = n ≤ u

-- the mark follows the step
left : (id : ℕ) (s t : State) (step : Step) (b : IsAcceptedBeside id s step t) → IsLeft step id (length b.of.log) (s.marks id) (t.marks id)
left id s t step b = elim (b.accepted.remarks.opened id b.of b.there) [
  | inl l ↦ l
  | inr changed ↦ absurd (b.unchanged changed.0 changed.1)
]

module _ (id events : ℕ) where
  counts_turn : (n : ℕ) (old new : Mark) → IsMarkTurned events old new → Counts n old → Counts (n + 1) new
  counts_turn n Fresh new e c = subst (Counts (n + 1)) (sym e) tt
  counts_turn n (Stale t) Fresh e c = tt
  counts_turn n (Stale t) (Stale u) e c = omega (arith, e.0, c)

  counts_same : (n : ℕ) (old new : Mark) → new ≡ old → Counts n old → Counts (n + 0) new
  counts_same n old Fresh e c = tt
  counts_same n old (Stale u) e c = let d : Counts n (Stale u) = subst (Counts n) (sym e) c in omega (arith, d)

  counts_turn_of : (i n : ℕ) (old new : Mark) (b : Bool) → (i == id) ≡ b → IsLeft (Turn i) id events old new → Counts n old → Counts (n + (if b then 1 else 0)) new
  counts_turn_of i n old new true e l c = counts_turn n old new (l.0 ((Decides-eqb i id).0 e)) c
  counts_turn_of i n old new false e l c = counts_same n old new (l.1 (λ same. true≢false (sym ((Decides-eqb i id).1 same) ∙ e))) c

  counts_left : (step : Step) (n : ℕ) (old new : Mark) → IsLeft step id events old new → Counts n old → Counts (n + turns step id) new
  counts_left (Put text) n old new e c = counts_same n old new e c
  counts_left (Withdraw name) n old new e c = counts_same n old new e c
  counts_left (step.Profile p) n old new e c = counts_same n old new e c
  counts_left (Open i name) n old new e c = counts_same n old new e c
  counts_left (Note i x) n old new e c = counts_same n old new e c
  counts_left (Turn i) n old new e c = counts_turn_of i n old new (i == id) refl e c
  counts_left (Ask i) n old new e c = counts_same n old new e c
  counts_left (Close i) n old new l c = elim (eqb_tells i id) [
    | inl same ↦ subst (Counts (n + 0)) (sym (l.0 same.1)) tt
    | inr other ↦ counts_same n old new (l.1 other.1) c
  ]

  fresh_turn : (i : ℕ) (new : Mark) → IsLeft (Turn i) id events Fresh new → new ≡ Fresh
  fresh_turn i new l = elim (eqb_tells i id) [ inl same ↦ l.0 same.1 | inr other ↦ l.1 other.1 ]

  fresh_close : (i : ℕ) (new : Mark) → IsLeft (Close i) id events Fresh new → new ≡ Fresh
  fresh_close i new l = elim (eqb_tells i id) [ inl same ↦ l.0 same.1 | inr other ↦ l.1 other.1 ]

  fresh_left : (step : Step) (new : Mark) → IsLeft step id events Fresh new → new ≡ Fresh
  fresh_left (Put text) new e = e
  fresh_left (Withdraw name) new e = e
  fresh_left (step.Profile p) new e = e
  fresh_left (Open i name) new e = e
  fresh_left (Note i x) new e = e
  fresh_left (Turn i) new l = fresh_turn i new l
  fresh_left (Ask i) new e = e
  fresh_left (Close i) new l = fresh_close i new l

  -- after a turn the mark is stale only if the log has more events than the turns cover
  last_turn : (n : ℕ) (old new : Mark) → IsMarkTurned events old new → Counts n old → events ≤ 256 * (n + 1) → new ≡ Fresh
  last_turn n Fresh new e c enough = e
  last_turn n (Stale t) Fresh e c enough = refl
  last_turn n (Stale t) (Stale u) e c enough = absurd (omega (arith, e.0, e.1, c, enough))

counts_none : (m : Mark) → Counts 0 m
counts_none Fresh = tt
counts_none (Stale u) = omega arith

-- a stale mark counts the turns of the sequence
counts : {id n : ℕ} {s t : State} → Stretch id s n t → Counts n (t.marks id)
counts (none {id} {s}) = counts_none (s.marks id)
counts (more {id} {n} {t = t} {u = u} {step = step} stretch b) =
    counts_left id (length b.of.log) step n (t.marks id) (u.marks id) (left id t u step b) (counts stretch)

-- a fresh mark stays fresh at a step that leaves the meaning of its name
only_by_change : (id : ℕ) (s t : State) (step : Step) (b : IsAcceptedBeside id s step t) → s.marks id ≡ Fresh → t.marks id ≡ Fresh
only_by_change id s t step b e = fresh_left id (length b.of.log) step (t.marks id) (subst (λ (m : Mark). IsLeft step id (length b.of.log) m (t.marks id)) e (left id s t step b))

still_fresh : {id n : ℕ} {s t : State} → Stretch id s n t → s.marks id ≡ Fresh → t.marks id ≡ Fresh
still_fresh none e = e
still_fresh (more {id} {t = t} {u = u} {step = step} stretch b) e = only_by_change id t u step b (still_fresh stretch e)

pub stays_fresh : StaysFresh
stays_fresh id n s t stretch e = still_fresh stretch e

pub turns_suffice : TurnsSuffice
turns_suffice id n m s t u v before b enough after =
    let turned : IsMarkTurned (length b.of.log) (t.marks id) (u.marks id) = (left id t u (Turn id) b).0 refl in
    still_fresh after (last_turn id (length b.of.log) n (t.marks id) (u.marks id) turned (counts before) enough)
