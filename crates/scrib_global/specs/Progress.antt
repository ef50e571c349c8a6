-- Progress: a conversation cannot get stuck before its end, and each message in flight can be received. (Deadlock
-- freedom is that of Deniélou and Yoshida, ICALP 2013, and eventual reception that of Lange and Yoshida, CAV 2019. Their
-- form over logs with joins is this project's own.)
use Rattle.std.specs.Prelude.{◌≡◌, ◌↔◌, ◌⊎◌, ℕ, true, false, List, [], ◌∷◌, ◌++◌}
use Rattle.scrib_types.specs.declared.event.Event.{Event}
use Rattle.scrib_types.specs.declared.event.Event.TheVariants.{Join}
use Rattle.scrib_types.specs.Trees.{GlobalEnd}
use Rattle.scrib_types.specs.Projection.{occurs}
use Rattle.scrib_types.specs.Agreement.{Agreement}
use Rattle.scrib_types.specs.Permitted.{IsPermitted}
use Rattle.scrib_types.specs.Logs.{is_action, actions, has_joined, AllJoined}
use Rattle.scrib_types.specs.Queues.{received, flights, IsPrefix}
use Rattle.scrib_global.specs.Runs.{Run}
use Rattle.scrib_types.specs.Complete.{IsComplete}

-- each role that is a sender or a receiver somewhere in the global type has joined
abbrev pub HaveActorsJoined : Agreement → List Event → Type 0
HaveActorsJoined a log = (r : List ℕ) → occurs r a.global ≡ true → has_joined r log ≡ true

-- A permitted log is complete, or some join, send or reception may come next. Where each role that acts has joined, a
-- send or a reception may.
pub record Progresses (a : Agreement) : Type 0 where
  pub next : (log : List Event) → IsPermitted a log → IsComplete a log ⊎ ((e : Event) × IsPermitted a (log ++ e ∷ []))
  pub acts : (log : List Event) → IsPermitted a log → HaveActorsJoined a log
      → IsComplete a log ⊎ ((e : Event) × (is_action e ≡ true) × IsPermitted a (log ++ e ∷ []))

-- A log is complete exactly where its joins are lawful and its sends and receptions take the global type to its end.
-- Then each role that acts has joined. Only the joins of roles that never act may follow, and leave the log complete.
pub record Completes (a : Agreement) : Type 0 where
  pub exact : (log : List Event) → IsComplete a log ↔ (AllJoined a.roles log × Run a.global (actions log) GlobalEnd)
  pub joined : (log : List Event) → IsComplete a log → HaveActorsJoined a log
  pub last : (log : List Event) → IsComplete a log → (e : Event) → IsPermitted a (log ++ e ∷ [])
      → (r : List ℕ) × (e ≡ Join r) × (occurs r a.global ≡ false)
  pub stays : (log : List Event) → IsComplete a log → (e : Event) → IsPermitted a (log ++ e ∷ [])
      → IsComplete a (log ++ e ∷ [])

-- These further events are permitted. After them all that was in flight is received, in order. Nothing is in flight.
pub record IsDrainedBy (a : Agreement) (log more : List Event) : Type 0 where
  pub permitted : IsPermitted a (log ++ more)
  pub delivered : (p q : List ℕ) → IsPrefix (received p q log ++ flights p q log) (received p q (log ++ more))
  pub empty : (p q : List ℕ) → flights p q (log ++ more) ≡ []

-- after each permitted log there are further events after which all that is in flight now is received
abbrev pub CanBeReceived : Agreement → Type 0
CanBeReceived a = (log : List Event) → IsPermitted a log → (more : List Event) × IsDrainedBy a log more
