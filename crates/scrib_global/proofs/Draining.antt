-- Each message in flight can be received: a run from every state leads to one with nothing in flight.
use Rattle.std.proofs.Common.{◌≡◌, inl, inr, true, ℕ, zero, suc, List, [], ◌∷◌, ◌++◌, refl, sym, ap, ◌∙◌, append-nil}
use Rattle.std.specs.List.{AllByRecursion}
use Rattle.std.proofs.lemmas.List.Elements.{filter_map-append}
use Rattle.scrib_types.specs.declared.message.Message.{Message}
use Rattle.scrib_types.specs.declared.event.Event.{Event}
use Rattle.scrib_types.specs.declared.event.Event.TheVariants.{Sent, Received}
use Rattle.scrib_types.specs.Trees.{GlobalTree, GlobalEnd, GlobalVar, GlobalRec, Comm, Flight, GlobalBranches, NoBranch, Branch}
use Rattle.scrib_types.specs.WellFormed.{is_protocol}
use Rattle.scrib_types.specs.Agreement.{Agreement}
use Rattle.scrib_types.specs.Permitted.{IsPermitted}
use Rattle.scrib_types.specs.Logs.{is_action}
use Rattle.scrib_types.specs.Queues.{sent_message, sent, received, IsPrefix, flights}
use Rattle.scrib_global.specs.Transitions.{IsBranch, first, later, sends, receives}
use Rattle.scrib_global.specs.Runs.{Run, stays, goes}
use Rattle.scrib_global.specs.Progress.{IsDrainedBy, CanBeReceived}
use Rattle.scrib_global.proofs.Names.{pair_cases}
use Rattle.scrib_global.proofs.Substitution.{NonEmpty}
use Rattle.scrib_global.proofs.FlightPaths.{Carries, CarriesAll, CarriesAt}
use Rattle.scrib_global.proofs.Events.{flights_are}
use Rattle.scrib_global.proofs.ProtocolFacts.{Given, given}
use Rattle.scrib_global.proofs.Runs.{run_carried, permitted_run}
use Rattle.scrib_global.proofs.Extensions.{extends}

-- an end or a recursion
abbrev IsAtRest : GlobalTree → Type 0
IsAtRest GlobalEnd = Unit {0}
IsAtRest (GlobalVar k) = ⊥
IsAtRest (GlobalRec g) = Unit {0}
IsAtRest (Comm p q bs) = ⊥
IsAtRest (Flight p q j bs) = ⊥

rest_empty : (g : GlobalTree) → IsAtRest g → (a b : List ℕ) (w : List Message) → Carries g a b w → w ≡ []
rest_empty GlobalEnd r a b w c = c
rest_empty (GlobalVar k) r a b w c = absurd r
rest_empty (GlobalRec g) r a b w c = c.0
rest_empty (Comm p q bs) r a b w c = absurd r
rest_empty (Flight p q j bs) r a b w c = absurd r

-- a run of sends and receptions to a state at rest
record Rests (g : GlobalTree) : Type 0 where
  events : List Event
  all : AllByRecursion (λ e. is_action e ≡ true) events
  state : GlobalTree
  run : Run g events state
  rest : IsAtRest state

rests_now : (g : GlobalTree) → IsAtRest g → Rests g
rests_now g r = record { events = []; all = tt; state = g; run = stays; rest = r }

-- the j-th branch is sent and received, or received
rests_received : (p q : List ℕ) (j : ℕ) (m : Message) (g : GlobalTree) (bs : GlobalBranches) → IsBranch bs j m g → Rests g → Rests (Flight p q j bs)
rests_received p q j m g bs x r = record {
  events = Received p q m ∷ r.events;
  all = (refl, r.all);
  state = r.state;
  run = goes (receives x) r.run;
  rest = r.rest;
}

rests_sent : (p q : List ℕ) (j : ℕ) (m : Message) (g : GlobalTree) (bs : GlobalBranches) → IsBranch bs j m g → Rests g → Rests (Comm p q bs)
rests_sent p q j m g bs x r =
    let y = rests_received p q j m g bs x r in
    record {
      events = Sent p q m ∷ y.events;
      all = (refl, y.all);
      state = y.state;
      run = goes (sends x) y.run;
      rest = y.rest;
    }

mutual
  rests : (g : GlobalTree) (a b : List ℕ) (w : List Message) → Carries g a b w → Rests g
  rests GlobalEnd a b w c = rests_now GlobalEnd tt
  rests (GlobalVar k) a b w c = absurd c
  rests (GlobalRec g) a b w c = rests_now (GlobalRec g) tt
  rests (Comm p q bs) a b w c = let y = rests_first bs a b w c.1 c.4 in rests_sent p q y.0 y.1 y.2 bs y.3 y.4
  rests (Flight p q j bs) a b w c = let y = rests_branch bs j p q a b w c.1 in rests_received p q j y.0 y.1 bs y.2 y.3

  rests_first : (bs : GlobalBranches) (a b : List ℕ) (w : List Message) → NonEmpty bs → CarriesAll bs a b w → (j : ℕ) × (m : Message) × (g : GlobalTree) × IsBranch bs j m g × Rests g
  rests_first NoBranch a b w n c = absurd n
  rests_first (Branch m g bs) a b w n c = (zero, m, g, first, rests g a b w c.0)

  rests_branch : (bs : GlobalBranches) (j : ℕ) (p q a b : List ℕ) (w : List Message) → CarriesAt bs j p q a b w → (m : Message) × (g : GlobalTree) × IsBranch bs j m g × Rests g
  rests_branch NoBranch j p q a b w c = absurd c
  rests_branch (Branch m g bs) zero p q a b w c = elim (pair_cases a p b q) [
    | inl i ↦ let x = c.0 i.0 i.1 in (m, g, first, rests g a b x.0 x.2)
    | inr n ↦ (m, g, first, rests g a b w (c.1 n))
  ]
  rests_branch (Branch m g bs) (suc j) p q a b w c = let y = rests_branch bs j p q a b w c in (y.0, y.1, later y.2, y.3)

-- what was sent is what was received and what is in flight
sent_parts : (a : Agreement) (log : List Event) → IsPermitted a log → (p q : List ℕ) → sent p q log ≡ received p q log ++ flights p q log
sent_parts a log h p q =
    let y = h.queued log [] (sym (append-nil log)) p q in
    y.1 ∙ ap (λ z. received p q log ++ z) (sym (flights_are p q log y.0 y.1))

-- where nothing is in flight later, all that was in flight is received
all_delivered : (a : Agreement) (log more : List Event) → IsPermitted a log → IsPermitted a (log ++ more) → (p q : List ℕ) → flights p q (log ++ more) ≡ [] → IsPrefix (received p q log ++ flights p q log) (received p q (log ++ more))
all_delivered a log more h i p q e = (
  sent p q more,
  sym (append-nil (received p q (log ++ more)))
      ∙ ap (λ z. received p q (log ++ more) ++ z) (sym e)
      ∙ sym (sent_parts a (log ++ more) i p q)
      ∙ filter_map-append (sent_message p q) log more
      ∙ ap (λ z. z ++ sent p q more) (sent_parts a log h p q),
)

drained : (a : Agreement) → Given a → (log : List Event) → IsPermitted a log → (more : List Event) × IsDrainedBy a log more
drained a f log h =
    let rn = permitted_run a f log h in
    let r = rests rn.0 [] [] (flights [] [] log) (run_carried a f log rn.0 rn.1 [] []) in
    let x = extends a f r.events log rn.0 r.state h rn.1 r.all r.run in
    let none : (p q : List ℕ) → flights p q (log ++ x.0) ≡ [] = λ p q. rest_empty r.state r.rest p q (flights p q (log ++ x.0)) (run_carried a f (log ++ x.0) r.state x.2 p q) in
    (x.0, record { permitted = x.1; delivered = λ p q. all_delivered a log x.0 h x.1 p q (none p q); empty = none })

pub can_be_received : (a : Agreement) → is_protocol a.roles a.global ≡ true → CanBeReceived a
can_be_received a v log h = drained a (given a v) log h
