-- The explanation of a conversation that a monitor holds.
use Rattle.std.proofs.Common.{◌≡◌, ◌+◌, ℕ, List, ◌++◌, Option, Some, None, sym, subst}
use Rattle.std.specs.Prelude.{codes, option_map}
use Rattle.std.specs.Borrow.{Bor}
use Rattle.std.specs.Fmt.{decimal}
use Rattle.scrib_types.specs.declared.event.Event.{Event}
use Rattle.scrib_types.specs.declared.protocol.Protocol.{Protocol}
use Rattle.scrib_types.specs.Meaning.{agreement_of}
use Rattle.scrib_library.specs.Modules.{IsMeaning}
use Rattle.scrib_core.specs.World.{World}
use Rattle.scrib_core.specs.Held.{IsViewed}
use Rattle.scrib_global.specs.declared.explain.Flight.{Flight}
use Rattle.scrib_global.specs.Offences.{Offends}
use Rattle.scrib_global.specs.Explained.{IsExplained}
use Rattle.scrib_cli.specs.declared.explanation.Explained.TheVariants.{Flights, Refused}
use Rattle.scrib_cli.specs.Explanations.{Explanation, unknown, offends, flies, flight_lines, refusal_line}

-- from a view of the monitor
module _ (w : World) (id : ℕ) where
  pub unknown_viewed : (o : Option (Bor Protocol)) (log : Bor (List Event)) → IsViewed w id (Some (o, log)) → o ≡ None → Explanation w id Refused (refusal_line (codes "UnknownProtocol"))
  unknown_viewed o log h e = unknown h.0 h.1 (subst (λ (q : Option (Bor Protocol)). IsMeaning w.modules h.0.name (option_map (λ p. agreement_of p.now) q)) e h.2)

  pub offence_viewed : (o : Option (Bor Protocol)) (p : Bor Protocol) (log : Bor (List Event)) (place : ℕ) → IsViewed w id (Some (o, log)) → o ≡ Some p
      → ((i : ℕ) × (place ≡ i + 1) × Offends (agreement_of p.now) log.now i) → Explanation w id Refused (refusal_line (codes "NotPermitted " ++ decimal place))
  offence_viewed o p log place h e x =
      let meaning : IsMeaning w.modules h.0.name (Some (agreement_of p.now)) = subst (λ (q : Option (Bor Protocol)). IsMeaning w.modules h.0.name (option_map (λ r. agreement_of r.now) q)) e h.2 in
      let here : Offends (agreement_of p.now) h.0.log x.0 = subst (λ (l : List Event). Offends (agreement_of p.now) l x.0) h.3 x.2 in
      subst (λ (n : ℕ). Explanation w id Refused (refusal_line (codes "NotPermitted " ++ decimal n))) (sym x.1) (offends h.0 (agreement_of p.now) x.0 h.1 meaning here)

  pub flights_viewed : (o : Option (Bor Protocol)) (p : Bor Protocol) (log : Bor (List Event)) (found : List Flight) → IsViewed w id (Some (o, log)) → o ≡ Some p
      → IsExplained (agreement_of p.now) log.now found → Explanation w id Flights (flight_lines found)
  flights_viewed o p log found h e x =
      let meaning : IsMeaning w.modules h.0.name (Some (agreement_of p.now)) = subst (λ (q : Option (Bor Protocol)). IsMeaning w.modules h.0.name (option_map (λ r. agreement_of r.now) q)) e h.2 in
      let here : IsExplained (agreement_of p.now) h.0.log found = subst (λ (l : List Event). IsExplained (agreement_of p.now) l found) h.3 x in
      flies h.0 (agreement_of p.now) found h.1 meaning here
