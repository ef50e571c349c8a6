use Rattle.std.proofs.Common.{◌≡◌, ◌∙◌, ℕ, List, None, sym, ap, subst}
use Rattle.scrib_core.specs.World.{conversation}
use Rattle.scrib_core.specs.Held.{state_of}
use Rattle.scrib_cli.specs.declared.explanation.Explained.TheVariants.{Flights, Refused}
use Rattle.scrib_cli.specs.Explanations.{Explanation, absent, flight_lines}
use Rattle.scrib_cli.proofs.ExplanationLemmas.{unknown_viewed, offence_viewed, flights_viewed}
use Rattle.scrib_cli.proofs.explanation.explanation.Goals as goal

pub returns-in_default-clause-explained : goal.returns-in_default-clause-explained
returns-in_default-clause-explained c =
    let none : conversation (state_of c.args.core.now).world c.args.id ≡ None = c.in_default.ensures in
    subst (λ (t : List ℕ). Explanation (state_of c.args.core.now).world c.args.id Refused t) (sym c.in_ok-text.ensures) (absent none)

pub returns-in_default-protocol-clause-explained : goal.returns-in_default-protocol-clause-explained
returns-in_default-protocol-clause-explained c =
    subst (λ (t : List ℕ). Explanation (state_of c.args.core.now).world c.args.id Refused t) (sym c.in_ok-text-2.ensures)
    (unknown_viewed (state_of c.args.core.now).world c.args.id c.in-Some.protocol c.in-Some.log c.in-Some.ensures c.in_default-protocol.is)

pub returns-in_ok-flights_text-in-Ok-clause-explained : goal.returns-in_ok-flights_text-in-Ok-clause-explained
returns-in_ok-flights_text-in-Ok-clause-explained c =
    let text : c.in_ok-flights_text-in-Ok.field-0.items ≡ flight_lines c.in-Ok.flights.items = c.in_ok-flights_text-in-Ok.ensures ∙ ap flight_lines c.as_slice.ensures.value in
    subst (λ (t : List ℕ). Explanation (state_of c.args.core.now).world c.args.id Flights t) (sym text)
    (flights_viewed (state_of c.args.core.now).world c.args.id c.in-Some.protocol c.in-Some-protocol.protocol c.in-Some.log c.in-Ok.flights.items c.in-Some.ensures c.in-Some-protocol.is c.in-Ok.ensures)

pub returns-in_ok-not_permitted-in-Err-NotPermitted-clause-explained : goal.returns-in_ok-not_permitted-in-Err-NotPermitted-clause-explained
returns-in_ok-not_permitted-in-Err-NotPermitted-clause-explained c =
    subst (λ (t : List ℕ). Explanation (state_of c.args.core.now).world c.args.id Refused t) (sym c.in_ok-not_permitted-in-Err-NotPermitted.ensures)
    (offence_viewed (state_of c.args.core.now).world c.args.id c.in-Some.protocol c.in-Some-protocol.protocol c.in-Some.log c.in-Err-NotPermitted.place c.in-Some.ensures c.in-Some-protocol.is (rw c.in-Err-NotPermitted.field-0-is at c.in-Err-NotPermitted.ensures))
