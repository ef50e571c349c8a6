use Rattle.std.proofs.Common.{◌≡◌, ◌∙◌, ◌++◌, ◌∷◌, [], Option, refl, ap, option_to_list, arith}
use Rattle.scrib_types.specs.declared.event.Event.{Event}
use Rattle.scrib_run_service.proofs.ConnectionLemmas.{none_left, takes_none, takes_single, takes_turned}
use Rattle.scrib_run_service.proofs.connection.Connection.flush_some.Goals as goal

pub returns-in-Some-clause-took : goal.returns-in-Some-clause-took
returns-in-Some-clause-took g c =
    let was : c.args.self.now.pending.items ≡ c.pop.new.self.items ++ c.in-Some.event ∷ [] = c.pop.ensures.items ∙ ap (λ (o : Option Event). c.pop.new.self.items ++ option_to_list o) c.in-Some.is in
    let one = rw c.in-Some.is at c.pop.ensures.cases in
    let none : c.pop.new.self.items ≡ [] = none_left c.pop.new.self.items (omega (arith, one)) in
    takes_single c.note_now.result c.args.self.now _ c.note_now.new.self c.in-Some.event refl refl refl none was c.note_now.ensures.yielded

pub returns-in-None-clause-took : goal.returns-in-None-clause-took
returns-in-None-clause-took g c =
    let both = rw c.in-None.is at c.pop.ensures.cases in
    takes_turned c.args.self.now c.args.self.now _ [] (takes_none c.args.self.now) (none_left c.args.self.now.pending.items (omega (arith, both.0))) (none_left c.pop.new.self.items (omega (arith, both.1))) refl refl refl
