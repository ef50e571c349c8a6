use Rattle.json.specs.Lex.{between, fresh, lex, punctuate}
use Rattle.scrib_objects.proofs.ExchangeMemberLemmas.{AreReadTo}
use Rattle.scrib_objects.proofs.exchange_members.read_members.Given as goal

abbrev pub invariant-loop : goal.invariant-loop
invariant-loop l = AreReadTo (punctuate fresh (lex between l.initial.rest)) l.members l.rest
