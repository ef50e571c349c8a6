use Rattle.std.proofs.Common.{◌≡◌, All}
use Rattle.scrib_examples.proofs.service.closing.split.Given as goal

abbrev pub invariant-loop-pass : goal.invariant-loop-pass
invariant-loop-pass l = All (λ p. p.conversation ≡ l.id) l.own.items
