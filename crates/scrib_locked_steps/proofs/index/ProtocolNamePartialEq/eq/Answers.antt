use Rattle.std.proofs.Common.{◌≡◌, Bool, true, false, sym, refl}
use Rattle.std.specs.Bool.{Decides}
use Rattle.scrib_static_checks.proofs.NameLemmas.{dotted_eq-Decides}
use Rattle.scrib_locked_steps.proofs.index.ProtocolNamePartialEq.eq.Goals as goal

same_test : {P : Type 0} (a b : Bool) → (a ≡ true → P) → (P → a ≡ true) → Decides b P → a ≡ b
same_test true true f g d = refl
same_test false false f g d = refl
same_test true false f g d = sym (d.1 (f refl))
same_test false true f g d = g (d.0 refl)

pub returns : goal.returns
returns c = same_test c.equal.result _ c.equal.ensures.0 c.equal.ensures.1 (dotted_eq-Decides c.args.self.now.name c.args.other.now.name)
