use Rattle.std.proofs.Common.{◌≡◌, sym, subst}
use Rattle.scrib_type_builder.specs.Shifting.{shifted}
use Rattle.scrib_type_builder.specs.BuiltType.{type_of}
use Rattle.scrib_elaborate.proofs.ShiftLemmas.{shift_none}
use Rattle.scrib_elaborate.proofs.typing.deeper.Goals as goal

pub returns-then-depth-eq0-clause-global : goal.returns-then-depth-eq0-clause-global
returns-then-depth-eq0-clause-global c = λ modules frames t.
    let g = type_of c.args.typed in
    sym (subst (λ n. shifted n g ≡ g) c.if-depth-eq0.true (shift_none t))
