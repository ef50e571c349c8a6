use Rattle.std.proofs.Common.{◌≡◌, ℕ, List, ap, sym, ◌∙◌}
use Rattle.scrib_types.specs.Agreement.{Agreement}
use Rattle.scrib_types.specs.declared.global.GlobalType.{GlobalType}
use Rattle.scrib_types.specs.GlobalView.{global_of}
use Rattle.scrib_types.specs.GlobalInjective.{global_of-injective}
use Rattle.scrib_types.proofs.protocol.Protocol.same_meaning.Goals as goal

abbrev agreement : List (List ℕ) → GlobalType → Agreement
agreement roles g = record { roles = roles; global = global_of g }

same_parts : (r s : List (List ℕ)) (g h : GlobalType) → r ≡ s → g ≡ h → agreement r g ≡ agreement s h
same_parts r s g h p q = λ i. agreement (p i) (q i)

pub returns-then-names_equal : goal.returns-then-names_equal
returns-then-names_equal c =
    let roles : c.args.a.now.roles ≡ c.args.b.now.roles = sym c.as_slice.ensures ∙ c.names_equal.ensures.0 c.if-names_equal.true ∙ c.as_slice-2.ensures in (
      λ h. same_parts _ _ c.args.a.now.global c.args.b.now.global roles (c.equal.ensures.0 h),
      λ e. c.equal.ensures.1 (global_of-injective c.args.a.now.global c.args.b.now.global (ap (λ (x : Agreement). x.global) e)),
    )
