-- The format that the fields of a line ask for.
use Rattle.std.proofs.Common.{◌≡◌, ◌∷◌, ℕ, List, sym, ◌∙◌, subst, codes}
use Rattle.scrib_core.specs.declared.step.Step.{Step}
use Rattle.scrib_core.specs.declared.format.Format.{Format}
use Rattle.scrib_core.specs.declared.format.Format.TheVariants as format
use Rattle.scrib_script_reader.specs.Steps.{MakesStep}
use Rattle.scrib_script_reader.specs.Says.{Asks, IsPutLine, IsSweepLine, Puts, Sweeps, MakesIn}

-- the fields after the format are determined
asks_once : (fs a b : List (List ℕ)) (f g : Format) → Asks fs f a → Asks fs g b → a ≡ b
asks_once fs a b format.Line format.Line h k = h.0 ∙ sym k.0
asks_once fs a b format.Line format.Json h k = absurd (h.1 b k)
asks_once fs a b format.Json format.Line h k = absurd (k.1 a h)
asks_once fs a b format.Json format.Json h k = let e : codes "json" ∷ a ≡ codes "json" ∷ b = sym h ∙ k in cc

module _ (fs rest : List (List ℕ)) (f : Format) (asks : Asks fs f rest) where
  pub no_put : (IsPutLine rest → ⊥) → (g : Format) → Puts fs g → ⊥
  no_put none g h = none (subst IsPutLine (asks_once fs h.0 rest g f h.1 asks) h.2)

  pub no_sweep : (IsSweepLine rest → ⊥) → (g : Format) → Sweeps fs g → ⊥
  no_sweep none g h = none (subst IsSweepLine (asks_once fs h.0 rest g f h.1 asks) h.2)

  pub no_step : ((s : Step) → MakesStep rest s → ⊥) → (g : Format) (s : Step) → MakesIn fs g s → ⊥
  no_step none g s h = none s (subst (λ (t : List (List ℕ)). MakesStep t s) (asks_once fs h.0 rest g f h.1 asks) h.2)
