use Rattle.std.proofs.Common.{inl, refl}
use Rattle.scrib_static_checks.proofs.Checks.{state_is}
use Rattle.scrib_static_checks.proofs.CallEffectLemmas.{effect_kept}
use Rattle.scrib_static_checks.proofs.block_effects.effect_at.Goals as goal

pub returns-in-Walked : goal.returns-in-Walked
returns-in-Walked c = λ modules ds d all here.
    effect_kept modules d c.in-Walked.summary (all.each c.args.place d c.in-Walked.summary here (state_is c.args.states.now c.args.place _ _ c.requires c.in-Walked.is))

pub returns-in-Walking : goal.returns-in-Walking
returns-in-Walking c = λ modules ds d all here. inl refl

pub returns-in-Unwalked : goal.returns-in-Unwalked
returns-in-Unwalked c = λ modules ds d all here. inl refl
