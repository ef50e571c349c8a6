use Rattle.std.proofs.Common.{drop}
use Rattle.scrib_static_checks.specs.SourceView.{body_of}
use Rattle.scrib_static_checks.specs.Table.{protocol_at, IsPartSomewhere}
use Rattle.scrib_static_checks.proofs.CallEffectLemmas.{IsPartialEffect}
use Rattle.scrib_static_checks.proofs.block_effects.+effects.Given as goal

abbrev pub invariant-block_effect-loop-statement : goal.invariant-block_effect-loop-statement
invariant-block_effect-loop-statement l = record {
  effect_so_far : IsPartialEffect l.context.modules.now (protocol_at l.context) (body_of l.body) l.effect (body_of (drop l.statement-index l.body));
  part : IsPartSomewhere (protocol_at l.context) (body_of (drop l.statement-index l.body));
}
