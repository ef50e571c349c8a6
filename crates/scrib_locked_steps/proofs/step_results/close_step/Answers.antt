use Rattle.std.proofs.Common.{◌-◌, refl, subst}
use Rattle.scrib_locked_steps.specs.Shards.{ShardHeld}
use Rattle.scrib_locked_steps.specs.Openings.{IsUnnumbered}
use Rattle.scrib_locked_steps.proofs.ShardLemmas.{closed_within, close_keeps}
use Rattle.scrib_locked_steps.proofs.step_results.close_step.Goals as goal

pub overflow_sub-shard : goal.overflow_sub-shard
overflow_sub-shard c =
    let s = c.shard.inside in
    closed_within c.args.library.now s.records.entries c.close.new.records.entries c.args.id c.in_ok-name.field-0 c.in_ok-name.ensures.ok s.capacity s.directory.index.entries s.book c.shard.invariant

pub invariant_of-shard-2 : goal.invariant_of-shard-2
invariant_of-shard-2 c =
    let s = c.shard.inside in
    close_keeps c.args.library.now s.records.entries c.close.new.records.entries c.args.id c.in_ok-name.field-0 c.in_ok-name.ensures.ok s.capacity s.directory.index.entries s.book c.shard.invariant
    c.unlist-name.new.self.index.entries (s.book - c.in_ok-name.field-0.events) c.unlist-name.ensures.unlisted refl

pub returns-clause-openings : goal.returns-clause-openings
returns-clause-openings c = subst (λ (s : ShardHeld). IsUnnumbered s.openings c.args.id c.unlist-name.new.self.openings.entries) c.shard.view_is c.unlist-name.ensures.openings
