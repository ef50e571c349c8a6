use Rattle.std.proofs.Common.{◌≡◌, true, false, Ok, Err, Result, OnErr, ap, sym, subst, ◌∙◌, true≢false}
use Rattle.std.specs.Prelude.{OnOk, is_err}
use Rattle.scrib_locked_steps.specs.Shards.{ShardHeld}
use Rattle.scrib_locked_steps.specs.Openings.{IsNumbered}
use Rattle.scrib_locked_steps.proofs.ShardLemmas.{open_keeps, opened_some, taken_back, listed_same, stored_same}
use Rattle.scrib_locked_steps.proofs.step_results.open_step.Goals as goal

when_ok : {X E : Type 0} {P : Type 0} (r : Result X E) → OnOk r P → is_err r ≡ false → P
when_ok (Ok x) p e = p
when_ok (Err x) p e = absurd (true≢false e)

when_err : {X E : Type 0} {P : Type 0} (r : Result X E) → OnErr r P → is_err r ≡ true → P
when_err (Ok x) p e = absurd (true≢false (sym e))
when_err (Err x) p e = p

pub invariant_of-shard : goal.invariant_of-shard
invariant_of-shard c = stored_same c.shard.inside.capacity c.shard.inside.records.entries c.open.new.records.entries c.shard.inside.directory.index.entries c.shard.inside.book c.in_err-opened.ensures.err c.shard.invariant

pub invariant_of-shard-else-is_err : goal.invariant_of-shard-else-is_err
invariant_of-shard-else-is_err c =
    open_keeps c.shard.inside.capacity c.args.library.now c.shard.inside.records.entries c.args.id c.args.name.now c.open.new.records.entries
    c.shard.inside.directory.index.entries c.list.new.self.index.entries c.shard.inside.book c.means_protocols.ensures c.in_ok-opened.ensures.ok
    (when_ok c.list.result c.list.ensures.ok (sym c.is_err.ensures.value ∙ c.if-is_err.false)) c.shard.invariant

pub invariant_of-shard-then-is_err : goal.invariant_of-shard-then-is_err
invariant_of-shard-then-is_err c =
    let old = c.shard.inside.records.entries in
    let opened = c.open.new.records.entries in
    let left = c.pop.new.self.entries in
    let back : left ≡ old = taken_back c.shard.inside.capacity c.args.library.now old c.args.id c.args.name.now opened left c.pop.result c.in_ok-opened.ensures.ok c.pop.ensures.entries
    (c.pop.ensures.found.1 (opened_some c.shard.inside.capacity c.args.library.now old c.args.id c.args.name.now opened c.in_ok-opened.ensures.ok)) in
    listed_same c.shard.inside.capacity left c.shard.inside.directory.index.entries c.list.new.self.index.entries c.shard.inside.book
    (when_err c.list.result c.list.ensures.err (sym c.is_err.ensures.value ∙ c.if-is_err.true))
    (stored_same c.shard.inside.capacity old left c.shard.inside.directory.index.entries c.shard.inside.book back c.shard.invariant)

pub returns-clause-number : goal.returns-clause-number
returns-clause-number c =
    subst (λ (s : ShardHeld). IsNumbered s.openings s.opened c.args.id c.list.new.self.openings.entries c.list.new.self.opened) c.shard.view_is
    (when_ok c.list.result c.list.ensures.number (sym c.is_err.ensures.value ∙ c.if-is_err.false))

pub returns-then-is_err-clause-kept : goal.returns-then-is_err-clause-kept
returns-then-is_err-clause-kept c = (
  when_err c.list.result c.list.ensures.openings (sym c.is_err.ensures.value ∙ c.if-is_err.true) ∙ ap (λ (s : ShardHeld). s.openings) c.shard.view_is,
  when_err c.list.result c.list.ensures.opened (sym c.is_err.ensures.value ∙ c.if-is_err.true) ∙ ap (λ (s : ShardHeld). s.opened) c.shard.view_is,
)
