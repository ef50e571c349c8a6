use Rattle.std.proofs.Common.{◌≡◌, ◌<◌, ◌%◌, ◌∙◌, ℕ, Option, Some, length, slice_get, get_or, sym, ap, arith}
use Rattle.std.proofs.lemmas.Option.{slice_get-get_or, none-some, same_Some, some_pair_parts}
use Rattle.scrib_record.specs.Stale.{Recorded}
use Rattle.scrib_settlement.proofs.ShardTallyLemmas.{tallied_none, tallied_one}
use Rattle.scrib_settlement.proofs.shard_tallies.count_pass.Goals as goal

pub returns-then-id-count-clause-counted : goal.returns-then-id-count-clause-counted
returns-then-id-count-clause-counted c ps tallies =
    tallied_none c.args.count c.args.at c.args.shard.now.records ps c.args.pass.now c.args.tallies.now tallies
    (λ k x e own. c.if-id-count.true (ap (λ (i : ℕ). i % c.args.count) c.conversation-id.ensures ∙ own))

pub returns-in_default-clause-counted : goal.returns-in_default-clause-counted
returns-in_default-clause-counted c ps tallies =
    tallied_none c.args.count c.args.at c.args.shard.now.records ps c.args.pass.now c.args.tallies.now tallies
    (λ k x e own. none-some k (c.in_default.ensures.only k x (rw c.conversation-id.ensures e)))

pub returns-clause-counted : goal.returns-clause-counted
returns-clause-counted c ps tallies =
    let found = c.in-Some.ensures.found in
    let here : slice_get c.args.shard.now.records c.in-Some.index ≡ Some (c.args.pass.now.conversation, found.0) = rw c.conversation-id.ensures at found.1 in
    let both : ◌≡◌ {A = Option (ℕ × Recorded)} (Some (c.args.pass.now.conversation, found.0)) (Some (c.at.result.0, c.at.result.1.now)) = sym here ∙ c.at.ensures in
    let parts = some_pair_parts c.args.pass.now.conversation c.at.result.0 found.0 c.at.result.1.now both in
    let log : c.log.result.now ≡ found.0.log = c.log.ensures.log ∙ ap (λ (x : Recorded). x.log) (sym parts.1) in
    let within : c.in-Some.index < length c.args.tallies.now = omega (arith, c.in-Some.ensures.within, c.requires.size) in
    let t = get_or c.args.tallies.now c.in-Some.index c.index-tallies-index.result in
    tallied_one c.args.count c.args.at c.args.shard.now.records ps c.args.pass.now c.args.tallies.now c.in-Some.index found.0 t c.count_all.new.self
    tallies here (ap (λ (i : ℕ). i % c.args.count) (sym c.conversation-id.ensures) ∙ c.if-id-count.false)
    (λ k x e. sym (same_Some c.in-Some.index k (c.in-Some.ensures.only k x (rw c.conversation-id.ensures e))))
    (slice_get-get_or c.args.tallies.now c.in-Some.index c.index-tallies-index.result within)
    (λ seen counts. rw (← log, ← c.receipts.ensures.all) (c.count_all.ensures seen (rw log counts)))
