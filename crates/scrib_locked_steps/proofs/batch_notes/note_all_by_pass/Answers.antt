use Rattle.std.proofs.Common.{◌≡◌, ◌+◌, ◌∙◌, ℕ, [], true, false, refl, sym, ap, subst, arith, true≢false}
use Rattle.std.specs.List.{sum_by}
use Rattle.scrib_locked_steps.specs.OneByOne.{OneByOne}
use Rattle.scrib_locked_steps.specs.Openings.{is_current}
use Rattle.scrib_locked_steps.specs.Passing.{AnswersBy, added_notes}
use Rattle.scrib_locked_steps.specs.Shards.{ShardHeld, IsShardStored}
use Rattle.scrib_locked_steps.proofs.NoteAllLemmas.{all_keep}
use Rattle.scrib_locked_steps.proofs.ShardLemmas.{book_small}
use Rattle.scrib_locked_steps.proofs.batch_notes.note_all_by_pass.Goals as goal

pub notes_in-requires : goal.notes_in-requires
notes_in-requires c =
    let s = c.shard.inside in
    let noted = c.note_all_in_records-answers in
    let kept = all_keep s.capacity c.args.library.now (s.records.entries, c.args.pass.now) (noted.new.records.entries, noted.new.pass) c.args.batch.events.items noted.result.items s.directory.index.entries s.book noted.ensures c.shard.invariant in
    let small = book_small s.capacity noted.new.records.entries s.directory.index.entries (s.book + sum_by added_notes noted.result.items) kept in
    omega (arith, small, ap (sum_by added_notes) c.deref.ensures.value)

pub overflow_add-shard : goal.overflow_add-shard
overflow_add-shard c =
    let s = c.shard.inside in
    let noted = c.note_all_in_records-answers in
    let kept = all_keep s.capacity c.args.library.now (s.records.entries, c.args.pass.now) (noted.new.records.entries, noted.new.pass) c.args.batch.events.items noted.result.items s.directory.index.entries s.book noted.ensures c.shard.invariant in
    let small = book_small s.capacity noted.new.records.entries s.directory.index.entries (s.book + sum_by added_notes noted.result.items) kept in
    omega (arith, small, c.notes_in.ensures, ap (sum_by added_notes) c.deref.ensures.value)

pub invariant_of-shard : goal.invariant_of-shard
invariant_of-shard c =
    let s = c.shard.inside in
    let noted = c.note_all_in_records-answers in
    subst (λ (n : ℕ). IsShardStored s.capacity noted.new.records.entries s.directory.index.entries (s.book + n)) (sym (c.notes_in.ensures ∙ ap (sum_by added_notes) c.deref.ensures.value))
    (all_keep s.capacity c.args.library.now (s.records.entries, c.args.pass.now) (noted.new.records.entries, noted.new.pass) c.args.batch.events.items noted.result.items s.directory.index.entries s.book noted.ensures c.shard.invariant)

pub returns-clause-answered : goal.returns-clause-answered
returns-clause-answered c current =
    let noted = c.note_all_in_records-answers in
    subst (λ (s : ShardHeld). OneByOne (AnswersBy c.args.library.now) (s.records, c.args.pass.now) c.args.batch.events.items noted.result.items (noted.new.records.entries, noted.new.pass)) c.shard.view_is noted.ensures

pub returns-clause-refused : goal.returns-clause-refused
returns-clause-refused c past =
    let current = subst (λ (s : ShardHeld). is_current s.openings c.args.pass.now ≡ true) c.shard.view_is (sym c.is_current.ensures ∙ c.if-not-is_current.false) in
    absurd (true≢false (sym current ∙ past))

pub returns-clause-unchanged : goal.returns-clause-unchanged
returns-clause-unchanged c past =
    let current = subst (λ (s : ShardHeld). is_current s.openings c.args.pass.now ≡ true) c.shard.view_is (sym c.is_current.ensures ∙ c.if-not-is_current.false) in
    absurd (true≢false (sym current ∙ past))

pub returns-clause-kept : goal.returns-clause-kept
returns-clause-kept c = (ap (λ (s : ShardHeld). s.openings) c.shard.view_is, ap (λ (s : ShardHeld). s.opened) c.shard.view_is)

pub returns-then-not-is_current-clause-answered : goal.returns-then-not-is_current-clause-answered
returns-then-not-is_current-clause-answered c current =
    let past = subst (λ (s : ShardHeld). is_current s.openings c.args.pass.now ≡ false) c.shard.view_is (sym c.is_current.ensures ∙ c.if-not-is_current.true) in
    absurd (true≢false (sym current ∙ past))

pub returns-then-not-is_current-clause-refused : goal.returns-then-not-is_current-clause-refused
returns-then-not-is_current-clause-refused c past = c.refuse_all.ensures c.args.library.now [] refl
