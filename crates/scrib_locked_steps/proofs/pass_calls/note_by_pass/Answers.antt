use Rattle.std.proofs.Common.{◌≡◌, ◌∙◌, [], true, false, IfOk, IfErr, refl, ap, sym, subst, arith}
use Rattle.scrib_core.specs.Held.{Records}
use Rattle.scrib_core.specs.declared.conversation_steps.Noted.{Noted}
use Rattle.scrib_locked_steps.specs.Passing.{IsNotedBy, PassNoteFails}
use Rattle.scrib_locked_steps.specs.Shards.{ShardHeld}
use Rattle.scrib_locked_steps.specs.Openings.{is_current}
use Rattle.scrib_locked_steps.proofs.NoteAllLemmas.{one_keeps}
use Rattle.scrib_locked_steps.proofs.OpeningLemmas.{for_current, for_past, ok_any}
use Rattle.scrib_locked_steps.proofs.ShardLemmas.{book_small, notes_few}
use Rattle.scrib_locked_steps.proofs.Notes.{noted_by, receipted_by, fails_by, shard_left_by, pass_left_by}
use Rattle.scrib_locked_steps.proofs.pass_calls.note_by_pass.Goals as goal

pub overflow_add-shard : goal.overflow_add-shard
overflow_add-shard c = omega (arith, book_small c.shard.inside.capacity c.shard.inside.records.entries c.shard.inside.directory.index.entries c.shard.inside.book c.shard.invariant, notes_few c.note_in_records-noted.result, c.notes_of.ensures)

pub invariant_of-shard : goal.invariant_of-shard
invariant_of-shard c =
    let noted = c.note_in_records-noted in
    rw c.notes_of.ensures (one_keeps c.shard.inside.capacity c.args.library.now (c.shard.inside.records.entries, c.args.pass.now) (noted.new.records.entries, noted.new.pass) c.args.event noted.result
    c.shard.inside.directory.index.entries c.shard.inside.book noted.ensures c.shard.invariant)

pub returns-clause-noted : goal.returns-clause-noted
returns-clause-noted c =
    let noted = c.note_in_records-noted in
    let d = c.shard.inside.directory in
    let old : ShardHeld = record { capacity = c.shard.inside.capacity; records = c.shard.inside.records.entries; openings = d.openings.entries; opened = d.opened } in
    let new : ShardHeld = record { capacity = c.shard.inside.capacity; records = noted.new.records.entries; openings = d.openings.entries; opened = d.opened } in
    subst (λ (s : ShardHeld). IfOk noted.result (λ (n : Noted). IsNotedBy c.args.library.now s c.args.pass.now c.args.event n new)) c.shard.view_is
    (noted_by c.args.library.now old new c.args.pass.now noted.new.pass c.args.event noted.result refl noted.ensures)

pub returns-clause-receipted : goal.returns-clause-receipted
returns-clause-receipted c =
    let noted = c.note_in_records-noted in
    receipted_by c.args.library.now (c.shard.inside.records.entries, c.args.pass.now) (noted.new.records.entries, noted.new.pass) c.args.event noted.result noted.ensures

pub returns-clause-fault : goal.returns-clause-fault
returns-clause-fault c =
    let noted = c.note_in_records-noted in
    let p = c.args.pass.now in
    let current : is_current c.args.shard.now.openings p ≡ true = subst (λ (s : ShardHeld). is_current s.openings p ≡ true) c.shard.view_is (sym c.is_current.ensures ∙ c.if-not-is_current.false) in
    for_current (λ (rs : Records). IfErr noted.result (PassNoteFails rs p)) c.args.shard.now p current
    (subst (λ (s : ShardHeld). IfErr noted.result (PassNoteFails s.records p)) c.shard.view_is
    (fails_by c.args.library.now (c.shard.inside.records.entries, p) (noted.new.records.entries, noted.new.pass) c.args.event noted.result noted.ensures))

pub returns-clause-current : goal.returns-clause-current
returns-clause-current c =
    let p = c.args.pass.now in
    ok_any c.note_in_records-noted.result (subst (λ (s : ShardHeld). is_current s.openings p ≡ true) c.shard.view_is (sym c.is_current.ensures ∙ c.if-not-is_current.false))

pub returns-clause-kept : goal.returns-clause-kept
returns-clause-kept c = (ap (λ (s : ShardHeld). s.openings) c.shard.view_is, ap (λ (s : ShardHeld). s.opened) c.shard.view_is)

pub returns-then-not-is_current-clause-fault : goal.returns-then-not-is_current-clause-fault
returns-then-not-is_current-clause-fault c =
    let p = c.args.pass.now in
    let past : is_current c.args.shard.now.openings p ≡ false = subst (λ (s : ShardHeld). is_current s.openings p ≡ false) c.shard.view_is (sym c.is_current.ensures ∙ c.if-not-is_current.true) in
    for_past (λ (rs : Records). PassNoteFails rs p c.unopened_refusal.result) c.args.shard.now p past (c.unopened_refusal.ensures [] p refl (sym c.conversation.ensures) c.newest.ensures)

pub returns-clause-shard : goal.returns-clause-shard
returns-clause-shard c =
    let noted = c.note_in_records-noted in
    shard_left_by c.shard.inside.capacity c.shard.inside.directory.openings.entries c.shard.inside.directory.opened c.args.shard.now c.args.library.now (c.shard.inside.records.entries, c.args.pass.now) (noted.new.records.entries, noted.new.pass) c.args.event noted.result noted.ensures c.shard.view_is

pub returns-clause-pass : goal.returns-clause-pass
returns-clause-pass c =
    let noted = c.note_in_records-noted in
    pass_left_by c.args.library.now (c.shard.inside.records.entries, c.args.pass.now) (noted.new.records.entries, noted.new.pass) c.args.event noted.result noted.ensures
