use Rattle.std.proofs.Common.{Result, Ok, Err, IfOk, ◌∙◌, sym, subst}
use Rattle.scrib_types.specs.declared.event.Event.{Event}
use Rattle.scrib_library.specs.Holdings.{Holdings, IsAccepting}
use Rattle.scrib_locked_steps.specs.declared.pass_calls.PassRefusal.{PassRefusal}
use Rattle.scrib_core.specs.declared.conversation_steps.Noted.{Noted}
use Rattle.scrib_locked_steps.specs.Passes.{PassHeld}
use Rattle.scrib_locked_steps.specs.Passing.{IsNotedBy}
use Rattle.scrib_locked_steps.specs.Shards.{ShardHeld, IsLawfulShard}
use Rattle.scrib_shards.specs.Called.{IsNotedSome}
use Rattle.scrib_shards.proofs.service.Service.note.Goals as goal

noted : (r : Result Noted PassRefusal) (h : Holdings) (old new : ShardHeld) (p : PassHeld) (e : Event) → IsAccepting h → IsLawfulShard old
    → IfOk r (λ n. IsNotedBy h old p e n new) → IfOk r (IsNotedSome p e)
noted (Ok n) h old new p e accepting kept by = (h, old, new, accepting, kept, by)
noted (Err f) h old new p e accepting kept by = tt

pub returns-clause-ok : goal.returns-clause-ok
returns-clause-ok g c =
    noted c.note_by_pass-noted.result c.deref-library.result.now c.deref_mut.result.now c.note_by_pass-noted.new.shard c.args.pass.now c.args.event
    c.is_accepting.ensures
    (subst IsLawfulShard (c.deref-2.ensures ∙ sym c.deref_mut.ensures.value) c.len-conversations.ensures.kept) c.note_by_pass-noted.ensures.noted
