use Rattle.std.proofs.Common.{◌≡◌, [], Bool, true, false, List, Result, refl}
use Rattle.scrib_types.specs.declared.event.Event.{Event}
use Rattle.scrib_library.specs.Holdings.{Holdings, IsAccepting}
use Rattle.scrib_core.specs.declared.conversation_steps.Noted.{Noted}
use Rattle.scrib_locked_steps.specs.declared.pass_calls.PassRefusal.{PassRefusal}
use Rattle.scrib_locked_steps.specs.OneByOne.{OneByOne}
use Rattle.scrib_locked_steps.specs.Openings.{is_current}
use Rattle.scrib_locked_steps.specs.Passes.{PassHeld}
use Rattle.scrib_locked_steps.specs.Passing.{AnswersBy}
use Rattle.scrib_locked_steps.specs.Shards.{ShardHeld}
use Rattle.scrib_shards.specs.Called.{AreAnsweredSome}
use Rattle.scrib_shards.proofs.service.Service.note_all.Goals as goal

answered : (h : Holdings) (s t : ShardHeld) (p q : PassHeld) (es : List Event) (xs : List (Result Noted PassRefusal)) → IsAccepting h
    → (is_current s.openings p ≡ true → OneByOne (AnswersBy h) (s.records, p) es xs (t.records, q))
    → (is_current s.openings p ≡ false → OneByOne (AnswersBy h) ([], p) es xs ([], q)) → AreAnsweredSome p es xs q
answered h s t p q es xs accepting current past = by (is_current s.openings p) refl
  where
    by : (b : Bool) → is_current s.openings p ≡ b → AreAnsweredSome p es xs q
    by true is = (h, s.records, t.records, accepting, current is)
    by false is = (h, [], [], accepting, past is)

pub returns : goal.returns
returns g c =
    let all = c.note_all_by_pass-answers in
    answered c.deref-library.result.now c.deref_mut.result.now all.new.shard c.args.pass.now all.new.pass c.args.batch.events.items all.result.items c.is_accepting.ensures all.ensures.answered all.ensures.refused
