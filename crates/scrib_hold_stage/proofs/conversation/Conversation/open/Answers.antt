use Rattle.std.proofs.Common.{◌≡◌, [], Some, refl, arith}
use Rattle.std.proofs.lemmas.List.{nil_from_length}
use Rattle.scrib_hold_stage.proofs.ConversationLemmas.{opening_more, opening_done, opening_end}
use Rattle.scrib_hold_stage.proofs.conversation.Conversation.open.Goals as goal

pub loop-noted-preserved : goal.loop-noted-preserved
loop-noted-preserved g c =
    opening_more g.A.Arrival.event _ c.loop-noted.self _ c.args.released.now.items c.loop-noted.released.items c.push.new.released.items
    c.in-Some.noted c.pop_front.new.self.items c.loop-noted.invariant c.in-Some.ensures.items refl refl c.in_ok-push.ensures.ok

pub returns-clause-ok : goal.returns-clause-ok
returns-clause-ok g c =
    let none : c.loop-noted.self.early.items ≡ [] = nil_from_length c.loop-noted.self.early.items (omega (arith, c.in_default.ensures.cases.0, c.loop-noted.self.early.ok.0)) in
    let none_left : c.pop_front.new.self.items ≡ [] = nil_from_length c.pop_front.new.self.items (omega (arith, c.in_default.ensures.cases.1, c.pop_front.new.self.ok.0)) in
    opening_end g.A.Arrival.event (Some c.args.self.now) c.loop-noted.self _ c.args.released.now.items c.loop-noted.released.items refl refl none_left
    (opening_done g.A.Arrival.event c.args.self.now _ c.loop-noted.self c.args.released.now.items c.loop-noted.released.items refl refl c.loop-noted.invariant none)
