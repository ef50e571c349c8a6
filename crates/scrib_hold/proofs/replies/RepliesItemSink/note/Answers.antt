use Rattle.std.proofs.Common.{refl}
use Rattle.std.proofs.lemmas.Result.{on_ok_weaker}
use Rattle.scrib_hold.specs.declared.replies.Replies.{Replies}
use Rattle.scrib_hold.proofs.RepliesLemmas.{replied_event}
use Rattle.scrib_hold.proofs.replies.RepliesItemSink.note.Goals as goal

pub returns-clause-ok : goal.returns-clause-ok
returns-clause-ok c =
    let new : Replies = record c.args.self.now { core = c.gather_short.new.core; gathered = c.gather_short.new.gathered } in
    on_ok_weaker c.gather_short.result
    (λ done. replied_event c.args.self.now new c.args._number c.args.id c.args.event refl done)
    c.gather_short.ensures.ok
