use Rattle.std.proofs.Common.{refl}
use Rattle.std.proofs.lemmas.Result.{on_ok_weaker}
use Rattle.scrib_hold.specs.declared.replies.Replies.{Replies}
use Rattle.scrib_hold.proofs.RepliesLemmas.{replied_item}
use Rattle.scrib_hold.proofs.replies.RepliesItemSink.take.Goals as goal

pub returns-clause-ok : goal.returns-clause-ok
returns-clause-ok c =
    let new : Replies = record c.args.self.now { core = c.gather_item.new.core; gathered = c.gather_item.new.gathered } in
    on_ok_weaker c.gather_item.result
    (λ done. replied_item c.args.self.now new c.args._number c.args.item refl done)
    c.gather_item.ensures.ok
