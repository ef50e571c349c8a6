use Rattle.std.proofs.Common.{false, List, subst}
use Rattle.std.proofs.lemmas.Result.{IfOk-weaker}
use Rattle.scrib_library.specs.declared.declared.Entry.{Entry}
use Rattle.scrib_library.specs.Entries.{AreEntered}
use Rattle.scrib_library.specs.Withdrawals.{AreNothing, AreWithdrawnMeanings}
use Rattle.scrib_library.proofs.WithdrawalLemmas.{withdrawn_from}
use Rattle.scrib_library.proofs.meanings.withdrawn_meanings.Goals as goal

pub returns : goal.returns
returns c =
    let m = c.args.gone.now in
    let es = c.enter.new.entries.items in
    let P : List Entry → Type 0 = λ l. AreEntered m false l m.protocols es in
    let entered = subst P c.new-entries.ensures.items c.in_ok-enter.ensures in
    IfOk-weaker c.without_meanings.result (λ meanings. AreNothing es meanings.items) (λ meanings. AreWithdrawnMeanings m meanings.items) (λ meanings h. withdrawn_from m es meanings.items entered h) c.without_meanings.ensures
