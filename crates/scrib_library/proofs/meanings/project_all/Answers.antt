use Rattle.std.proofs.Common.{length, sym, ◌∙◌}
use Rattle.std.specs.List.{Contains}
use Rattle.std.proofs.lemmas.Iterator.Adapters.{YieldsList-from_vec}
use Rattle.std.proofs.lemmas.Iterator.Consumers.{YieldsList-turn}
use Rattle.std.proofs.lemmas.Result.{err_from_is_err_and}
use Rattle.scrib_library.proofs.ElaborationLemmas.{projected_more, not_projected}
use Rattle.scrib_library.proofs.meanings.project_all.Goals as goal

pub returns-in_err-meaning-clause-fault : goal.returns-in_err-meaning-clause-fault
returns-in_err-meaning-clause-fault c =
    let made = c.into_iter-named-iterator.ensures.into_iter_gives in
    let turn = YieldsList-turn (YieldsList-from_vec {s = c.into_iter-named-iterator.result} c.args.elaborated.items made.0 (made.1 ∙ c.args.elaborated.ok.0)) c.loop-named.yielded c.loop-named.named-iterator c.loop-named.yielded_by _ c.next.new.self c.in-Some.named c.in-Some.is c.next.ensures.steps in
    let there : Contains c.args.elaborated.items c.in-Some.named = (length c.loop-named.yielded, turn.0, sym turn.1) in
    let p = err_from_is_err_and c.from_residual-in_err-meaning.result c.from_residual-in_err-meaning.ensures.1 in
    rw (p.1, p.2) (not_projected c.args.profile c.args.elaborated.items c.in-Some.named c.in_err-meaning.field-0.0 there c.in_err-meaning.ensures.fault)

pub loop-named-preserved : goal.loop-named-preserved
loop-named-preserved c =
    let made = c.into_iter-named-iterator.ensures.into_iter_gives in
    let turn = YieldsList-turn (YieldsList-from_vec {s = c.into_iter-named-iterator.result} c.args.elaborated.items made.0 (made.1 ∙ c.args.elaborated.ok.0)) c.loop-named.yielded c.loop-named.named-iterator c.loop-named.yielded_by _ c.next.new.self c.in-Some.named c.in-Some.is c.next.ensures.steps in
    let there : Contains c.args.elaborated.items c.in-Some.named = (length c.loop-named.yielded, turn.0, sym turn.1) in
    let more = projected_more c.args.profile c.args.elaborated.items c.loop-named.meanings.items c.loop-named.yielded c.in-Some.named c.in_ok-meaning.meaning there c.loop-named.invariant.names c.loop-named.invariant.sound c.in_ok-meaning.ensures.ok in
    rw c.in_ok-push.ensures.items (record { names = more.0; sound = more.1 })
