use Rattle.std.proofs.Common.{List, length, sym, ◌∙◌, subst}
use Rattle.std.specs.List.{Contains}
use Rattle.std.proofs.lemmas.Iterator.Adapters.{YieldsList-from_vec}
use Rattle.std.proofs.lemmas.Iterator.Consumers.{YieldsList-turn}
use Rattle.std.proofs.lemmas.Result.{err_from_is_err_and}
use Rattle.scrib_tree.specs.declared.tree.ModuleTree.{ModuleTree}
use Rattle.scrib_library.specs.Elaborated.{IsFoundFor, IsBrokenEntry}
use Rattle.scrib_library.proofs.ElaborationLemmas.{elaborated_more, not_elaborated}
use Rattle.scrib_library.proofs.meanings.elaborate_all.Goals as goal

pub returns-in_err-named-clause-fault : goal.returns-in_err-named-clause-fault
returns-in_err-named-clause-fault c =
    let made = c.into_iter-entry-iterator.ensures.into_iter_gives in
    let turn = YieldsList-turn (YieldsList-from_vec {s = c.into_iter-entry-iterator.result} c.args.entries.items made.0 (made.1 ∙ c.args.entries.ok.0)) c.loop-entry.yielded c.loop-entry.entry-iterator c.loop-entry.yielded_by _ c.next.new.self c.in-Some.entry c.in-Some.is c.next.ensures.steps in
    let there : Contains c.args.entries.items c.in-Some.entry = (length c.loop-entry.yielded, turn.0, sym turn.1) in
    let p = err_from_is_err_and c.from_residual-in_err-named.result c.from_residual-in_err-named.ensures.1 in
    let P : List ModuleTree → Type 0 = λ l. IsBrokenEntry l c.in-Some.entry c.in_err-named.field-0.0 in
    rw (p.1, p.2) (not_elaborated c.args.modules.now c.args.entries.items c.requires c.in-Some.entry c.in_err-named.field-0.0 there (subst P c.loop-entry.invariant.among c.in_err-named.ensures.fault))

pub loop-entry-preserved : goal.loop-entry-preserved
loop-entry-preserved c =
    let made = c.into_iter-entry-iterator.ensures.into_iter_gives in
    let turn = YieldsList-turn (YieldsList-from_vec {s = c.into_iter-entry-iterator.result} c.args.entries.items made.0 (made.1 ∙ c.args.entries.ok.0)) c.loop-entry.yielded c.loop-entry.entry-iterator c.loop-entry.yielded_by _ c.next.new.self c.in-Some.entry c.in-Some.is c.next.ensures.steps in
    let there : Contains c.args.entries.items c.in-Some.entry = (length c.loop-entry.yielded, turn.0, sym turn.1) in
    let P : List ModuleTree → Type 0 = λ l. IsFoundFor l c.in-Some.entry c.in_ok-named.named in
    let more = elaborated_more c.args.modules.now c.args.entries.items c.loop-entry.all.items c.loop-entry.yielded c.in-Some.entry c.in_ok-named.named there c.loop-entry.invariant.names c.loop-entry.invariant.sound (subst P c.loop-entry.invariant.among c.in_ok-named.ensures.ok) in
    rw c.in_ok-push.ensures.items (record { among = c.elaborate_entry.ensures.same ∙ c.loop-entry.invariant.among; names = more.0; sound = more.1 })
