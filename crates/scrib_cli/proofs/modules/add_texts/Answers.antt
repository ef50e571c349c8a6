use Rattle.std.proofs.Common.{◌+◌, List, Some, None, drop, sym, subst, rules}
use Rattle.std.proofs.lemmas.List.{at_drop_all}
use Rattle.scrib_tree.specs.declared.tree.ModuleTree.{ModuleTree}
use Rattle.scrib_library.specs.Edits.{Reads}
use Rattle.scrib_cli.specs.Projections.{AreAdded, adds_none, adds_next, IsNoModule, FailsAmong, fails_first, fails_later, StopsUnread, stops_first, stops_later}
use Rattle.scrib_cli.proofs.ProjectionLemmas.{front_is}
use Rattle.scrib_cli.proofs.modules.add_texts.Goals as goal

pub loop-text-preserved : goal.loop-text-preserved
loop-text-preserved c =
    let tree = c.in-Ok.tree in
    let kept = c.loop-text.invariant in
    let read : Reads c.in-Some.text tree = rw c.as_slice.ensures at c.in-Ok.ensures.ok in
    let front = sym (front_is c.args.texts.now c.loop-text.text-index c.text-item.result (Some c.in-Some.text) c.loop-text-test.true c.text-item.is c.in-Some.is) in
    record {
      added = λ after h. kept.added after (subst (λ ts. AreAdded c.loop-text.modules ts after) front (adds_next _ after _ _ tree read (subst (λ (ms : List ModuleTree). AreAdded ms (drop (c.loop-text.text-index + 1) c.args.texts.now) after) c.in_ok-add-in-Ok.ensures.ok h)));
      failed = λ f h. kept.failed f (subst (λ ts. FailsAmong ts f) front (fails_later _ _ f tree read h));
      unread = λ h. kept.unread (subst StopsUnread front (stops_later _ _ tree read h));
    }

pub returns-in_default-clause-fault : goal.returns-in_default-clause-fault
returns-in_default-clause-fault c =
    let front = sym (front_is c.args.texts.now c.loop-text.text-index c.text-item.result None c.loop-text-test.true c.text-item.is c.in_default.is) in
    c.loop-text.invariant.unread (subst StopsUnread front (stops_first _))

pub returns-clause-ok : goal.returns-clause-ok
returns-clause-ok c =
    let none = at_drop_all (λ l. l) c.args.texts.now c.loop-text.text-index c.loop-text-test.false in
    c.loop-text.invariant.added c.loop-text.modules (subst (λ ts. AreAdded c.loop-text.modules ts c.loop-text.modules) (sym none) (adds_none c.loop-text.modules))

pub returns-in-Err : goal.returns-in-Err
returns-in-Err c =
    let front = sym (front_is c.args.texts.now c.loop-text.text-index c.text-item.result (Some c.in-Some.text) c.loop-text-test.true c.text-item.is c.in-Some.is) in
    let none : IsNoModule c.in-Some.text c.in-Err.fault = search rules in
    record {
      ok = c.loop-text.invariant.failed c.in-Err.fault (subst (λ ts. FailsAmong ts c.in-Err.fault) front (fails_first _ _ c.in-Err.fault none));
      fault = tt;
    }
