use Rattle.std.proofs.Common.{◌≡◌, ◌∙◌, ◌∷◌, ◌++◌, [], sym, subst, length, rules}
use Rattle.std.proofs.lemmas.Iterator.Consumers.{YieldsList-end}
use Rattle.std.proofs.lemmas.Iterator.Adapters.{YieldsList-from_vec}
use Rattle.std.proofs.lemmas.List.{map-id}
use Rattle.scrib_types.specs.GlobalView.{global_of}
use Rattle.scrib_types.specs.Logs.{event_of}
use Rattle.scrib_types.specs.Judgement.{AreAllowed}
use Rattle.scrib_types.specs.Meaning.{agreement_of}
use Rattle.scrib_types.specs.Permitted.{IsPermitted}
use Rattle.scrib_global.proofs.Order.{passing_more, passing_all}
use Rattle.scrib_global.proofs.Candidates.{all_allowed}
use Rattle.scrib_global.proofs.allowed.allowed.Goals as goal

pub loop-action-preserved : goal.loop-action-preserved
loop-action-preserved c = record {
  sorted = c.in_ok-add_allowed.ensures.sorted;
  exact = passing_more (λ a. IsPermitted (agreement_of c.args.protocol.now) (c.args.before.now ++ event_of c.args.role.now a ∷ [])) c.loop-action.yielded c.loop-action.list.items c.add_allowed.new.list.items c.in-Some.action c.loop-action.invariant.exact c.in_ok-add_allowed.ensures.kept;
}

pub returns : goal.returns
returns c =
    let acts = c.in_ok-candidates.candidates in
    let items : c.into_iter-action-iterator.result.rest.items ≡ acts.items = search rules in
    let len : c.into_iter-action-iterator.result.rest.len ≡ length acts.items = search rules in
    let t = YieldsList-end (YieldsList-from_vec acts.items items len) c.loop-action.yielded c.loop-action.action-iterator c.loop-action.yielded_by c.next.result c.next.new.self c.in-None.is c.next.ensures.steps in
    let whole : c.loop-action.yielded ≡ acts.items = sym (map-id c.loop-action.yielded) ∙ t.0 in
    let a = agreement_of c.args.protocol.now in
    let list : c.from_vec.result ≡ c.loop-action.list.items = c.from_vec.ensures in
    subst (AreAllowed a c.args.before.now c.args.role.now) (sym list)
    (all_allowed a c.args.before.now c.args.role.now acts.items c.loop-action.list.items (global_of c.global.result.now) c.global.ensures.global c.in_ok-candidates.ensures c.loop-action.invariant.sorted
    (passing_all (λ x. IsPermitted a (c.args.before.now ++ event_of c.args.role.now x ∷ [])) c.loop-action.yielded acts.items c.loop-action.list.items whole c.loop-action.invariant.exact))
