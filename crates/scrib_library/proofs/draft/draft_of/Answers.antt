use Rattle.std.proofs.Common.{Option, length, ◌∙◌, subst}
use Rattle.std.specs.Option.{option_copied}
use Rattle.std.proofs.lemmas.Iterator.Adapters.{YieldsList-from_vec}
use Rattle.std.proofs.lemmas.Iterator.Consumers.{YieldsList-turn, YieldsList-so_far}
use Rattle.std.proofs.lemmas.Result.{err_from_is_err_and}
use Rattle.scrib_library.specs.declared.versions.VersionEdit.{VersionEdit}
use Rattle.scrib_library.specs.Drafts.{IsEdit}
use Rattle.scrib_library.proofs.DraftLemmas.{later, front_is, in_all, draft_same, draft_more, draft_full}
use Rattle.scrib_library.proofs.draft.draft_of.Goals as goal

pub returns-in_err-edit-clause-fault : goal.returns-in_err-edit-clause-fault
returns-in_err-edit-clause-fault c =
    let all = c.args.meanings.items in
    let ys = c.loop-named.yielded in
    let y = c.in-Some.named in
    let made = c.into_iter-named-iterator.ensures.into_iter_gives in
    let yields = YieldsList-from_vec {s = c.into_iter-named-iterator.result} all made.0 (made.1 ∙ c.args.meanings.ok.0) in
    let turn = YieldsList-turn yields ys c.loop-named.named-iterator c.loop-named.yielded_by _ c.next.new.self y c.in-Some.is c.next.ensures.steps in
    let far = front_is all ys (YieldsList-so_far yields ys c.loop-named.named-iterator c.loop-named.yielded_by) in
    let p = err_from_is_err_and c.from_residual.result c.from_residual.ensures.1 in
    rw (p.1, p.2) (draft_full c.args.versions.now ys c.args.used c.loop-named.edits.items c.loop-named.next c.loop-named.invariant y (later all c.requires.meanings (length ys) y turn.0 turn.1 ys far) (option_copied c.version_at_hint-before.result) c.version_at_hint-before.ensures all (in_all all ys y far turn.0 turn.1) c.in_err-edit.field-0.0 c.in_err-edit.ensures.fault)

pub loop-named-preserved-in-Continue-branch-3 : goal.loop-named-preserved-in-Continue-branch-3
loop-named-preserved-in-Continue-branch-3 c =
    let all = c.args.meanings.items in
    let ys = c.loop-named.yielded in
    let y = c.in-Some.named in
    let made = c.into_iter-named-iterator.ensures.into_iter_gives in
    let yields = YieldsList-from_vec {s = c.into_iter-named-iterator.result} all made.0 (made.1 ∙ c.args.meanings.ok.0) in
    let turn = YieldsList-turn yields ys c.loop-named.named-iterator c.loop-named.yielded_by _ c.next.new.self y c.in-Some.is c.next.ensures.steps in
    let far = front_is all ys (YieldsList-so_far yields ys c.loop-named.named-iterator c.loop-named.yielded_by) in
    let b = option_copied c.version_at_hint-before.result in
    let P : Option VersionEdit → Type 0 = λ o. IsEdit b y c.loop-named.next o in
    rw c.in_ok-push.ensures.items (draft_more c.args.versions.now ys c.args.used c.loop-named.edits.items c.loop-named.next c.loop-named.invariant y (later all c.requires.meanings (length ys) y turn.0 turn.1 ys far) b c.version_at_hint-before.ensures c.in-Some-2.edit (subst P c.in-Some-2.is c.in_ok-edit.ensures.ok) c.used_after-next.result c.used_after-next.ensures)

pub loop-named-preserved : goal.loop-named-preserved
loop-named-preserved c =
    let b = option_copied c.version_at_hint-before.result in
    let P : Option VersionEdit → Type 0 = λ o. IsEdit b c.in-Some.named c.loop-named.next o in
    draft_same c.args.versions.now c.loop-named.yielded c.args.used c.loop-named.edits.items c.loop-named.next c.loop-named.invariant c.in-Some.named b c.version_at_hint-before.ensures (subst P c.in_default.is c.in_ok-edit.ensures.ok)
