use Rattle.std.proofs.Common.{◌≡◌, refl, arith, length, sym, ap, ◌∙◌, subst}
use Rattle.std.specs.Iterator.Adapters.{zip_first, zip_second}
use Rattle.std.specs.Slice.Iter.{iter_rest}
use Rattle.std.specs.Vec.Iter.{into_iter_items}
use Rattle.std.proofs.lemmas.Result.{err_from_is_err_and}
use Rattle.std.proofs.lemmas.List.{take_all, length_push}
use Rattle.scrib_types.specs.GlobalView.{global_branches, global_comm}
use Rattle.scrib_types.specs.Trees.{Comm}
use Rattle.scrib_static_checks.specs.SourceView.{blocks_of}
use Rattle.scrib_static_checks.specs.Elaboration.{role_in, Under}
use Rattle.scrib_elaborate.specs.Scope.{scope_of}
use Rattle.scrib_elaborate.specs.Typing.{TypingFails}
use Rattle.scrib_elaborate.proofs.ChoiceSteps.{IsOwnOrigin, AreJoined, next_joined, next_marked, next_fails, joined_put, joined_none}
use Rattle.scrib_elaborate.specs.Sites.{has_several}
use Rattle.scrib_elaborate.proofs.Branches.{several_many, several_few}
use Rattle.scrib_elaborate.proofs.ZipLemmas.{zip_turn, zip_end}
use Rattle.scrib_elaborate.proofs.choices.joined.Goals.{then-several, else-several}
use Rattle.scrib_elaborate.proofs.choices.joined.Goals as goal

pub returns-in_err-add_branch : goal.returns-in_err-add_branch
returns-in_err-add_branch c = λ modules target tasks follows x long.
    let p = err_from_is_err_and c.from_residual-in_err-add_branch.result c.from_residual-in_err-add_branch.ensures.1 in
    let scope = c.args.scope.now in
    let begun = c.into_iter-block-iterator.result in
    let same = c.into_iter-block-iterator.ensures.into_iter_gives in
    let first : iter_rest (zip_first begun) ≡ c.args.choice.branches.now = ap (λ z. iter_rest (zip_first z)) same ∙ ap iter_rest c.zip-block-items.ensures.first ∙ c.iter.ensures.rest in
    let second : into_iter_items (zip_second begun) ≡ c.args.types.items = ap (λ z. into_iter_items (zip_second z)) same ∙ c.zip-block-items.ensures.second.0 in
    let at = zip_turn c.args.choice.branches.now c.args.types.items c.loop-block.yielded begun c.loop-block.block-iterator c.next.new.self c.next.result (c.in-Some.block, c.in-Some.typed) first second c.loop-block.yielded_by c.in-Some.is c.next.ensures.steps in
    rw (p.1, p.2) (next_fails modules target tasks (scope_of scope) scope.depth c.args.choice.chooser.now c.args.choice.branches.now (length c.loop-block.yielded) c.in-Some.block.now c.args.choice.spot follows c.args.types.items c.in-Some.typed c.role-chooser.result.now c.loop-block.so_far.receiver (global_branches c.loop-block.so_far.branches) x at.0 at.1 c.role-chooser.ensures (c.loop-block.invariant.joined modules target tasks follows x).0 c.in_err-add_branch.field-0.0 c.in_err-add_branch.ensures.fault)

pub loop-block-preserved : goal.loop-block-preserved
loop-block-preserved c = record {
  joined = λ modules target tasks follows x.
      let scope = c.args.scope.now in
      let begun = c.into_iter-block-iterator.result in
      let same = c.into_iter-block-iterator.ensures.into_iter_gives in
      let first : iter_rest (zip_first begun) ≡ c.args.choice.branches.now = ap (λ z. iter_rest (zip_first z)) same ∙ ap iter_rest c.zip-block-items.ensures.first ∙ c.iter.ensures.rest in
      let second : into_iter_items (zip_second begun) ≡ c.args.types.items = ap (λ z. into_iter_items (zip_second z)) same ∙ c.zip-block-items.ensures.second.0 in
      let at = zip_turn c.args.choice.branches.now c.args.types.items c.loop-block.yielded begun c.loop-block.block-iterator c.next.new.self c.next.result (c.in-Some.block, c.in-Some.typed) first second c.loop-block.yielded_by c.in-Some.is c.next.ensures.steps in
      let before = c.loop-block.invariant.joined modules target tasks follows x in
      (next_joined modules target tasks (scope_of scope) scope.depth c.args.choice.chooser.now c.args.choice.branches.now (length c.loop-block.yielded) _ c.in-Some.block.now c.args.choice.spot follows c.args.types.items c.in-Some.typed c.role-chooser.result.now c.loop-block.so_far.receiver c.add_branch.new.so_far.receiver (global_branches c.loop-block.so_far.branches) (global_branches c.add_branch.new.so_far.branches) x (length_push c.loop-block.yielded (c.in-Some.block, c.in-Some.typed)) at.0 at.1 c.role-chooser.ensures before.0 c.in_ok-add_branch.ensures.ok, next_marked modules target tasks (scope_of scope) scope.depth c.args.choice.chooser.now c.args.choice.branches.now (length c.loop-block.yielded) c.in-Some.block.now c.args.choice.spot follows c.args.types.items c.in-Some.typed c.role-chooser.result.now c.loop-block.so_far.receiver c.add_branch.new.so_far.receiver (global_branches c.loop-block.so_far.branches) (global_branches c.add_branch.new.so_far.branches) c.loop-block.so_far.origins.items c.add_branch.new.so_far.origins.items x at.0 at.1 c.in_ok-add_branch.ensures.ok c.in_ok-add_branch.ensures.origins before.1);
  indexed = c.in_ok-add_branch.ensures.indexed;
}

pub returns-in_default : goal.returns-in_default
returns-in_default c = λ modules target tasks follows x long.
    let scope = c.args.scope.now in
    let sc = scope_of scope in
    let begun = c.into_iter-block-iterator.result in
    let same = c.into_iter-block-iterator.ensures.into_iter_gives in
    let first : iter_rest (zip_first begun) ≡ c.args.choice.branches.now = ap (λ z. iter_rest (zip_first z)) same ∙ ap iter_rest c.zip-block-items.ensures.first ∙ c.iter.ensures.rest in
    let second : into_iter_items (zip_second begun) ≡ c.args.types.items = ap (λ z. into_iter_items (zip_second z)) same ∙ c.zip-block-items.ensures.second.0 in
    let ended = zip_end c.args.choice.branches.now c.args.types.items c.loop-block.yielded begun c.loop-block.block-iterator c.next.new.self c.next.result first second c.loop-block.yielded_by c.in-None.is c.next.ensures.steps long in
    let all = ap blocks_of (take_all (length c.loop-block.yielded) c.args.choice.branches.now ended) in
    let a = subst (λ bs. AreJoined modules scope.depth sc (Under sc x.rest x.outer) (role_in sc c.args.choice.chooser.now) bs c.loop-block.so_far.receiver (global_branches c.loop-block.so_far.branches)) all (c.loop-block.invariant.joined modules target tasks follows x).0 in
    subst (λ e. TypingFails modules target.root e) (sym c.broken.ensures) (joined_none modules target tasks sc scope.depth c.args.choice.chooser.now c.args.choice.branches.now c.args.choice.spot follows c.args.types.items c.loop-block.so_far.receiver (global_branches c.loop-block.so_far.branches) x a c.in_default.is)

pub returns : goal.returns
returns c = λ modules target tasks follows x long.
    let scope = c.args.scope.now in
    let sc = scope_of scope in
    let begun = c.into_iter-block-iterator.result in
    let same = c.into_iter-block-iterator.ensures.into_iter_gives in
    let first : iter_rest (zip_first begun) ≡ c.args.choice.branches.now = ap (λ z. iter_rest (zip_first z)) same ∙ ap iter_rest c.zip-block-items.ensures.first ∙ c.iter.ensures.rest in
    let second : into_iter_items (zip_second begun) ≡ c.args.types.items = ap (λ z. into_iter_items (zip_second z)) same ∙ c.zip-block-items.ensures.second.0 in
    let ended = zip_end c.args.choice.branches.now c.args.types.items c.loop-block.yielded begun c.loop-block.block-iterator c.next.new.self c.next.result first second c.loop-block.yielded_by c.in-None.is c.next.ensures.steps long in
    let all = ap blocks_of (take_all (length c.loop-block.yielded) c.args.choice.branches.now ended) in
    let cs = global_branches c.loop-block.so_far.branches in
    let a = subst (λ bs. AreJoined modules scope.depth sc (Under sc x.rest x.outer) (role_in sc c.args.choice.chooser.now) bs c.loop-block.so_far.receiver cs) all (c.loop-block.invariant.joined modules target tasks follows x).0 in
    let own : IsOwnOrigin scope.within.home c.args.choice.spot (has_several cs) c.if-several.push =
    elim c.if-several.branch [
      | then-several w ↦ rw w.push-is (several_many c.loop-block.so_far.branches (omega (arith, c.len-several.ensures, w.if-several.true)), refl)
      | else-several w ↦ rw w.push-is (several_few c.loop-block.so_far.branches (omega (arith, c.len-several.ensures, w.if-several.false)))
    ] in
    joined_put modules target tasks sc scope.depth c.args.choice.chooser.now c.args.choice.branches.now c.args.choice.spot follows c.args.types.items c.loop-block.so_far.receiver cs c.in-Some-receiver.to c.loop-block.so_far.origins.items c.if-several.push scope.within.home _ x a c.in-Some-receiver.is (global_comm c.in_ok-from.from c.in-Some-receiver.to c.loop-block.so_far.branches ∙ ap (λ p. Comm p c.in-Some-receiver.to cs) (c.in_ok-from.ensures ∙ c.role-chooser.ensures)) c.in_ok-push.ensures.items refl own (c.loop-block.invariant.joined modules target tasks follows x).1
