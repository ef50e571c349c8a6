use Rattle.std.proofs.Common.{List, Some, None, length, refl, ap, sym, ◌∙◌, subst}
use Rattle.scrib_tree.specs.declared.tree.ModuleTree.{ModuleTree}
use Rattle.scrib_static_checks.specs.Placed.{IsModulePlaced}
use Rattle.scrib_static_checks.proofs.ModulePlaceLemmas.{put_over, put_last}
use Rattle.scrib_static_checks.proofs.modules.Modules.put_there.Goals as goal

pub returns-in-Some-clause-ok : goal.returns-in-Some-clause-ok
returns-in-Some-clause-ok c =
    let before = c.args.self.now in
    let at = c.in-Some.at in
    let replaced = c.exchange-replaced.result in
    let P : List ModuleTree → Type 0 = λ ms. IsModulePlaced c.args.tree before ms (record { at = at; replaced = Some replaced }) in
    let there = rw c.in-Some.is at c.requires in
    subst P (sym (c.fill_index.ensures ∙ c.exchange-replaced.ensures.now)) (put_over before before c.args.tree c.args.tree replaced at refl refl there (c.exchange-replaced.ensures.before replaced))

pub returns-in_ok-push-in-None-clause-ok : goal.returns-in_ok-push-in-None-clause-ok
returns-in_ok-push-in-None-clause-ok c =
    let before = c.args.self.now in
    let P : List ModuleTree → Type 0 = λ ms. IsModulePlaced c.args.tree before ms (record { at = c.len-at.result; replaced = None }) in
    let none = rw c.in-None.is at c.requires in
    subst P (sym (c.fill_index-in-None.ensures ∙ c.in_ok-push-in-None.ensures.ok)) (put_last before before c.args.tree c.len-at.result refl (c.len-at.ensures ∙ c.self.inside.trees.ok.0 ∙ ap length c.self.view_is) none)
