use Rattle.std.proofs.Common.{◌≡◌, List, Option, get_or, sym, ap, ◌∙◌, subst}
use Rattle.std.proofs.lemmas.Result.{err_from_is_err_and}
use Rattle.scrib_tree.specs.declared.tree.ModuleTree.{ModuleTree}
use Rattle.scrib_library.specs.declared.versions.NamedVersion.{NamedVersion}
use Rattle.scrib_library.specs.Holdings.{Holdings}
use Rattle.scrib_library.specs.Edits.{IsPut, IsChanges, AreVersionsUsed, PutFails}
use Rattle.scrib_library.specs.Drafts.{AreApplied}
use Rattle.scrib_library.specs.Plans.{IsPlan, StopsPut}
use Rattle.scrib_library.proofs.MeaningLemmas.{holdings}
use Rattle.scrib_library.proofs.PlanLemmas.{library_then, put_then, changes_then, used_then, fails_then, stood}
use Rattle.scrib_library.proofs.library.Library.put.Goals as goal
use Rattle.scrib_library.proofs.library.Library.put.Goals.{in-Some-1, in-None-1}

pub returns-in_err-tree-clause-fault : goal.returns-in_err-tree-clause-fault
returns-in_err-tree-clause-fault c =
    let p = err_from_is_err_and c.from_residual.result c.from_residual.ensures.1 in
    rw (p.1, p.2) (c.in_err-tree.ensures.fault c.args.self.now.profile c.args.self.now.modules c.args.self.now.used)

pub invariant_of-self-in-Ok : goal.invariant_of-self-in-Ok
invariant_of-self-in-Ok c =
    let profile = c.self.inside.profile in
    let before = c.self.inside.modules in
    let after = c.put.new.self in
    let versions = c.self.inside.versions.items in
    let used = c.self.inside.used in
    let text = c.args.text.now in
    let m = c.in_ok-tree.tree in
    let n = c.index-as_slice-placed.result in
    let p = c.in_ok-placed.placed in
    let h = c.in_ok-placed.ensures.ok in
    let at : n ≡ get_or after p.at n = c.index-as_slice-placed.is ∙ ap (λ l. get_or l p.at n) c.as_slice.ensures in
    let same = sym (stood m n before after p h at) in
    let plan = c.in-Ok.plan in
    let P : Option ModuleTree → Type 0 = λ o. IsPlan profile n after o versions used plan in
    let Q : ModuleTree → Type 0 = λ x. IsPlan profile x after p.replaced versions used plan in
    let planned = subst Q same (subst P c.as_ref-gone.ensures.value c.in-Ok.ensures.ok) in
    let news = c.apply_edits.new.versions.items in
    let R : List NamedVersion → Type 0 = λ l. AreApplied l plan.edits.items news in
    let made = subst R c.in-Ok.ensures.kept c.apply_edits.ensures in
    library_then profile m before after p h versions used c.self.invariant text c.in_ok-tree.ensures.ok plan planned news made

pub invariant_of-self-in-Ok-2 : goal.invariant_of-self-in-Ok-2
invariant_of-self-in-Ok-2 c =
    let profile = c.self.inside.profile in
    let before = c.self.inside.modules in
    let after = c.put.new.self in
    let versions = c.self.inside.versions.items in
    let used = c.self.inside.used in
    let text = c.args.text.now in
    let m = c.in_ok-tree.tree in
    let n = c.index-as_slice-placed.result in
    let p = c.in_ok-placed.placed in
    let h = c.in_ok-placed.ensures.ok in
    let at : n ≡ get_or after p.at n = c.index-as_slice-placed.is ∙ ap (λ l. get_or l p.at n) c.as_slice.ensures in
    let same = sym (stood m n before after p h at) in
    let plan = c.in-Ok.plan in
    let P : Option ModuleTree → Type 0 = λ o. IsPlan profile n after o versions used plan in
    let Q : ModuleTree → Type 0 = λ x. IsPlan profile x after p.replaced versions used plan in
    let planned = subst Q same (subst P c.as_ref-gone.ensures.value c.in-Ok.ensures.ok) in
    let news = c.apply_edits.new.versions.items in
    let R : List NamedVersion → Type 0 = λ l. AreApplied l plan.edits.items news in
    let made = subst R c.in-Ok.ensures.kept c.apply_edits.ensures in
    library_then profile m before after p h versions used c.self.invariant text c.in_ok-tree.ensures.ok plan planned news made

pub returns-in-Ok-clause-ok : goal.returns-in-Ok-clause-ok
returns-in-Ok-clause-ok c =
    let profile = c.self.inside.profile in
    let before = c.self.inside.modules in
    let after = c.put.new.self in
    let versions = c.self.inside.versions.items in
    let used = c.self.inside.used in
    let text = c.args.text.now in
    let m = c.in_ok-tree.tree in
    let n = c.index-as_slice-placed.result in
    let p = c.in_ok-placed.placed in
    let h = c.in_ok-placed.ensures.ok in
    let at : n ≡ get_or after p.at n = c.index-as_slice-placed.is ∙ ap (λ l. get_or l p.at n) c.as_slice.ensures in
    let same = sym (stood m n before after p h at) in
    let plan = c.in-Ok.plan in
    let P : Option ModuleTree → Type 0 = λ o. IsPlan profile n after o versions used plan in
    let Q : ModuleTree → Type 0 = λ x. IsPlan profile x after p.replaced versions used plan in
    let planned = subst Q same (subst P c.as_ref-gone.ensures.value c.in-Ok.ensures.ok) in
    let S : Holdings → Type 0 = λ k. (x : ModuleTree) × IsPut k.profile k.modules text x after × (plan.changes.module ≡ x.name) × IsChanges k.modules after plan.changes.list in
    let T : Holdings → Type 0 = λ k. (x : ModuleTree) × IsPut c.args.self.now.profile c.args.self.now.modules text x k.modules × (plan.changes.module ≡ x.name) × IsChanges c.args.self.now.modules k.modules plan.changes.list in
    let start = subst S c.self.view_is (m, put_then profile m before after p h versions used c.self.invariant text c.in_ok-tree.ensures.ok plan planned, planned.planned.module_name, changes_then profile m before after p h versions used c.self.invariant text c.in_ok-tree.ensures.ok plan planned) in
    elim c.match-placed.branch [ in-Some-1 w ↦ subst T (sym w.self-is) start | in-None-1 w ↦ subst T (sym w.self-is) start ]

pub returns-in-Ok-clause-versions : goal.returns-in-Ok-clause-versions
returns-in-Ok-clause-versions c =
    let profile = c.self.inside.profile in
    let before = c.self.inside.modules in
    let after = c.put.new.self in
    let versions = c.self.inside.versions.items in
    let used = c.self.inside.used in
    let text = c.args.text.now in
    let m = c.in_ok-tree.tree in
    let n = c.index-as_slice-placed.result in
    let p = c.in_ok-placed.placed in
    let h = c.in_ok-placed.ensures.ok in
    let at : n ≡ get_or after p.at n = c.index-as_slice-placed.is ∙ ap (λ l. get_or l p.at n) c.as_slice.ensures in
    let same = sym (stood m n before after p h at) in
    let plan = c.in-Ok.plan in
    let P : Option ModuleTree → Type 0 = λ o. IsPlan profile n after o versions used plan in
    let Q : ModuleTree → Type 0 = λ x. IsPlan profile x after p.replaced versions used plan in
    let planned = subst Q same (subst P c.as_ref-gone.ensures.value c.in-Ok.ensures.ok) in
    let news = c.apply_edits.new.versions.items in
    let R : List NamedVersion → Type 0 = λ l. AreApplied l plan.edits.items news in
    let made = subst R c.in-Ok.ensures.kept c.apply_edits.ensures in
    let done = used_then profile m before after p h versions used c.self.invariant text c.in_ok-tree.ensures.ok plan planned news made in
    let S : Holdings → Type 0 = λ k. AreVersionsUsed k (holdings profile after news plan.used) plan.changes.list in
    let T : Holdings → Type 0 = λ k. AreVersionsUsed c.args.self.now k plan.changes.list in
    let start = subst S c.self.view_is done in
    elim c.match-placed.branch [ in-Some-1 w ↦ subst T (sym w.self-is) start | in-None-1 w ↦ subst T (sym w.self-is) start ]

pub returns-in-Err-clause-fault : goal.returns-in-Err-clause-fault
returns-in-Err-clause-fault c =
    let profile = c.self.inside.profile in
    let before = c.self.inside.modules in
    let after = c.put.new.self in
    let versions = c.self.inside.versions.items in
    let used = c.self.inside.used in
    let text = c.args.text.now in
    let m = c.in_ok-tree.tree in
    let n = c.index-as_slice-placed.result in
    let p = c.in_ok-placed.placed in
    let h = c.in_ok-placed.ensures.ok in
    let at : n ≡ get_or after p.at n = c.index-as_slice-placed.is ∙ ap (λ l. get_or l p.at n) c.as_slice.ensures in
    let same = sym (stood m n before after p h at) in
    let f = c.in-Err.fault in
    let P : Option ModuleTree → Type 0 = λ o. StopsPut profile n after o versions used f in
    let Q : ModuleTree → Type 0 = λ x. StopsPut profile x after p.replaced versions used f in
    let stops = subst Q same (subst P c.as_ref-gone.ensures.value c.in-Err.ensures.fault) in
    let S : Holdings → Type 0 = λ k. PutFails k.profile k.modules k.used text f in
    subst S c.self.view_is (fails_then profile m before after p h versions used c.self.invariant text c.in_ok-tree.ensures.ok f stops)
