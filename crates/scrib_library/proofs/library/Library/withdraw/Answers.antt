use Rattle.std.proofs.Common.{◌≡◌, List, get_or, sym, ap, ◌∙◌, subst}
use Rattle.scrib_tree.specs.declared.tree.ModuleTree.{ModuleTree}
use Rattle.scrib_library.specs.declared.versions.NamedVersion.{NamedVersion}
use Rattle.scrib_library.specs.Holdings.{Holdings}
use Rattle.scrib_library.specs.Edits.{IsWithdrawal, IsChanges, AreWithdrawn, AreVersionsUsed}
use Rattle.scrib_library.specs.Stored.{IsLibrary}
use Rattle.scrib_library.specs.Drafts.{AreApplied}
use Rattle.scrib_library.specs.Withdrawals.{IsRemovalPlan}
use Rattle.scrib_library.proofs.MeaningLemmas.{holdings}
use Rattle.scrib_library.proofs.ModuleNameLemmas.{place_is, place_removed}
use Rattle.scrib_library.proofs.WithdrawalLemmas.{withdrawn_then, named_then, changes_then, withdrawal_then, library_then, used_then}
use Rattle.scrib_library.proofs.library.Library.withdraw.Goals as goal

pub invariant_of-self-2 : goal.invariant_of-self-2
invariant_of-self-2 c =
    let profile = c.self.inside.profile in
    let before = c.self.inside.modules in
    let versions = c.self.inside.versions.items in
    let used = c.self.inside.used in
    let name = c.args.name.now in
    let at = c.in_ok-at.at in
    let free = c.in_ok-at.ensures.ok in
    let n = c.index-as_slice-at.result in
    let here = c.index-as_slice-at.is ∙ ap (λ l. get_or l at n) c.as_slice.ensures ∙ place_is before name at free.place n in
    let plan = c.in_ok-plan.plan in
    let P : ModuleTree → Type 0 = λ m. IsRemovalPlan m versions used plan in
    let planned = subst P here c.in_ok-plan.ensures.ok in
    let news = c.apply_edits.new.versions.items in
    let R : List NamedVersion → Type 0 = λ l. AreApplied l plan.edits.items news in
    let made = subst R c.in_ok-plan.ensures.kept c.apply_edits.ensures in
    let after = c.take_out.ensures.out ∙ place_removed before name at free.place in
    let Q : List ModuleTree → Type 0 = λ l. IsLibrary profile l news used in
    subst Q (sym after) (library_then profile name before at free.place free.free versions used c.self.invariant plan planned news made)

pub returns-clause-ok : goal.returns-clause-ok
returns-clause-ok c =
    let profile = c.self.inside.profile in
    let before = c.self.inside.modules in
    let versions = c.self.inside.versions.items in
    let used = c.self.inside.used in
    let name = c.args.name.now in
    let at = c.in_ok-at.at in
    let free = c.in_ok-at.ensures.ok in
    let n = c.index-as_slice-at.result in
    let here = c.index-as_slice-at.is ∙ ap (λ l. get_or l at n) c.as_slice.ensures ∙ place_is before name at free.place n in
    let plan = c.in_ok-plan.plan in
    let P : ModuleTree → Type 0 = λ m. IsRemovalPlan m versions used plan in
    let planned = subst P here c.in_ok-plan.ensures.ok in
    let after = c.take_out.ensures.out ∙ place_removed before name at free.place in
    let Q : List ModuleTree → Type 0 = λ l. IsWithdrawal profile before name l × (plan.changes.module ≡ name) × IsChanges before l plan.changes.list × AreWithdrawn plan.changes.list in
    let S : Holdings → Type 0 = λ k. IsWithdrawal k.profile k.modules name c.take_out.new.self × (plan.changes.module ≡ name) × IsChanges k.modules c.take_out.new.self plan.changes.list × AreWithdrawn plan.changes.list in
    subst S c.self.view_is (subst Q (sym after) (
      withdrawal_then profile name before at free.place free.free versions used c.self.invariant plan planned,
      named_then profile name before at free.place free.free versions used c.self.invariant plan planned,
      changes_then profile name before at free.place free.free versions used c.self.invariant plan planned,
      withdrawn_then profile name before at free.place free.free versions used c.self.invariant plan planned,
    ))

pub returns-clause-versions : goal.returns-clause-versions
returns-clause-versions c =
    let profile = c.self.inside.profile in
    let before = c.self.inside.modules in
    let versions = c.self.inside.versions.items in
    let used = c.self.inside.used in
    let name = c.args.name.now in
    let at = c.in_ok-at.at in
    let free = c.in_ok-at.ensures.ok in
    let n = c.index-as_slice-at.result in
    let here = c.index-as_slice-at.is ∙ ap (λ l. get_or l at n) c.as_slice.ensures ∙ place_is before name at free.place n in
    let plan = c.in_ok-plan.plan in
    let P : ModuleTree → Type 0 = λ m. IsRemovalPlan m versions used plan in
    let planned = subst P here c.in_ok-plan.ensures.ok in
    let news = c.apply_edits.new.versions.items in
    let R : List NamedVersion → Type 0 = λ l. AreApplied l plan.edits.items news in
    let made = subst R c.in_ok-plan.ensures.kept c.apply_edits.ensures in
    let after = c.take_out.ensures.out ∙ place_removed before name at free.place in
    let Q : List ModuleTree → Type 0 = λ l. AreVersionsUsed (holdings profile before versions used) (holdings profile l news used) plan.changes.list in
    let S : Holdings → Type 0 = λ k. AreVersionsUsed k (holdings profile c.take_out.new.self news used) plan.changes.list in (
      subst S c.self.view_is (subst Q (sym after) (used_then profile name before at free.place free.free versions used c.self.invariant plan planned news made)),
      ap (λ (k : Holdings). k.used) c.self.view_is,
    )
