use Rattle.std.proofs.Common.{List, sym, ◌∙◌, subst}
use Rattle.std.specs.Option.{option_copied}
use Rattle.std.proofs.lemmas.Result.{IfOk-weaker, IfErr-weaker}
use Rattle.scrib_tree.specs.declared.tree.ModuleTree.{ModuleTree}
use Rattle.scrib_library.specs.declared.meanings.NamedMeaning.{NamedMeaning}
use Rattle.scrib_library.specs.Affected.{names_now, AreAffected}
use Rattle.scrib_library.specs.Entries.{IsDeclaredIn, AreAffectedEntries}
use Rattle.scrib_library.specs.Listed.{AreInOrder}
use Rattle.scrib_library.specs.Elaborated.{meaning_names, AreMeanings, IsEntryRefusal}
use Rattle.scrib_library.specs.Plans.{Covers, StopsMeanings}
use Rattle.scrib_library.proofs.PlanLemmas.{covering, covering_nothing, stopped_meanings}
use Rattle.scrib_library.proofs.plan.meanings_after.Goals as goal

pub returns-then-is_same-clause-ok : goal.returns-then-is_same-clause-ok
returns-then-is_same-clause-ok c =
    let P : List NamedMeaning → Type 0 = λ ys. Covers c.args.profile c.args.new.now c.args.modules.now (option_copied c.args.gone) ys in
    rw c.new.ensures.items (covering_nothing c.args.profile c.args.new.now c.args.modules.now (option_copied c.args.gone) (c.is_same.ensures c.if-is_same.true))

pub returns-clause-sorted : goal.returns-clause-sorted
returns-clause-sorted c =
    let m = c.args.new.now in
    let gone = option_copied c.args.gone in
    let es = c.in_ok-entries.entries.items in
    let rs = c.in_ok-reached.reached.items in
    let names = names_now c.in_ok-affected.affected.items in
    let Q : List ModuleTree → Type 0 = λ ms. AreAffected ms m.name names in
    let R : List ModuleTree → Type 0 = λ ms. AreAffectedEntries ms names gone es in
    let named = rw c.deref.ensures.value at c.in_ok-entries.ensures in
    let all = covering c.args.profile m c.args.modules.now gone names (subst Q c.as_slice-trees.ensures c.in_ok-affected.ensures) es (subst R c.as_slice-trees.ensures named) rs c.in_ok-reached.ensures in
    IfOk-weaker c.meanings_of.result (λ ys. AreMeanings c.args.profile c.args.modules.now rs ys.items) (λ ys. AreInOrder (meaning_names ys.items)) (λ ys h. (all ys.items h).0) (rw c.as_modules.ensures at c.meanings_of.ensures.ok)

pub returns-clause-ok : goal.returns-clause-ok
returns-clause-ok c =
    let m = c.args.new.now in
    let gone = option_copied c.args.gone in
    let es = c.in_ok-entries.entries.items in
    let rs = c.in_ok-reached.reached.items in
    let names = names_now c.in_ok-affected.affected.items in
    let Q : List ModuleTree → Type 0 = λ ms. AreAffected ms m.name names in
    let R : List ModuleTree → Type 0 = λ ms. AreAffectedEntries ms names gone es in
    let named = rw c.deref.ensures.value at c.in_ok-entries.ensures in
    let all = covering c.args.profile m c.args.modules.now gone names (subst Q c.as_slice-trees.ensures c.in_ok-affected.ensures) es (subst R c.as_slice-trees.ensures named) rs c.in_ok-reached.ensures in
    IfOk-weaker c.meanings_of.result (λ ys. AreMeanings c.args.profile c.args.modules.now rs ys.items) (λ ys. Covers c.args.profile m c.args.modules.now gone ys.items) (λ ys h. (all ys.items h).1) (rw c.as_modules.ensures at c.meanings_of.ensures.ok)

pub returns-clause-fault : goal.returns-clause-fault
returns-clause-fault c =
    let m = c.args.new.now in
    let gone = option_copied c.args.gone in
    let es = c.in_ok-entries.entries.items in
    let rs = c.in_ok-reached.reached.items in
    let names = names_now c.in_ok-affected.affected.items in
    let Q : List ModuleTree → Type 0 = λ ms. AreAffected ms m.name names in
    let R : List ModuleTree → Type 0 = λ ms. AreAffectedEntries ms names gone es in
    let named = rw c.deref.ensures.value at c.in_ok-entries.ensures in
    IfErr-weaker c.meanings_of.result (IsEntryRefusal c.args.profile c.args.modules.now rs) (StopsMeanings c.args.profile m c.args.modules.now gone)
    (stopped_meanings c.args.profile m c.args.modules.now gone names (subst Q c.as_slice-trees.ensures c.in_ok-affected.ensures) es (subst R c.as_slice-trees.ensures named) rs c.in_ok-reached.ensures c.requires)
    (rw c.as_modules.ensures at c.meanings_of.ensures.fault)

pub meanings_of-requires-clause-stand : goal.meanings_of-requires-clause-stand
meanings_of-requires-clause-stand c = λ e p s.
    let P : List ModuleTree → Type 0 = λ ms. IsDeclaredIn ms e in
    subst P (c.as_slice-trees.ensures ∙ sym c.as_modules.ensures) (c.in_ok-entries.ensures.sound e (c.in_ok-reached.ensures.sound e p) s)
