use Rattle.std.proofs.Common.{List, inl, refl, sym, ap, subst, arith}
use Rattle.std.specs.List.{Contains}
use Rattle.scrib_tree.specs.declared.tree.ModuleTree.{ModuleTree}
use Rattle.scrib_library.specs.Affected.{names_now, waiting_trees}
use Rattle.scrib_library.proofs.Lists.{Contains-nil}
use Rattle.scrib_library.proofs.AffectedLemmas.{sorted_first, sorted_moved, sorted_all, none_removed, none_rest, none_taken, none_all, within_more}
use Rattle.scrib_library.proofs.affected.affected.Goals as goal

pub loop-at-init : goal.loop-at-init
loop-at-init c =
    let items = rw c.new-names.ensures.items at c.in_ok-push.ensures.items in
    (sorted_first c.args.modules.now c.args.edited.now (waiting_trees c.in_ok-waiting.waiting.items) (names_now c.push.new.self.items) (ap names_now items) (λ m p. let P : List ModuleTree → Type 0 = λ l. Contains l m in inl (subst P (sym c.in_ok-waiting.ensures) p)), λ m p s. Contains-nil s.by.module s.named, omega arith)

pub loop-at-preserved-in-Some : goal.loop-at-preserved-in-Some
loop-at-preserved-in-Some c =
    let lt = rw c.deref.ensures.value at c.in-Some.ensures in
    let le = c.loop-at.invariant.2 in
    rw (c.remove-importer.ensures.items, c.in_ok-push-in-Some.ensures.items) (
      sorted_moved c.args.modules.now c.args.edited.now c.loop-at.waiting.items c.loop-at.names.items c.in-Some.place c.remove-importer.result _ c.loop-at.invariant.0 lt c.remove-importer.ensures.value refl,
      none_removed c.loop-at.waiting.items c.loop-at.names.items c.loop-at.at c.loop-at.invariant.1 c.in-Some.place _ lt le,
      within_more c.loop-at.names.items _ c.loop-at.at le,
    )

pub loop-at-preserved : goal.loop-at-preserved
loop-at-preserved c =
    let ws = c.loop-at.waiting.items in
    let ns = c.loop-at.names.items in
    let none = none_rest ws ns c.loop-at.at c.loop-at.invariant.1 (rw (c.deref.ensures.value, c.deref-in-loop-at.ensures.value) at c.in-None.ensures) in (
      c.loop-at.invariant.0,
      none_taken ws ns c.len-at.result (omega (arith, c.len-at.ensures)) none,
      omega (arith, c.len-at.ensures),
    )

pub returns : goal.returns
returns c =
    sorted_all c.args.modules.now c.args.edited.now (waiting_trees c.loop-at.waiting.items) (names_now c.loop-at.names.items) c.loop-at.invariant.0 (none_all c.loop-at.waiting.items c.loop-at.names.items c.loop-at.at c.loop-at.invariant.1 (omega (arith, c.loop-at-test.false, c.len.ensures)))
