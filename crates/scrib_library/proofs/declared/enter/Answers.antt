use Rattle.std.proofs.Common.{◌+◌, List, refl, sym, ap, ◌∙◌, subst, take, arith}
use Rattle.std.proofs.lemmas.Grind.{common_steps}
use Rattle.scrib_library.specs.declared.declared.Entry.{Entry}
use Rattle.scrib_library.specs.Listed.{IsAt, IsGap}
use Rattle.scrib_library.specs.Entries.{entry_names, AreEntered}
use Rattle.scrib_library.proofs.EntryLemmas.{entered_found, entered_new}
use Rattle.scrib_library.proofs.declared.enter.Goals as goal
use Rattle.scrib_library.proofs.declared.enter.Goals.{in-Err+in_ok-insert, in_default}

pub loop-declaration-preserved : goal.loop-declaration-preserved
loop-declaration-preserved c =
    let m = c.args.tree.now in
    let before = c.args.entries.now.items in
    let ps = c.as_slice-declaration-items.result.now in
    let i = c.loop-declaration.declaration-index in
    let p = c.declaration-item.result in
    let es = c.loop-declaration.entries.items in
    let P : List Entry → Type 0 = λ l. AreEntered m c.args.is_declared before (take (i + 1) ps) l in
    elim c.match-place_of.branch [
      | in-Err+in_ok-insert w ↦ (
          let Q : List Entry → Type 0 = λ l. IsGap (entry_names l) c.in_ok-name.name w.in-Err.place in
          let made = entered_new m c.args.is_declared before ps i p c.loop-declaration-test.true c.declaration-item.is es c.loop-declaration.invariant w.in-Err.place _ (record { home = refl; protocol = refl; named = c.in_ok-name.ensures }) refl (subst Q c.deref.ensures.value w.in-Err.ensures.gap) in
          subst P (sym (ap (λ v. v.items) w.entries-is ∙ w.in_ok-insert.ensures.items)) made)
      | in_default w ↦ (
          let Q : List Entry → Type 0 = λ l. IsAt (entry_names l) c.in_ok-name.name w.in_default.field-0 in
          let made = entered_found m c.args.is_declared before ps i p c.loop-declaration-test.true c.declaration-item.is es c.loop-declaration.invariant c.in_ok-name.name w.in_default.field-0 c.in_ok-name.ensures (subst Q c.deref.ensures.value w.in_default.ensures.found) in
          subst P (sym (ap (λ v. v.items) w.entries-is)) made)
    ]

pub returns : goal.returns
returns c = grind (arith, common_steps)
