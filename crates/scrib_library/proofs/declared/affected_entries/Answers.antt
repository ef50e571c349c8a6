use Rattle.std.proofs.Common.{List, Option, sym, ap, subst}
use Rattle.std.specs.Option.{option_copied}
use Rattle.scrib_tree.specs.declared.tree.ModuleTree.{ModuleTree}
use Rattle.scrib_library.specs.declared.declared.Entry.{Entry}
use Rattle.scrib_library.specs.Affected.{names_now}
use Rattle.scrib_library.specs.Entries.{AreAffectedEntries}
use Rattle.scrib_library.proofs.EntryLemmas.{touched_none, touched_gone}
use Rattle.scrib_library.proofs.declared.affected_entries.Goals as goal
use Rattle.scrib_library.proofs.declared.affected_entries.Goals.{in-Some+in_ok-enter, in_default}

pub returns : goal.returns
returns c =
    let names = names_now c.args.affected.now in
    let ms = c.args.modules.now in
    let es = c.in_ok-entries.entries.items in
    let P : List Entry → Type 0 = λ l. AreAffectedEntries ms names (option_copied c.args.gone) l in
    elim c.match-gone.branch [
      | in-Some+in_ok-enter w ↦ (
          let Q : Option ModuleTree → Type 0 = λ o. AreAffectedEntries ms names o w.enter.new.entries.items in
          subst P (sym (ap (λ v. v.items) w.entries-is)) (subst Q (sym (ap option_copied w.in-Some.is)) (touched_gone names ms es c.in_ok-entries.ensures w.in-Some.tree.now w.enter.new.entries.items w.in_ok-enter.ensures)))
      | in_default w ↦ (
          let Q : Option ModuleTree → Type 0 = λ o. AreAffectedEntries ms names o es in
          subst P (sym (ap (λ v. v.items) w.entries-is)) (subst Q (sym (ap option_copied w.in_default.is)) (touched_none names ms es c.in_ok-entries.ensures)))
    ]
