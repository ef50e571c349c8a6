use Rattle.std.proofs.Common.{List, ℕ, sym, subst}
use Rattle.scrib_tree.specs.declared.tree.ModuleTree.{ModuleTree}
use Rattle.scrib_library.specs.Edits.{IsImporter, IsLeastImporter}
use Rattle.scrib_library.specs.Withdrawals.{IsFirstImporter}
use Rattle.scrib_library.proofs.ModuleNameLemmas.{place_has}
use Rattle.scrib_library.proofs.ImporterLemmas.{least_by_text}
use Rattle.scrib_library.proofs.removal.free_place.Goals as goal

pub returns-in-Some-first_importer-clause-fault : goal.returns-in-Some-first_importer-clause-fault
returns-in-Some-first_importer-clause-fault c =
    let ms = c.args.modules.now in
    let name = c.args.name.now in
    let by = c.in-Some-first_importer.by.now in
    let P : List ModuleTree → Type 0 = λ l. IsFirstImporter l name by in
    let Q : List (List ℕ) → Type 0 = λ n. IsLeastImporter ms name n in
    let first = subst P c.as_slice.ensures c.in-Some-first_importer.ensures in
    (place_has ms name c.in-Some.at c.in-Some.ensures, subst Q (sym c.in_ok-by.ensures) (least_by_text name ms c.requires by first))

pub returns-clause-ok : goal.returns-clause-ok
returns-clause-ok c =
    let name = c.args.name.now in
    let P : List ModuleTree → Type 0 = λ l. (m : ModuleTree) → IsImporter l name m → ⊥ in
    record { place = c.in-Some.ensures; free = subst P c.as_slice.ensures c.in_default-first_importer.ensures }
