use Rattle.std.proofs.Common.{List, ℕ, ◌+◌, Option, take, sym, ap, ◌∙◌, subst}
use Rattle.std.specs.Option.{option_copied}
use Rattle.std.proofs.lemmas.Bool.{false≢true}
use Rattle.scrib_library.specs.Withdrawals.{IsFirstImporterOrNone}
use Rattle.scrib_library.proofs.ImporterLemmas.{first_more, first_same, first_all}
use Rattle.scrib_library.proofs.removal.first_importer.Goals as goal
use Rattle.scrib_library.proofs.removal.first_importer.Goals.{then-is_importer, else-is_importer}

pub loop-tree-preserved : goal.loop-tree-preserved
loop-tree-preserved c =
    let name = c.args.name.now in
    let ms = c.args.modules.now in
    let i = c.loop-tree.tree-index in
    let t = c.tree-item.result in
    let before = option_copied c.loop-tree.first in
    let P : Option (List (List ℕ)) → Type 0 = λ o. IsFirstImporterOrNone (take (i + 1) ms) name o in
    elim c.if-is_importer.branch [
      | then-is_importer w ↦ subst P (sym (ap option_copied w.first-is)) (first_more name ms i t c.loop-tree-test.true c.tree-item.is before w.first_of.result.now c.loop-tree.invariant (c.is_importer.ensures.0 w.if-is_importer.true) w.first_of.ensures)
      | else-is_importer w ↦ subst P (sym (ap option_copied w.first-is)) (first_same name ms i t c.loop-tree-test.true c.tree-item.is before (λ h. false≢true (sym w.if-is_importer.false ∙ c.is_importer.ensures.1 h)) c.loop-tree.invariant)
    ]

pub returns : goal.returns
returns c =
    first_all c.args.name.now c.args.modules.now c.loop-tree.tree-index (option_copied c.loop-tree.first) c.loop-tree-test.false c.loop-tree.invariant
