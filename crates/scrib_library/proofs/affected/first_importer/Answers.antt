use Rattle.std.proofs.Common.{sym, ◌∙◌}
use Rattle.std.proofs.lemmas.Bool.{false≢true}
use Rattle.scrib_library.specs.Affected.{names_now}
use Rattle.scrib_library.proofs.AffectedLemmas.{none_waiting_more, none_waiting}
use Rattle.scrib_library.proofs.NameFilterLemmas.{sifted_out}
use Rattle.scrib_library.proofs.affected.first_importer.Goals.{else-may_overlap-via-then-may_overlap+else-imports_some, else-may_overlap-via-else-may_overlap}
use Rattle.scrib_library.proofs.affected.first_importer.Goals as goal

pub loop-at-preserved : goal.loop-at-preserved
loop-at-preserved c =
    let names = names_now c.args.names.now in
    let one = c.index-waiting-at.result in
    none_waiting_more names c.args.waiting.now c.loop-at.at one c.loop-at-test.true c.index-waiting-at.is c.loop-at.invariant (elim c.else-may_overlap.branch [
      | else-may_overlap-via-then-may_overlap+else-imports_some w ↦ λ s. false≢true (sym w.if-imports_some.false ∙ w.imports_some.ensures.1 s)
      | else-may_overlap-via-else-may_overlap w ↦ sifted_out one.tree.now one.name_filter c.args.name_filter names one.filtered c.requires (c.may_overlap.ensures w.if-may_overlap.false)
    ])

pub returns : goal.returns
returns c =
    none_waiting (names_now c.args.names.now) c.args.waiting.now c.loop-at.at c.loop-at-test.false c.loop-at.invariant
