use Rattle.std.proofs.lemmas.Bool.{false≢true}
use Rattle.scrib_library.specs.Affected.{names_now}
use Rattle.scrib_library.proofs.AffectedLemmas.{none_more, none_imported}
use Rattle.scrib_library.proofs.affected.imports_some.Goals as goal

pub loop-import-preserved : goal.loop-import-preserved
loop-import-preserved c =
    none_more (names_now c.args.names.now) c.as_slice-import-items.result.now c.loop-import.import-index c.import-item.result c.loop-import-test.true c.import-item.is c.loop-import.invariant (λ p. false≢true (c.if-is_one_of.ensures.1 p))

pub returns : goal.returns
returns c = (
  λ t. absurd (false≢true t),
  λ s. absurd (none_imported (names_now c.args.names.now) c.args.tree.now c.as_slice-import-items.result.now c.as_slice-import-items.ensures c.loop-import.import-index c.loop-import-test.false c.loop-import.invariant s),
)
