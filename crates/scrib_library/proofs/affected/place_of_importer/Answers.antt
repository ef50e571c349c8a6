use Rattle.scrib_library.specs.Affected.{names_now}
use Rattle.scrib_library.proofs.AffectedLemmas.{searched_both}
use Rattle.scrib_library.proofs.affected.place_of_importer.Goals as goal

pub returns : goal.returns
returns c =
    let behind = rw c.in_default.is at c.first_importer.ensures in
    searched_both (names_now c.args.names.now) c.args.waiting.now c.min-middle.result c.first_importer-2.result behind c.first_importer-2.ensures
