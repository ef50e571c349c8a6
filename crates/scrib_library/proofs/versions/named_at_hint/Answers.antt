use Rattle.scrib_library.proofs.VersionEditLemmas.{found_name, found_version, no_version}
use Rattle.scrib_library.proofs.versions.named_at_hint.Goals as goal

pub returns-in-Ok-clause-name : goal.returns-in-Ok-clause-name
returns-in-Ok-clause-name c = found_name c.args.versions.now c.args.name.now c.in-Ok.at c.index-versions-at.result c.index-versions-at.is c.in-Ok.ensures.found

pub returns-in-Ok-clause-version : goal.returns-in-Ok-clause-version
returns-in-Ok-clause-version c =
    found_version c.args.versions.now c.args.name.now c.in-Ok.at c.index-versions-at.result c.index-versions-at.is c.in-Ok.ensures.found

pub returns-in-Err-clause-version : goal.returns-in-Err-clause-version
returns-in-Err-clause-version c = no_version c.args.versions.now c.args.name.now c.in-Err.field-0 c.in-Err.ensures.gap
