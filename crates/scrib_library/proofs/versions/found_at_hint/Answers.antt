use Rattle.std.proofs.Common.{subst}
use Rattle.scrib_library.specs.declared.versions.NamedVersion.{NamedVersion}
use Rattle.scrib_library.specs.Stored.{HasVersion}
use Rattle.scrib_library.proofs.VersionEditLemmas.{found_version, no_version}
use Rattle.scrib_library.proofs.versions.found_at_hint.Goals as goal

pub returns-in-Ok : goal.returns-in-Ok
returns-in-Ok c =
    let P : NamedVersion → Type 0 = λ v. HasVersion c.args.versions.now c.args.name.now v.version in
    subst P c.index-versions-at.is (found_version c.args.versions.now c.args.name.now c.in-Ok.at c.index-versions-at.result c.index-versions-at.is c.in-Ok.ensures.found)

pub returns-in-Err : goal.returns-in-Err
returns-in-Err c = no_version c.args.versions.now c.args.name.now c.in-Err.at c.in-Err.ensures.gap
