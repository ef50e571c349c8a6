use Rattle.std.proofs.Common.{◌≡◌, Bool, false, rules, sym, ap, ◌∙◌}
use Rattle.scrib_types.specs.Agreement.{Agreement}
use Rattle.scrib_types.specs.WellFormed.{projects}
use Rattle.scrib_library.specs.Lacking.{version_projects}
use Rattle.scrib_library.proofs.ProjectionLemmas.{first_here, all_of}
use Rattle.scrib_library.proofs.profiles.first_lacking.Goals as goal

pub returns-then-not-projected : goal.returns-then-not-projected
returns-then-not-projected c =
    let v = c.named-item.result in
    let P : Agreement → Bool = λ a. projects c.args.profile a.global a.roles in
    let not_projected : c.in_ok-projected.projected ≡ false = search rules in
    let lacks : version_projects c.args.profile v ≡ false = sym (ap P c.protocol.ensures) ∙ sym c.in_ok-projected.ensures ∙ not_projected in
    first_here c.args.profile c.args.versions.now c.loop-named.named-index v c.loop-named-test.true c.named-item.is c.loop-named.invariant c.requires lacks

pub returns : goal.returns
returns c =
    all_of c.args.profile c.args.versions.now c.loop-named.named-index c.loop-named-test.false c.loop-named.invariant
