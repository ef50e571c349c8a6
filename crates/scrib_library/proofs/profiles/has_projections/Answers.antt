use Rattle.std.proofs.Common.{◌≡◌, not, sym, ap, ◌∙◌}
use Rattle.std.specs.Option.{option_map}
use Rattle.std.proofs.lemmas.List.{drop_all}
use Rattle.scrib_types.specs.Meaning.{agreement_of}
use Rattle.scrib_types.specs.LocalView.{local_of}
use Rattle.scrib_types.specs.Projection.{projection}
use Rattle.scrib_types.specs.WellFormed.{projects}
use Rattle.scrib_library.proofs.ProjectionLemmas.{is_some-local, projects_more, projects_not}
use Rattle.scrib_library.proofs.profiles.has_projections.Goals as goal

pub loop-role-preserved : goal.loop-role-preserved
loop-role-preserved c =
    let g = (agreement_of c.args.protocol.now).global in
    let r = c.role-item.result in
    let seen : option_map local_of c.in_ok-local.local ≡ projection c.args.profile r g = c.in_ok-local.ensures ∙ ap (projection c.args.profile r) c.global.ensures.global in
    let some = is_some-local c.in_ok-local.local (projection c.args.profile r g) seen ∙ c.is_none.ensures ∙ ap not c.if-is_none.false in
    projects_more c.args.profile g c.roles-role-items.result.now c.loop-role.role-index r c.loop-role-test.true c.role-item.is some ∙ c.loop-role.invariant

pub returns-then-is_none : goal.returns-then-is_none
returns-then-is_none c =
    let g = (agreement_of c.args.protocol.now).global in
    let r = c.role-item.result in
    let seen : option_map local_of c.in_ok-local.local ≡ projection c.args.profile r g = c.in_ok-local.ensures ∙ ap (projection c.args.profile r) c.global.ensures.global in
    let none = is_some-local c.in_ok-local.local (projection c.args.profile r g) seen ∙ c.is_none.ensures ∙ ap not c.if-is_none.true in
    sym (projects_not c.args.profile g c.roles-role-items.result.now c.loop-role.role-index r c.loop-role-test.true c.role-item.is none) ∙ c.loop-role.invariant

pub returns : goal.returns
returns c =
    let g = (agreement_of c.args.protocol.now).global in
    sym (ap (projects c.args.profile g) (drop_all c.loop-role.role-index c.roles-role-items.result.now c.loop-role-test.false)) ∙ c.loop-role.invariant
