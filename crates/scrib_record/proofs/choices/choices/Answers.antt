use Rattle.std.proofs.Common.{◌≡◌, ◌↔◌, ◌∙◌, ◌∷◌, ◌++◌, [], List, Contains, map, ap, subst}
use Rattle.scrib_types.specs.declared.event.Action.{Action}
use Rattle.scrib_types.specs.declared.event.Action.TheVariants.{Join}
use Rattle.scrib_types.specs.Agreement.{Agreement}
use Rattle.scrib_types.specs.Meaning.{agreement_of}
use Rattle.scrib_record.specs.Configurations.{IsEnabled, in_flight}
use Rattle.scrib_record.specs.Versions.{meaning_of}
use Rattle.scrib_record.proofs.AdvanceLemmas.{place_is, role_state_read, at_read, formed}
use Rattle.scrib_record.proofs.NextActions.{act_of, allowed_nobody, allowed_absent, allowed_present}
use Rattle.scrib_record.proofs.ConfigurationLemmas.{state_within}
use Rattle.scrib_record.proofs.choices.choices.Goals as goal

pub returns-in_default : goal.returns-in_default
returns-in_default c log st p =
    let a = meaning_of c.args.version.now in
    let roles = c.roles-roles.ensures.roles ∙ ap (λ (x : Agreement). x.roles) c.protocol.ensures in
    allowed_nobody a log c.args.role.now c.new.result (place_is c.roles-roles.result.now a.roles c.args.role.now c.place_of.result _ roles c.place_of.ensures c.in_default.is) c.new.ensures

pub returns-then-not-role_state : goal.returns-then-not-role_state
returns-then-not-role_state c log st p =
    let v = c.args.version.now in
    let a = meaning_of v in
    let conf = c.args.configuration.now in
    let roles = c.roles-roles.ensures.roles ∙ ap (λ (x : Agreement). x.roles) c.protocol.ensures in
    let place = place_is c.roles-roles.result.now a.roles c.args.role.now c.place_of.result _ roles c.place_of.ensures c.in-Some.is in
    let role_state = role_state_read a v.machines log conf c.args.role.now c.in-Some.at c.index-role_state.result.now st place c.index-role_state.ensures in
    let only : c.push.new.self ≡ Join ∷ [] = c.in_ok-push.ensures.ok ∙ ap (λ (ys : List Action). ys ++ Join ∷ []) c.new-only.ensures in
    allowed_absent a v.machines log conf c.args.role.now c.in-Some.at c.index-role_state.result.now c.push.new.self st place role_state c.if-not-role_state.true p only

pub edges-edges-requires : goal.edges-edges-requires
edges-edges-requires c =
    let v = c.args.version.now in
    let a = meaning_of v in
    let conf = c.args.configuration.now in
    let log = c.requires.0 in
    let roles = c.roles-roles.ensures.roles ∙ ap (λ (x : Agreement). x.roles) c.protocol.ensures in
    let place = place_is c.roles-roles.result.now a.roles c.args.role.now c.place_of.result _ roles c.place_of.ensures c.in-Some.is in
    state_within a v.machines log c.args.role.now c.in-Some.at c.index-role_state.result.now c.index-machines-at.result
    (at_read a v.machines c.machines.result.now log conf c.args.role.now c.in-Some.at c.index-role_state.result.now c.index-machines-at.result c.machines.ensures.follow c.requires.1 place c.index-role_state.ensures c.machines.ensures.machines c.index-machines-at.is)

pub returns : goal.returns
returns c log st p =
    let v = c.args.version.now in
    let a = meaning_of v in
    let conf = c.args.configuration.now in
    let roles = c.roles-roles.ensures.roles ∙ ap (λ (x : Agreement). x.roles) c.protocol.ensures in
    let place = place_is c.roles-roles.result.now a.roles c.args.role.now c.place_of.result _ roles c.place_of.ensures c.in-Some.is in
    let at = at_read a v.machines c.machines.result.now log conf c.args.role.now c.in-Some.at c.index-role_state.result.now c.index-machines-at.result c.machines.ensures.follow st place c.index-role_state.ensures c.machines.ensures.machines c.index-machines-at.is in
    let list = c.in_ok-list.list in
    let exact = subst (λ (rs : List _). (act : Action) → Contains list act ↔ (Contains (map act_of c.edges-edges.result.now) act × IsEnabled rs (in_flight conf) c.in-Some.at act)) roles c.in_ok-list.ensures.exact in
    allowed_present a v.machines log conf c.args.role.now c.in-Some.at c.index-role_state.result.now c.index-machines-at.result c.edges-edges.result.now list st at c.if-not-role_state.false c.edges-edges.ensures.here
    (formed (agreement_of c.protocol.result.now) a c.protocol.ensures c.roles-roles.ensures.valid) p c.in_ok-list.ensures.sorted exact
