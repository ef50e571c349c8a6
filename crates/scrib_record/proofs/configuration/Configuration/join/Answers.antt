use Rattle.std.proofs.Common.{◌∙◌, sym, refl}
use Rattle.scrib_record.specs.Versions.{meaning_of}
use Rattle.scrib_record.proofs.AdvanceLemmas.{role_state_read, join_nobody, join_twice, joins}
use Rattle.scrib_record.proofs.configuration.Configuration.join.Goals as goal

pub returns-in_default : goal.returns-in_default
returns-in_default c log st =
    let a = meaning_of c.args.version.now in
    (join_nobody a log c.args.role.now (sym c.place_of.ensures.place ∙ c.in_default.is), st)

pub returns-then-role_state : goal.returns-then-role_state
returns-then-role_state c log st =
    let a = meaning_of c.args.version.now in
    let self = c.args.self.now in
    let place = sym c.place_of.ensures.place ∙ c.in-Some.is in
    let role_state = role_state_read a c.args.version.now.machines log self c.args.role.now c.in-Some.at c.index-role_state.result.now st place c.index-role_state.ensures in
    (join_twice a c.args.version.now.machines log self c.args.role.now c.in-Some.at c.index-role_state.result.now st place role_state c.if-role_state.true, st)

pub returns : goal.returns
returns c log st =
    let a = meaning_of c.args.version.now in
    let self = c.args.self.now in
    let place = sym c.place_of.ensures.place ∙ c.in-Some.is in
    let role_state = role_state_read a c.args.version.now.machines log self c.args.role.now c.in-Some.at c.index-role_state.result.now st place c.index-role_state.ensures in
    joins a c.args.version.now.machines log self _ c.args.role.now c.in-Some.at c.index-role_state.result.now _ st place role_state c.if-role_state.false refl refl refl refl refl
