use Rattle.std.proofs.Common.{sym}
use Rattle.scrib_core.proofs.EditLemmas.{profile_answered}
use Rattle.scrib_core.proofs.monitor.Core.set_profile.Goals as goal

pub invariant_of-self : goal.invariant_of-self
invariant_of-self c = (profile_answered c.self.inside.library c.self.inside.records.entries c.are_numbered.ensures.numbers c.are_numbered.ensures.once c.self.invariant c.args.profile c.set_profile-changed.new.self c.set_profile-changed.result c.set_profile-changed.ensures.ok c.set_profile-changed.ensures.projected c.set_profile-changed.ensures.fault c.set_profile-changed.ensures.err).known

pub returns-clause-answered : goal.returns-clause-answered
returns-clause-answered c =
    let made = profile_answered c.self.inside.library c.self.inside.records.entries c.are_numbered.ensures.numbers c.are_numbered.ensures.once c.self.invariant c.args.profile c.set_profile-changed.new.self c.set_profile-changed.result c.set_profile-changed.ensures.ok c.set_profile-changed.ensures.projected c.set_profile-changed.ensures.fault c.set_profile-changed.ensures.err in
    rw (sym c.self.view_is, c.profile_reply.ensures) made.answered

pub returns-clause-memory : goal.returns-clause-memory
returns-clause-memory c =
    let made = profile_answered c.self.inside.library c.self.inside.records.entries c.are_numbered.ensures.numbers c.are_numbered.ensures.once c.self.invariant c.args.profile c.set_profile-changed.new.self c.set_profile-changed.result c.set_profile-changed.ensures.ok c.set_profile-changed.ensures.projected c.set_profile-changed.ensures.fault c.set_profile-changed.ensures.err in
    rw (sym c.self.view_is, c.profile_reply.ensures) made.due

pub returns-clause-refused : goal.returns-clause-refused
returns-clause-refused c =
    let made = profile_answered c.self.inside.library c.self.inside.records.entries c.are_numbered.ensures.numbers c.are_numbered.ensures.once c.self.invariant c.args.profile c.set_profile-changed.new.self c.set_profile-changed.result c.set_profile-changed.ensures.ok c.set_profile-changed.ensures.projected c.set_profile-changed.ensures.fault c.set_profile-changed.ensures.err in
    rw (sym c.self.view_is, c.profile_reply.ensures) made.left
