use Rattle.std.proofs.Common.{◌∙◌, ap, subst, true, ◌≡◌}
use Rattle.scrib_types.specs.Agreement.{Agreement}
use Rattle.scrib_types.specs.WellFormed.{is_protocol}
use Rattle.scrib_record.specs.Versions.{meaning_of}
use Rattle.scrib_record.proofs.AdvanceLemmas.{hinted}
use Rattle.scrib_record.proofs.version.Version.place_of.Goals as goal

pub returns-in-Some-clause-place : goal.returns-in-Some-clause-place
returns-in-Some-clause-place c =
    let a = meaning_of c.args.self.now in
    let roles = c.roles-roles.ensures.roles ∙ ap (λ (x : Agreement). x.roles) c.protocol.ensures in
    let valid = subst (λ (x : Agreement). is_protocol x.roles x.global ≡ true) c.protocol.ensures c.roles-roles.ensures.valid in
    let read = c.in-Some.ensures.lookup in
    hinted a c.roles-roles.result.now c.args.role.now c.in-Some.other.now c.hint-hint.result valid roles read.0 read.1 (c.equal.ensures.same.0 c.if-equal.true)
