use Rattle.std.proofs.Common.{◌≡◌, ◌∙◌, true, length, ap, subst, sym, refl, arith}
use Rattle.std.proofs.lemmas.Bool.{true≢false}
use Rattle.scrib_types.specs.Agreement.{Agreement}
use Rattle.scrib_types.specs.WellFormed.{is_protocol}
use Rattle.scrib_record.specs.Versions.{meaning_of}
use Rattle.scrib_record.proofs.CompleteLogLemmas.{all_ended, ended_more, role_there}
use Rattle.scrib_record.proofs.RolePlaces.{is_declared}
use Rattle.scrib_record.proofs.configuration.Configuration.have_ended.Goals as goal

pub loop-place-init : goal.loop-place-init
loop-place-init c log st k r below here = absurd (omega (arith, below))

pub loop-place-preserved : goal.loop-place-preserved
loop-place-preserved c log st =
    let a = meaning_of c.args.version.now in
    let valid = subst (λ (x : Agreement). is_protocol x.roles x.global ≡ true) c.protocol.ensures c.roles-roles.ensures.valid in
    let count = ap length (c.roles-roles.ensures.roles ∙ ap (λ (x : Agreement). x.roles) c.protocol.ensures) in
    let r = role_there a c.loop-place.place valid (omega (arith, count)) in
    ended_more a log c.loop-place.place r.0 r.1 (c.loop-place.invariant log st)
    ((c.has_ended.ensures log st r.0 r.2).0 c.if-not-has_ended.false)

pub has_ended-requires-clause-declared : goal.has_ended-requires-clause-declared
has_ended-requires-clause-declared c =
    let a = meaning_of c.args.version.now in
    let valid = subst (λ (x : Agreement). is_protocol x.roles x.global ≡ true) c.protocol.ensures c.roles-roles.ensures.valid in
    let count = ap length (c.roles-roles.ensures.roles ∙ ap (λ (x : Agreement). x.roles) c.protocol.ensures) in
    let r = role_there a c.loop-place.place valid (omega (arith, count)) in
    (r.0, r.2)

pub returns-then-not-has_ended-clause-ended : goal.returns-then-not-has_ended-clause-ended
returns-then-not-has_ended-clause-ended c log st =
    let a = meaning_of c.args.version.now in
    let valid = subst (λ (x : Agreement). is_protocol x.roles x.global ≡ true) c.protocol.ensures c.roles-roles.ensures.valid in
    let count = ap length (c.roles-roles.ensures.roles ∙ ap (λ (x : Agreement). x.roles) c.protocol.ensures) in
    let r = role_there a c.loop-place.place valid (omega (arith, count)) in
    let declared = is_declared a.roles r.0 c.loop-place.place r.2 in (
      λ f. absurd (true≢false (sym f)),
      λ all. absurd (true≢false (sym ((c.has_ended.ensures log st r.0 r.2).1 (all r.0 declared)) ∙ c.if-not-has_ended.true)),
    )

pub returns-then-not-has_ended-clause-valid : goal.returns-then-not-has_ended-clause-valid
returns-then-not-has_ended-clause-valid c =
    subst (λ (x : Agreement). is_protocol x.roles x.global ≡ true) c.protocol.ensures c.roles-roles.ensures.valid

pub returns-clause-ended : goal.returns-clause-ended
returns-clause-ended c log st =
    let count = ap length (c.roles-roles.ensures.roles ∙ ap (λ (x : Agreement). x.roles) c.protocol.ensures) in
    (λ t. all_ended (meaning_of c.args.version.now) log c.loop-place.place (omega (arith, count)) (c.loop-place.invariant log st), λ all. refl)

pub returns-clause-valid : goal.returns-clause-valid
returns-clause-valid c =
    subst (λ (x : Agreement). is_protocol x.roles x.global ≡ true) c.protocol.ensures c.roles-roles.ensures.valid
