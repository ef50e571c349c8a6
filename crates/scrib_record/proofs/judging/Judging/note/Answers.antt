use Rattle.std.proofs.Common.{◌∷◌, ◌++◌, [], Bool, Some, ap, refl, sym, subst}
use Rattle.scrib_types.specs.declared.event.Told.TheVariants.{Judged}
use Rattle.scrib_types.specs.declared.event.Verdict.{Verdict}
use Rattle.scrib_record.specs.Configurations.{IsNext}
use Rattle.scrib_record.specs.Judgings.{Keeps}
use Rattle.scrib_record.specs.Versions.{meaning_of}
use Rattle.scrib_record.proofs.VerdictLemmas.{kept_whole, keeps_next}
use Rattle.scrib_record.proofs.JudgingLemmas.{on_err, judged_on, kept_again}
use Rattle.scrib_record.proofs.ConfigurationLemmas.{led_same}
use Rattle.scrib_record.proofs.judging.Judging.note.Goals as goal

pub returns-then-branch-clause-ok : goal.returns-then-branch-clause-ok
returns-then-branch-clause-ok c =
    let v = c.in-Some-Permitted.version in
    let self = c.args.self.now in
    let log = c.args.log.now in
    let w = kept_whole log self v c.requires.kept c.in-Some-Permitted.is-0 c.in-Some-Permitted.is-1 c.requires.whole in
    let next = subst (λ (b : Bool). IsNext (meaning_of v) v.machines log c.args.event.now c.advance.new.self b) c.if-branch.true (c.in_ok-advance.ensures.ok log w.0) in
    let k = keeps_next v log self.configuration c.advance.new.self c.args.event.now w next in
    judged_on log c.args.event.now self _ _ v refl c.in-Some-Permitted.is-0 refl refl
    (subst (λ (x : Verdict). Keeps (Some v) (log ++ c.args.event.now ∷ []) x c.advance.new.self) (sym c.in-Some-Permitted.is-1) k) (ap Judged (sym c.in-Some-Permitted.is-1))

pub offence-requires : goal.offence-requires
offence-requires c =
    let v = c.in-Some-Permitted.version in
    let log = c.args.log.now in
    let w = kept_whole log c.args.self.now v c.requires.kept c.in-Some-Permitted.is-0 c.in-Some-Permitted.is-1 c.requires.whole in
    let next = subst (λ (b : Bool). IsNext (meaning_of v) v.machines log c.args.event.now c.advance.new.self b) c.if-branch.false (c.in_ok-advance.ensures.ok log w.0) in
    (log, next.1)

pub returns-in_err-verdict-2-clause-kept : goal.returns-in_err-verdict-2-clause-kept
returns-in_err-verdict-2-clause-kept c =
    let v = c.in-Some-Permitted.version in
    let self = c.args.self.now in
    let log = c.args.log.now in
    let w = kept_whole log self v c.requires.kept c.in-Some-Permitted.is-0 c.in-Some-Permitted.is-1 c.requires.whole in
    let next = subst (λ (b : Bool). IsNext (meaning_of v) v.machines log c.args.event.now c.advance.new.self b) c.if-branch.false (c.in_ok-advance.ensures.ok log w.0) in
    on_err _ _ (kept_again log self _ v c.requires.kept c.requires.whole c.in-Some-Permitted.is-0 c.in-Some-Permitted.is-1 refl refl refl refl next.1)

pub returns-in_err-copied-clause-kept : goal.returns-in_err-copied-clause-kept
returns-in_err-copied-clause-kept c =
    let v = c.in-Some-Permitted.version in
    let self = c.args.self.now in
    let log = c.args.log.now in
    let w = kept_whole log self v c.requires.kept c.in-Some-Permitted.is-0 c.in-Some-Permitted.is-1 c.requires.whole in
    let next = subst (λ (b : Bool). IsNext (meaning_of v) v.machines log c.args.event.now c.advance.new.self b) c.if-branch.false (c.in_ok-advance.ensures.ok log w.0) in
    on_err _ _ (kept_again log self _ v c.requires.kept c.requires.whole c.in-Some-Permitted.is-0 c.in-Some-Permitted.is-1 refl refl refl refl next.1)

pub returns-clause-ok : goal.returns-clause-ok
returns-clause-ok c =
    let v = c.in-Some-Permitted.version in
    let self = c.args.self.now in
    let log = c.args.log.now in
    let w = kept_whole log self v c.requires.kept c.in-Some-Permitted.is-0 c.in-Some-Permitted.is-1 c.requires.whole in
    let next = subst (λ (b : Bool). IsNext (meaning_of v) v.machines log c.args.event.now c.advance.new.self b) c.if-branch.false (c.in_ok-advance.ensures.ok log w.0) in
    judged_on log c.args.event.now self _ _ v refl c.in-Some-Permitted.is-0 refl refl (c.in_ok-verdict-2.ensures log next.1 w.1 refl next.0) (ap Judged c.in_ok-copied.ensures)

pub returns-in_err-advance-clause-kept : goal.returns-in_err-advance-clause-kept
returns-in_err-advance-clause-kept c =
    let v = c.in-Some-Permitted.version in
    let self = c.args.self.now in
    let log = c.args.log.now in
    let w = kept_whole log self v c.requires.kept c.in-Some-Permitted.is-0 c.in-Some-Permitted.is-1 c.requires.whole in
    let same = led_same (meaning_of v) v.machines log self.configuration c.advance.new.self c.in_err-advance.ensures.err w.0 in
    on_err _ _ (kept_again log self _ v c.requires.kept c.requires.whole c.in-Some-Permitted.is-0 c.in-Some-Permitted.is-1 refl refl refl refl same)
