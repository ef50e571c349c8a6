use Rattle.std.proofs.Common.{◌∙◌, ◌≡◌, ◌↔◌, IsTrue, Option, Some, List, not, ap, subst, sym}
use Rattle.std.specs.Option.{option_copied, option_map}
use Rattle.std.proofs.lemmas.Result.{IfOk-weaker}
use Rattle.scrib_types.specs.Agreement.{Agreement}
use Rattle.scrib_types.specs.declared.event.Event.{Event}
use Rattle.scrib_record.specs.declared.version.Version.{Version}
use Rattle.scrib_record.specs.CompleteRecords.{IsCompleteWith, IsWholeVerdict}
use Rattle.scrib_record.specs.Stale.{Recorded}
use Rattle.scrib_record.specs.Versions.{meaning_of}
use Rattle.scrib_record.proofs.ResultLemmas.{is_fresh, fresh_at, not_stale}
use Rattle.scrib_record.proofs.WholeVerdictLemmas.{whole_alike, whole_fresh, whole_withdrawn}
use Rattle.scrib_record.proofs.record.Record.judge_whole.Goals as goal

pub returns-then-not-is_stale : goal.returns-then-not-is_stale
returns-then-not-is_stale c =
    let present = option_copied c.args.present in
    let r = c.self.inside in
    let test = c.is_stale.ensures ∙ ap not (fresh_at present r.log.items r.judging c.len.result (c.len.ensures ∙ r.log.ok.0)) in
    let fresh = not_stale (is_fresh present r.log.items r.judging) c.is_stale.result test c.if-not-is_stale.true in
    let whole = whole_fresh present r.log.items r.judging c.in_ok-verdict.verdict c.is_complete-complete.result c.self.invariant.kept fresh c.in_ok-verdict.ensures
    (subst (λ (x : List Event). IsTrue c.is_complete-complete.result ↔ IsCompleteWith r.judging.held x r.judging.verdict r.judging.judged) c.deref.ensures.value c.is_complete-complete.ensures) in
    subst (λ (x : Recorded). IsWholeVerdict present x.log (record { verdict = c.in_ok-verdict.verdict; complete = c.is_complete-complete.result })) c.self.view_is whole

pub returns-in_default : goal.returns-in_default
returns-in_default c = whole_withdrawn (option_copied c.args.present) c.args.self.now.log (ap option_copied c.in_default.is)

pub returns : goal.returns
returns c =
    let present = option_copied c.args.present in
    let n = c.in_ok-numbering.numbering in
    let held : present ≡ Some c.in-Some.version.now = ap option_copied c.in-Some.is in
    let same : Some (meaning_of n.version) ≡ option_map meaning_of present = ap (λ (a : Agreement). Some a) (sym c.in_ok-numbering.ensures.1) ∙ sym (ap (λ (o : Option Version). option_map meaning_of o) held) in
    let here = c.deref-2.ensures.value ∙ ap (λ (x : Recorded). x.log) c.self.view_is in
    IfOk-weaker c.judge_whole.result _ _
    (λ w h. whole_alike (Some n.version) present c.args.self.now.log w same (subst (λ (x : List Event). IsWholeVerdict (Some n.version) x w) here h))
    c.judge_whole.ensures
