use Rattle.std.proofs.Common.{◌∙◌, Bool, not, List, if◌then◌else◌, ap, subst}
use Rattle.std.specs.Option.{option_copied}
use Rattle.std.proofs.lemmas.Result.{IfOk-weaker}
use Rattle.scrib_types.specs.declared.event.Event.{Event}
use Rattle.scrib_types.specs.declared.event.Told.TheVariants.{Stale, Judged}
use Rattle.scrib_record.specs.Judgings.{IsTurnedTo}
use Rattle.scrib_record.specs.Stale.{Recorded}
use Rattle.scrib_record.specs.Told.{IsTurned}
use Rattle.scrib_record.proofs.ResultLemmas.{is_fresh, fresh_at, now_stale, not_stale, turned_not, turned_on, seen}
use Rattle.scrib_record.proofs.record.Record.turn.Goals as goal

pub returns-then-not-is_stale-clause-ok : goal.returns-then-not-is_stale-clause-ok
returns-then-not-is_stale-clause-ok c =
    let present = option_copied c.args.present in
    let r = c.self.inside in
    let test = c.is_stale.ensures ∙ ap not (fresh_at present r.log.items r.judging c.len.result (c.len.ensures ∙ r.log.ok.0)) in
    let fresh = not_stale (is_fresh present r.log.items r.judging) c.is_stale.result test c.if-not-is_stale.true in
    let same = fresh_at present r.log.items r.judging c.len-then-not-is_stale.result (c.len-then-not-is_stale.ensures ∙ r.log.ok.0) in
    IfOk-weaker c.current_verdict.result _ _
    (λ told is. subst (λ (x : Recorded). IsTurned present x x told) c.self.view_is
    (turned_not present r.name r.log.items r.judging told c.self.invariant.kept fresh (is ∙ ap (λ (b : Bool). if b then Judged r.judging.verdict else Stale) same)))
    c.current_verdict.ensures

pub returns-clause-ok : goal.returns-clause-ok
returns-clause-ok c =
    let present = option_copied c.args.present in
    let r = c.self.inside in
    let new = c.turn.new.self in
    let test = c.is_stale.ensures ∙ ap not (fresh_at present r.log.items r.judging c.len.result (c.len.ensures ∙ r.log.ok.0)) in
    let stale = now_stale (is_fresh present r.log.items r.judging) c.is_stale.result test c.if-not-is_stale.false in
    IfOk-weaker c.turn.result _ _
    (λ told h. subst (λ (x : Recorded). IsTurned present x (seen r.name r.log.items new) told) c.self.view_is
    (turned_on present r.name r.log.items r.judging new told stale (subst (λ (x : List Event). IsTurnedTo present x r.judging new told) c.deref.ensures.value h)))
    c.turn.ensures.ok
