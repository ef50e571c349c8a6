use Rattle.std.proofs.Common.{◌≡◌, ◌++◌, Bool, subst, length, take, arith}
use Rattle.scrib_types.specs.declared.event.Event.{Event}
use Rattle.scrib_record.specs.Configurations.{IsNext}
use Rattle.scrib_record.specs.Following.{MayFollow}
use Rattle.scrib_record.specs.Judgings.{Runs}
use Rattle.scrib_record.specs.Versions.{meaning_of}
use Rattle.scrib_record.proofs.VerdictLemmas.{runs_none, runs_more, runs_stop, at_is}
use Rattle.scrib_record.proofs.ConfigurationLemmas.{led_same}
use Rattle.scrib_record.proofs.judging.perform.Goals as goal

pub advance-requires : goal.advance-requires
advance-requires c = let r = c.loop-i.invariant c.requires.0 c.requires.1 in (_, r.led_to)

pub returns-in-Ok-false : goal.returns-in-Ok-false
returns-in-Ok-false c =
    let v = c.args.version.now in
    let e = c.index-events-i.result in
    let events = c.args.events.now in
    let i = c.loop-i.i in
    record {
      within = omega arith;
      runs = λ log st.
          let r = c.loop-i.invariant log st in
          let next = subst (λ (b : Bool). IsNext (meaning_of v) v.machines (log ++ take i events) e c.advance.new.self b) c.in-Ok-false.field-0-test (c.in-Ok-false.ensures.ok (log ++ take i events) r.led_to) in
          runs_stop v log events c.loop-i.configuration c.advance.new.self i r next.1;
      halts = (
        c.loop-i-test.true,
        λ log st f at.
            let r = c.loop-i.invariant log st in
            let next = subst (λ (b : Bool). IsNext (meaning_of v) v.machines (log ++ take i events) e c.advance.new.self b) c.in-Ok-false.field-0-test (c.in-Ok-false.ensures.ok (log ++ take i events) r.led_to) in
            let P : Event → Type 0 = λ x. MayFollow (meaning_of v) (log ++ take i events) x → ⊥ in
            subst P (at_is events i e f c.loop-i-test.true c.index-events-i.is at) next.0,
      );
    }

pub returns-in-Err : goal.returns-in-Err
returns-in-Err c =
    let v = c.args.version.now in
    let events = c.args.events.now in
    let i = c.loop-i.i in
    record {
      within = omega arith;
      runs = λ log st.
          let r = c.loop-i.invariant log st in
          runs_stop v log events c.loop-i.configuration c.advance.new.self i r (led_same (meaning_of v) v.machines (log ++ take i events) c.loop-i.configuration c.advance.new.self c.in-Err.ensures.err r.led_to);
      halts = tt;
    }

pub loop-i-init : goal.loop-i-init
loop-i-init c log st = runs_none c.args.version.now log c.args.events.now c.args.configuration.now st

pub loop-i-preserved : goal.loop-i-preserved
loop-i-preserved c log st =
    let v = c.args.version.now in
    let e = c.index-events-i.result in
    let events = c.args.events.now in
    let i = c.loop-i.i in
    let r = c.loop-i.invariant log st in
    let next = subst (λ (b : Bool). IsNext (meaning_of v) v.machines (log ++ take i events) e c.advance.new.self b) c.in-Ok-true.field-0-test (c.in-Ok-true.ensures.ok (log ++ take i events) r.led_to) in
    runs_more v log events c.loop-i.configuration c.advance.new.self i e c.loop-i-test.true c.index-events-i.is r next

pub returns : goal.returns
returns c =
    let v = c.args.version.now in
    let events = c.args.events.now in
    let all : c.loop-i.i ≡ length events = omega arith in
    record {
      within = omega arith;
      runs = λ log st. subst (Runs v log events c.loop-i.configuration) all (c.loop-i.invariant log st);
      halts = omega arith;
    }
