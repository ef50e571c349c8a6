use Rattle.std.proofs.Common.{◌-◌, ◌==◌, refl, take, drop, subst, ap, length, arith}
use Rattle.std.proofs.lemmas.Bool.Decides.{Decides-eqb}
use Rattle.scrib_types.specs.declared.event.Told.TheVariants.{Judged}
use Rattle.scrib_record.specs.Judgings.{RunsFrom}
use Rattle.scrib_record.proofs.VerdictLemmas.{kept_open}
use Rattle.scrib_record.proofs.JudgingLemmas.{IsPart, on_err, further_all, further_refused, stopped_short}
use Rattle.scrib_record.proofs.judging.Judging.judge_more.Goals as goal

pub returns-in-AtEnd-clause-ok : goal.returns-in-AtEnd-clause-ok
returns-in-AtEnd-clause-ok c =
    let self = c.args.self.now in
    let log = c.args.log.now in
    let end = c.min-end.result in
    let events = take (end - self.reached) (drop self.reached log) in
    let part : IsPart log events self.reached end = record { part = refl; from = omega (arith, c.min-end.ensures, c.requires.kept.within, c.requires.kept.hint); within = omega (arith, c.min-end.ensures) } in
    let runs = subst (RunsFrom c.in-Some.version events self.configuration c.perform-passed.new.configuration c.perform-passed.result.0) c.in-AtEnd.is c.perform-passed.ensures in
    let decides = Decides-eqb end (length log) in
    further_all log events self _ c.in-Some.version end c.perform-passed.result.0 c.verdict_of.result (end == length log) part c.min-end.ensures c.requires.kept c.in-Some.is c.requires.open runs refl refl refl refl decides.0 decides.1 c.verdict_of.ensures

pub offence-requires : goal.offence-requires
offence-requires c = let w = kept_open c.args.log.now c.args.self.now c.in-Some.version c.requires.kept c.in-Some.is c.requires.open in (_, (c.perform-passed.ensures.runs _ w.0).led_to)

pub returns-in_ok-copied-in-Refused-clause-ok : goal.returns-in_ok-copied-in-Refused-clause-ok
returns-in_ok-copied-in-Refused-clause-ok c =
    let self = c.args.self.now in
    let log = c.args.log.now in
    let end = c.min-end.result in
    let events = take (end - self.reached) (drop self.reached log) in
    let part : IsPart log events self.reached end = record { part = refl; from = omega (arith, c.min-end.ensures, c.requires.kept.within, c.requires.kept.hint); within = omega (arith, c.min-end.ensures) } in
    let runs = subst (RunsFrom c.in-Some.version events self.configuration c.perform-passed.new.configuration c.perform-passed.result.0) c.in-Refused.is c.perform-passed.ensures in
    further_refused log events self _ c.in-Some.version end c.perform-passed.result.0 c.index-log-self.result _ part (omega (arith, c.min-end.ensures)) c.requires.kept c.in-Some.is c.requires.open runs c.index-log-self.is c.in_ok-verdict-in-Refused.ensures refl refl refl (ap Judged c.in_ok-copied-in-Refused.ensures)

pub returns-in-NoMemory-clause-kept : goal.returns-in-NoMemory-clause-kept
returns-in-NoMemory-clause-kept c =
    let self = c.args.self.now in
    let log = c.args.log.now in
    let end = c.min-end.result in
    let events = take (end - self.reached) (drop self.reached log) in
    let part : IsPart log events self.reached end = record { part = refl; from = omega (arith, c.min-end.ensures, c.requires.kept.within, c.requires.kept.hint); within = omega (arith, c.min-end.ensures) } in
    stopped_short log events self _ c.in-Some.version end c.perform-passed.result.0 c.perform-passed.result.1 part (omega (arith, c.min-end.ensures)) c.requires.kept c.in-Some.is c.requires.open c.perform-passed.ensures refl refl refl refl

pub returns-in_err-verdict-in-Refused-clause-kept : goal.returns-in_err-verdict-in-Refused-clause-kept
returns-in_err-verdict-in-Refused-clause-kept c =
    let self = c.args.self.now in
    let log = c.args.log.now in
    let end = c.min-end.result in
    let events = take (end - self.reached) (drop self.reached log) in
    let part : IsPart log events self.reached end = record { part = refl; from = omega (arith, c.min-end.ensures, c.requires.kept.within, c.requires.kept.hint); within = omega (arith, c.min-end.ensures) } in
    on_err _ _ (stopped_short log events self _ c.in-Some.version end c.perform-passed.result.0 c.perform-passed.result.1 part (omega (arith, c.min-end.ensures)) c.requires.kept c.in-Some.is c.requires.open c.perform-passed.ensures refl refl refl refl)

pub returns-in_err-copied-in-Refused-clause-kept : goal.returns-in_err-copied-in-Refused-clause-kept
returns-in_err-copied-in-Refused-clause-kept c =
    let self = c.args.self.now in
    let log = c.args.log.now in
    let end = c.min-end.result in
    let events = take (end - self.reached) (drop self.reached log) in
    let part : IsPart log events self.reached end = record { part = refl; from = omega (arith, c.min-end.ensures, c.requires.kept.within, c.requires.kept.hint); within = omega (arith, c.min-end.ensures) } in
    on_err _ _ (stopped_short log events self _ c.in-Some.version end c.perform-passed.result.0 c.perform-passed.result.1 part (omega (arith, c.min-end.ensures)) c.requires.kept c.in-Some.is c.requires.open c.perform-passed.ensures refl refl refl refl)
