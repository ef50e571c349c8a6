use Rattle.std.proofs.Common.{◌∙◌, sym, subst, arith}
use Rattle.std.proofs.lemmas.Bool.{false≢true}
use Rattle.scrib_reported.specs.Monitors.{MakesTurns}
use Rattle.scrib_reported.proofs.SweepLemmas.{not_false, not_true, renewed, same_more, turn_more, turn_of, turning_ends, turning_more, turning_none}
use Rattle.scrib_reported.proofs.reporting_monitor.ReportingMonitor.push_turns_of.Goals as goal

pub loop-made-init : goal.loop-made-init
loop-made-init c = turning_none c.args.head c.args.self.now c.args.id c.requires

pub returns-in_err-outcome-clause-same : goal.returns-in_err-outcome-clause-same
returns-in_err-outcome-clause-same c = same_more c.args.self.now c.loop-made.self c.push_turn.new.self c.loop-made.invariant.same c.push_turn.ensures.same

pub returns-then-not-outcome-clause-ok : goal.returns-then-not-outcome-clause-ok
returns-then-not-outcome-clause-ok c =
    subst (MakesTurns c.args.head c.args.self.now c.push_turn.new.self) (not_true c.in_ok-outcome.outcome.accepted c.if-not-outcome.true)
    (turn_more c.args.head c.named-turn.result c.args.self.now c.loop-made.self c.push_turn.new.self c.args.id c.loop-made.made c.in_ok-outcome.outcome (turn_of c.args.self.now.names c.args.head c.named-turn.result c.args.id c.in_ok-name.name c.bytes_in.result c.in_ok-name.ensures c.bytes_in.ensures c.named-turn.ensures) c.loop-made.invariant c.in_ok-outcome.ensures.ok)

pub returns-then-not-outcome-clause-renewed : goal.returns-then-not-outcome-clause-renewed
returns-then-not-outcome-clause-renewed c = λ e. absurd (false≢true e)

pub returns-then-not-outcome-clause-same : goal.returns-then-not-outcome-clause-same
returns-then-not-outcome-clause-same c = same_more c.args.self.now c.loop-made.self c.push_turn.new.self c.loop-made.invariant.same c.push_turn.ensures.same

pub returns-then-is_some-clause-ok : goal.returns-then-is_some-clause-ok
returns-then-is_some-clause-ok c =
    subst (MakesTurns c.args.head c.args.self.now c.push_turn.new.self) (not_false c.in_ok-outcome.outcome.accepted c.if-not-outcome.false)
    (turn_more c.args.head c.named-turn.result c.args.self.now c.loop-made.self c.push_turn.new.self c.args.id c.loop-made.made c.in_ok-outcome.outcome (turn_of c.args.self.now.names c.args.head c.named-turn.result c.args.id c.in_ok-name.name c.bytes_in.result c.in_ok-name.ensures c.bytes_in.ensures c.named-turn.ensures) c.loop-made.invariant c.in_ok-outcome.ensures.ok)

pub returns-then-is_some-clause-renewed : goal.returns-then-is_some-clause-renewed
returns-then-is_some-clause-renewed c = λ e.
    renewed c.args.head c.named-turn.result c.args.self.now c.loop-made.self c.push_turn.new.self c.args.id c.loop-made.made c.in_ok-outcome.outcome (turn_of c.args.self.now.names c.args.head c.named-turn.result c.args.id c.in_ok-name.name c.bytes_in.result c.in_ok-name.ensures c.bytes_in.ensures c.named-turn.ensures) c.loop-made.invariant c.in_ok-outcome.ensures.ok (not_false c.in_ok-outcome.outcome.accepted c.if-not-outcome.false)
    c.fresh_record.result (sym c.is_some.ensures ∙ c.if-is_some.true) c.fresh_record.ensures

pub returns-then-is_some-clause-same : goal.returns-then-is_some-clause-same
returns-then-is_some-clause-same c = same_more c.args.self.now c.loop-made.self c.push_turn.new.self c.loop-made.invariant.same c.push_turn.ensures.same

pub loop-made-preserved : goal.loop-made-preserved
loop-made-preserved c =
    turning_more c.args.head c.named-turn.result c.args.self.now c.loop-made.self c.push_turn.new.self c.args.id c.loop-made.made c.in_ok-outcome.outcome (turn_of c.args.self.now.names c.args.head c.named-turn.result c.args.id c.in_ok-name.name c.bytes_in.result c.in_ok-name.ensures c.bytes_in.ensures c.named-turn.ensures) c.loop-made.invariant c.in_ok-outcome.ensures.ok (not_false c.in_ok-outcome.outcome.accepted c.if-not-outcome.false)
    c.fresh_record.result (sym c.is_some.ensures ∙ c.if-is_some.false) c.fresh_record.ensures c.push_turn.ensures.same

pub unreachable-requires : goal.unreachable-requires
unreachable-requires c =
    turning_ends c.args.head c.args.self.now c.loop-made.self c.args.id c.enough_turns-limit.result c.loop-made.made c.requires c.enough_turns-limit.ensures c.loop-made.invariant (omega arith) (omega arith)
