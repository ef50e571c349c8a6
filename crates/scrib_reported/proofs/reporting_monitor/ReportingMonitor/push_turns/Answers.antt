use Rattle.std.proofs.Common.{subst}
use Rattle.scrib_reported.specs.Monitors.{MakesTurns}
use Rattle.scrib_reported.proofs.SweepLemmas.{next_more, next_stale, next_turning, none_stale, same_more, turning_first}
use Rattle.scrib_reported.proofs.reporting_monitor.ReportingMonitor.push_turns.Goals as goal

pub loop-id-init : goal.loop-id-init
loop-id-init c = turning_first c.args.head c.args.self.now c.args.stale.now

pub push_turns_of-requires : goal.push_turns_of-requires
push_turns_of-requires c = next_stale c.args.head c.args.self.now c.loop-id.self c.args.stale.now c.requires c.loop-id.id-index c.loop-id.invariant c.loop-id-test.true

pub returns-in_err-push_turns_of-clause-same : goal.returns-in_err-push_turns_of-clause-same
returns-in_err-push_turns_of-clause-same c = same_more c.args.self.now c.loop-id.self c.push_turns_of.new.self c.loop-id.invariant.same c.push_turns_of.ensures.same

pub returns-then-not-branch-clause-ok : goal.returns-then-not-branch-clause-ok
returns-then-not-branch-clause-ok c =
    subst (MakesTurns c.args.head c.args.self.now c.push_turns_of.new.self) c.if-not-branch.true
    (next_more c.args.head c.args.self.now c.loop-id.self c.args.stale.now c.requires c.loop-id.id-index c.loop-id.invariant c.push_turns_of.new.self c.in_ok-push_turns_of.field-0 c.in_ok-push_turns_of.ensures.ok
    c.push_turns_of.ensures.same)

pub returns-then-not-branch-clause-same : goal.returns-then-not-branch-clause-same
returns-then-not-branch-clause-same c = same_more c.args.self.now c.loop-id.self c.push_turns_of.new.self c.loop-id.invariant.same c.push_turns_of.ensures.same

pub loop-id-preserved : goal.loop-id-preserved
loop-id-preserved c =
    next_turning c.args.head c.args.self.now c.loop-id.self c.args.stale.now c.requires c.loop-id.id-index c.loop-id.invariant c.push_turns_of.new.self c.in_ok-push_turns_of.field-0 c.in_ok-push_turns_of.ensures.ok
    c.push_turns_of.ensures.same c.loop-id-test.true c.if-not-branch.false c.in_ok-push_turns_of.ensures.renewed

pub returns-clause-ok : goal.returns-clause-ok
returns-clause-ok c = c.loop-id.invariant.made

pub returns-clause-fresh : goal.returns-clause-fresh
returns-clause-fresh c = λ e. none_stale c.args.head c.args.self.now c.loop-id.self c.args.stale.now c.requires c.loop-id.id-index c.loop-id.invariant c.loop-id-test.false

pub returns-clause-same : goal.returns-clause-same
returns-clause-same c = c.loop-id.invariant.same
