use Rattle.std.proofs.Common.{arith}
use Rattle.scrib_core.specs.Held.{state_of}
use Rattle.scrib_sweep.proofs.TurnEffects.{only_open}
use Rattle.scrib_sweep.proofs.ConversationSweeps.{still_none, still_more, limited, judged, refused}
use Rattle.scrib_sweep.proofs.conversation_turns.turn_until_judged.Goals as goal

pub loop-turns-init : goal.loop-turns-init
loop-turns-init c = still_none (state_of c.args.core.now) c.args.id c.requires

pub returns-in-Some-Judged : goal.returns-in-Some-Judged
returns-in-Some-Judged c =
    let l = c.loop-turns in
    judged (state_of c.args.core.now) (state_of l.core) (state_of c.turn.new.core) c.args.id l.turns (only_open l.core) l.invariant c.turn.result c.turn.ensures
    c.in-Some-Judged.field-0 c.in-Some-Judged.field-0-0 c.args.limit c.in-Some-Judged.is c.in-Some-Judged.field-0-is c.loop-turns-test.true

pub returns-in-None : goal.returns-in-None
returns-in-None c =
    let l = c.loop-turns in
    refused (state_of c.args.core.now) (state_of l.core) (state_of c.turn.new.core) c.args.id l.turns (only_open l.core) l.invariant c.turn.result c.turn.ensures
    c.args.limit c.in-None.is c.loop-turns-test.true

pub loop-turns-preserved : goal.loop-turns-preserved
loop-turns-preserved c =
    let l = c.loop-turns in
    still_more (state_of c.args.core.now) (state_of l.core) (state_of c.turn.new.core) c.args.id l.turns (only_open l.core) l.invariant c.turn.result c.turn.ensures
    c.in-Some-Stale.field-0 c.in-Some-Stale.is c.in-Some-Stale.field-0-is

pub returns : goal.returns
returns c =
    let l = c.loop-turns in
    limited (state_of c.args.core.now) (state_of l.core) c.args.id c.args.limit l.turns l.invariant (omega arith) (omega arith)
