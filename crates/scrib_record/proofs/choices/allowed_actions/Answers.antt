use Rattle.std.proofs.Common.{◌∙◌, sym, map, arith}
use Rattle.std.proofs.lemmas.Bool.{true≢false}
use Rattle.std.proofs.lemmas.List.{length-map}
use Rattle.scrib_record.specs.Configurations.{IsEnabled, in_flight}
use Rattle.scrib_record.proofs.NextActions.{act_of, pass_none, edge_more, edge_skip, pass_sorted, pass_exact}
use Rattle.scrib_record.proofs.choices.allowed_actions.Goals as goal
use Rattle.scrib_record.proofs.choices.allowed_actions.Goals.{then-is_allowed+in_ok-action+in_ok-push, else-is_allowed}

pub loop-edge-init : goal.loop-edge-init
loop-edge-init c = pass_none (IsEnabled c.args.roles.now (in_flight c.args.configuration.now) c.args.at) (map act_of c.args.edges.now) c.new-list.result c.requires.order c.new-list.ensures

pub loop-edge-preserved : goal.loop-edge-preserved
loop-edge-preserved c =
    let P = IsEnabled c.args.roles.now (in_flight c.args.configuration.now) c.args.at in
    elim c.if-is_allowed.branch [
      | then-is_allowed+in_ok-action+in_ok-push w ↦
          let push = w.in_ok-push.ensures.ok in
          edge_more P c.args.edges.now c.loop-edge.list c.if-is_allowed.list c.loop-edge.edge-index c.edge-item.result w.in_ok-action.action c.loop-edge-test.true c.edge-item.is c.loop-edge.invariant
          (c.is_allowed.ensures.0 w.if-is_allowed.true) w.in_ok-action.ensures (w.list-is ∙ push)
      | else-is_allowed w ↦
          edge_skip P c.args.edges.now c.loop-edge.list c.if-is_allowed.list c.loop-edge.edge-index c.edge-item.result c.loop-edge-test.true c.edge-item.is c.loop-edge.invariant
          (λ h. true≢false (sym (c.is_allowed.ensures.1 h) ∙ w.if-is_allowed.false)) w.list-is
    ]

pub returns-clause-sorted : goal.returns-clause-sorted
returns-clause-sorted c =
    pass_sorted (IsEnabled c.args.roles.now (in_flight c.args.configuration.now) c.args.at) (map act_of c.args.edges.now) c.loop-edge.list c.loop-edge.edge-index (omega (arith, length-map c.args.edges.now act_of)) c.loop-edge.invariant

pub returns-clause-exact : goal.returns-clause-exact
returns-clause-exact c =
    pass_exact (IsEnabled c.args.roles.now (in_flight c.args.configuration.now) c.args.at) (map act_of c.args.edges.now) c.loop-edge.list c.loop-edge.edge-index (omega (arith, length-map c.args.edges.now act_of)) c.loop-edge.invariant
