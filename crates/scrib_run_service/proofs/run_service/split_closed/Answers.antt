use Rattle.std.proofs.Common.{◌≡◌, ◌++◌, List, map, ap}
use Rattle.std.specs.List.{flat_map}
use Rattle.std.specs.Vec.Iter.{into_iter_items}
use Rattle.scrib_run_service.specs.declared.connection.Closed.{Closed}
use Rattle.scrib_run_service.proofs.run_service.split_closed.Goals as goal

pub loop-closed-init : goal.loop-closed-init
loop-closed-init c =
    let all : into_iter_items c.into_iter-closed-iterator.result ≡ c.args.connections.items = c.into_iter-closed-iterator.ensures.into_iter_gives.0 in
    record {
      passes = ap (λ (cs : List Closed). c.args.setup.items ++ flat_map (λ (one : Closed). one.passes.items) cs) all;
      texts = λ i. c.in_ok-texts.ensures.items i ++ map (λ (one : Closed). one.lines) (all i);
    }
