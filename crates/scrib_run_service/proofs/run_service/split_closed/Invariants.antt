use Rattle.std.proofs.Common.{◌≡◌, ◌++◌, map}
use Rattle.std.specs.List.{flat_map}
use Rattle.std.specs.Vec.Iter.{into_iter_items}
use Rattle.scrib_run_service.proofs.run_service.split_closed.Given as goal

abbrev pub invariant-loop-closed : goal.invariant-loop-closed
invariant-loop-closed l = record {
  passes : l.passes.items ++ flat_map (λ c. c.passes.items) (into_iter_items l.closed-iterator) ≡ l.fn.setup.items ++ flat_map (λ c. c.passes.items) l.fn.connections.items;
  texts : l.texts.items ++ map (λ c. c.lines) (into_iter_items l.closed-iterator) ≡ map (λ c. c.lines) l.fn.connections.items;
}
