use Rattle.std.proofs.Common.{List, length, take, Option}
use Rattle.std.specs.List.{AllZip}
use Rattle.scrib_types.specs.GlobalView.{global_branches}
use Rattle.scrib_tree.specs.declared.tree.ModuleTree.{ModuleTree}
use Rattle.scrib_type_builder.specs.declared.built_type.BuiltType.{BuiltType}
use Rattle.scrib_elaborate.specs.declared.tasks.Task.{Task}
use Rattle.scrib_static_checks.specs.Source.{Then, Chooses}
use Rattle.scrib_static_checks.specs.SourceView.{blocks_of}
use Rattle.scrib_type_builder.specs.Operators.{AreIndexed}
use Rattle.scrib_static_checks.specs.Elaboration.{role_in, Under}
use Rattle.scrib_elaborate.specs.Sites.{branch_communications}
use Rattle.scrib_elaborate.specs.Scope.{scope_of}
use Rattle.scrib_elaborate.specs.Typing.{Target, IsMarked, IsChoosing}
use Rattle.scrib_elaborate.proofs.ChoiceSteps.{AreJoined}
use Rattle.scrib_elaborate.proofs.choices.joined.Given as goal

abbrev pub invariant-loop-block : goal.invariant-loop-block
invariant-loop-block l = record {
  joined : (modules : List ModuleTree) (target : Target) (tasks : List Task) (follows : Option BuiltType) (x : IsChoosing modules target tasks (scope_of l.scope) l.scope.depth l.choice.chooser.now l.choice.branches.now l.choice.spot follows l.fn.types.items)
      → AreJoined modules l.scope.depth (scope_of l.scope) (Under (scope_of l.scope) x.rest x.outer) (role_in (scope_of l.scope) l.choice.chooser.now) (blocks_of (take (length l.yielded) l.choice.branches.now)) l.so_far.receiver (global_branches l.so_far.branches)
      × AllZip (IsMarked modules l.scope.depth (Under (scope_of l.scope) (Then (Chooses l.choice.chooser.now (blocks_of l.choice.branches.now) l.choice.spot) x.rest) x.outer)) (branch_communications l.scope.depth (global_branches l.so_far.branches)) l.so_far.origins.items;
  indexed : AreIndexed l.so_far.branches l.so_far.operators.latest.items l.so_far.operators.earlier.items;
}
