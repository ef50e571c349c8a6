use Rattle.std.proofs.Common.{◌≡◌, Bool, List, ◌∷◌, length}
use Rattle.std.specs.Borrow.{Bor}
use Rattle.scrib_tree.specs.declared.tree.ModuleTree.{ModuleTree}
use Rattle.scrib_tree.specs.declared.tree.Statement.{Statement}
use Rattle.scrib_elaborate.specs.declared.tasks.Task.{Task}
use Rattle.scrib_elaborate.specs.declared.tasks.Task.TheVariants.{Front}
use Rattle.scrib_static_checks.specs.Statements.{KeepsRules}
use Rattle.scrib_elaborate.specs.Typing.{Target, made_of, IsState}
use Rattle.scrib_elaborate.proofs.typing.messages.Given as goal

abbrev pub invariant-loop-last : goal.invariant-loop-last
invariant-loop-last l = (modules : List ModuleTree) (target : Target) (e : Bool) (tasks : List Task) (all left : Bor (List Statement)) → KeepsRules modules target.root e → all.now ≡ l.initial.left → left.now ≡ l.left
    → IsState modules target (Front l.scope all ∷ tasks) (made_of l.initial.typed)
    → IsState modules target (Front l.scope left ∷ tasks) (made_of l.typed)

abbrev pub decreases-loop-last : goal.decreases-loop-last
decreases-loop-last l = length l.left
