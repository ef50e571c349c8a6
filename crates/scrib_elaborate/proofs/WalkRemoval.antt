-- No walk is under way after the walk over one protocol is removed.
use Rattle.std.proofs.Common.{ℕ, List, set, ⊎_elim, ◌∙◌}
use Rattle.std.proofs.lemmas.List.{length-set}
use Rattle.scrib_tree.specs.declared.tree.ModuleTree.{ModuleTree}
use Rattle.scrib_static_checks.specs.declared.checking.State.{State}
use Rattle.scrib_static_checks.specs.declared.checking.State.TheVariants.{Unwalked, Walking, Walked}
use Rattle.scrib_static_checks.specs.Names.{Declaration}
use Rattle.scrib_static_checks.specs.Walking.{IsIdle}
use Rattle.scrib_static_checks.proofs.Walks.{get_set}

pub idle_without : (ms : List ModuleTree) (ds : List Declaration) (at : ℕ) (states : List State) → IsIdle ms ds states → IsIdle ms ds (set states at Unwalked)
idle_without ms ds at states idle = record {
  kept = record {
    all = length-set states at Unwalked ∙ idle.kept.all;
    each = λ k d s p q. ⊎_elim (λ x. absurd (cc (x.1))) (λ x. idle.kept.each k d s p x.1) (get_set states at Unwalked k (Walked s) q);
  };
  ended = λ k q. ⊎_elim (λ x. absurd (cc (x.1))) (λ x. idle.ended k x.1) (get_set states at Unwalked k Walking q);
}
