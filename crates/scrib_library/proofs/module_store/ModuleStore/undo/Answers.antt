use Rattle.std.proofs.Common.{set, take, sym, ap, ◌∙◌}
use Rattle.std.proofs.lemmas.List.{take-map, map-set}
use Rattle.scrib_static_checks.specs.Placed.{undone, back_to}
use Rattle.scrib_library.specs.Summaries.{summary, summaries_of}
use Rattle.scrib_library.proofs.module_store.ModuleStore.undo.Goals.{in-Some, in-None}
use Rattle.scrib_library.proofs.module_store.ModuleStore.undo.Goals as goal

pub invariant_of-self : goal.invariant_of-self
invariant_of-self c =
    let modules = c.self.inside.modules in
    let at = c.args.placed.at in
    elim c.match-placed.branch [
      | in-Some w ↦ (
          let back = c.undo.ensures ∙ ap (λ s. undone c.args.placed s.modules) w.self-inside-is ∙ ap (λ o. back_to at o modules) w.in-Some.is in
          ap (λ s. s.summaries.items) w.self-inside-is ∙ (λ i. set (c.self.invariant i) at (w.summary_of.ensures i)) ∙ sym (map-set summary modules at w.in-Some.tree) ∙ ap summaries_of (sym back))
      | in-None w ↦ (
          let back = c.undo.ensures ∙ ap (λ s. undone c.args.placed s.modules) w.self-inside-is ∙ ap (λ o. back_to at o modules) w.in-None.is in
          ap (λ s. s.summaries.items) w.self-inside-is ∙ w.truncate.ensures.items ∙ ap (take at) c.self.invariant ∙ take-map summary at modules ∙ ap summaries_of (sym back))
    ]
