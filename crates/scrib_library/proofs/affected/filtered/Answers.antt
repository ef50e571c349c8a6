use Rattle.std.proofs.Common.{◌++◌, ◌∷◌, [], take, sym, ap, ◌∙◌, subst, arith}
use Rattle.std.proofs.lemmas.Grind.{common_steps}
use Rattle.std.proofs.lemmas.List.{map-append, take_more}
use Rattle.scrib_library.specs.declared.summaries.ModuleSummary.{ModuleSummary}
use Rattle.scrib_library.specs.declared.name_filter.FilteredModule.{FilteredModule}
use Rattle.scrib_library.specs.NameFilter.{IsNameFilter}
use Rattle.scrib_library.specs.Affected.{waiting_trees}
use Rattle.scrib_library.proofs.SummaryLemmas.{summary_at}
use Rattle.scrib_library.proofs.NameFilterLemmas.{is_filter}
use Rattle.scrib_library.proofs.affected.filtered.Goals as goal

pub loop-at-preserved : goal.loop-at-preserved
loop-at-preserved c =
    let ms = c.args.modules.now in
    let t = c.index-modules-at.result in
    ap waiting_trees c.in_ok-push.ensures.items ∙ map-append (λ (w : FilteredModule). w.tree.now) c.loop-at.all.items _ ∙ ap (λ l. l ++ t ∷ []) c.loop-at.invariant ∙ sym (take_more ms c.loop-at.at t c.loop-at-test.true ∙ ap (λ z. take c.loop-at.at ms ++ z ∷ []) (sym c.index-modules-at.is))

pub invariant_of-push : goal.invariant_of-push
invariant_of-push c =
    let t = c.index-modules-at.result in
    let same = summary_at c.args.modules.now c.args.summaries.now c.requires c.loop-at.at t _ c.loop-at-test.true c.index-modules-at.is in
    let P : ModuleSummary → Type 0 = λ o. IsNameFilter t.imports o.name_filter in
    record { filtered = subst P (sym same) (is_filter t.imports) }

pub returns : goal.returns
returns c = grind (arith, common_steps)
