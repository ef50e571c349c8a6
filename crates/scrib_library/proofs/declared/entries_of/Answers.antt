use Rattle.std.proofs.Common.{◌<◌, List, take, ◌+◌, sym, ap, ◌∙◌, subst, arith}
use Rattle.std.proofs.lemmas.Bool.{false≢true}
use Rattle.std.proofs.lemmas.Grind.{common_steps}
use Rattle.scrib_library.specs.declared.declared.Entry.{Entry}
use Rattle.scrib_library.specs.Affected.{names_now}
use Rattle.scrib_library.specs.Entries.{AreEntries}
use Rattle.scrib_library.specs.declared.summaries.ModuleSummary.{ModuleSummary}
use Rattle.scrib_library.proofs.SummaryLemmas.{summary_at}
use Rattle.scrib_library.proofs.NameFilterLemmas.{bit_small}
use Rattle.scrib_library.proofs.EntryLemmas.{entries_same, entries_more}
use Rattle.scrib_library.proofs.declared.entries_of.Goals as goal
use Rattle.scrib_library.proofs.declared.entries_of.Goals.{then-is_among+in_ok-enter, else-is_among}

pub loop-at-preserved : goal.loop-at-preserved
loop-at-preserved c =
    let names = names_now c.args.affected.now in
    let ms = c.args.modules.now in
    let i = c.loop-at.at in
    let t = c.index-modules-at.result in
    let es = c.loop-at.entries.items in
    let P : List Entry → Type 0 = λ l. AreEntries (take (i + 1) ms) names l in
    elim c.if-is_among.branch [
      | then-is_among+in_ok-enter w ↦ subst P (sym (ap (λ v. v.items) w.entries-is)) (entries_more names ms i t es c.loop-at-test.true c.index-modules-at.is c.loop-at.invariant (c.is_among.ensures.0 w.if-is_among.true) w.enter.new.entries.items w.in_ok-enter.ensures)
      | else-is_among w ↦ subst P (sym (ap (λ v. v.items) w.entries-is)) (entries_same names ms i t es c.loop-at-test.true c.index-modules-at.is c.loop-at.invariant (λ p. false≢true (sym w.if-is_among.false ∙ c.is_among.ensures.1 p)))
    ]

pub is_among-requires-clause-bit : goal.is_among-requires-clause-bit
is_among-requires-clause-bit c =
    ap (λ (o : ModuleSummary). o.bit) (summary_at c.args.modules.now c.args.summaries.now c.requires c.loop-at.at c.index-modules-at.result _ c.loop-at-test.true c.index-modules-at.is)

pub is_among-requires-clause-within : goal.is_among-requires-clause-within
is_among-requires-clause-within c =
    let t = c.index-modules-at.result in
    let P : ModuleSummary → Type 0 = λ o. o.bit < 64 in
    subst P (sym (summary_at c.args.modules.now c.args.summaries.now c.requires c.loop-at.at t _ c.loop-at-test.true c.index-modules-at.is)) (bit_small t.name)

pub returns : goal.returns
returns c = grind (arith, common_steps)
