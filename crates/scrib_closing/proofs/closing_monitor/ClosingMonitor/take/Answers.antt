use Rattle.std.proofs.Common.{◌≡◌, ◌∙◌, [], ◌∷◌, refl, sym, ap, subst}
use Rattle.std.proofs.lemmas.Result.{on_ok_weaker, on_err_weaker}
use Rattle.scrib_core.specs.Held.{state_of}
use Rattle.scrib_script_reader.specs.declared.entry.Entry.{Entry}
use Rattle.scrib_script_reader.specs.declared.entry.Entry.TheVariants as entry
use Rattle.scrib_script_reader.specs.declared.item.Item.{Item}
use Rattle.scrib_script_reader.specs.declared.item.Item.TheVariants as item
use Rattle.scrib_closing.specs.declared.closing_monitor.ClosingMonitor.{ClosingMonitor}
use Rattle.scrib_closing.specs.Progress.{TakesEntry, FailsAtEntry}
use Rattle.scrib_closing.proofs.ClosingLemmas.{carried_item, part_none}
use Rattle.scrib_closing.proofs.MonitorLemmas.{took_items, failed_items, took_nothing}
use Rattle.scrib_closing.proofs.closing_monitor.ClosingMonitor.take.Goals as goal

pub returns-in-Item-Step-clause-ok : goal.returns-in-Item-Step-clause-ok
returns-in-Item-Step-clause-ok c =
    let new : ClosingMonitor = record c.args.self.now { core = c.gather_step.new.core; gathered = c.gather_step.new.gathered } in
    let e = entry.Item (item.Step c.in-Item-Step.asked c.in-Item-Step.step) in
    on_ok_weaker c.gather_step.result
    (λ done. subst (λ (x : Entry). TakesEntry c.args.self.now new x) (sym (c.in-Item-Step.is ∙ ap (λ (i : Item). entry.Item i) c.in-Item-Step.field-0-is)) (took_items c.args.self.now new e refl done))
    c.gather_step.ensures.ok

pub returns-in-Item-Step-clause-err : goal.returns-in-Item-Step-clause-err
returns-in-Item-Step-clause-err c =
    let new : ClosingMonitor = record c.args.self.now { core = c.gather_step.new.core; gathered = c.gather_step.new.gathered } in
    let e = entry.Item (item.Step c.in-Item-Step.asked c.in-Item-Step.step) in
    on_err_weaker c.gather_step.result
    (λ part. subst (λ (x : Entry). FailsAtEntry c.args.self.now new x) (sym (c.in-Item-Step.is ∙ ap (λ (i : Item). entry.Item i) c.in-Item-Step.field-0-is)) (failed_items c.args.self.now new e part))
    c.gather_step.ensures.err

pub returns-in-Skipped-clause-ok : goal.returns-in-Skipped-clause-ok
returns-in-Skipped-clause-ok c = rw c.in-Skipped.is (took_nothing c.args.self.now)

pub returns-in-Item-BadLine-clause-ok : goal.returns-in-Item-BadLine-clause-ok
returns-in-Item-BadLine-clause-ok c =
    let old = c.args.self.now in
    let new : ClosingMonitor = record c.args.self.now { core = c.gather_item.new.core; gathered = c.gather_item.new.gathered } in
    on_ok_weaker c.gather_item.result
    (λ d. subst (λ (x : Entry). TakesEntry c.args.self.now new x) (sym (c.in-Item-BadLine.is ∙ ap (λ (i : Item). entry.Item i) c.in-Item-BadLine.field-0-is)) (took_items c.args.self.now new (entry.Item (item.BadLine c.in-Item-BadLine.number)) refl
    (carried_item old.format (item.BadLine c.in-Item-BadLine.number) (state_of old.core) (state_of c.gather_item.new.core) old.gathered.bytes.items c.gather_item.new.gathered.bytes.items tt d)))
    c.gather_item.ensures.ok

pub returns-in-Item-BadLine-clause-err : goal.returns-in-Item-BadLine-clause-err
returns-in-Item-BadLine-clause-err c =
    let old = c.args.self.now in
    let new : ClosingMonitor = record c.args.self.now { core = c.gather_item.new.core; gathered = c.gather_item.new.gathered } in
    on_err_weaker c.gather_item.result
    (λ same. subst (λ (x : Entry). FailsAtEntry c.args.self.now new x) (sym (c.in-Item-BadLine.is ∙ ap (λ (i : Item). entry.Item i) c.in-Item-BadLine.field-0-is)) (failed_items c.args.self.now new (entry.Item (item.BadLine c.in-Item-BadLine.number))
    (part_none old.format ((item.BadLine c.in-Item-BadLine.number) ∷ []) (state_of old.core) old.gathered.bytes.items c.gather_item.new.gathered.bytes.items same)))
    c.gather_item.ensures.err

pub returns-in-Item-EndOfText-clause-ok : goal.returns-in-Item-EndOfText-clause-ok
returns-in-Item-EndOfText-clause-ok c =
    let old = c.args.self.now in
    let new : ClosingMonitor = record c.args.self.now { core = c.gather_item-in-Item-EndOfText.new.core; gathered = c.gather_item-in-Item-EndOfText.new.gathered } in
    on_ok_weaker c.gather_item-in-Item-EndOfText.result
    (λ d. subst (λ (x : Entry). TakesEntry c.args.self.now new x) (sym (c.in-Item-EndOfText.is ∙ ap (λ (i : Item). entry.Item i) c.in-Item-EndOfText.field-0-is)) (took_items c.args.self.now new (entry.Item item.EndOfText) refl
    (carried_item old.format item.EndOfText (state_of old.core) (state_of c.gather_item-in-Item-EndOfText.new.core) old.gathered.bytes.items c.gather_item-in-Item-EndOfText.new.gathered.bytes.items tt d)))
    c.gather_item-in-Item-EndOfText.ensures.ok

pub returns-in-Item-EndOfText-clause-err : goal.returns-in-Item-EndOfText-clause-err
returns-in-Item-EndOfText-clause-err c =
    let old = c.args.self.now in
    let new : ClosingMonitor = record c.args.self.now { core = c.gather_item-in-Item-EndOfText.new.core; gathered = c.gather_item-in-Item-EndOfText.new.gathered } in
    on_err_weaker c.gather_item-in-Item-EndOfText.result
    (λ same. subst (λ (x : Entry). FailsAtEntry c.args.self.now new x) (sym (c.in-Item-EndOfText.is ∙ ap (λ (i : Item). entry.Item i) c.in-Item-EndOfText.field-0-is)) (failed_items c.args.self.now new (entry.Item item.EndOfText)
    (part_none old.format (item.EndOfText ∷ []) (state_of old.core) old.gathered.bytes.items c.gather_item-in-Item-EndOfText.new.gathered.bytes.items same)))
    c.gather_item-in-Item-EndOfText.ensures.err

pub returns-in-Item-Sweep-clause-ok : goal.returns-in-Item-Sweep-clause-ok
returns-in-Item-Sweep-clause-ok c =
    let old = c.args.self.now in
    let new : ClosingMonitor = record c.args.self.now { core = c.gather_item-in-Item-Sweep.new.core; gathered = c.gather_item-in-Item-Sweep.new.gathered } in
    on_ok_weaker c.gather_item-in-Item-Sweep.result
    (λ d. subst (λ (x : Entry). TakesEntry c.args.self.now new x) (sym (c.in-Item-Sweep.is ∙ ap (λ (i : Item). entry.Item i) c.in-Item-Sweep.field-0-is)) (took_items c.args.self.now new (entry.Item (item.Sweep c.in-Item-Sweep.asked)) refl
    (carried_item old.format (item.Sweep c.in-Item-Sweep.asked) (state_of old.core) (state_of c.gather_item-in-Item-Sweep.new.core) old.gathered.bytes.items c.gather_item-in-Item-Sweep.new.gathered.bytes.items tt d)))
    c.gather_item-in-Item-Sweep.ensures.ok

pub returns-in-Item-Sweep-clause-err : goal.returns-in-Item-Sweep-clause-err
returns-in-Item-Sweep-clause-err c =
    let old = c.args.self.now in
    let new : ClosingMonitor = record c.args.self.now { core = c.gather_item-in-Item-Sweep.new.core; gathered = c.gather_item-in-Item-Sweep.new.gathered } in
    on_err_weaker c.gather_item-in-Item-Sweep.result
    (λ same. subst (λ (x : Entry). FailsAtEntry c.args.self.now new x) (sym (c.in-Item-Sweep.is ∙ ap (λ (i : Item). entry.Item i) c.in-Item-Sweep.field-0-is)) (failed_items c.args.self.now new (entry.Item (item.Sweep c.in-Item-Sweep.asked))
    (part_none old.format ((item.Sweep c.in-Item-Sweep.asked) ∷ []) (state_of old.core) old.gathered.bytes.items c.gather_item-in-Item-Sweep.new.gathered.bytes.items same)))
    c.gather_item-in-Item-Sweep.ensures.err
