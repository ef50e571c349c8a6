use Rattle.std.proofs.Common.{◌≡◌, Result, Ok, Err, OnErr, Some, sym, ap, subst, ◌∙◌}
use Rattle.std.specs.Option.{option_copied, option_copied_mut}
use Rattle.scrib_record.specs.Comparisons.{ServesFor}
use Rattle.scrib_record.specs.Stale.{Recorded}
use Rattle.scrib_core.specs.Held.{record_at}
use Rattle.scrib_core.proofs.LentRecordLemmas.{kept}
use Rattle.scrib_locked_steps.proofs.SweepLemmas.{same_some}
use Rattle.scrib_locked_steps.proofs.sweep.turn_in_records.Goals as goal

-- what holds at each return holds at one with an error
on_err : {T E P : Type 0} (r : Result T E) → P → OnErr r P
on_err (Ok v) p = tt
on_err (Err e) p = p

pub turn-requires : goal.turn-requires
turn-requires c =
    let there : record_at c.args.records.now.entries c.args.id ≡ Some c.in-Some.conversation.now = sym c.get_mut.ensures.value ∙ ap option_copied_mut c.in-Some.is in
    let is : c.requires.0 ≡ c.in-Some.conversation.now = same_some c.requires.0 c.in-Some.conversation.now (sym c.requires.1 ∙ there) in
    subst (λ (r : Recorded). ServesFor c.args.comparison (option_copied c.args.present) r.held) is c.requires.2

pub returns-in_err-verdict-clause-err : goal.returns-in_err-verdict-clause-err
returns-in_err-verdict-clause-err c =
    let there : record_at c.args.records.now.entries c.args.id ≡ Some c.in-Some.conversation.now = sym c.get_mut.ensures.value ∙ ap option_copied_mut c.in-Some.is in
    on_err c.from_residual.result (kept c.args.records.now.entries _ c.args.id c.in-Some.conversation.now c.turn.new.self there (c.get_mut.follows.holds c.turn.new.self).0 c.in_err-verdict.ensures.err)
