use Rattle.std.proofs.Common.{◌≡◌, ℕ, List, ◌++◌, ◌∷◌, [], None, Some, nat_eq, ap, subst, ◌∙◌, arith}
use Rattle.indexmap.proofs.CallerLemmas.{insert_entry-new}
use Rattle.scrib_record.specs.Stale.{Recorded}
use Rattle.scrib_record.specs.Turns.{new_record}
use Rattle.scrib_types.specs.Agreement.{Agreement}
use Rattle.scrib_library.specs.Holdings.{IsNumber}
use Rattle.scrib_library.specs.Modules.{IsMeaning}
use Rattle.scrib_core.specs.Held.{record_at}
use Rattle.scrib_core.proofs.LentRecordLemmas.{none_there}
use Rattle.scrib_core.proofs.conversation_steps.open.Goals as goal

pub returns-in-Ok-insert-clause-ok : goal.returns-in-Ok-insert-clause-ok
returns-in-Ok-insert-clause-ok c =
    let none : record_at c.args.records.now.entries c.args.opening.id ≡ None = none_there c.args.records.now.entries c.args.opening.id c.contains_key.result c.contains_key.ensures c.if-contains_key.false in
    let begun = c.in-Ok-begin.ensures in
    let v = begun.0 in
    record {
      absent = none;
      version = v;
      present = record {
        meaning = subst (λ (a : Agreement). IsMeaning c.args.library.now.modules c.args.opening.name.now (Some a)) begun.1.1 c.in-Some.ensures.meaning;
        number = subst (λ (n : ℕ). IsNumber c.args.library.now c.args.opening.name.now (Some n)) begun.1.0 c.in-Some.ensures.number;
      };
      room = omega (arith, c.if-len-opening.false, c.len.ensures.len);
      added = c.in-Ok-insert.ensures.entries ∙ insert_entry-new nat_eq c.args.records.now c.args.opening.id c.in-Ok-begin.record none
          ∙ ap (λ (r : Recorded). c.args.records.now.entries ++ (c.args.opening.id, r) ∷ []) (begun.2 ∙ ap (λ (n : List (List ℕ)). new_record n v) c.in-Some.ensures.name);
    }
