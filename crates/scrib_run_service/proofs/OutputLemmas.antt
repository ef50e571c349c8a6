-- The printed lines of the connections and the table.
use Rattle.std.proofs.Common.{inl, inr, ℕ, List, [], Option, Result, Ok, Err, refl}
use Rattle.std.specs.Prelude.{OnOk, OnErr}
use Rattle.std.specs.Io.KnownBytes.{Appends}
use Rattle.scrib_locked_steps.specs.Passes.{PassHeld}
use Rattle.scrib_core.specs.declared.format.Format.{Format}
use Rattle.scrib_script_io.specs.Writes.{AppendsPart}
use Rattle.scrib_script_io.proofs.WriterLemmas.{appends_more}
use Rattle.scrib_run_service.specs.Outputs.{connections_text, IsRunTable, Prints, PrintsPart}
use Rattle.scrib_run_service.proofs.PartialWriteLemmas.{part_before, part_after, part_known}

module _ (f : Format) (texts : List (List ℕ)) (count : ℕ) (passes : List PassHeld) (was mid now : Option (List ℕ)) where
  -- no table is printed
  pub prints_none : {T E : Type 0} (r : Result T E) → OnOk r (Appends was mid (connections_text f 1 texts)) → OnErr r (AppendsPart was mid (connections_text f 1 texts)) → PrintsPart f texts count passes was mid
  prints_none r all part = ([], inl refl, part_before was mid (connections_text f 1 texts) [] (part_known r was mid (connections_text f 1 texts) all part))

  -- the whole table is printed
  pub prints_all : {T E : Type 0} (r : Result T E) (table : List ℕ) → IsRunTable f count passes table → Appends was mid (connections_text f 1 texts) → OnOk r (Appends mid now table) → OnOk r (Prints f texts count passes was now)
  prints_all (Ok x) table is first second = (table, is, appends_more was mid now (connections_text f 1 texts) table first second)
  prints_all (Err e) table is first second = tt

  -- a beginning of the table is printed
  pub prints_cut : {T E : Type 0} (r : Result T E) (table : List ℕ) → IsRunTable f count passes table → Appends was mid (connections_text f 1 texts) → OnErr r (AppendsPart mid now table) → OnErr r (PrintsPart f texts count passes was now)
  prints_cut (Ok x) table is first second = tt
  prints_cut (Err e) table is first second = (table, inr is, part_after was mid now (connections_text f 1 texts) table first second)
