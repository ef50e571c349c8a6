-- Laws of the outputs of a monitor that reports (this project's own). Only contracts of private functions cite this
-- file.
use Rattle.std.specs.Prelude.{ℕ, List, [], ◌++◌}
use Rattle.std.proofs.Common.{◌∙◌, sym}
use Rattle.std.proofs.lemmas.List.{append-nil, append_assoc}
use Rattle.scrib_labels.specs.Naming.{number_of}
use Rattle.scrib_labelled.specs.LabelledEntries.{LabelledEntry}
use Rattle.scrib_reported.specs.declared.reporting_monitor.ReportingMonitor.{ReportingMonitor}
use Rattle.scrib_reported.specs.Monitors.{BeginsOutput, RanEntries, counted_in, kept_in, state_in}

-- what was carried out is a beginning of itself
pub ran_begins : (new now : ReportingMonitor) (entries : List LabelledEntry) (out : List ℕ)
    → RanEntries new now entries out → BeginsOutput new entries out
ran_begins new now entries out h = record {
  names = number_of now.names;
  kept = kept_in now;
  after = state_in now;
  counted = counted_in now;
  output = out;
  runs = h.1;
  rest = [];
  begins = sym (append-nil out);
}

-- a beginning of a beginning is one
pub less_begins : (new : ReportingMonitor) (entries : List LabelledEntry) (part rest : List ℕ)
    → BeginsOutput new entries (part ++ rest) → BeginsOutput new entries part
less_begins new entries part rest h = record {
  names = h.names;
  kept = h.kept;
  after = h.after;
  counted = h.counted;
  output = h.output;
  runs = h.runs;
  rest = rest ++ h.rest;
  begins = h.begins ∙ append_assoc part rest h.rest;
}
