-- A monitor that reports, as a stage.
use Rattle.std.proofs.Common.{◌≡◌, ◌∙◌, ℕ, List, [], ◌∷◌, ◌++◌, inl, inr, Option, Some, None, refl, sym, ap, subst}
use Rattle.std.proofs.lemmas.List.{append-nil, append_assoc}
use Rattle.scrib_core.specs.Answers.{State, initial}
use Rattle.scrib_labels.specs.declared.session_names.SessionNames.{SessionNames}
use Rattle.scrib_labels.specs.Naming.{IsNumberFor, number_of}
use Rattle.scrib_script_reader.specs.declared.entry.Entry.{Entry}
use Rattle.scrib_script_reader.specs.declared.entry.Entry.TheVariants as entry
use Rattle.scrib_script_reader.specs.declared.item.Item.{Item}
use Rattle.scrib_labelled.specs.declared.label_options.LabelledStyle.{LabelledStyle}
use Rattle.scrib_labelled.specs.LabelledEntries.{LabelledEntry, item_with, items_among}
use Rattle.scrib_labelled.specs.LabelledLines.{LineLabel}
use Rattle.scrib_labelled.specs.LabelledRuns.{IsNumberIn}
use Rattle.scrib_labelled.specs.NamedLines.{IsNumbersOf}
use Rattle.scrib_labelled.specs.Stages.{FailsEntry, TakesEnd, TakesEntry}
use Rattle.scrib_summary.specs.declared.summary.Summary.{Summary}
use Rattle.scrib_summary.specs.Summaries.{no_replies}
use Rattle.scrib_reported.specs.declared.reporting_monitor.ReportingMonitor.{ReportingMonitor}
use Rattle.scrib_reported.specs.Kept.{nothing_kept}
use Rattle.scrib_reported.specs.Monitors.{BeginsOutput, CarriesOut, Ran, RanEntries, counted_in, gathered_by, kept_in, state_in}
use Rattle.scrib_reported.specs.ReportedRuns.{ReportedRuns, nothing, takes}
use Rattle.scrib_reported.specs.StageLaws.{ran_begins}

-- ---- the items among entries

items_append : (es fs : List LabelledEntry) → items_among (es ++ fs) ≡ items_among es ++ items_among fs
items_append [] fs = refl
items_append (e ∷ es) fs =
    ap (λ (is : List (LineLabel × Item)). item_with e.0 e.1 ++ is) (items_append es fs) ∙ sym (append_assoc (item_with e.0 e.1) (items_among es) (items_among fs))

items_with_item : (es : List LabelledEntry) (label : LineLabel) (i : Item) → items_among (es ++ (label, entry.Item i) ∷ []) ≡ items_among es ++ (label, i) ∷ []
items_with_item es label i = items_append es ((label, entry.Item i) ∷ [])

items_with_skipped : (es : List LabelledEntry) (label : LineLabel) → items_among (es ++ (label, entry.Skipped) ∷ []) ≡ items_among es
items_with_skipped es label = items_append es ((label, entry.Skipped) ∷ []) ∙ append-nil (items_among es)

-- ---- the numbers of names

number-of-name : (names : SessionNames) (s : List ℕ × ℕ) → IsNumberFor names s.0 s.1 → IsNumberIn (number_of names) (Some s)
number-of-name names s (inl e) = inl e
number-of-name names s (inr h) = inr (h.0, h.2)

number-in : (names : SessionNames) (session : Option (List ℕ × ℕ)) → IsNumbersOf names session → IsNumberIn (number_of names) session
number-in names None h = tt
number-in names (Some s) h = number-of-name names s h.0

-- ---- entries

-- what an item that is carried out adds
ran : (o : LabelledStyle) (old new : ReportingMonitor) (label : LineLabel) (i : Item) → (c : CarriesOut old new label i) → old.style ≡ o → IsNumberIn (number_of old.names) label.session
    → (items : List (LineLabel × Item)) (out : List ℕ) → Ran o items old out → Ran o (items ++ (label, i) ∷ []) new (out ++ c.more)
ran o old new label i c is number items out r = subst (λ (o : LabelledStyle). Ran o items old out → Ran o (items ++ (label, i) ∷ []) new (out ++ c.more)) is here r
  where
    here : Ran old.style items old out → Ran old.style (items ++ (label, i) ∷ []) new (out ++ c.more)
    here r =
        subst (λ (s : Summary). ReportedRuns old.style (items ++ (label, i) ∷ []) (number_of new.names) (kept_in new) (state_in new) s (out ++ c.more)) (sym c.counted)
        (takes items (number_of old.names) (number_of new.names) (kept_in old) (kept_in new) (state_in old) (state_in new) (counted_in old) out c.more label i c.replies r number c.carries c.named)

-- an entry with an item was carried out
pub takes_item : (old new : ReportingMonitor) (label : LineLabel) (i : Item) → IsNumbersOf old.names label.session → CarriesOut old new label i → TakesEntry RanEntries gathered_by old new label (entry.Item i)
takes_item old new label i number c = record {
  more = c.more;
  grows = c.grows;
  took = λ first entries out t. (
    c.style ∙ t.0,
    subst (λ (is : List (LineLabel × Item)). Ran first.style is new (out ++ c.more)) (sym (items_with_item entries label i))
        (ran first.style old new label i c t.0 (number-in old.names label.session number) (items_among entries) out t.1),
  );
}

-- an entry without one does nothing
pub takes_skipped : (now : ReportingMonitor) (label : LineLabel) → TakesEntry RanEntries gathered_by now now label entry.Skipped
takes_skipped now label = record {
  more = [];
  grows = sym (append-nil (gathered_by now));
  took = λ first entries out t. (
    t.0,
    subst (λ (is : List (LineLabel × Item)). Ran first.style is now (out ++ [])) (sym (items_with_skipped entries label))
        (subst (λ (x : List ℕ). Ran first.style (items_among entries) now x) (sym (append-nil out)) t.1),
  );
}

-- a monitor that fails at an entry gathers nothing
pub fails_entry : (old new : ReportingMonitor) (label : LineLabel) (e : Entry) → gathered_by new ≡ gathered_by old → FailsEntry RanEntries BeginsOutput gathered_by old new label e
fails_entry old new label e same = record {
  more = [];
  grows = same ∙ sym (append-nil (gathered_by old));
  part = λ first entries out t. inl (subst (λ (x : List ℕ). BeginsOutput first entries x) (sym (append-nil out)) (ran_begins first old entries out t));
}

-- the end of a script does nothing
pub takes_end : (now : ReportingMonitor) → TakesEnd RanEntries RanEntries gathered_by now now
takes_end now = record {
  more = [];
  grows = sym (append-nil (gathered_by now));
  took = λ first entries out t. (t.0, subst (λ (x : List ℕ). Ran first.style (items_among entries) now x) (sym (append-nil out)) t.1);
}

-- a new monitor has carried nothing out
pub ran_nothing : (m : ReportingMonitor) → ((name : List ℕ) → number_of m.names name ≡ None) → ((id : ℕ) → kept_in m id ≡ nothing_kept) → state_in m ≡ initial → counted_in m ≡ no_replies → RanEntries m m [] []
ran_nothing m names kept state counted = (
  refl,
  subst (λ (w : State). ReportedRuns m.style [] (number_of m.names) (kept_in m) w (counted_in m) []) (sym state)
      (subst (λ (s : Summary). ReportedRuns m.style [] (number_of m.names) (kept_in m) initial s []) (sym counted) (nothing (number_of m.names) (kept_in m) names kept)),
)
