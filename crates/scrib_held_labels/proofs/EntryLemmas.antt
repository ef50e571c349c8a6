-- What a stage has taken behind one more entry.
use Rattle.std.proofs.Common.{◌≡◌, ℕ, List, [], ◌∷◌, ◌++◌, ap, inl, inr, refl, subst, sym}
use Rattle.std.proofs.lemmas.List.{append-nil}
use Rattle.scrib_core.specs.Answers.{State}
use Rattle.scrib_script_reader.specs.declared.entry.Entry.{Entry}
use Rattle.scrib_hold_stage.specs.PendingClosings.{closings_in}
use Rattle.scrib_hold.specs.declared.held_monitor.HeldMonitor.{HeldMonitor}
use Rattle.scrib_hold.specs.HeldMonitors.{HasTaken}
use Rattle.scrib_hold.specs.NumberedItems.{AreFirstItems, LetsOutNumbered, Numbered}
use Rattle.scrib_labelled.specs.declared.label_options.LabelledStyle.{LabelledStyle}
use Rattle.scrib_labelled.specs.LabelledEntries.{LabelledEntry}
use Rattle.scrib_labelled.specs.LabelledLines.{LineLabel}
use Rattle.scrib_labelled.specs.LabelledRuns.{IsNumberIn, Naming}
use Rattle.scrib_held_labels.specs.declared.held_stage.HeldStage.{HeldStage}
use Rattle.scrib_held_labels.specs.declared.labelled_sink.LabelledSink.{LabelledSink}
use Rattle.scrib_held_labels.specs.HeldLabels.{IsHeldPartOf}
use Rattle.scrib_held_labels.specs.HeldRuns.{Carries, HeldRuns, IsOver, KeepsNames, label_at, plain, takes, with_session}
use Rattle.scrib_held_labels.specs.Stages.{HasGone, state_of}

pub plain_last : (entries : List LabelledEntry) (x : LabelledEntry) → plain (entries ++ x ∷ []) ≡ plain entries ++ x.1 ∷ []
plain_last [] x = refl
plain_last (y ∷ entries) x = ap (λ es. y.1 ∷ es) (plain_last entries x)

-- of a conversation of which nothing is left
over : (bound : ℕ) (s : HeldStage) (entries : List Entry) (numbered : List Numbered) (h : HasTaken bound s.held entries numbered) (id : ℕ) → HasGone s id
    → IsOver id entries h.at.so_far.closed (closings_in s.held.pending) h.at.so_far.released (state_of s)
over bound s entries numbered h id g = record { unopened = g.0; unasked = g.1.1 bound entries numbered h; released_all = g.1.0.1 bound entries numbered h; unclosed = g.1.0.0 }

-- the run of one more entry
pub one_more : (o : LabelledStyle) (bound : ℕ) (entries : List LabelledEntry) (numbered given : List Numbered) (names after : Naming) (w : State) (out more : List ℕ) (label : LineLabel) (e : Entry) (next : HeldStage)
    → HeldRuns o bound entries numbered names w out → IsNumberIn names label.session
    → HasTaken bound next.held (plain (entries ++ (label, e) ∷ [])) (numbered ++ given)
    → Carries o (label_at (entries ++ (label, e) ∷ [])) given w (state_of next) more
    → KeepsNames (with_session names label.session) after (HasGone next)
    → HeldRuns o bound (entries ++ (label, e) ∷ []) (numbered ++ given) after (state_of next) (out ++ more)
one_more o bound entries numbered given names after w out more label e next runs number taken carried keeps =
    let s = taken.at.so_far in
    takes entries numbered given names after w (state_of next) out more label e s.closed (closings_in next.held.pending) s.released s.expired runs number (s.lets []) carried
    (λ name. elim (keeps name) [
      | inl same ↦ inl same
      | inr none ↦ inr (none.0, λ id q. over bound next (plain (entries ++ (label, e) ∷ [])) (numbered ++ given) taken id (none.1 id q))
    ])

-- what is let out behind some entries are first items of theirs
pub all_first : (bound : ℕ) (m : HeldMonitor LabelledSink) (entries : List Entry) (numbered : List Numbered) → HasTaken bound m entries numbered → AreFirstItems bound entries numbered
all_first bound m entries numbered h =
    let s = h.at.so_far in
    record {
      first = entries;
      later = [];
      undone = [];
      entries_are = sym (append-nil entries);
      let_out = inl (s.closed, closings_in m.pending, s.released, s.expired, subst (LetsOutNumbered bound entries [] s.closed (closings_in m.pending) s.released s.expired) (sym (append-nil numbered)) (s.lets []));
    }

-- a part that ends within the next entry
pub part_within : (o : LabelledStyle) (bound : ℕ) (entries : List LabelledEntry) (numbered given : List Numbered) (names : Naming) (w v : State) (out more : List ℕ) (label : LineLabel) (e : Entry)
    → HeldRuns o bound entries numbered names w out → IsNumberIn names label.session
    → AreFirstItems bound (plain (entries ++ (label, e) ∷ [])) (numbered ++ given)
    → Carries o (label_at (entries ++ (label, e) ∷ [])) given w v more
    → IsHeldPartOf o bound (entries ++ (label, e) ∷ []) (out ++ more)
part_within o bound entries numbered given names w v out more label e runs number first carried = record {
  taken = entries;
  later = (label, e) ∷ [];
  are = refl;
  numbered = numbered;
  names = names;
  state = w;
  out = out;
  runs = runs;
  number = number;
  given = given;
  after = v;
  more = more;
  first = first;
  carried = carried;
  rest = [];
  begins = sym (append-nil (out ++ more));
}
