-- What a stage gave is a beginning of what it gives (this project's own). Only the laws of a private stage cite this
-- file.
use Rattle.std.specs.Prelude.{◌≡◌, ℕ, Bool, List, [], ◌++◌}
use Rattle.std.specs.List.{AllByRecursion}
use Rattle.std.proofs.Common.{◌∙◌, ap, sym, inl, inr, refl, subst}
use Rattle.std.proofs.lemmas.List.{append-nil, append_assoc}
use Rattle.scrib_hold_stage.specs.declared.stage.Counts.{Counts}
use Rattle.scrib_hold_stage.specs.PendingClosings.{closings_in}
use Rattle.scrib_hold.specs.NumberedItems.{AreHeldNumbered, LetsOutNumbered, Numbered}
use Rattle.scrib_labelled.specs.LabelledEntries.{LabelledEntry}
use Rattle.scrib_held_labels.specs.HeldRuns.{plain}
use Rattle.scrib_hold_labelled.specs.declared.line_stage.LineStage.{LineStage}
use Rattle.scrib_hold_labelled.specs.Stages.{AreAllLines, ArePartOfLines, IsWritten, WroteAll, WroteEntries, WrotePart, bound_of}
use Rattle.scrib_hold_labelled.specs.WrittenLines.{end_lines, lines_at}

-- what was given for some entries is a part of it
pub entries_are_part : (first now : LineStage) (entries : List LabelledEntry) (out : List ℕ)
    → WroteEntries first now entries out → WrotePart first entries out
entries_are_part first now entries out h =
    let s = h.1.taken.at.so_far in
    let all : h.0 ++ [] ≡ h.0 = append-nil h.0 in
    record {
      taken = entries;
      later = [];
      are = sym (append-nil entries);
      numbered = h.0;
      names = _;
      named = h.1.named;
      number = tt;
      given = [];
      first = record {
        first = plain entries;
        later = [];
        undone = [];
        entries_are = sym (append-nil (plain entries));
        let_out = inl (
          s.closed,
          closings_in now.held.pending,
          s.released,
          s.expired,
          subst (LetsOutNumbered (bound_of first) (plain entries) [] s.closed (closings_in now.held.pending) s.released
              s.expired)
              (sym (append-nil (h.0 ++ []) ∙ append-nil h.0)) (s.lets []),
        );
      };
      ends = h.1.ends;
      written = subst (AllByRecursion (IsWritten entries)) (sym all) h.1.written;
      rest = end_lines entries;
      begins =
          ap (λ (xs : List Numbered). lines_at first.objects entries xs ++ end_lines entries) all
          ∙ ap (λ (o : List ℕ). o ++ end_lines entries) (sym h.1.lines);
    }

-- all lines of entries are a part of them
pub all_lines_are_part : (objects : Bool) (bound : ℕ) (entries : List LabelledEntry) (counts : Counts) (out : List ℕ)
    → AreAllLines objects bound entries counts out → ArePartOfLines objects bound entries out
all_lines_are_part objects bound entries counts out a = record {
  taken = entries;
  later = [];
  are = sym (append-nil entries);
  numbered = a.numbered;
  names = a.names;
  named = a.named;
  number = tt;
  given = a.last;
  first = record {
    first = plain entries;
    later = [];
    undone = [];
    entries_are = sym (append-nil (plain entries));
    let_out = inr (
      a.all.expired,
      subst (AreHeldNumbered bound (plain entries) a.all.expired)
          (sym (append-nil (a.numbered ++ a.last))) a.all.held,
    );
  };
  ends = a.ends;
  written = a.written;
  rest = [];
  begins = sym a.is ∙ sym (append-nil out);
}

-- what was given for a script is a part of it
pub all_is_part : (first now : LineStage) (entries : List LabelledEntry) (out : List ℕ) → WroteAll first now entries out
    → WrotePart first entries out
all_is_part first now entries out h = all_lines_are_part first.objects (bound_of first) entries h.0 out h.2

-- a beginning of a part is one
pub less_is_part : (first : LineStage) (entries : List LabelledEntry) (part rest : List ℕ)
    → WrotePart first entries (part ++ rest) → WrotePart first entries part
less_is_part first entries part rest h = record {
  taken = h.taken;
  later = h.later;
  are = h.are;
  numbered = h.numbered;
  names = h.names;
  named = h.named;
  number = h.number;
  given = h.given;
  first = h.first;
  ends = h.ends;
  written = h.written;
  rest = rest ++ h.rest;
  begins = h.begins ∙ append_assoc part rest h.rest;
}
