-- What a stage gave is a beginning of what it gives (this project's own). Only the laws of a private stage cite this
-- file.
use Rattle.std.specs.Prelude.{ℕ, List, [], ◌++◌}
use Rattle.std.proofs.Common.{◌∙◌, sym, inl, inr, refl, subst}
use Rattle.std.proofs.lemmas.List.{append-nil, append_assoc}
use Rattle.scrib_hold_stage.specs.declared.stage.Counts.{Counts}
use Rattle.scrib_hold_stage.specs.PendingClosings.{closings_in}
use Rattle.scrib_hold.specs.NumberedItems.{AreHeldNumbered, LetsOutNumbered}
use Rattle.scrib_labelled.specs.declared.label_options.LabelledStyle.{LabelledStyle}
use Rattle.scrib_labelled.specs.LabelledEntries.{LabelledEntry}
use Rattle.scrib_held_labels.specs.declared.held_stage.HeldStage.{HeldStage}
use Rattle.scrib_held_labels.specs.HeldLabels.{AreAllHeld, IsHeldPartOf}
use Rattle.scrib_held_labels.specs.HeldRuns.{plain}
use Rattle.scrib_held_labels.specs.Stages.{HeldAll, HeldEntries, HeldPart, bound_of, style_of}

-- what was given for some entries is a part of it
pub entries_are_part : (first now : HeldStage) (entries : List LabelledEntry) (out : List ℕ)
    → HeldEntries first now entries out → HeldPart first entries out
entries_are_part first now entries out h =
    let s = h.1.taken.at.so_far in
    record {
      taken = entries;
      later = [];
      are = sym (append-nil entries);
      numbered = h.0;
      names = _;
      state = _;
      out = out;
      runs = h.1.runs;
      number = tt;
      given = [];
      after = _;
      more = [];
      first = record {
        first = plain entries;
        later = [];
        undone = [];
        entries_are = sym (append-nil (plain entries));
        let_out = inl (
          s.closed,
          closings_in now.held.pending,
          s.released,
          s.expired,
          subst (LetsOutNumbered (bound_of first) (plain entries) [] s.closed (closings_in now.held.pending) s.released
              s.expired)
              (sym (append-nil (h.0 ++ []) ∙ append-nil h.0)) (s.lets []),
        );
      };
      carried = (refl, refl);
      rest = [];
      begins = refl;
    }

-- all that entries give is a part of it
pub all_held_is_part : (o : LabelledStyle) (bound : ℕ) (entries : List LabelledEntry) (counts : Counts) (out : List ℕ)
    → AreAllHeld o bound entries counts out → IsHeldPartOf o bound entries out
all_held_is_part o bound entries counts out a = record {
  taken = entries;
  later = [];
  are = sym (append-nil entries);
  numbered = a.numbered;
  names = a.names;
  state = a.state;
  out = a.out;
  runs = a.runs;
  number = tt;
  given = a.last;
  after = a.after;
  more = a.more;
  first = record {
    first = plain entries;
    later = [];
    undone = [];
    entries_are = sym (append-nil (plain entries));
    let_out = inr (
      a.all.expired,
      subst (AreHeldNumbered bound (plain entries) a.all.expired)
          (sym (append-nil (a.numbered ++ a.last))) a.all.held,
    );
  };
  carried = a.carried;
  rest = [];
  begins = sym a.is ∙ sym (append-nil out);
}

-- what was given for a script is a part of it
pub all_is_part : (first now : HeldStage) (entries : List LabelledEntry) (out : List ℕ) → HeldAll first now entries out
    → HeldPart first entries out
all_is_part first now entries out h = all_held_is_part (style_of first) (bound_of first) entries h.0 out h.2

-- a beginning of a part is one
pub less_is_part : (first : HeldStage) (entries : List LabelledEntry) (part rest : List ℕ)
    → HeldPart first entries (part ++ rest) → HeldPart first entries part
less_is_part first entries part rest h = record {
  taken = h.taken;
  later = h.later;
  are = h.are;
  numbered = h.numbered;
  names = h.names;
  state = h.state;
  out = h.out;
  runs = h.runs;
  number = h.number;
  given = h.given;
  after = h.after;
  more = h.more;
  first = h.first;
  carried = h.carried;
  rest = rest ++ h.rest;
  begins = h.begins ∙ append_assoc part rest h.rest;
}
