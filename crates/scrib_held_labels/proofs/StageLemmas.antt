-- What a stage does with an entry, and at the end of its script.
use Rattle.std.proofs.Common.{◌≡◌, ℕ, List, [], ◌∷◌, ◌++◌, Option, Some, None, ap, inl, inr, refl, subst, sym, arith, ◌∙◌}
use Rattle.std.specs.Prelude.{Vec}
use Rattle.std.specs.declared.alloc.Global.{Global}
use Rattle.std.proofs.lemmas.List.{append-nil, length-append}
use Rattle.scrib_core.specs.Answers.{State, initial}
use Rattle.scrib_script_reader.specs.declared.entry.Entry.{Entry}
use Rattle.scrib_hold_stage.specs.declared.stage.Counts.{Counts}
use Rattle.scrib_hold.specs.HeldMonitors as monitors
use Rattle.scrib_hold.specs.HeldMonitors.{HasTaken}
use Rattle.scrib_hold.specs.NumberedItems.{AreFirstItems, Numbered}
use Rattle.scrib_hold.specs.Sinks.{CarriesOut}
use Rattle.scrib_hold.proofs.MonitorLemmas.{taken_over}
use Rattle.scrib_labels.specs.declared.session_names.SessionNames.{SessionNames}
use Rattle.scrib_labels.specs.Naming.{number_of}
use Rattle.scrib_labelled.specs.declared.label_options.LabelledStyle.{LabelledStyle}
use Rattle.scrib_labelled.specs.LabelledEntries.{LabelledEntry}
use Rattle.scrib_labelled.specs.LabelledLines.{LineLabel}
use Rattle.scrib_labelled.specs.LabelledRuns.{Naming}
use Rattle.scrib_labelled.specs.NamedLines.{IsNumbersOf}
use Rattle.scrib_labelled.specs.Stages.{FailsEnd, FailsEntry, TakesEnd, TakesEntry}
use Rattle.scrib_held_labels.specs.declared.held_stage.HeldStage.{HeldStage}
use Rattle.scrib_held_labels.specs.declared.labelled_sink.LabelledSink.{LabelledSink}
use Rattle.scrib_held_labels.specs.declared.waiting_labels.KeptLabel.{KeptLabel}
use Rattle.scrib_held_labels.specs.declared.waiting_labels.KeptSession.{KeptSession}
use Rattle.scrib_held_labels.specs.HeldRuns.{Carries, HeldRuns, KeepsNames, label_at, nothing, plain, with_session}
use Rattle.scrib_held_labels.specs.Sinks as sinks
use Rattle.scrib_held_labels.specs.Sinks.{CarriesItem}
use Rattle.scrib_held_labels.specs.StageLaws.{entries_are_part}
use Rattle.scrib_held_labels.specs.Stages.{HasGone, HasHeld, HeldAll, HeldEntries, HeldPart, LabelsEntry, bound_of, gathered_in, naming_of, state_of, style_of}
use Rattle.scrib_held_labels.specs.WaitingLabels.{kept_at}
use Rattle.scrib_held_labels.proofs.CarryLemmas.{carries_all, fewer_labels, kept_style}
use Rattle.scrib_held_labels.proofs.EntryLemmas.{all_first, one_more, part_within, plain_last}
use Rattle.scrib_held_labels.proofs.NameLemmas.{keeps_both, number_in}

-- a new stage has taken nothing
pub taken_nothing : (s : HeldStage) (bound : ℕ) → HasTaken bound s.held [] [] → ((n : ℕ) → kept_at s.held.sink.waiting n ≡ None) → ((name : List ℕ) → naming_of s name ≡ None) → state_of s ≡ initial
    → HeldEntries s s [] []
taken_nothing s bound taken unlabelled unnamed state = (
  [],
  record {
    style = refl;
    taken = subst (λ (b : ℕ). HasTaken b s.held [] []) (sym taken.at.so_far.staged.kept.bounded) taken;
    within = λ n kept q. absurd (never (kept_at s.held.sink.waiting n) kept (unlabelled n) q);
    labels = λ n kept q. absurd (never (kept_at s.held.sink.waiting n) kept (unlabelled n) q);
    runs = subst (λ (w : State). HeldRuns (style_of s) (bound_of s) [] [] (naming_of s) w []) (sym state) (nothing (naming_of s) unnamed);
  },
)
  where
    never : (o : Option KeptLabel) (kept : KeptLabel) → o ≡ None → o ≡ Some kept → ⊥
    never o kept none some = absurd (cc)

-- ---- a stage of which a part has changed

-- only the labels that are kept have changed
abbrev pub IsLabelled : (old new : HeldStage) → Type 0
IsLabelled old new = new ≡ record old { held = record old.held { sink = record old.held.sink { waiting = new.held.sink.waiting } } }

-- only names have changed, and the conversations whose items were carried out
abbrev pub IsRenamed : (old new : HeldStage) → Type 0
IsRenamed old new = new ≡ record old { names = new.names; held = record old.held { sink = record old.held.sink { met = new.held.sink.met } } }

-- what was taken stays
taken_labelled : (old new : HeldStage) → IsLabelled old new → (bound : ℕ) (entries : List Entry) (numbered : List Numbered) → HasTaken bound old.held entries numbered → HasTaken bound new.held entries numbered
taken_labelled old new same bound entries numbered h =
    subst (λ (s : HeldStage). HasTaken bound s.held entries numbered) (sym same) (taken_over bound old.held (record old.held.sink { waiting = new.held.sink.waiting }) entries numbered h)

taken_renamed : (old new : HeldStage) → IsRenamed old new → (bound : ℕ) (entries : List Entry) (numbered : List Numbered) → HasTaken bound old.held entries numbered → HasTaken bound new.held entries numbered
taken_renamed old new same bound entries numbered h =
    subst (λ (s : HeldStage). HasTaken bound s.held entries numbered) (sym same) (taken_over bound old.held (record old.held.sink { met = new.held.sink.met }) entries numbered h)

-- so does that nothing is left of a conversation
gone_over : (s : HeldStage) (names : SessionNames) (met : Vec KeptSession Global) (id : ℕ) → HasGone (record s { names = names; held = record s.held { sink = record s.held.sink { met = met } } }) id → HasGone s id
gone_over s names met id g = (
  g.0,
  (
    (g.1.0.0, λ bound entries numbered h. g.1.0.1 bound entries numbered (record { at = record { so_far = h.at.so_far; inside = h.at.inside }; wait = h.wait })),
    λ bound entries numbered h. g.1.1 bound entries numbered (record { at = record { so_far = h.at.so_far; inside = h.at.inside }; wait = h.wait }),
  ),
)

pub gone_before : (old new : HeldStage) → IsRenamed old new → (id : ℕ) → HasGone new id → HasGone old id
gone_before old new same id g = gone_over old new.names new.held.sink.met id (subst (λ (s : HeldStage). HasGone s id) same g)

-- names alone have changed
pub renamed_alone : (old new : HeldStage) → new ≡ record old { names = new.names } → IsRenamed old new
renamed_alone old new same =
    same ∙ ap (λ (met : Vec KeptSession Global). record old { names = new.names; held = record old.held { sink = record old.held.sink { met = met } } }) (sym (ap (λ (s : HeldStage). s.held.sink.met) same))

-- two changes of names
pub renamed_both : (old mid new : HeldStage) → IsRenamed old mid → IsRenamed mid new → IsRenamed old new
renamed_both old mid new first next =
    next ∙ ap (λ (s : HeldStage). record s { names = new.names; held = record s.held { sink = record s.held.sink { met = new.held.sink.met } } }) first

pub keeps_more : (old mid new : HeldStage) (names : Naming) → IsRenamed old mid → KeepsNames names (naming_of mid) (HasGone old) → KeepsNames (naming_of mid) (naming_of new) (HasGone mid) → KeepsNames names (naming_of new) (HasGone old)
keeps_more old mid new names same first next = keeps_both names (naming_of mid) (naming_of new) (HasGone old) (HasGone mid) (gone_before old mid same) first next

-- ---- an entry

module _ (old mid : HeldStage) (label : LineLabel) (e : Entry) (same : IsLabelled old mid) (labelled : LabelsEntry old mid label e) (number : IsNumbersOf old.names label.session) where
  gathered_mid : gathered_in mid ≡ gathered_in old
  gathered_mid = ap gathered_in same

  state_mid : state_of mid ≡ state_of old
  state_mid = ap state_of same

  style_mid : style_of mid ≡ style_of old
  style_mid = ap style_of same

  -- what is carried out behind entries, with the labels that are theirs
  carried_behind : (first : HeldStage) (entries : List LabelledEntry) (before numbered : List Numbered) (out more : List ℕ) (last : LabelledSink) → HasHeld first old entries before out
      → CarriesOut CarriesItem mid.held.sink last numbered more → Carries (style_of first) (label_at (entries ++ (label, e) ∷ [])) numbered (state_of old) (sinks.state_of last) more
  carried_behind first entries before numbered out more last h c =
      let l = labelled (bound_of first) entries before h.taken h.within h.labels in
      subst (λ (o : LabelledStyle). Carries o (label_at (entries ++ (label, e) ∷ [])) numbered (state_of old) (sinks.state_of last) more) (style_mid ∙ h.style)
      (subst (λ (w : State). Carries (style_of mid) (label_at (entries ++ (label, e) ∷ [])) numbered w (sinks.state_of last) more) state_mid
      (carries_all (label_at (entries ++ (label, e) ∷ [])) numbered mid.held.sink last more c l.1))

  -- a part of what the entry gives was gathered
  part_gathered : (first : HeldStage) (entries : List LabelledEntry) (before numbered : List Numbered) (out more : List ℕ) (last : LabelledSink) → HasHeld first old entries before out
      → CarriesOut CarriesItem mid.held.sink last numbered more → AreFirstItems (bound_of first) (plain entries ++ e ∷ []) (before ++ numbered)
      → HeldPart first (entries ++ (label, e) ∷ []) (out ++ more)
  part_gathered first entries before numbered out more last h c begun =
      part_within (style_of first) (bound_of first) entries before numbered (naming_of old) (state_of old) (sinks.state_of last) out more label e h.runs (number_in old.names label.session number)
      (subst (λ (es : List Entry). AreFirstItems (bound_of first) es (before ++ numbered)) (sym (plain_last entries (label, e))) begun) (carried_behind first entries before numbered out more last h c)

  -- the monitor failed
  pub fails_taking : (new : HeldStage) → monitors.FailsAtEntry CarriesItem sinks.gathered_in mid.held new.held e → FailsEntry HeldEntries HeldPart gathered_in old new label e
  fails_taking new t = record {
    more = t.fails.1;
    grows = t.fails.3 ∙ ap (λ (g : List ℕ). g ++ t.fails.1) gathered_mid;
    part = λ first entries out h.
        inr (part_gathered first entries h.0 t.numbered out t.fails.1 t.fails.0 h.1 t.fails.2
        (t.after (bound_of first) (plain entries) h.0 (taken_labelled old mid same (bound_of first) (plain entries) h.0 h.1.taken)));
  }

  -- the monitor took the entry
  module _ (next new : HeldStage) (t : monitors.TakesEntry CarriesItem sinks.gathered_in mid.held next.held e) (renamed : IsRenamed next new) where
    grows : gathered_in new ≡ gathered_in old ++ t.gathers.0
    grows = ap gathered_in renamed ∙ t.gathers.2 ∙ ap (λ (g : List ℕ). g ++ t.gathers.0) gathered_mid

    taken_next : (first : HeldStage) (entries : List LabelledEntry) (before : List Numbered) (out : List ℕ) → HasHeld first old entries before out → HasTaken (bound_of first) next.held (plain entries ++ e ∷ []) (before ++ t.numbered)
    taken_next first entries before out h = t.after (bound_of first) (plain entries) before (taken_labelled old mid same (bound_of first) (plain entries) before h.taken)

    -- a name did not get its number
    pub fails_keeping : FailsEntry HeldEntries HeldPart gathered_in old new label e
    fails_keeping = record {
      more = t.gathers.0;
      grows = grows;
      part = λ first entries out h.
          inr (part_gathered first entries h.0 t.numbered out t.gathers.0 next.held.sink h.1 t.gathers.1
          (all_first (bound_of first) next.held (plain entries ++ e ∷ []) (h.0 ++ t.numbered) (taken_next first entries h.0 out h.1)));
    }

    -- labels that are kept
    kept_mid : (n : ℕ) (kept : KeptLabel) → kept_at new.held.sink.waiting n ≡ Some kept → kept_at mid.held.sink.waiting n ≡ Some kept
    kept_mid n kept q = fewer_labels t.numbered mid.held.sink next.held.sink t.gathers.0 t.gathers.1 n kept (subst (λ (s : HeldStage). kept_at s.held.sink.waiting n ≡ Some kept) renamed q)

    has_held : (first : HeldStage) (entries : List LabelledEntry) (before : List Numbered) (out : List ℕ) → KeepsNames (with_session (naming_of old) label.session) (naming_of new) (HasGone next)
        → HasHeld first old entries before out → HasHeld first new (entries ++ (label, e) ∷ []) (before ++ t.numbered) (out ++ t.gathers.0)
    has_held first entries before out keeps h =
        let l = labelled (bound_of first) entries before h.taken h.within h.labels in
        let taken : HasTaken (bound_of first) next.held (plain (entries ++ (label, e) ∷ [])) (before ++ t.numbered) =
        subst (λ (es : List Entry). HasTaken (bound_of first) next.held es (before ++ t.numbered)) (sym (plain_last entries (label, e))) (taken_next first entries before out h) in
        record {
          style = ap style_of renamed ∙ kept_style t.numbered mid.held.sink next.held.sink t.gathers.0 t.gathers.1 ∙ style_mid ∙ h.style;
          taken = taken_renamed next new renamed (bound_of first) (plain (entries ++ (label, e) ∷ [])) (before ++ t.numbered) taken;
          within = λ n kept q.
              (let w = l.0 n kept (kept_mid n kept q) in
              let longer = length-append entries ((label, e) ∷ []) in
              omega arith);
          labels = λ n kept q. l.1 n kept (kept_mid n kept q);
          runs =
              subst (λ (w : State). HeldRuns (style_of first) (bound_of first) (entries ++ (label, e) ∷ []) (before ++ t.numbered) (naming_of new) w (out ++ t.gathers.0)) (sym (ap state_of renamed))
              (one_more (style_of first) (bound_of first) entries before t.numbered (naming_of old) (naming_of new) (state_of old) out t.gathers.0 label e next h.runs (number_in old.names label.session number) taken
              (carried_behind first entries before t.numbered out t.gathers.0 next.held.sink h t.gathers.1) keeps);
        }

    pub takes_entry : KeepsNames (with_session (naming_of old) label.session) (naming_of new) (HasGone next) → TakesEntry HeldEntries gathered_in old new label e
    takes_entry keeps = record {
      more = t.gathers.0;
      grows = grows;
      took = λ first entries out h. (h.0 ++ t.numbered, has_held first entries h.0 out keeps h.1);
    }

-- the same, where names change in two steps
pub takes_named : (old mid next kept new : HeldStage) (label : LineLabel) (e : Entry) → IsLabelled old mid → LabelsEntry old mid label e → IsNumbersOf old.names label.session → monitors.TakesEntry CarriesItem sinks.gathered_in mid.held next.held e
    → next.names ≡ mid.names → kept ≡ record next { names = kept.names } → IsRenamed kept new → KeepsNames (with_session (naming_of next) label.session) (naming_of kept) (HasGone next)
    → KeepsNames (naming_of kept) (naming_of new) (HasGone kept) → TakesEntry HeldEntries gathered_in old new label e
takes_named old mid next kept new label e same labelled number t names kept_is renamed keeps further =
    let first = renamed_alone next kept kept_is in
    let named : naming_of next ≡ naming_of old = ap number_of (names ∙ ap (λ (s : HeldStage). s.names) same) in
    takes_entry old mid label e same labelled number next new t (renamed_both next kept new first renamed)
    (keeps_more next kept new (with_session (naming_of old) label.session) first (subst (λ (n : Naming). KeepsNames (with_session n label.session) (naming_of kept) (HasGone next)) named keeps) further)

-- the label of the entry was not kept
pub fails_labelling : (old new : HeldStage) (label : LineLabel) (e : Entry) → IsLabelled old new → FailsEntry HeldEntries HeldPart gathered_in old new label e
fails_labelling old new label e same = record {
  more = [];
  grows = ap gathered_in same ∙ sym (append-nil (gathered_in old));
  part = λ first entries out h. inl (subst (HeldPart first entries) (sym (append-nil out)) (entries_are_part first old entries out h));
}

-- ---- the end of the script

-- what is carried out then, with the labels of the entries
carried_last : (first old : HeldStage) (entries : List LabelledEntry) (before numbered : List Numbered) (out more : List ℕ) (last : LabelledSink) → HasHeld first old entries before out
    → CarriesOut CarriesItem old.held.sink last numbered more → Carries (style_of first) (label_at entries) numbered (state_of old) (sinks.state_of last) more
carried_last first old entries before numbered out more last h c =
    subst (λ (o : LabelledStyle). Carries o (label_at entries) numbered (state_of old) (sinks.state_of last) more) h.style (carries_all (label_at entries) numbered old.held.sink last more c h.labels)

pub ends : (old new : HeldStage) (counts : Counts) → new.counts ≡ Some counts → monitors.Ends CarriesItem sinks.gathered_in old.held new.held counts → TakesEnd HeldEntries HeldAll gathered_in old new
ends old new counts is t = record {
  more = t.gathers.0;
  grows = t.gathers.2;
  took = λ first entries out h. (
    counts,
    is,
    record {
      numbered = h.0;
      names = naming_of old;
      state = state_of old;
      out = out;
      runs = h.1.runs;
      last = t.numbered;
      after = state_of new;
      more = t.gathers.0;
      all = t.after (bound_of first) (plain entries) h.0 h.1.taken;
      carried = carried_last first old entries h.0 t.numbered out t.gathers.0 new.held.sink h.1 t.gathers.1;
      is = refl;
    },
  );
}

pub fails_at_end : (old new : HeldStage) → monitors.EndFails CarriesItem sinks.gathered_in old.held new.held → FailsEnd HeldEntries HeldPart gathered_in old new
fails_at_end old new t = record {
  more = t.fails.1;
  grows = t.fails.3;
  part = λ first entries out h. record {
    taken = entries;
    later = [];
    are = sym (append-nil entries);
    numbered = h.0;
    names = naming_of old;
    state = state_of old;
    out = out;
    runs = h.1.runs;
    number = tt;
    given = t.numbered;
    after = sinks.state_of t.fails.0;
    more = t.fails.1;
    first = t.after (bound_of first) (plain entries) h.0 h.1.taken;
    carried = carried_last first old entries h.0 t.numbered out t.fails.1 t.fails.0 h.1 t.fails.2;
    rest = [];
    begins = sym (append-nil (out ++ t.fails.1));
  };
}
