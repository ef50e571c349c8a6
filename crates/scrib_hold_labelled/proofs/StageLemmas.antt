-- What a stage does with an entry, and at the end of its script.
use Rattle.std.specs.Prelude.{Vec, String}
use Rattle.std.specs.Global.{Global}
use Rattle.std.proofs.Common.{◌≡◌, ◌∙◌, ◌≤◌, ◌⊎◌, ◌+◌, ℕ, Bool, true, false, cond, List, [], ◌∷◌, ◌++◌, length, map, nat_eq, eqb-true, Option, Some, None, ap, inl, inr, refl, subst, sym, arith}
use Rattle.std.specs.List.{AllByRecursion}
use Rattle.std.specs.Map.{update}
use Rattle.std.proofs.lemmas.List.{append-nil, append_assoc, length-append, length-map}
use Rattle.scrib_script_reader.specs.declared.entry.Entry.{Entry}
use Rattle.scrib_script_reader.specs.declared.entry.Entry.TheVariants as entry
use Rattle.scrib_script_reader.specs.declared.item.Item.{Item}
use Rattle.scrib_script_reader.specs.declared.item.Item.TheVariants as item
use Rattle.scrib_script_reader.specs.Scripts.{NoLf}
use Rattle.scrib_hold_stage.specs.declared.stage.Counts.{Counts}
use Rattle.scrib_hold_stage.specs.PendingClosings.{closings_in}
use Rattle.scrib_hold.specs.declared.held_monitor.HeldMonitor.{HeldMonitor}
use Rattle.scrib_hold.specs.HeldMonitors as monitors
use Rattle.scrib_hold.specs.HeldMonitors.{HasTaken, IsCount}
use Rattle.scrib_hold.specs.NumberedItems.{AreFirstItems, AreHeldNumbered, LetsOutNumbered, Numbered}
use Rattle.scrib_hold.specs.Sinks.{CarriesOut}
use Rattle.scrib_hold.proofs.MonitorLemmas.{taken_over}
use Rattle.scrib_labels.specs.declared.session_names.SessionNames.{SessionNames}
use Rattle.scrib_labels.specs.Naming.{number_of}
use Rattle.scrib_labelled.specs.LabelledEntries.{LabelledEntry}
use Rattle.scrib_labelled.specs.LabelledLines.{LineLabel}
use Rattle.scrib_labelled.specs.LabelledRuns.{Naming}
use Rattle.scrib_labelled.specs.NamedLines.{IsNumbersOf}
use Rattle.scrib_labelled.specs.Stages.{FailsEnd, FailsEntry, TakesEnd, TakesEntry}
use Rattle.scrib_held_labels.specs.HeldRuns.{KeepsNames, plain, with_session}
use Rattle.scrib_held_labels.proofs.NameLemmas.{keeps_both, number_in}
use Rattle.scrib_hold_labelled.specs.declared.waiting_lines.KeptLines.{KeptLines}
use Rattle.scrib_hold_labelled.specs.declared.line_sink.LineSink.{LineSink}
use Rattle.scrib_hold_labelled.specs.declared.line_stage.LineStage.{LineStage}
use Rattle.scrib_hold_labelled.specs.HeldLabelledScripts.{IsLeft, Names, nothing, takes}
use Rattle.scrib_hold_labelled.specs.Sinks as sinks
use Rattle.scrib_hold_labelled.specs.Sinks.{CarriesLines}
use Rattle.scrib_hold_labelled.specs.StageLaws.{entries_are_part}
use Rattle.scrib_hold_labelled.specs.Stages.{ArePartOfLines, EndsInOneLine, HasGone, HasWritten, IsWritten, KeepsLines, WroteAll, WroteEntries, WrotePart, bound_of, gathered_in, naming_of}
use Rattle.scrib_hold_labelled.specs.WaitingLines.{AreOf, AreWithin, IsOneLineAt, kept_at}
use Rattle.scrib_hold_labelled.specs.WrittenLines.{end_line, end_lines, entry_at, entry_lines, item_end, item_lines, lines_at}
use Rattle.scrib_hold_labelled.proofs.EntryLemmas.{all_append, all_push, end_lines_last, entry_before, entry_last, lines_append, lines_before, plain_last, written_before}
use Rattle.scrib_hold_labelled.proofs.SinkLemmas.{carries_all, fewer_lines}

none-kept : (o : Option KeptLines) (kept : KeptLines) → o ≡ None → o ≡ Some kept → ⊥
none-kept o kept none some = absurd (cc)

-- a new stage has taken nothing
pub taken_nothing : (s : LineStage) (bound : ℕ) → HasTaken bound s.held [] [] → ((n : ℕ) → kept_at s.held.sink.waiting n ≡ None) → ((name : List ℕ) → naming_of s name ≡ None) → s.last.items ≡ [] → WroteEntries s s [] []
taken_nothing s bound taken unkept unnamed no_last = (
  [],
  record {
    objects = refl;
    taken = subst (λ (b : ℕ). HasTaken b s.held [] []) (sym taken.at.so_far.staged.kept.bounded) taken;
    within = λ n kept q. absurd (none-kept (kept_at s.held.sink.waiting n) kept (unkept n) q);
    kept = λ n kept q. absurd (none-kept (kept_at s.held.sink.waiting n) kept (unkept n) q);
    last = no_last;
    ends = tt;
    named = nothing (naming_of s) unnamed;
    written = tt;
    lines = refl;
  },
)

-- ---- the lines of the next entry

-- only the lines that are kept have changed
abbrev pub IsLined : (old new : LineStage) → Type 0
IsLined old new = new ≡ record old { held = record old.held { sink = record old.held.sink { waiting = new.held.sink.waiting } }; last = new.last }

-- no lines are kept of it
pub keeps_none : (s : LineStage) (label : LineLabel) → KeepsLines s s label entry.Skipped
keeps_none s label = record {
  kept = λ bound entries numbered taken within of. (
    λ n kept q. (let w = within n kept q in omega arith),
    λ n kept q.
        let same = entry_before entries (label, entry.Skipped) n (within n kept q) in
        subst (λ (e : LabelledEntry). (kept.lines.items ≡ entry_lines s.objects e) × NoLf e.0.text) (sym same) (of n kept q),
  );
  last = λ entries h. h ∙ sym (append-nil (end_lines entries)) ∙ sym (end_lines_last entries (label, entry.Skipped));
  one_line = tt;
}

put-one : (b : Bool) (was now : Option KeptLines) (put kept : KeptLines) → now ≡ cond b (Some put) was → now ≡ Some kept → ((b ≡ true) × (put ≡ kept)) ⊎ (was ≡ Some kept)
put-one true was now put kept h q = inl (refl, cc)
put-one false was now put kept h q = inr (sym h ∙ q)

one-end : (label : LineLabel) (i : Item) → NoLf label.text → EndsInOneLine (label, entry.Item i)
one-end label (item.Step f s) h = tt
one-end label (item.Sweep f) h = tt
one-end label (item.BadLine n) h = tt
one-end label item.EndOfText h = h

-- its lines are kept under its number
pub keeps_item : (old new : LineStage) (label : LineLabel) (i : Item) (count number : ℕ) (put : KeptLines) → IsCount old.held count → number ≡ count + 1 → NoLf label.text → put.lines.items ≡ item_lines old.objects label.text i
    → ((n : ℕ) → kept_at new.held.sink.waiting n ≡ update nat_eq (kept_at old.held.sink.waiting) number (Some put) n) → new.last.items ≡ old.last.items ++ item_end label.text i → KeepsLines old new label (entry.Item i)
keeps_item old new label i count number put counts next one_line is h last = record {
  kept = λ bound entries numbered taken within of.
      let e : LabelledEntry = (label, entry.Item i) in
      let counted : count ≡ length entries = counts bound (map (λ e. e.1) entries) numbered taken ∙ length-map entries (λ e. e.1) in
      let at : number ≡ length entries + 1 = omega arith in
      let each = λ (n : ℕ) (kept : KeptLines) (q : kept_at new.held.sink.waiting n ≡ Some kept). put-one (nat_eq number n) (kept_at old.held.sink.waiting n) (kept_at new.held.sink.waiting n) put kept (h n) q in (
        λ n kept q. elim (each n kept q) [
          | inl here ↦ (let same : number ≡ n = eqb-true number n here.0 in omega arith)
          | inr before ↦ (let w = within n kept before in omega arith)
        ],
        λ n kept q. elim (each n kept q) [
          | inl here ↦
              let same : entry_at (entries ++ e ∷ []) n ≡ e = entry_last entries e n (sym (eqb-true number n here.0) ∙ at) in
              subst (λ (x : LabelledEntry). (kept.lines.items ≡ entry_lines old.objects x) × NoLf x.0.text) (sym same) (ap (λ (v : KeptLines). v.lines.items) (sym here.1) ∙ is, one_line)
          | inr before ↦
              let same = entry_before entries e n (within n kept before) in
              subst (λ (x : LabelledEntry). (kept.lines.items ≡ entry_lines old.objects x) × NoLf x.0.text) (sym same) (of n kept before)
        ],
      );
  last = λ entries before. last ∙ ap (λ (o : List ℕ). o ++ item_end label.text i) before ∙ sym (end_lines_last entries (label, entry.Item i));
  one_line = one-end label i one_line;
}

-- ---- names

-- only names have changed, and the conversations whose closings were let out
abbrev pub IsRenamed : (old new : LineStage) → Type 0
IsRenamed old new = new ≡ record old { names = new.names; held = record old.held { sink = record old.held.sink { closed = new.held.sink.closed } } }

-- that nothing is left of a conversation stays
gone-over : (s : LineStage) (names : SessionNames) (closed : Vec (String Global) Global) (id : ℕ) → HasGone (record s { names = names; held = record s.held { sink = record s.held.sink { closed = closed } } }) id → HasGone s id
gone-over s names closed id g = (
  (g.0.0, λ bound entries numbered h. g.0.1 bound entries numbered (record { at = record { so_far = h.at.so_far; inside = h.at.inside }; wait = h.wait })),
  λ bound entries numbered h. g.1 bound entries numbered (record { at = record { so_far = h.at.so_far; inside = h.at.inside }; wait = h.wait }),
)

pub gone_before : (old new : LineStage) → IsRenamed old new → (id : ℕ) → HasGone new id → HasGone old id
gone_before old new same id g = gone-over old new.names new.held.sink.closed id (subst (λ (s : LineStage). HasGone s id) same g)

-- names alone have changed
pub renamed_alone : (old new : LineStage) → new ≡ record old { names = new.names } → IsRenamed old new
renamed_alone old new same =
    same ∙ ap (λ (closed : Vec (String Global) Global). record old { names = new.names; held = record old.held { sink = record old.held.sink { closed = closed } } }) (sym (ap (λ (s : LineStage). s.held.sink.closed) same))

-- two changes of names
pub renamed_both : (old mid new : LineStage) → IsRenamed old mid → IsRenamed mid new → IsRenamed old new
renamed_both old mid new first next =
    next ∙ ap (λ (s : LineStage). record s { names = new.names; held = record s.held { sink = record s.held.sink { closed = new.held.sink.closed } } }) first

pub keeps_more : (old mid new : LineStage) (names : Naming) → IsRenamed old mid → KeepsNames names (naming_of mid) (HasGone old) → KeepsNames (naming_of mid) (naming_of new) (HasGone mid) → KeepsNames names (naming_of new) (HasGone old)
keeps_more old mid new names same first next = keeps_both names (naming_of mid) (naming_of new) (HasGone old) (HasGone mid) (gone_before old mid same) first next

-- of a conversation of which nothing is left
left-over : (bound : ℕ) (s : LineStage) (entries : List Entry) (numbered : List Numbered) (h : HasTaken bound s.held entries numbered) (id : ℕ) → HasGone s id
    → IsLeft id entries h.at.so_far.closed (closings_in s.held.pending) h.at.so_far.released
left-over bound s entries numbered h id g = record { unopened = g.1 bound entries numbered h; released_all = g.0.1 bound entries numbered h; unclosed = g.0.0 }

-- ---- an entry

-- what was taken stays
taken-lined : (old new : LineStage) → IsLined old new → (bound : ℕ) (entries : List Entry) (numbered : List Numbered) → HasTaken bound old.held entries numbered → HasTaken bound new.held entries numbered
taken-lined old new same bound entries numbered h =
    subst (λ (s : LineStage). HasTaken bound s.held entries numbered) (sym same) (taken_over bound old.held (record old.held.sink { waiting = new.held.sink.waiting }) entries numbered h)

taken-renamed : (old new : LineStage) → IsRenamed old new → (bound : ℕ) (entries : List Entry) (numbered : List Numbered) → HasTaken bound old.held entries numbered → HasTaken bound new.held entries numbered
taken-renamed old new same bound entries numbered h =
    subst (λ (s : LineStage). HasTaken bound s.held entries numbered) (sym same) (taken_over bound old.held (record old.held.sink { closed = new.held.sink.closed }) entries numbered h)

-- what is let out behind some entries are first items of theirs
all-first : (bound : ℕ) (m : HeldMonitor LineSink) (entries : List Entry) (numbered : List Numbered) → HasTaken bound m entries numbered → AreFirstItems bound entries numbered
all-first bound m entries numbered h =
    let s = h.at.so_far in
    record {
      first = entries;
      later = [];
      undone = [];
      entries_are = sym (append-nil entries);
      let_out = inl (s.closed, closings_in m.pending, s.released, s.expired, subst (LetsOutNumbered bound entries [] s.closed (closings_in m.pending) s.released s.expired) (sym (append-nil numbered)) (s.lets []));
    }

module _ (old mid : LineStage) (label : LineLabel) (e : Entry) (same : IsLined old mid) (lined : KeepsLines old mid label e) (number : IsNumbersOf old.names label.session) where
  gathered-mid : gathered_in mid ≡ gathered_in old
  gathered-mid = ap gathered_in same

  objects-mid : mid.objects ≡ old.objects
  objects-mid = ap (λ (s : LineStage). s.objects) same

  -- the lines that are kept behind the entry
  kept-within : (first : LineStage) (entries : List LabelledEntry) (before : List Numbered) (out : List ℕ) → HasWritten first old entries before out → AreWithin mid.held.sink.waiting (length (entries ++ (label, e) ∷ []))
  kept-within first entries before out h =
      let l = lined.kept (bound_of first) entries before h.taken h.within (subst (λ (b : Bool). AreOf old.held.sink.waiting b entries) (sym h.objects) h.kept) in
      let longer = length-append entries ((label, e) ∷ []) in
      λ n kept q. (let w = l.0 n kept q in omega arith)

  kept-of : (first : LineStage) (entries : List LabelledEntry) (before : List Numbered) (out : List ℕ) → HasWritten first old entries before out → AreOf mid.held.sink.waiting first.objects (entries ++ (label, e) ∷ [])
  kept-of first entries before out h =
      let l = lined.kept (bound_of first) entries before h.taken h.within (subst (λ (b : Bool). AreOf old.held.sink.waiting b entries) (sym h.objects) h.kept) in
      subst (λ (b : Bool). AreOf mid.held.sink.waiting b (entries ++ (label, e) ∷ [])) h.objects l.1

  -- what is written behind entries
  written-behind : (first : LineStage) (entries : List LabelledEntry) (before numbered : List Numbered) (out more : List ℕ) (last : LineSink) → HasWritten first old entries before out → CarriesOut CarriesLines mid.held.sink last numbered more
      → (more ≡ lines_at first.objects (entries ++ (label, e) ∷ []) numbered) × AllByRecursion (IsWritten (entries ++ (label, e) ∷ [])) numbered
  written-behind first entries before numbered out more last h c =
      carries_all first.objects (entries ++ (label, e) ∷ []) numbered mid.held.sink last more c (kept-within first entries before out h) (kept-of first entries before out h)

  all-lines : (first : LineStage) (entries : List LabelledEntry) (before numbered : List Numbered) (out more : List ℕ) (last : LineSink) → HasWritten first old entries before out → CarriesOut CarriesLines mid.held.sink last numbered more
      → out ++ more ≡ lines_at first.objects (entries ++ (label, e) ∷ []) (before ++ numbered)
  all-lines first entries before numbered out more last h c =
      ap (λ (o : List ℕ). o ++ more) (h.lines ∙ sym (lines_before first.objects entries (label, e) before h.written))
      ∙ ap (λ (o : List ℕ). lines_at first.objects (entries ++ (label, e) ∷ []) before ++ o) (written-behind first entries before numbered out more last h c).0
      ∙ sym (lines_append first.objects (entries ++ (label, e) ∷ []) before numbered)

  all-written : (first : LineStage) (entries : List LabelledEntry) (before numbered : List Numbered) (out more : List ℕ) (last : LineSink) → HasWritten first old entries before out → CarriesOut CarriesLines mid.held.sink last numbered more
      → AllByRecursion (IsWritten (entries ++ (label, e) ∷ [])) (before ++ numbered)
  all-written first entries before numbered out more last h c =
      all_append (IsWritten (entries ++ (label, e) ∷ [])) before numbered (written_before entries (label, e) before h.written) (written-behind first entries before numbered out more last h c).1

  -- a part of what the entry gives was gathered
  part-gathered : (first : LineStage) (entries : List LabelledEntry) (before numbered : List Numbered) (out more : List ℕ) (last : LineSink) → HasWritten first old entries before out → CarriesOut CarriesLines mid.held.sink last numbered more
      → AreFirstItems (bound_of first) (plain entries ++ e ∷ []) (before ++ numbered) → WrotePart first (entries ++ (label, e) ∷ []) (out ++ more)
  part-gathered first entries before numbered out more last h c begun = record {
    taken = entries;
    later = (label, e) ∷ [];
    are = refl;
    numbered = before;
    names = naming_of old;
    named = h.named;
    number = number_in old.names label.session number;
    given = numbered;
    first = subst (λ (es : List Entry). AreFirstItems (bound_of first) es (before ++ numbered)) (sym (plain_last entries (label, e))) begun;
    ends = all_push EndsInOneLine entries (label, e) h.ends lined.one_line;
    written = all-written first entries before numbered out more last h c;
    rest = end_lines (entries ++ (label, e) ∷ []);
    begins = ap (λ (o : List ℕ). o ++ end_lines (entries ++ (label, e) ∷ [])) (sym (all-lines first entries before numbered out more last h c));
  }

  -- the monitor failed
  pub fails_taking : (new : LineStage) → monitors.FailsAtEntry CarriesLines sinks.gathered_in mid.held new.held e → FailsEntry WroteEntries WrotePart gathered_in old new label e
  fails_taking new t = record {
    more = t.fails.1;
    grows = t.fails.3 ∙ ap (λ (g : List ℕ). g ++ t.fails.1) gathered-mid;
    part = λ first entries out h.
        inr (part-gathered first entries h.0 t.numbered out t.fails.1 t.fails.0 h.1 t.fails.2
        (t.after (bound_of first) (plain entries) h.0 (taken-lined old mid same (bound_of first) (plain entries) h.0 h.1.taken)));
  }

  -- the monitor took the entry, and then only names have changed
  module _ (next new : LineStage) (t : monitors.TakesEntry CarriesLines sinks.gathered_in mid.held next.held e) (rest : next ≡ record mid { held = next.held }) (named : IsRenamed next new) where
    grows : gathered_in new ≡ gathered_in old ++ t.gathers.0
    grows = ap gathered_in named ∙ t.gathers.2 ∙ ap (λ (g : List ℕ). g ++ t.gathers.0) gathered-mid

    taken-next : (first : LineStage) (entries : List LabelledEntry) (before : List Numbered) (out : List ℕ) → HasWritten first old entries before out → HasTaken (bound_of first) next.held (plain entries ++ e ∷ []) (before ++ t.numbered)
    taken-next first entries before out h = t.after (bound_of first) (plain entries) before (taken-lined old mid same (bound_of first) (plain entries) before h.taken)

    -- a name did not get its number
    pub fails_keeping : FailsEntry WroteEntries WrotePart gathered_in old new label e
    fails_keeping = record {
      more = t.gathers.0;
      grows = grows;
      part = λ first entries out h.
          inr (part-gathered first entries h.0 t.numbered out t.gathers.0 next.held.sink h.1 t.gathers.1
          (all-first (bound_of first) next.held (plain entries ++ e ∷ []) (h.0 ++ t.numbered) (taken-next first entries h.0 out h.1)));
    }

    -- lines that are kept
    kept-mid : (n : ℕ) (kept : KeptLines) → kept_at new.held.sink.waiting n ≡ Some kept → kept_at mid.held.sink.waiting n ≡ Some kept
    kept-mid n kept q = fewer_lines t.numbered mid.held.sink next.held.sink t.gathers.0 t.gathers.1 n kept (subst (λ (s : LineStage). kept_at s.held.sink.waiting n ≡ Some kept) named q)

    names-next : next.names ≡ old.names
    names-next = ap (λ (s : LineStage). s.names) rest ∙ ap (λ (s : LineStage). s.names) same

    has-written : (first : LineStage) (entries : List LabelledEntry) (before : List Numbered) (out : List ℕ) → KeepsNames (with_session (naming_of next) label.session) (naming_of new) (HasGone next) → HasWritten first old entries before out
        → HasWritten first new (entries ++ (label, e) ∷ []) (before ++ t.numbered) (out ++ t.gathers.0)
    has-written first entries before out keeps h =
        let taken : HasTaken (bound_of first) next.held (plain (entries ++ (label, e) ∷ [])) (before ++ t.numbered) =
        subst (λ (es : List Entry). HasTaken (bound_of first) next.held es (before ++ t.numbered)) (sym (plain_last entries (label, e))) (taken-next first entries before out h) in
        let s = taken.at.so_far in
        let within = kept-within first entries before out h in
        let of = kept-of first entries before out h in
        record {
          objects = ap (λ (s : LineStage). s.objects) named ∙ ap (λ (s : LineStage). s.objects) rest ∙ objects-mid ∙ h.objects;
          taken = taken-renamed next new named (bound_of first) (plain (entries ++ (label, e) ∷ [])) (before ++ t.numbered) taken;
          within = λ n kept q. within n kept (kept-mid n kept q);
          kept = λ n kept q. of n kept (kept-mid n kept q);
          last = ap (λ (s : LineStage). s.last.items) named ∙ ap (λ (s : LineStage). s.last.items) rest ∙ lined.last entries h.last;
          ends = all_push EndsInOneLine entries (label, e) h.ends lined.one_line;
          named =
              takes entries before t.numbered (naming_of old) (naming_of new) label e s.closed (closings_in next.held.pending) s.released s.expired h.named (number_in old.names label.session number) (s.lets [])
              (λ name. elim (subst (λ (names : Naming). KeepsNames (with_session names label.session) (naming_of new) (HasGone next)) (ap number_of names-next) keeps name) [
                | inl same ↦ inl same
                | inr none ↦ inr (none.0, λ id q. left-over (bound_of first) next (plain (entries ++ (label, e) ∷ [])) (before ++ t.numbered) taken id (none.1 id q))
              ]);
          written = all-written first entries before t.numbered out t.gathers.0 next.held.sink h t.gathers.1;
          lines = all-lines first entries before t.numbered out t.gathers.0 next.held.sink h t.gathers.1;
        }

    pub takes_entry : KeepsNames (with_session (naming_of next) label.session) (naming_of new) (HasGone next) → TakesEntry WroteEntries gathered_in old new label e
    takes_entry keeps = record {
      more = t.gathers.0;
      grows = grows;
      took = λ first entries out h. (h.0 ++ t.numbered, has-written first entries h.0 out keeps h.1);
    }

-- the lines of the entry were not kept
pub fails_lining : (old new : LineStage) (label : LineLabel) (e : Entry) → IsLined old new → FailsEntry WroteEntries WrotePart gathered_in old new label e
fails_lining old new label e same = record {
  more = [];
  grows = ap gathered_in same ∙ sym (append-nil (gathered_in old));
  part = λ first entries out h. inl (subst (WrotePart first entries) (sym (append-nil out)) (entries_are_part first old entries out h));
}

-- ---- the end of the script

module _ (old : LineStage) (numbered : List Numbered) (more : List ℕ) (last : LineSink) (c : CarriesOut CarriesLines old.held.sink last numbered more) where
  -- what is written then
  written-last : (first : LineStage) (entries : List LabelledEntry) (before : List Numbered) (out : List ℕ) → HasWritten first old entries before out → (more ≡ lines_at first.objects entries numbered) × AllByRecursion (IsWritten entries) numbered
  written-last first entries before out h = carries_all first.objects entries numbered old.held.sink last more c h.within h.kept

  pub lines_then : (first : LineStage) (entries : List LabelledEntry) (before : List Numbered) (out : List ℕ) → HasWritten first old entries before out → out ++ more ≡ lines_at first.objects entries (before ++ numbered)
  lines_then first entries before out h =
      ap (λ (o : List ℕ). o ++ more) h.lines ∙ ap (λ (o : List ℕ). lines_at first.objects entries before ++ o) (written-last first entries before out h).0 ∙ sym (lines_append first.objects entries before numbered)

  pub written_then : (first : LineStage) (entries : List LabelledEntry) (before : List Numbered) (out : List ℕ) → HasWritten first old entries before out → AllByRecursion (IsWritten entries) (before ++ numbered)
  written_then first entries before out h = all_append (IsWritten entries) before numbered h.written (written-last first entries before out h).1

  -- they are a part
  pub part_then : (first : LineStage) (entries : List LabelledEntry) (before : List Numbered) (out : List ℕ) → HasWritten first old entries before out → AreFirstItems (bound_of first) (plain entries) (before ++ numbered) → WrotePart first entries (out ++ more)
  part_then first entries before out h begun = record {
    taken = entries;
    later = [];
    are = sym (append-nil entries);
    numbered = before;
    names = naming_of old;
    named = h.named;
    number = tt;
    given = numbered;
    first = begun;
    ends = h.ends;
    written = written_then first entries before out h;
    rest = end_lines entries;
    begins = ap (λ (o : List ℕ). o ++ end_lines entries) (sym (lines_then first entries before out h));
  }

pub fails_at_end : (old new : LineStage) → monitors.EndFails CarriesLines sinks.gathered_in old.held new.held → FailsEnd WroteEntries WrotePart gathered_in old new
fails_at_end old new t = record {
  more = t.fails.1;
  grows = t.fails.3;
  part = λ first entries out h. part_then old t.numbered t.fails.1 t.fails.0 t.fails.2 first entries h.0 out h.1 (t.after (bound_of first) (plain entries) h.0 h.1.taken);
}

-- the last line was not gathered
pub fails_last : (old new : LineStage) (held : HeldMonitor LineSink) (counts : Counts) → monitors.Ends CarriesLines sinks.gathered_in old.held held counts → gathered_in new ≡ sinks.gathered_in held.sink → FailsEnd WroteEntries WrotePart gathered_in old new
fails_last old new held counts t same = record {
  more = t.gathers.0;
  grows = same ∙ t.gathers.2;
  part = λ first entries out h.
      let a = t.after (bound_of first) (plain entries) h.0 h.1.taken in
      part_then old t.numbered t.gathers.0 held.sink t.gathers.1 first entries h.0 out h.1
      (record {
        first = plain entries;
        later = [];
        undone = [];
        entries_are = sym (append-nil (plain entries));
        let_out = inr (a.expired, subst (λ (xs : List Numbered). AreHeldNumbered (bound_of first) (plain entries) a.expired xs) (sym (append-nil (h.0 ++ t.numbered))) a.held);
      });
}

pub ends : (old new : LineStage) (held : HeldMonitor LineSink) (counts : Counts) (last : List ℕ) → monitors.Ends CarriesLines sinks.gathered_in old.held held counts → new.counts ≡ Some counts → last ≡ old.last.items
    → gathered_in new ≡ sinks.gathered_in held.sink ++ last → TakesEnd WroteEntries WroteAll gathered_in old new
ends old new held counts last t is last_is grows = record {
  more = t.gathers.0 ++ last;
  grows = grows ∙ ap (λ (g : List ℕ). g ++ last) t.gathers.2 ∙ append_assoc (gathered_in old) t.gathers.0 last;
  took = λ first entries out h. (
    counts,
    is,
    record {
      numbered = h.0;
      names = naming_of old;
      named = h.1.named;
      last = t.numbered;
      all = t.after (bound_of first) (plain entries) h.0 h.1.taken;
      ends = h.1.ends;
      written = written_then old t.numbered t.gathers.0 held.sink t.gathers.1 first entries h.0 out h.1;
      is =
          sym (append_assoc out t.gathers.0 last) ∙ ap (λ (o : List ℕ). o ++ last) (lines_then old t.numbered t.gathers.0 held.sink t.gathers.1 first entries h.0 out h.1)
          ∙ ap (λ (o : List ℕ). lines_at first.objects entries (h.0 ++ t.numbered) ++ o) (last_is ∙ h.1.last);
    },
  );
}
