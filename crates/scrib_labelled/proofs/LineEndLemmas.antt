-- What a line that has ended changes.
use Rattle.std.specs.Prelude.{is_some, not}
use Rattle.std.proofs.Common.{◌≡◌, ◌≢◌, ◌∙◌, ◌+◌, ◌≤◌, Vec, Global, inl, inr, ℕ, Bool, true, false, List, [], ◌∷◌, ◌++◌, Option, Some, None, take, length, refl, sym, ap, subst, arith}
use Rattle.std.proofs.lemmas.List.{append-nil, append_assoc, length-take}
use Rattle.scrib_core.specs.declared.format.Format.{Format}
use Rattle.scrib_core.specs.declared.step.Step.{Step}
use Rattle.scrib_core.specs.declared.step.Step.TheVariants.{Put}
use Rattle.scrib_script_reader.specs.declared.entry.Entry.{Entry}
use Rattle.scrib_script_reader.specs.declared.entry.Entry.TheVariants as entry
use Rattle.scrib_script_reader.specs.declared.item.Item.TheVariants as item
use Rattle.scrib_script_reader.specs.declared.line.Line.{Line}
use Rattle.scrib_script_reader.specs.declared.line.Line.TheVariants as line
use Rattle.scrib_script_reader.specs.Says.{Says}
use Rattle.scrib_script_reader.specs.Scripts.{bare, empty_text, text_end, with_line}
use Rattle.scrib_script_reader.proofs.Bytes.{all_or_most, length-bare, take_kept, take_kept_line, take_of_none}
use Rattle.scrib_labels.specs.declared.session_names.SessionNames.{SessionNames}
use Rattle.scrib_labelled.specs.declared.label_options.LabelOptions.{LabelOptions}
use Rattle.scrib_labelled.specs.declared.labelled_run.LabelledRun.{LabelledRun}
use Rattle.scrib_labelled.specs.declared.line_parts.LineParts.{LineParts}
use Rattle.scrib_labelled.specs.declared.put_text.PutText.{PutText}
use Rattle.scrib_labelled.specs.LabelledEntries.{LabelledEntry, SpellsLabelledEntries, begins, goes_on, is_bad, makes, puts, puts_object, skips, sweeps}
use Rattle.scrib_labelled.specs.LabelledLines.{IsCutOf, IsLabelAt, IsPutObject, LineLabel, StandsFor, line_limit}
use Rattle.scrib_labelled.specs.LabelledScripts.{LabelledText, SaysAs}
use Rattle.scrib_labelled.specs.LineEnds.{EndsLine, FailsLine, Gives, IsPutLabel, IsSameRun, LineEnds, LineFails, OfLines, nameless, of_cut, of_kept, of_meaning, of_object, of_text_line}
use Rattle.scrib_labelled.specs.NamedLines.{ReadsAs, ReadsRest, label_of}
use Rattle.scrib_labelled.specs.Readings.{HoldsUnended, kept_len}
use Rattle.scrib_labelled.specs.Stages.{FailsEntry, OutputRelation, StageRelation, TakesEntry}
use Rattle.scrib_labelled.specs.TextProgress.{HoldsMore, HoldsText, tag_in}
use Rattle.scrib_labelled.proofs.LineLemmas.{put_no_session}

-- ---- what is read of a line

-- what a cut of a line stands for, the line stands for
pub stands_cut : (o : LabelOptions) (l cut : List ℕ) (label : LineLabel) (plain : List ℕ) (meaning : Line) → IsCutOf o cut l → StandsFor o cut label plain → Says plain meaning → SaysAs o (bare l) label meaning
stands_cut o l cut label plain meaning (inl same) h says = (plain, subst (λ (t : List ℕ). StandsFor o t label plain) same h, says)
stands_cut o l cut label plain meaning (inr long) (inl h) says = (plain, inl (long.1, h.1, h.2), says)
stands_cut o l cut label plain meaning (inr long) (inr h) says = absurd (omega (arith, long.0, h.0))

-- what is read of a cut of a line holds for the line
pub reads_cut : (o : LabelOptions) (names : SessionNames) (l cut : List ℕ) (parts : LineParts) (meaning : Line) → IsCutOf o cut l
    → ReadsAs o names cut parts meaning → SaysAs o (bare l) (label_of parts) meaning
reads_cut o names l cut parts meaning is r = stands_cut o l cut (label_of parts) r.plain meaning is r.stands r.says

-- the kept part of a line that has ended
cut_ended : (o : LabelOptions) (full kept cut : List ℕ) → kept ≡ take (line_limit o + 2) full → cut ≡ bare (kept ++ 10 ∷ []) → IsCutOf o cut (full ++ 10 ∷ [])
cut_ended o full kept cut is cut_is = elim (all_or_most (line_limit o + 2) full) [
  | inl same ↦ inl (cut_is ∙ ap (λ (t : List ℕ). bare (t ++ 10 ∷ [])) (is ∙ same))
  | inr long ↦ inr (omega (arith, ap length cut_is, length-bare kept, ap length is, long.0), omega (arith, length-bare full, long.1))
]

-- ---- which lines are meant

-- the lines outside module texts that have ended
pub kept_outside : (o : LabelOptions) (text : Option PutText) (kept cut : List ℕ) (P : OfLines) → text ≡ None → cut ≡ bare (kept ++ 10 ∷ []) → of_cut o cut P → of_kept o text kept P
kept_outside o None kept cut P none cut_is h None full held is = h (full ++ 10 ∷ []) (cut_ended o full kept cut is cut_is)
kept_outside o None kept cut P none cut_is h (Some t) full held is = absurd held
kept_outside o (Some k) kept cut P none cut_is h before full held is = absurd (cc)

-- those in this module text
pub kept_in_text : (o : LabelOptions) (was : Option PutText) (text : PutText) (kept : List ℕ) (P : OfLines) → was ≡ Some text → of_text_line text kept P → of_kept o was kept P
kept_in_text o was text kept P is h before full held kept_is = in-text before (subst (λ (x : Option PutText). HoldsUnended x before) is held) kept_is
  where
    in-text : (before : Option LabelledText) → HoldsUnended (Some text) before → kept ≡ take (kept_len o before) full → P before (full ++ 10 ∷ [])
    in-text None held kept_is = absurd held
    in-text (Some t) held kept_is = h t full held kept_is

-- the lines that an object with this tag stands for have the meaning of the line that it is spelled as
pub object_means : (o : LabelOptions) (tag : Option (List ℕ)) (spelled : List ℕ) (label : LineLabel) (meaning : Line) (names : SessionNames) (P : OfLines) → label.tag ≡ tag
    → ReadsRest names o.names spelled label.session meaning → of_meaning o label meaning P → of_object o label.text tag spelled P
object_means o tag spelled label meaning names P t r h = λ l says cut. h l (says label r.plain meaning t r.numbered r.says) cut

-- ---- the entries that a line gives

pub gives_skipped : (o : LabelOptions) (n : ℕ) (l : List ℕ) (label : LineLabel) → SaysAs o (bare l) label line.Skipped → IsLabelAt o n l label → Gives o n None l None ((label, entry.Skipped) ∷ [])
gives_skipped o n l label says at = λ whole entries s. skips whole n entries l label s says at

pub gives_step : (o : LabelOptions) (n : ℕ) (l : List ℕ) (label : LineLabel) (f : Format) (s : Step) → SaysAs o (bare l) label (line.Step f s) → IsLabelAt o n l label → Gives o n None l None ((label, entry.Item (item.Step f s)) ∷ [])
gives_step o n l label f s says at = λ whole entries h. makes whole n entries l label f s h says at

pub gives_sweep : (o : LabelOptions) (n : ℕ) (l : List ℕ) (label : LineLabel) (f : Format) → SaysAs o (bare l) label (line.Sweep f) → IsLabelAt o n l label → Gives o n None l None ((label, entry.Item (item.Sweep f)) ∷ [])
gives_sweep o n l label f says at = λ whole entries s. sweeps whole n entries l label f s says at

pub gives_bad : (o : LabelOptions) (n : ℕ) (l : List ℕ) (label : LineLabel) → SaysAs o (bare l) label line.Bad → IsLabelAt o n l label → Gives o n None l None ((label, entry.Item (item.BadLine n)) ∷ [])
gives_bad o n l label says at = λ whole entries s. is_bad whole n entries l label s says at

nothing-more : (o : LabelOptions) (ls : List (List ℕ)) (n : ℕ) (t : Option LabelledText) (entries : List LabelledEntry) → SpellsLabelledEntries o ls n t entries → SpellsLabelledEntries o ls n t (entries ++ [])
nothing-more o ls n t entries s = subst (λ (es : List LabelledEntry). SpellsLabelledEntries o ls n t es) (sym (append-nil entries)) s

pub gives_begin : (o : LabelOptions) (n : ℕ) (l : List ℕ) (label : LineLabel) (f : Format) → SaysAs o (bare l) label (line.Put f) → IsLabelAt o n l label → Gives o n None l (Some (record { text = empty_text f; label = label })) []
gives_begin o n l label f says at = λ whole entries s.
    nothing-more o (whole ++ l ∷ []) (n + 1) (Some (record { text = empty_text f; label = label })) entries (begins whole n entries l label f s says at)

pub gives_more : (o : LabelOptions) (n : ℕ) (l : List ℕ) (t : LabelledText) → bare l ≢ text_end → Gives o n (Some t) l (Some (record { text = with_line t.text l; label = t.label })) []
gives_more o n l t other = λ whole entries s.
    nothing-more o (whole ++ l ∷ []) (n + 1) (Some (record { text = with_line t.text l; label = t.label })) entries (goes_on whole n entries l t s other)

-- the entry of the put of a text
abbrev pub put_entry : Format → List ℕ → Entry
put_entry f bytes = entry.Item (item.Step f (Put bytes))

-- a label with these parts
pub same_label : (label : LineLabel) (n : ℕ) (text : List ℕ) (tag : Option (List ℕ)) (session : Option (List ℕ × ℕ)) → label.line ≡ n → label.text ≡ text → label.tag ≡ tag → label.session ≡ session
    → record { line = n; text = text; tag = tag; session = session } ≡ label
same_label label n text tag session at read t s =
    ap (λ (x : ℕ). record { line = x; text = text; tag = tag; session = session }) (sym at)
    ∙ ap (λ (x : List ℕ). record { line = label.line; text = x; tag = tag; session = session }) (sym read)
    ∙ ap (λ (x : Option (List ℕ)). record { line = label.line; text = label.text; tag = x; session = session }) (sym t)
    ∙ ap (λ (x : Option (List ℕ × ℕ)). record { line = label.line; text = label.text; tag = label.tag; session = x }) (sym s)

pub gives_put : (o : LabelOptions) (n : ℕ) (l : List ℕ) (text : PutText) (t : LabelledText) (label : LineLabel) → HoldsText text t → IsPutLabel text label → bare l ≡ text_end
    → Gives o n (Some t) l None ((label, put_entry text.format text.bytes.items) ∷ [])
gives_put o n l text t label h is ended = λ whole entries s.
    let labelled : t.label ≡ label = same_label label t.label.line t.label.text t.label.tag t.label.session (is.line ∙ h.line) (is.head ∙ h.head) (is.tag ∙ h.tag) (is.session ∙ sym h.session) in
    subst (λ (b : LineLabel). SpellsLabelledEntries o (whole ++ l ∷ []) (n + 1) None (entries ++ (b, put_entry text.format text.bytes.items) ∷ [])) labelled
    (subst (λ (f : Format). SpellsLabelledEntries o (whole ++ l ∷ []) (n + 1) None (entries ++ (t.label, put_entry f text.bytes.items) ∷ [])) (sym h.format)
    (subst (λ (b : List ℕ). SpellsLabelledEntries o (whole ++ l ∷ []) (n + 1) None (entries ++ (t.label, put_entry t.text.format b) ∷ [])) (sym h.bytes)
    (puts whole n entries l t s ended)))

pub gives_put_object : (o : LabelOptions) (n : ℕ) (l cut bytes : List ℕ) (text : PutText) (label : LineLabel) → IsPutLabel text label → text.line ≡ n → text.head.items ≡ cut → IsCutOf o cut l → text.bytes.items ≡ take 1048577 bytes
    → IsPutObject o (bare l) (nameless n cut (tag_in text)) text.format bytes → Gives o n None l None ((label, put_entry text.format text.bytes.items) ∷ [])
gives_put_object o n l cut bytes text label is at head read kept puts_it = λ whole entries s.
    let labelled : nameless n cut (tag_in text) ≡ label = same_label label n cut (tag_in text) None (is.line ∙ at) (is.head ∙ head) is.tag is.session in
    subst (λ (b : LineLabel). SpellsLabelledEntries o (whole ++ l ∷ []) (n + 1) None (entries ++ (b, put_entry text.format text.bytes.items) ∷ [])) labelled
    (subst (λ (b : List ℕ). SpellsLabelledEntries o (whole ++ l ∷ []) (n + 1) None (entries ++ (nameless n cut (tag_in text), put_entry text.format b) ∷ [])) (sym kept)
    (puts_object whole n entries l (nameless n cut (tag_in text)) text.format bytes s puts_it (refl, read)))

-- ---- what a line changes

-- a line with one entry, which the stage took
pub line_took : {S : Type 0} (Took : StageRelation S) (gathered : S → List ℕ) (o : LabelOptions) (n : ℕ) (old new : S) (text : Option PutText) (before : Option LabelledText) (l : List ℕ) (label : LineLabel) (e : Entry)
    → text ≡ None → Gives o n before l None ((label, e) ∷ []) → (t : TakesEntry Took gathered old new label e) → LineEnds Took o n old new text t.more before l
line_took Took gathered o n old new text before l label e none gives t = record {
  after = None;
  given = (label, e) ∷ [];
  text_is = subst (λ (x : Option PutText). HoldsUnended x None) (sym none) tt;
  gives = gives;
  took = t.took;
}

-- the stage failed at the entry of a line
pub line_failed : {S : Type 0} (Took : StageRelation S) (Part : OutputRelation S) (gathered : S → List ℕ) (o : LabelOptions) (n : ℕ) (old new : S) (before : Option LabelledText) (l : List ℕ) (label : LineLabel) (e : Entry)
    → Gives o n before l None ((label, e) ∷ []) → (f : FailsEntry Took Part gathered old new label e) → LineFails Took Part o n old f.more before l
line_failed {S} Took Part gathered o n old new before l label e gives f = λ first whole entries out s t. elim (f.part first entries out t) [
  | inl p ↦ record { read = whole; later = l ∷ []; is = refl; number = n; unended = before; entries = entries; spells = s; part = p }
  | inr p ↦ record {
    read = whole ++ l ∷ [];
    later = [];
    is = sym (append-nil (whole ++ l ∷ []));
    number = n + 1;
    unended = None;
    entries = entries ++ (label, e) ∷ [];
    spells = gives whole entries s;
    part = p;
  }
]

-- what holds of a stage holds without more output
pub took_nothing : {S : Type 0} (Took : StageRelation S) (first now : S) (entries : List LabelledEntry) (out : List ℕ) → Took first now entries out → Took first now (entries ++ []) (out ++ [])
took_nothing Took first now entries out t =
    subst (λ (es : List LabelledEntry). Took first now es (out ++ [])) (sym (append-nil entries)) (subst (λ (o : List ℕ). Took first now entries o) (sym (append-nil out)) t)

-- a line without an entry
pub line_silent : {S : Type 0} (Took : StageRelation S) (o : LabelOptions) (n : ℕ) (now : S) (text : Option PutText) (before after : Option LabelledText) (l : List ℕ) → HoldsUnended text after → Gives o n before l after []
    → LineEnds Took o n now now text [] before l
line_silent Took o n now text before after l held gives = record {
  after = after;
  given = [];
  text_is = held;
  gives = gives;
  took = λ first entries out t. took_nothing Took first now entries out t;
}

-- a line that was not read whole
pub line_unread : {S : Type 0} (Took : StageRelation S) (Part : OutputRelation S) → ((first now : S) (entries : List LabelledEntry) (out : List ℕ) → Took first now entries out → Part first entries out)
    → (o : LabelOptions) (n : ℕ) (now : S) (before : Option LabelledText) (l : List ℕ) → LineFails Took Part o n now [] before l
line_unread Took Part law o n now before l = λ first whole entries out s t. record {
  read = whole;
  later = l ∷ [];
  is = refl;
  number = n;
  unended = before;
  entries = entries;
  spells = s;
  part = subst (λ (x : List ℕ). Part first entries x) (sym (append-nil out)) (law first now entries out t);
}

-- ---- for the proofs of functions

-- a choice of lines holds of a property that all lines have for which it stands
abbrev pub Chooses : (OfLines → Type 0) → OfLines → Type 1
Chooses Of Meant = (P : OfLines) → ((before : Option LabelledText) (l : List ℕ) → Meant before l → P before l) → Of P

-- each of the lines gives one entry
abbrev pub AllGive : LabelOptions → ℕ → LineLabel → Entry → (OfLines → Type 0) → Type 1
AllGive o n label e Of = Chooses Of (λ before l. Gives o n before l None ((label, e) ∷ []))

-- the stage took the entry of these lines
pub ends_one : {S : Type 0} (Took : StageRelation S) (gathered : S → List ℕ) (old new : LabelledRun S) (Of : OfLines → Type 0) (label : LineLabel) (e : Entry) → new.text ≡ None → IsSameRun old new
    → AllGive old.options (old.count.lines + 1) label e Of → TakesEntry Took gathered old.stage new.stage label e → EndsLine Took gathered old new Of
ends_one Took gathered old new Of label e none same give t = (
  t.more,
  t.grows,
  same,
  give (LineEnds Took old.options (old.count.lines + 1) old.stage new.stage new.text t.more)
      (λ before l gives. line_took Took gathered old.options (old.count.lines + 1) old.stage new.stage new.text before l label e none gives t),
)

-- the stage failed at the entry of these lines
pub fails_one : {S : Type 0} (Took : StageRelation S) (Part : OutputRelation S) (gathered : S → List ℕ) (old new : LabelledRun S) (Of : OfLines → Type 0) (label : LineLabel) (e : Entry)
    → AllGive old.options (old.count.lines + 1) label e Of → FailsEntry Took Part gathered old.stage new.stage label e → FailsLine Took Part gathered old new Of
fails_one Took Part gathered old new Of label e give f = (
  f.more,
  f.grows,
  give (LineFails Took Part old.options (old.count.lines + 1) old.stage f.more)
      (λ before l gives. line_failed Took Part gathered old.options (old.count.lines + 1) old.stage new.stage before l label e gives f),
)

-- these lines were not read whole, and the stage is the same
pub fails_unread : {S : Type 0} (Took : StageRelation S) (Part : OutputRelation S) (gathered : S → List ℕ) → ((first now : S) (entries : List LabelledEntry) (out : List ℕ) → Took first now entries out → Part first entries out)
    → (old new : LabelledRun S) (Of : OfLines → Type 0) → new.stage ≡ old.stage → Chooses Of (λ before l. Unit {0}) → FailsLine Took Part gathered old new Of
fails_unread {S} Took Part gathered law old new Of same choose = (
  [],
  ap gathered same ∙ sym (append-nil (gathered old.stage)),
  choose (LineFails Took Part old.options (old.count.lines + 1) old.stage []) (λ before l any. line_unread Took Part law old.options (old.count.lines + 1) old.stage before l),
)

-- one more line of a module text
pub line_goes_on : {S : Type 0} (Took : StageRelation S) (o : LabelOptions) (n : ℕ) (now : S) (full kept : List ℕ) (text text2 : PutText) (t : LabelledText) → HoldsText text t → HoldsMore text text2 kept
    → kept ≡ take 1048577 full → bare (full ++ 10 ∷ []) ≢ text_end → LineEnds Took o n now now (Some text2) [] (Some t) (full ++ 10 ∷ [])
line_goes_on Took o n now full kept text text2 t h more kept_is other =
    let after : LabelledText = record { text = with_line t.text (full ++ 10 ∷ []); label = t.label } in
    let short : length text.bytes.items ≤ 1048577 = omega (arith, ap length h.bytes, length-take 1048577 t.text.bytes) in
    let bytes : text2.bytes.items ≡ take 1048577 (t.text.bytes ++ (full ++ 10 ∷ [])) =
    more.bytes short
    ∙ ap (λ (x : List ℕ). take 1048577 (take 1048577 (x ++ kept) ++ 10 ∷ [])) h.bytes
    ∙ ap (λ (x : List ℕ). take 1048577 (take 1048577 (take 1048577 t.text.bytes ++ x) ++ 10 ∷ [])) kept_is
    ∙ take_kept 1048577 (take 1048577 t.text.bytes ++ take 1048577 full) (10 ∷ [])
    ∙ ap (take 1048577) (append_assoc (take 1048577 t.text.bytes) (take 1048577 full) (10 ∷ []))
    ∙ take_kept_line 1048577 t.text.bytes full (10 ∷ []) in
    line_silent Took o n now (Some text2) (Some t) (Some after) (full ++ 10 ∷ [])
    (record { bytes = bytes; format = more.format ∙ h.format; tag = more.tag ∙ h.tag; session = h.session; line = more.line ∙ h.line; head = ap (λ (v : Vec ℕ Global). v.items) more.head ∙ h.head }) (gives_more o n (full ++ 10 ∷ []) t other)

-- the first line of a put
pub line_begins : {S : Type 0} (Took : StageRelation S) (o : LabelOptions) (n : ℕ) (now : S) (l : List ℕ) (label : LineLabel) (f : Format) (t : PutText)
    → t.bytes.items ≡ [] → t.format ≡ f → tag_in t ≡ label.tag → t.line ≡ label.line → t.head.items ≡ label.text → SaysAs o (bare l) label (line.Put f) → IsLabelAt o n l label → LineEnds Took o n now now (Some t) [] None l
line_begins Took o n now l label f t none f_is tag number head says at =
    line_silent Took o n now (Some t) None (Some (record { text = empty_text f; label = label })) l
    (record { bytes = none ∙ sym (take_of_none 1048577); format = f_is; tag = tag; session = put_no_session o (bare l) label says.0 f says.1 says.2; line = number; head = head }) (gives_begin o n l label f says at)

-- what was ended or failed for some lines, for those that they stand for
pub ends_of : {S : Type 0} (Took : StageRelation S) (gathered : S → List ℕ) (old new : LabelledRun S) (A B : OfLines → Type 0) → ((P : OfLines) → A P → B P) → EndsLine Took gathered old new A → EndsLine Took gathered old new B
ends_of Took gathered old new A B f e = (e.0, e.1, e.2, f (LineEnds Took old.options (old.count.lines + 1) old.stage new.stage new.text e.0) e.3)

pub fails_of : {S : Type 0} (Took : StageRelation S) (Part : OutputRelation S) (gathered : S → List ℕ) (old new : LabelledRun S) (A B : OfLines → Type 0) → ((P : OfLines) → A P → B P) → FailsLine Took Part gathered old new A
    → FailsLine Took Part gathered old new B
fails_of Took Part gathered old new A B f e = (e.0, e.1, f (LineFails Took Part old.options (old.count.lines + 1) old.stage e.0) e.2)

pub is_none_only : (o : Option PutText) (b : Bool) → is_some o ≡ not b → b ≡ true → o ≡ None
is_none_only None b h e = refl
is_none_only (Some t) b h e =
    let wrong : true ≡ false = h ∙ ap not e in
    absurd (cc)
