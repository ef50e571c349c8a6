-- What the end of a script changes.
use Rattle.std.proofs.Common.{◌≡◌, ◌≢◌, ◌∙◌, ◌⊎◌, ◌+◌, ◌<◌, inl, inr, ℕ, List, [], ◌∷◌, ◌++◌, Option, Some, None, take, length, Vec, Global, vec_len, eqb, false, refl, sym, ap, subst, arith}
use Rattle.std.proofs.lemmas.Bool.{eqb-false}
use Rattle.std.proofs.lemmas.List.{append-nil, length-take}
use Rattle.scrib_script_reader.specs.declared.entry.Entry.TheVariants as entry
use Rattle.scrib_script_reader.specs.declared.item.Item.TheVariants as item
use Rattle.scrib_script_reader.specs.Scripts.{NoLf, lines, text_end, with_line}
use Rattle.scrib_script_reader.proofs.Bytes.{all_or_most, bare_last, last_is_kept, last_of_kept}
use Rattle.scrib_script_reader.proofs.LimitLemmas.{one_last}
use Rattle.scrib_labelled.specs.declared.label_options.LabelOptions.{LabelOptions}
use Rattle.scrib_labelled.specs.declared.labelled_run.LabelledRun.{LabelledRun}
use Rattle.scrib_labelled.specs.declared.put_text.PutText.{PutText}
use Rattle.scrib_labelled.specs.LabelledEntries.{LabelledEntry, SpellsLabelledEntries, all_entries}
use Rattle.scrib_labelled.specs.LabelledLines.{IsCutOf, LineLabel, line_limit}
use Rattle.scrib_labelled.specs.LabelledScripts.{LabelledText}
use Rattle.scrib_labelled.specs.LineEnds.{EndsLast, EndsText, FailsLast, FailsText, HasLabel, IsPutLabel, LastLineEnds, LastLineFails, LineEnds, LineFails, OfLines, PutFails, PutsText, of_cut, of_last, of_last_text_line}
use Rattle.scrib_labelled.specs.Readings.{HoldsUnended, IsPartOfLines, kept_len}
use Rattle.scrib_labelled.specs.Stages.{FailsEntry, OutputRelation, StageRelation, TakesEntry}
use Rattle.scrib_labelled.proofs.LineEndLemmas.{gives_more, gives_put, line_failed, line_took, put_entry, same_label, took_nothing}
use Rattle.scrib_labelled.proofs.RunLemmas.{none_taken}

label-held : (kept : Option PutText) (t : Option LabelledText) → HoldsUnended kept t → HasLabel kept t
label-held None None h = tt
label-held None (Some t) h = absurd h
label-held (Some k) None h = absurd h
label-held (Some k) (Some t) h = (h.tag, h.session, h.line, h.head)

-- ---- the last line

-- there is none
pub last_none : {S : Type 0} (Took : StageRelation S) (gathered : S → List ℕ) (old new : LabelledRun S) → old.line.items ≡ [] → new.stage ≡ old.stage → new.text ≡ old.text
    → EndsLast Took gathered old new (of_last old.options old.text old.line.items)
last_none {S} Took gathered old new none stage text = (
  [],
  ap gathered stage ∙ sym (append-nil (gathered old.stage)),
  λ before part held no_lf is.
      let no_part : part ≡ [] = none_taken old.options before part (sym is ∙ none) in
      record {
        after = before;
        given = [];
        label = subst (λ (t : Option PutText). HasLabel t before) (sym text) (label-held old.text before held);
        gives = λ whole entries s. (
          old.count.lines + 1,
          subst (λ (ls : List (List ℕ)). SpellsLabelledEntries old.options ls (old.count.lines + 1) before (entries ++ [])) (sym (append-nil whole) ∙ ap (λ (t : List ℕ). whole ++ lines t) (sym no_part))
              (subst (λ (es : List LabelledEntry). SpellsLabelledEntries old.options whole (old.count.lines + 1) before es) (sym (append-nil entries)) s),
        );
        took = λ first entries out t. took_nothing Took first new.stage entries out (subst (λ (s : S). Took first s entries out) (sym stage) t);
      },
)

-- what a line changes, for the last
last-as : {S : Type 0} (Took : StageRelation S) (o : LabelOptions) (n : ℕ) (old new : S) (text : Option PutText) (more : List ℕ) (before : Option LabelledText) (part : List ℕ) → NoLf part → 0 < length part
    → LineEnds Took o n old new text more before part → LastLineEnds Took o n old new text more before part
last-as Took o n old new text more before part no_lf some l = record {
  after = l.after;
  given = l.given;
  label = label-held text l.after l.text_is;
  gives = λ whole entries s. (
    n + 1,
    subst (λ (ls : List (List ℕ)). SpellsLabelledEntries o (whole ++ ls) (n + 1) l.after (entries ++ l.given)) (sym (one_last part some no_lf)) (l.gives whole entries s),
  );
  took = l.took;
}

-- a failure at a line, for the last
last-fails-as : {S : Type 0} (Took : StageRelation S) (Part : OutputRelation S) (o : LabelOptions) (n : ℕ) (old : S) (more : List ℕ) (before : Option LabelledText) (part : List ℕ) → NoLf part → 0 < length part
    → LineFails Took Part o n old more before part → LastLineFails Took Part o n old more before part
last-fails-as Took Part o n old more before part no_lf some f = λ first whole entries out s t.
    subst (λ (ls : List (List ℕ)). IsPartOfLines Part o first (whole ++ ls) (out ++ more)) (sym (one_last part some no_lf)) (f first whole entries out s t)

some_part : (o : LabelOptions) (before : Option LabelledText) (part kept : List ℕ) → kept ≡ take (kept_len o before) part → 0 < length kept → 0 < length part
some_part o None part kept is some = omega (arith, some, ap length is, length-take (line_limit o + 2) part)
some_part o (Some t) part kept is some = omega (arith, some, ap length is, length-take 1048577 part)

-- the kept part of the last line
cut_last : (o : LabelOptions) (part kept : List ℕ) → NoLf part → kept ≡ take (line_limit o + 2) part → IsCutOf o kept part
cut_last o part kept no_lf is = elim (all_or_most (line_limit o + 2) part) [
  | inl same ↦ inl (is ∙ same ∙ sym (bare_last part no_lf))
  | inr long ↦ inr (omega (arith, ap length is, long.0), omega (arith, ap length (bare_last part no_lf), long.1))
]

-- the last line is one of the module text that is read
pub last_in_text : (o : LabelOptions) (was : Option PutText) (text : PutText) (line kept : List ℕ) (P : OfLines) → kept ≡ line → 0 < length kept → was ≡ Some text → of_last_text_line text kept P → of_last o was line P
last_in_text o was text line kept P kept_is some is h before part held no_lf line_is = in-text before (subst (λ (x : Option PutText). HoldsUnended x before) is held) (kept_is ∙ line_is)
  where
    in-text : (before : Option LabelledText) → HoldsUnended (Some text) before → kept ≡ take (kept_len o before) part → P before part
    in-text None held is = absurd held
    in-text (Some t) held is = h t part held no_lf (some_part o (Some t) part kept is some) is

-- it is one outside module texts
last-outside : (o : LabelOptions) (was : Option PutText) (line kept : List ℕ) (P Q : OfLines) → kept ≡ line → 0 < length kept → was ≡ None
    → ((part : List ℕ) → NoLf part → 0 < length part → P None part → Q None part) → of_cut o kept P → of_last o was line Q
last-outside o was line kept P Q kept_is some is turn h before part held no_lf line_is = outside before (subst (λ (x : Option PutText). HoldsUnended x before) is held) (kept_is ∙ line_is)
  where
    outside : (before : Option LabelledText) → HoldsUnended None before → kept ≡ take (kept_len o before) part → Q before part
    outside None held is = turn part no_lf (some_part o None part kept is some) (h part (cut_last o part kept no_lf is))
    outside (Some t) held is = absurd held

pub last_ends : {S : Type 0} (Took : StageRelation S) (o : LabelOptions) (n : ℕ) (old new : S) (was text : Option PutText) (more line kept : List ℕ) → kept ≡ line → 0 < length kept → was ≡ None
    → of_cut o kept (LineEnds Took o n old new text more) → of_last o was line (LastLineEnds Took o n old new text more)
last_ends Took o n old new was text more line kept kept_is some is h =
    last-outside o was line kept (LineEnds Took o n old new text more) (LastLineEnds Took o n old new text more) kept_is some is (λ part no_lf full l. last-as Took o n old new text more None part no_lf full l) h

pub last_fails : {S : Type 0} (Took : StageRelation S) (Part : OutputRelation S) (o : LabelOptions) (n : ℕ) (old : S) (was : Option PutText) (more line kept : List ℕ) → kept ≡ line → 0 < length kept → was ≡ None
    → of_cut o kept (LineFails Took Part o n old more) → of_last o was line (LastLineFails Took Part o n old more)
last_fails Took Part o n old was more line kept kept_is some is h =
    last-outside o was line kept (LineFails Took Part o n old more) (LastLineFails Took Part o n old more) kept_is some is (λ part no_lf full l. last-fails-as Took Part o n old more None part no_lf full l) h

-- the last line ends its text
pub last_puts : {S : Type 0} (Took : StageRelation S) (gathered : S → List ℕ) (old new : LabelledRun S) (text : PutText) (kept : List ℕ) → old.text ≡ None → kept ≡ text_end → PutsText Took gathered old new text
    → EndsLast Took gathered old new (of_last_text_line text kept)
last_puts Took gathered old new text kept none is_end p = (
  p.takes.more,
  p.takes.grows,
  λ t part held no_lf some is.
      last-as Took old.options (old.count.lines + 1) old.stage new.stage new.text p.takes.more (Some t) part no_lf some
      (line_took Took gathered old.options (old.count.lines + 1) old.stage new.stage new.text (Some t) part p.label (put_entry text.format text.bytes.items) (p.rest ∙ none)
      (gives_put old.options (old.count.lines + 1) part text t p.label held p.labelled (bare_last part no_lf ∙ last_of_kept 1048577 part (omega arith) (sym is ∙ is_end))) p.takes),
)

pub last_put_fails : {S : Type 0} (Took : StageRelation S) (Part : OutputRelation S) (gathered : S → List ℕ) (old new : LabelledRun S) (text : PutText) (kept : List ℕ) → kept ≡ text_end → PutFails Took Part gathered old new text
    → FailsLast Took Part gathered old new (of_last_text_line text kept)
last_put_fails Took Part gathered old new text kept is_end p = (
  p.fails.more,
  p.fails.grows,
  λ t part held no_lf some is.
      last-fails-as Took Part old.options (old.count.lines + 1) old.stage p.fails.more (Some t) part no_lf some
      (line_failed Took Part gathered old.options (old.count.lines + 1) old.stage new.stage (Some t) part p.label (put_entry text.format text.bytes.items)
      (gives_put old.options (old.count.lines + 1) part text t p.label held p.labelled (bare_last part no_lf ∙ last_of_kept 1048577 part (omega arith) (sym is ∙ is_end))) p.fails),
)

-- it is one more line of its text
pub last_goes_on : {S : Type 0} (Took : StageRelation S) (gathered : S → List ℕ) (old new : LabelledRun S) (text : PutText) (kept : List ℕ) → new.stage ≡ old.stage → new.text ≡ Some text → kept ≢ text_end
    → EndsLast Took gathered old new (of_last_text_line text kept)
last_goes_on {S} Took gathered old new text kept stage is other = (
  [],
  ap gathered stage ∙ sym (append-nil (gathered old.stage)),
  λ t part held no_lf some kept_is.
      let after : LabelledText = record { text = with_line t.text part; label = t.label } in
      record {
        after = Some after;
        given = [];
        label = subst (λ (x : Option PutText). HasLabel x (Some after)) (sym is) (held.tag, held.session, held.line, held.head);
        gives = λ whole entries s. (
          old.count.lines + 1 + 1,
          subst (λ (ls : List (List ℕ)). SpellsLabelledEntries old.options (whole ++ ls) (old.count.lines + 1 + 1) (Some after) (entries ++ [])) (sym (one_last part some no_lf))
              (gives_more old.options (old.count.lines + 1) part t (λ ended. other (kept_is ∙ last_is_kept 1048577 part (omega arith) (sym (bare_last part no_lf) ∙ ended))) whole entries s),
        );
        took = λ first entries out t. took_nothing Took first new.stage entries out (subst (λ (s : S). Took first s entries out) (sym stage) t);
      },
)

-- ---- the end of the script

no-label : (after : Option LabelledText) → HasLabel None after → after ≡ None
no-label None h = refl
no-label (Some t) h = absurd h

pub text_none : {S : Type 0} (Took : StageRelation S) (gathered : S → List ℕ) (old new : LabelledRun S) → old.text ≡ None → new.stage ≡ old.stage → EndsText Took gathered old new
text_none {S} Took gathered old new none stage = record {
  more = [];
  grows = ap gathered stage ∙ sym (append-nil (gathered old.stage));
  took = λ after first entries out held t.
      let no_text : after ≡ None = no-label after (subst (λ (x : Option PutText). HasLabel x after) none held) in
      subst (λ (x : Option LabelledText). Took first new.stage (all_entries x entries) (out ++ [])) (sym no_text)
      (subst (λ (o : List ℕ). Took first new.stage entries o) (sym (append-nil out)) (subst (λ (s : S). Took first s entries out) (sym stage) t));
}

-- the entries with the end of a text
with-end : (text : PutText) (label : LineLabel) (after : Option LabelledText) (entries : List LabelledEntry) → IsPutLabel text label → HasLabel (Some text) after → entries ++ (label, entry.Item item.EndOfText) ∷ [] ≡ all_entries after entries
with-end text label None entries is held = absurd held
with-end text label (Some t) entries is held =
    sym (ap (λ (x : LineLabel). entries ++ (x, entry.Item item.EndOfText) ∷ []) (same_label label t.label.line t.label.text t.label.tag t.label.session (is.line ∙ held.2) (is.head ∙ held.3) (is.tag ∙ held.0) (is.session ∙ sym held.1)))

pub text_ended : {S : Type 0} (Took : StageRelation S) (gathered : S → List ℕ) (old new : LabelledRun S) (text : PutText) (label : LineLabel) → old.text ≡ Some text → IsPutLabel text label
    → TakesEntry Took gathered old.stage new.stage label (entry.Item item.EndOfText) → EndsText Took gathered old new
text_ended Took gathered old new text label was is t = record {
  more = t.more;
  grows = t.grows;
  took = λ after first entries out held took.
      subst (λ (es : List LabelledEntry). Took first new.stage es (out ++ t.more)) (with-end text label after entries is (subst (λ (x : Option PutText). HasLabel x after) was held)) (t.took first entries out took);
}

pub text_fails : {S : Type 0} (Took : StageRelation S) (Part : OutputRelation S) (gathered : S → List ℕ) (old new : LabelledRun S) (text : PutText) (label : LineLabel) → old.text ≡ Some text → IsPutLabel text label
    → FailsEntry Took Part gathered old.stage new.stage label (entry.Item item.EndOfText) → FailsText Took Part gathered old new
text_fails Took Part gathered old new text label was is f = record {
  more = f.more;
  grows = f.grows;
  part = λ after first entries out held took.
      subst (λ (es : List LabelledEntry). Part first entries (out ++ f.more) ⊎ Part first es (out ++ f.more)) (with-end text label after entries is (subst (λ (x : Option PutText). HasLabel x after) was held)) (f.part first entries out took);
}

-- a line that is not empty
pub some_items : (line : Vec ℕ Global) (kept : List ℕ) → kept ≡ line.items → eqb (vec_len line) 0 ≡ false → 0 < length kept
some_items line [] is some = absurd (eqb-false (vec_len line) 0 some (line.ok.0 ∙ ap length (sym is)))
some_items line (x ∷ kept) is some = omega arith
