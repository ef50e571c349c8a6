-- A script that is written line by line.
use Rattle.std.proofs.Common.{◌≡◌, ◌≢◌, ◌∙◌, ℕ, ◌+◌, Bool, true, false, List, [], ◌∷◌, ◌++◌, map, take, codes, Option, Some, None, refl, sym, ap, subst, inl, inr}
use Rattle.std.specs.List.{AllByRecursion}
use Rattle.std.proofs.lemmas.List.{append-nil, append_assoc, map-append}
use Rattle.scrib_core.specs.declared.format.Format.{Format}
use Rattle.scrib_core.specs.declared.step.Step.{Step}
use Rattle.scrib_core.specs.declared.step.Step.TheVariants.{Put}
use Rattle.scrib_script_reader.specs.declared.entry.Entry.TheVariants as entry
use Rattle.scrib_script_reader.specs.declared.item.Item.{Item}
use Rattle.scrib_script_reader.specs.declared.item.Item.TheVariants as item
use Rattle.scrib_script_reader.specs.declared.line.Line.{Line}
use Rattle.scrib_script_reader.specs.declared.line.Line.TheVariants as line
use Rattle.scrib_script_reader.specs.Scripts.{NoLf, Text, bare, empty_text, lines, with_line}
use Rattle.scrib_hold.specs.NumberedItems.{Numbered}
use Rattle.scrib_labelled.specs.declared.label_options.LabelOptions.{LabelOptions}
use Rattle.scrib_labelled.specs.LabelledEntries.{LabelledEntry}
use Rattle.scrib_labelled.specs.LabelledLines.{IsLabelAt, IsLineOf, IsObjectOf, IsPutObject, LineLabel, StandsFor}
use Rattle.scrib_labelled.specs.LabelledScripts.{LabelledText, SaysAs, SpellsLabelled, begins, goes_on, is_bad, makes, puts, puts_object, sweeps}
use Rattle.scrib_labelled.specs.LabelledScripts as scripts
use Rattle.scrib_labelled.specs.Splits.{IsEnded}
use Rattle.scrib_objects.specs.Objects.{Spelled}
use Rattle.scrib_hold_lines.specs.Lines.{AreTextLines, IsPutText, no_line, one_more}
use Rattle.scrib_hold_lines.proofs.PutTexts.{put_and_tail}
use Rattle.scrib_script_reader.proofs.Bytes.{lines_lf}
use Rattle.scrib_hold_labelled.specs.HeldLabelledScripts.{AreSameButForNumbers, SpellsButForNumbers, without_number}
use Rattle.scrib_hold_labelled.specs.Stages.{IsWritten}
use Rattle.scrib_hold_labelled.specs.WrittenLines.{ended, entry_at, entry_lines, item_in, items_at, lines_at, put_lines, step_lines, tail_of}
use Rattle.scrib_hold_labelled.proofs.SaysLemmas.{PutSays, StepSays, TextSays}
use Rattle.scrib_hold_labelled.proofs.TextLemmas.{bare_ended, first_line, is_ended, tail_is, text_split}

-- the output is lines with their ends, which spell these items
pub record IsSpelled (o : LabelOptions) (out : List ℕ) (items : List (LineLabel × Item)) : Type 0 where
  pub whole : List (List ℕ)
  pub n : ℕ
  pub spelled : List (LineLabel × Item)
  pub split : (more : List ℕ) → lines (out ++ more) ≡ whole ++ lines more
  pub spells : SpellsLabelled o whole n None spelled
  pub same : AreSameButForNumbers items spelled

pub spelled_none : (o : LabelOptions) → IsSpelled o [] []
spelled_none o = record { whole = []; n = 1; spelled = []; split = λ more. refl; spells = scripts.no_line; same = refl }

-- ---- a line elsewhere

-- the label with another number
abbrev pub at_line : LineLabel → ℕ → LineLabel
at_line label n = record label { line = n }

object-elsewhere : (names : Bool) (found : Option Spelled) (label : LineLabel) (n : ℕ) (plain : List ℕ) → IsObjectOf names found label plain → IsObjectOf names found (at_line label n) plain
object-elsewhere names None label n plain h = h
object-elsewhere names (Some s) label n plain h = h

line-elsewhere : (b : Bool) (o : LabelOptions) (whole : List ℕ) (label : LineLabel) (n : ℕ) (plain : List ℕ) → IsLineOf b o whole label plain → IsLineOf b o whole (at_line label n) plain
line-elsewhere false o whole label n plain h = h
line-elsewhere true o whole label n plain h = (h.0, h.1, object-elsewhere o.names h.0 label n plain h.2)

stands-elsewhere : (o : LabelOptions) (whole : List ℕ) (label : LineLabel) (n : ℕ) (plain : List ℕ) → StandsFor o whole label plain → StandsFor o whole (at_line label n) plain
stands-elsewhere o whole label n plain (inl h) = inl h
stands-elsewhere o whole label n plain (inr h) = inr (h.0, line-elsewhere o.objects o whole label n plain h.1)

-- what is read of a line says the same where that is written
says-elsewhere : (o : LabelOptions) (label : LineLabel) (n : ℕ) (meaning : Line) → SaysAs o label.text label meaning → SaysAs o (bare (ended label.text)) (at_line label n) meaning
says-elsewhere o label n meaning h =
    subst (λ (t : List ℕ). SaysAs o t (at_line label n) meaning) (sym (bare_ended label.text)) (h.0, stands-elsewhere o label.text label n h.0 h.1, h.2)

at-its-line : (o : LabelOptions) (label : LineLabel) (n : ℕ) → IsLabelAt o n (ended label.text) (at_line label n)
at-its-line o label n = (refl, inl (sym (bare_ended label.text)))

-- ---- one item more

same-more : (xs ys : List (LineLabel × Item)) (x y : LineLabel × Item) → AreSameButForNumbers xs ys → without_number x ≡ without_number y → AreSameButForNumbers (xs ++ x ∷ []) (ys ++ y ∷ [])
same-more xs ys x y h e =
    map-append without_number xs (x ∷ [])
    ∙ ap (λ (t : List (LineLabel × Item)). t ++ without_number x ∷ []) h
    ∙ ap (λ (z : LineLabel × Item). map without_number ys ++ z ∷ []) e
    ∙ sym (map-append without_number ys (y ∷ []))

-- one line more
split-more : (out l : List ℕ) (whole : List (List ℕ)) → IsEnded l → ((more : List ℕ) → lines (out ++ more) ≡ whole ++ lines more) → (more : List ℕ) → lines ((out ++ l) ++ more) ≡ (whole ++ l ∷ []) ++ lines more
split-more out l whole is split more =
    ap lines (append_assoc out l more) ∙ split (l ++ more) ∙ ap (λ (ls : List (List ℕ)). whole ++ ls) (first_line l more is) ∙ sym (append_assoc whole (l ∷ []) (lines more))

spelled-step : (o : LabelOptions) (out : List ℕ) (items : List (LineLabel × Item)) (label : LineLabel) (f : Format) (s : Step) → SaysAs o label.text label (line.Step f s) → NoLf label.text → IsSpelled o out items
    → IsSpelled o (out ++ ended label.text) (items ++ (label, item.Step f s) ∷ [])
spelled-step o out items label f s says no_lf h = record {
  whole = h.whole ++ ended label.text ∷ [];
  n = h.n + 1;
  spelled = h.spelled ++ (at_line label h.n, item.Step f s) ∷ [];
  split = split-more out (ended label.text) h.whole (is_ended label.text no_lf) h.split;
  spells = makes h.whole h.n h.spelled (ended label.text) (at_line label h.n) f s h.spells (says-elsewhere o label h.n (line.Step f s) says) (at-its-line o label h.n);
  same = same-more items h.spelled (label, item.Step f s) (at_line label h.n, item.Step f s) h.same refl;
}

spelled-sweep : (o : LabelOptions) (out : List ℕ) (items : List (LineLabel × Item)) (label : LineLabel) (f : Format) → SaysAs o label.text label (line.Sweep f) → NoLf label.text → IsSpelled o out items
    → IsSpelled o (out ++ ended label.text) (items ++ (label, item.Sweep f) ∷ [])
spelled-sweep o out items label f says no_lf h = record {
  whole = h.whole ++ ended label.text ∷ [];
  n = h.n + 1;
  spelled = h.spelled ++ (at_line label h.n, item.Sweep f) ∷ [];
  split = split-more out (ended label.text) h.whole (is_ended label.text no_lf) h.split;
  spells = sweeps h.whole h.n h.spelled (ended label.text) (at_line label h.n) f h.spells (says-elsewhere o label h.n (line.Sweep f) says) (at-its-line o label h.n);
  same = same-more items h.spelled (label, item.Sweep f) (at_line label h.n, item.Sweep f) h.same refl;
}

spelled-bad : (o : LabelOptions) (out : List ℕ) (items : List (LineLabel × Item)) (label : LineLabel) (k : ℕ) → SaysAs o label.text label line.Bad → NoLf label.text → IsSpelled o out items
    → IsSpelled o (out ++ ended label.text) (items ++ (label, item.BadLine k) ∷ [])
spelled-bad o out items label k says no_lf h = record {
  whole = h.whole ++ ended label.text ∷ [];
  n = h.n + 1;
  spelled = h.spelled ++ (at_line label h.n, item.BadLine h.n) ∷ [];
  split = split-more out (ended label.text) h.whole (is_ended label.text no_lf) h.split;
  spells = is_bad h.whole h.n h.spelled (ended label.text) (at_line label h.n) h.spells (says-elsewhere o label h.n line.Bad says) (at-its-line o label h.n);
  same = same-more items h.spelled (label, item.BadLine k) (at_line label h.n, item.BadLine h.n) h.same refl;
}

-- ---- a put

spelled-object : (o : LabelOptions) (out : List ℕ) (items : List (LineLabel × Item)) (label : LineLabel) (f : Format) (put text : List ℕ) → IsPutObject o label.text label f text → put ≡ take 1048577 text → NoLf label.text → IsSpelled o out items
    → IsSpelled o (out ++ ended label.text) (items ++ (label, item.Step f (Put put)) ∷ [])
spelled-object o out items label f put text says is no_lf h = record {
  whole = h.whole ++ ended label.text ∷ [];
  n = h.n + 1;
  spelled = h.spelled ++ (at_line label h.n, item.Step f (Put (take 1048577 text))) ∷ [];
  split = split-more out (ended label.text) h.whole (is_ended label.text no_lf) h.split;
  spells =
      puts_object h.whole h.n h.spelled (ended label.text) (at_line label h.n) f text h.spells
      (subst (λ (t : List ℕ). IsPutObject o t (at_line label h.n) f text) (sym (bare_ended label.text)) says) (at-its-line o label h.n);
  same = same-more items h.spelled (label, item.Step f (Put put)) (at_line label h.n, item.Step f (Put (take 1048577 text))) h.same (ap (λ (p : List ℕ). without_number (label, item.Step f (Put p))) is);
}

-- the text with these bytes
abbrev longer : LabelledText → List ℕ → LabelledText
longer t bytes = record { text = with_line t.text bytes; label = t.label }

longer-none : (t : LabelledText) → t ≡ longer t []
longer-none t = ap (λ (b : List ℕ). let u : LabelledText = record { text = record { bytes = b; format = t.text.format }; label = t.label } in u) (sym (append-nil t.text.bytes))

longer-twice : (t : LabelledText) (k m : List ℕ) → longer (longer t (k ++ 10 ∷ [])) m ≡ longer t (k ++ 10 ∷ m)
longer-twice t k m =
    ap (λ (b : List ℕ). let u : LabelledText = record { text = record { bytes = b; format = t.text.format }; label = t.label } in u)
    (append_assoc t.text.bytes (k ++ 10 ∷ []) m ∙ ap (λ (b : List ℕ). t.text.bytes ++ b) (append_assoc k (10 ∷ []) m))

-- lines of a module text
record GoesOn (o : LabelOptions) (ls : List (List ℕ)) (t : LabelledText) (items : List (LineLabel × Item)) : Type 0 where
  n : ℕ
  spells : SpellsLabelled o ls n (Some t) items

goes-lines : (o : LabelOptions) {text : List ℕ} → AreTextLines text → (ls : List (List ℕ)) (n : ℕ) (t : LabelledText) (items : List (LineLabel × Item)) → SpellsLabelled o ls n (Some t) items
    → GoesOn o (ls ++ lines text) (longer t text) items
goes-lines o no_line ls n t items h = record {
  n = n;
  spells = subst (λ (x : List (List ℕ)). SpellsLabelled o x n (Some (longer t [])) items) (sym (append-nil ls)) (subst (λ (u : LabelledText). SpellsLabelled o ls n (Some u) items) (longer-none t) h);
}
goes-lines o (one_more k m no_lf ne further) ls n t items h =
    let one = goes_on ls n items (k ++ 10 ∷ []) t h ne in
    let rest = goes-lines o further (ls ++ (k ++ 10 ∷ []) ∷ []) (n + 1) (longer t (k ++ 10 ∷ [])) items one in
    let is : (ls ++ (k ++ 10 ∷ []) ∷ []) ++ lines m ≡ ls ++ lines (k ++ 10 ∷ m) = append_assoc ls ((k ++ 10 ∷ []) ∷ []) (lines m) ∙ ap (λ (x : List (List ℕ)). ls ++ x) (sym (lines_lf k m no_lf)) in
    record {
      n = rest.n;
      spells = subst (λ (x : List (List ℕ)). SpellsLabelled o x rest.n (Some (longer t (k ++ 10 ∷ m))) items) is (subst (λ (u : LabelledText). SpellsLabelled o ((ls ++ (k ++ 10 ∷ []) ∷ []) ++ lines m) rest.n (Some u) items) (longer-twice t k m) rest.spells);
    }

end-line : List ℕ
end-line = codes "%%\n"

spelled-put : (o : LabelOptions) (out : List ℕ) (items : List (LineLabel × Item)) (label : LineLabel) (f : Format) (put : List ℕ) → SaysAs o label.text label (line.Put f) → IsPutText put → NoLf label.text → IsSpelled o out items
    → IsSpelled o (out ++ (ended label.text ++ (put ++ tail_of put))) (items ++ (label, item.Step f (Put put)) ∷ [])
spelled-put o out items label f put says is no_lf h =
    let w = put_and_tail put (tail_of put) is (tail_is put) in
    let begun = begins h.whole h.n h.spelled (ended label.text) (at_line label h.n) f h.spells (says-elsewhere o label h.n (line.Put f) says) (at-its-line o label h.n) in
    let texts = goes-lines o w.1 (h.whole ++ ended label.text ∷ []) (h.n + 1) (record { text = empty_text f; label = at_line label h.n }) h.spelled begun in
    let done = puts ((h.whole ++ ended label.text ∷ []) ++ lines w.0) texts.n h.spelled (codes "%%\n") (record { text = record { bytes = w.0; format = f }; label = at_line label h.n }) texts.spells refl in
    record {
      whole = ((h.whole ++ ended label.text ∷ []) ++ lines w.0) ++ codes "%%\n" ∷ [];
      n = texts.n + 1;
      spelled = h.spelled ++ (at_line label h.n, item.Step f (Put (take 1048577 w.0))) ∷ [];
      split = λ more.
          ap (λ (t : List ℕ). lines ((out ++ (ended label.text ++ t)) ++ more)) (sym w.2)
          ∙ ap (λ (t : List ℕ). lines (t ++ more)) (sym (append_assoc out (ended label.text) (w.0 ++ codes "%%\n")))
          ∙ ap lines (append_assoc (out ++ ended label.text) (w.0 ++ codes "%%\n") more)
          ∙ split-more out (ended label.text) h.whole (is_ended label.text no_lf) h.split ((w.0 ++ codes "%%\n") ++ more)
          ∙ ap (λ (t : List ℕ). (h.whole ++ ended label.text ∷ []) ++ lines t) (append_assoc w.0 (codes "%%\n") more)
          ∙ ap (λ (ls : List (List ℕ)). (h.whole ++ ended label.text ∷ []) ++ ls) (text_split w.1 (codes "%%\n" ++ more))
          ∙ sym (append_assoc (h.whole ++ ended label.text ∷ []) (lines w.0) (lines (codes "%%\n" ++ more)))
          ∙ sym (append_assoc ((h.whole ++ ended label.text ∷ []) ++ lines w.0) (codes "%%\n" ∷ []) (lines more));
      spells = done;
      same = same-more items h.spelled (label, item.Step f (Put put)) (at_line label h.n, item.Step f (Put (take 1048577 w.0))) h.same (ap (λ (p : List ℕ). without_number (label, item.Step f (Put p))) (sym w.3));
    }

-- ---- an entry

spelled-nothing : (o : LabelOptions) (out : List ℕ) (items : List (LineLabel × Item)) → IsSpelled o out items → IsSpelled o (out ++ []) (items ++ [])
spelled-nothing o out items h =
    subst (λ (x : List ℕ). IsSpelled o x (items ++ [])) (sym (append-nil out)) (subst (IsSpelled o out) (sym (append-nil items)) h)

put-entry : (b : Bool) (o : LabelOptions) (out : List ℕ) (items : List (LineLabel × Item)) (label : LineLabel) (f : Format) (put : List ℕ) → PutSays b o label f put → NoLf label.text → IsSpelled o out items
    → IsSpelled o (out ++ put_lines b label.text put) (items ++ (label, item.Step f (Put put)) ∷ [])
put-entry true o out items label f put says no_lf h = spelled-object o out items label f put says.0 says.1 says.2 no_lf h
put-entry false o out items label f put says no_lf h = spelled-put o out items label f put says.0 says.1 no_lf h

step-entry : (o : LabelOptions) (out : List ℕ) (items : List (LineLabel × Item)) (label : LineLabel) (f : Format) (s : Step) → StepSays o label f s → NoLf label.text → IsSpelled o out items
    → IsSpelled o (out ++ step_lines o.objects label.text s) (items ++ (label, item.Step f s) ∷ [])
step-entry o out items label f (Put put) says no_lf h = put-entry o.objects o out items label f put says no_lf h
step-entry o out items label f s says no_lf h = spelled-step o out items label f s says no_lf h

spelled-entry : (o : LabelOptions) (out : List ℕ) (items : List (LineLabel × Item)) (e : LabelledEntry) → TextSays o e → NoLf e.0.text → IsSpelled o out items → IsSpelled o (out ++ entry_lines o.objects e) (items ++ item_in e)
spelled-entry o out items (label, entry.Skipped) says no_lf h = spelled-nothing o out items h
spelled-entry o out items (label, entry.Item (item.Step f s)) says no_lf h = step-entry o out items label f s says no_lf h
spelled-entry o out items (label, entry.Item (item.Sweep f)) says no_lf h = spelled-sweep o out items label f says no_lf h
spelled-entry o out items (label, entry.Item (item.BadLine n)) says no_lf h = spelled-bad o out items label n says no_lf h
spelled-entry o out items (label, entry.Item item.EndOfText) says no_lf h = spelled-nothing o out items h

-- the entries of these numbers
pub spelled_entries : (o : LabelOptions) (entries : List LabelledEntry) (out : List ℕ) (items : List (LineLabel × Item)) (xs : List Numbered) → ((n : ℕ) → TextSays o (entry_at entries n)) → AllByRecursion (IsWritten entries) xs → IsSpelled o out items
    → IsSpelled o (out ++ lines_at o.objects entries xs) (items ++ items_at entries xs)
spelled_entries o entries out items [] says written h = spelled-nothing o out items h
spelled_entries o entries out items (x ∷ xs) says written h =
    let one = spelled-entry o out items (entry_at entries x.0) (says x.0) written.0.1 h in
    let rest = spelled_entries o entries (out ++ entry_lines o.objects (entry_at entries x.0)) (items ++ item_in (entry_at entries x.0)) xs says written.1 one in
    subst (λ (t : List ℕ). IsSpelled o t (items ++ items_at entries (x ∷ xs))) (append_assoc out (entry_lines o.objects (entry_at entries x.0)) (lines_at o.objects entries xs))
    (subst (IsSpelled o ((out ++ entry_lines o.objects (entry_at entries x.0)) ++ lines_at o.objects entries xs)) (append_assoc items (item_in (entry_at entries x.0)) (items_at entries xs)) rest)

-- ---- a whole script

pub spelled_whole : (o : LabelOptions) (out : List ℕ) (items : List (LineLabel × Item)) → IsSpelled o out items → SpellsButForNumbers o out items
spelled_whole o out items h =
    let all : lines out ≡ h.whole = ap lines (sym (append-nil out)) ∙ h.split [] ∙ append-nil h.whole in
    (h.n, None, h.spelled, subst (λ (ls : List (List ℕ)). SpellsLabelled o ls h.n None h.spelled) (sym all) h.spells, h.same)

-- a script that ends inside a module text
pub spelled_inside : (o : LabelOptions) (out : List ℕ) (items : List (LineLabel × Item)) (label : LineLabel) (f : Format) → SaysAs o label.text label (line.Put f) → NoLf label.text → IsSpelled o out items
    → SpellsButForNumbers o (out ++ ended label.text) (items ++ (label, item.EndOfText) ∷ [])
spelled_inside o out items label f says no_lf h =
    let last : lines (out ++ ended label.text) ≡ h.whole ++ ended label.text ∷ [] =
    h.split (ended label.text) ∙ ap (λ (t : List ℕ). h.whole ++ lines t) (sym (append-nil (ended label.text))) ∙ ap (λ (ls : List (List ℕ)). h.whole ++ ls) (first_line (ended label.text) [] (is_ended label.text no_lf)) in
    let t : LabelledText = record { text = empty_text f; label = at_line label h.n } in (
      h.n + 1,
      Some t,
      h.spelled,
      subst (λ (ls : List (List ℕ)). SpellsLabelled o ls (h.n + 1) (Some t) h.spelled) (sym last)
          (begins h.whole h.n h.spelled (ended label.text) (at_line label h.n) f h.spells (says-elsewhere o label h.n (line.Put f) says) (at-its-line o label h.n)),
      same-more items h.spelled (label, item.EndOfText) (at_line label h.n, item.EndOfText) h.same refl,
    )
