-- The items that a script with labels spells (this project's own).
use Rattle.std.specs.Prelude.{◌≡◌, ◌≢◌, ℕ, ◌+◌, List, [], ◌∷◌, ◌++◌, take, Option, Some, None}
use Rattle.scrib_core.specs.declared.format.Format.{Format}
use Rattle.scrib_core.specs.declared.step.Step.{Step}
use Rattle.scrib_core.specs.declared.step.Step.TheVariants.{Put}
use Rattle.scrib_script_reader.specs.declared.item.Item.{Item}
use Rattle.scrib_script_reader.specs.declared.item.Item.TheVariants as item
use Rattle.scrib_script_reader.specs.declared.line.Line.{Line}
use Rattle.scrib_script_reader.specs.declared.line.Line.TheVariants as line
use Rattle.scrib_script_reader.specs.Says.{Says}
use Rattle.scrib_script_reader.specs.Scripts.{Text, bare, empty_text, text_end, with_line}
use Rattle.scrib_labelled.specs.declared.label_options.LabelOptions.{LabelOptions}
use Rattle.scrib_labelled.specs.LabelledLines.{IsLabelAt, IsPutObject, LineLabel, StandsFor}

-- the line has this label, and the line that it stands for has this meaning; both are without their ends
abbrev pub SaysAs : LabelOptions → (whole : List ℕ) → LineLabel → Line → Type 0
SaysAs o whole label meaning = (plain : List ℕ) × StandsFor o whole label plain × Says plain meaning

-- a module text so far, and the label of its put
pub record LabelledText : Type 0 where
  pub text : Text
  pub label : LineLabel

-- These first lines of a script with labels spell these items, each with the label of its line or of its put, which has
-- the number and the bytes of that line. The next line has this number, outside module texts or after this much of one. Lines of module
-- texts have no label.
pub data SpellsLabelled (o : LabelOptions)
    : List (List ℕ) → ℕ → Option LabelledText → List (LineLabel × Item) → Type 0 where
  no_line : SpellsLabelled o [] 1 None []
  skips : (ls : List (List ℕ)) (n : ℕ) (items : List (LineLabel × Item)) (l : List ℕ) (label : LineLabel)
      → SpellsLabelled o ls n None items → SaysAs o (bare l) label line.Skipped → IsLabelAt o n l label
      → SpellsLabelled o (ls ++ l ∷ []) (n + 1) None items
  makes : (ls : List (List ℕ)) (n : ℕ) (items : List (LineLabel × Item)) (l : List ℕ) (label : LineLabel) (f : Format)
      (s : Step) → SpellsLabelled o ls n None items → SaysAs o (bare l) label (line.Step f s) → IsLabelAt o n l label
      → SpellsLabelled o (ls ++ l ∷ []) (n + 1) None (items ++ (label, item.Step f s) ∷ [])
  sweeps : (ls : List (List ℕ)) (n : ℕ) (items : List (LineLabel × Item)) (l : List ℕ) (label : LineLabel) (f : Format)
      → SpellsLabelled o ls n None items → SaysAs o (bare l) label (line.Sweep f) → IsLabelAt o n l label
      → SpellsLabelled o (ls ++ l ∷ []) (n + 1) None (items ++ (label, item.Sweep f) ∷ [])
  is_bad : (ls : List (List ℕ)) (n : ℕ) (items : List (LineLabel × Item)) (l : List ℕ) (label : LineLabel)
      → SpellsLabelled o ls n None items → SaysAs o (bare l) label line.Bad → IsLabelAt o n l label
      → SpellsLabelled o (ls ++ l ∷ []) (n + 1) None (items ++ (label, item.BadLine n) ∷ [])
  begins : (ls : List (List ℕ)) (n : ℕ) (items : List (LineLabel × Item)) (l : List ℕ) (label : LineLabel) (f : Format)
      → SpellsLabelled o ls n None items → SaysAs o (bare l) label (line.Put f) → IsLabelAt o n l label
      → SpellsLabelled o (ls ++ l ∷ []) (n + 1) (Some (record { text = empty_text f; label = label })) items
  goes_on : (ls : List (List ℕ)) (n : ℕ) (items : List (LineLabel × Item)) (l : List ℕ) (t : LabelledText)
      → SpellsLabelled o ls n (Some t) items → bare l ≢ text_end
      → SpellsLabelled o (ls ++ l ∷ []) (n + 1) (Some (record { text = with_line t.text l; label = t.label })) items
  puts : (ls : List (List ℕ)) (n : ℕ) (items : List (LineLabel × Item)) (l : List ℕ) (t : LabelledText)
      → SpellsLabelled o ls n (Some t) items → bare l ≡ text_end
      → SpellsLabelled o (ls ++ l ∷ []) (n + 1) None
      (items ++ (t.label, item.Step t.text.format (Put (take 1_048_577 t.text.bytes))) ∷ [])
  puts_object : (ls : List (List ℕ)) (n : ℕ) (items : List (LineLabel × Item)) (l : List ℕ) (label : LineLabel)
      (f : Format) (text : List ℕ) → SpellsLabelled o ls n None items → IsPutObject o (bare l) label f text
      → IsLabelAt o n l label
      → SpellsLabelled o (ls ++ l ∷ []) (n + 1) None (items ++ (label, item.Step f (Put (take 1_048_577 text))) ∷ [])

-- the items of a whole script: where it ends inside a module text, the last is that end
abbrev pub all_items : Option LabelledText → List (LineLabel × Item) → List (LineLabel × Item)
all_items None items = items
all_items (Some t) items = items ++ (t.label, item.EndOfText) ∷ []
