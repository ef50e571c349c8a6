-- Lines of exchanges with labels (this project's own).
use Rattle.std.specs.Prelude.{◌≡◌, ℕ, Bool, List, Option, option_map}
use Rattle.std.specs.Borrow.{Bor}
use Rattle.scrib_core.specs.declared.format.Format.TheVariants as format
use Rattle.scrib_core.specs.declared.step.Step.TheVariants.{Note}
use Rattle.scrib_script_reader.specs.declared.line.Line.TheVariants as line
use Rattle.scrib_script_reader.specs.Says.{Says}
use Rattle.scrib_labels.specs.declared.session_names.SessionNames.{SessionNames}
use Rattle.scrib_report.specs.PutBack.{bytes_of, tag_text}
use Rattle.scrib_labelled.specs.declared.exchange_line.Exchange.{Exchange}
use Rattle.scrib_labelled.specs.declared.exchange_line.ExchangeLine.{ExchangeLine}
use Rattle.scrib_labelled.specs.declared.label_options.LabelOptions.{LabelOptions}
use Rattle.scrib_labelled.specs.LabelledLines.{IsNumbered, LineLabel, StandsFor}
use Rattle.scrib_labelled.specs.NamedLines.{IsNumbersOf}

-- the name of a conversation with its number, if it has a name
abbrev pub named_id : Option (Bor (List ℕ)) → ℕ → Option (List ℕ × ℕ)
named_id name id = option_map (λ n. (n, id)) (bytes_of name)

-- the label of the line
abbrev pub exchange_label : ExchangeLine → LineLabel
exchange_label e = record { line = e.line; text = e.text.now; tag = bytes_of e.tag; session = named_id e.name e.id }

-- the line without its tag is this exchange, where conversations have names or not
pub record IsExchangeIn (names : SessionNames) (named : Bool) (rest : List ℕ) (e : Exchange) : Type 0 where
  pub plain : List ℕ
  pub numbered : IsNumbered named rest (named_id e.name e.id) plain
  pub says : Says plain (line.Step format.Line (Note e.id e.event))
  pub numbers : IsNumbersOf names (named_id e.name e.id)

-- the line is this exchange with this label, and its reply begins with this text of the tag
pub record IsExchangeLine (o : LabelOptions) (names : SessionNames) (whole : List ℕ) (e : ExchangeLine) : Type 0 where
  pub plain : List ℕ
  pub stands : StandsFor o whole (exchange_label e) plain
  pub says : Says plain (line.Step format.Line (Note e.id e.event))
  pub numbers : IsNumbersOf names (exchange_label e).session
  pub tag_is : e.tag_text.now ≡ tag_text (bytes_of e.tag)
