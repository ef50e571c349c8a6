-- The output of a script (this project's own).
use Rattle.std.specs.Prelude.{◌≡◌, ℕ, List, [], ◌∷◌, ◌++◌, None}
use Rattle.scrib_core.specs.declared.format.Format.{Format}
use Rattle.scrib_core.specs.Answers.{State, initial}
use Rattle.scrib_report.specs.ReplyTexts.{bad_line, end_of_text, reply_format}
use Rattle.scrib_script_reader.specs.declared.item.Item.{Item}
use Rattle.scrib_script_reader.specs.declared.item.Item.TheVariants.{Step, Sweep, BadLine, EndOfText}
use Rattle.scrib_script_reader.specs.Scripts.{Spells, lines, requests_of}
use Rattle.scrib_cli.specs.Requests.{RequestReply, request_reply_text, AnswersRequests}

-- what an output of this format has for these items, whose steps and sweeps have these replies
abbrev pub written : Format → List Item → List RequestReply → List ℕ
written o [] rs = []
written o (Step f s ∷ items) [] = []
written o (Step f s ∷ items) (r ∷ rs) = request_reply_text (reply_format o f) r ++ written o items rs
written o (Sweep f ∷ items) [] = []
written o (Sweep f ∷ items) (r ∷ rs) = request_reply_text (reply_format o f) r ++ written o items rs
written o (BadLine n ∷ items) rs = bad_line o n ++ written o items rs
written o (EndOfText ∷ items) rs = end_of_text o ++ written o items rs

-- An output of a script in a format: the texts of the replies to its steps and sweeps over a new monitor. Bad lines and
-- an end inside a module text are written in their order. A line that begins with `json` has its reply in JSON.
abbrev pub IsOutput : Format → List ℕ → List ℕ → Type 0
IsOutput o input output =
    (items : List Item) × (replies : List RequestReply) × (w : State)
    × Spells 1 None (lines input) items × AnswersRequests initial (requests_of items) replies w
    × (output ≡ written o items replies)
