-- What `check` writes for a module text (this project's own).
use Rattle.std.specs.Prelude.{◌≡◌, ◌⊎◌, ℕ, Bool, true, false, List, [], take, Option}
use Rattle.std.specs.Io.KnownBytes.{Appends}
use Rattle.scrib_core.specs.declared.step.Step.TheVariants.{Put}
use Rattle.scrib_core.specs.declared.reply.Reply.{Reply}
use Rattle.scrib_core.specs.declared.reply.Reply.TheVariants.{Edited, Profiled, Opened, Noted, Judged, Closed, Refused}
use Rattle.scrib_core.specs.Answers.{State, IsAnswered}
use Rattle.scrib_report.specs.LineOutput.{reply_line}
use Rattle.scrib_script_io.specs.Writes.{AppendsPart}

-- whether the reply accepts an edit
abbrev pub is_accepted : Reply → Bool
is_accepted (Edited edit changes) = true
is_accepted (Profiled profile) = false
is_accepted (Opened id name) = false
is_accepted (Noted id place verdict) = false
is_accepted (Judged id name events verdict) = false
is_accepted (Closed id name events verdict complete) = false
is_accepted (Refused refusal) = false

-- the put of the text's first 1,048,577 bytes has this reply, and leads to this state
abbrev pub IsPutAnswered : List ℕ → State → Reply → State → Type 0
IsPutAnswered input w r after = IsAnswered w (Put (take 1_048_577 input)) r after

-- the module text was put, and the line of the reply was written
abbrev pub IsChecked : List ℕ → State → Bool → State → (was now : Option (List ℕ)) → Type 0
IsChecked input w accepted after was now =
    (r : Reply) × IsPutAnswered input w r after × (accepted ≡ is_accepted r) × Appends was now (reply_line r)

-- nothing was put or written, or the module text was put and a prefix of the reply's line was written
abbrev pub IsPartChecked : List ℕ → State → State → (was now : Option (List ℕ)) → Type 0
IsPartChecked input w after was now =
    ((after ≡ w) × Appends was now [])
    ⊎ ((r : Reply) × IsPutAnswered input w r after × AppendsPart was now (reply_line r))
