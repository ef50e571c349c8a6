-- The progress of a run: what its functions promise one another (this project's own).
-- Only contracts of private functions cite this file.
use Rattle.std.specs.Prelude.{◌≡◌, ℕ, List, [], ◌∷◌, ◌++◌, Option, Some, None, All, IfSome}
use Rattle.std.specs.Io.KnownBytes.{Appends}
use Rattle.scrib_core.specs.declared.reply.Reply.{Reply}
use Rattle.scrib_core.specs.Answers.{State, initial, IsAnswered}
use Rattle.scrib_core.specs.Held.{state_of}
use Rattle.scrib_core.specs.declared.format.Format.{Format}
use Rattle.scrib_core.specs.declared.format.Format.TheVariants as format
use Rattle.scrib_script_reader.specs.declared.item.Item.{Item}
use Rattle.scrib_script_reader.specs.declared.item.Item.TheVariants as item
use Rattle.scrib_script_reader.specs.declared.short_line.ShortLine.{ShortLine}
use Rattle.scrib_script_reader.specs.ShortLines.{short_items}
use Rattle.scrib_script_reader.specs.Scripts.{Spells, lines, requests_of, item_list}
use Rattle.scrib_script_reader.specs.declared.limits.Limits.{Limits}
use Rattle.scrib_script_reader.specs.Limits.{IsWithinLimits, IsPast}
use Rattle.scrib_script_reader.specs.Positions.{HasConsumed, TakesFront}
use Rattle.scrib_cli.specs.declared.run.ScriptRun.{ScriptRun}
use Rattle.scrib_cli.specs.declared.output_mode.OutputMode.{OutputMode}
use Rattle.scrib_cli.specs.declared.output_mode.OutputMode.TheVariants.{Printed, Silent}
use Rattle.scrib_report.specs.Parts.{Part, bad_part, end_part}
use Rattle.scrib_report.specs.ReplyTexts.{part_text, reply_format}
use Rattle.scrib_script_io.specs.Writes.{AppendsPart}
use Rattle.scrib_sweep.specs.Sweeps.{IsSwept}
use Rattle.scrib_cli.specs.Requests.{RequestReply, OfStep, OfSweep, request_reply_text, HasMemory, AnswersRequests}
use Rattle.scrib_cli.specs.Scripts.{written}

-- the bytes that are written for these: in silent mode none
abbrev pub shown_bytes : OutputMode → List ℕ → List ℕ
shown_bytes (Printed o) bytes = bytes
shown_bytes Silent bytes = []

-- the format of the output; in silent mode it does not matter
abbrev pub output_format : OutputMode → Format
output_format (Printed o) = o
output_format Silent = format.Line

-- what is written for a reply whose line asks for this format
abbrev pub reply_shown : OutputMode → Format → RequestReply → List ℕ
reply_shown t f r = shown_bytes t (request_reply_text (reply_format (output_format t) f) r)

-- what is written for a part in the format of the output
abbrev pub part_shown : OutputMode → Part → List ℕ
part_shown t p = shown_bytes t (part_text (output_format t) p)

-- what is written for a bad line
abbrev pub bad_line_shown : OutputMode → ℕ → List ℕ
bad_line_shown t n = part_shown t (bad_part n)

-- what is written for an end inside a module text
abbrev pub end_shown : OutputMode → List ℕ
end_shown t = part_shown t end_part

-- what is written for these items, whose steps and sweeps have these replies
abbrev pub items_shown : OutputMode → List Item → List RequestReply → List ℕ
items_shown t items replies = shown_bytes t (written (output_format t) items replies)

-- a run continues after this reply; in silent mode it does not where the request was refused memory
abbrev pub GoesOn : OutputMode → RequestReply → Type 0
GoesOn (Printed o) r = Unit {0}
GoesOn Silent r = HasMemory r

-- the whole output of a script, and the state after it
pub record IsWholeOutput (t : OutputMode) (input : List ℕ) (after : State) (output : List ℕ) : Type 0 where
  pub items : List Item
  pub replies : List RequestReply
  pub spelled : Spells 1 None (lines input) items
  pub answered : AnswersRequests initial (requests_of items) replies after
  pub goes_on : All (GoesOn t) replies
  pub is : output ≡ items_shown t items replies

-- the part is a prefix of an output of the script in this format
pub record IsOutputPrefix (o : Format) (input part : List ℕ) : Type 0 where
  pub after : State
  pub output : List ℕ
  pub rest : List ℕ
  pub whole : IsWholeOutput (Printed o) input after output
  pub is : output ≡ part ++ rest

-- the part may be written by a run that fails: a prefix of an output, and in silent mode nothing
abbrev pub IsPartOutput : OutputMode → List ℕ → List ℕ → Type 0
IsPartOutput (Printed o) input part = IsOutputPrefix o input part
IsPartOutput Silent input part = part ≡ []

-- a run of the script failed, and wrote such a part
abbrev pub RunFailsOn : OutputMode → List ℕ → Option (List ℕ) → Option (List ℕ) → Type 0
RunFailsOn t input was now = (part : List ℕ) × IsPartOutput t input part × Appends was now part

-- a whole script, which is within the limits, was run to this state
abbrev pub RunSucceeds : Limits → OutputMode → Option (List ℕ) → State → Option (List ℕ) → Option (List ℕ) → Type 0
RunSucceeds m t r after was now =
    IfSome r (λ input. (output : List ℕ)
    × IsWholeOutput t input after output × Appends was now output × IsWithinLimits m input)

-- a run of the script, where it is known, failed
abbrev pub RunFails : OutputMode → Option (List ℕ) → Option (List ℕ) → Option (List ℕ) → Type 0
RunFails t r was now = IfSome r (λ input. RunFailsOn t input was now)

-- a run with these limits and this mode consumed these bytes of its script, and wrote the output of their items
pub record HasProgressed (m : Limits) (t : OutputMode) (run : ScriptRun) (seen : List ℕ) (was now : Option (List ℕ))
    : Type 0 where
  pub output_mode : run.output_mode ≡ t
  pub items : List Item
  pub replies : List RequestReply
  pub read : HasConsumed m run.script seen items
  pub answered : AnswersRequests initial (requests_of items) replies (state_of run.core)
  pub goes_on : All (GoesOn t) replies
  pub appends : Appends was now (items_shown t items replies)

-- a run before its first byte
pub record IsNew (m : Limits) (t : OutputMode) (run : ScriptRun) : Type 0 where
  pub progress : (w : Option (List ℕ)) → HasProgressed m t run [] w w

-- the run consumed the bytes, and wrote the output of their items
pub record RunAdvances (old new : ScriptRun) (bytes : List ℕ) (was now : Option (List ℕ)) : Type 0 where
  pub goes : (m : Limits) (t : OutputMode) (seen : List ℕ) (w : Option (List ℕ))
      → HasProgressed m t old seen w was
      → HasProgressed m t new (seen ++ bytes) w now

-- the run failed within these bytes
pub record PieceFails (old : ScriptRun) (bytes : List ℕ) (was now : Option (List ℕ)) : Type 0 where
  pub so : (m : Limits) (t : OutputMode) (seen : List ℕ) (w : Option (List ℕ))
      → HasProgressed m t old seen w was
      → (more : List ℕ) → RunFailsOn t (seen ++ (bytes ++ more)) w now

-- The run stopped at the first line with which the script is past the limits. Exactly the output of the items before
-- that line was written.
pub record PassesLimitIn (old : ScriptRun) (bytes : List ℕ) (was now : Option (List ℕ)) : Type 0 where
  pub so : (m : Limits) (t : OutputMode) (seen : List ℕ) (w : Option (List ℕ))
      → HasProgressed m t old seen w was
      → (mid : ScriptRun) × (front : List ℕ) × (line : List ℕ) × (rest : List ℕ)
      × (bytes ≡ front ++ (line ++ rest)) × (lines (line ++ rest) ≡ line ∷ lines rest)
      × HasProgressed m t mid (seen ++ front) w now × IsPast m (seen ++ front ++ line)

-- the run wrote all of its output, the script is within the limits, and this is the state after it
pub record EndSucceeds (old : ScriptRun) (after : State) (was now : Option (List ℕ)) : Type 0 where
  pub so : (m : Limits) (t : OutputMode) (seen : List ℕ) (w : Option (List ℕ))
      → HasProgressed m t old seen w was
      → (output : List ℕ) × IsWholeOutput t seen after output × Appends w now output × IsWithinLimits m seen

-- the run failed at its end
pub record EndFails (old : ScriptRun) (was now : Option (List ℕ)) : Type 0 where
  pub so : (m : Limits) (t : OutputMode) (seen : List ℕ) (w : Option (List ℕ))
      → HasProgressed m t old seen w was
      → RunFailsOn t seen w now

-- what an item does: the state after it, the reply to its step or sweep, if it is one, and what is written for it
abbrev pub ItemDoes : OutputMode → Item → State → List RequestReply → State → List ℕ → Type 0
ItemDoes t (item.Step f s) w replies v out =
    (r : Reply) × (replies ≡ OfStep r ∷ []) × IsAnswered w s r v × GoesOn t (OfStep r)
    × (out ≡ reply_shown t f (OfStep r))
ItemDoes t (item.Sweep f) w replies v out =
    (judged : Option ℕ) × (replies ≡ OfSweep judged ∷ []) × IsSwept w judged v × GoesOn t (OfSweep judged)
    × (out ≡ reply_shown t f (OfSweep judged))
ItemDoes t (item.BadLine n) w replies v out = (replies ≡ []) × (v ≡ w) × (out ≡ bad_line_shown t n)
ItemDoes t item.EndOfText w replies v out = (replies ≡ []) × (v ≡ w) × (out ≡ end_shown t)

-- the item was carried out, and its output was written
abbrev pub IsCarriedOut : OutputMode → Item → State → State → Option (List ℕ) → Option (List ℕ) → Type 0
IsCarriedOut t i w v was now =
    (replies : List RequestReply) × (out : List ℕ) × ItemDoes t i w replies v out × Appends was now out

-- the reply to a request was written, where its line asks for this format, and the run continues
abbrev pub IsReplyShown : OutputMode → Format → RequestReply → (was now : Option (List ℕ)) → Type 0
IsReplyShown t f r was now = GoesOn t r × Appends was now (reply_shown t f r)

-- what was done with the item, if there was one, and what was written for it
abbrev pub WasCarriedOut : OutputMode → Option Item → State → State → Option (List ℕ) → Option (List ℕ) → Type 0
WasCarriedOut t None w v was now = (v ≡ w) × (now ≡ was)
WasCarriedOut t (Some i) w v was now = IsCarriedOut t i w v was now

-- what a short line spells was carried out, and its output was written
abbrev pub IsShortCarriedOut : OutputMode → ShortLine → State → State → Option (List ℕ) → Option (List ℕ) → Type 0
IsShortCarriedOut t line w v was now =
    (found : Option Item) × (item_list found ≡ short_items line) × WasCarriedOut t found w v was now

-- A front of the bytes was consumed, and spells one item at most. Its output was gathered.
pub record GathersFront (old new : ScriptRun) (bytes rest : List ℕ) : Type 0 where
  pub output_mode : new.output_mode ≡ old.output_mode
  pub found : Option Item
  pub takes : TakesFront old.script new.script bytes rest (item_list found)
  pub carried : WasCarriedOut old.output_mode found (state_of old.core) (state_of new.core)
      (Some old.gathered.bytes.items) (Some new.gathered.bytes.items)

-- a front of the gathered bytes was written, and the new ones are left
abbrev pub WritesFront : (old new : List ℕ) → (was now : Option (List ℕ)) → Type 0
WritesFront old new was now = (front : List ℕ) × (old ≡ front ++ new) × Appends was now front

-- the run failed within these bytes, where then some or all of the gathered bytes are written
abbrev pub FailsWithin : ScriptRun → (bytes gathered : List ℕ) → (was now : Option (List ℕ)) → Type 0
FailsWithin old bytes gathered was now = (end : Option (List ℕ)) → AppendsPart now end gathered → PieceFails old bytes was end
