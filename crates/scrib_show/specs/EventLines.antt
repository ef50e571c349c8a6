-- The lines of a script that noted the events of a conversation's log (this project's own).
use Rattle.std.specs.Prelude.{◌≡◌, ◌==◌, if◌then◌else◌, ℕ, List, [], ◌∷◌, ◌++◌, length, Option, Some}
use Rattle.scrib_core.specs.declared.reply.Reply.TheVariants.{Opened, Noted}
use Rattle.scrib_core.specs.World.{World, Conversation, conversation}
use Rattle.scrib_script_reader.specs.Scripts.{Text}
use Rattle.scrib_script_reader.specs.Entries.{SpellsEntries, ends, skips, makes, sweeps, is_bad, begins, goes_on, puts, stops}
use Rattle.scrib_script_reader.specs.declared.entry.Entry.{Entry}
use Rattle.scrib_cli.specs.Requests.{RequestReply, OfStep}

-- The lines of the events of a conversation, from those so far and the reply to a step or a sweep of line n. An opening
-- of the conversation leaves none. An event that is noted in it adds n.
abbrev pub lines_after : (id : ℕ) → (so_far : List ℕ) → (n : ℕ) → RequestReply → List ℕ
lines_after id so_far n (OfStep (Opened i name)) = if i == id then [] else so_far
lines_after id so_far n (OfStep (Noted i place verdict)) = if i == id then so_far ++ n ∷ [] else so_far
lines_after id so_far n _ = so_far

-- The numbers of the lines that noted the events of a conversation since it was last opened: from those so far, the
-- lines that spell the entries, and the replies to their steps and sweeps. The reply to a put opens and notes nothing.
abbrev pub event_lines : (id : ℕ) → {n : ℕ} {text : Option Text} {ls : List (List ℕ)} {entries : List Entry}
    → SpellsEntries n text ls entries → List RequestReply → (so_far : List ℕ) → List ℕ
event_lines id (ends n) replies so_far = so_far
event_lines id (skips n l ls entries says more) replies so_far = event_lines id more replies so_far
event_lines id (makes n l ls entries f s says more) [] so_far = so_far
event_lines id (makes n l ls entries f s says more) (r ∷ replies) so_far =
    event_lines id more replies (lines_after id so_far n r)
event_lines id (sweeps n l ls entries f says more) [] so_far = so_far
event_lines id (sweeps n l ls entries f says more) (r ∷ replies) so_far = event_lines id more replies so_far
event_lines id (is_bad n l ls entries says more) replies so_far = event_lines id more replies so_far
event_lines id (begins n l ls entries f says more) replies so_far = event_lines id more replies so_far
event_lines id (goes_on n text l ls entries inside more) replies so_far = event_lines id more replies so_far
event_lines id (puts n text l ls entries end more) [] so_far = so_far
event_lines id (puts n text l ls entries end more) (r ∷ replies) so_far = event_lines id more replies so_far
event_lines id (stops n text) replies so_far = so_far

-- where the conversation is open, its log has an event for each of these lines
abbrev pub HasEventFor : World → (id : ℕ) → (numbers : List ℕ) → Type 0
HasEventFor w id numbers = (c : Conversation) → conversation w id ≡ Some c → length numbers ≡ length c.log
