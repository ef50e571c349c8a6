-- The replies to a list of steps (this project's own).
use Rattle.std.specs.Prelude.{◌≡◌, ◌↔◌, ℕ, Bool, IsTrue, List, [], ◌∷◌, length, Option, Some}
use Rattle.scrib_types.specs.declared.profile.Profile.{Profile}
use Rattle.scrib_types.specs.declared.profile.Profile.TheVariants.{Plain}
use Rattle.scrib_types.specs.declared.event.Told.{Told}
use Rattle.scrib_types.specs.declared.event.Verdict.{Verdict}
use Rattle.scrib_types.specs.declared.event.Told.TheVariants as tell
use Rattle.scrib_types.specs.declared.event.Verdict.TheVariants.{Permitted}
use Rattle.scrib_types.specs.Agreement.{Agreement}
use Rattle.scrib_types.specs.Judgement.{Judges}
use Rattle.scrib_tree.specs.declared.tree.ModuleTree.{ModuleTree}
use Rattle.scrib_types.specs.Complete.{IsComplete}
use Rattle.scrib_library.specs.Modules.{Means, IsMeaning}
use Rattle.scrib_library.specs.Edits.{Reads, IsChanges}
use Rattle.scrib_core.specs.declared.step.Step.{Step}
use Rattle.scrib_core.specs.declared.step.Step.TheVariants.{Put, Withdraw, Open, Note, Turn, Ask, Close}
use Rattle.scrib_core.specs.declared.step.Step.TheVariants as step
use Rattle.scrib_core.specs.declared.reply.Edit.TheVariants as edit
use Rattle.scrib_core.specs.declared.reply.Refusal.TheVariants.{OutOfMemory}
use Rattle.scrib_core.specs.declared.reply.Reply.{Reply}
use Rattle.scrib_core.specs.declared.reply.Reply.TheVariants as reply
use Rattle.scrib_core.specs.World.{World, Conversation, conversation, nothing_under, Follows, Refuses, NeedsMemory}
use Rattle.scrib_core.specs.Marks.{Marks, unmarked, Fresh, IsStale, UpdatesMarks}

-- the world, and the mark of each of its conversations
pub record State : Type 0 where
  pub world : World
  pub marks : Marks

-- the state of a new monitor with this profile: no module, no conversation, no mark
abbrev pub initial_under : Profile → State
initial_under p = record { world = nothing_under p; marks = unmarked }

-- the state of a new monitor with the plain profile
abbrev pub initial : State
initial = initial_under Plain

-- the verdict is that of judging the conversation's whole log against its protocol's present meaning
abbrev pub IsFresh : List ModuleTree → Conversation → Verdict → Type 0
IsFresh modules c v = (o : Option Agreement) × IsMeaning modules c.name o × Judges o c.log v

-- the verdict is reported as stale exactly if the conversation is marked, and is fresh otherwise
abbrev pub IsReportedIn : State → ℕ → Told → Type 0
IsReportedIn s id tell.Stale = IsStale (s.marks id)
IsReportedIn s id (tell.Judged v) =
    (s.marks id ≡ Fresh) × ((c : Conversation) × (conversation s.world id ≡ Some c) × IsFresh s.world.modules c v)

-- the reported verdict on a conversation, with its name and the number of its events
pub record IsJudged (s : State) (id : ℕ) (name : List (List ℕ)) (events : ℕ) (answer : Told) : Type 0 where
  pub of : Conversation
  pub there : conversation s.world id ≡ Some of
  pub name_is : name ≡ of.name
  pub events_are : events ≡ length of.log
  pub reported : IsReportedIn s id answer

-- The verdict on a conversation that is closed, with its name and the number of its events. The verdict is fresh.
-- `complete` is true exactly where it is `Permitted` and the log is complete under the protocol's present meaning.
pub record IsConcluded (w : World) (id : ℕ) (name : List (List ℕ)) (events : ℕ) (verdict : Verdict)
    (complete : Bool) : Type 0 where
  pub of : Conversation
  pub there : conversation w id ≡ Some of
  pub name_is : name ≡ of.name
  pub events_are : events ≡ length of.log
  pub fresh : IsFresh w.modules of verdict
  pub complete_is : IsTrue complete
      ↔ ((verdict ≡ Permitted) × ((a : Agreement) × Means w.modules of.name a × IsComplete a of.log))

-- the conversation is open, its verdict is not stale, and its log is complete under the protocol's present meaning
abbrev pub IsCompleteIn : State → ℕ → Type 0
IsCompleteIn s id =
    (s.marks id ≡ Fresh)
    × ((c : Conversation) × (conversation s.world id ≡ Some c)
    × ((a : Agreement) × Means s.world.modules c.name a × IsComplete a c.log))

-- the reply to an accepted step, in terms of the world before it and the state after it
abbrev pub Replies : World → Step → Reply → State → Type 0
Replies w (Put text) (reply.Edited e changes) s =
    (e ≡ edit.Put) × ((m : ModuleTree) × Reads text m × (changes.module ≡ m.name))
    × IsChanges w.modules s.world.modules changes.list
Replies w (Withdraw name) (reply.Edited e changes) s =
    (e ≡ edit.Withdraw) × (changes.module ≡ name) × IsChanges w.modules s.world.modules changes.list
Replies w (step.Profile p) (reply.Profiled q) s = q ≡ p
Replies w (Open id name) (reply.Opened i n) s = (i ≡ id) × (n ≡ name)
Replies w (Note id e) (reply.Noted i place answer) s =
    (i ≡ id) × ((c : Conversation) × (conversation s.world id ≡ Some c) × (place ≡ length c.log))
    × IsReportedIn s id answer
Replies w (Turn id) (reply.Judged i name events answer) s = (i ≡ id) × IsJudged s id name events answer
Replies w (Ask id) (reply.Judged i name events answer) s = (i ≡ id) × IsJudged s id name events answer
Replies w (Close id) (reply.Closed i name events verdict complete) s =
    (i ≡ id) × IsConcluded w id name events verdict complete
Replies w _ _ s = ⊥

-- the step is accepted, and this is its reply
pub record IsAccepted (s : State) (step : Step) (answer : Reply) (t : State) : Type 0 where
  pub follows : Follows s.world step t.world
  pub replies : Replies s.world step answer t
  pub remarks : UpdatesMarks s.world s.marks step t.world t.marks

-- The reply to one step: the step is refused and changes nothing, or it is accepted.
abbrev pub IsAnswered : State → Step → Reply → State → Type 0
IsAnswered s step (reply.Refused f) t = Refuses s.world step f × (t ≡ s)
IsAnswered s step r t = IsAccepted s step r t

-- Answered: a state follows each step such that each reply is that of its step.
abbrev pub Answers : State → List Step → List Reply → State → Type 0
Answers s [] [] t = t ≡ s
Answers s (step ∷ steps) (r ∷ rs) t = (u : State) × IsAnswered s step r u × Answers u steps rs t
Answers s _ _ t = ⊥

-- `OutOfMemory` is the reply only if no other refusal applies
abbrev pub IsDue : World → Step → Reply → Type 0
IsDue w step (reply.Refused OutOfMemory) = NeedsMemory w step
IsDue w step _ = Unit {0}

-- Answered, and `OutOfMemory` is the reply only if no other refusal applies.
abbrev pub AnswersAsDue : State → List Step → List Reply → State → Type 0
AnswersAsDue s [] [] t = t ≡ s
AnswersAsDue s (step ∷ steps) (r ∷ rs) t =
    (u : State) × IsAnswered s step r u × IsDue s.world step r × AnswersAsDue u steps rs t
AnswersAsDue s _ _ t = ⊥
