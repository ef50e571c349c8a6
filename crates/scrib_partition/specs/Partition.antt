-- Parts of lists of steps, and of states (this project's own). A part is given by a test of ids.
use Rattle.std.specs.Prelude.{◌≡◌, ℕ, Bool, true, if◌then◌else◌, List, [], ◌∷◌, filter, None, nat_eq}
use Rattle.std.specs.List.{list_any, IsDistinct}
use Rattle.std.specs.Map.{keys_of}
use Rattle.scrib_core.specs.declared.step.Step.{Step}
use Rattle.scrib_core.specs.declared.step.Step.TheVariants.{Put, Withdraw, Open, Note, Turn, Ask, Close}
use Rattle.scrib_core.specs.declared.step.Step.TheVariants as step
use Rattle.scrib_core.specs.declared.reply.Reply.{Reply}
use Rattle.scrib_core.specs.World.{World, conversation}
use Rattle.scrib_core.specs.Marks.{Fresh}
use Rattle.scrib_core.specs.Answers.{State}

-- the test of the ids in this list
abbrev pub among : List ℕ → ℕ → Bool
among list id = list_any (nat_eq id) list

-- the step is an edit, or is on a conversation of these ids
abbrev pub is_of : (ids : ℕ → Bool) → Step → Bool
is_of ids (Put text) = true
is_of ids (Withdraw name) = true
is_of ids (step.Profile p) = true
is_of ids (Open id name) = ids id
is_of ids (Note id e) = ids id
is_of ids (Turn id) = ids id
is_of ids (Ask id) = ids id
is_of ids (Close id) = ids id

-- the steps without those on other conversations
abbrev pub part_of_steps : (ids : ℕ → Bool) → List Step → List Step
part_of_steps ids steps = filter (is_of ids) steps

-- the replies to the steps of the part, where each step has one
abbrev pub replies_of : (ids : ℕ → Bool) → List Step → List Reply → List Reply
replies_of ids [] rs = []
replies_of ids (step ∷ steps) [] = []
replies_of ids (step ∷ steps) (r ∷ rs) =
    if is_of ids step then r ∷ replies_of ids steps rs else replies_of ids steps rs

-- the world with the conversations of these ids alone
abbrev pub restricted_world : (ids : ℕ → Bool) → World → World
restricted_world ids w = record w { conversations = filter (λ e. ids e.0) w.conversations }

-- the state with the conversations of these ids alone, and their marks
abbrev pub restricted : (ids : ℕ → Bool) → State → State
restricted ids s =
    record { world = restricted_world ids s.world; marks = λ id. if ids id then s.marks id else Fresh }

-- each id has at most one conversation, and only conversations are marked
pub record IsConsistent (s : State) : Type 0 where
  pub once : IsDistinct nat_eq (keys_of s.world.conversations)
  pub marked : (id : ℕ) → conversation s.world id ≡ None → s.marks id ≡ Fresh

-- The part has the library of the whole, and the conversations of these ids with their marks, in any order.
pub record IsPart (ids : ℕ → Bool) (whole part : State) : Type 0 where
  pub profile : part.world.profile ≡ whole.world.profile
  pub modules : part.world.modules ≡ whole.world.modules
  pub used : part.world.used ≡ whole.world.used
  pub once : IsDistinct nat_eq (keys_of part.world.conversations)
  pub conversations : (id : ℕ)
      → conversation part.world id ≡ (if ids id then conversation whole.world id else None)
  pub marks : (id : ℕ) → part.marks id ≡ (if ids id then whole.marks id else Fresh)
