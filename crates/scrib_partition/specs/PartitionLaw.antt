-- The law of partition (this project's own): what answers a list of steps answers its parts, and the other way round.
use Rattle.std.specs.Prelude.{◌≡◌, ◌≢◌, ℕ, ◌+◌, ◌-◌, ◌<◌, ◌≤◌, Bool, List, [], ◌∷◌, length, All, nat_eq}
use Rattle.scrib_types.specs.declared.profile.Profile.{Profile}
use Rattle.scrib_core.specs.declared.step.Step.{Step}
use Rattle.scrib_core.specs.declared.reply.Refusal.TheVariants.{TooManyConversations}
use Rattle.scrib_core.specs.declared.reply.Reply.{Reply}
use Rattle.scrib_core.specs.declared.reply.Reply.TheVariants.{Opened, Closed, Refused}
use Rattle.scrib_core.specs.declared.monitor.TheConstants.{MAX_CONVERSATIONS}
use Rattle.scrib_core.specs.Answers.{State, Answers, initial_under}
use Rattle.scrib_partition.specs.Partition.{part_of_steps, replies_of, restricted, IsConsistent, IsPart}

-- no reply is the refusal `TooManyConversations`
abbrev pub AreNeverTooMany : List Reply → Type 0
AreNeverTooMany replies = All (λ r. r ≢ Refused TooManyConversations) replies

-- Let replies answer the whole list, and none be `TooManyConversations`. Then those to a part's steps answer the part,
-- from the part of the state before to the part of the state after.
abbrev pub AnswersPart : Type 0
AnswersPart =
    (ids : ℕ → Bool) (s t p : State) (steps : List Step) (replies : List Reply) → IsConsistent s → IsPart ids s p
    → Answers s steps replies t → AreNeverTooMany replies
    → (q : State) × Answers p (part_of_steps ids steps) (replies_of ids steps replies) q × IsPart ids t q

-- the ids of the part of this number, where `part` has the number of each id
abbrev pub ids_of : (part : ℕ → ℕ) → ℕ → ℕ → Bool
ids_of part k id = nat_eq (part id) k

-- how many conversations are open after the reply
abbrev pub open_after : ℕ → Reply → ℕ
open_after n (Opened id name) = n + 1
open_after n (Closed id name events verdict complete) = n - 1
open_after n r = n

-- from so many open conversations on, at most 65,536 are open after each reply
abbrev pub AreFewOpen : ℕ → List Reply → Type 0
AreFewOpen n [] = Unit {0}
AreFewOpen n (r ∷ rs) = (open_after n r ≤ MAX_CONVERSATIONS) × AreFewOpen (open_after n r) rs

-- Let each step have a reply, and let the replies to each part's steps answer the part. Then they answer the whole, as
-- long as at most 65,536 conversations are open in it. An edit has the same reply in each part.
abbrev pub AnswersWhole : Type 0
AnswersWhole =
    (parts : ℕ) (part : ℕ → ℕ) (s : State) (p q : ℕ → State) (steps : List Step) (replies : List Reply) → 0 < parts
    → ((id : ℕ) → part id < parts) → IsConsistent s
    → ((k : ℕ) → k < parts → IsPart (ids_of part k) s (p k))
    → ((k : ℕ) → k < parts
    → Answers (p k) (part_of_steps (ids_of part k) steps) (replies_of (ids_of part k) steps replies) (q k))
    → length replies ≡ length steps → AreFewOpen (length s.world.conversations) replies
    → (t : State) × Answers s steps replies t × ((k : ℕ) → k < parts → IsPart (ids_of part k) t (q k))

-- the restricted state is such a part
abbrev pub IsRestrictedPart : Type 0
IsRestrictedPart = (ids : ℕ → Bool) (s : State) → IsConsistent s → IsPart ids s (restricted ids s)

-- a new monitor's state is consistent, and is each part of itself
abbrev pub IsInitialPart : Type 0
IsInitialPart =
    (ids : ℕ → Bool) (p : Profile) → IsConsistent (initial_under p) × IsPart ids (initial_under p) (initial_under p)

-- a consistent state stays so
abbrev pub StaysConsistent : Type 0
StaysConsistent =
    (s t : State) (steps : List Step) (replies : List Reply) → IsConsistent s → Answers s steps replies t
    → IsConsistent t
