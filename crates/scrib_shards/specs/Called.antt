-- What a call under a lock promises of the values behind it: such values existed, and the invariants of their type hold
-- (this project's own).
use Rattle.std.specs.Prelude.{◌≡◌, ℕ, List, Result}
use Rattle.scrib_types.specs.declared.profile.Profile.{Profile}
use Rattle.scrib_types.specs.declared.event.Event.{Event}
use Rattle.scrib_types.specs.declared.event.Told.{Told}
use Rattle.scrib_tree.specs.declared.tree.ModuleTree.{ModuleTree}
use Rattle.scrib_library.specs.declared.changes.Changes.{Changes}
use Rattle.scrib_library.specs.declared.fault.EditFault.{EditFault}
use Rattle.scrib_library.specs.Holdings.{Holdings, IsAccepting}
use Rattle.scrib_library.specs.Modules.{AllProject}
use Rattle.scrib_library.specs.Profiles.{ProfileFails}
use Rattle.scrib_library.specs.Edits.{IsPut, IsChanges, AreVersionsUsed, PutFails, IsWithdrawal, AreWithdrawn, WithdrawFails}
use Rattle.scrib_core.specs.declared.reply.Refusal.{Refusal}
use Rattle.scrib_core.specs.Held.{Records}
use Rattle.scrib_core.specs.ConversationSteps.{IsOpened, OpenFails, VerdictFails}
use Rattle.scrib_locked_steps.specs.declared.pass_calls.PassRefusal.{PassRefusal}
use Rattle.scrib_core.specs.declared.conversation_steps.Noted.{Noted}
use Rattle.scrib_core.specs.declared.conversation_steps.Closed.{Closed}
use Rattle.scrib_locked_steps.specs.declared.close_calls.CloseRefusal.{CloseRefusal}
use Rattle.scrib_locked_steps.specs.Shards.{ShardHeld, IsLawfulShard}
use Rattle.scrib_locked_steps.specs.Locked.{IsConnected, ConnectFails, IsTurnedFor}
use Rattle.scrib_locked_steps.specs.Passes.{PassHeld}
use Rattle.scrib_locked_steps.specs.OneByOne.{OneByOne}
use Rattle.scrib_locked_steps.specs.Passing.{AnswersBy, IsNotedBy, PassNoteFails, IsAskedBy, PassAskFails}
use Rattle.scrib_locked_steps.specs.Closing.{IsClosedBy, CloseByFails}
use Rattle.scrib_locked_steps.specs.Sweeping.{AreStaleIds}

-- a put of the text into some library made these changes
pub record IsPutSome (text : List ℕ) (changes : Changes) : Type 0 where
  pub old : Holdings
  pub new : Holdings
  pub accepting : IsAccepting old
  pub still : IsAccepting new
  pub put : (m : ModuleTree) × IsPut old.profile old.modules text m new.modules × (changes.module ≡ m.name)
      × IsChanges old.modules new.modules changes.list
  pub versions : AreVersionsUsed old new changes.list
  pub profile : new.profile ≡ old.profile

-- a put of the text into some library has this fault
abbrev pub PutFailsSome : List ℕ → EditFault → Type 0
PutFailsSome text f = (h : Holdings) × IsAccepting h × PutFails h.profile h.modules h.used text f

-- a withdrawal of the module from some library made these changes
pub record IsWithdrawnSome (name : List (List ℕ)) (changes : Changes) : Type 0 where
  pub old : Holdings
  pub new : Holdings
  pub accepting : IsAccepting old
  pub still : IsAccepting new
  pub withdrawn : IsWithdrawal old.profile old.modules name new.modules
  pub home : changes.module ≡ name
  pub changed : IsChanges old.modules new.modules changes.list
  pub kinds : AreWithdrawn changes.list
  pub versions : AreVersionsUsed old new changes.list
  pub unused : new.used ≡ old.used
  pub profile : new.profile ≡ old.profile

-- a withdrawal of the module from some library has this fault
abbrev pub WithdrawFailsSome : List (List ℕ) → EditFault → Type 0
WithdrawFailsSome name f = (h : Holdings) × IsAccepting h × WithdrawFails h.modules name f

-- some library accepts the change to the profile
abbrev pub IsProfiledSome : Profile → Type 0
IsProfiledSome profile = (old new : Holdings) × IsAccepting old × IsAccepting new × AllProject profile old.modules
    × (new ≡ record { profile = profile; modules = old.modules; stamps = old.stamps; used = old.used })

-- the change to the profile has this fault in some library
abbrev pub ProfileFailsSome : Profile → EditFault → Type 0
ProfileFailsSome profile f = (h : Holdings) × IsAccepting h × ProfileFails h.profile profile h.modules f

-- the conversation was opened in some shard under some library
pub record IsOpenedSome (id : ℕ) (name : List (List ℕ)) : Type 0 where
  pub library : Holdings
  pub shard : ShardHeld
  pub new : Records
  pub accepting : IsAccepting library
  pub kept : IsLawfulShard shard
  pub opened : IsOpened shard.capacity library shard.records id name new

-- the opening is refused for this in some shard under some library
abbrev pub OpenFailsSome : ℕ → List (List ℕ) → Refusal → Type 0
OpenFailsSome id name f =
    (h : Holdings) × (s : ShardHeld) × IsAccepting h × IsLawfulShard s × OpenFails s.capacity h s.records id name f

-- a new pass to a conversation of some shard
abbrev pub IsConnectedSome : ℕ → PassHeld → Type 0
IsConnectedSome id p = (s : ShardHeld) × IsConnected s id p

-- a pass is refused for this in some records
abbrev pub ConnectFailsSome : ℕ → Refusal → Type 0
ConnectFailsSome id f = (rs : Records) × ConnectFails rs id f

-- the event was noted by the pass in some shard under some library
abbrev pub IsNotedSome : PassHeld → Event → Noted → Type 0
IsNotedSome p e n =
    (h : Holdings) × (old : ShardHeld) × (new : ShardHeld) × IsAccepting h × IsLawfulShard old
    × IsNotedBy h old p e n new

-- the note by the pass is refused for this in some records
abbrev pub NoteFailsSome : PassHeld → PassRefusal → Type 0
NoteFailsSome p f = (rs : Records) × PassNoteFails rs p f

-- the replies to notes by the pass, one after another, in some records under some library
abbrev pub AreAnsweredSome : PassHeld → List Event → List (Result Noted PassRefusal) → PassHeld → Type 0
AreAnsweredSome p es xs q =
    (h : Holdings) × (old : Records) × (new : Records) × IsAccepting h × OneByOne (AnswersBy h) (old, p) es xs (new, q)

-- the turn was made in some records under some library
abbrev pub IsTurnedSome : ℕ → Told → Type 0
IsTurnedSome id answer =
    (h : Holdings) × (old : Records) × (new : Records) × IsAccepting h × IsTurnedFor h old id answer new

-- a turn is refused for this in some records
abbrev pub TurnFailsSome : ℕ → Refusal → Type 0
TurnFailsSome id f = (rs : Records) × VerdictFails rs id f

-- the verdict on the pass's conversation in some records under some library
abbrev pub IsAskedSome : PassHeld → Told → Type 0
IsAskedSome p answer = (h : Holdings) × (rs : Records) × IsAccepting h × IsAskedBy h rs p answer

-- the question by the pass is refused for this in some records
abbrev pub AskFailsSome : PassHeld → PassRefusal → Type 0
AskFailsSome p f = (rs : Records) × PassAskFails rs p f

-- the conversation was closed by the passes in some shard under some library
abbrev pub IsClosedSome : ℕ → List PassHeld → Closed → Type 0
IsClosedSome id passes closed =
    (h : Holdings) × (old : ShardHeld) × (new : ShardHeld) × IsAccepting h × IsLawfulShard old
    × IsClosedBy h old id passes closed new

-- the close by the passes is refused for this in some shard
abbrev pub CloseFailsSome : ℕ → List PassHeld → CloseRefusal → Type 0
CloseFailsSome id passes f = (s : ShardHeld) × CloseByFails s id passes f

-- the ids of the stale conversations of some records under some library
abbrev pub AreStaleSome : List ℕ → Type 0
AreStaleSome ids = (h : Holdings) × (rs : Records) × IsAccepting h × AreStaleIds h rs ids
