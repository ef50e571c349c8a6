-- The plain world (this project's own). It has the profile, the accepted modules, the number of versions that the
-- accepted edits used, and the conversations. It has no verdict, mark, version or state.
use Rattle.std.specs.Prelude.{◌≡◌, ◌≢◌, ℕ, true, ◌+◌, ◌<◌, ◌≤◌, List, [], ◌∷◌, ◌++◌, length, Option, Some, None, nat_eq, IsPermutation, IsSome}
use Rattle.std.specs.Map.{lookup, set_value}
use Rattle.scrib_types.specs.declared.event.Event.{Event}
use Rattle.scrib_types.specs.Agreement.{Agreement}
use Rattle.scrib_types.specs.declared.profile.Profile.{Profile}
use Rattle.scrib_types.specs.declared.profile.Profile.TheVariants.{Plain, Reception}
use Rattle.scrib_lexer.specs.Tokens.{max_text_bytes}
use Rattle.scrib_tree.specs.declared.tree.ModuleTree.{ModuleTree}
use Rattle.scrib_static_checks.specs.Names.{has_name, module_names}
use Rattle.scrib_library.specs.declared.fault.EditFault.TheVariants as edit
use Rattle.scrib_library.specs.Modules.{Means, AllProject}
use Rattle.scrib_library.specs.declared.changes.Change.{Change}
use Rattle.scrib_library.specs.Edits.{IsPut, IsChanges, new_versions, PutFails, IsWithdrawal, WithdrawFails}
use Rattle.scrib_library.specs.Profiles.{ProfileFails}
use Rattle.scrib_core.specs.declared.step.Step.{Step}
use Rattle.scrib_core.specs.declared.step.Step.TheVariants.{Put, Withdraw, Open, Note, Turn, Ask, Close}
use Rattle.scrib_core.specs.declared.step.Step.TheVariants as step
use Rattle.scrib_core.specs.declared.reply.Refusal.{Refusal}
use Rattle.scrib_core.specs.declared.reply.Refusal.TheVariants.{AlreadyOpen, UnknownProtocol, TooManyConversations, NoConversation, Edit, LogFull, OutOfMemory}
use Rattle.scrib_library.specs.declared.library.TheConstants.{MAX_VERSIONS}
use Rattle.scrib_record.specs.declared.record.TheConstants.{MAX_EVENTS}
use Rattle.scrib_core.specs.declared.monitor.TheConstants.{MAX_CONVERSATIONS}

-- a conversation: the full name of its protocol, and its events, oldest first
pub record Conversation : Type 0 where
  pub name : List (List ℕ)
  pub log : List Event

-- the plain world: the profile, the modules, the number of used versions, and the conversations
pub record World : Type 0 where
  pub profile : Profile
  pub modules : List ModuleTree
  pub used : ℕ
  pub conversations : List (ℕ × Conversation)

-- a world with this profile, no module and no conversation
abbrev pub nothing_under : Profile → World
nothing_under p = record { profile = p; modules = []; used = 0; conversations = [] }

-- the conversation that is open under the id, if any
abbrev pub conversation : World → ℕ → Option Conversation
conversation w id = lookup (nat_eq id) w.conversations

-- a conversation with an empty log
abbrev pub opened : List (List ℕ) → Conversation
opened name = record { name = name; log = [] }

-- the conversation with this event appended
abbrev pub noted : Conversation → Event → Conversation
noted c e = record { name = c.name; log = c.log ++ e ∷ [] }

-- The entry of the id is taken out, and no other has the id. The others stay, in any order, and each id keeps its own.
pub record IsTakenOut {X : Type 0} (id : ℕ) (old : List (ℕ × X)) (taken : X) (new : List (ℕ × X)) : Type 0 where
  pub there : lookup (nat_eq id) old ≡ Some taken
  pub rest : IsPermutation old ((id, taken) ∷ new)
  pub gone : lookup (nat_eq id) new ≡ None
  pub others : (i : ℕ) → i ≢ id → lookup (nat_eq i) new ≡ lookup (nat_eq i) old

-- each added or replaced name used a version, and at most 65,536 are used
pub record UsesVersions (w v : World) : Type 0 where
  pub list : List Change
  pub changes : IsChanges w.modules v.modules list
  pub count : v.used ≡ w.used + new_versions list
  pub few : v.used ≤ MAX_VERSIONS

-- The world after an accepted step. A put places the module of its text, and a withdrawal removes a module. A change of
-- the profile requires that each name's meaning projects under the new one. An open adds an empty log, and a note
-- appends its event. A turn and an ask change nothing. A close takes the conversation out, and the others may change
-- their order.
abbrev pub Follows : World → Step → World → Type 0
Follows w (Put text) v =
    ((m : ModuleTree) × IsPut w.profile w.modules text m v.modules) × UsesVersions w v × (v.profile ≡ w.profile)
    × (v.conversations ≡ w.conversations)
Follows w (Withdraw name) v =
    IsWithdrawal w.profile w.modules name v.modules × (v.used ≡ w.used) × (v.profile ≡ w.profile)
    × (v.conversations ≡ w.conversations)
Follows w (step.Profile p) v =
    AllProject p w.modules
    × (v ≡ record { profile = p; modules = w.modules; used = w.used; conversations = w.conversations })
Follows w (Open id name) v =
    (conversation w id ≡ None) × ((a : Agreement) × Means w.modules name a)
    × (length w.conversations < MAX_CONVERSATIONS)
    × (v ≡ record {
      profile = w.profile;
      modules = w.modules;
      used = w.used;
      conversations = w.conversations ++ (id, opened name) ∷ [];
    })
Follows w (Note id e) v =
    (c : Conversation) × (conversation w id ≡ Some c) × (length c.log < MAX_EVENTS)
    × (v ≡ record {
      profile = w.profile;
      modules = w.modules;
      used = w.used;
      conversations = set_value (nat_eq id) w.conversations (noted c e);
    })
Follows w (Turn id) v = IsSome (conversation w id) × (v ≡ w)
Follows w (Ask id) v = IsSome (conversation w id) × (v ≡ w)
Follows w (Close id) v =
    ((c : Conversation) × IsTakenOut id w.conversations c v.conversations) × (v.modules ≡ w.modules)
    × (v.used ≡ w.used) × (v.profile ≡ w.profile)

-- No other refusal applies, so that the step needs memory. A put needs it to find any refusal except that its text is
-- too long. A withdrawal needs it to name the importing module. A change to the plain profile from the reception
-- profile needs it to try the protocols.
abbrev pub NeedsMemory : World → Step → Type 0
NeedsMemory w (Put text) = length text ≤ max_text_bytes
NeedsMemory w (Withdraw name) = has_name name (module_names w.modules) ≡ true
NeedsMemory w (step.Profile p) = (w.profile ≡ Reception) × (p ≡ Plain)
NeedsMemory w (Open id name) =
    (conversation w id ≡ None) × ((a : Agreement) × Means w.modules name a)
    × (length w.conversations < MAX_CONVERSATIONS)
NeedsMemory w (Note id e) = (c : Conversation) × (conversation w id ≡ Some c) × (length c.log < MAX_EVENTS)
NeedsMemory w (Turn id) = IsSome (conversation w id)
NeedsMemory w (Ask id) = IsSome (conversation w id)
NeedsMemory w (Close id) = IsSome (conversation w id)

-- The step is refused for this, and for nothing before it in this list. Any step may be refused memory.
abbrev pub Refuses : World → Step → Refusal → Type 0
Refuses w (Put text) (Edit (edit.Lex f)) = PutFails w.profile w.modules w.used text (edit.Lex f)
Refuses w (Put text) (Edit (edit.Parse f)) = PutFails w.profile w.modules w.used text (edit.Parse f)
Refuses w (Put text) (Edit edit.TooManyModules) = PutFails w.profile w.modules w.used text edit.TooManyModules
Refuses w (Put text) (Edit (edit.ImportMissing name)) =
    PutFails w.profile w.modules w.used text (edit.ImportMissing name)
Refuses w (Put text) (Edit edit.TooManyProtocols) = PutFails w.profile w.modules w.used text edit.TooManyProtocols
Refuses w (Put text) (Edit (edit.Elaborate f)) = PutFails w.profile w.modules w.used text (edit.Elaborate f)
Refuses w (Put text) (Edit (edit.Project u)) = PutFails w.profile w.modules w.used text (edit.Project u)
Refuses w (Put text) (Edit edit.VersionsFull) = PutFails w.profile w.modules w.used text edit.VersionsFull
Refuses w (Put text) OutOfMemory = Unit {0}
Refuses w (Withdraw name) (Edit edit.UnknownModule) = WithdrawFails w.modules name edit.UnknownModule
Refuses w (Withdraw name) (Edit (edit.StillImported by)) = WithdrawFails w.modules name (edit.StillImported by)
Refuses w (Withdraw name) OutOfMemory = Unit {0}
Refuses w (step.Profile p) (Edit (edit.NeedsReception name)) =
    ProfileFails w.profile p w.modules (edit.NeedsReception name)
Refuses w (step.Profile p) OutOfMemory = Unit {0}
Refuses w (Open id name) AlreadyOpen = IsSome (conversation w id)
Refuses w (Open id name) UnknownProtocol = (conversation w id ≡ None) × ((a : Agreement) → Means w.modules name a → ⊥)
Refuses w (Open id name) TooManyConversations =
    (conversation w id ≡ None) × ((a : Agreement) × Means w.modules name a)
    × (MAX_CONVERSATIONS ≤ length w.conversations)
Refuses w (Open id name) OutOfMemory = Unit {0}
Refuses w (Note id e) NoConversation = conversation w id ≡ None
Refuses w (Note id e) LogFull = (c : Conversation) × (conversation w id ≡ Some c) × (MAX_EVENTS ≤ length c.log)
Refuses w (Note id e) OutOfMemory = Unit {0}
Refuses w (Turn id) NoConversation = conversation w id ≡ None
Refuses w (Turn id) OutOfMemory = Unit {0}
Refuses w (Ask id) NoConversation = conversation w id ≡ None
Refuses w (Ask id) OutOfMemory = Unit {0}
Refuses w (Close id) NoConversation = conversation w id ≡ None
Refuses w (Close id) OutOfMemory = Unit {0}
Refuses w _ _ = ⊥
