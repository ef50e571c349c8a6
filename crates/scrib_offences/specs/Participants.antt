-- What the participant of a role shows of each log that leads to the configuration. Only contracts of private functions cite
-- this file.
use Rattle.std.specs.Prelude.{◌≡◌, ◌↔◌, ℕ, ◌<◌, List, [], ◌∷◌, length, map, Option, Some, None}
use Rattle.scrib_types.specs.declared.message.Message.{Message}
use Rattle.scrib_types.specs.declared.event.Action.{Action}
use Rattle.scrib_types.specs.declared.event.Action.TheVariants.{Receives}
use Rattle.scrib_types.specs.declared.event.Event.{Event}
use Rattle.scrib_types.specs.Agreement.{Agreement}
use Rattle.scrib_types.specs.Logs.{has_joined}
use Rattle.scrib_types.specs.Trees.{LocalTree}
use Rattle.scrib_machine.specs.declared.machine.Edge.{Edge}
use Rattle.scrib_machine.specs.Machines.{Steps}
use Rattle.scrib_record.specs.declared.configuration.Configuration.{Configuration}
use Rattle.scrib_record.specs.declared.version.Version.{Version}
use Rattle.scrib_record.specs.Configurations.{LeadsTo}
use Rattle.scrib_record.specs.Places.{place_in}
use Rattle.scrib_record.specs.Versions.{meaning_of}
use Rattle.scrib_global.specs.declared.next.RoleNext.{RoleNext}
use Rattle.scrib_global.specs.declared.next.RoleNext.TheVariants.{May, WaitsFor}
use Rattle.scrib_global.specs.Next.{IsTypeAfter}
use Rattle.scrib_global.specs.NextEvents.{Describes}
use Rattle.scrib_reasons.specs.Reasons.{Makes}
use Rattle.scrib_offences.specs.declared.participant.Participant.{Participant}
use Rattle.scrib_offences.specs.ExplainedOffences.{IsSorted}

-- The role after the log: whether it joined, and its state. The state steps exactly by the actions that the local type
-- left to the role makes.
pub record IsParticipantAfter (a : Agreement) (log : List Event) (role : List ℕ) (participant : Participant) : Type 0 where
  pub joined : participant.state.joined ≡ has_joined role log
  pub exact : (left : LocalTree) → IsTypeAfter a.global log role left
      → (act : Action) → ((n : ℕ) × Steps participant.machine.now participant.state.state act n) ↔ Makes left act

-- the role has this participant in the configuration
pub record IsParticipant (v : Version) (c : Configuration) (role : List ℕ) (participant : Participant) : Type 0 where
  pub place : place_in (meaning_of v).roles role ≡ Some participant.place
  pub within : participant.state.state < length participant.machine.now
  pub after : (log : List Event) → LeadsTo (meaning_of v) v.machines log c → IsParticipantAfter (meaning_of v) log role participant

-- the actions of edges, in order
abbrev pub actions_of : List Edge → List Action
actions_of edges = map (λ e. e.action) edges

-- What a role may do whose type makes these receptions from p: it may receive the oldest message in flight from p to
-- it, or it waits where none is.
abbrev pub next_reception : List ℕ → (oldest : Option Message) → List Action → RoleNext
next_reception p None acts = WaitsFor acts
next_reception p (Some m) acts = May (Receives p m ∷ [])

-- what the role may do next after the log, with its actions sorted
pub record IsNext (a : Agreement) (log : List Event) (role : List ℕ) (next : RoleNext) : Type 0 where
  pub described : Describes a log role next
  pub sorted : IsSorted next
