-- The offences of conversations, as they are reported (this project's own).
use Rattle.std.specs.Prelude.{◌≡◌, ℕ, List, Some}
use Rattle.scrib_types.specs.declared.event.Action.{Action}
use Rattle.scrib_types.specs.Agreement.{Agreement}
use Rattle.scrib_library.specs.Modules.{Means}
use Rattle.scrib_core.specs.World.{Conversation, conversation}
use Rattle.scrib_core.specs.Answers.{State}
use Rattle.scrib_offences.specs.ExplainedOffences.{IsExplained}
use Rattle.scrib_findings.specs.declared.finding.ReportedOffence.{ReportedOffence}
use Rattle.scrib_reported.specs.Kept.{line_at}

-- In the state the conversation's event at this place may not follow those before it, under the present meaning of its
-- protocol, which has this name. The offence has that event, its line among these, and the reason. The actions are
-- those that the verdict allows.
pub record IsOffenceIn (s : State) (id : ℕ) (lines : List ℕ) (place : ℕ) (allowed : List Action)
    (protocol : List (List ℕ)) (o : ReportedOffence) : Type 0 where
  pub of : Conversation
  pub there : conversation s.world id ≡ Some of
  pub protocol_is : protocol ≡ of.name
  pub agreement : Agreement
  pub means : Means s.world.modules of.name agreement
  pub explained : IsExplained agreement of.log place o.explained
  pub allowed_are : o.allowed ≡ allowed
  pub line_is : o.line ≡ line_at lines place

-- The two are one offence: their places, reasons, situations and allowed actions are the same. In a conversation the
-- event and its line follow from the place.
pub record IsSame (a b : ReportedOffence) : Type 0 where
  pub place : a.explained.place ≡ b.explained.place
  pub reason : a.explained.reason ≡ b.explained.reason
  pub situation : a.explained.situation ≡ b.explained.situation
  pub allowed : a.allowed ≡ b.allowed
