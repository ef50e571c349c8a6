-- Offences with their reason, and with what the role might do in their place (this project's own).
use Rattle.std.specs.Prelude.{◌≡◌, ◌≢◌, ℕ, ◌+◌, List, ◌∷◌, ◌++◌, length, Option, Some, None, AllPairs, if◌then◌else◌}
use Rattle.scrib_types.specs.declared.event.Action.{Action}
use Rattle.scrib_types.specs.declared.event.Event.{Event}
use Rattle.scrib_types.specs.declared.event.Event.TheVariants.{Join, Sent, Received}
use Rattle.scrib_types.specs.declared.event.Verdict.TheVariants.{Offence}
use Rattle.scrib_types.specs.WellFormed.{has_role}
use Rattle.scrib_types.specs.Agreement.{Agreement}
use Rattle.scrib_types.specs.Judgement.{ComesBefore}
use Rattle.scrib_types.specs.Logs.{subject_of}
use Rattle.scrib_record.specs.declared.version.Version.{Version}
use Rattle.scrib_record.specs.Stale.{Recorded}
use Rattle.scrib_record.specs.Versions.{meaning_of}
use Rattle.scrib_global.specs.declared.next.RoleNext.{RoleNext}
use Rattle.scrib_global.specs.declared.next.RoleNext.TheVariants.{MayJoin, Done, May, WaitsFor}
use Rattle.scrib_global.specs.NextEvents.{Describes}
use Rattle.scrib_reasons.specs.declared.reason.Reason.{Reason}
use Rattle.scrib_reasons.specs.declared.reason.Reason.TheVariants.{NotDeclared}
use Rattle.scrib_reasons.specs.Reasons.{MayNotFollow}
use Rattle.scrib_offences.specs.declared.explained_offence.ExplainedOffence.{ExplainedOffence}
use Rattle.scrib_offences.specs.declared.explained_offence.Situation.{Situation}
use Rattle.scrib_offences.specs.declared.explained_offence.Situation.TheVariants.{Undeclared, Next}

-- the other role that an event names: the receiver of a send, the sender of a reception; a join names one role
abbrev pub other_role : Event → List ℕ
other_role (Join r) = r
other_role (Sent p q m) = q
other_role (Received p q m) = p

-- the first role of the event that is not declared, where its subject is first; the other role where both are declared
abbrev pub undeclared_role : List (List ℕ) → Event → List ℕ
undeclared_role roles e = if has_role (subject_of e) roles then other_role e else subject_of e

-- the actions that the value lists are sorted by their printed texts, none twice
abbrev pub IsSorted : RoleNext → Type 0
IsSorted (MayJoin acts) = Unit {0}
IsSorted Done = Unit {0}
IsSorted (May acts) = AllPairs ComesBefore acts
IsSorted (WaitsFor acts) = AllPairs ComesBefore acts

-- The situation of an event that may not follow the log for the reason. Where a role is not declared, it is that role.
-- Else it is what the subject may do next, with its actions sorted.
pub data IsSituation (a : Agreement) (log : List Event) (e : Event) (r : Reason) : Situation → Type 0 where
  lacks : r ≡ NotDeclared → IsSituation a log e r (Undeclared (undeclared_role a.roles e))
  might : (next : RoleNext) → r ≢ NotDeclared → Describes a log (subject_of e) next → IsSorted next
      → IsSituation a log e r (Next next)

-- the event at this place of the log may not follow those before it, for this reason and in this situation
pub record IsExplained (a : Agreement) (log : List Event) (place : ℕ) (o : ExplainedOffence) : Type 0 where
  pub before : List Event
  pub after : List Event
  pub here : log ≡ before ++ o.event ∷ after
  pub place_is : o.place ≡ place
  pub counted : place ≡ length before + 1
  pub because : MayNotFollow a before o.event o.reason
  pub situation : IsSituation a before o.event o.reason o.situation

-- the record's verdict is an offence at this place, and it is explained under the version that the record holds
pub record IsExplainedRecord (r : Recorded) (o : ExplainedOffence) : Type 0 where
  pub version : Version
  pub held : r.held ≡ Some version
  pub place : ℕ
  pub role : List ℕ
  pub allowed : List Action
  pub verdict : r.verdict ≡ Offence place role allowed
  pub explained : IsExplained (meaning_of version) r.log place o

-- the record's offence, explained, or none where its verdict is no offence
abbrev pub ExplainsRecord : Recorded → Option ExplainedOffence → Type 0
ExplainsRecord r None =
    (place : ℕ) (role : List ℕ) (allowed : List Action) → r.verdict ≡ Offence place role allowed → ⊥
ExplainsRecord r (Some o) = IsExplainedRecord r o
