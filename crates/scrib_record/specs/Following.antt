-- When an event may follow a permitted log. Only contracts of private functions cite this file.
use Rattle.std.specs.Prelude.{◌≡◌, ℕ, true, false, List, [], ◌∷◌, ◌++◌, Some}
use Rattle.scrib_types.specs.declared.message.Message.{Message}
use Rattle.scrib_types.specs.declared.event.Action.{Action}
use Rattle.scrib_types.specs.declared.event.Action.TheVariants.{Sends, Receives}
use Rattle.scrib_types.specs.declared.event.Event.{Event}
use Rattle.scrib_types.specs.declared.event.Event.TheVariants.{Join, Sent, Received}
use Rattle.scrib_types.specs.Agreement.{Agreement}
use Rattle.scrib_types.specs.Logs.{own_actions, has_joined}
use Rattle.scrib_types.specs.Projection.{projection, widest}
use Rattle.scrib_types.specs.Queues.{sent, received}
use Rattle.scrib_types.specs.Traces.{IsTrace}
use Rattle.scrib_types.specs.Trees.{LocalTree}
use Rattle.scrib_types.specs.WellFormed.{has_role}

-- the role is declared and has joined, and its actions followed by this one are a trace of its projection
pub record MayAct (a : Agreement) (log : List Event) (role : List ℕ) (act : Action) : Type 0 where
  pub declared : has_role role a.roles ≡ true
  pub joined : has_joined role log ≡ true
  pub local : LocalTree
  pub projected : projection widest role a.global ≡ Some local
  pub trace : IsTrace local (own_actions role log ++ act ∷ [])

-- the message is the oldest in flight from p to q
abbrev pub IsOldest : List ℕ → List ℕ → Message → List Event → Type 0
IsOldest p q m log = (rest : List Message) × (sent p q log ≡ received p q log ++ m ∷ rest)

abbrev pub MayFollow : Agreement → List Event → Event → Type 0
MayFollow a log (Join r) = (has_role r a.roles ≡ true) × (has_joined r log ≡ false)
MayFollow a log (Sent p q m) = MayAct a log p (Sends q m)
MayFollow a log (Received p q m) = MayAct a log q (Receives p m) × IsOldest p q m log
