-- Holding arrivals back until they may have happened (this project's own; a hold-back queue, whose order extends
-- "happened before" of Lamport, CACM 1978). Items arrive one by one, each with its event.
use Rattle.std.specs.Prelude.{◌≡◌, ◌<◌, List, [], ◌∷◌, ◌++◌, map, length}
use Rattle.scrib_types.specs.declared.event.Event.{Event}
use Rattle.scrib_types.specs.declared.event.Event.TheVariants.{Join, Sent, Received}
use Rattle.scrib_types.specs.Logs.{subject_of}
use Rattle.scrib_types.specs.Queues.{sent, received}
use Rattle.scrib_holdback.specs.Reorderings.{own_events}

-- after these events the next may have happened: a reception, if more was sent on its pair than was received
abbrev pub MayHappen : List Event → Event → Type 0
MayHappen log (Join r) = Unit {0}
MayHappen log (Sent p q m) = Unit {0}
MayHappen log (Received p q m) = length (received p q log) < length (sent p q log)

-- The waiting item may be released: of those that wait, it is the first of its role, and its event may have happened
-- after what was released. The earlier items are those that wait and arrived before it.
pub record IsReleasable {X : Type 0} (event : X → Event) (released earlier : List X) (x : X) : Type 0 where
  pub first : own_events (subject_of (event x)) (map event earlier) ≡ []
  pub next : MayHappen (map event released) (event x)

-- no waiting item may be released
abbrev pub IsQuiescent : {X : Type 0} → (X → Event) → List X → List X → Type 0
IsQuiescent {X} event released waiting =
    (earlier later : List X) (x : X) → waiting ≡ earlier ++ x ∷ later → IsReleasable event released earlier x → ⊥

-- The rule. These items arrived, these were released, some of them expired, and these wait, in order of arrival. An
-- item arrives, and the oldest that waits expires, once no waiting item may be released. What expires is released as it
-- is, though it may not have happened yet.
pub data HoldsWithExpiries {X : Type 0} (event : X → Event) : List X → List X → List X → List X → Type 0 where
  begins : HoldsWithExpiries event [] [] [] []
  arrives : {arrivals released expired waiting : List X} (x : X)
      → HoldsWithExpiries event arrivals released expired waiting → IsQuiescent event released waiting
      → HoldsWithExpiries event (arrivals ++ x ∷ []) released expired (waiting ++ x ∷ [])
  releases : {arrivals released expired : List X} (earlier : List X) (x : X) (later : List X)
      → HoldsWithExpiries event arrivals released expired (earlier ++ x ∷ later) → IsReleasable event released earlier x
      → HoldsWithExpiries event arrivals (released ++ x ∷ []) expired (earlier ++ later)
  expires : {arrivals released expired : List X} (oldest : X) (later : List X)
      → HoldsWithExpiries event arrivals released expired (oldest ∷ later)
      → IsQuiescent event released (oldest ∷ later)
      → HoldsWithExpiries event arrivals (released ++ oldest ∷ []) (expired ++ oldest ∷ []) later

-- by the rule all that may be released of the arrivals was released, in this order, and the rest still waits
pub record IsHeldWithExpiries {X : Type 0} (event : X → Event) (arrivals released expired waiting : List X)
    : Type 0 where
  pub holds : HoldsWithExpiries event arrivals released expired waiting
  pub settled : IsQuiescent event released waiting

-- the same where nothing expired
abbrev pub IsHeldBack : {X : Type 0} → (X → Event) → List X → List X → List X → Type 0
IsHeldBack event arrivals released waiting = IsHeldWithExpiries event arrivals released [] waiting
