-- The oldest message in flight between two roles, read off the configuration.
use Rattle.std.proofs.Common.{◌≡◌, ◌&&◌, ℕ, false, List, [], ◌∷◌, ◌++◌, Option, Some, None, drop, length, map, slice_get, sym, ap, ◌∙◌, arith}
use Rattle.std.proofs.lemmas.List.{drop_all, drop-append-le}
use Rattle.scrib_types.specs.declared.message.Message.{Message}
use Rattle.scrib_types.specs.declared.event.Event.{Event}
use Rattle.scrib_types.specs.WellFormed.{has_role}
use Rattle.scrib_types.specs.Permitted.{IsPermitted}
use Rattle.scrib_types.specs.Queues.{sent, received, flights}
use Rattle.scrib_queues.specs.Channels.{queue_of}
use Rattle.scrib_record.specs.declared.configuration.Configuration.{Configuration}
use Rattle.scrib_record.specs.declared.exchanges.Exchange.{Exchange}
use Rattle.scrib_record.specs.declared.version.Version.{Version}
use Rattle.scrib_record.specs.Configurations.{LeadsTo, exchanges_of, in_flight, message_at, message_in}
use Rattle.scrib_record.specs.Places.{place_in}
use Rattle.scrib_record.specs.Versions.{meaning_of}
use Rattle.scrib_record.proofs.FlightLemmas.{front_missing}
use Rattle.scrib_record.proofs.RolePlaces.{not_declared}
use Rattle.scrib_global.specs.Next.{oldest_of}
use Rattle.scrib_global.proofs.UndeclaredFlights.{nothing_elsewhere}

-- what was sent and not received is in flight
flights_are : (p q : List ℕ) (log : List Event) (flight : List Message) → sent p q log ≡ received p q log ++ flight → flights p q log ≡ flight
flights_are p q log flight e = ap (drop (length (received p q log))) e ∙ past (received p q log) flight
  where
    past : (xs ys : List Message) → drop (length xs) (xs ++ ys) ≡ ys
    past xs ys = drop-append-le (length xs) xs ys (omega arith) ∙ ap (λ z. z ++ ys) (drop_all (length xs) xs (omega arith))

-- two declared roles, the log, and where it leads
pub record Between (v : Version) (c : Configuration) (log : List Event) (p q : List ℕ) (i j : ℕ) : Type 0 where
  pub leads : LeadsTo (meaning_of v) v.machines log c
  pub sender : place_in (meaning_of v).roles p ≡ Some i
  pub receiver : place_in (meaning_of v).roles q ≡ Some j

oldest_is : (v : Version) (c : Configuration) (log : List Event) (p q : List ℕ) (i j : ℕ) → Between v c log p q i j → oldest_of (flights p q log) ≡ oldest_of (in_flight c i j)
oldest_is v c log p q i j x = ap oldest_of (flights_are p q log (in_flight c i j) (x.leads.flying p q i j x.sender x.receiver))

-- a role that is not declared sent nothing
pub from_nobody : (v : Version) (log : List Event) (p q : List ℕ) → IsPermitted (meaning_of v) log → place_in (meaning_of v).roles p ≡ None → None ≡ oldest_of (flights p q log)
from_nobody v log p q pm n =
    let roles = (meaning_of v).roles in
    let neither : (has_role p roles && has_role q roles) ≡ false = ap (λ b. b && has_role q roles) (not_declared roles p n) in
    sym (ap oldest_of (nothing_elsewhere (meaning_of v) v.protocol.valid log pm p q neither))

-- nothing is queued
pub none_queued : (v : Version) (c : Configuration) (log : List Event) (p q : List ℕ) (i j : ℕ) → Between v c log p q i j → queue_of c.queues i j ≡ [] → None ≡ oldest_of (flights p q log)
none_queued v c log p q i j x e =
    sym (oldest_is v c log p q i j x ∙ ap (λ (ks : List ℕ). oldest_of (map (message_at (exchanges_of c.numbering)) ks)) e)

-- the first number is that of no exchange
pub not_missing : (v : Version) (c : Configuration) (log : List Event) (p q : List ℕ) (i j k : ℕ) (rest : List ℕ) → Between v c log p q i j → slice_get (exchanges_of c.numbering) k ≡ None → queue_of c.queues i j ≡ k ∷ rest → ⊥
not_missing v c log p q i j k rest x none e = front_missing (exchanges_of c.numbering) i j k (queue_of c.queues i j) rest none e (x.leads.queued i j)

-- the first number is that of this exchange
pub first_queued : (v : Version) (c : Configuration) (log : List Event) (p q : List ℕ) (i j k : ℕ) (rest : List ℕ) (y : Exchange) → Between v c log p q i j → slice_get (exchanges_of c.numbering) k ≡ Some y → queue_of c.queues i j ≡ k ∷ rest → Some y.message ≡ oldest_of (flights p q log)
first_queued v c log p q i j k rest y x here e =
    let es = exchanges_of c.numbering in
    sym (oldest_is v c log p q i j x ∙ ap (λ (ks : List ℕ). oldest_of (map (message_at es) ks)) e ∙ ap (λ (o : Option Exchange). Some (message_in o)) here)
