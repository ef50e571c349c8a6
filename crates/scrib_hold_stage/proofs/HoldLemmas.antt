-- What is held of arrivals in order.
use Rattle.std.proofs.Common.{◌≡◌, ℕ, ◌+◌, ◌<◌, Bool, List, [], ◌∷◌, arith}
use Rattle.std.specs.List.{AllByRecursion}
use Rattle.scrib_types.specs.declared.event.Event.{Event}
use Rattle.scrib_holdback.specs.HoldBack.{HoldsWithExpiries, begins, arrives, releases, expires}
use Rattle.scrib_hold_stage.specs.Deadlines.{IsInOrder, how_many}
use Rattle.scrib_hold_stage.proofs.Lists.{all_append, all_left, all_right, all_without, many-append, order_left, order_without, order_push, all_before}

module _ {X : Type 0} (event : X → Event) where
  -- each arrival was released or waits
  pub parts_count : {arrivals released expired waiting : List X} → HoldsWithExpiries event arrivals released expired waiting → (p : X → Bool) → how_many p arrivals ≡ how_many p released + how_many p waiting
  parts_count begins p = omega arith
  parts_count (arrives {arrivals = a} {waiting = w} x h n) p = omega (arith, many-append p a (x ∷ []), many-append p w (x ∷ []), parts_count h p)
  parts_count (releases {arrivals = a} {released = r} earlier x later h d) p = omega (arith, many-append p r (x ∷ []), many-append p earlier (x ∷ later), many-append p earlier later, many-append p (x ∷ []) later, parts_count h p)
  parts_count (expires {released = r} x later h n) p = omega (arith, many-append p r (x ∷ []), many-append p (x ∷ []) later, parts_count h p)

  -- what holds of each arrival holds of each that waits
  pub waiting_all : (P : X → Type 0) → {arrivals released expired waiting : List X} → HoldsWithExpiries event arrivals released expired waiting → AllByRecursion P arrivals → AllByRecursion P waiting
  waiting_all P begins a = tt
  waiting_all P (arrives {arrivals = b} {waiting = w} x h n) a = all_append P w (x ∷ []) (waiting_all P h (all_left P b (x ∷ []) a)) (all_right P b (x ∷ []) a)
  waiting_all P (releases earlier x later h d) a = all_without P earlier x later (waiting_all P h a)
  waiting_all P (expires x later h n) a = (waiting_all P h a).1

  -- where the arrivals are in order, so is what waits
  pub waiting_order : (time : X → ℕ) → {arrivals released expired waiting : List X} → HoldsWithExpiries event arrivals released expired waiting → IsInOrder time arrivals → IsInOrder time waiting
  waiting_order time begins o = tt
  waiting_order time (arrives {arrivals = b} {waiting = w} x h n) o =
      order_push time w x (waiting_order time h (order_left time b (x ∷ []) o)) (waiting_all (λ y. time y < time x) h (all_before time b x [] o))
  waiting_order time (releases earlier x later h d) o = order_without time earlier x later (waiting_order time h o)
  waiting_order time (expires x later h n) o = (waiting_order time h o).1
