-- What each role of a conversation that a monitor holds may do next.
use Rattle.std.proofs.Common.{◌≡◌, true, ℕ, List, ◌++◌, Option, Some, subst}
use Rattle.std.specs.Prelude.{option_map}
use Rattle.std.specs.Borrow.{Bor}
use Rattle.scrib_types.specs.declared.event.Event.{Event}
use Rattle.scrib_types.specs.declared.protocol.Protocol.{Protocol}
use Rattle.scrib_types.specs.Meaning.{agreement_of}
use Rattle.scrib_library.specs.Modules.{IsMeaning}
use Rattle.scrib_core.specs.World.{World}
use Rattle.scrib_core.specs.Held.{IsViewed}
use Rattle.scrib_global.specs.declared.next.RoleStatus.{RoleStatus}
use Rattle.scrib_global.specs.NextEvents.{AreNext}
use Rattle.scrib_cli.specs.NextLines.{NextSteps, lists, next_lines, complete_line, are_at_rest}
use Rattle.scrib_cli.proofs.CompleteLogLemmas.{complete_at_rest}

-- from a view of the monitor
pub steps_viewed : (w : World) (id : ℕ) (o : Option (Bor Protocol)) (p : Bor Protocol) (log : Bor (List Event)) (found : List RoleStatus) → IsViewed w id (Some (o, log)) → o ≡ Some p
    → AreNext (agreement_of p.now) log.now found → NextSteps w id true (next_lines found ++ complete_line (are_at_rest found))
steps_viewed w id o p log found h e x =
    let meaning : IsMeaning w.modules h.0.name (Some (agreement_of p.now)) = subst (λ (q : Option (Bor Protocol)). IsMeaning w.modules h.0.name (option_map (λ r. agreement_of r.now) q)) e h.2 in
    let here : AreNext (agreement_of p.now) h.0.log found = subst (λ (l : List Event). AreNext (agreement_of p.now) l found) h.3 x in
    lists h.0 (agreement_of p.now) found (are_at_rest found) h.1 meaning here (complete_at_rest (agreement_of p.now) p.now.valid h.0.log found here)
