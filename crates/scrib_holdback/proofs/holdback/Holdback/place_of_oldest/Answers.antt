use Rattle.std.proofs.Common.{◌≡◌, ◌∙◌, [], MatchOption, ap, subst}
use Rattle.scrib_types.specs.Logs.{subject_of}
use Rattle.scrib_holdback.specs.Holdings.{Holding}
use Rattle.scrib_holdback.specs.Releases.{IsOldestOfRole}
use Rattle.scrib_holdback.proofs.ExpiryLemmas.{oldest_at}
use Rattle.scrib_holdback.proofs.holdback.Holdback.place_of_oldest.Goals as goal

pub returns : goal.returns
returns g c =
    subst (λ (h : Holding g.row.A.Denot). MatchOption c.place_of.result (h.waiting ≡ []) (λ place. IsOldestOfRole g.A.Arrival.event h place)) c.self.view_is
    (oldest_at g.A.Arrival.event _ c.in_ok-arrival.arrival.now c.subject.result.now c.place_of.result c.in_ok-arrival.ensures
    (c.subject.ensures ∙ ap subject_of (c.get.ensures ∙ c.event-shared.ensures)) c.place_of.ensures)
