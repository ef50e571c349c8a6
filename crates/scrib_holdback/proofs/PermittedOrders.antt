-- A causal reordering of a permitted log is permitted.
use Rattle.std.proofs.Common.{◌≡◌, ℕ, true, List, [], ◌∷◌, ◌++◌, refl, sym, ap, ◌∙◌, subst, append-nil}
use Rattle.std.specs.List.{AllByRecursion}
use Rattle.scrib_types.specs.declared.event.Event.{Event}
use Rattle.scrib_types.specs.WellFormed.{has_role}
use Rattle.scrib_types.specs.Agreement.{Agreement}
use Rattle.scrib_types.specs.Permitted.{IsPermitted}
use Rattle.scrib_types.specs.Logs.{subject_of, AllJoined}
use Rattle.scrib_types.specs.Queues.{sent, received, IsPrefix, IsQueued}
use Rattle.scrib_types.specs.Traces.{IsTrace}
use Rattle.scrib_holdback.specs.Reorderings.{is_own, own_events, IsReordering}
use Rattle.scrib_holdback.proofs.OwnEvents.{IsKeptAfter, kept_after, own_here, own-append, same_sent, same_received, same_actions, joined_same}
use Rattle.scrib_holdback.proofs.CausalOrders.{IsCausal, causal_queued}

-- what holds of each event in its place
all_from_places : {X : Type 0} (P : X → Type 0) (xs : List X) → ((before after : List X) (x : X) → xs ≡ before ++ x ∷ after → P x) → AllByRecursion P xs
all_from_places P [] h = tt
all_from_places P (x ∷ xs) h = (h [] xs x refl, all_from_places P xs (λ before after y e. h (x ∷ before) after y (ap (λ z. x ∷ z) e)))

all_at : {X : Type 0} (P : X → Type 0) (before after : List X) (x : X) → AllByRecursion P (before ++ x ∷ after) → P x
all_at P [] after x h = h.0
all_at P (y ∷ before) after x h = all_at P before after x h.1

-- the place of an event in another order of the log
place_in_other : (log other : List Event) → IsReordering log other → (before after : List Event) (e : Event) → log ≡ before ++ e ∷ after → IsKeptAfter (is_own (subject_of e)) other (own_events (subject_of e) before) e
place_in_other log other o before after e eq =
    let s = subject_of e in
    kept_after (is_own s) other (own_events s before) (own_events s after) e
    (o s ∙ ap (own_events s) eq ∙ own-append s before (e ∷ after) ∙ ap (λ z. own_events s before ++ z) (own_here e after))

joined_in_other : (roles : List (List ℕ)) (log other : List Event) → IsReordering log other → AllJoined roles other → AllJoined roles log
joined_in_other roles log other o all before after e eq =
    let k = place_in_other log other o before after e eq in
    joined_same roles before k.front e (sym k.kept) (all k.front k.back e k.whole)

declared_in_other : (roles : List (List ℕ)) (log other : List Event) → IsReordering log other → AllByRecursion (λ e. has_role (subject_of e) roles ≡ true) other → AllByRecursion (λ e. has_role (subject_of e) roles ≡ true) log
declared_in_other roles log other o all =
    let P : Event → Type 0 = λ e. has_role (subject_of e) roles ≡ true in
    all_from_places P log
    (λ before after e eq. let k = place_in_other log other o before after e eq in
    all_at P k.front k.back e (subst (AllByRecursion P) k.whole all))

prefix_in_other : (p q : List ℕ) (log other : List Event) → IsReordering log other → IsQueued other → IsPrefix (received p q log) (sent p q log)
prefix_in_other p q log other o h =
    let x = h other [] (sym (append-nil other)) p q in
    (x.0, same_sent p q log other (sym (o p)) ∙ x.1 ∙ ap (λ z. z ++ x.0) (same_received p q other log (o q)))

pub permitted_in_other : (a : Agreement) (log other : List Event) → IsReordering log other → IsPermitted a other → IsCausal log → IsPermitted a log
permitted_in_other a log other o h c = record {
  joined = joined_in_other a.roles log other o h.joined;
  declared = declared_in_other a.roles log other o h.declared;
  traces = λ r d. let t = h.traces r d in (t.0, t.1, subst (IsTrace t.0) (same_actions r other log (o r)) t.2);
  queued = causal_queued log c (λ p q. prefix_in_other p q log other o h.queued);
}
