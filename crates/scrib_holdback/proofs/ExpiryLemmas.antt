-- What the oldest waiting item makes possible when it expires.
use Rattle.std.proofs.Common.{◌≡◌, inl, inr, ◌||◌, true, ℕ, List, [], ◌∷◌, ◌++◌, drop, length, slice_get, Option, Some, None, MatchOption, refl, sym, ap, ◌∙◌, subst, append_assoc}
use Rattle.std.specs.Str.{bytes_eq}
use Rattle.std.proofs.lemmas.Bool.{cases_Bool}
use Rattle.scrib_types.specs.declared.event.Event.{Event}
use Rattle.scrib_types.specs.Logs.{subject_of}
use Rattle.scrib_holdback.specs.Reorderings.{is_own}
use Rattle.scrib_holdback.specs.HoldBack.{IsQuiescent, HoldsWithExpiries, expires}
use Rattle.scrib_holdback.specs.Holdings.{Holding, IsAfter, IsOldestWaiting, IsExpired}
use Rattle.scrib_holdback.specs.Releases.{CountsEvent, own_items, HasDue, WaitsAt, IsOldestOfRole, IsQuiet, IsQuietAt, IsTakenOut, IsTakenOnto, Releases, IsDrained, is_send_to, sends_to, OnlyReceivers}
use Rattle.scrib_holdback.proofs.OwnEvents.{name_itself, same_name}
use Rattle.scrib_holdback.proofs.Positions.{any_right}
use Rattle.scrib_holdback.proofs.ReleaseLemmas.{own_item_yes, due_of_other, due_before, counts_one, IsKept, kept_all, after_kept, quiet_of_settled, drained_join, drop_behind}
use Rattle.scrib_holdback.proofs.HoldbackLemmas.{role_at}

own_item : {A : Type 0} (event : A → Event) (r : List ℕ) (x : A) → r ≡ subject_of (event x) → is_own r (event x) ≡ true
own_item event r x mine = ap (λ z. bytes_eq z (subject_of (event x))) mine ∙ name_itself (subject_of (event x))

-- the oldest item waits at its role's place
pub oldest_waits : {A : Type 0} (event : A → Event) (h : Holding A) (place : ℕ) → IsOldestOfRole event h place → WaitsAt event h place
oldest_waits event h place at =
    let r = subject_of (event at.x) in
    record {
      x = at.x;
      role = at.role;
      others = own_items event r at.oldest.0;
      first = ap (own_items event r) at.oldest.1 ∙ own_item_yes event r at.x at.oldest.0 (own_item event r at.x refl);
    }

-- an item behind none of its role, where the first of all is of its role, is the first of all
front_taken : {A : Type 0} (event : A → Event) (r : List ℕ) (waiting earlier later rest : List A) (x y : A) → waiting ≡ y ∷ rest → waiting ≡ earlier ++ x ∷ later → is_own r (event y) ≡ true → own_items event r earlier ≡ [] → (x ≡ y) × (earlier ++ later ≡ rest)
front_taken event r waiting [] later rest x y was is own none =
    let both : x ∷ later ≡ y ∷ rest = sym is ∙ was in
    let same : x ≡ y = cc in
    let left : later ≡ rest = cc in
    (same, left)
front_taken event r waiting (z ∷ earlier) later rest x y was is own none =
    let both : y ∷ rest ≡ z ∷ (earlier ++ x ∷ later) = sym was ∙ is in
    let same : y ≡ z = cc in
    let mine : is_own r (event z) ≡ true = subst (λ v. is_own r (event v) ≡ true) same own in
    let some : z ∷ own_items event r earlier ≡ [] = sym (own_item_yes event r z earlier mine) ∙ none in
    absurd (cc)

-- the oldest item is taken out
oldest_taken : {A : Type 0} (event : A → Event) (place : ℕ) (old new : Holding A) (released now : List A) (at : IsOldestOfRole event old place) (k : IsTakenOnto event place old new released now) → (k.x ≡ at.x) × (new.waiting ≡ at.oldest.0)
oldest_taken event place old new released now at k =
    let t = k.taken in
    let r = subject_of (event k.x) in
    let mine : r ≡ subject_of (event at.x) = role_at old.roles place r (subject_of (event at.x)) k.role at.role in
    let f = front_taken event r old.waiting t.earlier t.later at.oldest.0 k.x at.x at.oldest.1 t.was (own_item event r at.x mine) t.first in
    (f.0, t.now ∙ f.1)

-- once its role has released all that it may, only receivers of what was sent since may release
expired_receivers : {A : Type 0} (event : A → Event) (x : A) (old mid new : Holding A) (given : List A) → IsTakenOut event old mid x → Releases event mid given new → (HasDue event (subject_of (event x)) new → ⊥) → IsQuiet event old → OnlyReceivers event (x ∷ given) new
expired_receivers event x old mid new given step rs done quiet r due =
    elim (cases_Bool (is_own r (event x))) [
      | inl own ↦ absurd (done (subst (λ z. HasDue event z new) (same_name r (subject_of (event x)) own) due))
      | inr other ↦ elim (due_before event mid rs r due) [
        | inl d ↦ elim (cases_Bool (is_send_to r (event x))) [
          | inl y ↦ ap (λ b. b || sends_to event r given) y
          | inr n ↦ absurd (quiet r (due_of_other event old mid x step r other n d))
        ]
        | inr s ↦ any_right (λ z. is_send_to r (event z)) (x ∷ []) given s
      ]
    ]

-- the rule after the oldest item expired
expired_kept : {A : Type 0} (event : A → Event) (arrivals log expired : List A) (old mid : Holding A) (x : A) (later : List A) → IsAfter event arrivals log expired old → old.waiting ≡ x ∷ later → mid.waiting ≡ later → CountsEvent (event x) old.flights mid.flights → IsKept event arrivals (log ++ x ∷ []) (expired ++ x ∷ []) mid
expired_kept event arrivals log expired old mid x later h was now counted =
    let holds = subst (λ z. HoldsWithExpiries event arrivals log expired z) was h.held.holds in
    let settled = subst (λ z. IsQuiescent event log z) was h.held.settled in
    record {
      holds = subst (λ z. HoldsWithExpiries event arrivals (log ++ x ∷ []) (expired ++ x ∷ []) z) (sym now) (expires x later holds settled);
      counts = counts_one event log x old.flights mid.flights h.counts counted;
    }

module _ {A : Type 0} (event : A → Event) (place start : ℕ) (old mid next new : Holding A) (released at between now : List A) (o : IsOldestOfRole event old place) (k : IsTakenOnto event place old mid released at) (d : IsDrained event mid next at between) (e : IsDrained event next new between now) where
  -- all that was released after the oldest
  drained : IsDrained event mid new at now
  drained = drained_join event mid next new at between now d e

  expired_quiet : mid.roles ≡ old.roles → start ≡ length released → IsQuietAt event place next → (OnlyReceivers event (drop start between) next → IsQuiet event new) → IsQuiet event old → IsQuiet event new
  expired_quiet roles long done quiet q =
      let sent : between ≡ released ++ k.x ∷ d.given = d.appended ∙ ap (λ z. z ++ d.given) k.appended ∙ append_assoc released (k.x ∷ []) d.given in
      let role : slice_get next.roles place ≡ Some (subject_of (event k.x)) = ap (λ z. slice_get z place) (d.roles ∙ roles) ∙ k.role in
      let only = expired_receivers event k.x old mid next d.given k.taken d.releases (done (subject_of (event k.x)) role) q in
      quiet (subst (λ z. OnlyReceivers event z next) (sym (drop_behind released (k.x ∷ d.given) between start long sent)) only)

  expired_after : (IsQuiet event old → IsQuiet event new) → (arrivals log expired : List A) → IsAfter event arrivals log expired old → IsAfter event arrivals (log ++ k.x ∷ drained.given) (expired ++ k.x ∷ []) new
  expired_after quiet arrivals log expired h =
      let f = oldest_taken event place old mid released at o k in
      let was : old.waiting ≡ k.x ∷ o.oldest.0 = o.oldest.1 ∙ ap (λ z. z ∷ o.oldest.0) (sym f.0) in
      let first = expired_kept event arrivals log expired old mid k.x o.oldest.0 h was f.1 k.taken.counts in
      let all = kept_all event mid drained.releases arrivals (log ++ k.x ∷ []) (expired ++ k.x ∷ []) first in
      after_kept event arrivals (log ++ k.x ∷ drained.given) (expired ++ k.x ∷ []) new
      (subst (λ z. IsKept event arrivals z (expired ++ k.x ∷ []) new) (append_assoc log (k.x ∷ []) drained.given) all)
      (quiet (quiet_of_settled event log old h.counts h.held.settled))

  pub expires_oldest : mid.roles ≡ old.roles → start ≡ length released → IsQuietAt event place next → (OnlyReceivers event (drop start between) next → IsQuiet event new) → IsExpired event old new released now
  expires_oldest roles long done quiet =
      let f = oldest_taken event place old mid released at o k in
      record {
        oldest = k.x;
        waited = (o.oldest.0, o.oldest.1 ∙ ap (λ z. z ∷ o.oldest.0) (sym f.0));
        given = drained.given;
        appended = drained.appended ∙ ap (λ z. z ++ drained.given) k.appended ∙ append_assoc released (k.x ∷ []) drained.given;
        after = expired_after (expired_quiet roles long done quiet);
      }

-- the place of the oldest item's role
pub oldest_at : {A : Type 0} (event : A → Event) (h : Holding A) (x : A) (r : List ℕ) (o : Option ℕ) → IsOldestWaiting h.waiting x → r ≡ subject_of (event x) → MatchOption o (own_items event r h.waiting ≡ []) (λ place. slice_get h.roles place ≡ Some r) → MatchOption o (h.waiting ≡ []) (λ place. IsOldestOfRole event h place)
oldest_at event h x r None oldest mine none =
    let some : [] ≡ x ∷ own_items event r oldest.0 = sym none ∙ ap (own_items event r) oldest.1 ∙ own_item_yes event r x oldest.0 (own_item event r x mine) in
    absurd (cc)
oldest_at event h x r (Some i) oldest mine at = record { x = x; role = at ∙ ap (λ z. Some z) mine; oldest = oldest }
