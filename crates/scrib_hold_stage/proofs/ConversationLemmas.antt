-- What calls do to one conversation.
use Rattle.std.proofs.Common.{◌≡◌, ◌∙◌, ℕ, true, false, List, [], ◌∷◌, ◌++◌, Option, None, Some, MatchOption, is_some, refl, sym, ap, subst, append_assoc, append-nil}
use Rattle.std.proofs.lemmas.Bool.{true≢false}
use Rattle.scrib_types.specs.declared.event.Event.{Event}
use Rattle.scrib_holdback.specs.Holdings.{IsAfter, IsOldestWaiting, IsPushed, IsExpired}
use Rattle.scrib_hold_stage.specs.declared.noted.Noted.{Noted}
use Rattle.scrib_hold_stage.specs.declared.conversation.Conversation.{Conversation}
use Rattle.scrib_hold_stage.specs.Conversations.{noted_event, waiting_in, waiting_at, IsOpen, IsUnopenedAt, IsPushedTo, IsOpenedIn, IsExpiredIn, IsOldestOfTime}

-- an open conversation's event arrives
pub pushed_open : {A : Type 0} (event : A → Event) (x : Noted A) (old new : Conversation A) (released now : List (Noted A))
    → old.opened ≡ true → new.opened ≡ old.opened → new.early.items ≡ old.early.items
    → IsPushed (noted_event event) x old.holdback new.holdback released now → IsPushedTo event x (Some old) (Some new) released now
pushed_open event x old new released now is_open same early p = record {
  given = p.given;
  appended = p.appended;
  unopened = λ waiting k. absurd (true≢false (sym is_open ∙ k.unopened));
  opened = λ arrivals earlier expired k. record {
    opened = same ∙ k.opened;
    none_early = early ∙ k.none_early;
    after = p.after arrivals earlier expired k.after;
  };
}

-- the event waits for the opening
pub pushed_early : {A : Type 0} (event : A → Event) (x : Noted A) (old new : Conversation A) (released : List (Noted A))
    → old.opened ≡ false → new.opened ≡ old.opened → new.holdback ≡ old.holdback → new.early.items ≡ old.early.items ++ x ∷ []
    → IsPushedTo event x (Some old) (Some new) released released
pushed_early event x old new released not_open same kept early = record {
  given = [];
  appended = sym (append-nil released);
  unopened = λ waiting k. (
    record {
      unopened = same ∙ k.unopened;
      wait = early ∙ ap (λ z. z ++ x ∷ []) k.wait;
      fresh = subst (IsAfter (noted_event event) [] [] []) (sym kept) k.fresh;
    },
    refl,
  );
  opened = λ arrivals earlier expired k. absurd (true≢false (sym k.opened ∙ not_open));
}

-- ---- an opening, event by event

-- these events arrived or wait for the opening, and of those that arrived these were released, and these expired
abbrev pub IsPart : {A : Type 0} → (A → Event) → Conversation A → (arrivals released expired : List (Noted A)) → Type 0
IsPart {A} event c arrivals released expired =
    (pushed : List (Noted A)) × (arrivals ≡ pushed ++ c.early.items) × IsAfter (noted_event event) pushed released expired c.holdback

-- some of what waited has arrived
pub record IsOpening {A : Type 0} (event : A → Event) (old new : Conversation A) (released now : List (Noted A)) : Type 0 where
  pub given : List (Noted A)
  pub appended : now ≡ released ++ given
  pub opened : new.opened ≡ true
  pub part : (arrivals earlier expired : List (Noted A)) → IsPart event old arrivals earlier expired → IsPart event new arrivals (earlier ++ given) expired

pub opening_none : {A : Type 0} (event : A → Event) (c : Conversation A) (released : List (Noted A)) → c.opened ≡ true → IsOpening event c c released released
opening_none event c released is_open = record {
  given = [];
  appended = sym (append-nil released);
  opened = is_open;
  part = λ arrivals earlier expired k. subst (λ z. IsPart event c arrivals z expired) (sym (append-nil earlier)) k;
}

pub opening_more : {A : Type 0} (event : A → Event) (old mid new : Conversation A) (released between now : List (Noted A)) (x : Noted A) (rest : List (Noted A))
    → IsOpening event old mid released between → mid.early.items ≡ x ∷ rest → new.early.items ≡ rest → new.opened ≡ mid.opened
    → IsPushed (noted_event event) x mid.holdback new.holdback between now → IsOpening event old new released now
opening_more event old mid new released between now x rest o was left same p = record {
  given = o.given ++ p.given;
  appended = p.appended ∙ ap (λ z. z ++ p.given) o.appended ∙ append_assoc released o.given p.given;
  opened = same ∙ o.opened;
  part = λ arrivals earlier expired k. (let m = o.part arrivals earlier expired k in (
    m.0 ++ x ∷ [],
    m.1 ∙ ap (λ z. m.0 ++ z) was ∙ sym (append_assoc m.0 (x ∷ []) rest) ∙ ap (λ z. (m.0 ++ x ∷ []) ++ z) (sym left),
    subst (λ z. IsAfter (noted_event event) (m.0 ++ x ∷ []) z expired new.holdback) (append_assoc earlier o.given p.given) (p.after m.0 (earlier ++ o.given) expired m.2),
  ));
}

pub opening_done : {A : Type 0} (event : A → Event) (old started new : Conversation A) (released now : List (Noted A)) → started.early.items ≡ old.early.items → started.holdback ≡ old.holdback → IsOpening event started new released now → new.early.items ≡ [] → IsOpenedIn event (Some old) (Some new) released now
opening_done event old started new released now early kept o none = record {
  given = o.given;
  appended = o.appended;
  unopened = λ waiting k. (let m = o.part waiting [] [] ([], sym (early ∙ k.wait), subst (IsAfter (noted_event event) [] [] []) (sym kept) k.fresh) in
      record {
        opened = o.opened;
        none_early = none;
        after = subst (λ z. IsAfter (noted_event event) z o.given [] new.holdback) (sym (m.1 ∙ ap (λ z. m.0 ++ z) none ∙ append-nil m.0)) m.2;
      });
  opened = λ arrivals earlier expired k. (let m = o.part arrivals earlier expired (arrivals, sym (append-nil arrivals) ∙ ap (λ z. arrivals ++ z) (sym (early ∙ k.none_early)), subst (IsAfter (noted_event event) arrivals earlier expired) (sym kept) k.after) in
      record {
        opened = o.opened;
        none_early = none;
        after = subst (λ z. IsAfter (noted_event event) z (earlier ++ o.given) expired new.holdback) (sym (m.1 ∙ ap (λ z. m.0 ++ z) none ∙ append-nil m.0)) m.2;
      });
}

-- the same for a conversation that is as open, and of which no event waits for its opening
pub opening_end : {A : Type 0} (event : A → Event) (old : Option (Conversation A)) (mid last : Conversation A) (released now : List (Noted A)) → last.opened ≡ mid.opened → last.holdback ≡ mid.holdback → last.early.items ≡ [] → IsOpenedIn event old (Some mid) released now → IsOpenedIn event old (Some last) released now
opening_end event old mid last released now same kept none p = record {
  given = p.given;
  appended = p.appended;
  unopened = λ waiting k. (let q = p.unopened waiting k in record { opened = same ∙ q.opened; none_early = none; after = subst (IsAfter (noted_event event) waiting p.given []) (sym kept) q.after });
  opened = λ arrivals earlier expired k. (let q = p.opened arrivals earlier expired k in record { opened = same ∙ q.opened; none_early = none; after = subst (IsAfter (noted_event event) arrivals (earlier ++ p.given) expired) (sym kept) q.after });
}

-- ---- the oldest event expires

same_oldest : {A : Type 0} (items : List A) (x y : A) → IsOldestWaiting items x → IsOldestWaiting items y → x ≡ y
same_oldest items x y p q = let both : x ∷ p.0 ≡ y ∷ q.0 = sym p.1 ∙ q.1 in cc

open_waiting : {A : Type 0} (c : Conversation A) → c.opened ≡ true → waiting_in c ≡ c.holdback.waiting
open_waiting c yes_ = rw yes_ refl

unopened_waiting : {A : Type 0} (c : Conversation A) → c.opened ≡ false → waiting_in c ≡ c.early.items
unopened_waiting c no_ = rw no_ refl

-- what waits in an open conversation
pub waiting_open : {A : Type 0} (event : A → Event) (arrivals released expired : List (Noted A)) (c : Conversation A) → IsOpen event arrivals released expired c → waiting_in c ≡ c.holdback.waiting
waiting_open event arrivals released expired c k = open_waiting c k.opened

-- what waits in a conversation before its opening
pub waiting_unopened : {A : Type 0} (event : A → Event) (arrivals : List (Noted A)) (now : Option (Conversation A)) → IsUnopenedAt event arrivals now → waiting_at now ≡ arrivals
waiting_unopened event arrivals None k = sym k
waiting_unopened event arrivals (Some c) k = unopened_waiting c k.unopened ∙ k.wait

pub expired_open : {A : Type 0} (event : A → Event) (time : ℕ) (old new : Conversation A) (released now : List (Noted A))
    → old.opened ≡ true → new.opened ≡ old.opened → new.early.items ≡ old.early.items → IsOldestOfTime time (Some old)
    → IsExpired (noted_event event) old.holdback new.holdback released now → IsExpiredIn event time (Some old) (Some new) released now
expired_open {A} event time old new released now is_open same early at p =
    let waited : IsOldestWaiting (waiting_in old) p.oldest = subst (λ (z : List (Noted A)). IsOldestWaiting z p.oldest) (sym (open_waiting old is_open)) p.waited in
    record {
      oldest = p.oldest;
      timed = ap (λ (z : Noted A). z.time) (same_oldest (waiting_in old) p.oldest at.0 waited at.1) ∙ at.2;
      waited = waited;
      given = p.given;
      appended = p.appended;
      unopened = λ waiting k. absurd (true≢false (sym is_open ∙ k.unopened));
      opened = λ arrivals earlier expired k. record {
        opened = same ∙ k.opened;
        none_early = early ∙ k.none_early;
        after = p.after arrivals earlier expired k.after;
      };
    }

pub expired_early : {A : Type 0} (event : A → Event) (time : ℕ) (old new : Conversation A) (released now : List (Noted A)) (x : Noted A)
    → old.opened ≡ false → new.opened ≡ old.opened → new.holdback ≡ old.holdback → IsOldestOfTime time (Some old)
    → old.early.items ≡ x ∷ new.early.items → now ≡ released ++ x ∷ [] → IsExpiredIn event time (Some old) (Some new) released now
expired_early {A} event time old new released now x not_open same kept at was appended =
    let waited : IsOldestWaiting (waiting_in old) x = (new.early.items, unopened_waiting old not_open ∙ was) in
    record {
      oldest = x;
      timed = ap (λ (z : Noted A). z.time) (same_oldest (waiting_in old) x at.0 waited at.1) ∙ at.2;
      waited = waited;
      given = [];
      appended = appended;
      unopened = λ waiting k. (
        record {
          unopened = same ∙ k.unopened;
          wait = (let both : x ∷ new.early.items ≡ x ∷ waiting = sym was ∙ k.wait in cc);
          fresh = subst (IsAfter (noted_event event) [] [] []) (sym kept) k.fresh;
        },
        refl,
      );
      opened = λ arrivals earlier expired k. absurd (true≢false (sym k.opened ∙ not_open));
    }

-- an item that is there
pub some_item : {X : Type 0} (o : Option X) (P : Type 0) (Q : X → Type 0) → MatchOption o P Q → is_some o ≡ true → (x : X) × Q x
some_item None P Q m some = absurd (true≢false (sym some))
some_item (Some x) P Q m some = (x, m)
