-- The end of a script.
use Rattle.std.proofs.Common.{◌≡◌, ◌∙◌, ℕ, ◌<◌, ◌≤◌, ◌↔◌, true, List, [], ◌∷◌, ◌++◌, Option, None, Some, length, map, eq-eqb, refl, sym, ap, subst, length-append, append-nil, arith}
use Rattle.std.specs.List.{AllByRecursion}
use Rattle.std.proofs.lemmas.List.{map-append, length-map, nil_from_length}
use Rattle.std.proofs.lemmas.List.Elements.{filter-append}
use Rattle.scrib_types.specs.declared.event.Event.{Event}
use Rattle.scrib_types.specs.Agreement.{Agreement}
use Rattle.scrib_types.specs.Permitted.{IsPermitted}
use Rattle.scrib_holdback.specs.Reorderings.{own_events, is_own, IsReordering}
use Rattle.scrib_holdback.specs.HoldBack.{HoldsWithExpiries}
use Rattle.scrib_holdback.specs.FalseAlarms.{IsPermittedInSomeOrder, IsExact, RaisesNoFalseAlarm}
use Rattle.scrib_holdback.proofs.Outcomes.{reordered}
use Rattle.scrib_holdback.proofs.FalseAlarmLemmas.{no_false_alarm}
use Rattle.scrib_hold_stage.specs.declared.noted.Noted.{Noted}
use Rattle.scrib_hold_stage.specs.declared.conversation.Conversation.{Conversation}
use Rattle.scrib_hold_stage.specs.declared.deadlines.Deadline.{Deadline}
use Rattle.scrib_hold_stage.specs.Entries.{Entry, Closings, is_since, noted_in, noted_since, opening_since}
use Rattle.scrib_hold_stage.specs.Conversations.{noted_event, waiting_at, IsOpenAt}
use Rattle.scrib_hold_stage.specs.Changes.{conversation_at}
use Rattle.scrib_hold_stage.specs.Deadlines.{how_many, is_at, is_deadline, StartsAfter}
use Rattle.scrib_hold_stage.specs.Stages.{StageState, AreHeld, IsHeld, IsStageKept, HasStaged, IsReleasedInAll, IsFinished}
use Rattle.scrib_hold_stage.specs.Steps.{IsExpiring}
use Rattle.scrib_hold_stage.proofs.Lists.{many_all, many-here}
use Rattle.scrib_hold_stage.proofs.ConversationLemmas.{waiting_open, waiting_unopened}
use Rattle.scrib_hold_stage.proofs.HeldLemmas.{open_parts}

-- ---- nothing waits any more

no_deadline : (time : ℕ) (ds : List Deadline) → StartsAfter time ds → AllByRecursion (λ d. d.time ≤ time) ds → ds ≡ []
no_deadline time [] s w = refl
no_deadline time (d ∷ ds) s w = absurd (omega (arith, s, w.0))

-- where nothing of any time waits, nothing does
pub no_waiting : {A : Type 0} (xs : List (Noted A)) → ((n : ℕ) → 0 < how_many (is_at n) xs → ⊥) → xs ≡ []
no_waiting [] none = refl
no_waiting (x ∷ xs) none = absurd (none x.time (omega (arith, many-here (is_at x.time) x xs (eq-eqb x.time x.time refl))))

pub none_waits : {A : Type 0} (event : A → Event) (bound : ℕ) (entries : List (Entry A)) (closed : Closings) (released expired : List (Noted A)) (s : StageState A) → IsStageKept event bound entries closed released expired s → StartsAfter s.time s.deadlines
    → (id : ℕ) → waiting_at (conversation_at s.conversations id) ≡ []
none_waits event bound entries closed released expired s a later id =
    no_waiting (waiting_at (conversation_at s.conversations id))
    (λ n some. omega (arith, a.listed.complete id n some, ap (how_many (is_deadline id n)) (no_deadline s.time s.deadlines later a.listed.within)))

-- ---- what was released of a conversation in all

own-append : (r : List ℕ) (xs ys : List Event) → own_events r (xs ++ ys) ≡ own_events r xs ++ own_events r ys
own-append r xs ys = filter-append (is_own r) xs ys

module _ {A : Type 0} (event : A → Event) where
  -- behind the same events
  behind : (early xs ys : List (Noted A)) → IsReordering (map (noted_event event) xs) (map (noted_event event) ys) → IsReordering (map (noted_event event) (early ++ xs)) (map (noted_event event) (early ++ ys))
  behind early xs ys re r =
      ap (own_events r) (map-append (noted_event event) early ys) ∙ own-append r (map (noted_event event) early) (map (noted_event event) ys)
      ∙ ap (λ z. own_events r (map (noted_event event) early) ++ z) (re r)
      ∙ sym (own-append r (map (noted_event event) early) (map (noted_event event) xs)) ∙ sym (ap (own_events r) (map-append (noted_event event) early xs))

  open_reordered : (arrivals given late : List (Noted A)) (now : Option (Conversation A)) → IsOpenAt event arrivals given late now → waiting_at now ≡ [] → IsReordering (map (noted_event event) arrivals) (map (noted_event event) given)
  open_reordered arrivals given late None k none = absurd k
  open_reordered arrivals given late (Some c) k none =
      let empty : c.holdback.waiting ≡ [] = sym (waiting_open event arrivals given late c k) ∙ none in
      subst (λ (z : List (Noted A)). IsReordering (map (noted_event event) arrivals) (map (noted_event event) z)) (append-nil given)
      (reordered (noted_event event) arrivals given late [] (subst (HoldsWithExpiries (noted_event event) arrivals given late) empty k.after.held.holds))

  -- all was released
  module _ (bound : ℕ) (opening : Option ℕ) (events all expired : List (Noted A)) (now : Option (Conversation A)) where
    pub all_reordered : IsHeld event bound opening events all expired now → waiting_at now ≡ [] → IsReordering (map (noted_event event) events) (map (noted_event event) all)
    all_reordered h none = by opening h.held
      where
        by : (o : Option ℕ) → AreHeld event bound o h.early h.arrivals h.given h.late now → IsReordering (map (noted_event event) events) (map (noted_event event) all)
        by None k =
            let nothing : h.arrivals ≡ [] = sym (waiting_unopened event h.arrivals now k.2) ∙ none in
            let same : all ≡ events = h.out ∙ ap (λ z. h.early ++ z) (k.0 ∙ sym nothing) ∙ sym h.all in
            λ r. ap (λ z. own_events r (map (noted_event event) z)) same
        by (Some n) k =
            subst (λ (z : List (Noted A)). IsReordering (map (noted_event event) z) (map (noted_event event) all)) (sym h.all)
            (subst (λ (z : List (Noted A)). IsReordering (map (noted_event event) (h.early ++ h.arrivals)) (map (noted_event event) z)) (sym h.out) (behind h.early h.arrivals h.given (open_reordered h.arrivals h.given h.late now k.2 none)))

    -- as many as there are
    pub all_count : IsHeld event bound opening events all expired now → waiting_at now ≡ [] → length all ≡ length events
    all_count h none = by opening h.held
      where
        by : (o : Option ℕ) → AreHeld event bound o h.early h.arrivals h.given h.late now → length all ≡ length events
        by None k =
            let nothing : h.arrivals ≡ [] = sym (waiting_unopened event h.arrivals now k.2) ∙ none in
            ap length (h.out ∙ ap (λ z. h.early ++ z) (k.0 ∙ sym nothing) ∙ sym h.all)
        by (Some n) k =
            omega (
              arith,
              ap length h.all,
              ap length h.out,
              length-append h.early h.arrivals,
              length-append h.early h.given,
              open_parts event h.arrivals h.given h.late now k.2 (λ (x : Noted A). true),
              many_all h.arrivals,
              many_all h.given,
              ap (how_many (λ (x : Noted A). true)) none,
            )

  -- where nothing expired, before the end
  module _ (events released more : List (Noted A)) (now : Option (Conversation A)) where
    exact_now : (arrivals given : List (Noted A)) → IsOpenAt event arrivals given [] now → (a : Agreement) → IsExact a (map (noted_event event) arrivals) (map (noted_event event) given) (map (noted_event event) (waiting_at now))
    exact_now arrivals given k a = by now k
      where
        by : (o : Option (Conversation A)) → IsOpenAt event arrivals given [] o → IsExact a (map (noted_event event) arrivals) (map (noted_event event) given) (map (noted_event event) (waiting_at o))
        by None j = absurd j
        by (Some c) j =
            subst (λ (z : List (Noted A)). IsExact a (map (noted_event event) arrivals) (map (noted_event event) given) (map (noted_event event) z)) (sym (waiting_open event arrivals given [] c j))
            ((no_false_alarm (noted_event event) arrivals given c.holdback.waiting j.after.held).exact a)

    pub exact_then : IsOpenAt event events released [] now → IsReordering (map (noted_event event) events) (map (noted_event event) (released ++ more)) → length (released ++ more) ≡ length events
        → (a : Agreement) → IsPermitted a (map (noted_event event) (released ++ more)) ↔ IsPermittedInSomeOrder a (map (noted_event event) events)
    exact_then k re long a = (
      λ ok. (map (noted_event event) (released ++ more), re, ok),
      λ some. (let x = exact_now events released k a in
          let none : map (noted_event event) (waiting_at now) ≡ [] = x.none_waits some in
          let few : length more ≡ 0 =
          omega (
            arith,
            long,
            length-append released more,
            open_parts event events released [] now k (λ (y : Noted A). true),
            many_all events,
            many_all released,
            many_all (waiting_at now),
            ap length none,
            length-map (waiting_at now) (noted_event event),
          ) in
          let whole : released ++ more ≡ released = ap (λ z. released ++ z) (nil_from_length more few) ∙ append-nil released in
          subst (λ (z : List (Noted A)). IsPermitted a (map (noted_event event) z)) (sym whole)
          (subst (IsPermitted a) (ap (λ z. map (noted_event event) released ++ z) none ∙ append-nil (map (noted_event event) released)) (x.permitted.1 some))),
    )

-- ---- the law

both_empty : {X : Type 0} (xs ys : List X) → xs ++ ys ≡ [] → (xs ≡ []) × (ys ≡ [])
both_empty [] ys e = (refl, e)
both_empty (x ∷ xs) ys e = absurd (cc)

-- a conversation of which nothing expired
open_unexpired : {A : Type 0} (event : A → Event) (bound n : ℕ) (opening : Option ℕ) (events released expired : List (Noted A)) (now : Option (Conversation A)) → IsHeld event bound opening events released expired now → opening ≡ Some n → expired ≡ [] → IsOpenAt event events released [] now
open_unexpired {A} event bound n opening events released expired now h o none =
    let e = both_empty h.early h.late (sym h.gone ∙ none) in
    let k : AreHeld event bound (Some n) h.early h.arrivals h.given h.late now = subst (λ z. AreHeld event bound z h.early h.arrivals h.given h.late now) o h.held in
    let events_are : h.arrivals ≡ events = ap (λ z. z ++ h.arrivals) (sym e.0) ∙ sym h.all in
    let released_are : h.given ≡ released = ap (λ z. z ++ h.given) (sym e.0) ∙ sym h.out in
    subst (λ z. IsOpenAt event z released [] now) events_are (subst (λ z. IsOpenAt event h.arrivals z [] now) released_are (subst (λ z. IsOpenAt event h.arrivals h.given z now) e.1 k.2))

-- of such a conversation, what was released and what waits
pub no_alarm_yet : {A : Type 0} (event : A → Event) (bound n : ℕ) (opening : Option ℕ) (events released expired : List (Noted A)) (now : Option (Conversation A)) → IsHeld event bound opening events released expired now → opening ≡ Some n → expired ≡ []
    → RaisesNoFalseAlarm (noted_event event) events released (waiting_at now)
no_alarm_yet {A} event bound n opening events released expired now h o none = by now (open_unexpired event bound n opening events released expired now h o none)
  where
    by : (c : Option (Conversation A)) → IsOpenAt event events released [] c → RaisesNoFalseAlarm (noted_event event) events released (waiting_at c)
    by None j = absurd j
    by (Some c) j =
        subst (λ (z : List (Noted A)). RaisesNoFalseAlarm (noted_event event) events released z) (sym (waiting_open event events released [] c j))
        (no_false_alarm (noted_event event) events released c.holdback.waiting j.after.held)

-- the law, of a conversation of which all was released
pub released_in_all : {A : Type 0} (event : A → Event) (bound id : ℕ) (entries : List (Entry A)) (closed : Closings) (earlier expired given gone : List (Noted A)) (old new : StageState A)
    → HasStaged event bound entries closed earlier expired old → IsStageKept event bound entries closed (earlier ++ given) (expired ++ gone) new → waiting_at (conversation_at new.conversations id) ≡ []
    → IsReleasedInAll event (opening_since (closed id) id entries) (noted_since (closed id) id (noted_in entries)) (noted_since (closed id) id expired) (noted_since (closed id) id (earlier ++ given))
released_in_all {A} event bound id entries closed earlier expired given gone old new a k none =
    let mine = is_since (closed id) id in
    let opening = opening_since (closed id) id entries in
    let events = noted_since (closed id) id (noted_in entries) in
    let before = noted_since (closed id) id earlier in
    let unreleased = noted_since (closed id) id given in
    let all = noted_since (closed id) id (earlier ++ given) in
    let last = conversation_at new.conversations id in
    let re = all_reordered event bound opening events all (noted_since (closed id) id (expired ++ gone)) last (k.held id) none in
    let parts : all ≡ before ++ unreleased = filter-append mine earlier given in
    record {
      reordering = re;
      exact = λ n o unexpired agreement.
          subst (λ (z : List (Noted A)). IsPermitted agreement (map (noted_event event) z) ↔ IsPermittedInSomeOrder agreement (map (noted_event event) events)) (sym parts)
          (exact_then event events before unreleased (conversation_at old.conversations id)
          (open_unexpired event bound n opening events before (noted_since (closed id) id expired) (conversation_at old.conversations id) (a.kept.held id) o unexpired)
          (subst (λ (z : List (Noted A)). IsReordering (map (noted_event event) events) (map (noted_event event) z)) parts re)
          (ap length (sym parts) ∙ all_count event bound opening events all (noted_since (closed id) id (expired ++ gone)) last (k.held id) none)
          agreement);
    }

pub finished : {A : Type 0} (event : A → Event) (old new : StageState A) (released now : List (Noted A)) → IsExpiring event old.time old new released now → StartsAfter old.time new.deadlines → IsFinished event old released now
finished {A} event old new released now p later = record {
  given = p.given;
  gone = p.gone;
  appended = p.appended;
  in_turn = λ bound entries closed earlier expired a. (p.in_turn bound entries closed earlier expired a.kept).0;
  law = λ bound entries closed earlier expired a id. (let k = p.after bound entries closed earlier expired a.kept in
      let same : old.time ≡ new.time = a.kept.timed ∙ sym k.timed in
      released_in_all event bound id entries closed earlier expired p.given p.gone old new a k
      (none_waits event bound entries closed (earlier ++ p.given) (expired ++ p.gone) new k (subst (λ z. StartsAfter z new.deadlines) same later) id));
}
