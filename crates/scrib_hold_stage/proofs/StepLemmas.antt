-- The steps of a stage, one after another.
use Rattle.std.proofs.Common.{◌≡◌, ◌∙◌, ℕ, ◌+◌, ◌<◌, ◌≤◌, ◌⊎◌, List, [], ◌∷◌, ◌++◌, length, Result, Ok, Err, inl, inr, sym, ap, subst, length-append, append-nil, append_assoc, arith}
use Rattle.std.specs.List.{AllByRecursion}
use Rattle.std.specs.Result.{OnOk}
use Rattle.std.proofs.lemmas.List.Elements.{filter-append}
use Rattle.scrib_types.specs.declared.event.Event.{Event}
use Rattle.scrib_hold_stage.specs.declared.noted.Noted.{Noted}
use Rattle.scrib_hold_stage.specs.declared.deadlines.Deadline.{Deadline}
use Rattle.scrib_hold_stage.specs.Entries.{Entry, is_since, noted_since}
use Rattle.scrib_hold_stage.specs.Conversations.{waiting_at}
use Rattle.scrib_hold_stage.specs.Changes.{conversation_at}
use Rattle.scrib_hold_stage.specs.Deadlines.{IsInOrder, due_time, StartsAfter}
use Rattle.scrib_hold_stage.specs.Stages.{StageState, IsStageKept, HasStaged, Expires, nothing, one_more, IsRead}
use Rattle.scrib_hold_stage.specs.Steps.{IsEntryTaken, IsExpiring, IsGone, IsDeadlinePassed, IsRipened}
use Rattle.scrib_hold_stage.proofs.Lists.{all_append, all_weaker, all_kept}
use Rattle.scrib_hold_stage.proofs.DeadlineLemmas.{rest_later, rest_after}
use Rattle.scrib_hold_stage.proofs.StageLemmas.{all_fresh}

-- what follows from two facts where a call succeeds
pub ok_both : {T E P Q R : Type 0} (r : Result T E) → (P → Q → R) → OnOk r P → OnOk r Q → OnOk r R
ok_both (Ok x) f p q = f p q
ok_both (Err e) f p q = tt

-- nothing expires
pub expiring_none : {A : Type 0} (event : A → Event) (due : ℕ) (old new : StageState A) (released : List (Noted A)) → new ≡ old → IsExpiring event due old new released released
expiring_none event due old new released same = record {
  given = [];
  gone = [];
  appended = sym (append-nil released);
  passed = tt;
  in_turn = λ bound entries closed earlier expired a. (nothing, tt);
  after = λ bound entries closed earlier expired a.
      subst (λ z. IsStageKept event bound entries closed z (expired ++ []) new) (sym (append-nil earlier))
      (subst (λ z. IsStageKept event bound entries closed earlier z new) (sym (append-nil expired)) (subst (IsStageKept event bound entries closed earlier expired) (sym same) a));
}

-- what expired before was earlier than the deadlines that are left
still_after : {A : Type 0} (d : Deadline) (ds : List Deadline) (gone : List (Noted A)) → IsInOrder due_time (d ∷ ds) → AllByRecursion (λ x. StartsAfter x.time (d ∷ ds)) gone → AllByRecursion (λ x. StartsAfter x.time ds) gone
still_after {A} d ds gone o a = all_weaker (λ (x : Noted A). StartsAfter x.time (d ∷ ds)) (λ (x : Noted A). StartsAfter x.time ds) (λ x s. rest_after x.time d ds o s) gone a

-- one more expires, or none
turn_more : {A : Type 0} (d : Deadline) (ds : List Deadline) (given gone more out : List (Noted A)) → IsInOrder due_time (d ∷ ds) → Expires given gone × AllByRecursion (λ x. StartsAfter x.time (d ∷ ds)) gone
    → ((more ≡ []) × (out ≡ [])) ⊎ IsGone d more out → Expires (given ++ more) (gone ++ out) × AllByRecursion (λ x. StartsAfter x.time ds) (gone ++ out)
turn_more {A} d ds given gone more out o t (inl k) =
    let empty_more : given ≡ given ++ more = sym (append-nil given) ∙ ap (λ z. given ++ z) (sym k.0) in
    let empty_out : gone ≡ gone ++ out = sym (append-nil gone) ∙ ap (λ z. gone ++ z) (sym k.1) in (
      subst (λ z. Expires z (gone ++ out)) empty_more (subst (λ z. Expires given z) empty_out t.0),
      subst (AllByRecursion (λ (x : Noted A). StartsAfter x.time ds)) empty_out (still_after d ds gone o t.1),
    )
turn_more {A} d ds given gone more out o t (inr k) =
    let before : AllByRecursion (λ (y : Noted A). y.time < k.x.time) gone = all_weaker (λ (y : Noted A). StartsAfter y.time (d ∷ ds)) (λ (y : Noted A). y.time < k.x.time) (λ y s. omega (arith, s, k.timed)) gone t.1 in
    let here : StartsAfter k.x.time ds = subst (λ n. StartsAfter n ds) (sym k.timed) (rest_later d ds o) in (
      subst (λ z. Expires (given ++ z) (gone ++ out)) (sym k.first) (subst (λ z. Expires (given ++ k.x ∷ k.others) (gone ++ z)) (sym k.only) (one_more k.x k.others t.0 before k.own)),
      subst (λ z. AllByRecursion (λ (x : Noted A). StartsAfter x.time ds) (gone ++ z)) (sym k.only)
          (all_append (λ (x : Noted A). StartsAfter x.time ds) gone (k.x ∷ []) (still_after d ds gone o t.1) (here, tt)),
    )

-- one more deadline passes
pub expiring_join : {A : Type 0} (event : A → Event) (due : ℕ) (old mid new : StageState A) (released between now : List (Noted A)) → IsExpiring event due old mid released between → IsDeadlinePassed event due mid new between now → IsExpiring event due old new released now
expiring_join {A} event due old mid new released between now p q = record {
  given = p.given ++ q.given;
  gone = p.gone ++ q.gone;
  appended = q.appended ∙ ap (λ z. z ++ q.given) p.appended ∙ append_assoc released p.given q.given;
  passed = all_append (λ x. x.time ≤ due) p.gone q.gone p.passed q.passed;
  in_turn = λ bound entries closed earlier expired a. (let k = p.after bound entries closed earlier expired a in
      turn_more q.first new.deadlines p.given p.gone q.given q.gone (subst (IsInOrder due_time) q.was k.listed.ordered)
      (subst (λ z. Expires p.given p.gone × AllByRecursion (λ (x : Noted A). StartsAfter x.time z) p.gone) q.was (p.in_turn bound entries closed earlier expired a))
      (q.one bound entries closed (earlier ++ p.given) (expired ++ p.gone) k));
  after = λ bound entries closed earlier expired a.
      subst (λ z. IsStageKept event bound entries closed z (expired ++ (p.gone ++ q.gone)) new) (append_assoc earlier p.given q.given)
      (subst (λ z. IsStageKept event bound entries closed ((earlier ++ p.given) ++ q.given) z new) (append_assoc expired p.gone q.gone)
      (q.after bound entries closed (earlier ++ p.given) (expired ++ p.gone) (p.after bound entries closed earlier expired a)));
}

-- what expired had waited for long enough, and what waits hasn't
pub ripened : {A : Type 0} (event : A → Event) (due : ℕ) (old new : StageState A) (released now : List (Noted A)) → IsExpiring event due old new released now → StartsAfter due new.deadlines → due + old.bound ≡ old.time → IsRipened event old new released now
ripened {A} event due old new released now p later now_is = record {
  given = p.given;
  gone = p.gone;
  appended = p.appended;
  in_turn = λ bound entries closed earlier expired a. (p.in_turn bound entries closed earlier expired a).0;
  after = λ bound entries closed earlier expired a aged. (let k = p.after bound entries closed earlier expired a in
      let sum : due + bound ≡ length entries = ap (λ z. due + z) (sym a.bounded) ∙ now_is ∙ a.timed in
      record {
        kept = k;
        aged = λ id. subst (AllByRecursion (λ (x : Noted A). x.time + bound ≤ length entries)) (sym (filter-append (is_since (closed id) id) expired p.gone))
            (all_append (λ (x : Noted A). x.time + bound ≤ length entries) (noted_since (closed id) id expired) (noted_since (closed id) id p.gone)
            (subst (λ z. AllByRecursion (λ (x : Noted A). x.time + bound ≤ z) (noted_since (closed id) id expired)) a.timed (aged id))
            (all_kept (λ (x : Noted A). x.time + bound ≤ length entries) (is_since (closed id) id) p.gone
            (all_weaker (λ (x : Noted A). x.time ≤ due) (λ (x : Noted A). x.time + bound ≤ length entries) (λ x h. omega arith) p.gone p.passed)));
        fresh = λ id. all_weaker (λ (x : Noted A). due < x.time) (λ (x : Noted A). length entries < x.time + bound) (λ x h. omega arith)
            (waiting_at (conversation_at new.conversations id)) (all_fresh event bound due entries closed (earlier ++ p.given) (expired ++ p.gone) new k later id);
      });
}

-- nothing waits
pub none_ripe : {A : Type 0} (event : A → Event) (old new : StageState A) (released : List (Noted A)) → new ≡ old → old.deadlines ≡ [] → IsRipened event old new released released
none_ripe {A} event old new released same empty = record {
  given = [];
  gone = [];
  appended = sym (append-nil released);
  in_turn = λ bound entries closed earlier expired a. nothing;
  after = λ bound entries closed earlier expired a aged. (let k : IsStageKept event bound entries closed earlier expired new = subst (IsStageKept event bound entries closed earlier expired) (sym same) a in
      let later : StartsAfter (length entries) new.deadlines = subst (StartsAfter (length entries)) (sym (ap (λ (s : StageState A). s.deadlines) same ∙ empty)) tt in
      subst (λ z. HasStaged event bound entries closed z (expired ++ []) new) (sym (append-nil earlier))
      (subst (λ z. HasStaged event bound entries closed earlier z new) (sym (append-nil expired)) (record {
        kept = k;
        aged = λ id. subst (λ z. AllByRecursion (λ (x : Noted A). x.time + bound ≤ z) (noted_since (closed id) id expired)) a.timed (aged id);
        fresh = λ id. all_weaker (λ (x : Noted A). length entries < x.time) (λ (x : Noted A). length entries < x.time + bound) (λ x h. omega arith)
            (waiting_at (conversation_at new.conversations id)) (all_fresh event bound (length entries) entries closed earlier expired new k later id);
      })));
}

-- nothing can have waited for so long
pub unripe : {A : Type 0} (event : A → Event) (old new : StageState A) (released : List (Noted A)) → new ≡ old → old.time < old.bound → IsRipened event old new released released
unripe {A} event old new released same few = record {
  given = [];
  gone = [];
  appended = sym (append-nil released);
  in_turn = λ bound entries closed earlier expired a. nothing;
  after = λ bound entries closed earlier expired a aged. (let small : length entries < bound = omega (arith, few, a.timed, a.bounded) in
      let k : IsStageKept event bound entries closed earlier expired new = subst (IsStageKept event bound entries closed earlier expired) (sym same) a in
      subst (λ z. HasStaged event bound entries closed z (expired ++ []) new) (sym (append-nil earlier))
      (subst (λ z. HasStaged event bound entries closed earlier z new) (sym (append-nil expired)) (record {
        kept = k;
        aged = λ id. subst (λ z. AllByRecursion (λ (x : Noted A). x.time + bound ≤ z) (noted_since (closed id) id expired)) a.timed (aged id);
        fresh = λ id. every (λ (x : Noted A). length entries < x.time + bound) (λ x. omega arith) (waiting_at (conversation_at new.conversations id));
      })));
}
  where
    every : (P : Noted A → Type 0) → ((x : Noted A) → P x) → (xs : List (Noted A)) → AllByRecursion P xs
    every P f [] = tt
    every P f (x ∷ xs) = (f x, every P f xs)

-- an entry is read, and what had waited for long enough expires
pub read_of : {A : Type 0} (event : A → Event) (entry : Entry A) (old mid next new : StageState A) (released between now : List (Noted A)) → IsEntryTaken event entry old mid released between → IsRipened event mid next between now → new ≡ next → IsRead event entry old new released now
read_of {A} event entry old mid next new released between now p q same = record {
  given = p.given;
  late = q.given;
  gone = q.gone;
  appended = q.appended ∙ ap (λ z. z ++ q.given) p.appended ∙ append_assoc released p.given q.given;
  in_turn = λ bound entries closed earlier expired a.
      q.in_turn bound (entries ++ entry ∷ []) closed (earlier ++ p.given) expired (p.after bound entries closed earlier expired a);
  after = λ bound entries closed earlier expired a. (let k = p.after bound entries closed earlier expired a in
      let longer : length entries ≤ mid.time = omega (arith, k.timed, length-append entries (entry ∷ [])) in
      let r = q.after bound (entries ++ entry ∷ []) closed (earlier ++ p.given) expired k
      (λ id. all_weaker (λ (x : Noted A). x.time + bound ≤ length entries) (λ (x : Noted A). x.time + bound ≤ mid.time) (λ x h. omega arith) (noted_since (closed id) id expired) (a.aged id)) in
      subst (λ z. HasStaged event bound (entries ++ entry ∷ []) closed z (expired ++ q.gone) new) (append_assoc earlier p.given q.given)
      (subst (HasStaged event bound (entries ++ entry ∷ []) closed ((earlier ++ p.given) ++ q.given) (expired ++ q.gone)) (sym same) r));
}
