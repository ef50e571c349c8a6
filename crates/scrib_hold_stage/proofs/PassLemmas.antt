-- Events that are released at once and alone, at entries at which nothing expires.
use Rattle.std.proofs.Common.{◌≡◌, ◌∙◌, zero, suc, ℕ, ◌+◌, ◌-◌, ◌^◌, ◌<◌, ◌≤◌, ltb, true, List, [], ◌∷◌, ◌++◌, Some, length, slice_get, refl, sym, ap, subst, inl, inr, arith}
use Rattle.std.specs.List.{AllByRecursion}
use Rattle.std.specs.Map.{values_of}
use Rattle.std.proofs.lemmas.Bool.{cases_Bool, ltb-true, ltb-false}
use Rattle.indexmap.specs.Layout.{set_value_at}
use Rattle.scrib_types.specs.declared.event.Event.{Event}
use Rattle.scrib_holdback.specs.Holdings.{PassesAlone}
use Rattle.scrib_hold_stage.specs.declared.noted.Noted.{Noted}
use Rattle.scrib_hold_stage.specs.declared.conversation.Conversation.{Conversation}
use Rattle.scrib_hold_stage.specs.declared.deadlines.Deadline.{Deadline}
use Rattle.scrib_hold_stage.specs.Entries.{Entry, Closings, note}
use Rattle.scrib_hold_stage.specs.Conversations.{noted_event, waiting_at, IsNotOldest, PassesAloneIn}
use Rattle.scrib_hold_stage.specs.Changes.{Conversations, conversation_at, LeavesOthers, IsPushedOf, PassesAloneOf}
use Rattle.scrib_hold_stage.specs.Deadlines.{StartsAfter, StartsLate}
use Rattle.scrib_hold_stage.specs.Stages as stages
use Rattle.scrib_hold_stage.specs.Stages.{StageState, HasStaged, IsRead}
use Rattle.scrib_hold_stage.specs.Steps.{IsRipened}
use Rattle.scrib_hold_stage.proofs.ConversationLemmas.{pushed_open}
use Rattle.scrib_hold_stage.proofs.MapLemmas.{met_before, pushed_of}
use Rattle.scrib_hold_stage.proofs.StageLemmas.{deadline_skipped}
use Rattle.scrib_hold_stage.proofs.StepLemmas.{expiring_none, ripened, unripe, read_of}
use Rattle.scrib_hold_stage.proofs.TakeLemmas.{taken_at_once}

-- in one conversation
pub passes_in : {A : Type 0} (event : A → Event) (e : Event) (old new : Conversation A) → old.opened ≡ true → new.opened ≡ old.opened → new.early.items ≡ old.early.items
    → PassesAlone (noted_event event) e old.holdback new.holdback → PassesAloneIn event e old new
passes_in event e old new is_open same early p = λ x is released.
    pushed_open event x old new released (released ++ x ∷ []) is_open same early (p x is released)

-- in the conversation of an id
pub passes_of : {A : Type 0} (event : A → Event) (id : ℕ) (e : Event) (old new : Conversations A) (c d : Conversation A)
    → conversation_at old id ≡ Some c → conversation_at new id ≡ Some d → LeavesOthers id old new → PassesAloneIn event e c d → PassesAloneOf event id e old new
passes_of {A} event id e old new c d was is others p = λ x of same released.
    pushed_of event x old old new released (released ++ x ∷ []) c d (met_before event x.conversation old)
    (ap (conversation_at old) of ∙ was) (ap (conversation_at new) of ∙ is) (subst (λ n. LeavesOthers n old new) (sym of) others) (p x same released)

-- a write of what was there
pub written_same : {A : Type 0} (cs : Conversations A) (at : ℕ) (c d : Conversation A) → Some c ≡ slice_get (values_of cs) at → d ≡ c → set_value_at cs at d ≡ cs
written_same [] at c d read same = refl
written_same ((k, b) ∷ cs) zero c d read same = let was : c ≡ b = cc in ap (λ z. (k, z) ∷ cs) (same ∙ was)
written_same ((k, b) ∷ cs) (suc at) c d read same = ap (λ z. (k, b) ∷ z) (written_same cs at c d read same)

-- ---- nothing expires

after_late : (time bound due : ℕ) (ds : List Deadline) → due + bound ≡ time → StartsLate time bound ds → StartsAfter due ds
after_late time bound due [] sum late = tt
after_late time bound due (d ∷ ds) sum late = omega (arith, sum, late)

pub none_late : {A : Type 0} (event : A → Event) (s : StageState A) (released : List (Noted A)) → StartsLate s.time s.bound s.deadlines → IsRipened event s s released released
none_late event s released late = elim (cases_Bool (ltb s.time s.bound)) [
  | inl y ↦ unripe event s s released refl (ltb-true s.time s.bound y)
  | inr n ↦ let more : s.bound ≤ s.time = ltb-false s.time s.bound n in
      let sum : s.time - s.bound + s.bound ≡ s.time = omega (arith, more) in
      ripened event (s.time - s.bound) s s released released (expiring_none event (s.time - s.bound) s s released refl)
      (after_late s.time s.bound (s.time - s.bound) s.deadlines sum late) sum
]

-- ---- an entry

last_is : {X : Type 0} (xs : List X) (x : X) → slice_get (xs ++ x ∷ []) (length xs) ≡ Some x
last_is [] x = refl
last_is (y ∷ xs) x = last_is xs x

pub passes_alone : {A : Type 0} (event : A → Event) (id : ℕ) (e : Event) (old new : StageState A) → old.time + 1 < 2 ^ 64 → PassesAloneOf event id e old.conversations new.conversations
    → new.bound ≡ old.bound → new.time ≡ old.time + 1 → new.deadlines ≡ old.deadlines → new.others ≡ old.others → new.expired ≡ old.expired
    → StartsLate (old.time + 1) old.bound old.deadlines → stages.PassesStageAlone event id e old new
passes_alone {A} event id e old new small p b t d n g late = λ arrival is released.
    (let x : Noted A = record { conversation = id; time = old.time + 1; arrival = arrival } in
    let begun : StageState A = record old { time = old.time + 1 } in
    let pushed : IsPushedOf event x old.conversations new.conversations released (released ++ x ∷ []) = p x refl is released in
    let taken = taken_at_once event id arrival old begun new released (released ++ x ∷ []) refl small pushed b t n g d (length released) x refl (last_is released x) refl in
    let quiet : StartsLate new.time new.bound new.deadlines =
    subst (λ z. StartsLate new.time new.bound z) (sym d)
    (subst (λ z. StartsLate new.time z old.deadlines) (sym b) (subst (λ z. StartsLate z old.bound old.deadlines) (sym t) late)) in
    read_of event (note id (old.time + 1) arrival) old new new new released (released ++ x ∷ []) (released ++ x ∷ []) taken
    (none_late event new (released ++ x ∷ []) quiet) refl)

-- ---- a deadline passes whose event waits no more

dropped : {A : Type 0} (event : A → Event) (old new : StageState A) (d : Deadline) → old.deadlines ≡ d ∷ new.deadlines → new.bound ≡ old.bound → new.time ≡ old.time → new.conversations ≡ old.conversations → new.others ≡ old.others → new.expired ≡ old.expired
    → IsNotOldest d.time (conversation_at old.conversations d.conversation) → (bound : ℕ) (entries : List (Entry A)) (closed : Closings) (earlier expired : List (Noted A)) → HasStaged event bound entries closed earlier expired old → HasStaged event bound entries closed earlier expired new
dropped {A} event old new d was b t c e g other bound entries closed earlier expired a = record {
  kept = deadline_skipped event bound entries closed earlier expired old new a.kept d [] new.deadlines was refl tt b t e g other (λ k. ap (λ (z : Conversations A). conversation_at z k) c);
  aged = a.aged;
  fresh = λ id. subst (λ (z : Conversations A). AllByRecursion (λ (x : Noted A). length entries < x.time + bound) (waiting_at (conversation_at z id))) (sym c) (a.fresh id);
}

-- an entry is read after that
read_after : {A : Type 0} (event : A → Event) (entry : Entry A) (old mid new : StageState A) (released now : List (Noted A))
    → ((bound : ℕ) (entries : List (Entry A)) (closed : Closings) (earlier expired : List (Noted A)) → HasStaged event bound entries closed earlier expired old → HasStaged event bound entries closed earlier expired mid)
    → IsRead event entry mid new released now → IsRead event entry old new released now
read_after event entry old mid new released now to r = record {
  given = r.given;
  late = r.late;
  gone = r.gone;
  appended = r.appended;
  in_turn = λ bound entries closed earlier expired a. r.in_turn bound entries closed earlier expired (to bound entries closed earlier expired a);
  after = λ bound entries closed earlier expired a. r.after bound entries closed earlier expired (to bound entries closed earlier expired a);
}

pub passes_beside : {A : Type 0} (event : A → Event) (id : ℕ) (e : Event) (old new : StageState A) (d : Deadline) → old.deadlines ≡ d ∷ new.deadlines → IsNotOldest d.time (conversation_at old.conversations d.conversation)
    → old.time + 1 < 2 ^ 64 → PassesAloneOf event id e old.conversations new.conversations
    → new.bound ≡ old.bound → new.time ≡ old.time + 1 → new.others ≡ old.others → new.expired ≡ old.expired
    → StartsLate (old.time + 1) old.bound new.deadlines → stages.PassesStageAlone event id e old new
passes_beside {A} event id e old new d was other small p b t n g late = λ arrival is released.
    (let mid : StageState A = record old { deadlines = new.deadlines } in
    let x : Noted A = record { conversation = id; time = old.time + 1; arrival = arrival } in
    read_after event (note id (old.time + 1) arrival) old mid new released (released ++ x ∷ [])
    (dropped event old mid d was refl refl refl refl refl other)
    (passes_alone event id e mid new small p b t refl n g late arrival is released))
