-- A note in a record is a note under its id; the reasons of refusals.
use Rattle.std.proofs.Common.{◌≡◌, ◌∙◌, ℕ, List, [], Result, Ok, Err, IfOk, IfErr, OnErr, Option, Some, None, All, nat_eq, refl, sym, ap, subst}
use Rattle.std.specs.Map.{set_value}
use Rattle.std.proofs.lemmas.Map.Steps.{set_value_same}
use Rattle.scrib_types.specs.declared.event.Event.{Event}
use Rattle.scrib_record.specs.declared.version.Version.{Version}
use Rattle.scrib_record.specs.Stale.{Recorded}
use Rattle.scrib_library.specs.Holdings.{Holdings}
use Rattle.scrib_core.specs.Held.{Records, record_at}
use Rattle.scrib_core.specs.ConversationSteps.{IsNotedAt, IsPresent, NoteFails}
use Rattle.scrib_core.proofs.LentRecordLemmas.{fails_at}
use Rattle.scrib_locked_steps.specs.declared.pass.Receipt.{Receipt}
use Rattle.scrib_locked_steps.specs.declared.pass_calls.PassRefusal.{PassRefusal}
use Rattle.scrib_core.specs.declared.conversation_steps.Noted.{Noted}
use Rattle.scrib_locked_steps.specs.Shards.{ShardHeld, log_in, log_at}
use Rattle.scrib_locked_steps.specs.Receipts.{AgreesWith, IsFirstMismatch}
use Rattle.scrib_locked_steps.specs.Passes.{PassHeld, IsReceipted, newest_of}
use Rattle.scrib_locked_steps.specs.declared.pass_calls.PassRefusal.TheVariants.{Mismatch, Step}
use Rattle.scrib_locked_steps.specs.Passing.{NewestAgrees, IsNotedBy, PassNoteFails, AnswersBy}
use Rattle.scrib_locked_steps.specs.Noting.{IsNotedIn, FailsIn, AnswersIn}

noted_at : (h : Holdings) (present : Option Version) (rs new : Records) (id : ℕ) (before after : Recorded) (e : Event) (n : Noted) → record_at rs id ≡ Some before → new ≡ set_value (nat_eq id) rs after
    → IsPresent h before.name present → IsNotedIn present before e n after → IsNotedAt h rs id e n.place n.told new
noted_at h present rs new id before after e n there put is x = record {
  before = before;
  there = there;
  room = x.room;
  present = present;
  is_present = is;
  after = after;
  noted = x.noted;
  lawful = x.lawful;
  put = put;
  place_is = x.place_is;
}

-- a comparison with a borrowed log is one with the record's log
pub compared_in : (p : PassHeld) (r : Recorded) (log : List Event) (newest : List Receipt) (o : Option ℕ) → log ≡ r.log → newest ≡ newest_of p.receipts
    → IsFirstMismatch log newest o → IsFirstMismatch r.log (newest_of p.receipts) o
compared_in p r log newest o is newest_is x =
    subst (λ (l : List Event). IsFirstMismatch l (newest_of p.receipts) o) is (subst (λ (xs : List Receipt). IsFirstMismatch log xs o) newest_is x)

-- the same where no conversation is open
pub compared_none : (rs : Records) (p : PassHeld) (id : ℕ) (newest : List Receipt) (o : Option ℕ) → record_at rs id ≡ None → p.conversation ≡ id → newest ≡ newest_of p.receipts
    → IsFirstMismatch [] newest o → IsFirstMismatch (log_at rs p.conversation) (newest_of p.receipts) o
compared_none rs p id newest o absent at newest_is x =
    let here : record_at rs p.conversation ≡ None = subst (λ (i : ℕ). record_at rs i ≡ None) (sym at) absent in
    subst (λ (l : List Event). IsFirstMismatch l (newest_of p.receipts) o) (sym (ap log_in here)) (subst (λ (xs : List Receipt). IsFirstMismatch [] xs o) newest_is x)

-- ---- the clauses of a reply

pub noted_by : (h : Holdings) (old new : ShardHeld) (p q : PassHeld) (e : Event) (answer : Result Noted PassRefusal) → new.capacity ≡ old.capacity
    → AnswersBy h (old.records, p) e answer (new.records, q) → IfOk answer (λ n. IsNotedBy h old p e n new)
noted_by h old new p q e (Ok n) limit x = record { stood = x.0; noted = x.1; limit = limit }
noted_by h old new p q e (Err f) limit x = tt

pub receipted_by : (h : Holdings) (s t : Records × PassHeld) (e : Event) (answer : Result Noted PassRefusal) → AnswersBy h s e answer t → IfOk answer (λ n. IsReceipted s.1 e n t.1)
receipted_by h s t e (Ok n) x = x.2
receipted_by h s t e (Err f) x = tt

pub fails_by : (h : Holdings) (s t : Records × PassHeld) (e : Event) (answer : Result Noted PassRefusal) → AnswersBy h s e answer t → IfErr answer (PassNoteFails s.0 s.1)
fails_by h s t e (Ok n) x = tt
fails_by h s t e (Err f) x = x.0

pub shard_left_by : (capacity : ℕ) (openings : List (ℕ × ℕ)) (opened : ℕ) (before : ShardHeld) (h : Holdings) (s t : Records × PassHeld) (e : Event) (answer : Result Noted PassRefusal) → AnswersBy h s e answer t
    → (let v : ShardHeld = record { capacity = capacity; records = s.0; openings = openings; opened = opened } in v ≡ before) → (let v : ShardHeld = record { capacity = capacity; records = t.0; openings = openings; opened = opened } in OnErr answer (v ≡ before))
shard_left_by capacity openings opened before h s t e (Ok n) x view = tt
shard_left_by capacity openings opened before h s t e (Err f) x view =
    ap (λ (w : Records × PassHeld). let v : ShardHeld = record { capacity = capacity; records = w.0; openings = openings; opened = opened } in v) x.1 ∙ view

pub pass_left_by : (h : Holdings) (s t : Records × PassHeld) (e : Event) (answer : Result Noted PassRefusal) → AnswersBy h s e answer t → OnErr answer (t.1 ≡ s.1)
pass_left_by h s t e (Ok n) x = tt
pass_left_by h s t e (Err f) x = ap (λ (w : Records × PassHeld). w.1) x.1

-- ---- from the record to the records

-- the log of the pass's conversation is that of its record
log_of : (rs : Records) (id : ℕ) (r : Recorded) (p : PassHeld) → p.conversation ≡ id → record_at rs id ≡ Some r → r.log ≡ log_at rs p.conversation
log_of rs id r p at there = sym (ap log_in there) ∙ ap (log_at rs) (sym at)

agrees_there : (rs : Records) (id : ℕ) (r : Recorded) (p : PassHeld) → p.conversation ≡ id → record_at rs id ≡ Some r → All (AgreesWith r.log) (newest_of p.receipts) → NewestAgrees rs p
agrees_there rs id r p at there stood = subst (λ (l : List Event). All (AgreesWith l) (newest_of p.receipts)) (log_of rs id r p at there) stood

fails_there : (rs : Records) (id : ℕ) (r : Recorded) (p : PassHeld) (f : PassRefusal) → p.conversation ≡ id → record_at rs id ≡ Some r → FailsIn r p f → PassNoteFails rs p f
fails_there rs id r p (Mismatch i place) at there x =
    (x.0, subst (λ (l : List Event). IsFirstMismatch l (newest_of p.receipts) (Some place)) (log_of rs id r p at there) x.1)
fails_there rs id r p (Step f) at there x = (
  agrees_there rs id r p at there x.0,
  subst (NoteFails rs p.conversation) (sym x.1.1) (fails_at rs p.conversation r x.1.0 (ap (record_at rs) at ∙ there) x.1.2),
)

noted_there : (h : Holdings) (present : Option Version) (rs : Records) (id : ℕ) (s t : Recorded × PassHeld) (e : Event) (n : Noted) → s.1.conversation ≡ id → record_at rs id ≡ Some s.0
    → IsPresent h s.0.name present → AnswersIn present s e (Ok n) t → AnswersBy h (rs, s.1) e (Ok n) (set_value (nat_eq id) rs t.0, t.1)
noted_there h present rs id s t e n at there is x = (
  agrees_there rs id s.0 s.1 at there x.0,
  subst (λ (i : ℕ). IsNotedAt h rs i e n.place n.told (set_value (nat_eq id) rs t.0)) (sym at)
      (noted_at h present rs (set_value (nat_eq id) rs t.0) id s.0 t.0 e n there refl is x.1),
  x.2,
)

-- writing a record's own value changes nothing
pub same_state : (rs : Records) (id : ℕ) (s t : Recorded × PassHeld) → record_at rs id ≡ Some s.0 → t ≡ s → (let v : Records × PassHeld = (set_value (nat_eq id) rs t.0, t.1) in let w : Records × PassHeld = (rs, s.1) in v ≡ w)
same_state rs id s t there same =
    ap (λ (w : Recorded × PassHeld). let v : Records × PassHeld = (set_value (nat_eq id) rs w.0, w.1) in v) same
    ∙ ap (λ (l : Records). let v : Records × PassHeld = (l, s.1) in v) (set_value_same (nat_eq id) rs s.0 there)

-- the reply of the record is that of its shard
pub answered_there : (h : Holdings) (present : Option Version) (rs : Records) (id : ℕ) (s t : Recorded × PassHeld) (e : Event) (x : Result Noted PassRefusal) → s.1.conversation ≡ id
    → record_at rs id ≡ Some s.0 → IsPresent h s.0.name present → AnswersIn present s e x t → AnswersBy h (rs, s.1) e x (set_value (nat_eq id) rs t.0, t.1)
answered_there h present rs id s t e (Ok n) at there is x = noted_there h present rs id s t e n at there is x
answered_there h present rs id s t e (Err f) at there is x = (fails_there rs id s.0 s.1 f at there x.0, same_state rs id s t there x.1)

-- a note leaves the conversation of the pass and the name of the record
pub same_after : (present : Option Version) (s t : Recorded × PassHeld) (e : Event) (x : Result Noted PassRefusal) → AnswersIn present s e x t
    → (t.1.conversation ≡ s.1.conversation) × (t.0.name ≡ s.0.name)
same_after present s t e (Ok n) x = (ap (λ (p : PassHeld). p.conversation) x.2.added, x.1.noted.name)
same_after present s t e (Err f) x = (ap (λ (w : Recorded × PassHeld). w.1.conversation) x.1, ap (λ (w : Recorded × PassHeld). w.0.name) x.1)

-- a note leaves the version that the record holds
pub held_after : (present : Option Version) (s t : Recorded × PassHeld) (e : Event) (x : Result Noted PassRefusal) → AnswersIn present s e x t → t.0.held ≡ s.0.held
held_after present s t e (Ok n) x = x.1.noted.held
held_after present s t e (Err f) x = ap (λ (w : Recorded × PassHeld). w.0.held) x.1
