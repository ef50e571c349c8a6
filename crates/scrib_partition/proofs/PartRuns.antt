-- What answers a list of steps answers its parts.
use Rattle.std.proofs.Common.{◌≡◌, ◌≢◌, ◌⊎◌, inl, inr, ℕ, ◌<◌, ◌≤◌, Bool, true, false, if◌then◌else◌, List, [], ◌∷◌, length, Option, None, nat_eq, refl, sym, ap, subst, ◌∙◌, arith}
use Rattle.std.specs.Prelude.{IsSome}
use Rattle.std.proofs.lemmas.Bool.{cases_eq, true≢false, false≢true}
use Rattle.std.proofs.lemmas.List.Elements.{All-head, All-tail}
use Rattle.std.proofs.lemmas.Map.Made.{IsDistinct-keys_filter, IsDistinct-from_AllPairs}
use Rattle.std.proofs.lemmas.Bool.Decides.{Decides-eqb}
use Rattle.scrib_core.specs.declared.step.Step.{Step}
use Rattle.scrib_core.specs.declared.step.Step.TheVariants.{Put, Withdraw, Open, Note, Turn, Ask, Close}
use Rattle.scrib_core.specs.declared.step.Step.TheVariants as step
use Rattle.scrib_core.specs.declared.reply.Reply.{Reply}
use Rattle.scrib_core.specs.declared.reply.Reply.TheVariants as reply
use Rattle.scrib_core.specs.declared.reply.Refusal.{Refusal}
use Rattle.scrib_core.specs.declared.reply.Refusal.TheVariants.{TooManyConversations}
use Rattle.scrib_core.specs.declared.monitor.TheConstants.{MAX_CONVERSATIONS}
use Rattle.scrib_core.specs.World.{World, Conversation, conversation, Refuses}
use Rattle.scrib_core.specs.Marks.{Mark, Fresh}
use Rattle.scrib_core.specs.Answers.{State, IsAccepted, IsAnswered, Answers, Replies}
use Rattle.scrib_partition.specs.Partition.{is_of, part_of_steps, replies_of, IsConsistent, IsPart}
use Rattle.scrib_partition.specs.PartitionLaw.{AnswersPart, IsRestrictedPart, IsInitialPart, StaysConsistent}
use Rattle.scrib_partition.proofs.EntryLemmas.{Once, fewer, lookup_filter}
use Rattle.scrib_partition.proofs.BesideLemmas.{IsBeside, open_beside, note_beside, turn_beside, ask_beside, close_beside}
use Rattle.scrib_partition.proofs.CarriedSteps.{Agrees, IsCarried, open_carried, note_carried, turn_carried, ask_carried, close_carried, open_refused, note_refused, turn_refused, ask_refused, close_refused}
use Rattle.scrib_partition.proofs.EditSteps.{with_library, library_same, put_carried, withdraw_carried, profile_carried, edit_remarks, edit_part, edit_consistent, put_refused, withdraw_refused, profile_refused}

-- ---- accepted or refused

-- a refusal is no reply to an accepted step
pub not_accepted : (w : World) (step : Step) (f : Refusal) (t : State) → Replies w step (reply.Refused f) t → ⊥
not_accepted w (Put text) f t x = x
not_accepted w (Withdraw name) f t x = x
not_accepted w (step.Profile p) f t x = x
not_accepted w (Open i name) f t x = x
not_accepted w (Note i e) f t x = x
not_accepted w (Turn i) f t x = x
not_accepted w (Ask i) f t x = x
not_accepted w (Close i) f t x = x

-- the step is refused for this, and nothing changes
pub record IsRefused (s : State) (step : Step) (r : Reply) (t : State) : Type 0 where
  pub for : Refusal
  pub reply_is : r ≡ reply.Refused for
  pub refuses : Refuses s.world step for
  pub same : t ≡ s

pub split : (s t : State) (step : Step) (r : Reply) → IsAnswered s step r t → IsAccepted s step r t ⊎ IsRefused s step r t
split s t step (reply.Refused f) x = inr (record { for = f; reply_is = refl; refuses = x.0; same = x.1 })
split s t step (reply.Edited e changes) x = inl x
split s t step (reply.Profiled p) x = inl x
split s t step (reply.Opened i n) x = inl x
split s t step (reply.Noted i place answer) x = inl x
split s t step (reply.Judged i name events answer) x = inl x
split s t step (reply.Closed i name events verdict complete) x = inl x

pub accepted_answered : (s t : State) (step : Step) (r : Reply) → IsAccepted s step r t → IsAnswered s step r t
accepted_answered s t step (reply.Refused f) a = absurd (not_accepted s.world step f t a.replies)
accepted_answered s t step (reply.Edited e changes) a = a
accepted_answered s t step (reply.Profiled p) a = a
accepted_answered s t step (reply.Opened i n) a = a
accepted_answered s t step (reply.Noted i place answer) a = a
accepted_answered s t step (reply.Judged i name events answer) a = a
accepted_answered s t step (reply.Closed i name events verdict complete) a = a

pub refused_answered : (s : State) (step : Step) (r : Reply) (f : Refusal) → r ≡ reply.Refused f → Refuses s.world step f → IsAnswered s step r s
refused_answered s step r f is x = subst (λ (q : Reply). IsAnswered s step q s) (sym is) (x, refl)

-- ---- consistent states

module _ (s t : State) (r : Reply) (good : IsConsistent s) where
  accepted_consistent : (step : Step) → IsAccepted s step r t → IsConsistent t
  accepted_consistent (Put text) a = edit_consistent s t (Put text) good a.remarks a.follows.3
  accepted_consistent (Withdraw name) a = edit_consistent s t (Withdraw name) good a.remarks a.follows.3
  accepted_consistent (step.Profile p) a = edit_consistent s t (step.Profile p) good a.remarks (ap (λ (w : World). w.conversations) a.follows.1)
  accepted_consistent (Open i name) a = (open_beside s t i name a.follows r good a).consistent
  accepted_consistent (Note i e) a = (note_beside s t i e a.follows r good a).consistent
  accepted_consistent (Turn i) a = (turn_beside s t i r good a).consistent
  accepted_consistent (Ask i) a = (ask_beside s t i r good a).consistent
  accepted_consistent (Close i) a = (close_beside s t i r good a).consistent

  pub step_consistent : (step : Step) → IsAnswered s step r t → IsConsistent t
  step_consistent step x = elim (split s t step r x) [
    | inl a ↦ accepted_consistent step a
    | inr refused ↦ subst IsConsistent (sym refused.same) good
  ]

pub stays_consistent : StaysConsistent
stays_consistent s t [] [] good a = subst IsConsistent (sym a) good
stays_consistent s t [] (r ∷ rs) good a = absurd a
stays_consistent s t (step ∷ steps) [] good a = absurd a
stays_consistent s t (step ∷ steps) (r ∷ rs) good a = stays_consistent a.0 t steps rs (step_consistent s a.0 r good step a.1) a.2

-- ---- the state of a part

module _ (ids : ℕ → Bool) (s p : State) (good : IsConsistent s) (part : IsPart ids s p) where
  pub part_there : (j : ℕ) → ids j ≡ true → conversation p.world j ≡ conversation s.world j
  part_there j at = part.conversations j ∙ ap (λ (b : Bool). if b then conversation s.world j else None) at

  pub part_mark : (j : ℕ) → ids j ≡ true → p.marks j ≡ s.marks j
  part_mark j at = part.marks j ∙ ap (λ (b : Bool). if b then s.marks j else Fresh) at

  marked : (j : ℕ) → conversation p.world j ≡ None → (b : Bool) → ids j ≡ b → p.marks j ≡ Fresh
  marked j none true at = part_mark j at ∙ good.marked j (sym (part_there j at) ∙ none)
  marked j none false at = part.marks j ∙ ap (λ (b : Bool). if b then s.marks j else Fresh) at

  pub part_consistent : IsConsistent p
  part_consistent = record { once = part.once; marked = λ j none. marked j none (ids j) refl }

  pub part_agrees : (i : ℕ) → ids i ≡ true → Agrees i s p
  part_agrees i at = record {
    profile = part.profile;
    modules = part.modules;
    used = part.used;
    at = part_there i at;
    mark = part_mark i at;
  }

  -- a part has at most as many conversations as the whole
  pub part_fewer : length p.world.conversations ≤ length s.world.conversations
  part_fewer = fewer p.world.conversations s.world.conversations part.once good.once (λ i there. by i there (ids i) refl)
    where
      by : (i : ℕ) → IsSome (conversation p.world i) → (b : Bool) → ids i ≡ b → IsSome (conversation s.world i)
      by i there true at = subst IsSome (part_there i at) there
      by i there false at =
          let none : conversation p.world i ≡ None = part.conversations i ∙ ap (λ (b : Bool). if b then conversation s.world i else None) at in
          let no : IsSome {T = Conversation} None = subst IsSome none there in
          absurd (false≢true no)

  -- a step on a conversation of the part
  pub in_part : (i : ℕ) (t q : State) → ids i ≡ true → IsBeside i s t → IsBeside i p q → conversation q.world i ≡ conversation t.world i → q.marks i ≡ t.marks i → IsPart ids t q
  in_part i t q at whole own is mark = record {
    profile = own.profile ∙ part.profile ∙ sym whole.profile;
    modules = own.modules ∙ part.modules ∙ sym whole.modules;
    used = own.used ∙ part.used ∙ sym whole.used;
    once = own.consistent.once;
    conversations = λ j. elim (cases_eq j i) [
      | inl same ↦ subst (λ (k : ℕ). conversation q.world k ≡ (if ids k then conversation t.world k else None)) (sym same)
          (is ∙ sym (ap (λ (b : Bool). if b then conversation t.world i else None) at))
      | inr differ ↦ own.others j differ ∙ part.conversations j ∙ ap (λ (o : Option Conversation). if ids j then o else None) (sym (whole.others j differ))
    ];
    marks = λ j. elim (cases_eq j i) [
      | inl same ↦ subst (λ (k : ℕ). q.marks k ≡ (if ids k then t.marks k else Fresh)) (sym same)
          (mark ∙ sym (ap (λ (b : Bool). if b then t.marks i else Fresh) at))
      | inr differ ↦ own.marks j differ ∙ part.marks j ∙ ap (λ (m : Mark). if ids j then m else Fresh) (sym (whole.marks j differ))
    ];
  }

  -- a step on another conversation
  pub out_of_part : (i : ℕ) (t : State) → ids i ≡ false → IsBeside i s t → IsPart ids t p
  out_of_part i t at whole = record {
    profile = part.profile ∙ sym whole.profile;
    modules = part.modules ∙ sym whole.modules;
    used = part.used ∙ sym whole.used;
    once = part.once;
    conversations = λ j. elim (cases_eq j i) [
      | inl same ↦ subst (λ (k : ℕ). conversation p.world k ≡ (if ids k then conversation t.world k else None)) (sym same)
          (part.conversations i ∙ ap (λ (b : Bool). if b then conversation s.world i else None) at ∙ sym (ap (λ (b : Bool). if b then conversation t.world i else None) at))
      | inr differ ↦ part.conversations j ∙ ap (λ (o : Option Conversation). if ids j then o else None) (sym (whole.others j differ))
    ];
    marks = λ j. elim (cases_eq j i) [
      | inl same ↦ subst (λ (k : ℕ). p.marks k ≡ (if ids k then t.marks k else Fresh)) (sym same)
          (part.marks i ∙ ap (λ (b : Bool). if b then s.marks i else Fresh) at ∙ sym (ap (λ (b : Bool). if b then t.marks i else Fresh) at))
      | inr differ ↦ part.marks j ∙ ap (λ (m : Mark). if ids j then m else Fresh) (sym (whole.marks j differ))
    ];
  }

-- ---- a step of the part

module _ (ids : ℕ → Bool) (s u p : State) (r : Reply) (good : IsConsistent s) (part : IsPart ids s p) where
  own : IsConsistent p
  own = part_consistent ids s p good part

  abbrev Accepted : Step → Type 0
  Accepted step = (q : State) × IsAccepted p step r q × IsPart ids u q

  carried_in : (i : ℕ) (step : Step) → ids i ≡ true → IsBeside i s u → (carried : IsCarried i u p step r) → IsBeside i p carried.after → Accepted step
  carried_in i step at whole carried beside =
      (carried.after, carried.accepted, in_part ids s p good part i u carried.after at whole beside carried.at carried.mark)

  abbrev edited : State
  edited = with_library u p.world.conversations (λ j. if ids j then u.marks j else Fresh)

  edited_in : (edit : Step) → IsAccepted (with_library s p.world.conversations p.marks) edit r edited → IsPart ids u edited → Accepted edit
  edited_in edit a after = (edited, subst (λ (x : State). IsAccepted x edit r edited) (library_same s p part.profile part.modules part.used) a, after)

  accepted_in : (step : Step) → is_of ids step ≡ true → IsAccepted s step r u → Accepted step
  accepted_in (Put text) at a =
      edited_in (Put text) (put_carried s u p.world.conversations p.marks (λ j. if ids j then u.marks j else Fresh) r text a (edit_remarks ids s u p part (Put text) a.remarks))
      (edit_part ids s u p part (Put text) a.remarks a.follows.3)
  accepted_in (Withdraw name) at a =
      edited_in (Withdraw name) (withdraw_carried s u p.world.conversations p.marks (λ j. if ids j then u.marks j else Fresh) r name a (edit_remarks ids s u p part (Withdraw name) a.remarks))
      (edit_part ids s u p part (Withdraw name) a.remarks a.follows.3)
  accepted_in (step.Profile q) at a =
      edited_in (step.Profile q) (profile_carried s u p.world.conversations p.marks (λ j. if ids j then u.marks j else Fresh) r q a (edit_remarks ids s u p part (step.Profile q) a.remarks))
      (edit_part ids s u p part (step.Profile q) a.remarks (ap (λ (w : World). w.conversations) a.follows.1))
  accepted_in (Open i name) at a =
      let few = part_fewer ids s p good part in
      let room : length p.world.conversations < MAX_CONVERSATIONS = omega (arith, few, a.follows.2) in
      let c = open_carried i s u p good own (part_agrees ids s p good part i at) name r a room in
      carried_in i (Open i name) at (open_beside s u i name a.follows r good a) c (open_beside p c.after i name c.accepted.follows r own c.accepted)
  accepted_in (Note i e) at a =
      let c = note_carried i s u p good own (part_agrees ids s p good part i at) e r a in
      carried_in i (Note i e) at (note_beside s u i e a.follows r good a) c (note_beside p c.after i e c.accepted.follows r own c.accepted)
  accepted_in (Turn i) at a =
      let c = turn_carried i s u p good own (part_agrees ids s p good part i at) r a in
      carried_in i (Turn i) at (turn_beside s u i r good a) c (turn_beside p c.after i r own c.accepted)
  accepted_in (Ask i) at a =
      let c = ask_carried i s u p good own (part_agrees ids s p good part i at) r a in
      carried_in i (Ask i) at (ask_beside s u i r good a) c (ask_beside p c.after i r own c.accepted)
  accepted_in (Close i) at a =
      let c = close_carried i s u p good own (part_agrees ids s p good part i at) r a in
      carried_in i (Close i) at (close_beside s u i r good a) c (close_beside p c.after i r own c.accepted)

  abbrev at_library : (edit : Step) (f : Refusal) → Refuses (with_library s p.world.conversations p.marks).world edit f → Refuses p.world edit f
  at_library edit f x = subst (λ (q : State). Refuses q.world edit f) (library_same s p part.profile part.modules part.used) x

  refused_in : (step : Step) (f : Refusal) → is_of ids step ≡ true → f ≢ TooManyConversations → Refuses s.world step f → Refuses p.world step f
  refused_in (Put text) f at other x = at_library (Put text) f (put_refused s p.world.conversations p.marks text f x)
  refused_in (Withdraw name) f at other x = at_library (Withdraw name) f (withdraw_refused s p.world.conversations p.marks name f x)
  refused_in (step.Profile q) f at other x = at_library (step.Profile q) f (profile_refused s p.world.conversations p.marks q f x)
  refused_in (Open i name) f at other x = open_refused i s p (part_agrees ids s p good part i at) name f (λ is. absurd (other is)) x
  refused_in (Note i e) f at other x = note_refused i s p (part_agrees ids s p good part i at) e f x
  refused_in (Turn i) f at other x = turn_refused i s p (part_agrees ids s p good part i at) f x
  refused_in (Ask i) f at other x = ask_refused i s p (part_agrees ids s p good part i at) f x
  refused_in (Close i) f at other x = close_refused i s p (part_agrees ids s p good part i at) f x

  step_in : (step : Step) → is_of ids step ≡ true → r ≢ reply.Refused TooManyConversations → IsAnswered s step r u → (q : State) × IsAnswered p step r q × IsPart ids u q
  step_in step at few x = elim (split s u step r x) [
    | inl a ↦ (let after = accepted_in step at a in (after.0, accepted_answered p after.0 step r after.1, after.2))
    | inr refused ↦
        (let other : refused.for ≢ TooManyConversations = λ is. few (refused.reply_is ∙ ap (λ (f : Refusal). reply.Refused f) is) in (
          p,
          refused_answered p step r refused.for refused.reply_is (refused_in step refused.for at other refused.refuses),
          subst (λ (w : State). IsPart ids w p) (sym refused.same) part,
        ))
  ]

  accepted_out : (step : Step) → is_of ids step ≡ false → IsAccepted s step r u → IsPart ids u p
  accepted_out (Put text) at a = absurd (true≢false at)
  accepted_out (Withdraw name) at a = absurd (true≢false at)
  accepted_out (step.Profile q) at a = absurd (true≢false at)
  accepted_out (Open i name) at a = out_of_part ids s p good part i u at (open_beside s u i name a.follows r good a)
  accepted_out (Note i e) at a = out_of_part ids s p good part i u at (note_beside s u i e a.follows r good a)
  accepted_out (Turn i) at a = out_of_part ids s p good part i u at (turn_beside s u i r good a)
  accepted_out (Ask i) at a = out_of_part ids s p good part i u at (ask_beside s u i r good a)
  accepted_out (Close i) at a = out_of_part ids s p good part i u at (close_beside s u i r good a)

  step_out : (step : Step) → is_of ids step ≡ false → IsAnswered s step r u → IsPart ids u p
  step_out step at x = elim (split s u step r x) [
    | inl a ↦ accepted_out step at a
    | inr refused ↦ subst (λ (w : State). IsPart ids w p) (sym refused.same) part
  ]

-- ---- the law

module _ (ids : ℕ → Bool) (s t p u : State) (step : Step) (steps : List Step) (r : Reply) (rs : List Reply) (good : IsConsistent s) (part : IsPart ids s p) (one : IsAnswered s step r u) where
  -- one step more before a list whose part is answered
  more : r ≢ reply.Refused TooManyConversations → ((x : State) → IsPart ids u x → (q : State) × Answers x (part_of_steps ids steps) (replies_of ids steps rs) q × IsPart ids t q) → (b : Bool) → is_of ids step ≡ b
      → (q : State) × Answers p (if b then step ∷ part_of_steps ids steps else part_of_steps ids steps) (if b then r ∷ replies_of ids steps rs else replies_of ids steps rs) q × IsPart ids t q
  more few next true at =
      let first = step_in ids s u p r good part step at few one in
      let all = next first.0 first.2 in
      (all.0, (first.0, first.1, all.1), all.2)
  more few next false at = next p (step_out ids s u p r good part step at one)

pub answers_part : AnswersPart
answers_part ids s t p [] [] good part a few = (p, refl, subst (λ (w : State). IsPart ids w p) (sym a) part)
answers_part ids s t p [] (r ∷ rs) good part a few = absurd a
answers_part ids s t p (step ∷ steps) [] good part a few = absurd a
answers_part ids s t p (step ∷ steps) (r ∷ rs) good part a few =
    let after = step_consistent s a.0 r good step a.1 in
    let rest = All-tail (λ (q : Reply). q ≢ reply.Refused TooManyConversations) r rs few in
    more ids s t p a.0 step steps r rs good part a.1 (All-head (λ (q : Reply). q ≢ reply.Refused TooManyConversations) r rs few)
    (λ x inside. answers_part ids a.0 t x steps rs after inside a.2 rest)
    (is_of ids step) refl

pub restricted_part : IsRestrictedPart
restricted_part ids s good = record {
  profile = refl;
  modules = refl;
  used = refl;
  once = IsDistinct-keys_filter nat_eq (λ (e : ℕ × Conversation). ids e.0) s.world.conversations good.once;
  conversations = λ j. lookup_filter ids s.world.conversations j;
  marks = λ j. refl;
}

-- an empty list has no id twice
empty_once : Once {X = Conversation} []
empty_once = IsDistinct-from_AllPairs (λ (a b : ℕ). Decides-eqb a b) [] (λ i j d before within. absurd (omega (arith, within)))

if_same : {X : Type 0} (b : Bool) (x : X) → x ≡ (if b then x else x)
if_same true x = refl
if_same false x = refl

pub initial_part : IsInitialPart
initial_part ids p = (
  record { once = empty_once; marked = λ j e. refl },
  record {
    profile = refl;
    modules = refl;
    used = refl;
    once = empty_once;
    conversations = λ j. if_same (ids j) None;
    marks = λ j. if_same (ids j) Fresh;
  },
)
