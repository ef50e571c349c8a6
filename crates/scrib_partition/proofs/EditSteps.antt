-- An edit, carried over to a state with the same library and with other conversations.
use Rattle.std.proofs.Common.{◌≡◌, ◌⊎◌, inl, inr, ℕ, Bool, true, false, if◌then◌else◌, List, length, Some, None, nat_eq, refl, sym, ap, subst, ◌∙◌}
use Rattle.std.specs.Map.{lookup}
use Rattle.scrib_types.specs.declared.profile.Profile.{Profile}
use Rattle.scrib_library.specs.declared.changes.ChangeKind.{ChangeKind}
use Rattle.scrib_library.specs.declared.fault.EditFault.TheVariants as fault
use Rattle.scrib_library.specs.Edits.{Changes}
use Rattle.scrib_core.specs.declared.step.Step.{Step}
use Rattle.scrib_core.specs.declared.step.Step.TheVariants.{Put, Withdraw}
use Rattle.scrib_core.specs.declared.step.Step.TheVariants as step
use Rattle.scrib_core.specs.declared.reply.Reply.{Reply}
use Rattle.scrib_core.specs.declared.reply.Reply.TheVariants as reply
use Rattle.scrib_core.specs.declared.reply.Refusal.{Refusal}
use Rattle.scrib_core.specs.declared.reply.Refusal.TheVariants as refusal
use Rattle.scrib_core.specs.World.{World, Conversation, conversation, Refuses}
use Rattle.scrib_core.specs.Marks.{Mark, Marks, Fresh, IsLeft, IsReset, UpdatesMarks}
use Rattle.scrib_core.specs.Answers.{State, IsAccepted, Replies}
use Rattle.scrib_partition.specs.Partition.{IsConsistent, IsPart}
use Rattle.scrib_partition.proofs.EntryLemmas.{Once}
use Rattle.scrib_partition.proofs.BesideLemmas.{some_not_none}

-- the library of the state, with these conversations and marks
abbrev pub with_library : State → List (ℕ × Conversation) → Marks → State
with_library t entries marks = record {
  world = record { profile = t.world.profile; modules = t.world.modules; used = t.world.used; conversations = entries };
  marks = marks;
}

-- a state that has the library of another
pub library_same : (s p : State) → p.world.profile ≡ s.world.profile → p.world.modules ≡ s.world.modules → p.world.used ≡ s.world.used → with_library s p.world.conversations p.marks ≡ p
library_same s p profile modules used = sym (λ j. record {
  world = record { profile = profile j; modules = modules j; used = used j; conversations = p.world.conversations };
  marks = p.marks;
})

-- ---- accepted edits

module _ (s t : State) (entries : List (ℕ × Conversation)) (old new : Marks) (r : Reply) where
  abbrev before : State
  before = with_library s entries old

  abbrev after : State
  after = with_library t entries new

  module _ (text : List ℕ) where
    put_replies : (q : Reply) → Replies s.world (Put text) q t → Replies before.world (Put text) q after
    put_replies (reply.Edited e changes) x = x
    put_replies q x = absurd x

    pub put_carried : IsAccepted s (Put text) r t → UpdatesMarks before.world old (Put text) after.world new → IsAccepted before (Put text) r after
    put_carried a remarks = record {
      follows = (
        a.follows.0,
        record { list = a.follows.1.list; changes = a.follows.1.changes; count = a.follows.1.count; few = a.follows.1.few },
        a.follows.2,
        refl,
      );
      replies = put_replies r a.replies;
      remarks = remarks;
    }

  module _ (name : List (List ℕ)) where
    withdraw_replies : (q : Reply) → Replies s.world (Withdraw name) q t → Replies before.world (Withdraw name) q after
    withdraw_replies (reply.Edited e changes) x = x
    withdraw_replies q x = absurd x

    pub withdraw_carried : IsAccepted s (Withdraw name) r t → UpdatesMarks before.world old (Withdraw name) after.world new → IsAccepted before (Withdraw name) r after
    withdraw_carried a remarks = record {
      follows = (a.follows.0, a.follows.1, a.follows.2, refl);
      replies = withdraw_replies r a.replies;
      remarks = remarks;
    }

  module _ (p : Profile) where
    profile_replies : (q : Reply) → Replies s.world (step.Profile p) q t → Replies before.world (step.Profile p) q after
    profile_replies (reply.Profiled n) x = x
    profile_replies q x = absurd x

    pub profile_carried : IsAccepted s (step.Profile p) r t → UpdatesMarks before.world old (step.Profile p) after.world new → IsAccepted before (step.Profile p) r after
    profile_carried a remarks = record {
      follows = (a.follows.0, ap (λ (w : World). record { profile = w.profile; modules = w.modules; used = w.used; conversations = entries }) a.follows.1);
      replies = profile_replies r a.replies;
      remarks = remarks;
    }

-- ---- the marks of a part

module _ (ids : ℕ → Bool) (s t p : State) (part : IsPart ids s p) (edit : Step) (remarks : UpdatesMarks s.world s.marks edit t.world t.marks) where
  abbrev pub part_marks : Marks
  part_marks j = if ids j then t.marks j else Fresh

  unopened : (j : ℕ) → conversation p.world j ≡ None → (b : Bool) → ids j ≡ b → (if b then t.marks j else Fresh) ≡ Fresh
  unopened j e true at = remarks.unopened j (sym (part.conversations j ∙ ap (λ (b : Bool). if b then conversation s.world j else None) at) ∙ e)
  unopened j e false at = refl

  opened : (j : ℕ) (c : Conversation) → conversation p.world j ≡ Some c → (b : Bool) → ids j ≡ b
      → IsLeft edit j (length c.log) (p.marks j) (part_marks j) ⊎ ((kind : ChangeKind) × Changes s.world.modules t.world.modules kind c.name × IsReset (part_marks j))
  opened j c e true at =
      let there : conversation s.world j ≡ Some c = sym (part.conversations j ∙ ap (λ (b : Bool). if b then conversation s.world j else None) at) ∙ e in
      let was : p.marks j ≡ s.marks j = part.marks j ∙ ap (λ (b : Bool). if b then s.marks j else Fresh) at in
      let now : part_marks j ≡ t.marks j = ap (λ (b : Bool). if b then t.marks j else Fresh) at in
      elim (remarks.opened j c there) [
        | inl l ↦ inl (subst (IsLeft edit j (length c.log) (p.marks j)) (sym now) (subst (λ (m : Mark). IsLeft edit j (length c.log) m (t.marks j)) (sym was) l))
        | inr changed ↦ inr (changed.0, changed.1, subst IsReset (sym now) changed.2)
      ]
  opened j c e false at = absurd (some_not_none (conversation p.world j) c (part.conversations j ∙ ap (λ (b : Bool). if b then conversation s.world j else None) at) e)

  pub edit_remarks : UpdatesMarks (with_library s p.world.conversations p.marks).world p.marks edit (with_library t p.world.conversations part_marks).world part_marks
  edit_remarks = record {
    unopened = λ j e. unopened j e (ids j) refl;
    opened = λ j c e. opened j c e (ids j) refl;
  }

  -- the part after an edit that leaves the conversations
  pub edit_part : t.world.conversations ≡ s.world.conversations → IsPart ids t (with_library t p.world.conversations part_marks)
  edit_part entries = record {
    profile = refl;
    modules = refl;
    used = refl;
    once = part.once;
    conversations = λ j. part.conversations j ∙ ap (λ (es : List (ℕ × Conversation)). if ids j then lookup (nat_eq j) es else None) (sym entries);
    marks = λ j. refl;
  }

-- an edit that leaves the conversations leaves a state consistent
pub edit_consistent : (s t : State) (edit : Step) → IsConsistent s → UpdatesMarks s.world s.marks edit t.world t.marks → t.world.conversations ≡ s.world.conversations → IsConsistent t
edit_consistent s t edit good remarks entries = record {
  once = subst Once (sym entries) good.once;
  marked = λ j none. remarks.unopened j (ap (λ (es : List (ℕ × Conversation)). lookup (nat_eq j) es) (sym entries) ∙ none);
}

-- ---- refused edits

module _ (s : State) (entries : List (ℕ × Conversation)) (marks : Marks) where
  pub put_refused : (text : List ℕ) (f : Refusal) → Refuses s.world (Put text) f → Refuses (with_library s entries marks).world (Put text) f
  put_refused text (refusal.Edit (fault.Lex g)) x = x
  put_refused text f x = x

  pub withdraw_refused : (name : List (List ℕ)) (f : Refusal) → Refuses s.world (Withdraw name) f → Refuses (with_library s entries marks).world (Withdraw name) f
  withdraw_refused name (refusal.Edit (fault.Lex g)) x = x
  withdraw_refused name f x = x

  pub profile_refused : (p : Profile) (f : Refusal) → Refuses s.world (step.Profile p) f → Refuses (with_library s entries marks).world (step.Profile p) f
  profile_refused p (refusal.Edit (fault.Lex g)) x = x
  profile_refused p f x = x
