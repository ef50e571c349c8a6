-- What a turn does to the marks, and which conversations of a core are marked.
use Rattle.std.proofs.Common.{◌≡◌, ◌≢◌, ◌⊎◌, inl, inr, ℕ, List, Option, Some, None, refl, sym, ap, subst, ◌∙◌}
use Rattle.std.specs.Prelude.{length}
use Rattle.scrib_tree.specs.declared.tree.ModuleTree.{ModuleTree}
use Rattle.scrib_library.specs.declared.changes.ChangeKind.{ChangeKind}
use Rattle.scrib_library.specs.declared.changes.ChangeKind.TheVariants.{Added, Replaced, Withdrawn}
use Rattle.scrib_library.specs.Edits.{Changes}
use Rattle.scrib_library.proofs.MeaningLemmas.{means_once}
use Rattle.scrib_core.specs.declared.step.Step.TheVariants.{Turn}
use Rattle.scrib_core.specs.declared.reply.Reply.{Reply}
use Rattle.scrib_core.specs.declared.reply.Reply.TheVariants as reply
use Rattle.scrib_core.specs.World.{World, Conversation, conversation}
use Rattle.scrib_core.specs.Marks.{Mark, Fresh, Stale, IsStale, IsMarkTurned, IsLeft}
use Rattle.scrib_core.specs.Answers.{State, IsAccepted, IsAnswered}
use Rattle.scrib_core.specs.Held.{Held, mark_at, state_of}
use Rattle.scrib_core.proofs.ConversationLemmas.{none_seen}

-- a mark is fresh or stale
pub fresh_or_stale : (m : Mark) → (m ≡ Fresh) ⊎ IsStale m
fresh_or_stale Fresh = inl refl
fresh_or_stale (Stale n) = inr tt

-- a fresh mark is not stale
pub not_both : (m : Mark) → m ≡ Fresh → IsStale m → ⊥
not_both m fresh stale = subst IsStale fresh stale

-- modules change no meaning of themselves
no_change : (ms : List ModuleTree) (kind : ChangeKind) (n : List (List ℕ)) → Changes ms ms kind n → ⊥
no_change ms Added n d = d.0 d.1.0 d.1.1
no_change ms Withdrawn n d = d.1 d.0.0 d.0.1
no_change ms Replaced n d = d.4 (means_once ms n d.0 d.1 d.2 d.3)

-- only open conversations are marked
abbrev pub OnlyOpenMarked : State → Type 0
OnlyOpenMarked s = (j : ℕ) → conversation s.world j ≡ None → s.marks j ≡ Fresh

pub only_open : (c : Held) → OnlyOpenMarked (state_of c)
only_open c j e = ap (mark_at c.library) (none_seen c.library c.records j e)

-- a stale conversation is open
pub stale_open : (s : State) → OnlyOpenMarked s → (id : ℕ) → IsStale (s.marks id) → (c : Conversation) × (conversation s.world id ≡ Some c)
stale_open s only id stale = by (conversation s.world id) refl
  where
    by : (o : Option Conversation) → conversation s.world id ≡ o → (c : Conversation) × (conversation s.world id ≡ Some c)
    by None e = absurd (not_both (s.marks id) (only id e) stale)
    by (Some c) e = (c, e)

-- an accepted turn leaves the world and the marks of other conversations
pub record IsTurn (s : State) (id : ℕ) (t : State) : Type 0 where
  pub world : t.world ≡ s.world
  pub others : (j : ℕ) → j ≢ id → t.marks j ≡ s.marks j
  pub own : (c : Conversation) → conversation s.world id ≡ Some c → IsMarkTurned (length c.log) (s.marks id) (t.marks id)

module _ (s t : State) (id : ℕ) (r : Reply) (only : OnlyOpenMarked s) (a : IsAccepted s (Turn id) r t) where
  left : (j : ℕ) (c : Conversation) → conversation s.world j ≡ Some c → IsLeft (Turn id) j (length c.log) (s.marks j) (t.marks j)
  left j c e = elim (a.remarks.opened j c e) [
    | inl l ↦ l
    | inr changed ↦ absurd (no_change s.world.modules changed.0 c.name (subst (λ (w : World). Changes s.world.modules w.modules changed.0 c.name) a.follows.1 changed.1))
  ]

  other : (j : ℕ) → j ≢ id → (o : Option Conversation) → conversation s.world j ≡ o → t.marks j ≡ s.marks j
  other j apart None e = a.remarks.unopened j e ∙ sym (only j e)
  other j apart (Some c) e = (left j c e).1 (λ same. apart (sym same))

  pub turned : IsTurn s id t
  turned = record {
    world = a.follows.1;
    others = λ j apart. other j apart (conversation s.world j) refl;
    own = λ c e. (left id c e).0 refl;
  }

-- an accepted turn is answered
pub accepted_answered : (s t : State) (id : ℕ) (r : Reply) → IsAccepted s (Turn id) r t → IsAnswered s (Turn id) r t
accepted_answered s t id (reply.Edited e changes) a = a
accepted_answered s t id (reply.Profiled p) a = a
accepted_answered s t id (reply.Opened i n) a = a
accepted_answered s t id (reply.Noted i place answer) a = a
accepted_answered s t id (reply.Judged i name events answer) a = a
accepted_answered s t id (reply.Closed i name events verdict complete) a = a
accepted_answered s t id (reply.Refused f) a = absurd a.replies
