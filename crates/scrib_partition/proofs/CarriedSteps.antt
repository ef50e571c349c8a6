-- A step on a conversation, carried over to a state that agrees on this conversation and on the library.
use Rattle.std.proofs.Common.{◌≡◌, ◌↔◌, inl, ℕ, ◌<◌, ◌≤◌, Bool, true, false, cond, IsTrue, List, [], ◌∷◌, ◌++◌, length, Option, Some, None, nat_eq, refl, sym, ap, subst, ◌∙◌}
use Rattle.std.specs.Prelude.{IsSome}
use Rattle.std.specs.Map.{set_value, remove_entry}
use Rattle.std.proofs.lemmas.Bool.Decides.{Decides-eqb}
use Rattle.scrib_types.specs.declared.event.Event.{Event}
use Rattle.scrib_types.specs.declared.event.Told.{Told}
use Rattle.scrib_types.specs.declared.event.Told.TheVariants as tell
use Rattle.scrib_types.specs.declared.event.Verdict.{Verdict}
use Rattle.scrib_types.specs.declared.event.Verdict.TheVariants.{Permitted}
use Rattle.scrib_types.specs.Agreement.{Agreement}
use Rattle.scrib_types.specs.Complete.{IsComplete}
use Rattle.scrib_tree.specs.declared.tree.ModuleTree.{ModuleTree}
use Rattle.scrib_library.specs.Modules.{Means}
use Rattle.scrib_core.specs.declared.step.Step.{Step}
use Rattle.scrib_core.specs.declared.step.Step.TheVariants.{Open, Note, Turn, Ask, Close}
use Rattle.scrib_core.specs.declared.reply.Reply.{Reply}
use Rattle.scrib_core.specs.declared.reply.Reply.TheVariants as reply
use Rattle.scrib_core.specs.declared.reply.Refusal.{Refusal}
use Rattle.scrib_core.specs.declared.reply.Refusal.TheVariants as refusal
use Rattle.scrib_core.specs.declared.monitor.TheConstants.{MAX_CONVERSATIONS}
use Rattle.scrib_core.specs.World.{World, Conversation, conversation, noted, opened, Follows, Refuses}
use Rattle.scrib_core.specs.Marks.{Mark, Fresh, IsStale, IsMarkTurned, IsLeft}
use Rattle.scrib_core.specs.Answers.{State, IsAccepted, IsFresh, IsReportedIn, IsJudged, IsConcluded, Replies}
use Rattle.scrib_partition.specs.Partition.{IsConsistent}
use Rattle.scrib_partition.proofs.EntryLemmas.{apart, itself, pushed_itself, lookup_set, lookup_taken, taken}
use Rattle.scrib_partition.proofs.BesideLemmas.{is_some, left, mark_left, open_own, note_own, close_mark}

-- the states agree on the library, and on the conversation of this id and its mark
pub record Agrees (i : ℕ) (s p : State) : Type 0 where
  pub profile : p.world.profile ≡ s.world.profile
  pub modules : p.world.modules ≡ s.world.modules
  pub used : p.world.used ≡ s.world.used
  pub at : conversation p.world i ≡ conversation s.world i
  pub mark : p.marks i ≡ s.marks i

-- the step has this reply in the other state too, and the states after it agree on the conversation and its mark
pub record IsCarried (i : ℕ) (t p : State) (step : Step) (r : Reply) : Type 0 where
  pub after : State
  pub accepted : IsAccepted p step r after
  pub at : conversation after.world i ≡ conversation t.world i
  pub mark : after.marks i ≡ t.marks i

-- ---- replies

module _ (t q : State) (i : ℕ) (modules : q.world.modules ≡ t.world.modules) (at : conversation q.world i ≡ conversation t.world i) (mark : q.marks i ≡ t.marks i) where
  reported : (answer : Told) → IsReportedIn t i answer → IsReportedIn q i answer
  reported tell.Stale x = subst IsStale (sym mark) x
  reported (tell.Judged v) x = (mark ∙ x.0, (x.1.0, at ∙ x.1.1, subst (λ (ms : List ModuleTree). IsFresh ms x.1.0 v) (sym modules) x.1.2))

  judged : (name : List (List ℕ)) (events : ℕ) (answer : Told) → IsJudged t i name events answer → IsJudged q i name events answer
  judged name events answer x = record {
    of = x.of;
    there = at ∙ x.there;
    name_is = x.name_is;
    events_are = x.events_are;
    reported = reported answer x.reported;
  }

  note_replies : (w v : World) (e : Event) (r : Reply) → Replies w (Note i e) r t → Replies v (Note i e) r q
  note_replies w v e (reply.Noted j place answer) x = (x.0, (x.1.0, at ∙ x.1.1, x.1.2), reported answer x.2)
  note_replies w v e r x = absurd x

  turn_replies : (w v : World) (r : Reply) → Replies w (Turn i) r t → Replies v (Turn i) r q
  turn_replies w v (reply.Judged j name events answer) x = (x.0, judged name events answer x.1)
  turn_replies w v r x = absurd x

  ask_replies : (w v : World) (r : Reply) → Replies w (Ask i) r t → Replies v (Ask i) r q
  ask_replies w v (reply.Judged j name events answer) x = (x.0, judged name events answer x.1)
  ask_replies w v r x = absurd x

open_replies : (w v : World) (t q : State) (i : ℕ) (name : List (List ℕ)) (r : Reply) → Replies w (Open i name) r t → Replies v (Open i name) r q
open_replies w v t q i name (reply.Opened j n) x = x
open_replies w v t q i name r x = absurd x

module _ (w v : World) (i : ℕ) (modules : v.modules ≡ w.modules) (at : conversation v i ≡ conversation w i) where
  concluded : (name : List (List ℕ)) (events : ℕ) (verdict : Verdict) (complete : Bool) → IsConcluded w i name events verdict complete → IsConcluded v i name events verdict complete
  concluded name events verdict complete x = record {
    of = x.of;
    there = at ∙ x.there;
    name_is = x.name_is;
    events_are = x.events_are;
    fresh = subst (λ (ms : List ModuleTree). IsFresh ms x.of verdict) (sym modules) x.fresh;
    complete_is =
        subst (λ (ms : List ModuleTree). IsTrue complete ↔ ((verdict ≡ Permitted) × ((a : Agreement) × Means ms x.of.name a × IsComplete a x.of.log)))
        (sym modules) x.complete_is;
  }

  close_replies : (t q : State) (r : Reply) → Replies w (Close i) r t → Replies v (Close i) r q
  close_replies t q (reply.Closed j name events verdict complete) x = (x.0, concluded name events verdict complete x.1)
  close_replies t q r x = absurd x

-- ---- accepted steps

module _ (i : ℕ) (s t p : State) (good : IsConsistent s) (own : IsConsistent p) (agrees : Agrees i s p) where
  -- the state with these conversations and marks, and the library of p
  abbrev with_own : List (ℕ × Conversation) → (ℕ → Mark) → State
  with_own entries marks = record {
    world = record { profile = p.world.profile; modules = p.world.modules; used = p.world.used; conversations = entries };
    marks = marks;
  }

  module _ (name : List (List ℕ)) (r : Reply) (a : IsAccepted s (Open i name) r t) (room : length p.world.conversations < MAX_CONVERSATIONS) where
    abbrev f : Follows s.world (Open i name) t.world
    f = a.follows

    none : conversation p.world i ≡ None
    none = agrees.at ∙ f.0

    abbrev open_after : State
    open_after = with_own (p.world.conversations ++ (i, opened name) ∷ []) p.marks

    pub open_carried : IsCarried i t p (Open i name) r
    open_carried = record {
      after = open_after;
      accepted = record {
        follows = (none, (f.1.0, subst (λ (ms : List ModuleTree). Means ms name f.1.0) (sym agrees.modules) f.1.1), room, refl);
        replies = open_replies s.world p.world t open_after i name r a.replies;
        remarks = record { unopened = own.marked; opened = λ j c e. inl refl };
      };
      at = pushed_itself p.world.conversations i (opened name) none ∙ sym (open_own s t i name a.follows);
      mark = own.marked i none ∙ sym (a.remarks.unopened i a.follows.0);
    }

  module _ (e : Event) (r : Reply) (a : IsAccepted s (Note i e) r t) where
    abbrev new : Conversation
    new = noted a.follows.0 e

    note_there : conversation p.world i ≡ Some a.follows.0
    note_there = agrees.at ∙ a.follows.1

    note_same : t.world.modules ≡ s.world.modules
    note_same = ap (λ (w : World). w.modules) a.follows.3

    abbrev note_after : State
    note_after = with_own (set_value (nat_eq i) p.world.conversations new) p.marks

    note_is : conversation note_after.world i ≡ conversation t.world i
    note_is =
        lookup_set p.world.conversations i i new (is_some (conversation p.world i) a.follows.0 note_there)
        ∙ ap (λ (b : Bool). cond b (Some new) (conversation p.world i)) (itself i) ∙ sym (note_own s t i e a.follows)

    note_mark : p.marks i ≡ t.marks i
    note_mark = agrees.mark ∙ sym (mark_left s t (Note i e) r good a note_same i (λ events l. l))

    pub note_carried : IsCarried i t p (Note i e) r
    note_carried = record {
      after = note_after;
      accepted = record {
        follows = (a.follows.0, note_there, a.follows.2, refl);
        replies = note_replies t note_after i (agrees.modules ∙ sym note_same) note_is note_mark s.world p.world e r a.replies;
        remarks = record { unopened = own.marked; opened = λ j c x. inl refl };
      };
      at = note_is;
      mark = note_mark;
    }

  module _ (r : Reply) (a : IsAccepted s (Turn i) r t) where
    turn_same : t.world.modules ≡ s.world.modules
    turn_same = ap (λ (w : World). w.modules) a.follows.1

    turn_there : IsSome (conversation p.world i)
    turn_there = subst IsSome (sym agrees.at) a.follows.0

    abbrev turn_marks : ℕ → Mark
    turn_marks j = cond (nat_eq i j) (t.marks i) (p.marks j)

    abbrev turn_after : State
    turn_after = record { world = p.world; marks = turn_marks }

    turn_is : conversation p.world i ≡ conversation t.world i
    turn_is = agrees.at ∙ sym (ap (λ (w : World). conversation w i) a.follows.1)

    turn_mark : turn_marks i ≡ t.marks i
    turn_mark = ap (λ (b : Bool). cond b (t.marks i) (p.marks i)) (itself i)

    turn_unopened : (j : ℕ) → conversation p.world j ≡ None → (b : Bool) → nat_eq i j ≡ b → cond b (t.marks i) (p.marks j) ≡ Fresh
    turn_unopened j e true at = absurd (there_not (conversation p.world i) turn_there (subst (λ (k : ℕ). conversation p.world k ≡ None) (sym ((Decides-eqb i j).0 at)) e))
      where
        there_not : (o : Option Conversation) → IsSome o → o ≡ None → ⊥
        there_not o some none = let n : false ≡ true = subst IsSome none some in cc
    turn_unopened j e false at = own.marked j e

    turn_itself : (c : Conversation) → conversation p.world i ≡ Some c → IsMarkTurned (length c.log) (p.marks i) (turn_marks i)
    turn_itself c e =
        let turned : IsMarkTurned (length c.log) (s.marks i) (t.marks i) = (left s t (Turn i) r good a turn_same i c (sym agrees.at ∙ e)).0 refl in
        subst (IsMarkTurned (length c.log) (p.marks i)) (sym turn_mark) (subst (λ (m : Mark). IsMarkTurned (length c.log) m (t.marks i)) (sym agrees.mark) turned)

    turn_left : (j : ℕ) (c : Conversation) → conversation p.world j ≡ Some c → IsLeft (Turn i) j (length c.log) (p.marks j) (turn_marks j)
    turn_left j c e = (
      λ at. subst (λ (k : ℕ). IsMarkTurned (length c.log) (p.marks k) (turn_marks k)) at (turn_itself c (subst (λ (k : ℕ). conversation p.world k ≡ Some c) (sym at) e)),
      λ differ. ap (λ (b : Bool). cond b (t.marks i) (p.marks j)) (apart i j differ),
    )

    pub turn_carried : IsCarried i t p (Turn i) r
    turn_carried = record {
      after = turn_after;
      accepted = record {
        follows = (turn_there, refl);
        replies = turn_replies t turn_after i (agrees.modules ∙ sym turn_same) turn_is turn_mark s.world p.world r a.replies;
        remarks = record { unopened = λ j e. turn_unopened j e (nat_eq i j) refl; opened = λ j c e. inl (turn_left j c e) };
      };
      at = turn_is;
      mark = turn_mark;
    }

  module _ (r : Reply) (a : IsAccepted s (Ask i) r t) where
    ask_same : t.world.modules ≡ s.world.modules
    ask_same = ap (λ (w : World). w.modules) a.follows.1

    ask_is : conversation p.world i ≡ conversation t.world i
    ask_is = agrees.at ∙ sym (ap (λ (w : World). conversation w i) a.follows.1)

    ask_mark : p.marks i ≡ t.marks i
    ask_mark = agrees.mark ∙ sym (mark_left s t (Ask i) r good a ask_same i (λ events l. l))

    pub ask_carried : IsCarried i t p (Ask i) r
    ask_carried = record {
      after = p;
      accepted = record {
        follows = (subst IsSome (sym agrees.at) a.follows.0, refl);
        replies = ask_replies t p i (agrees.modules ∙ sym ask_same) ask_is ask_mark s.world p.world r a.replies;
        remarks = record { unopened = own.marked; opened = λ j c e. inl refl };
      };
      at = ask_is;
      mark = ask_mark;
    }

  module _ (r : Reply) (a : IsAccepted s (Close i) r t) where
    abbrev old : Conversation
    old = a.follows.0.0

    close_there : conversation p.world i ≡ Some old
    close_there = agrees.at ∙ a.follows.0.1.there

    abbrev close_after : State
    close_after = with_own (remove_entry (nat_eq i) p.world.conversations) (λ j. cond (nat_eq i j) Fresh (p.marks j))

    close_at : (j : ℕ) → conversation close_after.world j ≡ cond (nat_eq i j) None (conversation p.world j)
    close_at j = lookup_taken p.world.conversations i j own.once

    close_gone : conversation close_after.world i ≡ None
    close_gone = close_at i ∙ ap (λ (b : Bool). cond b None (conversation p.world i)) (itself i)

    close_unopened : (j : ℕ) → conversation p.world j ≡ None → (b : Bool) → cond b Fresh (p.marks j) ≡ Fresh
    close_unopened j e true = refl
    close_unopened j e false = own.marked j e

    pub close_carried : IsCarried i t p (Close i) r
    close_carried = record {
      after = close_after;
      accepted = record {
        follows = (
          (
            old,
            record {
              there = close_there;
              rest = taken p.world.conversations i old close_there;
              gone = close_gone;
              others = λ j differ. close_at j ∙ ap (λ (b : Bool). cond b None (conversation p.world j)) (apart i j (λ at. differ (sym at)));
            },
          ),
          refl,
          refl,
          refl,
        );
        replies = close_replies s.world p.world i agrees.modules agrees.at t close_after r a.replies;
        remarks = record {
          unopened = λ j e. close_unopened j e (nat_eq i j);
          opened = λ j c e. inl (
            λ at. ap (λ (b : Bool). cond b Fresh (p.marks j)) ((Decides-eqb i j).1 at),
            λ differ. ap (λ (b : Bool). cond b Fresh (p.marks j)) (apart i j differ),
          );
        };
      };
      at = close_gone ∙ sym a.follows.0.1.gone;
      mark = ap (λ (b : Bool). cond b Fresh (p.marks i)) (itself i) ∙ sym (close_mark s t i r good a);
    }

-- ---- refusals

module _ (i : ℕ) (s p : State) (agrees : Agrees i s p) where
  pub open_refused : (name : List (List ℕ)) (f : Refusal) → (f ≡ refusal.TooManyConversations → MAX_CONVERSATIONS ≤ length s.world.conversations → MAX_CONVERSATIONS ≤ length p.world.conversations)
      → Refuses s.world (Open i name) f → Refuses p.world (Open i name) f
  open_refused name refusal.AlreadyOpen full x = subst IsSome (sym agrees.at) x
  open_refused name refusal.UnknownProtocol full x = (agrees.at ∙ x.0, λ a m. x.1 a (subst (λ (ms : List ModuleTree). Means ms name a) agrees.modules m))
  open_refused name refusal.TooManyConversations full x =
      (agrees.at ∙ x.0, (x.1.0, subst (λ (ms : List ModuleTree). Means ms name x.1.0) (sym agrees.modules) x.1.1), full refl x.2)
  open_refused name f full x = x

  pub note_refused : (e : Event) (f : Refusal) → Refuses s.world (Note i e) f → Refuses p.world (Note i e) f
  note_refused e refusal.NoConversation x = agrees.at ∙ x
  note_refused e refusal.LogFull x = (x.0, agrees.at ∙ x.1, x.2)
  note_refused e f x = x

  pub turn_refused : (f : Refusal) → Refuses s.world (Turn i) f → Refuses p.world (Turn i) f
  turn_refused refusal.NoConversation x = agrees.at ∙ x
  turn_refused f x = x

  pub ask_refused : (f : Refusal) → Refuses s.world (Ask i) f → Refuses p.world (Ask i) f
  ask_refused refusal.NoConversation x = agrees.at ∙ x
  ask_refused f x = x

  pub close_refused : (f : Refusal) → Refuses s.world (Close i) f → Refuses p.world (Close i) f
  close_refused refusal.NoConversation x = agrees.at ∙ x
  close_refused f x = x
