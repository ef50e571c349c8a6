-- What a step on a conversation leaves: the library, and the other conversations with their marks.
use Rattle.std.proofs.Common.{◌≡◌, ◌≢◌, inl, inr, ℕ, Bool, cond, List, [], ◌∷◌, ◌++◌, length, Option, Some, None, nat_eq, refl, sym, ap, subst, ◌∙◌}
use Rattle.std.specs.Prelude.{IsSome}
use Rattle.std.specs.Map.{lookup, set_value}
use Rattle.std.proofs.lemmas.Bool.{cases_eq}
use Rattle.scrib_types.specs.declared.event.Event.{Event}
use Rattle.scrib_tree.specs.declared.tree.ModuleTree.{ModuleTree}
use Rattle.scrib_library.specs.declared.changes.ChangeKind.{ChangeKind}
use Rattle.scrib_library.specs.declared.changes.ChangeKind.TheVariants.{Added, Replaced, Withdrawn}
use Rattle.scrib_library.specs.Edits.{Changes}
use Rattle.scrib_library.proofs.MeaningLemmas.{means_once}
use Rattle.scrib_core.specs.declared.step.Step.{Step}
use Rattle.scrib_core.specs.declared.step.Step.TheVariants.{Open, Note, Turn, Ask, Close}
use Rattle.scrib_core.specs.declared.reply.Reply.{Reply}
use Rattle.scrib_core.specs.World.{World, Conversation, conversation, noted, opened, IsTakenOut, Follows}
use Rattle.scrib_core.specs.Marks.{Fresh, IsLeft}
use Rattle.scrib_core.specs.Answers.{State, IsAccepted}
use Rattle.scrib_partition.specs.Partition.{IsConsistent}
use Rattle.scrib_partition.proofs.EntryLemmas.{Once, apart, itself, pushed_once, pushed_other, pushed_itself, lookup_set, set_once, taken_once}

-- where the modules stay, no meaning changes
no_change : (ms : List ModuleTree) (kind : ChangeKind) (n : List (List ℕ)) → Changes ms ms kind n → ⊥
no_change ms Added n d = d.0 d.1.0 d.1.1
no_change ms Withdrawn n d = d.1 d.0.0 d.0.1
no_change ms Replaced n d = d.4 (means_once ms n d.0 d.1 d.2 d.3)

pub some_not_none : {X : Type 0} (o : Option X) (x : X) → o ≡ None → o ≡ Some x → ⊥
some_not_none o x e f = let n : Some x ≡ None = sym f ∙ e in cc

pub is_some : {X : Type 0} (o : Option X) (x : X) → o ≡ Some x → IsSome o
is_some o x e = subst IsSome (sym e) refl

-- the library stays, and so do the other conversations with their marks
pub record IsBeside (i : ℕ) (s t : State) : Type 0 where
  pub profile : t.world.profile ≡ s.world.profile
  pub modules : t.world.modules ≡ s.world.modules
  pub used : t.world.used ≡ s.world.used
  pub consistent : IsConsistent t
  pub others : (j : ℕ) → j ≢ i → conversation t.world j ≡ conversation s.world j
  pub marks : (j : ℕ) → j ≢ i → t.marks j ≡ s.marks j

module _ (s t : State) (step : Step) (r : Reply) (good : IsConsistent s) (a : IsAccepted s step r t) (same : t.world.modules ≡ s.world.modules) where
  -- the mark follows the step
  pub left : (j : ℕ) (c : Conversation) → conversation s.world j ≡ Some c → IsLeft step j (length c.log) (s.marks j) (t.marks j)
  left j c e = elim (a.remarks.opened j c e) [
    | inl l ↦ l
    | inr changed ↦ absurd (no_change s.world.modules changed.0 c.name (subst (λ (ms : List ModuleTree). Changes s.world.modules ms changed.0 c.name) same changed.1))
  ]

  -- a mark that the step leaves
  pub mark_left : (j : ℕ) → ((events : ℕ) → IsLeft step j events (s.marks j) (t.marks j) → t.marks j ≡ s.marks j) → t.marks j ≡ s.marks j
  mark_left j stays = by (conversation s.world j) refl
    where
      by : (o : Option Conversation) → conversation s.world j ≡ o → t.marks j ≡ s.marks j
      by None e = a.remarks.unopened j e ∙ sym (good.marked j e)
      by (Some c) e = stays (length c.log) (left j c e)

  -- after a step that leaves the other conversations, only conversations are marked
  pub marked_after : (i : ℕ) → ((j : ℕ) → j ≢ i → conversation t.world j ≡ conversation s.world j) → (conversation t.world i ≡ None → t.marks i ≡ Fresh) → (j : ℕ) → conversation t.world j ≡ None → t.marks j ≡ Fresh
  marked_after i others own j none = elim (cases_eq j i) [
    | inl at ↦ subst (λ (k : ℕ). t.marks k ≡ Fresh) (sym at) (own (subst (λ (k : ℕ). conversation t.world k ≡ None) at none))
    | inr differ ↦ a.remarks.unopened j (sym (others j differ) ∙ none)
  ]

-- ---- an opening

module _ (s t : State) (i : ℕ) (name : List (List ℕ)) (f : Follows s.world (Open i name) t.world) where
  open_entries : t.world.conversations ≡ s.world.conversations ++ (i, opened name) ∷ []
  open_entries = ap (λ (w : World). w.conversations) f.3

  pub open_own : conversation t.world i ≡ Some (opened name)
  open_own = ap (λ (es : List (ℕ × Conversation)). lookup (nat_eq i) es) open_entries ∙ pushed_itself s.world.conversations i (opened name) f.0

  open_others : (j : ℕ) → j ≢ i → conversation t.world j ≡ conversation s.world j
  open_others j differ = ap (λ (es : List (ℕ × Conversation)). lookup (nat_eq j) es) open_entries ∙ pushed_other s.world.conversations i j (opened name) differ

  pub open_beside : (r : Reply) → IsConsistent s → IsAccepted s (Open i name) r t → IsBeside i s t
  open_beside r good a =
      let same : t.world.modules ≡ s.world.modules = ap (λ (w : World). w.modules) f.3 in record {
        profile = ap (λ (w : World). w.profile) f.3;
        modules = same;
        used = ap (λ (w : World). w.used) f.3;
        consistent = record {
          once = subst Once (sym open_entries) (pushed_once s.world.conversations i (opened name) f.0 good.once);
          marked = marked_after s t (Open i name) r good a same i open_others (λ none. absurd (some_not_none (conversation t.world i) (opened name) none open_own));
        };
        others = open_others;
        marks = λ j differ. mark_left s t (Open i name) r good a same j (λ events l. l);
      }

-- ---- an event

module _ (s t : State) (i : ℕ) (e : Event) (f : Follows s.world (Note i e) t.world) where
  note_entries : t.world.conversations ≡ set_value (nat_eq i) s.world.conversations (noted f.0 e)
  note_entries = ap (λ (w : World). w.conversations) f.3

  note_at : (j : ℕ) → conversation t.world j ≡ cond (nat_eq i j) (Some (noted f.0 e)) (conversation s.world j)
  note_at j = ap (λ (es : List (ℕ × Conversation)). lookup (nat_eq j) es) note_entries ∙ lookup_set s.world.conversations i j (noted f.0 e) (is_some (conversation s.world i) f.0 f.1)

  pub note_own : conversation t.world i ≡ Some (noted f.0 e)
  note_own = note_at i ∙ ap (λ (b : Bool). cond b (Some (noted f.0 e)) (conversation s.world i)) (itself i)

  note_others : (j : ℕ) → j ≢ i → conversation t.world j ≡ conversation s.world j
  note_others j differ = note_at j ∙ ap (λ (b : Bool). cond b (Some (noted f.0 e)) (conversation s.world j)) (apart i j (λ at. differ (sym at)))

  pub note_beside : (r : Reply) → IsConsistent s → IsAccepted s (Note i e) r t → IsBeside i s t
  note_beside r good a =
      let same : t.world.modules ≡ s.world.modules = ap (λ (w : World). w.modules) f.3 in record {
        profile = ap (λ (w : World). w.profile) f.3;
        modules = same;
        used = ap (λ (w : World). w.used) f.3;
        consistent = record {
          once = subst Once (sym note_entries) (set_once s.world.conversations i (noted f.0 e) good.once);
          marked = marked_after s t (Note i e) r good a same i note_others (λ none. absurd (some_not_none (conversation t.world i) (noted f.0 e) none note_own));
        };
        others = note_others;
        marks = λ j differ. mark_left s t (Note i e) r good a same j (λ events l. l);
      }

-- ---- a turn or a question, which leaves the world

module _ (s t : State) (step : Step) (r : Reply) (good : IsConsistent s) (a : IsAccepted s step r t) (is : t.world ≡ s.world) where
  world_modules : t.world.modules ≡ s.world.modules
  world_modules = ap (λ (w : World). w.modules) is

  world_others : (j : ℕ) → conversation t.world j ≡ conversation s.world j
  world_others j = ap (λ (w : World). conversation w j) is

  pub world_beside : (i : ℕ) → ((j : ℕ) → j ≢ i → (events : ℕ) → IsLeft step j events (s.marks j) (t.marks j) → t.marks j ≡ s.marks j) → IsBeside i s t
  world_beside i stays = record {
    profile = ap (λ (w : World). w.profile) is;
    modules = world_modules;
    used = ap (λ (w : World). w.used) is;
    consistent = record {
      once = subst Once (sym (ap (λ (w : World). w.conversations) is)) good.once;
      marked = λ j none. a.remarks.unopened j (sym (world_others j) ∙ none);
    };
    others = λ j differ. world_others j;
    marks = λ j differ. mark_left s t step r good a world_modules j (stays j differ);
  }

module _ (s t : State) (i : ℕ) (r : Reply) (good : IsConsistent s) where
  pub turn_beside : IsAccepted s (Turn i) r t → IsBeside i s t
  turn_beside a = world_beside s t (Turn i) r good a a.follows.1 i (λ j differ events l. l.1 (λ at. differ (sym at)))

  pub ask_beside : IsAccepted s (Ask i) r t → IsBeside i s t
  ask_beside a = world_beside s t (Ask i) r good a a.follows.1 i (λ j differ events l. l)

-- ---- a close

module _ (s t : State) (i : ℕ) (r : Reply) (good : IsConsistent s) (a : IsAccepted s (Close i) r t) where
  abbrev gone_out : IsTakenOut i s.world.conversations a.follows.0.0 t.world.conversations
  gone_out = a.follows.0.1

  -- it leaves no mark
  pub close_mark : t.marks i ≡ Fresh
  close_mark = (left s t (Close i) r good a a.follows.1 i a.follows.0.0 gone_out.there).0 refl

  pub close_beside : IsBeside i s t
  close_beside = record {
    profile = a.follows.3;
    modules = a.follows.1;
    used = a.follows.2;
    consistent = record {
      once = taken_once s.world.conversations t.world.conversations i a.follows.0.0 gone_out.rest good.once;
      marked = marked_after s t (Close i) r good a a.follows.1 i gone_out.others (λ none. close_mark);
    };
    others = gone_out.others;
    marks = λ j differ. mark_left s t (Close i) r good a a.follows.1 j (λ events l. l.1 (λ at. differ (sym at)));
  }
