-- What answers each part of a partition answers the whole.
use Rattle.std.proofs.Common.{◌≡◌, ◌⊎◌, inl, inr, ℕ, ◌+◌, ◌-◌, ◌<◌, ◌≤◌, Bool, true, false, if◌then◌else◌, List, [], ◌∷◌, length, Some, None, nat_eq, refl, sym, ap, subst, ◌∙◌, arith, length-append}
use Rattle.std.specs.Map.{lookup}
use Rattle.std.proofs.lemmas.Bool.{cases_lt}
use Rattle.std.proofs.lemmas.Bool.Decides.{Decides-eqb}
use Rattle.std.proofs.lemmas.List.Sorted.{length_permutation}
use Rattle.std.proofs.lemmas.Map.{length-set_value}
use Rattle.scrib_types.specs.declared.event.Event.{Event}
use Rattle.scrib_types.specs.declared.profile.Profile.{Profile}
use Rattle.scrib_tree.specs.declared.tree.ModuleTree.{ModuleTree}
use Rattle.scrib_library.specs.declared.changes.ChangeKind.{ChangeKind}
use Rattle.scrib_library.specs.Edits.{Changes}
use Rattle.scrib_core.specs.declared.step.Step.{Step}
use Rattle.scrib_core.specs.declared.step.Step.TheVariants.{Put, Withdraw, Open, Note, Turn, Ask, Close}
use Rattle.scrib_core.specs.declared.step.Step.TheVariants as step
use Rattle.scrib_core.specs.declared.reply.Reply.{Reply}
use Rattle.scrib_core.specs.declared.reply.Reply.TheVariants as reply
use Rattle.scrib_core.specs.declared.reply.Refusal.{Refusal}
use Rattle.scrib_core.specs.declared.monitor.TheConstants.{MAX_CONVERSATIONS}
use Rattle.scrib_core.specs.World.{World, Conversation, conversation, noted, opened, Refuses}
use Rattle.scrib_core.specs.Marks.{Mark, Marks, Fresh, IsLeft, IsReset, UpdatesMarks}
use Rattle.scrib_core.specs.Answers.{State, IsAccepted, IsAnswered, Answers, Replies}
use Rattle.scrib_partition.specs.Partition.{is_of, part_of_steps, replies_of, IsConsistent, IsPart}
use Rattle.scrib_partition.specs.PartitionLaw.{ids_of, open_after, AreFewOpen, AnswersWhole}
use Rattle.scrib_partition.proofs.EntryLemmas.{Once, itself}
use Rattle.scrib_partition.proofs.BesideLemmas.{IsBeside, open_beside, note_beside, turn_beside, ask_beside, close_beside}
use Rattle.scrib_partition.proofs.CarriedSteps.{Agrees, IsCarried, open_carried, note_carried, turn_carried, ask_carried, close_carried, open_refused, note_refused, turn_refused, ask_refused, close_refused}
use Rattle.scrib_partition.proofs.EditSteps.{with_library, library_same, put_carried, withdraw_carried, profile_carried, put_refused, withdraw_refused, profile_refused}
use Rattle.scrib_partition.proofs.EditsOnce.{HaveOneLibrary, put_once, withdraw_once, profile_once}
use Rattle.scrib_partition.proofs.PartRuns as runs
use Rattle.scrib_partition.proofs.PartRuns.{IsRefused, split, accepted_answered, refused_answered, not_accepted, step_consistent, part_there, part_mark, part_consistent, part_agrees, part_fewer, out_of_part}

-- ---- how many conversations are open

put_count : (w : World) (t : State) (text : List ℕ) (r : Reply) (n : ℕ) → Replies w (Put text) r t → open_after n r ≡ n
put_count w t text (reply.Edited e changes) n x = refl
put_count w t text r n x = absurd x

withdraw_count : (w : World) (t : State) (name : List (List ℕ)) (r : Reply) (n : ℕ) → Replies w (Withdraw name) r t → open_after n r ≡ n
withdraw_count w t name (reply.Edited e changes) n x = refl
withdraw_count w t name r n x = absurd x

profile_count : (w : World) (t : State) (p : Profile) (r : Reply) (n : ℕ) → Replies w (step.Profile p) r t → open_after n r ≡ n
profile_count w t p (reply.Profiled q) n x = refl
profile_count w t p r n x = absurd x

open_count : (w : World) (t : State) (i : ℕ) (name : List (List ℕ)) (r : Reply) (n : ℕ) → Replies w (Open i name) r t → open_after n r ≡ n + 1
open_count w t i name (reply.Opened j m) n x = refl
open_count w t i name r n x = absurd x

note_count : (w : World) (t : State) (i : ℕ) (e : Event) (r : Reply) (n : ℕ) → Replies w (Note i e) r t → open_after n r ≡ n
note_count w t i e (reply.Noted j place answer) n x = refl
note_count w t i e r n x = absurd x

turn_count : (w : World) (t : State) (i : ℕ) (r : Reply) (n : ℕ) → Replies w (Turn i) r t → open_after n r ≡ n
turn_count w t i (reply.Judged j name events answer) n x = refl
turn_count w t i r n x = absurd x

ask_count : (w : World) (t : State) (i : ℕ) (r : Reply) (n : ℕ) → Replies w (Ask i) r t → open_after n r ≡ n
ask_count w t i (reply.Judged j name events answer) n x = refl
ask_count w t i r n x = absurd x

close_count : (w : World) (t : State) (i : ℕ) (r : Reply) (n : ℕ) → Replies w (Close i) r t → open_after n r ≡ n - 1
close_count w t i (reply.Closed j name events verdict complete) n x = refl
close_count w t i r n x = absurd x

abbrev many : State → ℕ
many s = length s.world.conversations

-- the conversations after an accepted step are as many as its reply says
accepted_count : (s t : State) (step : Step) (r : Reply) → IsAccepted s step r t → many t ≡ open_after (many s) r
accepted_count s t (Put text) r a = ap (λ (es : List (ℕ × Conversation)). length es) a.follows.3 ∙ sym (put_count s.world t text r (many s) a.replies)
accepted_count s t (Withdraw name) r a = ap (λ (es : List (ℕ × Conversation)). length es) a.follows.3 ∙ sym (withdraw_count s.world t name r (many s) a.replies)
accepted_count s t (step.Profile p) r a = ap (λ (w : World). length w.conversations) a.follows.1 ∙ sym (profile_count s.world t p r (many s) a.replies)
accepted_count s t (Open i name) r a =
    ap (λ (w : World). length w.conversations) a.follows.3 ∙ length-append s.world.conversations ((i, opened name) ∷ []) ∙ sym (open_count s.world t i name r (many s) a.replies)
accepted_count s t (Note i e) r a =
    ap (λ (w : World). length w.conversations) a.follows.3 ∙ length-set_value (nat_eq i) s.world.conversations (noted a.follows.0 e) ∙ sym (note_count s.world t i e r (many s) a.replies)
accepted_count s t (Turn i) r a = ap (λ (w : World). length w.conversations) a.follows.1 ∙ sym (turn_count s.world t i r (many s) a.replies)
accepted_count s t (Ask i) r a = ap (λ (w : World). length w.conversations) a.follows.1 ∙ sym (ask_count s.world t i r (many s) a.replies)
accepted_count s t (Close i) r a =
    let long = length_permutation s.world.conversations ((i, a.follows.0.0) ∷ t.world.conversations) a.follows.0.1.rest in
    let less : many t ≡ many s - 1 = omega (arith, long) in
    less ∙ sym (close_count s.world t i r (many s) a.replies)

refused_count : (n : ℕ) (r : Reply) (f : Refusal) → r ≡ reply.Refused f → n ≡ open_after n r
refused_count n r f is = sym (ap (λ (q : Reply). open_after n q) is)

-- states agree the other way round too
back : (i : ℕ) (s p : State) → Agrees i s p → Agrees i p s
back i s p a = record { profile = sym a.profile; modules = sym a.modules; used = sym a.used; at = sym a.at; mark = sym a.mark }

-- a state that there is for each number below a limit is a function of the number
choose : (A : ℕ → State → Type 0) (parts : ℕ) (default : State) → ((k : ℕ) → k < parts → (u : State) × A k u) → (f : ℕ → State) × ((k : ℕ) → k < parts → A k (f k))
choose A parts default all = (λ k. pick k (cases_lt k parts), λ k h. right k h (cases_lt k parts))
  where
    pick : (k : ℕ) → (k < parts) ⊎ (parts ≤ k) → State
    pick k (inl h) = (all k h).0
    pick k (inr h) = default

    right : (k : ℕ) → k < parts → (c : (k < parts) ⊎ (parts ≤ k)) → A k (pick k c)
    right k h (inl g) = (all k g).1
    right k h (inr g) = absurd (omega (arith, h, g))

-- ---- one step of the whole

module _ (parts : ℕ) (part : ℕ → ℕ) (some : 0 < parts) (below : (id : ℕ) → part id < parts) (s : State) (good : IsConsistent s) (p q : ℕ → State)
    (are : (k : ℕ) → k < parts → IsPart (ids_of part k) s (p k)) (steps : List Step) (rs : List Reply) where
  -- the part is answered from this state on
  abbrev Left : ℕ → State → Type 0
  Left k u = Answers u (part_of_steps (ids_of part k) steps) (replies_of (ids_of part k) steps rs) (q k)

  own : (k : ℕ) → k < parts → IsConsistent (p k)
  own k h = part_consistent (ids_of part k) s (p k) good (are k h)

  module _ (step : Step) (r : Reply) (each : (k : ℕ) → k < parts → Answers (p k) (part_of_steps (ids_of part k) (step ∷ steps)) (replies_of (ids_of part k) (step ∷ steps) (r ∷ rs)) (q k)) where
    abbrev Next : Bool → ℕ → Type 0
    Next b k =
        Answers (p k) (if b then step ∷ part_of_steps (ids_of part k) steps else part_of_steps (ids_of part k) steps)
        (if b then r ∷ replies_of (ids_of part k) steps rs else replies_of (ids_of part k) steps rs) (q k)

    taken : (k : ℕ) → k < parts → is_of (ids_of part k) step ≡ true → (u : State) × IsAnswered (p k) step r u × Left k u
    taken k h at = subst (λ (b : Bool). Next b k) at (each k h)

    skipped : (k : ℕ) → k < parts → is_of (ids_of part k) step ≡ false → Left k (p k)
    skipped k h at = subst (λ (b : Bool). Next b k) at (each k h)

    abbrev Parts : State → ℕ → Type 0
    Parts t k = (u : State) × IsPart (ids_of part k) t u × Left k u

    abbrev Whole : Type 0
    Whole = (t : State) × IsAnswered s step r t × (many t ≡ open_after (many s) r) × ((k : ℕ) → k < parts → Parts t k)

    -- ---- a step on a conversation

    module _ (i : ℕ) (is : (k : ℕ) → is_of (ids_of part k) step ≡ nat_eq (part i) k) where
      mine : (u : State) × IsAnswered (p (part i)) step r u × Left (part i) u
      mine = taken (part i) (below i) (is (part i) ∙ itself (part i))

      abbrev after : State
      after = mine.0

      agrees : Agrees i (p (part i)) s
      agrees = back i s (p (part i)) (part_agrees (ids_of part (part i)) s (p (part i)) good (are (part i) (below i)) i (itself (part i)))

      fewer_there : many (p (part i)) ≤ many s
      fewer_there = part_fewer (ids_of part (part i)) s (p (part i)) good (are (part i) (below i))

      other_parts : (t : State) → Parts t (part i) → ((k : ℕ) → k < parts → nat_eq (part i) k ≡ false → IsPart (ids_of part k) t (p k)) → (k : ℕ) → k < parts → Parts t k
      other_parts t there others k h = by (nat_eq (part i) k) refl
        where
          by : (b : Bool) → nat_eq (part i) k ≡ b → Parts t k
          by true at = subst (λ (n : ℕ). Parts t n) ((Decides-eqb (part i) k).0 at) there
          by false at = (p k, others k h at, skipped k h (is k ∙ at))

      refused_whole : (x : IsRefused (p (part i)) step r after) → Refuses s.world step x.for → Whole
      refused_whole x refuses = (
        s,
        refused_answered s step r x.for x.reply_is refuses,
        refused_count (many s) r x.for x.reply_is,
        other_parts s (after, subst (λ (u : State). IsPart (ids_of part (part i)) s u) (sym x.same) (are (part i) (below i)), mine.2) (λ k h at. are k h),
      )

      accepted_whole : (c : IsCarried i after s step r) → IsBeside i s c.after → IsBeside i (p (part i)) after → Whole
      accepted_whole c beside inside = (
        c.after,
        accepted_answered s c.after step r c.accepted,
        accepted_count s c.after step r c.accepted,
        other_parts c.after
            (after, runs.in_part (ids_of part (part i)) s (p (part i)) good (are (part i) (below i)) i c.after after (itself (part i)) beside inside (sym c.at) (sym c.mark), mine.2)
            (λ k h at. out_of_part (ids_of part k) s (p k) good (are k h) i c.after at beside),
      )

      answered_whole : (IsAccepted (p (part i)) step r after → Whole) → ((x : IsRefused (p (part i)) step r after) → Refuses s.world step x.for) → Whole
      answered_whole accepted refused = elim (split (p (part i)) after step r mine.1) [
        | inl a ↦ accepted a
        | inr x ↦ refused_whole x (refused x)
      ]

    -- ---- an edit

    module _ (is : (k : ℕ) → is_of (ids_of part k) step ≡ true) where
      chosen : (u : ℕ → State) × ((k : ℕ) → k < parts → IsAnswered (p k) step r (u k) × Left k (u k))
      chosen = choose (λ k u. IsAnswered (p k) step r u × Left k u) parts s (λ k h. let t = taken k h (is k) in (t.0, (t.1, t.2)))

      abbrev new : ℕ → State
      new = chosen.0

      refused_edit : (x : IsRefused (p 0) step r (new 0)) → Refuses s.world step x.for → Whole
      refused_edit x refuses = (
        s,
        refused_answered s step r x.for x.reply_is refuses,
        refused_count (many s) r x.for x.reply_is,
        λ k h. (new k, subst (λ (u : State). IsPart (ids_of part k) s u) (sym (same k h)) (are k h), (chosen.1 k h).1),
      )
        where
          same : (k : ℕ) → k < parts → new k ≡ p k
          same k h = elim (split (p k) (new k) step r (chosen.1 k h).0) [
            | inl a ↦ absurd (not_accepted (p k).world step x.for (new k) (subst (λ (y : Reply). Replies (p k).world step y (new k)) x.reply_is a.replies))
            | inr y ↦ y.same
          ]

      module _ (first : IsAccepted (p 0) step r (new 0)) where
        all_accepted : (k : ℕ) → k < parts → IsAccepted (p k) step r (new k)
        all_accepted k h = elim (split (p k) (new k) step r (chosen.1 k h).0) [
          | inl a ↦ a
          | inr y ↦ absurd (not_accepted (p 0).world step y.for (new 0) (subst (λ (z : Reply). Replies (p 0).world step z (new 0)) y.reply_is first.replies))
        ]

        abbrev marks : Marks
        marks j = (new (part j)).marks j

        abbrev whole : State
        whole = with_library (new 0) s.world.conversations marks

        module _ (one : (k : ℕ) → k < parts → HaveOneLibrary (new 0).world (new k).world) where
          opened_edit : (j : ℕ) (c : Conversation) → conversation s.world j ≡ Some c
              → IsLeft step j (length c.log) (s.marks j) (marks j) ⊎ ((kind : ChangeKind) × Changes (p 0).world.modules (new 0).world.modules kind c.name × IsReset (marks j))
          opened_edit j c e =
              let k : ℕ = part j in
              let a = all_accepted k (below j) in
              let inside = are k (below j) in
              let there : conversation (p k).world j ≡ Some c = part_there (ids_of part k) s (p k) good inside j (itself k) ∙ e in
              elim (a.remarks.opened j c there) [
                | inl l ↦ inl (subst (λ (m : Mark). IsLeft step j (length c.log) m (marks j)) (part_mark (ids_of part k) s (p k) good inside j (itself k)) l)
                | inr changed ↦ inr (
                  changed.0,
                  subst (λ (ms : List ModuleTree). Changes ms (new 0).world.modules changed.0 c.name) (inside.modules ∙ sym (are 0 some).modules)
                      (subst (λ (ms : List ModuleTree). Changes (p k).world.modules ms changed.0 c.name) (one k (below j)).modules changed.1),
                  changed.2,
                )
              ]

          remarks_edit : UpdatesMarks (with_library (p 0) s.world.conversations s.marks).world s.marks step whole.world marks
          remarks_edit = record {
            unopened = λ j e. (all_accepted (part j) (below j)).remarks.unopened j (part_there (ids_of part (part j)) s (p (part j)) good (are (part j) (below j)) j (itself (part j)) ∙ e);
            opened = opened_edit;
          }

          module _ (entries : (k : ℕ) → k < parts → (new k).world.conversations ≡ (p k).world.conversations) where
            part_after : (k : ℕ) → k < parts → IsPart (ids_of part k) whole (new k)
            part_after k h = record {
              profile = (one k h).profile;
              modules = (one k h).modules;
              used = (one k h).used;
              once = subst Once (sym (entries k h)) (are k h).once;
              conversations = λ j. ap (λ (es : List (ℕ × Conversation)). lookup (nat_eq j) es) (entries k h) ∙ (are k h).conversations j;
              marks = λ j. by j (nat_eq (part j) k) refl;
            }
              where
                by : (j : ℕ) (b : Bool) → nat_eq (part j) k ≡ b → (new k).marks j ≡ (if nat_eq (part j) k then marks j else Fresh)
                by j true at = sym (ap (λ (n : ℕ). (new n).marks j) ((Decides-eqb (part j) k).0 at)) ∙ sym (ap (λ (b : Bool). if b then marks j else Fresh) at)
                by j false at =
                    (all_accepted k h).remarks.unopened j ((are k h).conversations j ∙ ap (λ (b : Bool). if b then conversation s.world j else None) at)
                    ∙ sym (ap (λ (b : Bool). if b then marks j else Fresh) at)

            accepted_edit : IsAccepted (with_library (p 0) s.world.conversations s.marks) step r whole → many s ≡ open_after (many s) r → Whole
            accepted_edit a count =
                let inside = are 0 some in
                let same = library_same (p 0) s (sym inside.profile) (sym inside.modules) (sym inside.used) in (
                  whole,
                  accepted_answered s whole step r (subst (λ (x : State). IsAccepted x step r whole) same a),
                  count,
                  λ k h. (new k, part_after k h, (chosen.1 k h).1),
                )

      at_library : (f : Refusal) → Refuses (with_library (p 0) s.world.conversations s.marks).world step f → Refuses s.world step f
      at_library f x =
          let inside = are 0 some in
          subst (λ (y : State). Refuses y.world step f) (library_same (p 0) s (sym inside.profile) (sym inside.modules) (sym inside.used)) x

      answered_edit : (IsAccepted (p 0) step r (new 0) → Whole) → ((x : IsRefused (p 0) step r (new 0)) → Refuses (with_library (p 0) s.world.conversations s.marks).world step x.for) → Whole
      answered_edit accepted refused = elim (split (p 0) (new 0) step r (chosen.1 0 some).0) [
        | inl a ↦ accepted a
        | inr x ↦ refused_edit x (at_library x.for (refused x))
      ]

  one_library : (k : ℕ) → k < parts → HaveOneLibrary (p 0).world (p k).world
  one_library k h = record {
    profile = (are k h).profile ∙ sym (are 0 some).profile;
    modules = (are k h).modules ∙ sym (are 0 some).modules;
    used = (are k h).used ∙ sym (are 0 some).used;
  }

  abbrev Each : Step → Reply → Type 0
  Each step r = (k : ℕ) → k < parts → Answers (p k) (part_of_steps (ids_of part k) (step ∷ steps)) (replies_of (ids_of part k) (step ∷ steps) (r ∷ rs)) (q k)

  whole_step : (step : Step) (r : Reply) (each : Each step r) → open_after (many s) r ≤ MAX_CONVERSATIONS → Whole step r each
  whole_step (Put text) r each few = answered_edit (Put text) r each (λ k. refl)
      (λ a.
      let accepted = all_accepted (Put text) r each (λ k. refl) a in
      let one = λ (k : ℕ) (h : k < parts). put_once (p 0).world (p k).world (new (Put text) r each (λ k. refl) 0).world (new (Put text) r each (λ k. refl) k).world (one_library k h) text a.follows (accepted k h).follows in
      accepted_edit (Put text) r each (λ k. refl) a one (λ k h. (accepted k h).follows.3)
      (put_carried (p 0) (new (Put text) r each (λ k. refl) 0) s.world.conversations s.marks (marks (Put text) r each (λ k. refl) a) r text a (remarks_edit (Put text) r each (λ k. refl) a one))
      (sym (put_count (p 0).world (new (Put text) r each (λ k. refl) 0) text r (many s) a.replies)))
      (λ x. put_refused (p 0) s.world.conversations s.marks text x.for x.refuses)
  whole_step (Withdraw name) r each few = answered_edit (Withdraw name) r each (λ k. refl)
      (λ a.
      let accepted = all_accepted (Withdraw name) r each (λ k. refl) a in
      let one = λ (k : ℕ) (h : k < parts). withdraw_once (p 0).world (p k).world (new (Withdraw name) r each (λ k. refl) 0).world (new (Withdraw name) r each (λ k. refl) k).world (one_library k h) name a.follows (accepted k h).follows in
      accepted_edit (Withdraw name) r each (λ k. refl) a one (λ k h. (accepted k h).follows.3)
      (withdraw_carried (p 0) (new (Withdraw name) r each (λ k. refl) 0) s.world.conversations s.marks (marks (Withdraw name) r each (λ k. refl) a) r name a (remarks_edit (Withdraw name) r each (λ k. refl) a one))
      (sym (withdraw_count (p 0).world (new (Withdraw name) r each (λ k. refl) 0) name r (many s) a.replies)))
      (λ x. withdraw_refused (p 0) s.world.conversations s.marks name x.for x.refuses)
  whole_step (step.Profile n) r each few = answered_edit (step.Profile n) r each (λ k. refl)
      (λ a.
      let accepted = all_accepted (step.Profile n) r each (λ k. refl) a in
      let one = λ (k : ℕ) (h : k < parts). profile_once (p 0).world (p k).world (new (step.Profile n) r each (λ k. refl) 0).world (new (step.Profile n) r each (λ k. refl) k).world (one_library k h) n a.follows (accepted k h).follows in
      accepted_edit (step.Profile n) r each (λ k. refl) a one (λ k h. ap (λ (w : World). w.conversations) (accepted k h).follows.1)
      (profile_carried (p 0) (new (step.Profile n) r each (λ k. refl) 0) s.world.conversations s.marks (marks (step.Profile n) r each (λ k. refl) a) r n a (remarks_edit (step.Profile n) r each (λ k. refl) a one))
      (sym (profile_count (p 0).world (new (step.Profile n) r each (λ k. refl) 0) n r (many s) a.replies)))
      (λ x. profile_refused (p 0) s.world.conversations s.marks n x.for x.refuses)
  whole_step (Open i name) r each few = answered_whole (Open i name) r each i (λ k. refl)
      (λ a.
      let count = open_count (p (part i)).world (after (Open i name) r each i (λ k. refl)) i name r (many s) a.replies in
      let room : many s < MAX_CONVERSATIONS = omega (arith, few, count) in
      let c = open_carried i (p (part i)) (after (Open i name) r each i (λ k. refl)) s (own (part i) (below i)) good (agrees (Open i name) r each i (λ k. refl)) name r a room in
      accepted_whole (Open i name) r each i (λ k. refl) c (open_beside s c.after i name c.accepted.follows r good c.accepted)
      (open_beside (p (part i)) (after (Open i name) r each i (λ k. refl)) i name a.follows r (own (part i) (below i)) a))
      (λ x. let fewer = fewer_there (Open i name) r each i (λ k. refl) in open_refused i (p (part i)) s (agrees (Open i name) r each i (λ k. refl)) name x.for (λ is full. omega (arith, fewer, full)) x.refuses)
  whole_step (Note i e) r each few = answered_whole (Note i e) r each i (λ k. refl)
      (λ a.
      let c = note_carried i (p (part i)) (after (Note i e) r each i (λ k. refl)) s (own (part i) (below i)) good (agrees (Note i e) r each i (λ k. refl)) e r a in
      accepted_whole (Note i e) r each i (λ k. refl) c (note_beside s c.after i e c.accepted.follows r good c.accepted)
      (note_beside (p (part i)) (after (Note i e) r each i (λ k. refl)) i e a.follows r (own (part i) (below i)) a))
      (λ x. note_refused i (p (part i)) s (agrees (Note i e) r each i (λ k. refl)) e x.for x.refuses)
  whole_step (Turn i) r each few = answered_whole (Turn i) r each i (λ k. refl)
      (λ a.
      let c = turn_carried i (p (part i)) (after (Turn i) r each i (λ k. refl)) s (own (part i) (below i)) good (agrees (Turn i) r each i (λ k. refl)) r a in
      accepted_whole (Turn i) r each i (λ k. refl) c (turn_beside s c.after i r good c.accepted) (turn_beside (p (part i)) (after (Turn i) r each i (λ k. refl)) i r (own (part i) (below i)) a))
      (λ x. turn_refused i (p (part i)) s (agrees (Turn i) r each i (λ k. refl)) x.for x.refuses)
  whole_step (Ask i) r each few = answered_whole (Ask i) r each i (λ k. refl)
      (λ a.
      let c = ask_carried i (p (part i)) (after (Ask i) r each i (λ k. refl)) s (own (part i) (below i)) good (agrees (Ask i) r each i (λ k. refl)) r a in
      accepted_whole (Ask i) r each i (λ k. refl) c (ask_beside s c.after i r good c.accepted) (ask_beside (p (part i)) (after (Ask i) r each i (λ k. refl)) i r (own (part i) (below i)) a))
      (λ x. ask_refused i (p (part i)) s (agrees (Ask i) r each i (λ k. refl)) x.for x.refuses)
  whole_step (Close i) r each few = answered_whole (Close i) r each i (λ k. refl)
      (λ a.
      let c = close_carried i (p (part i)) (after (Close i) r each i (λ k. refl)) s (own (part i) (below i)) good (agrees (Close i) r each i (λ k. refl)) r a in
      accepted_whole (Close i) r each i (λ k. refl) c (close_beside s c.after i r good c.accepted) (close_beside (p (part i)) (after (Close i) r each i (λ k. refl)) i r (own (part i) (below i)) a))
      (λ x. close_refused i (p (part i)) s (agrees (Close i) r each i (λ k. refl)) x.for x.refuses)

-- ---- the law

pub answers_whole : AnswersWhole
answers_whole parts part s p q [] [] some below good are each long few = (s, refl, λ k h. subst (λ (u : State). IsPart (ids_of part k) s u) (sym (each k h)) (are k h))
answers_whole parts part s p q [] (r ∷ rs) some below good are each long few = absurd (omega (arith, long))
answers_whole parts part s p q (step ∷ steps) [] some below good are each long few = absurd (omega (arith, long))
answers_whole parts part s p q (step ∷ steps) (r ∷ rs) some below good are each long few =
    let w = whole_step parts part some below s good p q are steps rs step r each few.0 in
    let next = choose (λ k u. IsPart (ids_of part k) w.0 u × Answers u (part_of_steps (ids_of part k) steps) (replies_of (ids_of part k) steps rs) (q k)) parts s (λ k h. let t = w.3 k h in (t.0, (t.1, t.2))) in
    let all = answers_whole parts part w.0 next.0 q steps rs some below (step_consistent s w.0 r good step w.1) (λ k h. (next.1 k h).0) (λ k h. (next.1 k h).1) (omega (arith, long)) (subst (λ (n : ℕ). AreFewOpen n rs) (sym w.2) few.1) in
    (all.0, (w.0, w.1, all.1), all.2)
