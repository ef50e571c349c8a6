-- Closings that a stage of lines gathers.
use Rattle.std.proofs.Common.{◌≡◌, ◌∙◌, ℕ, Bool, true, false, List, [], ◌∷◌, ◌++◌, Option, None, Some, IfSome, is_some, IsTrue, Result, Ok, Err, inl, inr, refl, sym, ap, subst}
use Rattle.std.specs.Prelude.{IfOk, OnOk, OnErr}
use Rattle.std.specs.List.{AllByRecursion}
use Rattle.std.proofs.lemmas.Bool.{true≢false}
use Rattle.std.proofs.lemmas.List.{append_assoc, append-nil}
use Rattle.scrib_script_reader.specs.declared.entry.Entry.{Entry}
use Rattle.scrib_script_io.specs.declared.fault.ScriptFault.{ScriptFault}
use Rattle.scrib_hold_stage.specs.declared.noted.Noted.{Noted}
use Rattle.scrib_hold_stage.specs.PendingClosings.{IsMade, IsOf, IsApart, IsReady, IsNotReady, closings_in}
use Rattle.scrib_hold_stage.specs.Stages as stages
use Rattle.scrib_hold.specs.HeldScripts.{Asked, Pending, event_in, opens_conversation, IsNext}
use Rattle.scrib_hold.specs.NumberedItems.{items_in, numbered_closed}
use Rattle.scrib_hold.specs.LetOutSoFar.{LetsOutSoFar, closing_items}
use Rattle.scrib_hold.proofs.NumberedLemmas.{more_closed, are_let_out}
use Rattle.scrib_hold.proofs.LetOutLemmas.{all_weaker, all_applied, so_far_same, so_far_let_out, closed_further, ready_next, forced_next, others_wait, none_opened}
use Rattle.scrib_hold_lines.specs.declared.held_lines.HeldLines.{HeldLines}
use Rattle.scrib_hold_lines.specs.HeldLines.{IsBeginningOfScript}
use Rattle.scrib_hold_lines.specs.Lines.{WritesItems}
use Rattle.scrib_hold_lines.specs.Progress.{AreWritten, AreWrittenInPart, AreLinesAt, HasTakenLines, LinesCloseBefore, ReadsLineEntry, LineReadFails, LinesCloseReady, LinesReadyFail, TakesLineEntry, LinesFailAt, LinesCloseOne, LinesCloseFails, AreSameLines}
use Rattle.scrib_hold_lines.proofs.SpelledLines.{writes_more}
use Rattle.scrib_hold_lines.proofs.StageLemmas.{at_next, begins_with, begun_at}

-- ---- one closing

module _ (Is IsNot : Pending → Type 0) (old : HeldLines) (c : Pending) (left : List Pending) (after : stages.StageState Asked) (released : List (Noted Asked))
    (made : IsMade event_in Is IsNot c (closings_in old.pending) left (stages.stage_state old.stage) after [] released) where
  module _ (bound : ℕ) (entries next : List Entry) (before : List ℕ) (a : AreLinesAt bound old entries next before)
      (n : (later : List Entry) → IsNext bound entries (next ++ later) a.so_far.closed a.so_far.released made.taken.front c) where
    so_far_after : LetsOutSoFar bound after left entries next (a.numbered ++ numbered_closed c released)
    so_far_after = closed_further Is IsNot bound (stages.stage_state old.stage) after (closings_in old.pending) left entries next a.numbered c released made a.so_far n

    pub at_after : (new : HeldLines) → stages.stage_state new.stage ≡ after → closings_in new.pending ≡ left → new.ended_inside ≡ old.ended_inside
        → (d : AreWritten (closing_items c released) old.output.items new.output.items) → AreLinesAt bound new entries next (before ++ d.0)
    at_after new stage_is pending_is inside d = record {
      numbered = a.numbered ++ numbered_closed c released;
      so_far = so_far_same bound after (stages.stage_state new.stage) left (closings_in new.pending) entries next (a.numbered ++ numbered_closed c released) stage_is pending_is so_far_after;
      inside = inside ∙ a.inside;
      written =
          subst (WritesItems (before ++ d.0)) (sym (more_closed a.numbered c released))
          (writes_more before d.0 (items_in a.numbered) (closing_items c released) a.written d.2);
    }

    -- it was gathered in part
    pub part_made : (new : HeldLines) (part : AreWrittenInPart (closing_items c released) old.output.items new.output.items) → IsBeginningOfScript bound (entries ++ (next ++ [])) (before ++ part.0)
    part_made new part =
        begins_with bound entries (next ++ []) (items_in a.numbered) (closing_items c released) (items_in (a.numbered ++ numbered_closed c released)) before part.0 a.written (more_closed a.numbered c released)
        (are_let_out bound entries (next ++ []) (a.numbered ++ numbered_closed c released) (so_far_let_out bound after left entries next [] (a.numbered ++ numbered_closed c released) so_far_after)) part.2

-- ---- one closing that is gathered, or not

module _ (Is IsNot : Pending → Type 0) (old mid new : HeldLines) (made : Option Pending) (was : List (Noted Asked)) (cleared : was ≡ [])
    (closed : IfSome made (λ c. IsMade event_in Is IsNot c (closings_in old.pending) (closings_in mid.pending) (stages.stage_state old.stage) (stages.stage_state mid.stage) was mid.released.items))
    (inside : mid.ended_inside ≡ old.ended_inside) (output : mid.output.items ≡ old.output.items)
    (others : new ≡ record mid { released = new.released; output = new.output }) where
  abbrev made_here : Pending → List (Noted Asked) → Type 0
  made_here c w = IsMade event_in Is IsNot c (closings_in old.pending) (closings_in mid.pending) (stages.stage_state old.stage) (stages.stage_state mid.stage) w mid.released.items

  one_of : (o : Option Pending) → IfSome o (λ c. made_here c was) → IfSome o (λ c. AreWritten (closing_items c mid.released.items) mid.output.items new.output.items) → is_some o ≡ true → LinesCloseOne Is IsNot old new
  one_of None m d some = absurd (true≢false (sym some))
  one_of (Some c) m d some = record {
    c = c;
    released = mid.released.items;
    made =
        subst (λ (s : stages.StageState Asked). IsMade event_in Is IsNot c (closings_in old.pending) (closings_in new.pending) (stages.stage_state old.stage) s [] mid.released.items) (sym (ap (λ (z : HeldLines). stages.stage_state z.stage) others))
        (subst (λ (l : List Pending). IsMade event_in Is IsNot c (closings_in old.pending) l (stages.stage_state old.stage) (stages.stage_state mid.stage) [] mid.released.items) (sym (ap (λ (z : HeldLines). closings_in z.pending) others))
        (subst (made_here c) cleared m));
    inside = ap (λ (z : HeldLines). z.ended_inside) others ∙ inside;
    written = subst (λ (l : List ℕ). AreWritten (closing_items c mid.released.items) l new.output.items) output d;
  }

  pub closes_one : (r : Result Bool ScriptFault) → IfOk r (λ some. some ≡ is_some made) → OnOk r (IfSome made (λ c. AreWritten (closing_items c mid.released.items) mid.output.items new.output.items))
      → IfOk r (λ some. IsTrue some → LinesCloseOne Is IsNot old new)
  closes_one (Ok some) is d = λ yes. one_of made closed d (sym is ∙ yes)
  closes_one (Err e) is d = tt

  fails_of : (o : Option Pending) → IfSome o (λ c. made_here c was) → (o ≡ None → new ≡ mid) → IfSome o (λ c. AreWrittenInPart (closing_items c mid.released.items) mid.output.items new.output.items) → LinesCloseFails Is IsNot old new
  fails_of None m none d = inl (ap (λ (z : HeldLines). z.output.items) (none refl) ∙ output)
  fails_of (Some c) m none d = inr (record {
    c = c;
    left = closings_in mid.pending;
    after = stages.stage_state mid.stage;
    released = mid.released.items;
    made = subst (made_here c) cleared m;
    written = subst (λ (l : List ℕ). AreWrittenInPart (closing_items c mid.released.items) l new.output.items) output d;
  })

  pub close_fails : (made ≡ None → new ≡ mid) → (r : Result Bool ScriptFault) → OnErr r (IfSome made (λ c. AreWrittenInPart (closing_items c mid.released.items) mid.output.items new.output.items)) → OnErr r (LinesCloseFails Is IsNot old new)
  close_fails none (Ok some) d = tt
  close_fails none (Err e) d = fails_of made closed none d

-- ---- closings that wait no further

-- some were gathered
pub record IsClosing (old new : HeldLines) : Type 0 where
  pub out : List ℕ
  pub grows : new.output.items ≡ old.output.items ++ out
  pub after : (bound : ℕ) (entries : List Entry) (before : List ℕ) → AreLinesAt bound old entries [] before → AreLinesAt bound new entries [] (before ++ out)

pub closing_none : (m : HeldLines) → IsClosing m m
closing_none m = record {
  out = [];
  grows = sym (append-nil m.output.items);
  after = λ bound entries before a. subst (AreLinesAt bound m entries []) (sym (append-nil before)) a;
}

abbrev ReadyIn : HeldLines → Pending → Type 0
ReadyIn m c = IsReady c (stages.stage_state m.stage)

abbrev NotReadyIn : HeldLines → Pending → Type 0
NotReadyIn m c = IsNotReady c (stages.stage_state m.stage)

next_ready : (bound : ℕ) (m : HeldLines) (entries : List Entry) (out : List ℕ) (a : AreLinesAt bound m entries [] out) (front : List Pending) (c : Pending) → AllByRecursion (NotReadyIn m) front → ReadyIn m c
    → (later : List Entry) → IsNext bound entries ([] ++ later) a.so_far.closed a.so_far.released front c
next_ready bound m entries out a front c = ready_next bound (stages.stage_state m.stage) (closings_in m.pending) entries a.numbered a.so_far front c

pub closing_more : (old mid new : HeldLines) → IsClosing old mid → LinesCloseOne (ReadyIn mid) (NotReadyIn mid) mid new → IsClosing old new
closing_more old mid new p q = record {
  out = p.out ++ q.written.0;
  grows = q.written.1 ∙ ap (λ (l : List ℕ). l ++ q.written.0) p.grows ∙ append_assoc old.output.items p.out q.written.0;
  after = λ bound entries before a. (let k = p.after bound entries before a in
      subst (AreLinesAt bound new entries []) (append_assoc before p.out q.written.0)
      (at_after (ReadyIn mid) (NotReadyIn mid) mid q.c (closings_in new.pending) (stages.stage_state new.stage) q.released q.made bound entries [] (before ++ p.out) k
      (next_ready bound mid entries (before ++ p.out) k q.made.taken.front q.c q.made.taken.before q.made.taken.is) new refl refl q.inside q.written));
}

-- the lines are the same
at_same : (bound : ℕ) (old new : HeldLines) (entries next : List Entry) (out : List ℕ) → AreSameLines old new → AreLinesAt bound old entries next out → AreLinesAt bound new entries next out
at_same bound old new entries next out s a = record {
  numbered = a.numbered;
  so_far = so_far_same bound (stages.stage_state old.stage) (stages.stage_state new.stage) (closings_in old.pending) (closings_in new.pending) entries next a.numbered s.stage s.pending a.so_far;
  inside = s.inside ∙ a.inside;
  written = a.written;
}

-- no property of closings and of a stage is lost
all_same : (P : Pending → stages.StageState Asked → Type 0) (old new : HeldLines) → AreSameLines old new → AllByRecursion (λ c. P c (stages.stage_state old.stage)) (closings_in old.pending)
    → AllByRecursion (λ c. P c (stages.stage_state new.stage)) (closings_in new.pending)
all_same P old new s a =
    subst (λ (z : stages.StageState Asked). AllByRecursion (λ (c : Pending). P c z) (closings_in new.pending)) (sym s.stage)
    (subst (AllByRecursion (λ (c : Pending). P c (stages.stage_state old.stage))) (sym s.pending) a)

pub closing_done : (old mid new : HeldLines) → IsClosing old mid → AreSameLines mid new → AllByRecursion (NotReadyIn mid) (closings_in mid.pending) → LinesCloseReady old new
closing_done old mid new p s none = record {
  out = p.out;
  grows = same_output ∙ p.grows;
  after = λ bound entries before a. record {
    at = at_same bound mid new entries [] (before ++ p.out) s (p.after bound entries before a);
    wait = all_same (λ c z. IsNotReady c z) mid new s none;
  };
}
  where
    same_output : new.output.items ≡ mid.output.items
    same_output = rw s.output refl

-- no closing waits
pub ready_none : (m : HeldLines) → closings_in m.pending ≡ [] → LinesCloseReady m m
ready_none m none = record {
  out = [];
  grows = sym (append-nil m.output.items);
  after = λ bound entries before a. record {
    at = subst (AreLinesAt bound m entries []) (sym (append-nil before)) a;
    wait = subst (AllByRecursion (NotReadyIn m)) (sym none) tt;
  };
}

pub closing_failed : (old mid new : HeldLines) → IsClosing old mid → LinesCloseFails (ReadyIn mid) (NotReadyIn mid) mid new → LinesReadyFail old new
closing_failed old mid new p (inl same) = record {
  out = p.out;
  grows = same ∙ p.grows;
  after = λ bound entries before a. subst (λ (l : List Entry). IsBeginningOfScript bound l (before ++ p.out)) (append-nil entries) (begun_at bound mid entries [] [] (before ++ p.out) (p.after bound entries before a));
}
closing_failed old mid new p (inr q) = record {
  out = p.out ++ q.written.0;
  grows = q.written.1 ∙ ap (λ (l : List ℕ). l ++ q.written.0) p.grows ∙ append_assoc old.output.items p.out q.written.0;
  after = λ bound entries before a. (let k = p.after bound entries before a in
      subst (λ (l : List ℕ). IsBeginningOfScript bound entries l) (append_assoc before p.out q.written.0)
      (subst (λ (l : List Entry). IsBeginningOfScript bound l ((before ++ p.out) ++ q.written.0)) (append-nil entries)
      (part_made (ReadyIn mid) (NotReadyIn mid) mid q.c q.left q.after q.released q.made bound entries [] (before ++ p.out) k
      (next_ready bound mid entries (before ++ p.out) k q.made.taken.front q.c q.made.taken.before q.made.taken.is) new q.written)));
}

-- ---- closings of a conversation that the next entry opens

-- the entry follows next, and each closing of another conversation waits further
pub record AreForced (bound id : ℕ) (m : HeldLines) (entries : List Entry) (e : Entry) (out : List ℕ) : Type 0 where
  pub at : AreLinesAt bound m entries (e ∷ []) out
  pub wait : AllByRecursion (λ c. IsApart id c → IsNotReady c (stages.stage_state m.stage)) (closings_in m.pending)

-- some were gathered
pub record IsForcing (id : ℕ) (old new : HeldLines) : Type 0 where
  pub out : List ℕ
  pub grows : new.output.items ≡ old.output.items ++ out
  pub after : (bound : ℕ) (entries : List Entry) (before : List ℕ) → HasTakenLines bound old entries before → (e : Entry) → opens_conversation id e ≡ true → AreForced bound id new entries e (before ++ out)

pub forcing_none : (id : ℕ) (m : HeldLines) → IsForcing id m m
forcing_none id m = record {
  out = [];
  grows = sym (append-nil m.output.items);
  after = λ bound entries before h e opens. record {
    at = subst (AreLinesAt bound m entries (e ∷ [])) (sym (append-nil before)) (at_next bound m entries (e ∷ []) before h.at);
    wait = all_weaker (NotReadyIn m) (λ (c : Pending). IsApart id c → NotReadyIn m c) (λ c w apart. w) (closings_in m.pending) h.wait;
  };
}

pub forcing_more : (id : ℕ) (old mid new : HeldLines) → IsForcing id old mid → LinesCloseOne (IsOf id) (IsApart id) mid new → IsForcing id old new
forcing_more id old mid new p q = record {
  out = p.out ++ q.written.0;
  grows = q.written.1 ∙ ap (λ (l : List ℕ). l ++ q.written.0) p.grows ∙ append_assoc old.output.items p.out q.written.0;
  after = λ bound entries before h e opens. (let k = p.after bound entries before h e opens in
      let t = at_after (IsOf id) (IsApart id) mid q.c (closings_in new.pending) (stages.stage_state new.stage) q.released q.made bound entries (e ∷ []) (before ++ p.out) k.at
      (forced_next id bound entries k.at.so_far.closed k.at.so_far.released e q.made.taken.front q.c opens q.made.taken.before q.made.taken.is) new refl refl q.inside q.written in
      record {
        at = subst (AreLinesAt bound new entries (e ∷ [])) (append_assoc before p.out q.written.0) t;
        wait = others_wait bound id (stages.stage_state mid.stage) (stages.stage_state new.stage) (closings_in mid.pending) (closings_in new.pending) entries (e ∷ []) k.at.numbered t.numbered q.c q.released
            k.at.so_far t.so_far q.made k.wait;
      });
}

pub forcing_done : (id : ℕ) (old mid new : HeldLines) (e : Entry) → opens_conversation id e ≡ true → ((k : ℕ) → opens_conversation k e ≡ true → k ≡ id) → IsForcing id old mid → AreSameLines mid new → AllByRecursion (IsApart id) (closings_in mid.pending)
    → LinesCloseBefore old new e
forcing_done id old mid new e opens only p s none = record {
  out = p.out;
  grows = same_output ∙ p.grows;
  after = λ bound entries before h. (let k = p.after bound entries before h e opens in
      record {
        at = at_same bound mid new entries (e ∷ []) (before ++ p.out) s k.at;
        wait = all_same (λ c z. IsNotReady c z) mid new s (all_applied (IsApart id) (NotReadyIn mid) (closings_in mid.pending) none k.wait);
        apart = subst (AllByRecursion (λ (c : Pending). opens_conversation c.conversation e ≡ false)) (sym s.pending) (none_opened id e (closings_in mid.pending) only none);
      });
}
  where
    same_output : new.output.items ≡ mid.output.items
    same_output = rw s.output refl

-- the entry opens none
pub opens_none : (m : HeldLines) (e : Entry) → ((k : ℕ) → opens_conversation k e ≡ false) → LinesCloseBefore m m e
opens_none m e none = record {
  out = [];
  grows = sym (append-nil m.output.items);
  after = λ bound entries before h. record {
    at = subst (AreLinesAt bound m entries (e ∷ [])) (sym (append-nil before)) (at_next bound m entries (e ∷ []) before h.at);
    wait = h.wait;
    apart = all_weaker (NotReadyIn m) (λ (c : Pending). opens_conversation c.conversation e ≡ false) (λ c w. none c.conversation) (closings_in m.pending) h.wait;
  };
}

-- no closing waits
pub before_none : (m : HeldLines) (e : Entry) → closings_in m.pending ≡ [] → LinesCloseBefore m m e
before_none m e none = record {
  out = [];
  grows = sym (append-nil m.output.items);
  after = λ bound entries before h. record {
    at = subst (AreLinesAt bound m entries (e ∷ [])) (sym (append-nil before)) (at_next bound m entries (e ∷ []) before h.at);
    wait = h.wait;
    apart = subst (AllByRecursion (λ (c : Pending). opens_conversation c.conversation e ≡ false)) (sym none) tt;
  };
}

pub forcing_failed : (id : ℕ) (old mid new : HeldLines) (e : Entry) → opens_conversation id e ≡ true → IsForcing id old mid → LinesCloseFails (IsOf id) (IsApart id) mid new → LinesFailAt old new e
forcing_failed id old mid new e opens p (inl same) = record {
  out = p.out;
  grows = same ∙ p.grows;
  after = λ bound entries before h. begun_at bound mid entries (e ∷ []) [] (before ++ p.out) (p.after bound entries before h e opens).at;
}
forcing_failed id old mid new e opens p (inr q) = record {
  out = p.out ++ q.written.0;
  grows = q.written.1 ∙ ap (λ (l : List ℕ). l ++ q.written.0) p.grows ∙ append_assoc old.output.items p.out q.written.0;
  after = λ bound entries before h. (let k = p.after bound entries before h e opens in
      subst (λ (l : List ℕ). IsBeginningOfScript bound (entries ++ e ∷ []) l) (append_assoc before p.out q.written.0)
      (part_made (IsOf id) (IsApart id) mid q.c q.left q.after q.released q.made bound entries (e ∷ []) (before ++ p.out) k.at
      (forced_next id bound entries k.at.so_far.closed k.at.so_far.released e q.made.taken.front q.c opens q.made.taken.before q.made.taken.is) new q.written));
}

-- ---- an entry, with what is closed before and behind it

three : (a b c d : List ℕ) → ((a ++ b) ++ c) ++ d ≡ a ++ (b ++ (c ++ d))
three a b c d = append_assoc (a ++ b) c d ∙ append_assoc a b (c ++ d)

pub took : (old mid last new : HeldLines) (e : Entry) → LinesCloseBefore old mid e → ReadsLineEntry mid last e → LinesCloseReady last new → TakesLineEntry old new e
took old mid last new e p r q = record {
  out = p.out ++ (r.out ++ q.out);
  grows = q.grows ∙ ap (λ (l : List ℕ). l ++ q.out) (r.grows ∙ ap (λ (l : List ℕ). l ++ r.out) p.grows) ∙ three old.output.items p.out r.out q.out;
  after = λ bound entries before h.
      subst (HasTakenLines bound new (entries ++ e ∷ [])) (three before p.out r.out q.out)
      (q.after bound (entries ++ e ∷ []) ((before ++ p.out) ++ r.out) (r.after bound entries (before ++ p.out) (p.after bound entries before h)));
}

pub took_not : (old mid new : HeldLines) (e : Entry) → LinesCloseBefore old mid e → LineReadFails mid new e → LinesFailAt old new e
took_not old mid new e p r = record {
  out = p.out ++ r.out;
  grows = r.grows ∙ ap (λ (l : List ℕ). l ++ r.out) p.grows ∙ append_assoc old.output.items p.out r.out;
  after = λ bound entries before h.
      subst (IsBeginningOfScript bound (entries ++ e ∷ [])) (append_assoc before p.out r.out) (r.after bound entries (before ++ p.out) (p.after bound entries before h));
}

pub took_in_part : (old mid last new : HeldLines) (e : Entry) → LinesCloseBefore old mid e → ReadsLineEntry mid last e → LinesReadyFail last new → LinesFailAt old new e
took_in_part old mid last new e p r q = record {
  out = p.out ++ (r.out ++ q.out);
  grows = q.grows ∙ ap (λ (l : List ℕ). l ++ q.out) (r.grows ∙ ap (λ (l : List ℕ). l ++ r.out) p.grows) ∙ three old.output.items p.out r.out q.out;
  after = λ bound entries before h.
      subst (IsBeginningOfScript bound (entries ++ e ∷ [])) (three before p.out r.out q.out)
      (q.after bound (entries ++ e ∷ []) ((before ++ p.out) ++ r.out) (r.after bound entries (before ++ p.out) (p.after bound entries before h)));
}
