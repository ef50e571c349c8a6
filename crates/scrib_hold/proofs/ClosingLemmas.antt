-- Closings that a monitor behind a stage carries out.
use Rattle.std.proofs.Common.{◌≡◌, ◌∙◌, ℕ, Bool, true, false, List, [], ◌∷◌, ◌++◌, Option, Some, None, IfSome, is_some, IsTrue, Result, Ok, Err, inl, inr, refl, sym, ap, subst}
use Rattle.std.specs.Prelude.{IfOk, OnOk, OnErr}
use Rattle.std.specs.List.{AllByRecursion}
use Rattle.std.proofs.lemmas.Bool.{true≢false}
use Rattle.std.proofs.lemmas.List.{append_assoc, append-nil}
use Rattle.scrib_script_reader.specs.declared.item.Item.{Item}
use Rattle.scrib_script_reader.specs.declared.entry.Entry.{Entry}
use Rattle.scrib_hold_stage.specs.declared.noted.Noted.{Noted}
use Rattle.scrib_hold_stage.specs.PendingClosings.{IsMade, IsOf, IsApart, IsReady, IsNotReady, closings_in}
use Rattle.scrib_hold_stage.specs.Stages as stages
use Rattle.scrib_script_io.specs.declared.fault.ScriptFault.{ScriptFault}
use Rattle.scrib_hold.specs.declared.held_monitor.HeldMonitor.{HeldMonitor}
use Rattle.scrib_hold.specs.HeldScripts.{Asked, Pending, event_in, opens_conversation, IsNext}
use Rattle.scrib_hold.specs.NumberedItems.{Numbered, numbered_closed, AreFirstItems}
use Rattle.scrib_hold.specs.Sinks.{GathersItems, FailsWithin}
use Rattle.scrib_hold.specs.LetOutSoFar.{LetsOutSoFar}
use Rattle.scrib_hold.specs.HeldMonitors.{IsAt, HasTaken, TakesEntry, FailsAtEntry}
use Rattle.scrib_hold.specs.EntrySteps.{ClosesBefore, ReadsEntry, ReadFails, ClosesReady, CloseReadyFails, ClosesOne, CloseFails, IsSameButReleased}
use Rattle.scrib_hold.proofs.SinkLemmas.{gathers_none, gathers_more, behind_none, behind_after}
use Rattle.scrib_hold.proofs.LetOutLemmas.{all_weaker, all_applied, so_far_same, so_far_let_out, closed_further, ready_next, forced_next, others_wait, none_opened}
use Rattle.scrib_hold.proofs.MonitorLemmas.{at_next, begins_with, begun_at}

abbrev ReadyIn : {S : Type 0} → HeldMonitor S → Pending → Type 0
ReadyIn m c = IsReady c (stages.stage_state m.stage)

abbrev NotReadyIn : {S : Type 0} → HeldMonitor S → Pending → Type 0
NotReadyIn m c = IsNotReady c (stages.stage_state m.stage)

three : (a b c d : List Numbered) → ((a ++ b) ++ c) ++ d ≡ a ++ (b ++ (c ++ d))
three a b c d = append_assoc (a ++ b) c d ∙ append_assoc a b (c ++ d)

-- ---- one closing

module _ {S : Type 0} (Is IsNot : Pending → Type 0) (old : HeldMonitor S) (c : Pending) (left : List Pending) (after : stages.StageState Asked) (released : List (Noted Asked))
    (made : IsMade event_in Is IsNot c (closings_in old.pending) left (stages.stage_state old.stage) after [] released)
    (bound : ℕ) (entries next : List Entry) (before : List Numbered) (a : IsAt bound old entries next before)
    (n : (later : List Entry) → IsNext bound entries (next ++ later) a.so_far.closed a.so_far.released made.taken.front c) where
  so_far_after : LetsOutSoFar bound after left entries next (before ++ numbered_closed c released)
  so_far_after = closed_further Is IsNot bound (stages.stage_state old.stage) after (closings_in old.pending) left entries next before c released made a.so_far n

  at_after : (new : HeldMonitor S) → stages.stage_state new.stage ≡ after → closings_in new.pending ≡ left → new.ended_inside ≡ old.ended_inside → IsAt bound new entries next (before ++ numbered_closed c released)
  at_after new stage_is pending_is inside = record {
    so_far = so_far_same bound after (stages.stage_state new.stage) left (closings_in new.pending) entries next (before ++ numbered_closed c released) stage_is pending_is so_far_after;
    inside = inside ∙ a.inside;
  }

  -- it was carried out in part
  part_after : (first undone : List Numbered) → numbered_closed c released ≡ first ++ undone → AreFirstItems bound (entries ++ (next ++ [])) (before ++ first)
  part_after first undone is =
      begins_with bound entries (next ++ []) before first undone (before ++ numbered_closed c released) (ap (λ (l : List Numbered). before ++ l) is)
      (so_far_let_out bound after left entries next [] (before ++ numbered_closed c released) so_far_after)

next_ready : {S : Type 0} (bound : ℕ) (m : HeldMonitor S) (entries : List Entry) (numbered : List Numbered) (a : IsAt bound m entries [] numbered) (front : List Pending) (c : Pending) → AllByRecursion (NotReadyIn m) front → ReadyIn m c
    → (later : List Entry) → IsNext bound entries ([] ++ later) a.so_far.closed a.so_far.released front c
next_ready bound m entries numbered a front c = ready_next bound (stages.stage_state m.stage) (closings_in m.pending) entries numbered a.so_far front c

-- the monitor is the same
at_same : {S : Type 0} (bound : ℕ) (old new : HeldMonitor S) (entries next : List Entry) (numbered : List Numbered) → IsSameButReleased old new → IsAt bound old entries next numbered → IsAt bound new entries next numbered
at_same bound old new entries next numbered s a = record {
  so_far = so_far_same bound (stages.stage_state old.stage) (stages.stage_state new.stage) (closings_in old.pending) (closings_in new.pending) entries next numbered s.stage s.pending a.so_far;
  inside = s.inside ∙ a.inside;
}

-- no property of closings and of a stage is lost
all_same : {S : Type 0} (P : Pending → stages.StageState Asked → Type 0) (old new : HeldMonitor S) → IsSameButReleased old new → AllByRecursion (λ c. P c (stages.stage_state old.stage)) (closings_in old.pending)
    → AllByRecursion (λ c. P c (stages.stage_state new.stage)) (closings_in new.pending)
all_same P old new s a =
    subst (λ (z : stages.StageState Asked). AllByRecursion (λ (c : Pending). P c z) (closings_in new.pending)) (sym s.stage)
    (subst (AllByRecursion (λ (c : Pending). P c (stages.stage_state old.stage))) (sym s.pending) a)

-- the entry follows next, and each closing of another conversation waits further
pub record IsForced {S : Type 0} (bound : ℕ) (id : ℕ) (m : HeldMonitor S) (entries : List Entry) (e : Entry) (numbered : List Numbered) : Type 0 where
  pub at : IsAt bound m entries (e ∷ []) numbered
  pub wait : AllByRecursion (λ c. IsApart id c → IsNotReady c (stages.stage_state m.stage)) (closings_in m.pending)

module _ {S : Type 0} (carries : S → S → ℕ → Item → List ℕ → Type 0) (gathered : S → List ℕ) where
  -- ---- one closing that is carried out, or not

  module _ (Is IsNot : Pending → Type 0) (old mid new : HeldMonitor S) (made : Option Pending) (was : List (Noted Asked)) (cleared : was ≡ [])
      (closed : IfSome made (λ c. IsMade event_in Is IsNot c (closings_in old.pending) (closings_in mid.pending) (stages.stage_state old.stage) (stages.stage_state mid.stage) was mid.released.items))
      (sink : mid.sink ≡ old.sink) (inside : mid.ended_inside ≡ old.ended_inside)
      (others : new ≡ record mid { released = new.released; sink = new.sink }) where
    abbrev made_here : Pending → List (Noted Asked) → Type 0
    made_here c w = IsMade event_in Is IsNot c (closings_in old.pending) (closings_in mid.pending) (stages.stage_state old.stage) (stages.stage_state mid.stage) w mid.released.items

    one_of : (o : Option Pending) → IfSome o (λ c. made_here c was) → IfSome o (λ c. GathersItems carries gathered mid.sink new.sink (numbered_closed c mid.released.items)) → is_some o ≡ true
        → ClosesOne carries gathered Is IsNot old new
    one_of None m d some = absurd (true≢false (sym some))
    one_of (Some c) m d some = record {
      c = c;
      released = mid.released.items;
      made =
          subst (λ (s : stages.StageState Asked). IsMade event_in Is IsNot c (closings_in old.pending) (closings_in new.pending) (stages.stage_state old.stage) s [] mid.released.items) (sym (ap (λ (z : HeldMonitor S). stages.stage_state z.stage) others))
          (subst (λ (l : List Pending). IsMade event_in Is IsNot c (closings_in old.pending) l (stages.stage_state old.stage) (stages.stage_state mid.stage) [] mid.released.items) (sym (ap (λ (z : HeldMonitor S). closings_in z.pending) others))
          (subst (made_here c) cleared m));
      inside = ap (λ (z : HeldMonitor S). z.ended_inside) others ∙ inside;
      gathers = subst (λ (s : S). GathersItems carries gathered s new.sink (numbered_closed c mid.released.items)) sink d;
    }

    pub closes_one : (r : Result Bool ScriptFault) → IfOk r (λ some. some ≡ is_some made)
        → OnOk r (IfSome made (λ c. GathersItems carries gathered mid.sink new.sink (numbered_closed c mid.released.items)))
        → IfOk r (λ some. IsTrue some → ClosesOne carries gathered Is IsNot old new)
    closes_one (Ok some) is d = λ yes. one_of made closed d (sym is ∙ yes)
    closes_one (Err e) is d = tt

    fails_of : (o : Option Pending) → IfSome o (λ c. made_here c was) → (o ≡ None → new ≡ mid) → IfSome o (λ c. FailsWithin carries gathered mid.sink new.sink (numbered_closed c mid.released.items))
        → CloseFails carries gathered Is IsNot old new
    fails_of None m none d = inl (ap (λ (z : HeldMonitor S). gathered z.sink) (none refl) ∙ ap gathered sink)
    fails_of (Some c) m none d = inr (record {
      c = c;
      left = closings_in mid.pending;
      after = stages.stage_state mid.stage;
      released = mid.released.items;
      made = subst (made_here c) cleared m;
      fails = subst (λ (s : S). FailsWithin carries gathered s new.sink (numbered_closed c mid.released.items)) sink d;
    })

    pub close_fails : (made ≡ None → new ≡ mid) → (r : Result Bool ScriptFault)
        → OnErr r (IfSome made (λ c. FailsWithin carries gathered mid.sink new.sink (numbered_closed c mid.released.items)))
        → OnErr r (CloseFails carries gathered Is IsNot old new)
    close_fails none (Ok some) d = tt
    close_fails none (Err e) d = fails_of made closed none d

  -- ---- closings that wait no further

  -- some were carried out
  pub record IsClosing (old new : HeldMonitor S) : Type 0 where
    pub numbered : List Numbered
    pub gathers : GathersItems carries gathered old.sink new.sink numbered
    pub after : (bound : ℕ) (entries : List Entry) (before : List Numbered) → IsAt bound old entries [] before → IsAt bound new entries [] (before ++ numbered)

  pub closing_none : (m : HeldMonitor S) → IsClosing m m
  closing_none m = record {
    numbered = [];
    gathers = gathers_none carries gathered m.sink;
    after = λ bound entries before a. subst (IsAt bound m entries []) (sym (append-nil before)) a;
  }

  pub closing_more : (old mid new : HeldMonitor S) → IsClosing old mid → ClosesOne carries gathered (ReadyIn mid) (NotReadyIn mid) mid new → IsClosing old new
  closing_more old mid new p q = record {
    numbered = p.numbered ++ numbered_closed q.c q.released;
    gathers = gathers_more carries gathered old.sink mid.sink new.sink p.numbered (numbered_closed q.c q.released) p.gathers q.gathers;
    after = λ bound entries before a. (let k = p.after bound entries before a in
        subst (IsAt bound new entries []) (append_assoc before p.numbered (numbered_closed q.c q.released))
        (at_after (ReadyIn mid) (NotReadyIn mid) mid q.c (closings_in new.pending) (stages.stage_state new.stage) q.released q.made bound entries [] (before ++ p.numbered) k
        (next_ready bound mid entries (before ++ p.numbered) k q.made.taken.front q.c q.made.taken.before q.made.taken.is) new refl refl q.inside));
  }

  pub closing_done : (old mid new : HeldMonitor S) → IsClosing old mid → IsSameButReleased mid new → AllByRecursion (NotReadyIn mid) (closings_in mid.pending) → ClosesReady carries gathered old new
  closing_done old mid new p s none = record {
    numbered = p.numbered;
    gathers = subst (λ (z : S). GathersItems carries gathered old.sink z p.numbered) (sym s.sink) p.gathers;
    after = λ bound entries before a. record {
      at = at_same bound mid new entries [] (before ++ p.numbered) s (p.after bound entries before a);
      wait = all_same (λ c z. IsNotReady c z) mid new s none;
    };
  }

  -- no closing waits
  pub ready_none : (m : HeldMonitor S) → closings_in m.pending ≡ [] → ClosesReady carries gathered m m
  ready_none m none = record {
    numbered = [];
    gathers = gathers_none carries gathered m.sink;
    after = λ bound entries before a. record {
      at = subst (IsAt bound m entries []) (sym (append-nil before)) a;
      wait = subst (AllByRecursion (NotReadyIn m)) (sym none) tt;
    };
  }

  pub closing_failed : (old mid new : HeldMonitor S) → IsClosing old mid → CloseFails carries gathered (ReadyIn mid) (NotReadyIn mid) mid new → CloseReadyFails carries gathered old new
  closing_failed old mid new p (inl same) = record {
    numbered = p.numbered ++ [];
    fails = behind_after carries gathered old.sink mid.sink new.sink p.numbered [] p.gathers (behind_none carries gathered mid.sink new.sink same);
    after = λ bound entries before a.
        subst (AreFirstItems bound entries) (ap (λ (l : List Numbered). before ++ l) (sym (append-nil p.numbered)))
        (subst (λ (l : List Entry). AreFirstItems bound l (before ++ p.numbered)) (append-nil entries) (begun_at bound mid entries [] [] (before ++ p.numbered) (p.after bound entries before a)));
  }
  closing_failed old mid new p (inr q) = record {
    numbered = p.numbered ++ q.fails.0;
    fails = behind_after carries gathered old.sink mid.sink new.sink p.numbered q.fails.0 p.gathers q.fails.3;
    after = λ bound entries before a. (let k = p.after bound entries before a in
        subst (AreFirstItems bound entries) (append_assoc before p.numbered q.fails.0)
        (subst (λ (l : List Entry). AreFirstItems bound l ((before ++ p.numbered) ++ q.fails.0)) (append-nil entries)
        (part_after (ReadyIn mid) (NotReadyIn mid) mid q.c q.left q.after q.released q.made bound entries [] (before ++ p.numbered) k
        (next_ready bound mid entries (before ++ p.numbered) k q.made.taken.front q.c q.made.taken.before q.made.taken.is) q.fails.0 q.fails.1 q.fails.2)));
  }

  -- ---- closings of a conversation that the next entry opens

  -- some were carried out
  pub record IsForcing (id : ℕ) (old new : HeldMonitor S) : Type 0 where
    pub numbered : List Numbered
    pub gathers : GathersItems carries gathered old.sink new.sink numbered
    pub after : (bound : ℕ) (entries : List Entry) (before : List Numbered) → HasTaken bound old entries before → (e : Entry) → opens_conversation id e ≡ true → IsForced bound id new entries e (before ++ numbered)

  pub forcing_none : (id : ℕ) (m : HeldMonitor S) → IsForcing id m m
  forcing_none id m = record {
    numbered = [];
    gathers = gathers_none carries gathered m.sink;
    after = λ bound entries before h e opens. record {
      at = subst (IsAt bound m entries (e ∷ [])) (sym (append-nil before)) (at_next bound m entries (e ∷ []) before h.at);
      wait = all_weaker (NotReadyIn m) (λ (c : Pending). IsApart id c → NotReadyIn m c) (λ c w apart. w) (closings_in m.pending) h.wait;
    };
  }

  pub forcing_more : (id : ℕ) (old mid new : HeldMonitor S) → IsForcing id old mid → ClosesOne carries gathered (IsOf id) (IsApart id) mid new → IsForcing id old new
  forcing_more id old mid new p q = record {
    numbered = p.numbered ++ numbered_closed q.c q.released;
    gathers = gathers_more carries gathered old.sink mid.sink new.sink p.numbered (numbered_closed q.c q.released) p.gathers q.gathers;
    after = λ bound entries before h e opens. (let k = p.after bound entries before h e opens in
        let t = at_after (IsOf id) (IsApart id) mid q.c (closings_in new.pending) (stages.stage_state new.stage) q.released q.made bound entries (e ∷ []) (before ++ p.numbered) k.at
        (forced_next id bound entries k.at.so_far.closed k.at.so_far.released e q.made.taken.front q.c opens q.made.taken.before q.made.taken.is) new refl refl q.inside in
        record {
          at = subst (IsAt bound new entries (e ∷ [])) (append_assoc before p.numbered (numbered_closed q.c q.released)) t;
          wait = others_wait bound id (stages.stage_state mid.stage) (stages.stage_state new.stage) (closings_in mid.pending) (closings_in new.pending) entries (e ∷ []) (before ++ p.numbered)
              ((before ++ p.numbered) ++ numbered_closed q.c q.released) q.c q.released k.at.so_far t.so_far q.made k.wait;
        });
  }

  pub forcing_done : (id : ℕ) (old mid new : HeldMonitor S) (e : Entry) → opens_conversation id e ≡ true → ((k : ℕ) → opens_conversation k e ≡ true → k ≡ id) → IsForcing id old mid → IsSameButReleased mid new → AllByRecursion (IsApart id) (closings_in mid.pending)
      → ClosesBefore carries gathered old new e
  forcing_done id old mid new e opens only p s none = record {
    numbered = p.numbered;
    gathers = subst (λ (z : S). GathersItems carries gathered old.sink z p.numbered) (sym s.sink) p.gathers;
    after = λ bound entries before h. (let k = p.after bound entries before h e opens in
        record {
          at = at_same bound mid new entries (e ∷ []) (before ++ p.numbered) s k.at;
          wait = all_same (λ c z. IsNotReady c z) mid new s (all_applied (IsApart id) (NotReadyIn mid) (closings_in mid.pending) none k.wait);
          apart =
              subst (AllByRecursion (λ (c : Pending). opens_conversation c.conversation e ≡ false)) (sym s.pending)
              (none_opened id e (closings_in mid.pending) only none);
        });
  }

  -- the entry opens none
  pub opens_none : (m : HeldMonitor S) (e : Entry) → ((k : ℕ) → opens_conversation k e ≡ false) → ClosesBefore carries gathered m m e
  opens_none m e none = record {
    numbered = [];
    gathers = gathers_none carries gathered m.sink;
    after = λ bound entries before h. record {
      at = subst (IsAt bound m entries (e ∷ [])) (sym (append-nil before)) (at_next bound m entries (e ∷ []) before h.at);
      wait = h.wait;
      apart = all_weaker (NotReadyIn m) (λ (c : Pending). opens_conversation c.conversation e ≡ false) (λ c w. none c.conversation) (closings_in m.pending) h.wait;
    };
  }

  -- no closing waits
  pub before_none : (m : HeldMonitor S) (e : Entry) → closings_in m.pending ≡ [] → ClosesBefore carries gathered m m e
  before_none m e none = record {
    numbered = [];
    gathers = gathers_none carries gathered m.sink;
    after = λ bound entries before h. record {
      at = subst (IsAt bound m entries (e ∷ [])) (sym (append-nil before)) (at_next bound m entries (e ∷ []) before h.at);
      wait = h.wait;
      apart = subst (AllByRecursion (λ (c : Pending). opens_conversation c.conversation e ≡ false)) (sym none) tt;
    };
  }

  pub forcing_failed : (id : ℕ) (old mid new : HeldMonitor S) (e : Entry) → opens_conversation id e ≡ true → IsForcing id old mid → CloseFails carries gathered (IsOf id) (IsApart id) mid new → FailsAtEntry carries gathered old new e
  forcing_failed id old mid new e opens p (inl same) = record {
    numbered = p.numbered ++ [];
    fails = behind_after carries gathered old.sink mid.sink new.sink p.numbered [] p.gathers (behind_none carries gathered mid.sink new.sink same);
    after = λ bound entries before h.
        subst (AreFirstItems bound (entries ++ e ∷ [])) (ap (λ (l : List Numbered). before ++ l) (sym (append-nil p.numbered)))
        (begun_at bound mid entries (e ∷ []) [] (before ++ p.numbered) (p.after bound entries before h e opens).at);
  }
  forcing_failed id old mid new e opens p (inr q) = record {
    numbered = p.numbered ++ q.fails.0;
    fails = behind_after carries gathered old.sink mid.sink new.sink p.numbered q.fails.0 p.gathers q.fails.3;
    after = λ bound entries before h. (let k = p.after bound entries before h e opens in
        subst (AreFirstItems bound (entries ++ e ∷ [])) (append_assoc before p.numbered q.fails.0)
        (part_after (IsOf id) (IsApart id) mid q.c q.left q.after q.released q.made bound entries (e ∷ []) (before ++ p.numbered) k.at
        (forced_next id bound entries k.at.so_far.closed k.at.so_far.released e q.made.taken.front q.c opens q.made.taken.before q.made.taken.is) q.fails.0 q.fails.1 q.fails.2));
  }

  -- ---- an entry, with what is closed before and behind it

  pub took : (old mid last new : HeldMonitor S) (e : Entry) → ClosesBefore carries gathered old mid e → ReadsEntry carries gathered mid last e → ClosesReady carries gathered last new → TakesEntry carries gathered old new e
  took old mid last new e p r q = record {
    numbered = p.numbered ++ (r.numbered ++ q.numbered);
    gathers =
        gathers_more carries gathered old.sink mid.sink new.sink p.numbered (r.numbered ++ q.numbered) p.gathers
        (gathers_more carries gathered mid.sink last.sink new.sink r.numbered q.numbered r.gathers q.gathers);
    after = λ bound entries before h.
        subst (HasTaken bound new (entries ++ e ∷ [])) (three before p.numbered r.numbered q.numbered)
        (q.after bound (entries ++ e ∷ []) ((before ++ p.numbered) ++ r.numbered) (r.after bound entries (before ++ p.numbered) (p.after bound entries before h)));
  }

  pub took_not : (old mid new : HeldMonitor S) (e : Entry) → ClosesBefore carries gathered old mid e → ReadFails carries gathered mid new e → FailsAtEntry carries gathered old new e
  took_not old mid new e p r = record {
    numbered = p.numbered ++ r.numbered;
    fails = behind_after carries gathered old.sink mid.sink new.sink p.numbered r.numbered p.gathers r.fails;
    after = λ bound entries before h.
        subst (AreFirstItems bound (entries ++ e ∷ [])) (append_assoc before p.numbered r.numbered)
        (r.after bound entries (before ++ p.numbered) (p.after bound entries before h));
  }

  pub took_in_part : (old mid last new : HeldMonitor S) (e : Entry) → ClosesBefore carries gathered old mid e → ReadsEntry carries gathered mid last e → CloseReadyFails carries gathered last new → FailsAtEntry carries gathered old new e
  took_in_part old mid last new e p r q = record {
    numbered = p.numbered ++ (r.numbered ++ q.numbered);
    fails =
        behind_after carries gathered old.sink mid.sink new.sink p.numbered (r.numbered ++ q.numbered) p.gathers
        (behind_after carries gathered mid.sink last.sink new.sink r.numbered q.numbered r.gathers q.fails);
    after = λ bound entries before h.
        subst (AreFirstItems bound (entries ++ e ∷ [])) (three before p.numbered r.numbered q.numbered)
        (q.after bound (entries ++ e ∷ []) ((before ++ p.numbered) ++ r.numbered) (r.after bound entries (before ++ p.numbered) (p.after bound entries before h)));
  }
