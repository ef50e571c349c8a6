-- Turns of a sweep that are made and reported.
use Rattle.std.proofs.Common.{◌≡◌, ◌∙◌, ℕ, ◌+◌, ◌<◌, ◌≤◌, Bool, true, false, not, is_some, List, [], ◌∷◌, ◌++◌, length, get_or, Option, Some, None, refl, sym, ap, subst}
use Rattle.std.specs.Borrow.{Bor}
use Rattle.std.specs.Prelude.{String, Vec, option_map, string_bytes}
use Rattle.std.specs.declared.alloc.Global.{Global}
use Rattle.std.proofs.lemmas.Bool.{false≢true}
use Rattle.std.proofs.lemmas.List.{append-nil, append_assoc}
use Rattle.scrib_types.specs.declared.event.Told.TheVariants as tell
use Rattle.scrib_record.specs.Stale.{Recorded}
use Rattle.scrib_core.specs.World.{World, conversation}
use Rattle.scrib_core.specs.Marks.{Fresh, IsStale}
use Rattle.scrib_core.specs.Answers.{State, IsAccepted, IsAnswered}
use Rattle.scrib_core.specs.FreshRecords.{FindsFreshRecord}
use Rattle.scrib_core.specs.Held as held
use Rattle.scrib_core.specs.Held.{Held, mark_at}
use Rattle.scrib_core.specs.declared.format.Format.{Format}
use Rattle.scrib_core.specs.declared.reply.Reply.{Reply}
use Rattle.scrib_core.specs.declared.reply.Reply.TheVariants as reply
use Rattle.scrib_core.specs.declared.step.Step.TheVariants.{Turn}
use Rattle.scrib_sweep.specs.Sweeps.{AreStale, IsAllFresh, IsFirstStale}
use Rattle.scrib_sweep.specs.ConversationTurns.{AreEnough}
use Rattle.scrib_sweep.proofs.TurnEffects.{only_open, stale_open}
use Rattle.scrib_sweep.proofs.StaleLists.{stale_found}
use Rattle.scrib_sweep.proofs.SweepSteps as steps
use Rattle.scrib_sweep.proofs.ConversationSweeps.{IsStillStale, enough_end, limited, still_more, still_none}
use Rattle.scrib_sweep.proofs.SweptLists.{IsSweptSoFar, all_fresh, next_first, stale_count, stale_covers, still_listed, swept_more, swept_none}
use Rattle.scrib_report.specs.LabelledReplies.{labelled_swept}
use Rattle.scrib_report.specs.PutBack.{bytes_of, put_back_by}
use Rattle.scrib_script_reader.specs.declared.item.Item.TheVariants as item
use Rattle.scrib_summary.specs.declared.summary.Summary.{Summary}
use Rattle.scrib_summary.specs.Summaries.{with_replies, with_reply}
use Rattle.scrib_closing.specs.ClosingScripts.{is_accepted}
use Rattle.scrib_labels.specs.declared.session_names.SessionNames.{SessionNames}
use Rattle.scrib_labels.specs.Naming.{number_of}
use Rattle.scrib_labelled.specs.declared.labelled_monitor.Change.{Change}
use Rattle.scrib_labelled.specs.declared.labelled_monitor.Change.TheVariants as change
use Rattle.scrib_labelled.specs.Changes.{after_change, change_by}
use Rattle.scrib_labelled.specs.LabelledLines.{LineLabel}
use Rattle.scrib_labelled.specs.declared.label_options.LabelledStyle.{LabelledStyle}
use Rattle.scrib_labelled.specs.LabelledRuns.{Naming, after_replies, after_reply}
use Rattle.scrib_reported.specs.declared.outcome.Outcome.{Outcome}
use Rattle.scrib_reported.specs.declared.reporting_monitor.ReportingMonitor.{ReportingMonitor}
use Rattle.scrib_reported.specs.declared.step_head.StepHead.{StepHead}
use Rattle.scrib_reported.specs.Kept.{Keeping}
use Rattle.scrib_reported.specs.Monitors.{CarriesItem, MakesStep, MakesSweep, MakesTurns, Renames, RenewsConversation, counted_in, kept_in, line_of, state_in}
use Rattle.scrib_reported.specs.ReportedReplies.{IsReported, StepLine}
use Rattle.scrib_reported.specs.ReportedRuns.{IsNameOf, ReportedSweep, SweepTurns, judges, no_turn, one_more, step_line, stops, sweep_line, turn_line}
use Rattle.scrib_reported.proofs.StepLemmas.{judged_unchanged, one-reply, renames_nothing, unchanged}

-- ---- turns

-- turns, and then turns
joined : (n : Naming) (l : StepLine) (a b : Keeping) (w u : State) (qs : List Reply) (text : List ℕ) (c : Keeping) (v : State) (accepted : Bool) (rs : List Reply) (more : List ℕ)
    → SweepTurns n l a w true b u qs text → SweepTurns n l b u accepted c v rs more → SweepTurns n l a w accepted c v (qs ++ rs) (text ++ more)
joined n l a b w u qs text _ _ _ _ _ first no_turn =
    subst (λ (x : List ℕ). SweepTurns n l a w true b u (qs ++ []) x) (sym (append-nil text)) (subst (λ (x : List Reply). SweepTurns n l a w true b u x text) (sym (append-nil qs)) first)
joined n l a b w u qs text _ _ _ _ _ first (one_more mid new t v rs front id name r more before is named answered reported) =
    subst (λ (x : List ℕ). SweepTurns n l a w (is_accepted r) new v (qs ++ (rs ++ r ∷ [])) x) (append_assoc text front more)
    (subst (λ (x : List Reply). SweepTurns n l a w (is_accepted r) new v x ((text ++ front) ++ more)) (append_assoc qs rs (r ∷ []))
    (one_more mid new t v (qs ++ rs) (text ++ front) id name r more (joined n l a b w u qs text mid t true rs front first before) is named answered reported))

-- the replies of turns change nothing in the numbers of names
after_both : (names : Naming) (session : Option (List ℕ × ℕ)) (qs rs : List Reply) → after_replies names session (qs ++ rs) ≡ after_replies (after_replies names session qs) session rs
after_both names session [] rs = refl
after_both names session (q ∷ qs) rs = after_both (after_reply names session q) session qs rs

turns_rename : (n : Naming) (l : StepLine) (a : Keeping) (w : State) (c : Keeping) (v : State) (accepted : Bool) (rs : List Reply) (text : List ℕ) → SweepTurns n l a w accepted c v rs text → Renames rs change.Unchanged
turns_rename n l a w _ _ _ _ _ no_turn = renames_nothing
turns_rename n l a w _ _ _ _ _ (one_more mid new t v rs front id called r more before is named answered reported) =
    let same : change_by r ≡ change.Unchanged = judged_unchanged t v (Turn id) r id refl answered in
    λ names session name.
    turns_rename n l a w mid t true rs front before names session name
    ∙ unchanged (after_replies names session rs) session name
    ∙ ap (λ (c : Change). after_change (after_replies names session rs) session c name) (sym same)
    ∙ sym (one-reply (after_replies names session rs) session r name)
    ∙ sym (ap (λ (n : Naming). n name) (after_both names session rs (r ∷ [])))

sweep_renames : (n : Naming) (l : StepLine) (a c : Keeping) (w v : State) (rs : List Reply) (text : List ℕ) → ReportedSweep n l a w c v rs text → Renames rs change.Unchanged
sweep_renames n l a _ w _ _ _ (judges new v rs text judged turns fresh count) = turns_rename n l a w new v true rs text turns
sweep_renames n l a _ w _ _ _ (stops new v rs text turns) = turns_rename n l a w new v false rs text turns

-- what two lists of replies come to
counted_both : (qs rs : List Reply) (s : Summary) → with_replies (qs ++ rs) s ≡ with_replies rs (with_replies qs s)
counted_both [] rs s = refl
counted_both (q ∷ qs) rs s = counted_both qs rs (with_reply q s)

turns_none : (h : StepHead) (m : ReportingMonitor) → MakesTurns h m m true
turns_none h m = record { replies = []; more = []; turns = no_turn; counted = refl; grows = sym (append-nil m.reporter.text.items) }

turns_both : (h : StepHead) (old mid new : ReportingMonitor) (accepted : Bool) → mid.names ≡ old.names → MakesTurns h old mid true → MakesTurns h mid new accepted → MakesTurns h old new accepted
turns_both h old mid new accepted names a b = record {
  replies = a.replies ++ b.replies;
  more = a.more ++ b.more;
  turns =
      joined (number_of old.names) (line_of h) (kept_in old) (kept_in mid) (state_in old) (state_in mid) a.replies a.more (kept_in new) (state_in new) accepted b.replies b.more a.turns
      (subst (λ (n : SessionNames). SweepTurns (number_of n) (line_of h) (kept_in mid) (state_in mid) accepted (kept_in new) (state_in new) b.replies b.more) names b.turns);
  counted = b.counted ∙ ap (λ (s : Summary). with_replies b.replies s) a.counted ∙ sym (counted_both a.replies b.replies (counted_in old));
  grows = b.grows ∙ ap (λ (t : List ℕ). t ++ b.more) a.grows ∙ append_assoc old.reporter.text.items a.more b.more;
}

-- the line is that of a turn of the conversation, where the sweep has this line
pub record IsTurnOf (names : SessionNames) (h turn : StepHead) (id : ℕ) : Type 0 where
  pub name : Option (List ℕ)
  pub named : IsNameOf (number_of names) id name
  pub line : line_of turn ≡ turn_line (line_of h) name

-- the line has a copy of the conversation's name
pub turn_of : (names : SessionNames) (h turn : StepHead) (id : ℕ) (copy : Option (String Global)) (bytes : Option (Bor (List ℕ))) → IsNameOf (number_of names) id (option_map string_bytes copy) → bytes_of bytes ≡ option_map string_bytes copy
    → line_of turn ≡ turn_line (line_of h) (bytes_of bytes) → IsTurnOf names h turn id
turn_of names h turn id copy bytes named is line = record {
  name = option_map string_bytes copy;
  named = named;
  line = line ∙ ap (λ (n : Option (List ℕ)). turn_line (line_of h) n) is;
}

-- one turn of the first stale conversation
one_turn : (h turn : StepHead) (old new : ReportingMonitor) (id : ℕ) (o : Outcome) → IsTurnOf old.names h turn id → IsFirstStale (state_in old) id → MakesStep turn old new (Turn id) o → MakesTurns h old new o.accepted
one_turn h turn old new id o is first m = record {
  replies = m.reply ∷ [];
  more = m.adds.more;
  turns =
      subst (λ (b : Bool). SweepTurns (number_of old.names) (line_of h) (kept_in old) (state_in old) b (kept_in new) (state_in new) (m.reply ∷ []) m.adds.more) (sym m.accepted_is)
      (one_more (kept_in old) (kept_in new) (state_in old) (state_in new) [] [] id is.name m.reply m.adds.more no_turn first is.named m.answered
      (subst (λ (l : StepLine). IsReported l (state_in new) (kept_in old) (kept_in new) (Turn id) m.reply m.adds.more) is.line m.adds.reported));
  counted = m.counted;
  grows = m.adds.grows;
}

pub not_true : (b : Bool) → not b ≡ true → b ≡ false
not_true true e = absurd (false≢true e)
not_true false e = refl

pub not_false : (b : Bool) → not b ≡ false → b ≡ true
not_false true e = refl
not_false false e = absurd (false≢true (sym e))

-- a turn whose reply accepts it is accepted
turn_accepted : (w u : State) (id : ℕ) (r : Reply) → is_accepted r ≡ true → IsAnswered w (Turn id) r u → IsAccepted w (Turn id) r u
turn_accepted w u id (reply.Edited x cs) e a = a
turn_accepted w u id (reply.Profiled p) e a = a
turn_accepted w u id (reply.Opened i n) e a = a
turn_accepted w u id (reply.Noted i place told) e a = a
turn_accepted w u id (reply.Judged i n k t) e a = a
turn_accepted w u id (reply.Closed i n k v b) e a = a
turn_accepted w u id (reply.Refused f) e a = absurd (false≢true e)

-- only the core and the reporter change
pub same_more : (old mid new : ReportingMonitor) → mid ≡ record old { core = mid.core; reporter = mid.reporter } → new ≡ record mid { core = new.core; reporter = new.reporter } → new ≡ record old { core = new.core; reporter = new.reporter }
same_more old mid new first more = more ∙ ap (λ (x : ReportingMonitor). record x { core = new.core; reporter = new.reporter }) first

same_names : (old now : ReportingMonitor) → now ≡ record old { core = now.core; reporter = now.reporter } → now.names ≡ old.names
same_names old now same = ap (λ (x : ReportingMonitor). x.names) same

-- ---- the turns of one conversation

-- a record that is not stale was found
fresh_mark : (c : Held) (id : ℕ) (found : Option (Bor Recorded)) → is_some found ≡ true → FindsFreshRecord c id found → (held.state_of c).marks id ≡ Fresh
fresh_mark c id None some finds = absurd (false≢true some)
fresh_mark c id (Some r) some finds = ap (mark_at c.library) finds.there ∙ finds.fresh

-- after so many turns the conversation is still the first stale one
pub record IsTurning (h : StepHead) (old : ReportingMonitor) (id turns : ℕ) (now : ReportingMonitor) : Type 0 where
  pub made : MakesTurns h old now true
  pub still : IsStillStale (state_in old) id turns (state_in now)
  pub same : now ≡ record old { core = now.core; reporter = now.reporter }

pub turning_none : (h : StepHead) (old : ReportingMonitor) (id : ℕ) → IsFirstStale (state_in old) id → IsTurning h old id 0 old
turning_none h old id first = record { made = turns_none h old; still = still_none (state_in old) id first; same = refl }

-- so many turns are not enough
pub turning_ends : (h : StepHead) (old now : ReportingMonitor) (id limit turns : ℕ) → IsFirstStale (state_in old) id → AreEnough (state_in old) id limit → IsTurning h old id turns now → turns ≤ limit → limit ≤ turns → ⊥
turning_ends h old now id limit turns first enough t most least =
    enough_end (state_in old) (state_in now) id limit limit (only_open old.core.core) first enough (limited (state_in old) (state_in now) id limit turns t.still most least)

module _ (h turn : StepHead) (old mid new : ReportingMonitor) (id turns : ℕ) (o : Outcome) (is : IsTurnOf old.names h turn id) (t : IsTurning h old id turns mid) (m : MakesStep turn mid new (Turn id) o) where
  pub turn_more : MakesTurns h old new o.accepted
  turn_more =
      let names = same_names old mid t.same in
      turns_both h old mid new o.accepted names t.made (one_turn h turn mid new id o (subst (λ (n : SessionNames). IsTurnOf n h turn id) (sym names) is) t.still.first m)

  module _ (holds : o.accepted ≡ true) where
    taken : IsAccepted (state_in mid) (Turn id) m.reply (state_in new)
    taken = turn_accepted (state_in mid) (state_in new) id m.reply (sym m.accepted_is ∙ holds) m.answered

    -- the conversation is not stale any more
    pub renewed : (found : Option (Bor Recorded)) → is_some found ≡ true → FindsFreshRecord new.core.core id found → RenewsConversation (state_in old) id (state_in new)
    renewed found some finds = record {
      count = turns + 1;
      made = steps.turns_more (state_in old) (state_in mid) (state_in new) id turns m.reply (only_open mid.core.core) t.still.first t.still.made taken;
      fresh = fresh_mark new.core.core id found some finds;
    }

    -- it is still stale
    pub turning_more : (found : Option (Bor Recorded)) → is_some found ≡ false → FindsFreshRecord new.core.core id found → new ≡ record mid { core = new.core; reporter = new.reporter } → IsTurning h old id (turns + 1) new
    turning_more (Some r) none finds same = absurd (false≢true (sym none))
    turning_more None none finds same =
        let here = stale_open (state_in mid) (only_open mid.core.core) id t.still.first.stale in
        let there = ap (λ (w : World). conversation w id) taken.follows.1 ∙ here.1 in
        let stale : IsStale ((state_in new).marks id) = stale_found new.core.core id here.0 finds there in
        record {
          made = subst (MakesTurns h old new) holds turn_more;
          still = still_more (state_in old) (state_in mid) (state_in new) id turns (only_open mid.core.core) t.still (Some tell.Stale) (m.reply, taken, stale) tell.Stale refl refl;
          same = same_more old mid new t.same same;
        }

-- ---- the turns of all stale conversations

-- the first of the listed conversations had their turns
pub record AreTurning (h : StepHead) (old : ReportingMonitor) (ids : List ℕ) (i : ℕ) (now : ReportingMonitor) : Type 0 where
  pub made : MakesTurns h old now true
  pub turns : ℕ
  pub so_far : IsSweptSoFar (state_in old) ids i turns i (state_in now)
  pub same : now ≡ record old { core = now.core; reporter = now.reporter }

pub turning_first : (h : StepHead) (old : ReportingMonitor) (ids : List ℕ) → AreTurning h old ids 0 old
turning_first h old ids = record { made = turns_none h old; turns = 0; so_far = swept_none (state_in old) ids; same = refl }

module _ (h : StepHead) (old mid : ReportingMonitor) (ids : List ℕ) (stale : AreStale (state_in old) ids) (i : ℕ) (t : AreTurning h old ids i mid) where
  -- the next one is the first stale one
  pub next_stale : i < length ids → IsFirstStale (state_in mid) (get_or ids i 0)
  next_stale within =
      next_first (state_in old) ids (stale_covers (state_in old) ids stale) i t.turns i (state_in mid) t.so_far within
      (still_listed (state_in old) ids stale i t.turns i (state_in mid) t.so_far within)

  -- behind the last one nothing is stale
  pub none_stale : length ids ≤ i → IsAllFresh (state_in mid)
  none_stale end = all_fresh (state_in old) ids (stale_covers (state_in old) ids stale) i t.turns i (state_in mid) t.so_far end

  module _ (new : ReportingMonitor) (accepted : Bool) (m : MakesTurns h mid new accepted) (same : new ≡ record mid { core = new.core; reporter = new.reporter }) where
    pub next_more : MakesTurns h old new accepted
    next_more = turns_both h old mid new accepted (same_names old mid t.same) t.made m

    pub next_turning : i < length ids → accepted ≡ true → (accepted ≡ true → RenewsConversation (state_in mid) (get_or ids i 0) (state_in new)) → AreTurning h old ids (i + 1) new
    next_turning within holds renews =
        let r = renews holds in
        record {
          made = subst (MakesTurns h old new) holds next_more;
          turns = t.turns + r.count;
          so_far = swept_more (state_in old) ids (stale_covers (state_in old) ids stale) i t.turns i (state_in mid) t.so_far r.count (state_in new) within (next_stale within) r.made r.fresh;
          same = same_more old mid new t.same same;
        }

-- ---- sweeps

-- a turn was refused
pub sweep_stops : (h : StepHead) (old new : ReportingMonitor) (accepted : Bool) → accepted ≡ false → MakesTurns h old new accepted → MakesSweep h old new
sweep_stops h old new accepted fails m = record {
  replies = m.replies;
  more = m.more;
  sweeps = stops (kept_in new) (state_in new) m.replies m.more (subst (λ (b : Bool). SweepTurns (number_of old.names) (line_of h) (kept_in old) (state_in old) b (kept_in new) (state_in new) m.replies m.more) fails m.turns);
  counted = m.counted;
  grows = m.grows;
}

-- nothing is stale, and how many were is appended
pub sweep_judges : (h : StepHead) (old mid : ReportingMonitor) (t : Vec ℕ Global) (accepted : Bool) (ids : List ℕ) → accepted ≡ true → MakesTurns h old mid accepted → IsAllFresh (state_in mid) → AreStale (state_in old) ids
    → t.items ≡ mid.reporter.text.items ++ labelled_swept h.format (put_back_by h.label) (length ids) → MakesSweep h old (record mid { reporter = record mid.reporter { text = t } })
sweep_judges h old mid t accepted ids holds m fresh stale grows =
    let last = labelled_swept h.format (put_back_by h.label) (length ids) in
    record {
      replies = m.replies;
      more = m.more ++ last;
      sweeps =
          judges (kept_in mid) (state_in mid) m.replies m.more (length ids) (subst (λ (b : Bool). SweepTurns (number_of old.names) (line_of h) (kept_in old) (state_in old) b (kept_in mid) (state_in mid) m.replies m.more) holds m.turns) fresh
          (stale_count (state_in old) ids stale);
      counted = m.counted;
      grows = grows ∙ ap (λ (x : List ℕ). x ++ last) m.grows ∙ append_assoc old.reporter.text.items m.more last;
    }

-- the line of a sweep is that of its label
pub swept_line : (h nameless : StepHead) (o : LabelledStyle) (label : LineLabel) (asked : Format) → line_of h ≡ step_line o label asked → line_of nameless ≡ turn_line (line_of h) None → line_of nameless ≡ sweep_line o label asked
swept_line h nameless o label asked is without = without ∙ ap (λ (l : StepLine). turn_line l None) is

-- the item of a sweep
pub item_sweep : (old new : ReportingMonitor) (t : Vec ℕ Global) (label : LineLabel) (h : StepHead) (asked : Format) → line_of h ≡ sweep_line old.style label asked → t.items ≡ []
    → MakesSweep h (record old { reporter = record old.reporter { text = t } }) new → CarriesItem old new label (item.Sweep asked) change.Unchanged
item_sweep old new t label h asked line empty m = record {
  replies = m.replies;
  carries =
      subst (λ (x : List ℕ). ReportedSweep (number_of old.names) (sweep_line old.style label asked) (kept_in old) (state_in old) (kept_in new) (state_in new) m.replies x) (sym (m.grows ∙ ap (λ (x : List ℕ). x ++ m.more) empty))
      (subst (λ (l : StepLine). ReportedSweep (number_of old.names) l (kept_in old) (state_in old) (kept_in new) (state_in new) m.replies m.more) line m.sweeps);
  renames = sweep_renames (number_of old.names) (line_of h) (kept_in old) (kept_in new) (state_in old) (state_in new) m.replies m.more m.sweeps;
  counted = m.counted;
}
