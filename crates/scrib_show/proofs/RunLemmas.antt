-- A run of a script that keeps the lines of a conversation's events.
use Rattle.std.proofs.Common.{◌≡◌, ◌+◌, ℕ, suc, List, [], ◌∷◌, ◌++◌, ◌∙◌, Option, Some, None, length, refl, sym, ap, subst, arith, rules}
use Rattle.std.specs.Prelude.{All, IfSome}
use Rattle.std.specs.Io.KnownBytes.{Consumes, IsAtEnd, Keeps}
use Rattle.std.proofs.lemmas.List.{append_assoc, append-nil}
use Rattle.std.proofs.lemmas.List.Elements.{All-nil, All-cons, All-append}
use Rattle.scrib_core.specs.declared.format.Format.{Format}
use Rattle.scrib_core.specs.declared.step.Step.{Step}
use Rattle.scrib_core.specs.declared.step.Step.TheVariants.{Put}
use Rattle.scrib_core.specs.declared.reply.Reply.{Reply}
use Rattle.scrib_core.specs.declared.reply.Reply.TheVariants as reply
use Rattle.scrib_core.specs.World.{World}
use Rattle.scrib_core.specs.Answers.{State, initial, IsAnswered}
use Rattle.scrib_core.specs.Held.{state_of}
use Rattle.scrib_script_reader.specs.declared.entry.Entry.{Entry}
use Rattle.scrib_script_reader.specs.declared.entry.Entry.TheVariants as entry
use Rattle.scrib_script_reader.specs.declared.item.Item.{Item}
use Rattle.scrib_script_reader.specs.declared.item.Item.TheVariants as item
use Rattle.scrib_script_reader.specs.declared.script.Script.{Script}
use Rattle.scrib_script_reader.specs.declared.limits.Limits.{Limits}
use Rattle.scrib_script_reader.specs.Scripts.{Request, ToMake, ToSweep, lines, requests_of}
use Rattle.scrib_sweep.proofs.SweepSteps.{swept_world}
use Rattle.scrib_cli.specs.Requests.{RequestReply, OfStep, OfSweep, HasMemory, IsRequestAnswered, AnswersRequests}
use Rattle.scrib_script_reader.specs.Entries.{SpellsEntries, entry_items, entry_list}
use Rattle.scrib_script_reader.specs.Positions.{Holds, TakesEntries, TakesFrontEntries, EndGives}
use Rattle.scrib_script_reader.proofs.PositionLemmas.{items_more}
use Rattle.scrib_script_reader.proofs.ScriptLemmas.{entries_none, more_entries, all_entries}
use Rattle.scrib_script_io.proofs.WriterLemmas.{consumes_none, consumes_more}
use Rattle.scrib_cli.proofs.RunLemmas.{answers_more, requests_more}
use Rattle.scrib_show.specs.declared.line_monitor.LineMonitor.{LineMonitor}
use Rattle.scrib_show.specs.declared.show_run.ShowRun.{ShowRun}
use Rattle.scrib_show.specs.EventLines.{lines_after, event_lines, HasEventFor}
use Rattle.scrib_show.specs.Progress.{KeepsLines, Takes, AreEventLines, HasFollowed, IsPaired, IsNewRun, FollowsBytes, FollowsFront, IsRead, FollowsEnd, HasReadScript}
use Rattle.scrib_show.proofs.SplitLemmas.{none_left}
use Rattle.scrib_show.proofs.EntryLineLemmas.{Asks, IsPut, numbered_item, numbered_same}
use Rattle.scrib_show.proofs.PairLemmas.{pairs_step}

-- a reply for each request
answers_length : (w v : State) (ss : List Request) (rs : List RequestReply) → AnswersRequests w ss rs v → length rs ≡ length ss
answers_length w v [] [] a = refl
answers_length w v [] (r ∷ rs) a = absurd a
answers_length w v (s ∷ ss) [] a = absurd a
answers_length w v (s ∷ ss) (r ∷ rs) a = ap suc (answers_length a.0 v ss rs a.2)

-- the reply to a put leaves the lines
put_lines : (w v : State) (id : ℕ) (so bytes : List ℕ) (s : Step) (r : Reply) → IsAnswered w s r v → s ≡ Put bytes → (n : ℕ) → lines_after id so n (OfStep r) ≡ so
put_lines w v id so bytes s r a e n = by r (subst (λ (t : Step). IsAnswered w t r v) e a)
  where
    by : (q : Reply) → IsAnswered w (Put bytes) q v → lines_after id so n (OfStep q) ≡ so
    by (reply.Refused f) b = refl
    by (reply.Edited f changes) b = refl
    by (reply.Profiled p) b = refl
    by (reply.Opened i name) b = absurd b.replies
    by (reply.Noted i place verdict) b = absurd b.replies
    by (reply.Judged i name events verdict) b = refl
    by (reply.Closed i name events verdict complete) b = refl

-- the whole script is read
numbered_whole : (id : ℕ) (seen : List ℕ) (entries : List Entry) (replies : List RequestReply) (numbers : List ℕ) → AreEventLines id (seen ++ []) entries replies numbers
    → (d : SpellsEntries 1 None (lines seen) entries) → event_lines id d replies [] ≡ numbers
numbered_whole id seen entries replies numbers known =
    let goal = λ (ls : List (List ℕ)) (es : List Entry). (d : SpellsEntries 1 None ls es) → event_lines id d replies [] ≡ numbers in
    let all : (seen ++ []) ++ [] ≡ seen = append-nil (seen ++ []) ∙ append-nil seen in
    let at_lines : goal (lines seen) (entries ++ []) = subst (λ (u : List ℕ). goal (lines u) (entries ++ [])) all (known [] []) in
    subst (λ (es : List Entry). goal (lines seen) es) (append-nil entries) at_lines

-- What a run made with one entry more.
pub record Further (seen : List ℕ) (entries : List Entry) (new : LineMonitor) : Type 0 where
  pub replies : List RequestReply
  pub answered : AnswersRequests initial (requests_of (entry_items entries)) replies (state_of new.core)
  pub made : All HasMemory replies
  pub numbered : (front : List ℕ) → AreEventLines new.id (seen ++ front) entries replies new.numbers.items

steps_further : (entries next : List Entry) → requests_of (entry_items (entries ++ next)) ≡ requests_of (entry_items entries) ++ requests_of (entry_items next)
steps_further entries next = ap requests_of (items_more entries next) ∙ requests_more (entry_items entries) (entry_items next)

module _ (m : Limits) (old : ShowRun) (new : LineMonitor) (seen : List ℕ) (h : HasFollowed m old seen) (id_is : new.id ≡ old.monitor.id) where
  further_kept : (e : Entry) → requests_of (entry_items (e ∷ [])) ≡ [] → KeepsLines old.monitor new → Further seen (h.entries ++ e ∷ []) new
  further_kept e none keeps =
      let steps : requests_of (entry_items (h.entries ++ e ∷ [])) ≡ requests_of (entry_items h.entries) =
      steps_further h.entries (e ∷ []) ∙ ap (λ (ss : List Request). requests_of (entry_items h.entries) ++ ss) none ∙ append-nil (requests_of (entry_items h.entries)) in
      record {
        replies = h.replies;
        answered = subst (λ (ss : List Request). AnswersRequests initial ss h.replies (state_of new.core)) (sym steps) (subst (λ (s : State). AnswersRequests initial (requests_of (entry_items h.entries)) h.replies s) (sym keeps.state) h.answered);
        made = h.made;
        numbered = λ front.
            subst (λ (ns : List ℕ). AreEventLines new.id (seen ++ front) (h.entries ++ e ∷ []) h.replies ns) (sym keeps.numbers)
            (subst (λ (i : ℕ). AreEventLines i (seen ++ front) (h.entries ++ e ∷ []) h.replies old.monitor.numbers.items) (sym id_is)
            (numbered_same old.monitor.id seen front h.entries (e ∷ []) h.replies old.monitor.numbers.items h.numbered));
      }

  further_item : (i : Item) (request : Request) (r : RequestReply) → requests_of (i ∷ []) ≡ request ∷ [] → Asks i
      → ((bytes : List ℕ) → IsPut i bytes → (n : ℕ) → lines_after old.monitor.id old.monitor.numbers.items n r ≡ old.monitor.numbers.items)
      → ((f : Format) → i ≡ item.Sweep f → (n : ℕ) → lines_after old.monitor.id old.monitor.numbers.items n r ≡ old.monitor.numbers.items)
      → IsRequestAnswered (state_of old.monitor.core) request r (state_of new.core) → HasMemory r
      → new.numbers.items ≡ lines_after old.monitor.id old.monitor.numbers.items (old.script.lines + 1) r → Further seen (h.entries ++ entry.Item i ∷ []) new
  further_item i request r is asks put swept answered memory numbers =
      let e = entry.Item i in
      let requests : requests_of (entry_items (h.entries ++ e ∷ [])) ≡ requests_of (entry_items h.entries) ++ request ∷ [] =
      steps_further h.entries (e ∷ []) ∙ ap (λ (ss : List Request). requests_of (entry_items h.entries) ++ ss) is in
      let lengths = answers_length initial (state_of old.monitor.core) (requests_of (entry_items h.entries)) h.replies h.answered in
      record {
        replies = h.replies ++ r ∷ [];
        answered = subst (λ (ss : List Request). AnswersRequests initial ss (h.replies ++ r ∷ []) (state_of new.core)) (sym requests)
            (answers_more initial (state_of old.monitor.core) (state_of new.core) (requests_of (entry_items h.entries)) (request ∷ []) h.replies (r ∷ []) h.answered (state_of new.core, answered, refl));
        made = All-append HasMemory h.replies (r ∷ []) h.made (All-cons HasMemory r [] memory (All-nil HasMemory));
        numbered = λ front.
            subst (λ (ns : List ℕ). AreEventLines new.id (seen ++ front) (h.entries ++ e ∷ []) (h.replies ++ r ∷ []) ns) (sym numbers)
            (subst (λ (j : ℕ). AreEventLines j (seen ++ front) (h.entries ++ e ∷ []) (h.replies ++ r ∷ []) (lines_after old.monitor.id old.monitor.numbers.items (old.script.lines + 1) r)) (sym id_is)
            (numbered_item old.monitor.id m old.script seen h.entries h.read h.replies old.monitor.numbers.items lengths i asks r put swept front h.numbered));
      }

  same_step : (f g : Format) (s t : Step) → item.Step f s ≡ item.Step g t → s ≡ t
  same_step f g s t e = cc

  no_sweep : (f g : Format) (s : Step) → item.Step f s ≡ item.Sweep g → ⊥
  no_sweep f g s e = cc

  no_put : (f g : Format) (s : Step) → item.Sweep f ≡ item.Step g s → ⊥
  no_put f g s e = cc

  pub further : (e : Entry) → Takes old.monitor new (old.script.lines + 1) e → Further seen (h.entries ++ e ∷ []) new
  further (entry.Item (item.Step f s)) t =
      further_item (item.Step f s) (ToMake s) (OfStep t.0) refl tt
      (λ bytes put n. put_lines (state_of old.monitor.core) (state_of new.core) old.monitor.id old.monitor.numbers.items bytes s t.0 t.1 (same_step f put.0 s (Put bytes) put.1) n)
      (λ g e n. absurd (no_sweep f g s e))
      t.1 t.2 t.3
  further (entry.Item (item.Sweep f)) t =
      further_item (item.Sweep f) ToSweep (OfSweep t.0) refl tt
      (λ bytes put n. absurd (no_put f put.0 (Put bytes) put.1)) (λ g e n. refl) t.1 t.2 t.3
  further (entry.Item (item.BadLine n)) t = further_kept (entry.Item (item.BadLine n)) refl t
  further (entry.Item item.EndOfText) t = further_kept (entry.Item item.EndOfText) refl t
  further entry.Skipped t = further_kept entry.Skipped refl t

-- the kept lines stay paired
pairs_same : (old new : LineMonitor) → new.id ≡ old.id → KeepsLines old new → IsPaired old → IsPaired new
pairs_same old new id_is k p =
    subst (λ (ns : List ℕ). HasEventFor (state_of new.core).world new.id ns) (sym k.numbers)
    (subst (λ (i : ℕ). HasEventFor (state_of new.core).world i old.numbers.items) (sym id_is)
    (subst (λ (s : State). HasEventFor s.world old.id old.numbers.items) (sym k.state) p))

pub pairs_taken : (old new : LineMonitor) (n : ℕ) (e : Entry) → new.id ≡ old.id → Takes old new n e → IsPaired old → IsPaired new
pairs_taken old new n (entry.Item (item.Step f s)) id_is t p =
    subst (λ (ns : List ℕ). HasEventFor (state_of new.core).world new.id ns) (sym t.3)
    (subst (λ (i : ℕ). HasEventFor (state_of new.core).world i (lines_after old.id old.numbers.items n (OfStep t.0))) (sym id_is)
    (pairs_step old.id n old.numbers.items (state_of old.core) (state_of new.core) s t.0 t.1 p))
pairs_taken old new n (entry.Item (item.Sweep f)) id_is t p =
    subst (λ (ns : List ℕ). HasEventFor (state_of new.core).world new.id ns) (sym t.3)
    (subst (λ (i : ℕ). HasEventFor (state_of new.core).world i old.numbers.items) (sym id_is)
    (subst (λ (w : World). HasEventFor w old.id old.numbers.items) (sym (swept_world (state_of old.core) (state_of new.core) t.0 t.1)) p))
pairs_taken old new n (entry.Item (item.BadLine k)) id_is t p = pairs_same old new id_is t p
pairs_taken old new n (entry.Item item.EndOfText) id_is t p = pairs_same old new id_is t p
pairs_taken old new n entry.Skipped id_is t p = pairs_same old new id_is t p

-- a run before its first byte
pub new_run : (m : Limits) (id : ℕ) (run : ShowRun) → Holds run.script None [] → run.script.lines ≡ 0 → run.script.bytes ≡ 0 → run.script.limits ≡ m
    → state_of run.monitor.core ≡ initial → run.monitor.id ≡ id → run.monitor.numbers.items ≡ [] → IsNewRun m id run
new_run m id run holds no_lines no_bytes limits state id_is none = record {
  id_is = id_is;
  paired = subst (λ (s : State). HasEventFor s.world run.monitor.id run.monitor.numbers.items) (sym state) (λ c e. cc);
  followed = record {
    entries = [];
    replies = [];
    read = entries_none m run.script holds no_lines no_bytes limits;
    answered = state;
    made = All-nil HasMemory;
    numbered = λ more rest d. none_left run.monitor.id [] d ∙ sym none;
  };
}

-- nothing is consumed
pub follows_none : (run : ShowRun) → FollowsBytes run run []
follows_none run = record {
  id_is = refl;
  pairs = λ p. p;
  goes = λ m seen h. subst (λ (u : List ℕ). HasFollowed m run u) (sym (append-nil seen)) h;
}

pub follows_more : (a b c : ShowRun) (x y : List ℕ) → FollowsBytes a b x → FollowsBytes b c y → FollowsBytes a c (x ++ y)
follows_more a b c x y f g = record {
  id_is = g.id_is ∙ f.id_is;
  pairs = λ p. g.pairs (f.pairs p);
  goes = λ m seen h. subst (λ (u : List ℕ). HasFollowed m c u) (append_assoc seen x y) (g.goes m (seen ++ x) (f.goes m seen h));
}

-- bytes that give no entry
follows_unended : (old : ShowRun) (script : Script) (front : List ℕ) → TakesEntries old.script script front [] → FollowsBytes old (record old { script = script }) front
follows_unended old script front t = record {
  id_is = refl;
  pairs = λ p. p;
  goes = λ m seen h. record {
    entries = h.entries ++ [];
    replies = h.replies;
    read = more_entries m old.script script seen front h.entries [] h.read t;
    answered = subst (λ (es : List Entry). AnswersRequests initial (requests_of (entry_items es)) h.replies (state_of old.monitor.core)) (sym (append-nil h.entries)) h.answered;
    made = h.made;
    numbered = numbered_same old.monitor.id seen front h.entries [] h.replies old.monitor.numbers.items h.numbered;
  };
}

pub front_unended : (old : ShowRun) (script : Script) (piece rest : List ℕ) (o : Option Entry) → o ≡ None → TakesFrontEntries old.script script piece rest (entry_list o) → FollowsFront old (record old { script = script }) piece rest
front_unended old script piece rest o e t =
    let none : TakesFrontEntries old.script script piece rest [] = subst (λ (q : Option Entry). TakesFrontEntries old.script script piece rest (entry_list q)) e t in
    record { front = none.0; is = none.1; went = follows_unended old script none.0 none.2 }

-- bytes that give an entry
follows_entry : (old : ShowRun) (script : Script) (new : LineMonitor) (front : List ℕ) (e : Entry) → TakesEntries old.script script front (e ∷ []) → new.id ≡ old.monitor.id → Takes old.monitor new (old.script.lines + 1) e
    → FollowsBytes old (record { script = script; monitor = new }) front
follows_entry old script new front e t id_is took = record {
  id_is = id_is;
  pairs = pairs_taken old.monitor new (old.script.lines + 1) e id_is took;
  goes = λ m seen h.
      let f = further m old new seen h id_is e took in
      record {
        entries = h.entries ++ e ∷ [];
        replies = f.replies;
        read = more_entries m old.script script seen front h.entries (e ∷ []) h.read t;
        answered = f.answered;
        made = f.made;
        numbered = f.numbered front;
      };
}

pub front_entry : (old : ShowRun) (script : Script) (new : LineMonitor) (piece rest : List ℕ) (o : Option Entry) (e : Entry) → o ≡ Some e → TakesFrontEntries old.script script piece rest (entry_list o)
    → new.id ≡ old.monitor.id → Takes old.monitor new (old.script.lines + 1) e → FollowsFront old (record { script = script; monitor = new }) piece rest
front_entry old script new piece rest o e is t id_is took =
    let one : TakesFrontEntries old.script script piece rest (e ∷ []) = subst (λ (q : Option Entry). TakesFrontEntries old.script script piece rest (entry_list q)) is t in
    record { front = one.0; is = one.1; went = follows_entry old script new one.0 e one.2 id_is took }

-- the end of the script
pub end_none : (old : ShowRun) (script : Script) (o : Option Entry) → o ≡ None → EndGives old.script (entry_list o) → FollowsEnd old (record old { script = script })
end_none old script o e gives = record {
  id_is = refl;
  pairs = λ p. p;
  so = λ m seen h.
      let none : EndGives old.script [] = subst (λ (q : Option Entry). EndGives old.script (entry_list q)) e gives in
      let spelled = subst (λ (es : List Entry). SpellsEntries 1 None (lines seen) es) (append-nil h.entries) (all_entries m old.script seen h.entries [] h.read none) in
      let known : AreEventLines old.monitor.id (seen ++ []) h.entries h.replies old.monitor.numbers.items =
      subst (λ (u : List ℕ). AreEventLines old.monitor.id u h.entries h.replies old.monitor.numbers.items) (sym (append-nil seen)) h.numbered in
      record {
        entries = h.entries;
        replies = h.replies;
        spelled = spelled;
        answered = h.answered;
        made = h.made;
        numbers_are = numbered_whole old.monitor.id seen h.entries h.replies old.monitor.numbers.items known spelled;
        within = h.read.within;
      };
}

pub end_entry : (old : ShowRun) (script : Script) (new : LineMonitor) (o : Option Entry) (e : Entry) → o ≡ Some e → EndGives old.script (entry_list o) → new.id ≡ old.monitor.id → Takes old.monitor new (old.script.lines + 1) e
    → FollowsEnd old (record { script = script; monitor = new })
end_entry old script new o e is gives id_is took = record {
  id_is = id_is;
  pairs = pairs_taken old.monitor new (old.script.lines + 1) e id_is took;
  so = λ m seen h.
      let f = further m old new seen h id_is e took in
      let one : EndGives old.script (e ∷ []) = subst (λ (q : Option Entry). EndGives old.script (entry_list q)) is gives in
      let spelled = all_entries m old.script seen h.entries (e ∷ []) h.read one in
      record {
        entries = h.entries ++ e ∷ [];
        replies = f.replies;
        spelled = spelled;
        answered = f.answered;
        made = f.made;
        numbers_are = subst (λ (i : ℕ). event_lines i spelled f.replies [] ≡ new.numbers.items) id_is (numbered_whole new.id seen (h.entries ++ e ∷ []) f.replies new.numbers.items (f.numbered []) spelled);
        within = h.read.within;
      };
}
