-- What a monitor behind a stage has given, where its sink replies.
use Rattle.std.proofs.Common.{◌≡◌, ◌∙◌, ℕ, List, [], ◌∷◌, ◌++◌, Option, Some, None, inr, refl, sym, ap, subst}
use Rattle.std.proofs.lemmas.List.{append_assoc, append-nil}
use Rattle.scrib_types.specs.declared.event.Event.{Event}
use Rattle.scrib_core.specs.Answers.{State, initial}
use Rattle.scrib_core.specs.Held.{state_of}
use Rattle.scrib_core.specs.declared.format.Format.{Format}
use Rattle.scrib_core.specs.declared.format.Format.TheVariants.{Line}
use Rattle.scrib_core.specs.declared.step.Step.TheVariants.{Note}
use Rattle.scrib_script_reader.specs.declared.item.Item.{Item}
use Rattle.scrib_script_reader.specs.declared.item.Item.TheVariants as item
use Rattle.scrib_script_reader.specs.declared.entry.Entry.{Entry}
use Rattle.scrib_script_reader.specs.declared.short_line.ShortLine.TheVariants as short
use Rattle.scrib_script_reader.specs.Scripts.{Request, requests_of, item_list}
use Rattle.scrib_hold_stage.specs.declared.stage.Counts.{Counts}
use Rattle.scrib_cli.specs.declared.output_mode.OutputMode.TheVariants.{Printed}
use Rattle.scrib_cli.specs.Requests.{AnswersRequests}
use Rattle.scrib_cli.specs.Scripts.{written}
use Rattle.scrib_cli.specs.Progress.{IsCarriedOut, IsShortCarriedOut, WasCarriedOut}
use Rattle.scrib_cli.proofs.RunLemmas.{answers_more, requests_more, written_more, does_shown, does_answers}
use Rattle.scrib_hold.specs.declared.held_monitor.HeldMonitor.{HeldMonitor}
use Rattle.scrib_hold.specs.declared.replies.Replies.{Replies}
use Rattle.scrib_hold.specs.HeldScripts.{AreLetOut, IsOutputOf, IsBeginningOf}
use Rattle.scrib_hold.specs.NumberedItems.{Numbered, items_in, AreFirstItems, AreAllItems}
use Rattle.scrib_hold.specs.Sinks.{CarriesOut, GathersItem}
use Rattle.scrib_hold.specs.HeldMonitors.{HasTaken, TakesEntry, FailsAtEntry, Ends, EndFails}
use Rattle.scrib_hold.specs.Replies.{AreCarriedOut, IsReplied}
use Rattle.scrib_hold.specs.Progress.{HasGiven}
use Rattle.scrib_hold.proofs.NumberedLemmas.{items_more, are_held, are_let_out, let_out_further, first_none}
use Rattle.scrib_hold.proofs.MonitorLemmas.{taken_over, begun}

-- the replies that are not written yet
abbrev pub gathered_in : Replies → List ℕ
gathered_in replies = replies.gathered.bytes.items

-- ---- items, one after another

carried_none : (o : Format) (w : State) (a : List ℕ) → AreCarriedOut o [] w w a a
carried_none o w a = ([], refl, sym (append-nil a))

carried_more : (o : Format) (xs ys : List Item) (w v u : State) (a b c : List ℕ) → AreCarriedOut o xs w v a b → AreCarriedOut o ys v u b c → AreCarriedOut o (xs ++ ys) w u a c
carried_more o xs ys w v u a b c p q = (
  p.0 ++ q.0,
  subst (λ (ss : List Request). AnswersRequests w ss (p.0 ++ q.0) u) (sym (requests_more xs ys)) (answers_more w v u (requests_of xs) (requests_of ys) p.0 q.0 p.1 q.1),
  q.2 ∙ ap (λ (t : List ℕ). t ++ written o ys q.0) p.2 ∙ append_assoc a (written o xs p.0) (written o ys q.0)
      ∙ ap (λ (t : List ℕ). a ++ t) (sym (written_more o xs ys p.0 q.0 w v p.1)),
)

-- the output of items does not depend on what was there before
carried_behind : (o p : Format) (items : List Item) (w v : State) (out before : List ℕ) → p ≡ o → AreCarriedOut p items w v [] out → AreCarriedOut o items w v before (before ++ out)
carried_behind o p items w v out before same c = (c.0, c.1, ap (λ (l : List ℕ). before ++ l) c.2 ∙ ap (λ (f : Format). before ++ written f items c.0) same)

-- an item whose reply was gathered
pub replied_item : (old new : Replies) (n : ℕ) (i : Item) → new.format ≡ old.format → IsCarriedOut (Printed old.format) i (state_of old.core) (state_of new.core) (Some (gathered_in old)) (Some (gathered_in new))
    → GathersItem IsReplied gathered_in old new n i
replied_item old new n i format d = (
  written old.format (i ∷ []) d.0,
  (format, (d.0, does_answers (Printed old.format) i (state_of old.core) (state_of new.core) d.0 d.1 d.2, refl)),
  d.3 ∙ ap (λ (t : List ℕ). gathered_in old ++ t) (does_shown (Printed old.format) i (state_of old.core) (state_of new.core) d.0 d.1 d.2),
)

-- an event whose line asks for no format
pub replied_event : (old new : Replies) (n id : ℕ) (e : Event) → new.format ≡ old.format
    → IsShortCarriedOut (Printed old.format) (short.Note id e) (state_of old.core) (state_of new.core) (Some (gathered_in old)) (Some (gathered_in new)) → GathersItem IsReplied gathered_in old new n (item.Step Line (Note id e))
replied_event old new n id e format d = by d.0 d.1 d.2
  where
    by : (found : Option Item) → item_list found ≡ item.Step Line (Note id e) ∷ [] → WasCarriedOut (Printed old.format) found (state_of old.core) (state_of new.core) (Some (gathered_in old)) (Some (gathered_in new))
        → GathersItem IsReplied gathered_in old new n (item.Step Line (Note id e))
    by None same done = absurd (cc)
    by (Some i) same done =
        let is : i ≡ item.Step Line (Note id e) = cc in
        subst (GathersItem IsReplied gathered_in old new n) is (replied_item old new n i format done)

-- items that were carried out from one state of a sink to another
replied_all : (old new : Replies) (numbered : List Numbered) (out : List ℕ) → CarriesOut IsReplied old new numbered out
    → (new.format ≡ old.format) × AreCarriedOut old.format (items_in numbered) (state_of old.core) (state_of new.core) [] out
replied_all old new [] out p = (
  ap (λ (r : Replies). r.format) p.0,
  subst (λ (r : Replies). AreCarriedOut old.format [] (state_of old.core) (state_of r.core) [] out) (sym p.0)
      (subst (λ (l : List ℕ). AreCarriedOut old.format [] (state_of old.core) (state_of old.core) [] l) (sym p.1) (carried_none old.format (state_of old.core) [])),
)
replied_all old new (x ∷ numbered) out p =
    let mid = p.0 in
    let rest = replied_all mid new numbered p.2 p.4 in
    let all = carried_more old.format (x.1 ∷ []) (items_in numbered) (state_of old.core) (state_of mid.core) (state_of new.core) [] p.1 (p.1 ++ p.2) p.3.1
    (carried_behind old.format mid.format (items_in numbered) (state_of mid.core) (state_of new.core) p.2 p.1 p.3.0 rest.1) in
    (rest.0 ∙ p.3.0, subst (AreCarriedOut old.format (x.1 ∷ items_in numbered) (state_of old.core) (state_of new.core) []) (sym p.5) all)

-- they come behind those of earlier entries
replied_further : (o : Format) (old left : Replies) (before numbered : List Numbered) (given out : List ℕ) → old.format ≡ o → AreCarriedOut o (items_in before) initial (state_of old.core) [] given → CarriesOut IsReplied old left numbered out
    → AreCarriedOut o (items_in (before ++ numbered)) initial (state_of left.core) [] (given ++ out)
replied_further o old left before numbered given out format c p =
    let all = replied_all old left numbered out p in
    subst (λ (l : List Item). AreCarriedOut o l initial (state_of left.core) [] (given ++ out)) (sym (items_more before numbered))
    (carried_more o (items_in before) (items_in numbered) initial (state_of old.core) (state_of left.core) [] given (given ++ out) c
    (carried_behind o old.format (items_in numbered) (state_of old.core) (state_of left.core) out given format all.1))

-- ---- beginnings of an output

-- the replies to some first items
beginning : (o : Format) (bound : ℕ) (entries : List Entry) (numbered : List Numbered) (v : State) (out : List ℕ) → AreFirstItems bound entries numbered → AreCarriedOut o (items_in numbered) initial v [] out → IsBeginningOf o bound entries out
beginning o bound entries numbered v out f c = record {
  first = f.first;
  later = f.later;
  items = items_in numbered;
  undone = items_in f.undone;
  replies = c.0;
  after = v;
  unwritten = [];
  entries_are = f.entries_are;
  let_out = subst (AreLetOut bound f.first f.later) (items_more numbered f.undone) (are_let_out bound f.first f.later (numbered ++ f.undone) f.let_out);
  answered = c.1;
  is = sym c.2 ∙ sym (append-nil out);
}

-- a beginning for some entries is one for more
pub begun_more : (o : Format) (bound : ℕ) (entries more : List Entry) (part : List ℕ) → IsBeginningOf o bound entries part → IsBeginningOf o bound (entries ++ more) part
begun_more o bound entries more part b = record {
  first = b.first;
  later = b.later ++ more;
  items = b.items;
  undone = b.undone;
  replies = b.replies;
  after = b.after;
  unwritten = b.unwritten;
  entries_are = ap (λ (l : List Entry). l ++ more) b.entries_are ∙ append_assoc b.first b.later more;
  let_out = let_out_further bound b.first b.later more (b.items ++ b.undone) b.let_out;
  answered = b.answered;
  is = b.is;
}

-- less of it is one
pub begun_less : (o : Format) (bound : ℕ) (entries : List Entry) (whole part rest : List ℕ) → whole ≡ part ++ rest → IsBeginningOf o bound entries whole → IsBeginningOf o bound entries part
begun_less o bound entries whole part rest is b = record {
  first = b.first;
  later = b.later;
  items = b.items;
  undone = b.undone;
  replies = b.replies;
  after = b.after;
  unwritten = rest ++ b.unwritten;
  entries_are = b.entries_are;
  let_out = b.let_out;
  answered = b.answered;
  is = b.is ∙ ap (λ (l : List ℕ). l ++ b.unwritten) is ∙ append_assoc part rest b.unwritten;
}

-- all of an output is a beginning of it
pub begun_whole : (o : Format) (bound : ℕ) (entries : List Entry) (counts : Counts) (output : List ℕ) → IsOutputOf o bound entries counts output → IsBeginningOf o bound entries output
begun_whole o bound entries counts output w = record {
  first = entries;
  later = [];
  items = w.items;
  undone = [];
  replies = w.replies;
  after = w.after;
  unwritten = [];
  entries_are = sym (append-nil entries);
  let_out = subst (λ (l : List Item). AreLetOut bound entries [] l) (sym (append-nil w.items)) (inr (w.expired, w.held));
  answered = w.answered;
  is = sym w.is ∙ sym (append-nil output);
}

-- nothing is a beginning of any output
pub begun_none : (o : Format) (bound : ℕ) (entries : List Entry) → IsBeginningOf o bound entries []
begun_none o bound entries = beginning o bound entries [] initial [] (first_none bound entries) (carried_none o initial [])

-- what a monitor has given is one
pub given_begun : (o : Format) (bound : ℕ) (m : HeldMonitor Replies) (entries later : List Entry) (out : List ℕ) → HasGiven o bound m entries out → IsBeginningOf o bound (entries ++ later) out
given_begun o bound m entries later out h = beginning o bound (entries ++ later) h.numbered (state_of m.sink.core) out (begun bound m entries later h.numbered h.taken) h.carried

-- ---- what a monitor has given

-- a new monitor
pub given_none : (o : Format) (bound : ℕ) (m : HeldMonitor Replies) → HasTaken bound m [] [] → m.sink.format ≡ o → state_of m.sink.core ≡ initial → HasGiven o bound m [] []
given_none o bound m taken format core = record {
  format = format;
  numbered = [];
  taken = taken;
  carried = subst (λ (w : State). AreCarriedOut o [] initial w [] []) (sym core) (carried_none o initial []);
}

-- it does not matter what is gathered
pub given_moved : (o : Format) (bound : ℕ) (m : HeldMonitor Replies) (s : Replies) (entries : List Entry) (out : List ℕ) → s.format ≡ m.sink.format → s.core ≡ m.sink.core → HasGiven o bound m entries out → HasGiven o bound (record m { sink = s }) entries out
given_moved o bound m s entries out format core h = record {
  format = format ∙ h.format;
  numbered = h.numbered;
  taken = taken_over bound m s entries h.numbered h.taken;
  carried = subst (λ (w : State). AreCarriedOut o (items_in h.numbered) initial w [] out) (ap state_of (sym core)) h.carried;
}

-- the entry was taken, and the output of what this lets out was gathered
pub record GivesEntry (old new : HeldMonitor Replies) (e : Entry) : Type 0 where
  pub out : List ℕ
  pub grows : gathered_in new.sink ≡ gathered_in old.sink ++ out
  pub after : (o : Format) (bound : ℕ) (entries : List Entry) (before : List ℕ) → HasGiven o bound old entries before → HasGiven o bound new (entries ++ e ∷ []) (before ++ out)

pub gives_entry : (old new : HeldMonitor Replies) (e : Entry) → TakesEntry IsReplied gathered_in old new e → GivesEntry old new e
gives_entry old new e t = record {
  out = t.gathers.0;
  grows = t.gathers.2;
  after = λ o bound entries before h. record {
    format = (replied_all old.sink new.sink t.numbered t.gathers.0 t.gathers.1).0 ∙ h.format;
    numbered = h.numbered ++ t.numbered;
    taken = t.after bound entries h.numbered h.taken;
    carried = replied_further o old.sink new.sink h.numbered t.numbered before t.gathers.0 h.format h.carried t.gathers.1;
  };
}

-- the entry failed, and a beginning was gathered
pub record GivesPart (old new : HeldMonitor Replies) (e : Entry) : Type 0 where
  pub out : List ℕ
  pub grows : gathered_in new.sink ≡ gathered_in old.sink ++ out
  pub after : (o : Format) (bound : ℕ) (entries : List Entry) (before : List ℕ) → HasGiven o bound old entries before → IsBeginningOf o bound (entries ++ e ∷ []) (before ++ out)

pub gives_part : (old new : HeldMonitor Replies) (e : Entry) → FailsAtEntry IsReplied gathered_in old new e → GivesPart old new e
gives_part old new e f = record {
  out = f.fails.1;
  grows = f.fails.3;
  after = λ o bound entries before h.
      beginning o bound (entries ++ e ∷ []) (h.numbered ++ f.numbered) (state_of f.fails.0.core) (before ++ f.fails.1) (f.after bound entries h.numbered h.taken)
      (replied_further o old.sink f.fails.0 h.numbered f.numbered before f.fails.1 h.format h.carried f.fails.2);
}

-- the output of what waited at the end was gathered
pub record GivesEnd (old new : HeldMonitor Replies) (counts : Counts) : Type 0 where
  pub out : List ℕ
  pub grows : gathered_in new.sink ≡ gathered_in old.sink ++ out
  pub after : (o : Format) (bound : ℕ) (entries : List Entry) (before : List ℕ) → HasGiven o bound old entries before → IsOutputOf o bound entries counts (before ++ out)

pub gives_end : (old new : HeldMonitor Replies) (counts : Counts) → Ends IsReplied gathered_in old new counts → GivesEnd old new counts
gives_end old new counts t = record {
  out = t.gathers.0;
  grows = t.gathers.2;
  after = λ o bound entries before h. (let all = t.after bound entries h.numbered h.taken in
      let c = replied_further o old.sink new.sink h.numbered t.numbered before t.gathers.0 h.format h.carried t.gathers.1 in
      record {
        expired = all.expired;
        items = items_in (h.numbered ++ t.numbered);
        replies = c.0;
        after = state_of new.sink.core;
        held = are_held bound entries all.expired (h.numbered ++ t.numbered) all.held;
        events_counted = all.events_counted;
        expired_counted = all.expired_counted;
        answered = c.1;
        is = c.2;
      });
}

-- the end failed, and a beginning was gathered
pub record GivesEndPart (old new : HeldMonitor Replies) : Type 0 where
  pub out : List ℕ
  pub grows : gathered_in new.sink ≡ gathered_in old.sink ++ out
  pub after : (o : Format) (bound : ℕ) (entries : List Entry) (before : List ℕ) → HasGiven o bound old entries before → IsBeginningOf o bound entries (before ++ out)

pub gives_end_part : (old new : HeldMonitor Replies) → EndFails IsReplied gathered_in old new → GivesEndPart old new
gives_end_part old new f = record {
  out = f.fails.1;
  grows = f.fails.3;
  after = λ o bound entries before h.
      beginning o bound entries (h.numbered ++ f.numbered) (state_of f.fails.0.core) (before ++ f.fails.1) (f.after bound entries h.numbered h.taken)
      (replied_further o old.sink f.fails.0 h.numbered f.numbered before f.fails.1 h.format h.carried f.fails.2);
}
