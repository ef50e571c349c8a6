-- What a run has written at a position of its script, and where it fails.
use Rattle.std.proofs.Common.{◌≡◌, ℕ, true, List, [], ◌∷◌, ◌++◌, ◌∙◌, Option, Some, None, length, rules, refl, sym, ap, subst, arith, eqb}
use Rattle.std.specs.Prelude.{All}
use Rattle.std.specs.Io.KnownBytes.{Appends}
use Rattle.std.proofs.lemmas.Bool.{eqb-true}
use Rattle.std.proofs.lemmas.List.{append_assoc, append-nil}
use Rattle.std.proofs.lemmas.List.Elements.{All-nil, All-cons, All-append}
use Rattle.scrib_core.specs.declared.step.Step.{Step}
use Rattle.scrib_core.specs.declared.step.Step.TheVariants.{Put, Withdraw, Open, Note, Turn, Ask, Close}
use Rattle.scrib_core.specs.declared.step.Step.TheVariants as step
use Rattle.scrib_core.specs.declared.reply.Reply.TheVariants.{Refused}
use Rattle.scrib_core.specs.declared.reply.Refusal.TheVariants.{OutOfMemory}
use Rattle.scrib_core.specs.World.{World, Refuses}
use Rattle.scrib_core.specs.Answers.{State, initial}
use Rattle.scrib_core.specs.Held.{state_of}
use Rattle.scrib_core.specs.declared.format.Format.{Format}
use Rattle.scrib_script_reader.specs.declared.item.Item.{Item}
use Rattle.scrib_script_reader.specs.declared.item.Item.TheVariants as item
use Rattle.scrib_script_reader.specs.declared.script.Script.{Script}
use Rattle.scrib_script_reader.specs.Scripts.{Request, ToMake, ToSweep, Spells, lines, requests_of, item_list}
use Rattle.scrib_script_reader.specs.Positions.{Holds, TakesBytes, TakesFront, PassesLimits, EndSpells, HasConsumed}
use Rattle.scrib_script_reader.specs.declared.limits.Limits.{Limits}
use Rattle.scrib_script_reader.specs.Limits.{IsPast}
use Rattle.scrib_script_reader.proofs.PositionLemmas.{are_spelled}
use Rattle.scrib_script_reader.proofs.ScriptLemmas.{read_none, read_more, read_all, read_first, read_past}
use Rattle.scrib_cli.specs.declared.run.ScriptRun.{ScriptRun}
use Rattle.scrib_cli.specs.declared.output_mode.OutputMode.{OutputMode}
use Rattle.scrib_cli.specs.declared.output_mode.OutputMode.TheVariants.{Printed, Silent}
use Rattle.scrib_report.specs.ReplyTexts.{bad_line, end_of_text, reply_format}
use Rattle.scrib_sweep.proofs.SweepSteps.{sweep_none}
use Rattle.scrib_cli.specs.Requests.{RequestReply, OfStep, OfSweep, request_reply_text, AnswersRequests}
use Rattle.scrib_cli.specs.Scripts.{written}
use Rattle.scrib_cli.specs.Progress.{IsPartOutput, RunFailsOn, RunFails, HasProgressed, IsNew, RunAdvances, PieceFails, PassesLimitIn, EndSucceeds, EndFails, ItemDoes, IsCarriedOut, WasCarriedOut, shown_bytes, items_shown, output_format, reply_shown, GoesOn}
use Rattle.scrib_script_io.specs.Writes.{AppendsPart}
use Rattle.scrib_script_io.proofs.WriterLemmas.{appends_none, appends_more}

-- any step may be refused memory
pub refuses_memory : (w : World) (s : Step) → Refuses w s OutOfMemory
refuses_memory w (Put text) = tt
refuses_memory w (Withdraw name) = tt
refuses_memory w (step.Profile p) = tt
refuses_memory w (Open id name) = tt
refuses_memory w (Note id e) = tt
refuses_memory w (Turn id) = tt
refuses_memory w (Ask id) = tt
refuses_memory w (Close id) = tt

-- any requests have replies, by which each is refused memory
abbrev pub refused : List Request → List RequestReply
refused [] = []
refused (ToMake s ∷ ss) = OfStep (Refused OutOfMemory) ∷ refused ss
refused (ToSweep ∷ ss) = OfSweep None ∷ refused ss

answers_refused : (w : State) (ss : List Request) → AnswersRequests w ss (refused ss) w
answers_refused w [] = refl
answers_refused w (ToMake s ∷ ss) = (w, (refuses_memory w.world s, refl), answers_refused w ss)
answers_refused w (ToSweep ∷ ss) = (w, (0, sweep_none w), answers_refused w ss)

pub answers_more : (w v u : State) (ss ts : List Request) (rs qs : List RequestReply) → AnswersRequests w ss rs v → AnswersRequests v ts qs u → AnswersRequests w (ss ++ ts) (rs ++ qs) u
answers_more w v u [] ts [] qs a b = subst (λ (x : State). AnswersRequests x ts qs u) a b
answers_more w v u [] ts (r ∷ rs) qs a b = absurd a
answers_more w v u (s ∷ ss) ts [] qs a b = absurd a
answers_more w v u (s ∷ ss) ts (r ∷ rs) qs a b = (a.0, a.1, answers_more a.0 v u ss ts rs qs a.2 b)

pub requests_more : (items more : List Item) → requests_of (items ++ more) ≡ requests_of items ++ requests_of more
requests_more [] more = refl
requests_more (item.Step f s ∷ items) more = ap (λ (ss : List Request). ToMake s ∷ ss) (requests_more items more)
requests_more (item.Sweep f ∷ items) more = ap (λ (ss : List Request). ToSweep ∷ ss) (requests_more items more)
requests_more (item.BadLine n ∷ items) more = requests_more items more
requests_more (item.EndOfText ∷ items) more = requests_more items more

pub written_more : (o : Format) (items more : List Item) (rs qs : List RequestReply) (w v : State) → AnswersRequests w (requests_of items) rs v
    → written o (items ++ more) (rs ++ qs) ≡ written o items rs ++ written o more qs
written_more o [] more [] qs w v a = refl
written_more o [] more (r ∷ rs) qs w v a = absurd a
written_more o (item.Step f s ∷ items) more [] qs w v a = absurd a
written_more o (item.Step f s ∷ items) more (r ∷ rs) qs w v a =
    let text = request_reply_text (reply_format o f) r in
    ap (λ (u : List ℕ). text ++ u) (written_more o items more rs qs a.0 v a.2) ∙ sym (append_assoc text (written o items rs) (written o more qs))
written_more o (item.Sweep f ∷ items) more [] qs w v a = absurd a
written_more o (item.Sweep f ∷ items) more (r ∷ rs) qs w v a =
    let text = request_reply_text (reply_format o f) r in
    ap (λ (u : List ℕ). text ++ u) (written_more o items more rs qs a.0 v a.2) ∙ sym (append_assoc text (written o items rs) (written o more qs))
written_more o (item.BadLine n ∷ items) more rs qs w v a =
    let text = bad_line o n in
    ap (λ (u : List ℕ). text ++ u) (written_more o items more rs qs w v a) ∙ sym (append_assoc text (written o items rs) (written o more qs))
written_more o (item.EndOfText ∷ items) more rs qs w v a =
    let text = end_of_text o in
    ap (λ (u : List ℕ). text ++ u) (written_more o items more rs qs w v a) ∙ sym (append_assoc text (written o items rs) (written o more qs))

shown_both : (t : OutputMode) (a b : List ℕ) → shown_bytes t (a ++ b) ≡ shown_bytes t a ++ shown_bytes t b
shown_both (Printed o) a b = refl
shown_both Silent a b = refl

shown_none : (t : OutputMode) → [] ≡ shown_bytes t []
shown_none (Printed o) = refl
shown_none Silent = refl

pub items_shown_more : (t : OutputMode) (items more : List Item) (rs qs : List RequestReply) (w v : State) → AnswersRequests w (requests_of items) rs v
    → items_shown t (items ++ more) (rs ++ qs) ≡ items_shown t items rs ++ items_shown t more qs
items_shown_more t items more rs qs w v a =
    let o = output_format t in
    ap (shown_bytes t) (written_more (output_format t) items more rs qs w v a) ∙ shown_both t (written o items rs) (written o more qs)

-- what is written for an item is what is written for the list of it
pub does_shown : (t : OutputMode) (i : Item) (w v : State) (rs : List RequestReply) (out : List ℕ) → ItemDoes t i w rs v out → out ≡ items_shown t (i ∷ []) rs
does_shown t (item.Step f s) w v rs out d =
    let text = request_reply_text (reply_format (output_format t) f) (OfStep d.0) in
    let one : items_shown t (item.Step f s ∷ []) (OfStep d.0 ∷ []) ≡ reply_shown t f (OfStep d.0) = ap (shown_bytes t) (append-nil text) in
    d.4 ∙ sym one ∙ ap (items_shown t (item.Step f s ∷ [])) (sym d.1)
does_shown t (item.Sweep f) w v rs out d =
    let text = request_reply_text (reply_format (output_format t) f) (OfSweep d.0) in
    let one : items_shown t (item.Sweep f ∷ []) (OfSweep d.0 ∷ []) ≡ reply_shown t f (OfSweep d.0) = ap (shown_bytes t) (append-nil text) in
    d.4 ∙ sym one ∙ ap (items_shown t (item.Sweep f ∷ [])) (sym d.1)
does_shown t (item.BadLine n) w v rs out d = d.2 ∙ ap (shown_bytes t) (sym (append-nil (bad_line (output_format t) n)))
does_shown t item.EndOfText w v rs out d = d.2 ∙ ap (shown_bytes t) (sym (append-nil (end_of_text (output_format t))))

pub does_answers : (t : OutputMode) (i : Item) (w v : State) (rs : List RequestReply) (out : List ℕ) → ItemDoes t i w rs v out → AnswersRequests w (requests_of (i ∷ [])) rs v
does_answers t (item.Step f s) w v rs out d = subst (λ (qs : List RequestReply). AnswersRequests w (ToMake s ∷ []) qs v) (sym d.1) (v, d.2, refl)
does_answers t (item.Sweep f) w v rs out d = subst (λ (qs : List RequestReply). AnswersRequests w (ToSweep ∷ []) qs v) (sym d.1) (v, d.2, refl)
does_answers t (item.BadLine n) w v rs out d = subst (λ (qs : List RequestReply). AnswersRequests w [] qs v) (sym d.0) d.1
does_answers t item.EndOfText w v rs out d = subst (λ (qs : List RequestReply). AnswersRequests w [] qs v) (sym d.0) d.1

does_go_on : (t : OutputMode) (i : Item) (w v : State) (rs : List RequestReply) (out : List ℕ) → ItemDoes t i w rs v out → All (GoesOn t) rs
does_go_on t (item.Step f s) w v rs out d = subst (λ (qs : List RequestReply). All (GoesOn t) qs) (sym d.1) (All-cons (GoesOn t) (OfStep d.0) [] d.3 (All-nil (GoesOn t)))
does_go_on t (item.Sweep f) w v rs out d = subst (λ (qs : List RequestReply). All (GoesOn t) qs) (sym d.1) (All-cons (GoesOn t) (OfSweep d.0) [] d.3 (All-nil (GoesOn t)))
does_go_on t (item.BadLine n) w v rs out d = subst (λ (qs : List RequestReply). All (GoesOn t) qs) (sym d.0) (All-nil (GoesOn t))
does_go_on t item.EndOfText w v rs out d = subst (λ (qs : List RequestReply). All (GoesOn t) qs) (sym d.0) (All-nil (GoesOn t))

-- What was written for some items, which led to a state.
record WrittenFor (t : OutputMode) (items : List Item) (v : State) (out : List ℕ) : Type 0 where
  pub replies : List RequestReply
  pub answered : AnswersRequests initial (requests_of items) replies v
  pub goes_on : All (GoesOn t) replies
  pub is : out ≡ items_shown t items replies

written_further : (t : OutputMode) (items : List Item) (i : Item) (w v : State) (replies rs : List RequestReply) (x out : List ℕ)
    → AnswersRequests initial (requests_of items) replies w → All (GoesOn t) replies → x ≡ items_shown t items replies → ItemDoes t i w rs v out → WrittenFor t (items ++ i ∷ []) v (x ++ out)
written_further t items i w v replies rs x out answered on is d = record {
  replies = replies ++ rs;
  answered = subst (λ (ss : List Request). AnswersRequests initial ss (replies ++ rs) v) (sym (requests_more items (i ∷ [])))
      (answers_more initial w v (requests_of items) (requests_of (i ∷ [])) replies rs answered (does_answers t i w v rs out d));
  goes_on = All-append (GoesOn t) replies rs on (does_go_on t i w v rs out d);
  is = ap (λ (u : List ℕ). u ++ out) is ∙ ap (λ (u : List ℕ). items_shown t items replies ++ u) (does_shown t i w v rs out d) ∙ sym (items_shown_more t items (i ∷ []) replies rs initial w answered);
}

-- the progress of a run, one item further
progressed_item : (m : Limits) (t : OutputMode) (old new : ScriptRun) (seen more : List ℕ) (i : Item) (w0 w w' : Option (List ℕ)) → (c : HasProgressed m t old seen w0 w) → new.output_mode ≡ old.output_mode
    → HasConsumed m new.script (seen ++ more) (c.items ++ i ∷ []) → IsCarriedOut t i (state_of old.core) (state_of new.core) w w' → HasProgressed m t new (seen ++ more) w0 w'
progressed_item m t old new seen more i w0 w w' c output_mode read it =
    let x = items_shown t c.items c.replies in
    let further = written_further t c.items i (state_of old.core) (state_of new.core) c.replies it.0 x it.1 c.answered c.goes_on refl it.2 in
    record {
      output_mode = output_mode ∙ c.output_mode;
      items = c.items ++ i ∷ [];
      replies = further.replies;
      read = read;
      answered = further.answered;
      goes_on = further.goes_on;
      appends = subst (λ (u : List ℕ). Appends w0 w' u) further.is (appends_more w0 w w' x it.1 c.appends it.3);
    }

all_go_on : (o : Format) (qs : List RequestReply) → All (GoesOn (Printed o)) qs
all_go_on o [] = All-nil (GoesOn (Printed o))
all_go_on o (q ∷ qs) = All-cons (GoesOn (Printed o)) q qs tt (all_go_on o qs)

none_before : (part after : List ℕ) → part ++ after ≡ [] → part ≡ []
none_before [] after e = refl
none_before (b ∷ part) after e = cc

-- What is written for some items is a prefix of an output of each script that spells these items first.
short_first : (t : OutputMode) (input part : List ℕ) (items rest : List Item) (v : State) (out end : List ℕ) → WrittenFor t items v out → out ≡ part ++ end
    → Spells 1 None (lines input) (items ++ rest) → IsPartOutput t input part
short_first (Printed o) input part items rest v out end h e spelled =
    let qs = refused (requests_of rest) in
    let after = items_shown (Printed o) rest qs in
    record {
      after = v;
      output = items_shown (Printed o) (items ++ rest) (h.replies ++ qs);
      rest = end ++ after;
      whole = record {
        items = items ++ rest;
        replies = h.replies ++ qs;
        spelled = spelled;
        answered = subst (λ (ss : List Request). AnswersRequests initial ss (h.replies ++ refused (requests_of rest)) v) (sym (requests_more items rest))
            (answers_more initial v v (requests_of items) (requests_of rest) h.replies qs h.answered (answers_refused v (requests_of rest)));
        goes_on = All-append (GoesOn (Printed o)) h.replies qs h.goes_on (all_go_on o qs);
        is = refl;
      };
      is = items_shown_more (Printed o) items rest h.replies qs initial v h.answered ∙ ap (λ (u : List ℕ). u ++ items_shown (Printed o) rest (refused (requests_of rest))) (sym h.is ∙ e) ∙ append_assoc part end after;
    }
short_first Silent input part items rest v out end h e spelled = none_before part end (sym e ∙ h.is)

-- a run that progressed so far failed, and a prefix of its output is written
pub failed_within : (m : Limits) (t : OutputMode) (run : ScriptRun) (seen : List ℕ) (w0 w w' : Option (List ℕ)) → (c : HasProgressed m t run seen w0 w) → AppendsPart w0 w' (items_shown t c.items c.replies)
    → (more : List ℕ) → RunFailsOn t (seen ++ more) w0 w'
failed_within m t run seen w0 w w' c part more =
    let p = read_first m run.script seen c.items c.read more in
    let out = items_shown t c.items c.replies in (
      part.0,
      short_first t (seen ++ more) part.0 c.items p.0 (state_of run.core) out part.1 (record { replies = c.replies; answered = c.answered; goes_on = c.goes_on; is = refl }) part.2 p.1,
      part.3,
    )

-- a run that progressed so far failed, and wrote nothing more
pub failed_after : (m : Limits) (t : OutputMode) (run : ScriptRun) (seen : List ℕ) (w0 w : Option (List ℕ)) → HasProgressed m t run seen w0 w → (more : List ℕ) → RunFailsOn t (seen ++ more) w0 w
failed_after m t run seen w0 w c more =
    let out = items_shown t c.items c.replies in
    failed_within m t run seen w0 w w c (out, [], sym (append-nil out), c.appends) more

-- a prefix of an item's output is written
abbrev pub IsPartCarriedOut : OutputMode → Item → State → Option (List ℕ) → Option (List ℕ) → Type 0
IsPartCarriedOut t i w was now =
    (replies : List RequestReply) × (v : State) × (out : List ℕ) × ItemDoes t i w replies v out × AppendsPart was now out

-- the run failed at an item
failed_item : (m : Limits) (t : OutputMode) (old : ScriptRun) (seen more : List ℕ) (i : Item) (rest : List Item) (w0 w w' : Option (List ℕ)) → (c : HasProgressed m t old seen w0 w)
    → Spells 1 None (lines (seen ++ more)) ((c.items ++ i ∷ []) ++ rest) → IsPartCarriedOut t i (state_of old.core) w w' → RunFailsOn t (seen ++ more) w0 w'
failed_item m t old seen more i rest w0 w w' c spelled q =
    let x = items_shown t c.items c.replies in
    let part = q.4 in
    let further = written_further t c.items i (state_of old.core) q.1 c.replies q.0 x q.2 c.answered c.goes_on refl q.3 in (
      x ++ part.0,
      short_first t (seen ++ more) (x ++ part.0) (c.items ++ i ∷ []) rest q.1 (x ++ q.2) part.1 further (ap (λ (u : List ℕ). x ++ u) part.2 ∙ sym (append_assoc x part.0 part.1)) spelled,
      appends_more w0 w w' x part.0 c.appends part.3,
    )

-- a run before its first byte
pub is_new : (m : Limits) (t : OutputMode) (run : ScriptRun) → run.output_mode ≡ t → Holds run.script None [] → run.script.lines ≡ 0 → run.script.bytes ≡ 0 → run.script.limits ≡ m → state_of run.core ≡ initial → IsNew m t run
is_new m t run output_mode holds no_lines no_bytes limits no_state = record {
  progress = λ w. record {
    output_mode = output_mode;
    items = [];
    replies = [];
    read = read_none m run.script holds no_lines no_bytes limits;
    answered = no_state;
    goes_on = All-nil (GoesOn t);
    appends = subst (λ (u : List ℕ). Appends w w u) (shown_none t) (appends_none w);
  };
}

-- A part of a piece was consumed, and the rest is left.
pub record ConsumedFront (old new : ScriptRun) (piece rest : List ℕ) (was now : Option (List ℕ)) : Type 0 where
  pub done : List ℕ
  pub is : piece ≡ done ++ rest
  pub went : RunAdvances old new done was now

pub took_none : (run : ScriptRun) (piece : List ℕ) (w : Option (List ℕ)) → ConsumedFront run run piece piece w w
took_none run piece w = record {
  done = [];
  is = refl;
  went = record { goes = λ m t seen w0 c. subst (λ (u : List ℕ). HasProgressed m t run u w0 w) (sym (append-nil seen)) c };
}

-- nothing, or one item more
progressed_listed : (m : Limits) (t : OutputMode) (old new : ScriptRun) (seen front : List ℕ) (o : Option Item) (w0 w w' : Option (List ℕ)) → HasProgressed m t old seen w0 w → new.output_mode ≡ old.output_mode
    → TakesBytes old.script new.script front (item_list o) → WasCarriedOut t o (state_of old.core) (state_of new.core) w w' → HasProgressed m t new (seen ++ front) w0 w'
progressed_listed m t old new seen front None w0 w w' c output_mode takes carried =
    let read = subst (λ (items : List Item). HasConsumed m new.script (seen ++ front) items) (append-nil c.items) (read_more m old.script new.script seen front c.items [] c.read takes) in
    record {
      output_mode = output_mode ∙ c.output_mode;
      items = c.items;
      replies = c.replies;
      read = read;
      answered = subst (λ (v : State). AnswersRequests initial (requests_of c.items) c.replies v) (sym carried.0) c.answered;
      goes_on = c.goes_on;
      appends = subst (λ (u : Option (List ℕ)). Appends w0 u (items_shown t c.items c.replies)) (sym carried.1) c.appends;
    }
progressed_listed m t old new seen front (Some i) w0 w w' c output_mode takes carried =
    progressed_item m t old new seen front i w0 w w' c output_mode (read_more m old.script new.script seen front c.items (i ∷ []) c.read takes) carried

pub took_item : (old mid new : ScriptRun) (piece rest after : List ℕ) (o : Option Item) (w0 w1 w2 : Option (List ℕ)) → ConsumedFront old mid piece rest w0 w1 → new.output_mode ≡ mid.output_mode
    → TakesFront mid.script new.script rest after (item_list o) → WasCarriedOut mid.output_mode o (state_of mid.core) (state_of new.core) w1 w2 → ConsumedFront old new piece after w0 w2
took_item old mid new piece rest after o w0 w1 w2 k output_mode takes carried =
    let front = takes.0 in
    record {
      done = k.done ++ front;
      is = k.is ∙ ap (λ (u : List ℕ). k.done ++ u) takes.1 ∙ sym (append_assoc k.done front after);
      went = record {
        goes = λ m t seen w c.
            let d = k.went.goes m t seen w c in
            let here = subst (λ (u : OutputMode). WasCarriedOut u o (state_of mid.core) (state_of new.core) w1 w2) d.output_mode carried in
            subst (λ (u : List ℕ). HasProgressed m t new u w w2) (append_assoc seen k.done takes.0) (progressed_listed m t mid new (seen ++ k.done) front o w w1 w2 d output_mode takes.2 here);
      };
    }

no_items : (xs : List ℕ) → length xs ≡ 0 → xs ≡ []
no_items [] e = refl
no_items (x ∷ xs) e = absurd (omega arith)

pub took_all : (old new : ScriptRun) (piece rest : List ℕ) (w0 w : Option (List ℕ)) → ConsumedFront old new piece rest w0 w → true ≡ eqb (length rest) 0 → RunAdvances old new piece w0 w
took_all old new piece rest w0 w k e =
    let none = no_items rest (eqb-true (length rest) 0 (sym e)) in
    let all : piece ≡ k.done = k.is ∙ ap (λ (u : List ℕ). k.done ++ u) none ∙ append-nil k.done in
    subst (λ (u : List ℕ). RunAdvances old new u w0 w) (sym all) k.went

-- the consumed bytes and those that follow
pub ahead : (seen done rest more : List ℕ) (piece : List ℕ) → piece ≡ done ++ rest → (seen ++ done) ++ (rest ++ more) ≡ seen ++ (piece ++ more)
ahead seen done rest more piece e =
    append_assoc seen done (rest ++ more) ∙ ap (λ (u : List ℕ). seen ++ u) (sym (append_assoc done rest more) ∙ ap (λ (u : List ℕ). u ++ more) (sym e))

-- the run stopped at the limits
pub stopped_past : (old mid : ScriptRun) (piece rest : List ℕ) (w0 w : Option (List ℕ)) → ConsumedFront old mid piece rest w0 w → PassesLimits mid.script rest → PassesLimitIn old piece w0 w
stopped_past old mid piece rest w0 w k passes = record {
  so = λ m t seen v c.
      let d = k.went.goes m t seen v c in
      let so_far = seen ++ k.done in
      let before = passes.before in
      let p = read_past m mid.script (seen ++ k.done) rest d.items d.read passes in
      let here = append_assoc seen k.done before.0 in
      let progress : HasProgressed m t (record mid { script = passes.mid }) ((seen ++ k.done) ++ before.0) v w = record {
        output_mode = d.output_mode;
        items = d.items;
        replies = d.replies;
        read = p.0;
        answered = d.answered;
        goes_on = d.goes_on;
        appends = d.appends;
      } in (
        record mid { script = passes.mid },
        k.done ++ before.0,
        passes.line,
        passes.rest,
        k.is ∙ ap (λ (u : List ℕ). k.done ++ u) before.1 ∙ sym (append_assoc k.done before.0 (passes.line ++ passes.rest)),
        passes.first,
        subst (λ (u : List ℕ). HasProgressed m t (record mid { script = passes.mid }) u v w) here progress,
        subst (λ (u : List ℕ). IsPast m (u ++ passes.line)) here p.1,
      );
}

-- the end of the script spells no item
pub ended_none : (run : ScriptRun) (o : Option Item) (w : Option (List ℕ)) → o ≡ None → EndSpells run.script (item_list o) → EndSucceeds run (state_of run.core) w w
ended_none run o w none ends = record {
  so = λ m t seen w0 c.
      let all = read_all m run.script seen c.items [] c.read (subst (λ (x : Option Item). EndSpells run.script (item_list x)) none ends) in (
        items_shown t c.items c.replies,
        record {
          items = c.items;
          replies = c.replies;
          spelled = subst (λ (items : List Item). Spells 1 None (lines seen) items) (append-nil c.items) all;
          answered = c.answered;
          goes_on = c.goes_on;
          is = refl;
        },
        c.appends,
        c.read.read.within,
      );
}

-- the end of the script spells an item, which was written
pub ended_item : (run : ScriptRun) (i : Item) (v : State) (w w' : Option (List ℕ)) → EndSpells run.script (i ∷ []) → IsCarriedOut run.output_mode i (state_of run.core) v w w' → EndSucceeds run v w w'
ended_item run i v w w' ends it = record {
  so = λ m t seen w0 c.
      let here = subst (λ (u : OutputMode). IsCarriedOut u i (state_of run.core) v w w') c.output_mode it in
      let x = items_shown t c.items c.replies in
      let further = written_further t c.items i (state_of run.core) v c.replies here.0 x here.1 c.answered c.goes_on refl here.2 in (
        x ++ here.1,
        record {
          items = c.items ++ i ∷ [];
          replies = further.replies;
          spelled = read_all m run.script seen c.items (i ∷ []) c.read ends;
          answered = further.answered;
          goes_on = further.goes_on;
          is = further.is;
        },
        appends_more w0 w w' x here.1 c.appends here.3,
        c.read.read.within,
      );
}

-- the end of the script spells an item, which failed
pub failed_last : (run : ScriptRun) (i : Item) (w w' : Option (List ℕ)) → EndSpells run.script (i ∷ []) → IsPartCarriedOut run.output_mode i (state_of run.core) w w' → EndFails run w w'
failed_last run i w w' ends part = record {
  so = λ m t seen w0 c.
      let here = subst (λ (u : OutputMode). IsPartCarriedOut u i (state_of run.core) w w') c.output_mode part in
      let all = read_all m run.script seen c.items (i ∷ []) c.read ends in
      let at_end = subst (λ (u : List ℕ). Spells 1 None (lines u) (c.items ++ i ∷ [])) (sym (append-nil seen)) all in
      let spelled = subst (λ (items : List Item). Spells 1 None (lines (seen ++ [])) items) (sym (append-nil (c.items ++ i ∷ []))) at_end in
      subst (λ (u : List ℕ). RunFailsOn t u w0 w') (append-nil seen) (failed_item m t run seen [] i [] w0 w w' c spelled here);
}

pub failed_none : (run : ScriptRun) (w : Option (List ℕ)) → EndFails run w w
failed_none run w = record { so = λ m t seen w0 c. subst (λ (u : List ℕ). RunFailsOn t u w0 w) (append-nil seen) (failed_after m t run seen w0 w c []) }

-- nothing was read or written: the output of no item
pub never_started : (t : OutputMode) (r0 w0 : Option (List ℕ)) → RunFails t r0 w0 w0
never_started t None w0 = search rules
never_started t (Some input) w0 =
    let p = are_spelled (lines input) 1 None in
    ([], short_first t input [] [] p.0 initial [] [] (record { replies = []; answered = refl; goes_on = All-nil (GoesOn t); is = shown_none t }) refl p.1, appends_none w0)
