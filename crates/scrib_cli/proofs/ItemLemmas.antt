-- Steps and items that are carried out, in both modes.
use Rattle.std.proofs.Common.{◌≡◌, ◌≢◌, ℕ, Bool, true, List, [], ◌∷◌, ◌++◌, Option, Some, None, refl, sym, ap, subst, ◌∙◌}
use Rattle.std.specs.Prelude.{Result, Ok, Err, codes}
use Rattle.std.proofs.lemmas.Bool.{true≢false}
use Rattle.std.specs.Fmt.{decimal}
use Rattle.std.specs.Io.KnownBytes.{Appends}
use Rattle.std.proofs.lemmas.List.{append_assoc}
use Rattle.scrib_types.specs.declared.event.Told.{Told}
use Rattle.scrib_types.specs.declared.event.Told.TheVariants as told
use Rattle.scrib_types.specs.declared.event.Verdict.TheVariants.{Permitted, Offence, Withdrawn}
use Rattle.scrib_core.specs.declared.conversation_steps.Judged.{Judged}
use Rattle.scrib_core.specs.declared.reply.Refusal.{Refusal}
use Rattle.scrib_core.specs.declared.reply.Reply.TheVariants as reply
use Rattle.scrib_core.specs.Permitted.{IsReplyTest, is_permitted_outcome, is_permitted_verdict}
use Rattle.scrib_core.specs.ReplyValues.{verdict_reply_of}
use Rattle.scrib_core.specs.declared.step.Step.TheVariants.{Ask}
use Rattle.scrib_report.specs.Lines.{line_of}
use Rattle.scrib_report.proofs.EventLine.{verdict_and_end}
use Rattle.scrib_core.specs.declared.step.Step.{Step}
use Rattle.scrib_core.specs.declared.reply.Reply.{Reply}
use Rattle.scrib_core.specs.declared.reply.Reply.TheVariants.{Refused}
use Rattle.scrib_core.specs.declared.reply.Refusal.TheVariants.{OutOfMemory}
use Rattle.scrib_core.specs.Answers.{State, IsAnswered}
use Rattle.scrib_core.specs.declared.format.Format.{Format}
use Rattle.scrib_core.specs.declared.format.Format.TheVariants as format
use Rattle.scrib_report.specs.ReplyTexts.{reply_format, reply_text, swept_text}
use Rattle.scrib_script_reader.specs.declared.item.Item.{Item}
use Rattle.scrib_script_reader.specs.declared.item.Item.TheVariants as item
use Rattle.scrib_script_reader.specs.declared.short_line.ShortLine.{ShortLine}
use Rattle.scrib_script_reader.specs.ShortLines.{short_items}
use Rattle.scrib_cli.specs.declared.output_mode.OutputMode.{OutputMode}
use Rattle.scrib_cli.specs.declared.output_mode.OutputMode.TheVariants.{Printed, Silent}
use Rattle.scrib_sweep.specs.Sweeps.{IsSwept}
use Rattle.scrib_cli.specs.Requests.{OfStep, OfSweep, HasMemory}
use Rattle.scrib_cli.specs.Progress.{IsReplyShown, IsCarriedOut, IsShortCarriedOut, reply_shown, bad_line_shown, end_shown}
use Rattle.scrib_script_io.proofs.WriterLemmas.{appends_none}

pub shown_silently : (t : OutputMode) (f : Format) (r : Reply) (was : Option (List ℕ)) → t ≡ Silent → r ≢ Refused OutOfMemory → IsReplyShown t f (OfStep r) was was
shown_silently t f r was e ne = subst (λ (u : OutputMode). IsReplyShown u f (OfStep r) was was) (sym e) (ne, appends_none was)

-- the format of a reply is that of the output where the line asks for none
pub shown_plainly : (t : OutputMode) (o : Format) (r : Reply) (was now : List ℕ) → t ≡ Printed o → now ≡ was ++ reply_text o r → IsReplyShown t format.Line (OfStep r) (Some was) (Some now)
shown_plainly t o r was now e is = subst (λ (u : OutputMode). IsReplyShown u format.Line (OfStep r) (Some was) (Some now)) (sym e) (tt, by o is)
  where
    by : (o : Format) → now ≡ was ++ reply_text o r → now ≡ was ++ reply_text (reply_format o format.Line) r
    by format.Line is = is
    by format.Json is = is

-- the line of a permitted verdict is the reply's text
permitted_shown : (id : ℕ) (asked : Result Judged Refusal) (old new : List ℕ) → true ≡ is_permitted_outcome asked → new ≡ old ++ (decimal id ++ codes " permitted\n")
    → new ≡ old ++ reply_text format.Line (verdict_reply_of id asked)
permitted_shown id (Ok j) old new permitted e = by j.told permitted
  where
    by : (t : Told) → true ≡ is_permitted_verdict t → new ≡ old ++ reply_text format.Line (reply.Judged id j.name j.events t)
    by told.Stale p = absurd (true≢false p)
    by (told.Judged Permitted) p =
        let end : List ℕ = 10 ∷ [] in
        e ∙ verdict_and_end old id j.name j.events
        ∙ append_assoc old (line_of (reply.Judged id j.name j.events (told.Judged Permitted))) end
    by (told.Judged (Offence place role allowed)) p = absurd (true≢false p)
    by (told.Judged Withdrawn) p = absurd (true≢false p)
permitted_shown id (Err r) old new permitted e = absurd (true≢false permitted)

-- A short line that spells an item is carried out where the item is.
pub short_carried_out : (t : OutputMode) (line : ShortLine) (i : Item) (w v : State) (was now : Option (List ℕ)) → short_items line ≡ i ∷ [] → IsCarriedOut t i w v was now → IsShortCarriedOut t line w v was now
short_carried_out t line i w v was now e done = (Some i, sym e, done)

-- A comment does nothing.
pub skipped : (t : OutputMode) (line : ShortLine) (w : State) (was : Option (List ℕ)) → short_items line ≡ [] → IsShortCarriedOut t line w w was was
skipped t line w was e = (None, sym e, (refl, refl))

-- An item that is carried out.
module _ (t : OutputMode) (i : Item) (w : State) where
  pub step_written : (v : State) (was now : Option (List ℕ)) (f : Format) (s : Step) (r : Reply) → i ≡ item.Step f s → IsAnswered w s r v → IsReplyShown t f (OfStep r) was now → IsCarriedOut t i w v was now
  step_written v was now f s r e answered a = subst (λ (j : Item). IsCarriedOut t j w v was now) (sym e) (OfStep r ∷ [], reply_shown t f (OfStep r), (r, refl, answered, a.0, refl), a.1)

  pub sweep_written : (v : State) (was now : Option (List ℕ)) (f : Format) (judged : Option ℕ) → i ≡ item.Sweep f → IsSwept w judged v → IsReplyShown t f (OfSweep judged) was now → IsCarriedOut t i w v was now
  sweep_written v was now f judged e swept a = subst (λ (j : Item). IsCarriedOut t j w v was now) (sym e) (OfSweep judged ∷ [], reply_shown t f (OfSweep judged), (judged, refl, swept, a.0, refl), a.1)

  pub bad_line_written : (was now : Option (List ℕ)) (n : ℕ) → i ≡ item.BadLine n → Appends was now (bad_line_shown t n) → IsCarriedOut t i w w was now
  bad_line_written was now n e a = subst (λ (j : Item). IsCarriedOut t j w w was now) (sym e) ([], bad_line_shown t n, (refl, refl, refl), a)

  pub end_written : (was now : Option (List ℕ)) → i ≡ item.EndOfText → Appends was now (end_shown t) → IsCarriedOut t i w w was now
  end_written was now e a = subst (λ (j : Item). IsCarriedOut t j w w was now) (sym e) ([], end_shown t, (refl, refl, refl), a)

-- A question whose verdict is `Permitted` is carried out where its line is added.
pub permitted_carried_out : (t : OutputMode) (id : ℕ) (s : State) (test : Bool) (old new : List ℕ) → t ≡ Printed format.Line → IsReplyTest s id test → true ≡ test → new ≡ old ++ (decimal id ++ codes " permitted\n")
    → IsCarriedOut t (item.Step format.Line (Ask id)) s s (Some old) (Some new)
permitted_carried_out t id s test old new plain replied holds e =
    let r = verdict_reply_of id replied.outcome in
    step_written t (item.Step format.Line (Ask id)) s s (Some old) (Some new) format.Line (Ask id) r refl replied.answered
    (shown_plainly t format.Line r old new plain (permitted_shown id replied.outcome old new (holds ∙ replied.is) e))

-- A sweep is carried out where the number of conversations that it judged is added, or its refusal.
pub sweep_printed : (t : OutputMode) (o f : Format) (judged : Option ℕ) (w v : State) (was now : List ℕ) → t ≡ Printed o → IsSwept w judged v → now ≡ was ++ swept_text (reply_format o f) judged
    → IsCarriedOut t (item.Sweep f) w v (Some was) (Some now)
sweep_printed t o f judged w v was now e swept is =
    sweep_written t (item.Sweep f) w v (Some was) (Some now) f judged refl swept
    (subst (λ (u : OutputMode). IsReplyShown u f (OfSweep judged) (Some was) (Some now)) (sym e) (tt, is))

-- In silent mode it is carried out where it was not refused memory.
pub sweep_silent : (t : OutputMode) (f : Format) (judged : Option ℕ) (w v : State) (was : Option (List ℕ)) → t ≡ Silent → IsSwept w judged v → HasMemory (OfSweep judged) → IsCarriedOut t (item.Sweep f) w v was was
sweep_silent t f judged w v was e swept made =
    sweep_written t (item.Sweep f) w v was was f judged refl swept
    (subst (λ (u : OutputMode). IsReplyShown u f (OfSweep judged) was was) (sym e) (made, appends_none was))
