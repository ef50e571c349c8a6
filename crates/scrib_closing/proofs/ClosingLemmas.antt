-- Items that are carried out one after another, where complete conversations are closed.
use Rattle.std.proofs.Common.{◌≡◌, ℕ, Bool, true, List, [], ◌∷◌, ◌++◌, ◌∙◌, Option, Some, None, refl, sym, ap, subst}
use Rattle.std.proofs.lemmas.Bool.{false≢true}
use Rattle.std.proofs.lemmas.List.{append_assoc, append-nil}
use Rattle.scrib_core.specs.declared.format.Format.{Format}
use Rattle.scrib_core.specs.declared.format.Format.TheVariants as format
use Rattle.scrib_core.specs.declared.step.Step.{Step}
use Rattle.scrib_core.specs.declared.step.Step.TheVariants.{Close}
use Rattle.scrib_core.specs.declared.reply.Refusal.TheVariants.{OutOfMemory}
use Rattle.scrib_core.specs.declared.reply.Reply.{Reply}
use Rattle.scrib_core.specs.declared.reply.Reply.TheVariants.{Refused}
use Rattle.scrib_core.specs.Answers.{State, IsCompleteIn, IsAnswered}
use Rattle.scrib_report.specs.ReplyTexts.{bad_line, end_of_text, reply_format, reply_text}
use Rattle.scrib_script_reader.specs.declared.item.Item.{Item}
use Rattle.scrib_script_reader.specs.declared.item.Item.TheVariants as item
use Rattle.scrib_script_reader.specs.Scripts.{Request, ToMake, ToSweep, requests_of}
use Rattle.scrib_sweep.specs.Sweeps.{IsSwept}
use Rattle.scrib_sweep.proofs.SweepSteps.{sweep_none}
use Rattle.scrib_cli.specs.Requests.{RequestReply, OfStep, OfSweep, AnswersRequests, request_reply_text}
use Rattle.scrib_cli.specs.Progress.{IsCarriedOut}
use Rattle.scrib_cli.specs.Scripts.{written}
use Rattle.scrib_cli.specs.declared.output_mode.OutputMode.TheVariants.{Printed}
use Rattle.scrib_cli.proofs.RunLemmas.{refuses_memory, refused, written_more}
use Rattle.scrib_closing.specs.ClosingScripts.{ClosesComplete, Completes, at_end, no_step, goes_on, sweeps, closes, is_accepted, judged_by}
use Rattle.scrib_closing.specs.Progress.{AreCarriedOut, AreCarriedInPart, IsBeginningOf}

-- some items, and then others
pub closes_more : (w u v : State) (xs ys as_ bs : List Item) (rs qs : List RequestReply) → ClosesComplete w xs as_ rs u → ClosesComplete u ys bs qs v → ClosesComplete w (xs ++ ys) (as_ ++ bs) (rs ++ qs) v
closes_more w u v xs ys as_ bs rs qs (at_end x) k = k
closes_more w u v xs ys as_ bs rs qs (no_step x y i script carried replies none more) k = no_step w v i (script ++ ys) (carried ++ bs) (replies ++ qs) none (closes_more w u v script ys carried bs replies qs more k)
closes_more w u v xs ys as_ bs rs qs (goes_on x t y f s r script carried replies answered stays more) k = goes_on w t v f s r (script ++ ys) (carried ++ bs) (replies ++ qs) answered stays (closes_more t u v script ys carried bs replies qs more k)
closes_more w u v xs ys as_ bs rs qs (sweeps x t y f judged script carried replies swept more) k = sweeps w t v f judged (script ++ ys) (carried ++ bs) (replies ++ qs) swept (closes_more t u v script ys carried bs replies qs more k)
closes_more w u v xs ys as_ bs rs qs (closes x t z y f s r c id script carried replies answered complete closed more) k =
    closes w t z v f s r c id (script ++ ys) (carried ++ bs) (replies ++ qs) answered complete closed (closes_more z u v script ys carried bs replies qs more k)

-- an item that asks for nothing does not matter for the requests
same_requests : (i : Item) (items : List Item) → requests_of (i ∷ []) ≡ [] → requests_of (i ∷ items) ≡ requests_of items
same_requests (item.Step f s) items e = absurd (cc)
same_requests (item.Sweep f) items e = absurd (cc)
same_requests (item.BadLine n) items e = refl
same_requests item.EndOfText items e = refl

-- the replies are those to what is carried out
pub closes_answers : (w v : State) (xs as_ : List Item) (rs : List RequestReply) → ClosesComplete w xs as_ rs v → AnswersRequests w (requests_of as_) rs v
closes_answers w v xs as_ rs (at_end x) = refl
closes_answers w v xs as_ rs (no_step x y i script carried replies none more) = subst (λ (ss : List Request). AnswersRequests w ss replies v) (sym (same_requests i carried none)) (closes_answers w v script carried replies more)
closes_answers w v xs as_ rs (goes_on x t y f s r script carried replies answered stays more) = (t, answered, closes_answers t v script carried replies more)
closes_answers w v xs as_ rs (sweeps x t y f judged script carried replies swept more) = (t, swept, closes_answers t v script carried replies more)
closes_answers w v xs as_ rs (closes x t z y f s r c id script carried replies answered complete closed more) = (t, answered, (z, closed, closes_answers z v script carried replies more))

-- each request may be refused memory, and then completes nothing
pub closes_refused : (w : State) (items : List Item) → ClosesComplete w items items (refused (requests_of items)) w
closes_refused w [] = at_end w
closes_refused w (item.Step f s ∷ items) =
    goes_on w w w f s (Refused OutOfMemory) items items (refused (requests_of items)) (refuses_memory w.world s, refl) (λ id k. false≢true k.1) (closes_refused w items)
closes_refused w (item.Sweep f ∷ items) = sweeps w w w f None items items (refused (requests_of items)) (0, sweep_none w) (closes_refused w items)
closes_refused w (item.BadLine n ∷ items) = no_step w w (item.BadLine n) items items (refused (requests_of items)) refl (closes_refused w items)
closes_refused w (item.EndOfText ∷ items) = no_step w w item.EndOfText items items (refused (requests_of items)) refl (closes_refused w items)

-- ---- what is written

pub carried_none : (o : Format) (w : State) (a : List ℕ) → AreCarriedOut o [] w w a a
carried_none o w a = ([], [], at_end w, sym (append-nil a))

pub carried_more : (o : Format) (xs ys : List Item) (w v u : State) (a b c : List ℕ) → AreCarriedOut o xs w v a b → AreCarriedOut o ys v u b c → AreCarriedOut o (xs ++ ys) w u a c
carried_more o xs ys w v u a b c p q = (
  p.0 ++ q.0,
  p.1 ++ q.1,
  closes_more w v u xs ys p.0 q.0 p.1 q.1 p.2 q.2,
  q.3 ∙ ap (λ (t : List ℕ). t ++ written o q.0 q.1) p.3 ∙ append_assoc a (written o p.0 p.1) (written o q.0 q.1)
      ∙ ap (λ (t : List ℕ). a ++ t) (sym (written_more o p.0 q.0 p.1 q.1 w v (closes_answers w v xs p.0 p.1 p.2))),
)

-- all of it is a prefix
pub begun_whole : (o : Format) (items carried : List Item) (replies : List RequestReply) (w v : State) → ClosesComplete w items carried replies v → IsBeginningOf o items w (written o carried replies)
begun_whole o items carried replies w v c = (carried, replies, v, [], c, sym (append-nil (written o carried replies)))

-- nothing is a prefix
pub begun_none : (o : Format) (items : List Item) (w : State) → IsBeginningOf o items w []
begun_none o items w = (items, refused (requests_of items), w, written o items (refused (requests_of items)), closes_refused w items, refl)

-- a prefix of what may be written for some items is one for more
pub begun_more : (o : Format) (items more : List Item) (w : State) (part : List ℕ) → IsBeginningOf o items w part → IsBeginningOf o (items ++ more) w part
begun_more o items more w part b =
    let qs = refused (requests_of more) in
    let after = written o more qs in (
      b.0 ++ more,
      b.1 ++ qs,
      b.2,
      b.3 ++ after,
      closes_more w b.2 b.2 items more b.0 more b.1 qs b.4 (closes_refused b.2 more),
      written_more o b.0 more b.1 qs w b.2 (closes_answers w b.2 items b.0 b.1 b.4) ∙ ap (λ (t : List ℕ). t ++ after) b.5 ∙ append_assoc part b.3 after,
    )

-- what was written for some items, and a prefix of what may be written for others
pub begun_after : (o : Format) (xs ys : List Item) (w v : State) (out part : List ℕ) → AreCarriedOut o xs w v [] out → IsBeginningOf o ys v part → IsBeginningOf o (xs ++ ys) w (out ++ part)
begun_after o xs ys w v out part p b = (
  p.0 ++ b.0,
  p.1 ++ b.1,
  b.2,
  b.3,
  closes_more w v b.2 xs ys p.0 b.0 p.1 b.1 p.2 b.4,
  written_more o p.0 b.0 p.1 b.1 w v (closes_answers w v xs p.0 p.1 p.2) ∙ ap (λ (t : List ℕ). t ++ written o b.0 b.1) (sym p.3) ∙ ap (λ (t : List ℕ). out ++ t) b.5 ∙ sym (append_assoc out part b.3),
)

-- nothing was gathered
pub part_none : (o : Format) (items : List Item) (w : State) (a b : List ℕ) → b ≡ a → AreCarriedInPart o items w a b
part_none o items w a b same = ([], begun_none o items w, same ∙ sym (append-nil a))

-- ---- a step

-- the text of the reply to a step whose line asks for this format
abbrev text_of : Format → Format → Reply → List ℕ
text_of o f r = reply_text (reply_format o f) r

-- the step completed nothing
pub carried_open : (o f : Format) (s : Step) (r : Reply) (w u : State) (a b : List ℕ) → IsAnswered w s r u → ((id : ℕ) → Completes s r u id → ⊥) → b ≡ a ++ reply_text (reply_format o f) r
    → AreCarriedOut o (item.Step f s ∷ []) w u a b
carried_open o f s r w u a b answered stays is = (
  item.Step f s ∷ [],
  OfStep r ∷ [],
  goes_on w u u f s r [] [] [] answered stays (at_end u),
  is ∙ ap (λ (t : List ℕ). a ++ t) (sym (append-nil (text_of o f r))),
)

-- a conversation that a step completed is closed
abbrev pub IsClosed : State → ℕ → State → Type 0
IsClosed u id t = (c : Reply) × IsAnswered u (Close id) c t

module _ (o f : Format) (s : Step) (r : Reply) (w u t : State) (id : ℕ) (answered : IsAnswered w s r u) (complete : Completes s r u id) where
  both : (c : Reply) → IsAnswered u (Close id) c t → ClosesComplete w (item.Step f s ∷ []) (item.Step f s ∷ item.Step f (Close id) ∷ []) (OfStep r ∷ OfStep c ∷ []) t
  both c closed = closes w u t t f s r c id [] [] [] answered complete closed (at_end t)

  pub carried_closed : (a m b : List ℕ) (c : Reply) → IsAnswered u (Close id) c t → m ≡ a ++ reply_text (reply_format o f) r → b ≡ m ++ reply_text (reply_format o f) c → AreCarriedOut o (item.Step f s ∷ []) w t a b
  carried_closed a m b c closed first second = (
    item.Step f s ∷ item.Step f (Close id) ∷ [],
    OfStep r ∷ OfStep c ∷ [],
    both c closed,
    second ∙ ap (λ (x : List ℕ). x ++ text_of o f c) first ∙ append_assoc a (text_of o f r) (text_of o f c)
        ∙ ap (λ (x : List ℕ). a ++ (text_of o f r ++ x)) (sym (append-nil (text_of o f c))),
  )

  -- the reply to the close was not gathered
  pub part_closed : (a m b : List ℕ) → IsClosed u id t → m ≡ a ++ reply_text (reply_format o f) r → b ≡ m → AreCarriedInPart o (item.Step f s ∷ []) w a b
  part_closed a m b c first same = (
    text_of o f r,
    (item.Step f s ∷ item.Step f (Close id) ∷ [], OfStep r ∷ OfStep c.0 ∷ [], t, text_of o f c.0 ++ [], both c.0 c.1, refl),
    same ∙ first,
  )

-- a line that asks for no format has its reply in that of the output
pub plain_format : (o : Format) → reply_format o format.Line ≡ o
plain_format format.Line = refl
plain_format format.Json = refl

-- the test after a step, in terms of the step and its reply
module _ (s : Step) (r : Reply) (u : State) (judged : Option ℕ) (accepted : Bool) (of_step : judged ≡ judged_by s) (of_reply : accepted ≡ is_accepted r) where
  pub open_step : ((id : ℕ) → judged ≡ Some id → accepted ≡ true → IsCompleteIn u id → ⊥) → (id : ℕ) → Completes s r u id → ⊥
  open_step none id k = none id (of_step ∙ k.0) (of_reply ∙ k.1) k.2

  pub complete_step : (id : ℕ) → (judged ≡ Some id) × (accepted ≡ true) × IsCompleteIn u id → Completes s r u id
  complete_step id k = (sym of_step ∙ k.0, sym of_reply ∙ k.1, k.2)

-- ---- items that complete nothing

-- the item is no step that notes an event or makes a turn
abbrev pub IsUnjudged : Item → Type 0
IsUnjudged (item.Step f s) = judged_by s ≡ None
IsUnjudged (item.Sweep f) = Unit {0}
IsUnjudged (item.BadLine n) = Unit {0}
IsUnjudged item.EndOfText = Unit {0}

never_judged : (s : Step) (r : Reply) (u : State) → judged_by s ≡ None → (id : ℕ) → Completes s r u id → ⊥
never_judged s r u none id k = let e : None ≡ Some id = sym none ∙ k.0 in absurd (cc)

pub carried_item : (o : Format) (i : Item) (w v : State) (a b : List ℕ) → IsUnjudged i → IsCarriedOut (Printed o) i w v (Some a) (Some b) → AreCarriedOut o (i ∷ []) w v a b
carried_item o (item.Step f s) w v a b none d =
    let k = d.2 in
    carried_open o f s k.0 w v a b k.2 (never_judged s k.0 v none) (d.3 ∙ ap (λ (t : List ℕ). a ++ t) k.4)
carried_item o (item.Sweep f) w v a b none d =
    let k = d.2 in
    let text = request_reply_text (reply_format o f) (OfSweep k.0) in (
      item.Sweep f ∷ [],
      OfSweep k.0 ∷ [],
      sweeps w v v f k.0 [] [] [] k.2 (at_end v),
      d.3 ∙ ap (λ (t : List ℕ). a ++ t) (k.4 ∙ sym (append-nil text)),
    )
carried_item o (item.BadLine n) w v a b none d = (
  item.BadLine n ∷ [],
  [],
  subst (λ (u : State). ClosesComplete w (item.BadLine n ∷ []) (item.BadLine n ∷ []) [] u) (sym d.2.1) (no_step w w (item.BadLine n) [] [] [] refl (at_end w)),
  d.3 ∙ ap (λ (t : List ℕ). a ++ t) (d.2.2 ∙ sym (append-nil (bad_line o n))),
)
carried_item o item.EndOfText w v a b none d = (
  item.EndOfText ∷ [],
  [],
  subst (λ (u : State). ClosesComplete w (item.EndOfText ∷ []) (item.EndOfText ∷ []) [] u) (sym d.2.1) (no_step w w item.EndOfText [] [] [] refl (at_end w)),
  d.3 ∙ ap (λ (t : List ℕ). a ++ t) (d.2.2 ∙ sym (append-nil (end_of_text o))),
)
