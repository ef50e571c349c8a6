-- Which steps and items make conversations stale.
use Rattle.std.proofs.Common.{◌≡◌, ◌⊎◌, inl, inr, ℕ, Bool, true, false, List, [], ◌∷◌, Option, Some, None, length, refl, ap, subst}
use Rattle.std.proofs.lemmas.Bool.{cases_eq}
use Rattle.scrib_tree.specs.declared.tree.ModuleTree.{ModuleTree}
use Rattle.scrib_library.specs.declared.changes.ChangeKind.{ChangeKind}
use Rattle.scrib_library.specs.declared.changes.ChangeKind.TheVariants.{Added, Replaced, Withdrawn}
use Rattle.scrib_library.specs.Edits.{Changes}
use Rattle.scrib_library.proofs.MeaningLemmas.{means_once}
use Rattle.scrib_core.specs.declared.format.Format.{Format}
use Rattle.scrib_core.specs.declared.format.Format.TheVariants as format
use Rattle.scrib_core.specs.declared.reply.Reply.{Reply}
use Rattle.scrib_core.specs.declared.reply.Reply.TheVariants as reply
use Rattle.scrib_core.specs.declared.step.Step.{Step}
use Rattle.scrib_core.specs.declared.step.Step.TheVariants as step
use Rattle.scrib_core.specs.World.{Conversation, Follows, World, conversation}
use Rattle.scrib_core.specs.Marks.{Fresh, IsLeft, IsMarkTurned, IsStale, Mark, Stale}
use Rattle.scrib_core.specs.Answers.{IsAccepted, IsAnswered, State}
use Rattle.scrib_report.specs.PutBack.{ReplyLabel}
use Rattle.scrib_script_reader.specs.declared.item.Item.{Item}
use Rattle.scrib_script_reader.specs.declared.item.Item.TheVariants as item
use Rattle.scrib_sweep.specs.Sweeps.{AreSweepTurns, IsSweep, IsSwept}
use Rattle.scrib_sweep.proofs.TurnEffects.{not_both}
use Rattle.scrib_labelled.specs.declared.label_options.LabelledStyle.{LabelledStyle}
use Rattle.scrib_labelled.specs.LabelledRuns.{ClosesBehind, Takes}
use Rattle.scrib_sweeping.specs.Edits.{is_edit}

-- what is stale in the second state is stale in the first
abbrev pub MakesNoneStale : (w u : State) → Type 0
MakesNoneStale w u = (j : ℕ) → IsStale (u.marks j) → IsStale (w.marks j)

same_state : (w u : State) → u ≡ w → MakesNoneStale w u
same_state w u same j stale = subst (λ (s : State). IsStale (s.marks j)) same stale

-- ---- one step

-- modules change no meaning of themselves
no_change : (ms : List ModuleTree) (kind : ChangeKind) (n : List (List ℕ)) → Changes ms ms kind n → ⊥
no_change ms Added n d = d.0 d.1.0 d.1.1
no_change ms Withdrawn n d = d.1 d.0.0 d.0.1
no_change ms Replaced n d = d.4 (means_once ms n d.0 d.1 d.2 d.3)

turned_stale : (events : ℕ) (old new : Mark) → IsMarkTurned events old new → IsStale new → IsStale old
turned_stale events Fresh new m stale = not_both new m stale
turned_stale events (Stale n) new m stale = tt

-- a step that leaves the meaning makes no mark stale
left_stale : (s : Step) (j events : ℕ) (old new : Mark) → IsLeft s j events old new → IsStale new → IsStale old
left_stale (step.Put t) j events old new l stale = subst IsStale l stale
left_stale (step.Withdraw n) j events old new l stale = subst IsStale l stale
left_stale (step.Profile p) j events old new l stale = subst IsStale l stale
left_stale (step.Open i n) j events old new l stale = subst IsStale l stale
left_stale (step.Note i e) j events old new l stale = subst IsStale l stale
left_stale (step.Turn i) j events old new l stale = elim (cases_eq i j) [
  | inl same ↦ turned_stale events old new (l.0 same) stale
  | inr apart ↦ subst IsStale (l.1 apart) stale
]
left_stale (step.Ask i) j events old new l stale = subst IsStale l stale
left_stale (step.Close i) j events old new l stale = elim (cases_eq i j) [
  | inl same ↦ absurd (not_both new (l.0 same) stale)
  | inr apart ↦ subst IsStale (l.1 apart) stale
]

module _ (w u : State) (s : Step) (r : Reply) (a : IsAccepted w s r u) (same : u.world.modules ≡ w.world.modules) where
  left : (j : ℕ) (c : Conversation) → conversation w.world j ≡ Some c → IsLeft s j (length c.log) (w.marks j) (u.marks j)
  left j c e = elim (a.remarks.opened j c e) [
    | inl l ↦ l
    | inr changed ↦ absurd (no_change w.world.modules changed.0 c.name (subst (λ (ms : List ModuleTree). Changes w.world.modules ms changed.0 c.name) same changed.1))
  ]

  by_conversation : (j : ℕ) (o : Option Conversation) → conversation w.world j ≡ o → IsStale (u.marks j) → IsStale (w.marks j)
  by_conversation j None e stale = absurd (not_both (u.marks j) (a.remarks.unopened j e) stale)
  by_conversation j (Some c) e stale = left_stale s j (length c.log) (w.marks j) (u.marks j) (left j c e) stale

  -- an accepted step that leaves the modules
  accepted : MakesNoneStale w u
  accepted j stale = by_conversation j (conversation w.world j) refl stale

-- a step that is no edit leaves the modules
leaves_modules : (f : Format) (w u : World) (s : Step) → is_edit (item.Step f s) ≡ false → Follows w s u → u.modules ≡ w.modules
leaves_modules f w u (step.Put t) other follows = absurd (cc)
leaves_modules f w u (step.Withdraw n) other follows = absurd (cc)
leaves_modules f w u (step.Profile p) other follows = ap (λ (x : World). x.modules) follows.1
leaves_modules f w u (step.Open i n) other follows = ap (λ (x : World). x.modules) follows.3
leaves_modules f w u (step.Note i e) other follows = ap (λ (x : World). x.modules) follows.3
leaves_modules f w u (step.Turn i) other follows = ap (λ (x : World). x.modules) follows.1
leaves_modules f w u (step.Ask i) other follows = ap (λ (x : World). x.modules) follows.1
leaves_modules f w u (step.Close i) other follows = follows.1

-- a step is refused, or accepted
refused_or_accepted : (w u : State) (s : Step) (r : Reply) → IsAnswered w s r u → (u ≡ w) ⊎ IsAccepted w s r u
refused_or_accepted w u s (reply.Edited e changes) a = inr a
refused_or_accepted w u s (reply.Profiled p) a = inr a
refused_or_accepted w u s (reply.Opened i n) a = inr a
refused_or_accepted w u s (reply.Noted i place answer) a = inr a
refused_or_accepted w u s (reply.Judged i name events answer) a = inr a
refused_or_accepted w u s (reply.Closed i name events verdict complete) a = inr a
refused_or_accepted w u s (reply.Refused f) a = inl a.1

-- a step that is no edit makes no conversation stale
pub step_none : (f : Format) (w u : State) (s : Step) (r : Reply) → is_edit (item.Step f s) ≡ false → IsAnswered w s r u → MakesNoneStale w u
step_none f w u s r other a = elim (refused_or_accepted w u s r a) [
  | inl same ↦ same_state w u same
  | inr taken ↦ accepted w u s r taken (leaves_modules f w.world u.world s other taken.follows)
]

-- ---- sweeps

turns_none : (w u : State) (ids : List ℕ) (rs : List Reply) → AreSweepTurns w ids rs u → MakesNoneStale w u
turns_none w u [] [] a = same_state w u a
turns_none w u [] (r ∷ rs) a = absurd a
turns_none w u (id ∷ ids) [] a = absurd a
turns_none w u (id ∷ ids) (r ∷ rs) a =
    λ j stale. accepted w a.0 (step.Turn id) r a.2 (ap (λ (x : World). x.modules) a.2.follows.1) j (turns_none a.0 u ids rs a.3 j stale)

-- a sweep makes no conversation stale
pub sweep_none : (w u : State) (turns : ℕ) → IsSweep w turns u → MakesNoneStale w u
sweep_none w u turns s = turns_none w u s.ids s.replies s.made

pub swept_none : (w u : State) (judged : Option ℕ) → IsSwept w judged u → MakesNoneStale w u
swept_none w u None s = sweep_none w u s.0 s.1
swept_none w u (Some n) s = sweep_none w u s.0.0 s.0.1

-- ---- items

closes_none : (closes : Bool) (s : Step) (r : Reply) (u v : State) (replies : List Reply) → ClosesBehind closes s r u v replies → MakesNoneStale u v
closes_none false s r u v replies behind = same_state u v behind.1
closes_none true s r u v replies (inl behind) = same_state u v behind.2
closes_none true s r u v replies (inr behind) = step_none format.Line u v (step.Close behind.0) behind.1 refl behind.3

-- an item that is no edit makes no conversation stale
pub item_none : (o : LabelledStyle) (l : ReplyLabel) (w v : State) (i : Item) (replies : List Reply) (out : List ℕ) → is_edit i ≡ false → Takes o l w i v replies out → MakesNoneStale w v
item_none o l w v (item.Step f s) replies out other t =
    λ j stale. step_none f w t.1 s t.0 other t.3 j (closes_none o.closes s t.0 t.1 v t.2 t.4 j stale)
item_none o l w v (item.Sweep f) replies out other t = swept_none w v t.0 t.1
item_none o l w v (item.BadLine n) replies out other t = same_state w v t.1
item_none o l w v item.EndOfText replies out other t = same_state w v t.1
