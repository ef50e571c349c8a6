-- Items that a sink carries out one after another.
use Rattle.std.proofs.Common.{◌≡◌, ℕ, List, [], ◌∷◌, Some, ap, subst, ◌∙◌}
use Rattle.scrib_hold.specs.NumberedItems.{Numbered}
use Rattle.scrib_hold.specs.Sinks.{CarriesOut}
use Rattle.scrib_labelled.specs.LabelledLines.{LineLabel}
use Rattle.scrib_held_labels.specs.declared.labelled_sink.LabelledSink.{LabelledSink}
use Rattle.scrib_held_labels.specs.declared.waiting_labels.KeptLabel.{KeptLabel}
use Rattle.scrib_held_labels.specs.HeldRuns.{Carries}
use Rattle.scrib_held_labels.specs.Sinks.{CarriesItem, state_of, style_of}
use Rattle.scrib_held_labels.specs.WaitingLabels.{AreOf, kept_at}

-- no label is kept that was not
abbrev pub AreFewer : (old new : LabelledSink) → Type 0
AreFewer old new = (m : ℕ) (kept : KeptLabel) → kept_at new.waiting m ≡ Some kept → kept_at old.waiting m ≡ Some kept

-- the style stays, and labels become fewer
pub kept_style : (items : List Numbered) (old new : LabelledSink) (out : List ℕ) → CarriesOut CarriesItem old new items out → style_of new ≡ style_of old
kept_style [] old new out h = ap style_of h.0
kept_style (x ∷ items) old new out h = kept_style items h.0 new h.2 h.4 ∙ h.3.style

pub fewer_labels : (items : List Numbered) (old new : LabelledSink) (out : List ℕ) → CarriesOut CarriesItem old new items out → AreFewer old new
fewer_labels [] old new out h m kept q = subst (λ s. kept_at s.waiting m ≡ Some kept) h.0 q
fewer_labels (x ∷ items) old new out h m kept q = h.3.fewer m kept (fewer_labels items h.0 new h.2 h.4 m kept q)

-- each is carried out with the label that is its own
pub carries_all : (labels : ℕ → LineLabel) (items : List Numbered) (old new : LabelledSink) (out : List ℕ)
    → CarriesOut CarriesItem old new items out → AreOf old.waiting labels
    → Carries (style_of old) labels items (state_of old) (state_of new) out
carries_all labels [] old new out h of = (ap state_of h.0, h.1)
carries_all labels (x ∷ items) old new out h of =
    let one = h.3.carried labels of in
    let rest = carries_all labels items h.0 new h.2 h.4 (λ n kept q. of n kept (h.3.fewer n kept q)) in
    (state_of h.0, one.replies, h.1, h.2, one.takes, subst (λ o. Carries o labels items (state_of h.0) (state_of new) h.2) h.3.style rest, h.5)
