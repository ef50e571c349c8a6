use Rattle.std.proofs.Common.{◌∙◌, ℕ, take, drop, sym, ap}
use Rattle.scrib_labels.proofs.TagLemmas.{cut_has_tag, cut_is_bad}
use Rattle.scrib_labels.proofs.tag.tag_cut.Goals as goal

pub returns-then-is_tag : goal.returns-then-is_tag
returns-then-is_tag c = cut_has_tag c.args.line.now c.in-Some.after.now c.split_at.result.0.now c.split_at.result.1.now c.in-Some.ensures
    (c.split_at.ensures.front ∙ ap (λ (n : ℕ). take n c.in-Some.after.now) c.field_len.ensures.is)
    (c.split_at.ensures.back ∙ ap (λ (n : ℕ). drop n c.in-Some.after.now) c.field_len.ensures.is)
    (sym c.is_tag.ensures ∙ c.if-is_tag.true)

pub returns-else-is_tag : goal.returns-else-is_tag
returns-else-is_tag c = cut_is_bad c.args.line.now c.in-Some.after.now c.split_at.result.0.now c.in-Some.ensures
    (c.split_at.ensures.front ∙ ap (λ (n : ℕ). take n c.in-Some.after.now) c.field_len.ensures.is)
    (sym c.is_tag.ensures ∙ c.if-is_tag.false)
