use Rattle.std.proofs.Common.{◌≡◌, ◌∙◌, inl, inr, ℕ, Bool, true, false, List, [], ◌∷◌, ◌++◌, Option, None, Some, option_map, sym, ap}
use Rattle.std.specs.Borrow.{Bor}
use Rattle.scrib_objects.specs.declared.exchange_object.IdValue.{IdValue}
use Rattle.scrib_objects.specs.declared.exchange_object.TagValue.{TagValue}
use Rattle.scrib_objects.specs.ExchangeObjects.{IsIdValue, IsTagValue}
use Rattle.scrib_objects.proofs.ExchangeObjectLemmas.{IdFits, TagFits, id_text, read_exchange, tag_text}
use Rattle.scrib_objects.proofs.exchange_object.exchange_object.Goals as goal

-- the value of `id`, as its text says it
record IdRead (names : Bool) (bytes : List ℕ) (v : IdValue) : Type 0 where
  quoted : Bool
  is : bytes ≡ id_text quoted v.text.now v.rest.now
  fits : IdFits names quoted v.text.now

id-read : (names : Bool) (bytes : List ℕ) (v : IdValue) → IsIdValue names bytes v → IdRead names bytes v
id-read names bytes v (inl n) = record { quoted = false; is = n.is; fits = n.number }
id-read names bytes v (inr n) = record { quoted = true; is = n.is; fits = (n.allowed, n.plain, n.some) }

-- the member `tag`, or that there is none
record TagRead (tags : Bool) (bytes : List ℕ) (v : TagValue) : Type 0 where
  tag : Option (List ℕ)
  is : bytes ≡ tag_text tag v.rest.now
  fits : TagFits tags tag (option_map (λ t. t.now) v.tag)

tag-read : (tags : Bool) (bytes : List ℕ) (v : TagValue) → IsTagValue tags bytes v → TagRead tags bytes v
tag-read tags bytes v (inl h) = record { tag = None; is = h.0; fits = h.1 }
tag-read tags bytes v (inr h) = record { tag = Some h.text; is = h.is; fits = (h.plain, h.some, h.short, h.tag) }

pub returns : goal.returns
returns c =
    let word = c.in_ok-word.word in
    let from = c.in_ok-from.from in
    let id = c.in_ok-id.id in
    let message = c.in_ok-message.message in
    let to = c.in_ok-to.to in
    let ids = id-read c.args.options.names c.in_ok-behind_id.field-0.now id c.in_ok-id.ensures in
    let tags = tag-read c.args.options.tags message.rest.now c.in_ok-tag.field-0 c.in_ok-tag.ensures in
    let behind_tag : c.in_ok-tag.field-0.rest.now ≡ 44 ∷ 34 ∷ 116 ∷ 111 ∷ 34 ∷ 58 ∷ 34 ∷ (to.text.now ++ 34 ∷ 125 ∷ []) =
    c.in_ok-behind_to.ensures ∙ ap (λ (x : List ℕ). 44 ∷ 34 ∷ 116 ∷ 111 ∷ 34 ∷ 58 ∷ 34 ∷ x) (c.in_ok-to.ensures.is ∙ ap (λ (x : List ℕ). to.text.now ++ 34 ∷ x) (c.is_end.ensures c.if-not-is_end.false)) in
    let behind_message = tags.is ∙ ap (tag_text tags.tag) behind_tag in
    let behind_id = c.in_ok-behind_message.ensures ∙ ap (λ (x : List ℕ). 44 ∷ 34 ∷ 109 ∷ 101 ∷ 115 ∷ 115 ∷ 97 ∷ 103 ∷ 101 ∷ 34 ∷ 58 ∷ 34 ∷ x) (c.in_ok-message.ensures.is ∙ ap (λ (x : List ℕ). message.text.now ++ 34 ∷ x) behind_message) in
    let behind_from = c.in_ok-behind_id.ensures ∙ ap (λ (x : List ℕ). 44 ∷ 34 ∷ 105 ∷ 100 ∷ 34 ∷ 58 ∷ x) (ids.is ∙ ap (id_text ids.quoted id.text.now) behind_id) in
    let behind_word = c.in_ok-behind_from.ensures ∙ ap (λ (x : List ℕ). 44 ∷ 34 ∷ 102 ∷ 114 ∷ 111 ∷ 109 ∷ 34 ∷ 58 ∷ 34 ∷ x) (c.in_ok-from.ensures.is ∙ ap (λ (x : List ℕ). from.text.now ++ 34 ∷ x) behind_from) in
    let line = c.in_ok-behind_do.ensures ∙ ap (λ (x : List ℕ). 123 ∷ 34 ∷ 100 ∷ 111 ∷ 34 ∷ 58 ∷ 34 ∷ x) (c.in_ok-word.ensures.is ∙ ap (λ (x : List ℕ). word.text.now ++ 34 ∷ x) behind_word) in
    read_exchange c.args.options c.args.line.now word.text.now from.text.now ids.quoted id.text.now message.text.now tags.tag (option_map (λ (t : Bor (List ℕ)). t.now) c.in_ok-tag.field-0.tag) to.text.now
    c.in-Ok.ensures.1 line (sym c.is_exchange.ensures ∙ c.if-not-is_exchange.false)
    c.in_ok-word.ensures.plain (c.in_ok-from.ensures.plain, c.in_ok-from.ensures.some) (c.in_ok-message.ensures.plain, c.in_ok-message.ensures.some) (c.in_ok-to.ensures.plain, c.in_ok-to.ensures.some) ids.fits tags.fits
