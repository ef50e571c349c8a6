use Rattle.std.proofs.Common.{◌∙◌, ℕ, List, Option, Some, None, Bor, ap, codes, if◌then◌else◌, option_and_then, option_map, sym}
use Rattle.json.specs.Find.{as_str}
use Rattle.json.specs.Json.{Json}
use Rattle.scrib_objects.specs.ExchangeMembers.{text_value}
use Rattle.scrib_objects.specs.Objects.{flag, id_field, tag_in, text_field}
use Rattle.scrib_objects.proofs.ExchangeMemberLemmas.{id_field_of, spelled_exchange, tag_shown, text_field_of}
use Rattle.scrib_objects.proofs.exchange_members.exchange_of.Goals as goal

pub returns : goal.returns
returns c = λ j h.
    let o = c.args.options in
    let m = c.args.members in
    let shown = option_map (λ (t : Bor (List ℕ)). t.now) c.in_ok-tag.tag in
    spelled_exchange o j c.in_ok-word.word.now c.in_ok-id.id.text.now c.in_ok-from.from.now c.in_ok-to.to.now c.in_ok-message.message.now shown
    (ap (λ (x : Option Json). option_and_then as_str x) (h.values (codes "do")) ∙ ap (λ (x : Option (Bor (List ℕ))). option_and_then as_str (option_map text_value x)) c.in_ok-word.was)
    (sym c.is_exchange.ensures ∙ c.if-not-is_exchange.false)
    (record {
      id = ap (λ (x : Option Json). option_and_then (id_field o.names) x) (h.values (codes "id")) ∙ id_field_of o.names m.id c.in_ok-id.id (h.plain (codes "id")) c.in_ok-id.was (sym c.is_allowed.ensures ∙ c.if-not-is_allowed.false);
      from = ap (λ (x : Option Json). option_and_then text_field x) (h.values (codes "from")) ∙ text_field_of m.from c.in_ok-from.from (h.plain (codes "from")) c.in_ok-from.was;
      to = ap (λ (x : Option Json). option_and_then text_field x) (h.values (codes "to")) ∙ text_field_of m.to c.in_ok-to.to (h.plain (codes "to")) c.in_ok-to.was;
      message = ap (λ (x : Option Json). option_and_then text_field x) (h.values (codes "message")) ∙ text_field_of m.message c.in_ok-message.message (h.plain (codes "message")) c.in_ok-message.was;
      json = ap flag (h.values (codes "json"));
    })
    (ap (λ (x : Option Json). if o.tags then tag_in x else Some None) (h.values (codes "tag")) ∙ tag_shown o.tags m.tag c.in_ok-tag.tag (h.plain (codes "tag")) c.in_ok-tag.ensures)
