use Rattle.std.proofs.Common.{◌≡◌, ◌≤◌, List, ℕ, Some, length, refl, subst, arith}
use Rattle.scrib_objects.specs.ExchangeObjects.{exchange_line}
use Rattle.scrib_objects.specs.Objects.{IsObjectLine, as_line}
use Rattle.scrib_objects.specs.declared.object_options.ObjectOptions.{ObjectOptions}
use Rattle.scrib_report.specs.PutBack.{bytes_of}
use Rattle.scrib_labelled.specs.ExchangeLines.{named_id}
use Rattle.scrib_labelled.specs.LabelledLines.{IsNumbered}
use Rattle.scrib_labelled.proofs.ObjectLemmas.{stands_object}
use Rattle.scrib_labelled.proofs.object_exchange.object_exchange.Goals as goal

pub returns-clause-exchange : goal.returns-clause-exchange
returns-clause-exchange c =
    let object = c.in_ok-object.object in
    let exchange = c.in_ok-exchange.exchange in
    let is = c.in_ok-exchange.ensures in
    let short : length c.args.line.bytes.now ≤ 8388608 = omega arith in
    let spelled = subst (λ (o : ObjectOptions). IsObjectLine o c.args.line.bytes.now (Some (record { tag = bytes_of object.tag; body = as_line (exchange_line object) }))) c.object_options.ensures c.in_ok-object.ensures in
    let line = subst (λ (t : List ℕ). c.as_slice.result.now ≡ t) c.in-Ok.ensures.line c.as_slice.ensures.value in
    let numbered = subst (λ (l : List ℕ). IsNumbered c.args.options.names l (named_id exchange.name exchange.id) is.plain) line is.numbered in
    record {
      plain = is.plain;
      stands = stands_object c.args.options c.args.line.bytes.now (bytes_of object.tag) (exchange_line object) (record { line = c.args.line.number; text = c.args.line.bytes.now; tag = bytes_of object.tag; session = named_id exchange.name exchange.id }) is.plain c.requires short spelled refl numbered;
      says = is.says;
      numbers = is.numbers;
      tag_is = subst (λ (t : List ℕ). c.as_slice-2.result.now ≡ t) c.in-Ok.ensures.tag c.as_slice-2.ensures.value;
    }
