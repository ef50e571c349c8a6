use Rattle.std.proofs.Common.{◌∙◌, Result, Ok, Err, OnOk, sym}
use Rattle.scrib_types.specs.declared.event.Event.TheVariants.{Sent}
use Rattle.scrib_record.specs.declared.exchanges.Exchange.{Exchange}
use Rattle.scrib_record.specs.Exchanges.{IsExchange}
use Rattle.scrib_record.proofs.NumberingSteps.{more_exchanges, more_kept}
use Rattle.scrib_record.proofs.numbering.number_exchange.Goals as goal

then : {T E : Type 0} (r : Result T E) (P Q : Type 0) → (P → Q) → OnOk r P → OnOk r Q
then (Ok x) P Q f h = f h
then (Err e) P Q f h = tt

pub returns-clause-exchanges : goal.returns-clause-exchanges
returns-clause-exchanges c =
    let roles = c.args.roles.now in
    let x : Exchange = record { send = c.in_ok-send.send; message = c.in_ok-copy-4.field-0; from = c.in-Some-Some.sender; to = c.in-Some-Some.receiver } in
    let same = c.in_ok-copy-3.ensures ∙ sym c.in_ok-copy-4.ensures in
    let is : IsExchange roles x = record {
      sender = c.args.from.now;
      receiver = c.args.to.now;
      send = c.in_ok-send.ensures ∙ (λ t. Sent (c.in_ok-copy.ensures t) (c.in_ok-copy-2.ensures t) (same t));
      from = sym c.place_of.ensures ∙ c.in-Some-Some.is-0;
      to = sym c.place_of-2.ensures ∙ c.in-Some-Some.is-1;
    } in
    then c.number_of.result _ _ (more_exchanges roles c.args.exchanges.now c.number_of.new.self x is c.requires) c.number_of.ensures.more

pub returns-clause-kept : goal.returns-clause-kept
returns-clause-kept c =
    let x : Exchange = record { send = c.in_ok-send.send; message = c.in_ok-copy-4.field-0; from = c.in-Some-Some.sender; to = c.in-Some-Some.receiver } in
    then c.number_of.result _ _ (more_kept c.args.exchanges.now c.number_of.new.self x) c.number_of.ensures.more
