use Rattle.std.proofs.Common.{ℕ, List, Option}
use Rattle.scrib_script_reader.specs.Fields.{IsOperatorText, IsPayloadText, IsCut}
use Rattle.scrib_script_reader.proofs.MessageTexts.{message-cut, cut-message, cut-once}
use Rattle.scrib_script_reader.proofs.text.message_of.Goals as goal

pub returns-in_default : goal.returns-in_default
returns-in_default c = λ m h.
    let none : (before between : List ℕ) → IsCut c.args.bytes.now before between → ⊥ = rw c.in_default.is at c.parts_of.ensures in
    none _ _ (message-cut c.args.bytes.now m h)

pub returns-in_default-2 : goal.returns-in_default-2
returns-in_default-2 c = λ m h.
    let cut : IsCut c.args.bytes.now c.in-Some.before.now c.in-Some.between.now = rw c.in-Some.is at c.parts_of.ensures in
    let none : (op : Option (List ℕ)) → IsOperatorText c.in-Some.before.now op → ⊥ = rw c.in_default-2.is at c.in_ok-op.ensures in
    none m.op ((cut-once c.args.bytes.now _ _ _ _ cut (message-cut c.args.bytes.now m h)).0, h.1)

pub returns-in_default-3 : goal.returns-in_default-3
returns-in_default-3 c = λ m h.
    let cut : IsCut c.args.bytes.now c.in-Some.before.now c.in-Some.between.now = rw c.in-Some.is at c.parts_of.ensures in
    let none : (payload : List (List (List ℕ))) → IsPayloadText c.in-Some.between.now payload → ⊥ = rw c.in_default-3.is at c.in_ok-payload.ensures in
    none m.payload ((cut-once c.args.bytes.now _ _ _ _ cut (message-cut c.args.bytes.now m h)).1, h.2)

pub returns : goal.returns
returns c =
    let cut : IsCut c.args.bytes.now c.in-Some.before.now c.in-Some.between.now = rw c.in-Some.is at c.parts_of.ensures in
    let op : IsOperatorText c.in-Some.before.now c.in-Some-2.op = rw c.in-Some-2.is at c.in_ok-op.ensures in
    let payload : IsPayloadText c.in-Some.between.now c.in-Some-3.payload = rw c.in-Some-3.is at c.in_ok-payload.ensures in
    rw c.in_ok-new.ensures (cut-message c.args.bytes.now c.in-Some.before.now c.in-Some.between.now (record { op = c.in-Some-2.op; payload = c.in-Some-3.payload }) cut op payload)
