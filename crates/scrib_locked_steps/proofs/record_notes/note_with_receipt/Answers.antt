use Rattle.std.proofs.Common.{◌≡◌, ◌++◌, ◌∷◌, ◌∙◌, [], List, ap}
use Rattle.scrib_locked_steps.specs.declared.pass.Receipt.{Receipt}
use Rattle.scrib_locked_steps.proofs.ReceiptLemmas.{receipt_of, pass_rises, pass_receipted, pass_agrees}
use Rattle.scrib_locked_steps.proofs.record_notes.note_with_receipt.Goals as goal

pub invariant_of-pass-in-Ok : goal.invariant_of-pass-in-Ok
invariant_of-pass-in-Ok c =
    let n = c.in-Ok.noted in
    let pushed : c.push_reserved.new.self.items ≡ c.pass.inside.receipts.items ++ receipt_of n c.in-Ok-Ok.kept ∷ [] =
    c.push_reserved.ensures.items ∙ ap (λ (xs : List Receipt). xs ++ receipt_of n c.in-Ok-Ok.kept ∷ []) c.reserve.ensures.items in
    pass_rises _ c.args.conversation.now c.args.pass.now c.pass.inside.conversation c.pass.inside.opening c.pass.inside.receipts.items c.push_reserved.new.self.items c.args.event c.in-Ok-Ok.kept n
    c.note_in_record.new.conversation c.pass.view_is pushed c.in-Ok-Ok.ensures c.pass.invariant c.requires.agrees c.in-Ok.ensures.ok

pub returns-in-Ok-clause-answered : goal.returns-in-Ok-clause-answered
returns-in-Ok-clause-answered c =
    let n = c.in-Ok.noted in
    let pushed : c.push_reserved.new.self.items ≡ c.pass.inside.receipts.items ++ receipt_of n c.in-Ok-Ok.kept ∷ [] =
    c.push_reserved.ensures.items ∙ ap (λ (xs : List Receipt). xs ++ receipt_of n c.in-Ok-Ok.kept ∷ []) c.reserve.ensures.items in (
      c.requires.agrees,
      c.in-Ok.ensures.ok,
      pass_receipted _ c.args.conversation.now c.args.pass.now c.pass.inside.conversation c.pass.inside.opening c.pass.inside.receipts.items c.push_reserved.new.self.items c.args.event c.in-Ok-Ok.kept n
          c.note_in_record.new.conversation c.pass.view_is pushed c.in-Ok-Ok.ensures c.pass.invariant c.requires.agrees c.in-Ok.ensures.ok,
    )

pub returns-in-Ok-clause-agrees : goal.returns-in-Ok-clause-agrees
returns-in-Ok-clause-agrees c =
    let n = c.in-Ok.noted in
    let pushed : c.push_reserved.new.self.items ≡ c.pass.inside.receipts.items ++ receipt_of n c.in-Ok-Ok.kept ∷ [] =
    c.push_reserved.ensures.items ∙ ap (λ (xs : List Receipt). xs ++ receipt_of n c.in-Ok-Ok.kept ∷ []) c.reserve.ensures.items in
    pass_agrees _ c.args.conversation.now c.args.pass.now c.pass.inside.conversation c.pass.inside.opening c.pass.inside.receipts.items c.push_reserved.new.self.items c.args.event c.in-Ok-Ok.kept n
    c.note_in_record.new.conversation c.pass.view_is pushed c.in-Ok-Ok.ensures c.pass.invariant c.requires.agrees c.in-Ok.ensures.ok
