use Rattle.std.proofs.Common.{◌≡◌, ◌∙◌, ◌++◌, ◌∷◌, [], List, ℕ, ap, append_assoc}
use Rattle.scrib_objects.proofs.LineLemmas.{field_missing, field_added}
use Rattle.scrib_objects.proofs.line.with_fields.Goals as goal

pub returns-in_default : goal.returns-in_default
returns-in_default c = λ j b.
    field_missing (λ key. key.now) c.args.keys.now c.loop-key.key-index _ c.loop-key-test.true c.args.names j c.loop-key.line.items _ (c.in_default.ensures j b) (c.loop-key.invariant j b)

pub loop-key-preserved : goal.loop-key-preserved
loop-key-preserved c = λ j b.
    let line : c.push_bytes-in-loop-key.new.out.items ≡ c.loop-key.line.items ++ 32 ∷ c.in-Some.field.now =
    c.in_ok-push_bytes-2.ensures
    ∙ ap (λ (l : List ℕ). l ++ c.as_bytes.result.now) c.in_ok-push_bytes.ensures
    ∙ append_assoc c.loop-key.line.items (32 ∷ []) c.as_bytes.result.now
    ∙ ap (λ (f : List ℕ). c.loop-key.line.items ++ 32 ∷ f) c.as_bytes.ensures.value in
    field_added (λ key. key.now) c.args.keys.now c.loop-key.key-index _ c.loop-key-test.true c.args.names j c.loop-key.line.items c.in-Some.field.now _ _ (c.in-Some.ensures j b) line (c.loop-key.invariant j b)
