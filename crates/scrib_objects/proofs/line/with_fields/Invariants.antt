use Rattle.std.proofs.Common.{◌≡◌, ◌++◌, map, drop, option_map}
use Rattle.json.specs.Json.{Json}
use Rattle.json.specs.Find.{BeginsWith}
use Rattle.scrib_types.specs.Texts.{after_each}
use Rattle.scrib_objects.specs.Objects.{fields_under}
use Rattle.scrib_objects.proofs.line.with_fields.Given as goal

-- the line with the fields to come is the whole line
abbrev pub invariant-loop-key : goal.invariant-loop-key
invariant-loop-key l = (j : Json) → BeginsWith l.object j
    → option_map (λ fs. l.line.items ++ after_each 32 fs) (fields_under l.names j (drop l.key-index (map (λ key. key.now) l.keys)))
    ≡ option_map (λ fs. l.initial.line.items ++ after_each 32 fs) (fields_under l.names j (map (λ key. key.now) l.keys))
