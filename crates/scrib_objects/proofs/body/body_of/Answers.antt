use Rattle.std.proofs.Common.{◌≡◌, ◌∙◌, ℕ, Option, Some, None, option_map, ap, sym}
use Rattle.std.specs.Prelude.{Vec, MatchOption, IsSomeAnd}
use Rattle.std.specs.declared.alloc.Global.{Global}
use Rattle.scrib_objects.specs.declared.object_line.ObjectBody.{ObjectBody}
use Rattle.scrib_objects.specs.declared.object_line.ObjectBody.TheVariants.{Line}
use Rattle.scrib_objects.specs.Objects.{as_line, shown_body, line_of}
use Rattle.scrib_objects.proofs.LineLemmas.{behind_nothing, line_body}
use Rattle.scrib_objects.proofs.body.body_of.Goals as goal

-- the body of the line, where there is one
shows-line : (line : Option (Vec ℕ Global)) (body : Option ObjectBody) → MatchOption line (body ≡ None) (λ l. IsSomeAnd body (λ b. b ≡ Line l))
    → option_map shown_body body ≡ option_map as_line (option_map (λ l. l.items) line)
shows-line None body h = ap (option_map shown_body) h
shows-line (Some l) None h = absurd h
shows-line (Some l) (Some b) h = ap (λ (x : ObjectBody). Some (shown_body x)) h

pub returns : goal.returns
returns c = λ j b.
    shows-line c.in_ok-line.line c.map.result c.map.ensures.cases
    ∙ ap (option_map as_line) (c.in_ok-line.ensures j b ∙ behind_nothing c.in_ok-empty.empty.items (line_of c.args.names c.in-Some-json_of.json c.in-Some.word.now j) c.in_ok-empty.ensures.items)
    ∙ line_body c.args.names c.in-Some-json_of.json c.in-Some.word.now j (c.in-Some.ensures j b) (c.in-Some-json_of.ensures j b) (sym c.if-eq.ensures)
