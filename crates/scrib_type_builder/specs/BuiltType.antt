-- Types of statements, with the choices that their communications come from (this project's own).
use Rattle.std.specs.Prelude.{List, [], ◌∷◌, ◌++◌, Option, None, option_map}
use Rattle.scrib_types.specs.GlobalView.{global_of}
use Rattle.scrib_types.specs.Trees.{GlobalTree}
use Rattle.scrib_type_builder.specs.declared.built_type.BuiltType.{BuiltType}
use Rattle.scrib_type_builder.specs.declared.built_type.Origin.{Origin}

-- the pure tree of a type
abbrev pub type_of : BuiltType → GlobalTree
type_of t = global_of t.global

-- one communication without an origin for each of these, in front of the others
abbrev pub add_no_origins : {X : Type 0} → List X → List (Option Origin) → List (Option Origin)
add_no_origins [] js = js
add_no_origins (q ∷ qs) js = add_no_origins qs js ++ None ∷ []

-- the communication in front, if it has an origin, has this one
abbrev pub with_origin : Origin → List (Option Origin) → List (Option Origin)
with_origin o [] = []
with_origin o (j ∷ []) = option_map (λ _. o) j ∷ []
with_origin o (j ∷ k ∷ js) = j ∷ with_origin o (k ∷ js)
