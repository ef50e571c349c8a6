-- What the code's scopes represent (this project's own). Only contracts of private functions cite this file.
use Rattle.std.specs.Prelude.{◌≡◌, ℕ, ◌+◌, List, [], map}
use Rattle.scrib_elaborate.specs.declared.scope.Level.{Level}
use Rattle.scrib_elaborate.specs.declared.scope.Scope.{Scope as CodeScope}
use Rattle.scrib_type_builder.specs.Renaming.{named}
use Rattle.scrib_static_checks.specs.Names.{Declaration, roles_of}
use Rattle.scrib_static_checks.specs.Elaboration.{Scope, inside, inside_call}
use Rattle.scrib_static_checks.specs.Table.{declaration_of}

-- the recursions' names and levels
abbrev pub levels_of : List Level → List (List ℕ × ℕ)
levels_of ls = map (λ (l : Level). (l.name.now, l.level)) ls

-- the value of a scope
abbrev pub scope_of : CodeScope → Scope
scope_of s = record { within = declaration_of s.within; given = named s.given.items; recs = levels_of s.recs.items }

-- the scope at the beginning of a protocol
abbrev pub start_scope : Declaration → Scope
start_scope d = record { within = d; given = roles_of d; recs = [] }

-- the scope is that of the beginning of the protocol
pub record IsStart (root : Declaration) (s : CodeScope) : Type 0 where
  pub scope : scope_of s ≡ start_scope root
  pub depth : s.depth ≡ 0

-- the two scopes are equal
pub record IsSameScope (old : CodeScope) (s : CodeScope) : Type 0 where
  pub scope : scope_of s ≡ scope_of old
  pub depth : s.depth ≡ old.depth

-- the scope is that inside a recursion of this name
pub record IsInsideRecursion (old : CodeScope) (name : List ℕ) (s : CodeScope) : Type 0 where
  pub scope : scope_of s ≡ inside (scope_of old) name old.depth
  pub depth : s.depth ≡ old.depth + 1

-- the scope is that inside a protocol that is called with these roles
pub record IsInsideCall (old : CodeScope) (callee : Declaration) (roles : List (List ℕ)) (s : CodeScope) : Type 0 where
  pub scope : scope_of s ≡ inside_call (scope_of old) callee roles
  pub depth : s.depth ≡ old.depth
