-- The effect of a block on the type of what follows it (this project's own). Only contracts of this crate, and of
-- private functions of `scrib_elaborate`, cite this file.
use Rattle.std.specs.Prelude.{◌≡◌, ◌⊎◌, ◌==◌, ℕ, ◌+◌, ◌≤◌, true, List, [], ◌∷◌, length, map, slice_get, Option, Some, None, option_map, if◌then◌else◌}
use Rattle.std.specs.Str.{bytes_eq}
use Rattle.std.specs.Borrow.{Bor}
use Rattle.scrib_types.specs.declared.spot.Spot.{Spot}
use Rattle.scrib_types.specs.WellFormed.{has_role, distinct_roles}
use Rattle.scrib_types.specs.Trees.{GlobalTree, Comm, GlobalBranches}
use Rattle.scrib_tree.specs.declared.tree.ModuleTree.{ModuleTree}
use Rattle.scrib_static_checks.specs.declared.effect.CallEffect.{CallEffect}
use Rattle.scrib_static_checks.specs.declared.effect.CallEffect.TheVariants.{Nothing, Joining, Other}
use Rattle.scrib_static_checks.specs.Source.{Body}
use Rattle.scrib_static_checks.specs.SourceView.{body_of}
use Rattle.scrib_static_checks.specs.Names.{Declaration, roles_of, declarations}
use Rattle.scrib_static_checks.specs.Joining.{AddsNothing, OnlyJoins, BeginsAt}

-- the first choice of the block of d is at this position, in the protocol at this place of all
pub record IsChoiceAt (modules : List ModuleTree) (d : Declaration) (b : Body) (at : ℕ) (spot : Spot) : Type 0 where
  pub home : Declaration
  pub there : slice_get (declarations modules) at ≡ Some home
  pub first : BeginsAt modules d b home spot

-- the place of the first of this name
abbrev pub place_of : List ℕ → List (List ℕ) → Option ℕ
place_of r [] = None
place_of r (d ∷ ds) = if bytes_eq r d then Some 0 else option_map (λ k. k + 1) (place_of r ds)

-- the block only joins, by the role that is declared at this place, and contains a choice
pub record JoinsBy (modules : List ModuleTree) (d : Declaration) (b : Body) (chooser at : ℕ)
    (spot : Spot) : Type 0 where
  pub role : List ℕ
  pub there : place_of role (roles_of d) ≡ Some chooser
  pub only : OnlyJoins modules d role b
  pub something : AddsNothing modules d b → ⊥
  pub first : IsChoiceAt modules d b at spot

-- the block contains more than joins by one role
pub record AddsMore (modules : List ModuleTree) (d : Declaration) (b : Body) : Type 0 where
  pub something : AddsNothing modules d b → ⊥
  pub more : (p : List ℕ) → has_role p (roles_of d) ≡ true → OnlyJoins modules d p b → ⊥

-- the block has this effect
abbrev pub HasEffect : List ModuleTree → Declaration → Body → CallEffect → Type 0
HasEffect modules d b Nothing = AddsNothing modules d b
HasEffect modules d b (Joining chooser at spot) = JoinsBy modules d b chooser at spot
HasEffect modules d b Other = AddsMore modules d b

-- the protocol, whose roles are different, has this effect, or the effect is `Other`
abbrev pub IsEffectOf : List ModuleTree → Declaration → CallEffect → Type 0
IsEffectOf modules d s =
    (s ≡ Other) ⊎ ((distinct_roles (roles_of d) ≡ true) × HasEffect modules d (body_of d.protocol.body) s)

-- the effect of two blocks, one after the other
abbrev pub both : CallEffect → CallEffect → CallEffect
both Nothing later = later
both (Joining p at s) Nothing = Joining p at s
both (Joining p at s) (Joining q at' s') = if p == q then Joining p at s else Other
both (Joining p at s) Other = Other
both Other later = Other

-- the effect of a choice with one branch by the role at this place, if there is one
abbrev pub joining_at : Option ℕ → (at : ℕ) → Spot → CallEffect
joining_at None at spot = Other
joining_at (Some k) at spot = Joining k at spot

-- the effect of a call that passes these roles, from the effect of the called protocol
abbrev pub IsGiven : (declared given : List (List ℕ)) (of call : CallEffect) → Type 0
IsGiven declared given Nothing call = call ≡ Nothing
IsGiven declared given (Joining k at spot) call =
    (length given ≤ k) ⊎ ((role : List ℕ) × (slice_get given k ≡ Some role)
    × (call ≡ joining_at (place_of role declared) at spot))
IsGiven declared given Other call = call ≡ Other

-- the values of borrowed names
abbrev pub names_of : List (Bor (List ℕ)) → List (List ℕ)
names_of rs = map (λ (r : Bor (List ℕ)). r.now) rs

-- A call of a protocol with this effect leaves this type of what follows it unchanged. Here `given` are the roles of
-- the requested protocol that are passed for those of the called one.
abbrev pub Passes : CallEffect → (given : List (List ℕ)) → GlobalTree → Type 0
Passes Nothing given g = Unit {0}
Passes (Joining k at spot) given g =
    (p : List ℕ) × (q : List ℕ) × (cs : GlobalBranches) × (slice_get given k ≡ Some p) × (g ≡ Comm p q cs)
Passes Other given g = ⊥
