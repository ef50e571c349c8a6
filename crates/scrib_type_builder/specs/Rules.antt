-- The rules on the type of a recursion's body, and on the types of the blocks of a choice (this project's own).
use Rattle.std.specs.Prelude.{◌≡◌, ◌≢◌, ◌⊎◌, ℕ, true, false, List, [], ◌∷◌, ◌++◌, Option, Some, None}
use Rattle.scrib_types.specs.declared.spot.Spot.{Spot}
use Rattle.scrib_types.specs.Trees.{GlobalTree, GlobalEnd, GlobalVar, GlobalRec, Comm, GlobalBranches}
use Rattle.scrib_types.specs.WellFormed.{leads_to_communication}
use Rattle.scrib_tree.specs.declared.tree.ModuleTree.{ModuleTree}
use Rattle.scrib_static_checks.specs.declared.fault.FaultKind.{FaultKind}
use Rattle.scrib_static_checks.specs.declared.fault.FaultKind.TheVariants as kind
use Rattle.scrib_static_checks.specs.Elaboration.{and_branches}
use Rattle.scrib_static_checks.specs.Faults.{share_operator}
use Rattle.scrib_type_builder.specs.declared.built_type.BuiltType.{BuiltType}
use Rattle.scrib_type_builder.specs.declared.built_type.Origin.{Origin}
use Rattle.scrib_type_builder.specs.declared.build_error.BuildError.{BuildError}
use Rattle.scrib_type_builder.specs.declared.build_error.BuildError.TheVariants.{Broken, OutOfMemory}
use Rattle.scrib_type_builder.specs.BuiltType.{type_of}

-- the body begins with a communication, after recursions, and this is the type of its recursion
pub record IsClosed (body t : BuiltType) : Type 0 where
  pub guarded : leads_to_communication (type_of body) ≡ true
  pub global : type_of t ≡ GlobalRec (type_of body)
  pub origins : t.origins.items ≡ body.origins.items

-- the body does not, and the error has this position, or memory was refused
abbrev pub IsUnguardedBody : ModuleTree → Spot → (body : GlobalTree) → BuildError → Type 0
IsUnguardedBody home spot g (Broken h b) =
    (h.now ≡ home) × (b.spot ≡ spot) × (b.kind ≡ kind.Unguarded) × (leads_to_communication g ≡ false)
IsUnguardedBody home spot g OutOfMemory = Unit {0}

-- there is no receiver so far, or it is this one
abbrev pub IsFirst : Option (List ℕ) → List ℕ → Type 0
IsFirst None q = Unit {0}
IsFirst (Some r) q = r ≡ q

-- the branches of the block's type were added to those of the blocks before it
pub record IsAdded (chooser : List ℕ) (before after : Option (List ℕ)) (old new : GlobalBranches)
    (g : GlobalTree) : Type 0 where
  pub receiver : List ℕ
  pub branches : GlobalBranches
  pub is : g ≡ Comm chooser receiver branches
  pub first : IsFirst before receiver
  pub receiver_is : after ≡ Some receiver
  pub apart : share_operator old branches ≡ false
  pub joined : new ≡ and_branches old branches

-- the origins of the block's communications, except its first one, were added after the others
abbrev pub AddsOrigins : (old new of : List (Option Origin)) → Type 0
AddsOrigins old new of =
    (of ≡ []) ⊎ ((rest : List (Option Origin)) × (first : Option Origin) × (of ≡ rest ++ first ∷ [])
    × (new ≡ old ++ rest))

-- the block's type does not fit the chooser, or the blocks before it
abbrev pub BranchFails : FaultKind → (chooser : List ℕ) → (receiver : Option (List ℕ)) → (earlier : GlobalBranches)
    → GlobalTree → Type 0
BranchFails kind.EmptyBranch chooser receiver earlier g = g ≡ GlobalEnd
BranchFails kind.ContinueHead chooser receiver earlier g = (n : ℕ) × (g ≡ GlobalVar n)
BranchFails kind.RecHead chooser receiver earlier g = (h : GlobalTree) × (g ≡ GlobalRec h)
BranchFails kind.NotChooser chooser receiver earlier g =
    (p q : List ℕ) × (cs : GlobalBranches) × (g ≡ Comm p q cs) × (p ≢ chooser)
BranchFails kind.TwoReceivers chooser receiver earlier g =
    (q r : List ℕ) × (cs : GlobalBranches) × (g ≡ Comm chooser q cs) × (receiver ≡ Some r) × (r ≢ q)
BranchFails kind.SameOperator chooser receiver earlier g =
    (q : List ℕ) × (cs : GlobalBranches) × (g ≡ Comm chooser q cs) × IsFirst receiver q
    × (share_operator earlier cs ≡ true)
BranchFails other chooser receiver earlier g = ⊥

-- the fault is at this position, or memory was refused
abbrev pub IsBranchFault : ModuleTree → Spot → (chooser : List ℕ) → (receiver : Option (List ℕ))
    → (earlier : GlobalBranches) → GlobalTree → BuildError → Type 0
IsBranchFault home spot chooser receiver earlier g (Broken h b) =
    (h.now ≡ home) × (b.spot ≡ spot) × BranchFails b.kind chooser receiver earlier g
IsBranchFault home spot chooser receiver earlier g OutOfMemory = Unit {0}
