-- What contracts see of a library (this project's own).
use Rattle.std.specs.Prelude.{◌≡◌, ◌⊎◌, ℕ, ◌<◌, ◌≤◌, true, List, [], Option, Some, None, Contains}
use Rattle.scrib_types.specs.Agreement.{Agreement}
use Rattle.scrib_types.specs.declared.profile.Profile.{Profile}
use Rattle.scrib_types.specs.declared.profile.Profile.TheVariants.{Plain}
use Rattle.scrib_tree.specs.declared.tree.ModuleTree.{ModuleTree}
use Rattle.scrib_static_checks.specs.Names.{distinct_names, module_names}
use Rattle.scrib_library.specs.Modules.{Means, AreWellFormed, MeansOnce, AreFew}

-- a full name, and the number of its version
pub record Stamp : Type 0 where
  pub name : List (List ℕ)
  pub number : ℕ

-- the profile, the accepted modules, a stamp for each name with a meaning, in order, and the count of used versions
pub record Holdings : Type 0 where
  pub profile : Profile
  pub modules : List ModuleTree
  pub stamps : List Stamp
  pub used : ℕ

-- a new library with this profile
abbrev pub no_holdings_under : Profile → Holdings
no_holdings_under profile = record { profile = profile; modules = []; stamps = []; used = 0 }

-- a new library with the plain profile
abbrev pub no_holdings : Holdings
no_holdings = no_holdings_under Plain

-- the name has a version of this number
abbrev pub HasNumber : Holdings → List (List ℕ) → ℕ → Type 0
HasNumber h name k = Contains h.stamps (record { name = name; number = k })

-- the number of the name's version, if it has one
abbrev pub IsNumber : Holdings → List (List ℕ) → Option ℕ → Type 0
IsNumber h name None = (k : ℕ) → HasNumber h name k → ⊥
IsNumber h name (Some k) = HasNumber h name k

-- the meaning of the name, and the number of its version
pub record HasStamp (h : Holdings) (name : List (List ℕ)) (a : Agreement) (k : ℕ) : Type 0 where
  pub meaning : Means h.modules name a
  pub number : HasNumber h name k

-- some name has this meaning and a version of this number
abbrev pub IsStamp : Holdings → Agreement → ℕ → Type 0
IsStamp h a k = (name : List (List ℕ)) × HasStamp h name a k

-- Exactly the names with a meaning have numbers, one each. No two names share a number. Each number is below the count
-- of used versions, which is at most 65,536.
pub record AreNumbered (h : Holdings) : Type 0 where
  pub numbered : (name : List (List ℕ)) (a : Agreement) → Means h.modules name a → (k : ℕ) × HasNumber h name k
  pub meant : (name : List (List ℕ)) (k : ℕ) → HasNumber h name k → (a : Agreement) × Means h.modules name a
  pub one : (name : List (List ℕ)) (k l : ℕ) → HasNumber h name k → HasNumber h name l → k ≡ l
  pub once : (m n : List (List ℕ)) (k : ℕ) → HasNumber h m k → HasNumber h n k → m ≡ n
  pub below : (name : List (List ℕ)) (k : ℕ) → HasNumber h name k → k < h.used
  pub few : h.used ≤ 65536

-- What a library can hold: few modules, of different names, well formed under the profile. Each name has at most one
-- meaning, and the versions are numbered.
pub record IsAccepting (h : Holdings) : Type 0 where
  pub few : AreFew h.modules
  pub distinct : distinct_names (module_names h.modules) ≡ true
  pub formed : AreWellFormed h.profile h.modules
  pub once : MeansOnce h.modules
  pub numbered : AreNumbered h

-- A name whose meaning an edit leaves alone keeps its number. Each other number was never used.
pub record IsStamped (before after : Holdings) : Type 0 where
  pub kept : (name : List (List ℕ)) (a : Agreement) (k : ℕ) → HasStamp before name a k → Means after.modules name a
      → HasNumber after name k
  pub fresh : (name : List (List ℕ)) (a : Agreement) (k : ℕ) → HasStamp after name a k
      → HasStamp before name a k ⊎ (before.used ≤ k)
