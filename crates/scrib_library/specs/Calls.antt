-- Calls in statements, and the protocols that reach those of a module by calls.
-- Only contracts of private functions cite this file.
use Rattle.std.specs.Prelude.{◌≡◌, ◌≢◌, ◌⊎◌, ℕ, List, Some, Contains}
use Rattle.scrib_tree.specs.declared.tree.ModuleTree.{ModuleTree}
use Rattle.scrib_static_checks.specs.Source.{Body, Done, Then, Statement, Sends, Chooses, Repeats, Continues, Calls, Blocks, NoBlock, OrBlock}
use Rattle.scrib_static_checks.specs.SourceView.{body_of}
use Rattle.scrib_static_checks.specs.Names.{looked_in, all_but_last, last_name}
use Rattle.scrib_library.specs.declared.declared.Entry.{Entry}
use Rattle.scrib_library.specs.Listed.{AreInOrder}
use Rattle.scrib_library.specs.Entries.{entry_names}

-- the path of each call in the statements has the property
abbrev mutual
  pub EachCall : (List (List ℕ) → Type 0) → Body → Type 0
  EachCall P Done = Unit {0}
  EachCall P (Then s b) = EachCallAt P s × EachCall P b

  pub EachCallAt : (List (List ℕ) → Type 0) → Statement → Type 0
  EachCallAt P (Sends m p qs s) = Unit {0}
  EachCallAt P (Chooses p bs s) = EachCallOf P bs
  EachCallAt P (Repeats x b s) = EachCall P b
  EachCallAt P (Continues x s) = Unit {0}
  EachCallAt P (Calls path roles s) = P path

  pub EachCallOf : (List (List ℕ) → Type 0) → Blocks → Type 0
  EachCallOf P NoBlock = Unit {0}
  EachCallOf P (OrBlock b s bs) = EachCall P b × EachCallOf P bs

-- a call of this path in the module `m` refers to another protocol than `name` of `home`
abbrev pub IsOther : ModuleTree → (home : List (List ℕ)) (name : List ℕ) → (path : List (List ℕ)) → Type 0
IsOther m home name path = looked_in m (all_but_last path) ≡ Some home → last_name path ≡ name → ⊥

-- the first entry's protocol does not call the second's
abbrev pub DoesNotCall : Entry → Entry → Type 0
DoesNotCall e r = EachCall (IsOther e.home.now r.home.now.name r.protocol.now.name) (body_of e.protocol.now.body)

-- the entry is of another module than the edited one, and its protocol calls none of these
pub record IsBeside (edited : List (List ℕ)) (rs : List Entry) (e : Entry) : Type 0 where
  pub other : e.home.now.name ≢ edited
  pub calls : (r : Entry) → Contains rs r → DoesNotCall e r

-- Each entry is reached or waits. No waiting entry calls one of the first reached entries.
pub record IsWorklist (edited : List (List ℕ)) (es reached waiting firsts : List Entry) : Type 0 where
  pub sound : (e : Entry) → Contains reached e → Contains es e
  pub each : (e : Entry) → Contains es e → Contains reached e ⊎ Contains waiting e
  pub beside : (e : Entry) → Contains waiting e → Contains es e × IsBeside edited firsts e

-- the second list has the entries of the first in the order of names, one of each name
pub record AreGathered (es rs : List Entry) : Type 0 where
  pub sorted : AreInOrder (entry_names rs)
  pub sound : (e : Entry) → Contains rs e → Contains es e
  pub each : (e : Entry) → Contains es e → Contains (entry_names rs) e.name

-- the entries, in order, of the edited module and those that reach one of these by calls
pub record AreReaching (edited : List (List ℕ)) (es rs : List Entry) : Type 0 where
  pub sorted : AreInOrder (entry_names rs)
  pub sound : (e : Entry) → Contains rs e → Contains es e
  pub each : (e : Entry) → Contains es e → Contains (entry_names rs) e.name ⊎ IsBeside edited rs e
