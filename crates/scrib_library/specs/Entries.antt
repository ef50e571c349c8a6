-- The protocols whose meaning an edit can change, by full name.
-- Only contracts of private functions cite this file.
use Rattle.std.specs.Prelude.{◌≡◌, ◌≢◌, ◌⊎◌, ℕ, Bool, true, false, List, map, Option, Some, Contains}
use Rattle.scrib_tree.specs.declared.tree.ModuleTree.{ModuleTree}
use Rattle.scrib_tree.specs.declared.tree.ProtocolDeclaration.{ProtocolDeclaration}
use Rattle.scrib_static_checks.specs.Names.{Declaration, declarations}
use Rattle.scrib_library.specs.declared.declared.Entry.{Entry}
use Rattle.scrib_library.specs.Modules.{full_name, name_of}
use Rattle.scrib_library.specs.Listed.{AreInOrder}

-- the full names of the entries
abbrev pub entry_names : List Entry → List (List (List ℕ))
entry_names es = map (λ (e : Entry). e.name) es

-- the entry of the declared protocol
pub record IsEntryOf (d : Declaration) (e : Entry) : Type 0 where
  pub home : e.home.now ≡ d.home
  pub protocol : e.protocol.now ≡ d.protocol
  pub named : e.name ≡ name_of d

-- one of the modules declares the entry's protocol
pub record IsDeclaredIn (modules : List ModuleTree) (e : Entry) : Type 0 where
  pub declaration : Declaration
  pub there : Contains (declarations modules) declaration
  pub entry : IsEntryOf declaration e

-- the entries marked as declared are declared
abbrev pub AreDeclared : List ModuleTree → List Entry → Type 0
AreDeclared modules es = (e : Entry) → Contains es e → e.is_declared ≡ true → IsDeclaredIn modules e

-- an entry of one of these protocols of the module, with a name that no earlier entry has
pub record IsNewEntry (m : ModuleTree) (is_declared : Bool) (before : List Entry) (ps : List ProtocolDeclaration)
    (e : Entry) : Type 0 where
  pub protocol : ProtocolDeclaration
  pub there : Contains ps protocol
  pub entry : IsEntryOf (record { home = m; protocol = protocol }) e
  pub stood : e.is_declared ≡ is_declared
  pub new : Contains (entry_names before) e.name → ⊥

-- the entries in order, extended by one for each new name among these protocols of the module
pub record AreEntered (m : ModuleTree) (is_declared : Bool) (before : List Entry) (ps : List ProtocolDeclaration)
    (after : List Entry) : Type 0 where
  pub sorted : AreInOrder (entry_names after)
  pub kept : (n : List (List ℕ)) → Contains (entry_names before) n → Contains (entry_names after) n
  pub entered : (p : ProtocolDeclaration) → Contains ps p → Contains (entry_names after) (full_name m.name p.name)
  pub sound : (e : Entry) → Contains after e → Contains before e ⊎ IsNewEntry m is_declared before ps e

-- an entry for each name that a module of these names declares
pub record AreEntries (modules : List ModuleTree) (names : List (List (List ℕ))) (es : List Entry) : Type 0 where
  pub sorted : AreInOrder (entry_names es)
  pub complete : (d : Declaration) → Contains (declarations modules) d → Contains names d.home.name
      → Contains (entry_names es) (name_of d)
  pub stand : (e : Entry) → Contains es e → e.is_declared ≡ true
  pub within : (e : Entry) → Contains es e → Contains names e.home.now.name
  pub sound : AreDeclared modules es

-- an entry of a protocol that is no longer declared
pub record IsWithdrawnEntry (gone : ModuleTree) (modules : List ModuleTree) (names : List (List (List ℕ)))
    (e : Entry) : Type 0 where
  pub protocol : ProtocolDeclaration
  pub named : e.name ≡ full_name gone.name protocol.name
  pub undeclared : (d : Declaration) → Contains (declarations modules) d → Contains names d.home.name
      → e.name ≢ name_of d

-- these entries, and one for each other name that the replaced module declared
pub record AreAffectedEntries (modules : List ModuleTree) (names : List (List (List ℕ))) (gone : Option ModuleTree)
    (es : List Entry) : Type 0 where
  pub sorted : AreInOrder (entry_names es)
  pub complete : (d : Declaration) → Contains (declarations modules) d → Contains names d.home.name
      → Contains (entry_names es) (name_of d)
  pub named : (e : Entry) → Contains es e → e.name ≡ full_name e.home.now.name e.protocol.now.name
  pub withdrawn : (m : ModuleTree) (p : ProtocolDeclaration) → gone ≡ Some m → Contains m.protocols p
      → Contains (entry_names es) (full_name m.name p.name)
  pub sound : AreDeclared modules es
  pub within : (e : Entry) → Contains es e → e.is_declared ≡ true → Contains names e.home.now.name
  pub fallen : (e : Entry) → Contains es e → e.is_declared ≡ false
      → (m : ModuleTree) × (gone ≡ Some m) × IsWithdrawnEntry m modules names e
