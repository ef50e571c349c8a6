-- What a withdrawal does to the stored versions.
-- Only contracts of private functions cite this file.
use Rattle.std.specs.Prelude.{◌≡◌, ◌≢◌, ◌⊎◌, ℕ, List, [], ◌∷◌, Option, Some, None, Contains}
use Rattle.std.specs.declared.cmp.Ordering.TheVariants.{Greater}
use Rattle.scrib_tree.specs.declared.tree.ModuleTree.{ModuleTree}
use Rattle.scrib_tree.specs.declared.tree.ProtocolDeclaration.{ProtocolDeclaration}
use Rattle.scrib_static_checks.specs.Table.{IsPlace}
use Rattle.scrib_library.specs.declared.plan.Plan.{Plan}
use Rattle.scrib_library.specs.declared.declared.Entry.{Entry}
use Rattle.scrib_library.specs.declared.meanings.NamedMeaning.{NamedMeaning}
use Rattle.scrib_library.specs.declared.versions.NamedVersion.{NamedVersion}
use Rattle.scrib_library.specs.Modules.{full_name}
use Rattle.scrib_library.specs.Edits.{IsImporter}
use Rattle.scrib_library.specs.Affected.{ImportsSome}
use Rattle.scrib_library.specs.Listed.{name_cmp, AreInOrder}
use Rattle.scrib_library.specs.Entries.{entry_names}
use Rattle.scrib_library.specs.Elaborated.{meant, meaning_names}
use Rattle.scrib_library.specs.Plans.{IsPlanFor}

-- the module has another name than this one, and imports it
abbrev pub Imports : ModuleTree → List (List ℕ) → Type 0
Imports m name = (m.name ≢ name) × ImportsSome (name ∷ []) m

-- the index of the first module of this name, which no other module imports
pub record IsFreePlace (modules : List ModuleTree) (name : List (List ℕ)) (at : ℕ) : Type 0 where
  pub place : IsPlace modules name at
  pub free : (m : ModuleTree) → IsImporter modules name m → ⊥

-- the first, in the order of names, of the other modules that import `name`
pub record IsFirstImporter (modules : List ModuleTree) (name by : List (List ℕ)) : Type 0 where
  pub importer : ModuleTree
  pub imports : IsImporter modules name importer
  pub named : importer.name ≡ by
  pub first : (m : ModuleTree) → IsImporter modules name m → name_cmp by m.name ≢ Greater

-- the first such name, or none if no name is such
abbrev pub IsFirstImporterOrNone : List ModuleTree → List (List ℕ) → Option (List (List ℕ)) → Type 0
IsFirstImporterOrNone modules name None = (m : ModuleTree) → IsImporter modules name m → ⊥
IsFirstImporterOrNone modules name (Some by) = IsFirstImporter modules name by

-- the lesser of the two names, or the second if the first is missing
abbrev pub IsLesserName : Option (List (List ℕ)) → (second first : List (List ℕ)) → Type 0
IsLesserName None b c = c ≡ b
IsLesserName (Some a) b c = ((c ≡ a) ⊎ (c ≡ b)) × (name_cmp c a ≢ Greater) × (name_cmp c b ≢ Greater)

-- the name of a protocol of the module, without a meaning
pub record IsWithdrawnMeaning (gone : ModuleTree) (y : NamedMeaning) : Type 0 where
  pub nothing : meant y ≡ None
  pub protocol : ProtocolDeclaration
  pub there : Contains gone.protocols protocol
  pub named : y.name ≡ full_name gone.name protocol.name

-- the entries' names, each without a meaning
pub record AreNothing (es : List Entry) (ys : List NamedMeaning) : Type 0 where
  pub names : meaning_names ys ≡ entry_names es
  pub nothing : (y : NamedMeaning) → Contains ys y → meant y ≡ None

-- the name of each protocol of the module, in order, each without a meaning
pub record AreWithdrawnMeanings (gone : ModuleTree) (ys : List NamedMeaning) : Type 0 where
  pub sorted : AreInOrder (meaning_names ys)
  pub complete : (p : ProtocolDeclaration) → Contains gone.protocols p
      → Contains (meaning_names ys) (full_name gone.name p.name)
  pub sound : (y : NamedMeaning) → Contains ys y → IsWithdrawnMeaning gone y

-- the plan is for the module's names, each without a meaning
pub record IsRemovalPlan (gone : ModuleTree) (versions : List NamedVersion) (used : ℕ) (p : Plan) : Type 0 where
  pub meanings : List NamedMeaning
  pub withdrawn_meanings : AreWithdrawnMeanings gone meanings
  pub planned : IsPlanFor versions meanings used gone.name p
