-- The meanings of the protocols that an edit can change.
-- Only contracts of private functions cite this file.
use Rattle.std.specs.Prelude.{◌≡◌, ℕ, true, false, List, map, Option, Some, None, Contains}
use Rattle.std.specs.Option.{option_map}
use Rattle.scrib_types.specs.declared.profile.Profile.{Profile}
use Rattle.scrib_types.specs.WellFormed.{projects}
use Rattle.scrib_types.specs.Agreement.{Agreement}
use Rattle.scrib_types.specs.Meaning.{agreement_of}
use Rattle.scrib_tree.specs.declared.tree.ModuleTree.{ModuleTree}
use Rattle.scrib_elaborate.specs.declared.elaborated.Elaborated.{Elaborated}
use Rattle.scrib_static_checks.specs.Elaboration.{Elaborates}
use Rattle.scrib_static_checks.specs.Faults.{IsBroken}
use Rattle.scrib_elaborate.specs.Meaning.{elaborated_meaning}
use Rattle.scrib_elaborate.specs.Sites.{AreSites}
use Rattle.scrib_project.specs.declared.fault.Unmergeable.{Unmergeable}
use Rattle.scrib_project.specs.Faults.{first_without, IsPlaced}
use Rattle.scrib_record.specs.declared.compilation.Compiled.{Compiled}
use Rattle.scrib_library.specs.declared.declared.Entry.{Entry}
use Rattle.scrib_library.specs.declared.meanings.NamedElaborated.{NamedElaborated}
use Rattle.scrib_library.specs.declared.meanings.NamedMeaning.{NamedMeaning}
use Rattle.scrib_library.specs.declared.fault.EditFault.{EditFault}
use Rattle.scrib_library.specs.declared.fault.EditFault.TheVariants as edit
use Rattle.scrib_library.specs.Edits.{IsBrokenIn, IsUnmergeableIn}
use Rattle.scrib_library.specs.Entries.{entry_names}

-- the names of the elaborated types
abbrev pub elaborated_names : List NamedElaborated → List (List (List ℕ))
elaborated_names xs = map (λ (x : NamedElaborated). x.name) xs

-- the names with these meanings
abbrev pub meaning_names : List NamedMeaning → List (List (List ℕ))
meaning_names ys = map (λ (y : NamedMeaning). y.name) ys

-- the elaborated type of the name, if it has a meaning
abbrev pub found : NamedElaborated → Option Agreement
found x = option_map elaborated_meaning x.elaborated

-- the meaning of the name, if it has one
abbrev pub meant : NamedMeaning → Option Agreement
meant y = option_map (λ (c : Compiled). agreement_of c.protocol) y.compiled

-- the type projects on each of its roles under the profile, if it exists
abbrev pub ProjectsUnder : Profile → Option Agreement → Type 0
ProjectsUnder profile None = Unit {0}
ProjectsUnder profile (Some a) = projects profile a.global a.roles ≡ true

-- the meaning of the entry's protocol; none where it is no longer declared
abbrev pub IsMeant : List ModuleTree → Entry → Option Agreement → Type 0
IsMeant modules e None = e.is_declared ≡ false
IsMeant modules e (Some a) = (e.is_declared ≡ true) × Elaborates modules e.home.now.name e.protocol.now.name a

-- the meaning of the protocol of some entry of this name
pub record IsMeaningOf (modules : List ModuleTree) (es : List Entry) (name : List (List ℕ))
    (o : Option Agreement) : Type 0 where
  pub entry : Entry
  pub there : Contains es entry
  pub named : name ≡ entry.name
  pub means : IsMeant modules entry o

-- the meaning of one entry's protocol, or the reason why it has none

-- the sites of the entry's elaborated protocol, if it has a meaning, are those of its type
abbrev pub HasSites : List ModuleTree → Entry → Option Elaborated → Type 0
HasSites modules e None = Unit {0}
HasSites modules e (Some p) = AreSites modules e.home.now.name e.protocol.now.name p

-- the elaborated type of this entry's protocol
pub record IsFoundFor (modules : List ModuleTree) (e : Entry) (x : NamedElaborated) : Type 0 where
  pub named : x.name ≡ e.name
  pub means : IsMeant modules e (found x)
  pub sites : HasSites modules e x.elaborated

-- the entry's protocol has no meaning, for this fault, or memory was refused
abbrev pub IsBrokenEntry : List ModuleTree → Entry → EditFault → Type 0
IsBrokenEntry modules e (edit.Elaborate f) =
    (e.is_declared ≡ true) × ((a : Agreement) → Elaborates modules e.home.now.name e.protocol.now.name a → ⊥)
    × IsBroken modules e.home.now.name e.protocol.now.name f
IsBrokenEntry modules e edit.OutOfMemory = Unit {0}
IsBrokenEntry modules e other = ⊥

-- the elaborated type is that of one of these entries
pub record IsFoundAmong (modules : List ModuleTree) (es : List Entry) (x : NamedElaborated) : Type 0 where
  pub entry : Entry
  pub there : Contains es entry
  pub found : IsFoundFor modules entry x

-- the meaning of each entry's protocol, in the same order
pub record AreElaborated (modules : List ModuleTree) (es : List Entry) (xs : List NamedElaborated) : Type 0 where
  pub names : elaborated_names xs ≡ entry_names es
  pub sound : (x : NamedElaborated) → Contains xs x → IsFoundAmong modules es x

-- the meaning of each entry's protocol, in the same order, and each projects under the profile
pub record AreMeanings (profile : Profile) (modules : List ModuleTree) (es : List Entry)
    (ys : List NamedMeaning) : Type 0 where
  pub names : meaning_names ys ≡ entry_names es
  pub sound : (y : NamedMeaning) → Contains ys y → IsMeaningOf modules es y.name (meant y)
  pub projected : (y : NamedMeaning) → Contains ys y → ProjectsUnder profile (meant y)

-- the projections of one protocol, or the reason why it has none

-- the projected meaning of this elaborated type
pub record IsProjected (profile : Profile) (x : NamedElaborated) (y : NamedMeaning) : Type 0 where
  pub named : y.name ≡ x.name
  pub means : meant y ≡ found x
  pub projected : ProjectsUnder profile (meant y)

-- The type does not project on the role under the profile, and this is its first such role. The place is that of a
-- choice whose branches do not merge, where the sites are those of the type.
pub record IsUnprojected (profile : Profile) (x : NamedElaborated) (u : Unmergeable) : Type 0 where
  pub elaborated : Elaborated
  pub is : x.elaborated ≡ Some elaborated
  pub first : first_without profile (elaborated_meaning elaborated).global (elaborated_meaning elaborated).roles ≡ Some u.role
  pub place : (modules : List ModuleTree) (home : List (List ℕ)) (name : List ℕ)
      → AreSites modules home name elaborated → IsPlaced profile modules home name (elaborated_meaning elaborated).global u

-- why this elaborated type has no projections, or memory was refused
abbrev pub StopsNamed : Profile → NamedElaborated → EditFault → Type 0
StopsNamed profile x (edit.Project u) = IsUnprojected profile x u
StopsNamed profile x edit.OutOfMemory = Unit {0}
StopsNamed profile x other = ⊥

-- the projection is that of one of these types
pub record IsProjectionOf (profile : Profile) (xs : List NamedElaborated) (y : NamedMeaning) : Type 0 where
  pub source : NamedElaborated
  pub there : Contains xs source
  pub named : y.name ≡ source.name
  pub means : meant y ≡ found source
  pub projected : ProjectsUnder profile (meant y)

-- the projections of each, in the same order
pub record AreProjected (profile : Profile) (xs : List NamedElaborated) (ys : List NamedMeaning) : Type 0 where
  pub names : meaning_names ys ≡ elaborated_names xs
  pub sound : (y : NamedMeaning) → Contains ys y → IsProjectionOf profile xs y

-- some entry is declared
abbrev pub SomeIsDeclared : List Entry → Type 0
SomeIsDeclared es = (e : Entry) × Contains es e × (e.is_declared ≡ true)

-- the protocol of each declared entry has a meaning
abbrev pub AreElaborable : List ModuleTree → List Entry → Type 0
AreElaborable modules es =
    (e : Entry) → Contains es e → e.is_declared ≡ true → (a : Agreement)
    × Elaborates modules e.home.now.name e.protocol.now.name a

-- why one of these types has no projections, or memory was refused
abbrev pub StopsProjection : Profile → List NamedElaborated → EditFault → Type 0
StopsProjection profile xs (edit.Project u) = (x : NamedElaborated) × Contains xs x × IsUnprojected profile x u
StopsProjection profile xs edit.OutOfMemory = Unit {0}
StopsProjection profile xs other = ⊥

-- the reason why an entry's protocol has no meaning, or no projections under the profile
abbrev pub IsEntryRefusal : Profile → List ModuleTree → List Entry → EditFault → Type 0
IsEntryRefusal profile modules es (edit.Elaborate f) = SomeIsDeclared es × IsBrokenIn modules f
IsEntryRefusal profile modules es (edit.Project u) =
    SomeIsDeclared es × AreElaborable modules es × IsUnmergeableIn profile modules u
IsEntryRefusal profile modules es edit.OutOfMemory = Unit {0}
IsEntryRefusal profile modules es other = ⊥
