-- What an edit does to the stored versions.
-- Only contracts of private functions cite this file.
use Rattle.std.specs.Prelude.{◌≡◌, ◌≢◌, ◌⊎◌, ◌↔◌, ℕ, ◌+◌, ◌<◌, ◌≤◌, true, List, map, Option, Some, None, is_some, Contains}
use Rattle.std.specs.Option.{option_map}
use Rattle.scrib_types.specs.Agreement.{Agreement}
use Rattle.scrib_types.specs.Meaning.{agreement_of}
use Rattle.scrib_record.specs.declared.compilation.Compiled.{Compiled}
use Rattle.scrib_record.specs.declared.version.Version.{Version}
use Rattle.scrib_record.specs.Versions.{meaning_of, number_of}
use Rattle.scrib_library.specs.declared.versions.NamedVersion.{NamedVersion}
use Rattle.scrib_library.specs.declared.versions.VersionEdit.{VersionEdit}
use Rattle.scrib_library.specs.declared.meanings.NamedMeaning.{NamedMeaning}
use Rattle.scrib_library.specs.declared.changes.ChangeKind.{ChangeKind}
use Rattle.scrib_library.specs.declared.changes.ChangeKind.TheVariants.{Added, Replaced, Withdrawn}
use Rattle.scrib_library.specs.declared.changes.Change.{Change}
use Rattle.scrib_library.specs.declared.fault.EditFault.{EditFault}
use Rattle.scrib_library.specs.declared.fault.EditFault.TheVariants as edit
use Rattle.scrib_library.specs.Edits.{has_new_version, new_versions}
use Rattle.scrib_library.specs.Listed.{AreInOrder}
use Rattle.scrib_library.specs.Stored.{version_names, IsVersion}
use Rattle.scrib_library.specs.Elaborated.{meant}

-- the edits as reported, without the new versions
abbrev pub shown_changes : List VersionEdit → List Change
shown_changes es = map (λ (e : VersionEdit). record { kind = e.kind; name = e.name }) es

-- the names of the edits
abbrev pub edit_names : List VersionEdit → List (List (List ℕ))
edit_names es = map (λ (e : VersionEdit). e.name) es

-- the names of the changes
abbrev pub change_names : List Change → List (List (List ℕ))
change_names cs = map (λ (c : Change). c.name) cs

-- the kind of a change from the first meaning to the second, if it is a change
abbrev pub IsKind : (before after : Option Agreement) → Option ChangeKind → Type 0
IsKind None None kind = kind ≡ None
IsKind None (Some a) kind = kind ≡ Some Added
IsKind (Some b) None kind = kind ≡ Some Withdrawn
IsKind (Some b) (Some a) None = b ≡ a
IsKind (Some b) (Some a) (Some kind) = (kind ≡ Replaced) × (b ≢ a)

-- the meaning of the version, if there is one
abbrev pub meaning_before : Option Version → Option Agreement
meaning_before o = option_map meaning_of o

-- the edit gives the name a new version of the protocol, with this number
pub record IsNewVersionEdit (kind : ChangeKind) (name : List (List ℕ)) (c : Compiled) (k : ℕ)
    (e : VersionEdit) : Type 0 where
  pub kind_is : e.kind ≡ kind
  pub named : e.name ≡ name
  pub version : Version
  pub made : e.version ≡ Some version
  pub meaning : meaning_of version ≡ agreement_of c.protocol
  pub number : number_of version ≡ k
  pub few : k < 65536

-- no version number is left
abbrev pub LacksNumber : ℕ → EditFault → Type 0
LacksNumber k edit.VersionsFull = 65536 ≤ k
LacksNumber k edit.OutOfMemory = Unit {0}
LacksNumber k other = ⊥

-- the edit of a name with this version, if any, and this new meaning
pub record IsEditFrom (before : Option Version) (y : NamedMeaning) (used : ℕ) (e : VersionEdit) : Type 0 where
  pub named : e.name ≡ y.name
  pub kind : IsKind (meaning_before before) (meant y) (Some e.kind)
  pub new : meaning_before e.version ≡ meant y
  pub counted : has_new_version e.kind ≡ is_some e.version
  pub number : (v : Version) → e.version ≡ Some v → (number_of v ≡ used) × (used < 65536)

-- that edit, or none where the meaning is unchanged
abbrev pub IsEdit : Option Version → NamedMeaning → ℕ → Option VersionEdit → Type 0
IsEdit before y used None = IsKind (meaning_before before) (meant y) None
IsEdit before y used (Some e) = IsEditFrom before y used e

-- the name needs a new version, and no number is left for it
abbrev pub LacksVersion : Option Version → NamedMeaning → ℕ → EditFault → Type 0
LacksVersion before y used edit.VersionsFull =
    (65536 ≤ used) × (kind : ChangeKind) × (has_new_version kind ≡ true)
    × IsKind (meaning_before before) (meant y) (Some kind)
LacksVersion before y used edit.OutOfMemory = Unit {0}
LacksVersion before y used other = ⊥

-- the name's meaning differs from its version's, and the change is of this kind
pub record IsChangedBy (olds : List NamedVersion) (ys : List NamedMeaning) (kind : ChangeKind)
    (name : List (List ℕ)) : Type 0 where
  pub meaning : NamedMeaning
  pub there : Contains ys meaning
  pub named : name ≡ meaning.name
  pub version : Option Version
  pub before : IsVersion olds meaning.name version
  pub changed : IsKind (meaning_before version) (meant meaning) (Some kind)

-- the name's meaning is its version's
pub record IsUnchanged (olds : List NamedVersion) (y : NamedMeaning) : Type 0 where
  pub version : Option Version
  pub before : IsVersion olds y.name version
  pub same : IsKind (meaning_before version) (meant y) None

-- the edit gives the name a version of its meaning
pub record IsEditOf (ys : List NamedMeaning) (e : VersionEdit) : Type 0 where
  pub meaning : NamedMeaning
  pub there : Contains ys meaning
  pub named : e.name ≡ meaning.name
  pub new : meaning_before e.version ≡ meant meaning

-- The edits, in order, of the names whose meaning differs from their version's. Each new version has a number of its
-- own, from the first on.
pub record IsDraft (olds : List NamedVersion) (ys : List NamedMeaning) (first : ℕ) (es : List VersionEdit)
    (used : ℕ) : Type 0 where
  pub sorted : AreInOrder (edit_names es)
  pub sound : (e : VersionEdit) → Contains es e → IsEditOf ys e
  pub changed : (e : VersionEdit) → Contains es e → IsChangedBy olds ys e.kind e.name
  pub complete : (y : NamedMeaning) → Contains ys y → IsUnchanged olds y ⊎ Contains (edit_names es) y.name
  pub numbers : (e : VersionEdit) (v : Version) → Contains es e → e.version ≡ Some v
      → (first ≤ number_of v) × (number_of v < used)
  pub once : (e f : VersionEdit) (v w : Version) → Contains es e → Contains es f → e.version ≡ Some v
      → f.version ≡ Some w → number_of v ≡ number_of w → e.name ≡ f.name
  pub count : used ≡ first + new_versions (shown_changes es)
  pub few : used ≤ 65536

-- changes, in order, that need more new versions than numbers are left
pub record IsOverdrawn (olds : List NamedVersion) (ys : List NamedMeaning) (first : ℕ) (cs : List Change) : Type 0 where
  pub sorted : AreInOrder (change_names cs)
  pub sound : (c : Change) → Contains cs c → IsChangedBy olds ys c.kind c.name
  pub many : 65536 < first + new_versions cs

-- why there is no draft: the version numbers run out, or memory was refused
abbrev pub StopsDraft : List NamedVersion → List NamedMeaning → ℕ → EditFault → Type 0
StopsDraft olds ys first edit.VersionsFull = (cs : List Change) × IsOverdrawn olds ys first cs
StopsDraft olds ys first edit.OutOfMemory = Unit {0}
StopsDraft olds ys first other = ⊥

-- the edit is applied: its name has its version, or none, and other names are unchanged
pub record IsApplied (before : List NamedVersion) (e : VersionEdit) (after : List NamedVersion) : Type 0 where
  pub sorted : AreInOrder (version_names after)
  pub here : (v : NamedVersion) → v.name ≡ e.name → Contains after v ↔ (e.version ≡ Some v.version)
  pub others : (v : NamedVersion) → v.name ≢ e.name → Contains after v ↔ Contains before v

-- all these edits, of different names, are applied
pub record AreApplied (before : List NamedVersion) (es : List VersionEdit) (after : List NamedVersion) : Type 0 where
  pub sorted : AreInOrder (version_names after)
  pub here : (e : VersionEdit) (v : NamedVersion) → Contains es e → v.name ≡ e.name
      → Contains after v ↔ (e.version ≡ Some v.version)
  pub others : (v : NamedVersion) → (Contains (edit_names es) v.name → ⊥) → Contains after v ↔ Contains before v
