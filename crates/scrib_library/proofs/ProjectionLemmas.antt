-- Which protocols and versions project under a profile, and what a change of the profile needs.
use Rattle.std.proofs.Common.{◌≡◌, ◌≢◌, ℕ, ◌+◌, ◌<◌, ◌≤◌, true, false, ◌&&◌, List, length, get_or, take, drop, Option, Some, None, is_some, inl, inr, refl, sym, ap, ◌∙◌, subst, arith}
use Rattle.std.specs.List.{Contains}
use Rattle.std.specs.Option.{option_map}
use Rattle.std.specs.declared.cmp.Ordering.TheVariants.{Less, Greater}
use Rattle.std.proofs.lemmas.Bool.{false≢true, cases_order}
use Rattle.std.proofs.lemmas.List.{drop_more, take_all, length-map, get_or-map, get_or-take, length-take}
use Rattle.scrib_types.specs.declared.profile.Profile.{Profile}
use Rattle.scrib_types.specs.declared.profile.Profile.TheVariants.{Reception}
use Rattle.scrib_types.specs.declared.local.Local.{Local}
use Rattle.scrib_types.specs.Agreement.{Agreement}
use Rattle.scrib_types.specs.Trees.{GlobalTree, LocalTree}
use Rattle.scrib_types.specs.LocalView.{local_of}
use Rattle.scrib_types.specs.Projection.{projection}
use Rattle.scrib_types.specs.WellFormed.{projects}
use Rattle.scrib_tree.specs.declared.tree.ModuleTree.{ModuleTree}
use Rattle.scrib_project.proofs.ProfileLemmas.{all_wider}
use Rattle.scrib_record.specs.Versions.{meaning_of}
use Rattle.scrib_library.specs.declared.versions.NamedVersion.{NamedVersion}
use Rattle.scrib_library.specs.declared.fault.EditFault.{EditFault}
use Rattle.scrib_library.specs.declared.fault.EditFault.TheVariants as edit
use Rattle.scrib_library.specs.Modules.{AllProject}
use Rattle.scrib_library.specs.Listed.{name_cmp, AreInOrder}
use Rattle.scrib_library.specs.Stored.{version_names, AreVersions, IsSpelled}
use Rattle.scrib_library.specs.Profiles.{LacksProjection, IsLeastLacking, ProfileFails}
use Rattle.scrib_library.specs.Lacking.{version_projects, AllVersionsProject, IsFirstLacking, StopsChange}
use Rattle.scrib_library.proofs.Orders.{get_or_any}
use Rattle.scrib_library.proofs.ImporterLemmas.{not_after_itself}
use Rattle.scrib_library.proofs.Texts.{text_cmp}
use Rattle.scrib_library.proofs.MeaningLemmas.{stored_means, meant_names}

-- ---- the roles of a protocol

pub is_some-local : (o : Option Local) (u : Option LocalTree) → option_map local_of o ≡ u → is_some u ≡ is_some o
is_some-local None u e = ap is_some (sym e)
is_some-local (Some l) u e = ap is_some (sym e)

module _ (profile : Profile) (g : GlobalTree) (rs : List (List ℕ)) (i : ℕ) (r : List ℕ) (lt : i < length rs) (at : r ≡ get_or rs i r) where
  next_role : projects profile g (drop i rs) ≡ (is_some (projection profile r g) && projects profile g (drop (i + 1) rs))
  next_role =
      ap (projects profile g) (drop_more rs i r lt) ∙ ap (λ x. is_some (projection profile x g) && projects profile g (drop (i + 1) rs)) (sym at)

  pub projects_more : is_some (projection profile r g) ≡ true → projects profile g (drop (i + 1) rs) ≡ projects profile g (drop i rs)
  projects_more e = sym (next_role ∙ ap (λ b. b && projects profile g (drop (i + 1) rs)) e)

  pub projects_not : is_some (projection profile r g) ≡ false → projects profile g (drop i rs) ≡ false
  projects_not e = next_role ∙ ap (λ b. b && projects profile g (drop (i + 1) rs)) e

-- ---- versions, in the order of their names

module _ (profile : Profile) (vs : List NamedVersion) where
  module _ (i : ℕ) (v : NamedVersion) (lt : i < length vs) (at : v ≡ get_or vs i v) (before : AllVersionsProject profile (take i vs)) where
    -- the first version that does not project
    not_after_first : AreInOrder (version_names vs) → (w : NamedVersion) → Contains vs w → version_projects profile w ≡ false → name_cmp v.name w.name ≢ Greater
    not_after_first sorted w p lacks greater =
        let long = length-map vs (λ (x : NamedVersion). x.name) in
        elim (cases_order i p.0) [
          | inl same ↦ not_after_itself v.name w.name (ap (λ (x : NamedVersion). x.name) (at ∙ get_or_any vs i v w lt ∙ ap (λ k. get_or vs k w) same ∙ p.2)) greater
          | inr r ↦ elim r [
            | inl less ↦ (
                let first = get_or-map (λ (x : NamedVersion). x.name) vs i v v.name lt ∙ ap (λ (x : NamedVersion). x.name) (sym at) in
                let second = get_or-map (λ (x : NamedVersion). x.name) vs p.0 w v.name p.1 ∙ ap (λ (x : NamedVersion). x.name) p.2 in
                let earlier : name_cmp v.name w.name ≡ Less = (λ k. name_cmp (sym first k) (sym second k)) ∙ sorted i p.0 v.name less (omega (arith, p.1, long)) in
                cc)
            | inr more ↦ (
                let there : Contains (take i vs) w = (p.0, omega (arith, more, p.1, length-take i vs), get_or-take i vs p.0 w more ∙ p.2) in
                false≢true (sym lacks ∙ before w there))
          ]
        ]

    pub first_here : AreInOrder (version_names vs) → version_projects profile v ≡ false → IsFirstLacking profile vs v.name
    first_here sorted lacks = record {
      lacking = v;
      there = (i, lt, sym at);
      named = refl;
      lacks = lacks;
      first = not_after_first sorted;
    }

  pub all_of : (i : ℕ) → length vs ≤ i → AllVersionsProject profile (take i vs) → AllVersionsProject profile vs
  all_of i le h = let P : List NamedVersion → Type 0 = λ l. AllVersionsProject profile l in subst P (take_all i vs le) h

-- ---- a change of the profile

-- the reception profile projects whatever any profile does
pub all_wanted : (held wanted : Profile) (vs : List NamedVersion) → wanted ≡ Reception → AllVersionsProject held vs → AllVersionsProject wanted vs
all_wanted held wanted vs is h v p =
    let a = meaning_of v.version in
    let P : Profile → Type 0 = λ x. projects x a.global a.roles ≡ true in
    subst P (sym is) (all_wider held a.global a.roles (h v p))

module _ (profile : Profile) (ms : List ModuleTree) (vs : List NamedVersion) (stored : AreVersions ms vs) where
  pub versions_project : AllProject profile ms → AllVersionsProject profile vs
  versions_project all v p = all v.name (meaning_of v.version) (stored.sound v p)

  pub names_project : AllVersionsProject profile vs → AllProject profile ms
  names_project h n a p =
      let s = stored_means ms vs stored n a p in
      subst (λ (x : Agreement). projects profile x.global x.roles ≡ true) s.2 (h (record { name = n; version = s.0 }) s.1)

  -- the first by name is the first by text
  least_lacking : ((m : ModuleTree) → Contains ms m → IsSpelled m) → (name : List (List ℕ)) → IsFirstLacking profile vs name → IsLeastLacking profile ms name
  least_lacking spelled name h =
      let P : List (List ℕ) → Type 0 = λ n. LacksProjection profile ms n in
      let lacks = subst P h.named (meaning_of h.lacking.version, stored.sound h.lacking h.there, h.lacks) in
      record {
        lacks = lacks;
        least = λ other k greater.
            let s = stored_means ms vs stored other k.0 k.1 in
            let without = subst (λ (x : Agreement). projects profile x.global x.roles ≡ false) (sym s.2) k.2 in
            h.first (record { name = other; version = s.0 }) s.1 without
            (sym (text_cmp name other (meant_names ms spelled name lacks.0 lacks.1) (meant_names ms spelled other k.0 k.1)) ∙ greater);
      }

  -- why the held profile cannot be replaced by the wanted one
  pub change_refused : ((m : ModuleTree) → Contains ms m → IsSpelled m) → (held : Profile) (f : EditFault) → StopsChange held profile vs f → ProfileFails held profile ms f
  change_refused spelled held (edit.NeedsReception name) h = least_lacking spelled name h
  change_refused spelled held edit.OutOfMemory h = h
  change_refused spelled held edit.TooManyModules h = absurd h
  change_refused spelled held edit.UnknownModule h = absurd h
  change_refused spelled held (edit.StillImported n) h = absurd h
  change_refused spelled held (edit.ImportMissing n) h = absurd h
  change_refused spelled held edit.TooManyProtocols h = absurd h
  change_refused spelled held (edit.Elaborate g) h = absurd h
  change_refused spelled held (edit.Project u) h = absurd h
  change_refused spelled held edit.VersionsFull h = absurd h
  change_refused spelled held (edit.Lex g) h = absurd h
  change_refused spelled held (edit.Parse g) h = absurd h

-- all names project under the wanted profile if the versions do
pub follows : (held wanted : Profile) (ms : List ModuleTree) (vs : List NamedVersion) → AreVersions ms vs → AllProject held ms → (AllVersionsProject held vs → AllVersionsProject wanted vs) → AllProject wanted ms
follows held wanted ms vs stored all h = names_project wanted ms vs stored (h (versions_project held ms vs stored all))
