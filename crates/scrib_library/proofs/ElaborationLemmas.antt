-- From entries to the meanings of their protocols and their projections.
use Rattle.std.proofs.Common.{◌≡◌, ℕ, Bool, true, false, ◌&&◌, if◌then◌else◌, List, ◌∷◌, [], ◌++◌, Option, Some, None, is_some, Ok, Err, inl, inr, refl, sym, ap, ◌∙◌, subst}
use Rattle.std.specs.List.{Contains}
use Rattle.std.specs.Option.{option_map}
use Rattle.std.proofs.lemmas.Bool.{false≢true}
use Rattle.std.proofs.lemmas.List.{map-append}
use Rattle.std.proofs.lemmas.List.Elements.{Contains-push_cases}
use Rattle.scrib_types.specs.declared.profile.Profile.{Profile}
use Rattle.scrib_types.specs.declared.protocol.Protocol.{Protocol}
use Rattle.scrib_types.specs.Agreement.{Agreement}
use Rattle.scrib_types.specs.Meaning.{agreement_of}
use Rattle.scrib_types.specs.Trees.{GlobalTree}
use Rattle.scrib_types.specs.Projection.{projection}
use Rattle.scrib_types.specs.WellFormed.{projects}
use Rattle.scrib_tree.specs.declared.tree.ModuleTree.{ModuleTree}
use Rattle.scrib_tree.specs.declared.tree.ProtocolDeclaration.{ProtocolDeclaration}
use Rattle.scrib_static_checks.specs.declared.fault.ElaborateFault.{ElaborateFault}
use Rattle.scrib_static_checks.specs.declared.fault.ElaborateFault.TheVariants as elaborate
use Rattle.scrib_elaborate.specs.declared.elaborated.Elaborated.{Elaborated}
use Rattle.scrib_static_checks.specs.Elaboration.{Elaborates}
use Rattle.scrib_static_checks.specs.Faults.{FailsAt, IsBroken}
use Rattle.scrib_elaborate.specs.Meaning.{elaborated_meaning, ResultMeans}
use Rattle.scrib_elaborate.specs.Sites.{AreSites}
use Rattle.scrib_project.specs.declared.projected.ProjectedProtocol.{ProjectedProtocol}
use Rattle.scrib_project.specs.declared.fault.ProjectFault.{ProjectFault}
use Rattle.scrib_project.specs.declared.fault.ProjectFault.TheVariants as project
use Rattle.scrib_project.specs.Faults.{Agrees, first_without, IsPlaced, IsFaultPlaced}
use Rattle.scrib_project.proofs.Protocols.{all_project}
use Rattle.scrib_record.specs.declared.compilation.Compiled.{Compiled}
use Rattle.scrib_library.specs.declared.declared.Entry.{Entry}
use Rattle.scrib_library.specs.declared.meanings.NamedElaborated.{NamedElaborated}
use Rattle.scrib_library.specs.declared.meanings.NamedMeaning.{NamedMeaning}
use Rattle.scrib_library.specs.declared.fault.EditFault.{EditFault}
use Rattle.scrib_library.specs.declared.fault.EditFault.TheVariants as edit
use Rattle.scrib_library.specs.FaultConversions.{edit_fault_of_elaborate, edit_fault_of_project}
use Rattle.scrib_library.specs.Listed.{AreInOrder}
use Rattle.scrib_library.specs.Entries.{entry_names, AreDeclared}
use Rattle.scrib_library.specs.Elaborated.{elaborated_names, meaning_names, found, meant, ProjectsUnder, IsMeant, IsMeaningOf, HasSites, IsFoundFor, IsFoundAmong, IsBrokenEntry, AreElaborated, AreMeanings, IsProjected, StopsNamed, IsProjectionOf, AreProjected, AreElaborable, StopsProjection, IsEntryRefusal}
use Rattle.scrib_library.proofs.Lists.{Contains-map, Contains-map_back}
use Rattle.scrib_library.proofs.Orders.{once}

-- ---- elaboration

pub broken_entry : (ms : List ModuleTree) (e : Entry) (f : ElaborateFault) → e.is_declared ≡ true → ((a : Agreement) → Elaborates ms e.home.now.name e.protocol.now.name a → ResultMeans (Err f) a) → FailsAt ms e.home.now.name e.protocol.now.name f
    → IsBrokenEntry ms e (edit_fault_of_elaborate f)
broken_entry ms e elaborate.OutOfMemory s only k = tt
broken_entry ms e (elaborate.Broken f) s only k = (s, only, k)

module _ (ms : List ModuleTree) (es : List Entry) where
  -- the case of one more elaborated entry
  pub elaborated_more : (xs : List NamedElaborated) (ys : List Entry) (e : Entry) (x : NamedElaborated) → Contains es e → elaborated_names xs ≡ entry_names ys → ((y : NamedElaborated) → Contains xs y → IsFoundAmong ms es y) → IsFoundFor ms e x
      → (elaborated_names (xs ++ x ∷ []) ≡ entry_names (ys ++ e ∷ [])) × ((y : NamedElaborated) → Contains (xs ++ x ∷ []) y → IsFoundAmong ms es y)
  elaborated_more xs ys e x there names sound new = (
    map-append (λ (y : NamedElaborated). y.name) xs (x ∷ []) ∙ (λ i. names i ++ new.named i ∷ []) ∙ sym (map-append (λ (y : Entry). y.name) ys (e ∷ [])),
    λ y p. elim (Contains-push_cases xs x y p) [
      | inl q ↦ sound y q
      | inr same ↦ (let P : NamedElaborated → Type 0 = λ z. IsFoundAmong ms es z in subst P same (record { entry = e; there = there; found = new }))
    ],
  )

  -- the reason why an entry has no meaning, under every profile
  pub not_elaborated : AreDeclared ms es → (e : Entry) (f : EditFault) → Contains es e → IsBrokenEntry ms e f → (profile : Profile) → IsEntryRefusal profile ms es f
  not_elaborated stand e (edit.Elaborate f) there k profile =
      let s = stand e there k.0 in
      let P : List (List ℕ) → Type 0 = λ home. ((a : Agreement) → Elaborates ms home s.declaration.protocol.name a → ⊥) × IsBroken ms home s.declaration.protocol.name f in
      let Q : List ℕ → Type 0 = λ name. ((a : Agreement) → Elaborates ms e.home.now.name name a → ⊥) × IsBroken ms e.home.now.name name f in
      let both = subst P (ap (λ (x : ModuleTree). x.name) s.entry.home) (subst Q (ap (λ (x : ProtocolDeclaration). x.name) s.entry.protocol) (k.1, k.2)) in
      ((e, there, k.0), (s.declaration, s.there, both.0, both.1))
  not_elaborated stand e edit.OutOfMemory there k profile = tt
  not_elaborated stand e (edit.Project u) there k profile = absurd k
  not_elaborated stand e edit.TooManyModules there k profile = absurd k
  not_elaborated stand e edit.UnknownModule there k profile = absurd k
  not_elaborated stand e (edit.StillImported n) there k profile = absurd k
  not_elaborated stand e (edit.ImportMissing n) there k profile = absurd k
  not_elaborated stand e edit.TooManyProtocols there k profile = absurd k
  not_elaborated stand e edit.VersionsFull there k profile = absurd k
  not_elaborated stand e (edit.Lex f) there k profile = absurd k
  not_elaborated stand e (edit.Parse f) there k profile = absurd k
  not_elaborated stand e (edit.NeedsReception n) there k profile = absurd k

-- ---- projection

-- a constructed protocol projects on each role under the profile
pub projects_made : (profile : Profile) (a : Agreement) (p : Protocol) → Agrees profile a (Ok p) → ProjectsUnder profile (Some (agreement_of p))
projects_made profile a p k = subst (λ (x : Agreement). projects profile x.global x.roles ≡ true) (sym k.0) (all_project profile a.global a.roles k.1)

pub projected_named : (profile : Profile) (x : NamedElaborated) (e : Elaborated) (p : ProjectedProtocol) (c : Compiled) (o : Option Compiled) → x.elaborated ≡ Some e → Agrees profile (elaborated_meaning e) (Ok p.protocol) → agreement_of c.protocol ≡ agreement_of p.protocol → o ≡ Some c → IsProjected profile x (record { name = x.name; compiled = o })
projected_named profile x e p c o from k same is =
    let shown : option_map (λ (d : Compiled). agreement_of d.protocol) o ≡ Some (agreement_of p.protocol) = ap (option_map (λ (d : Compiled). agreement_of d.protocol)) is ∙ ap Some same in
    record {
      named = refl;
      means = shown ∙ ap Some k.0 ∙ ap (option_map elaborated_meaning) (sym from);
      projected = subst (ProjectsUnder profile) (sym shown) (projects_made profile (elaborated_meaning e) p.protocol k);
    }

pub nothing_named : (profile : Profile) (x : NamedElaborated) (o : Option Compiled) → x.elaborated ≡ None → o ≡ None → IsProjected profile x (record { name = x.name; compiled = o })
nothing_named profile x o from is =
    let shown : option_map (λ (d : Compiled). agreement_of d.protocol) o ≡ None = ap (option_map (λ (d : Compiled). agreement_of d.protocol)) is in
    record { named = refl; means = shown ∙ ap (option_map elaborated_meaning) (sym from); projected = subst (ProjectsUnder profile) (sym shown) tt }

pub unprojected_named : (profile : Profile) (x : NamedElaborated) (e : Elaborated) (f : ProjectFault) → x.elaborated ≡ Some e → Agrees profile (elaborated_meaning e) (Err f)
    → ((ms : List ModuleTree) (home : List (List ℕ)) (name : List ℕ) → AreSites ms home name e → IsFaultPlaced profile ms home name (elaborated_meaning e).global f) → StopsNamed profile x (edit_fault_of_project f)
unprojected_named profile x e project.OutOfMemory is k place = tt
unprojected_named profile x e (project.Unmergeable u) is k place = record { elaborated = e; is = is; first = k.0; place = place }

-- if one role has no projection, not all have one
lacking : (profile : Profile) (g : GlobalTree) (rs : List (List ℕ)) (r : List ℕ) → first_without profile g rs ≡ Some r → projects profile g rs ≡ false
lacking profile g [] r e = absurd (cc)
lacking profile g (x ∷ xs) r e = by (is_some (projection profile x g)) (lacking profile g xs r) e
  where
    by : (b : Bool) → (first_without profile g xs ≡ Some r → projects profile g xs ≡ false) → (if b then first_without profile g xs else Some x) ≡ Some r → (b && projects profile g xs) ≡ false
    by true rest d = rest d
    by false rest d = refl

module _ (profile : Profile) (xs : List NamedElaborated) where
  pub projected_more : (vs : List NamedMeaning) (ys : List NamedElaborated) (x : NamedElaborated) (v : NamedMeaning) → Contains xs x → meaning_names vs ≡ elaborated_names ys → ((w : NamedMeaning) → Contains vs w → IsProjectionOf profile xs w) → IsProjected profile x v
      → (meaning_names (vs ++ v ∷ []) ≡ elaborated_names (ys ++ x ∷ [])) × ((w : NamedMeaning) → Contains (vs ++ v ∷ []) w → IsProjectionOf profile xs w)
  projected_more vs ys x v there names sound new = (
    map-append (λ (y : NamedMeaning). y.name) vs (v ∷ []) ∙ (λ i. names i ++ new.named i ∷ []) ∙ sym (map-append (λ (y : NamedElaborated). y.name) ys (x ∷ [])),
    λ w p. elim (Contains-push_cases vs v w p) [
      | inl q ↦ sound w q
      | inr same ↦ (let P : NamedMeaning → Type 0 = λ z. IsProjectionOf profile xs z in subst P same (record { source = x; there = there; named = new.named; means = new.means; projected = new.projected }))
    ],
  )

  pub not_projected : (x : NamedElaborated) (f : EditFault) → Contains xs x → StopsNamed profile x f → StopsProjection profile xs f
  not_projected x (edit.Project u) there k = (x, there, k)
  not_projected x edit.OutOfMemory there k = tt
  not_projected x (edit.Elaborate f) there k = absurd k
  not_projected x edit.TooManyModules there k = absurd k
  not_projected x edit.UnknownModule there k = absurd k
  not_projected x (edit.StillImported n) there k = absurd k
  not_projected x (edit.ImportMissing n) there k = absurd k
  not_projected x edit.TooManyProtocols there k = absurd k
  not_projected x edit.VersionsFull there k = absurd k
  not_projected x (edit.Lex f) there k = absurd k
  not_projected x (edit.Parse f) there k = absurd k
  not_projected x (edit.NeedsReception n) there k = absurd k

-- ---- both

module _ (ms : List ModuleTree) (es : List Entry) where
  declared_meant : (e : Entry) (o : Option Agreement) → e.is_declared ≡ true → IsMeant ms e o → (a : Agreement) × Elaborates ms e.home.now.name e.protocol.now.name a
  declared_meant e None s k = absurd (false≢true (sym k ∙ s))
  declared_meant e (Some a) s k = (a, k.1)

  elaborable : AreInOrder (entry_names es) → (X : Type 0) (xs : List X) (name : X → List (List ℕ)) (o : X → Option Agreement) → ((e : Entry) → Contains es e → (x : X) × Contains xs x × (name x ≡ e.name)) → ((x : X) → Contains xs x → IsMeaningOf ms es (name x) (o x)) → AreElaborable ms es
  elaborable sorted X xs name o back sound e p s =
      let x = back e p in
      let m = sound x.0 x.1 in
      let same : m.entry ≡ e = once (λ (y : Entry). y.name) es sorted m.entry e m.there p (sym m.named ∙ x.2) in
      let P : Entry → Type 0 = λ y. IsMeant ms y (o x.0) in
      declared_meant e (o x.0) s (subst P same m.means)

  meaning_found : (x : NamedElaborated) → IsFoundAmong ms es x → IsMeaningOf ms es x.name (found x)
  meaning_found x h = record { entry = h.entry; there = h.there; named = h.found.named; means = h.found.means }

  pub elaborable_by : AreInOrder (entry_names es) → (xs : List NamedElaborated) → AreElaborated ms es xs → AreElaborable ms es
  elaborable_by sorted xs h =
      let P : (e : Entry) → List (List (List ℕ)) → Type 0 = λ e l. Contains l e.name in
      elaborable sorted NamedElaborated xs (λ x. x.name) found (λ e p. Contains-map_back (λ (x : NamedElaborated). x.name) xs e.name (subst (P e) (sym h.names) (Contains-map (λ (y : Entry). y.name) es e p))) (λ x p. meaning_found x (h.sound x p))

  pub elaborable_from : AreInOrder (entry_names es) → (profile : Profile) (ys : List NamedMeaning) → AreMeanings profile ms es ys → AreElaborable ms es
  elaborable_from sorted profile ys h =
      let P : (e : Entry) → List (List (List ℕ)) → Type 0 = λ e l. Contains l e.name in
      elaborable sorted NamedMeaning ys (λ x. x.name) meant (λ e p. Contains-map_back (λ (x : NamedMeaning). x.name) ys e.name (subst (P e) (sym h.names) (Contains-map (λ (y : Entry). y.name) es e p))) h.sound

  module _ (profile : Profile) (xs : List NamedElaborated) (h : AreElaborated ms es xs) where
    pub meanings_made : (ys : List NamedMeaning) → AreProjected profile xs ys → AreMeanings profile ms es ys
    meanings_made ys k = record {
      names = k.names ∙ h.names;
      sound = λ y p.
          let s = k.sound y p in
          let m = h.sound s.source s.there in
          let P : Option Agreement → Type 0 = λ o. IsMeant ms m.entry o in
          record { entry = m.entry; there = m.there; named = s.named ∙ m.found.named; means = subst P (sym s.means) m.found.means };
      projected = λ y p. (k.sound y p).projected;
    }

    pub no_meanings : AreInOrder (entry_names es) → AreDeclared ms es → (f : EditFault) → StopsProjection profile xs f → IsEntryRefusal profile ms es f
    no_meanings sorted stand (edit.Project u) (x, there, k) =
        let m = h.sound x there in
        let g = (elaborated_meaning k.elaborated).global in
        let P : Option Elaborated → Type 0 = λ o. IsMeant ms m.entry (option_map elaborated_meaning o) in
        let Q : Option Elaborated → Type 0 = λ o. HasSites ms m.entry o in
        let e = subst P k.is m.found.means in
        let at = k.place ms m.entry.home.now.name m.entry.protocol.now.name (subst Q k.is m.found.sites) in
        let s = stand m.entry m.there e.0 in
        let R : List (List ℕ) → Type 0 = λ home. Elaborates ms home s.declaration.protocol.name (elaborated_meaning k.elaborated) × IsPlaced profile ms home s.declaration.protocol.name g u in
        let S : List ℕ → Type 0 = λ name. Elaborates ms m.entry.home.now.name name (elaborated_meaning k.elaborated) × IsPlaced profile ms m.entry.home.now.name name g u in
        let both = subst R (ap (λ (x : ModuleTree). x.name) s.entry.home) (subst S (ap (λ (x : ProtocolDeclaration). x.name) s.entry.protocol) (e.1, at)) in
        ((m.entry, m.there, e.0), elaborable_by sorted xs h, (s.declaration, elaborated_meaning k.elaborated, s.there, both.0, lacking profile g (elaborated_meaning k.elaborated).roles u.role k.first, k.first, both.1))
    no_meanings sorted stand edit.OutOfMemory k = tt
    no_meanings sorted stand (edit.Elaborate f) k = absurd k
    no_meanings sorted stand edit.TooManyModules k = absurd k
    no_meanings sorted stand edit.UnknownModule k = absurd k
    no_meanings sorted stand (edit.StillImported n) k = absurd k
    no_meanings sorted stand (edit.ImportMissing n) k = absurd k
    no_meanings sorted stand edit.TooManyProtocols k = absurd k
    no_meanings sorted stand edit.VersionsFull k = absurd k
    no_meanings sorted stand (edit.Lex f) k = absurd k
    no_meanings sorted stand (edit.Parse f) k = absurd k
    no_meanings sorted stand (edit.NeedsReception n) k = absurd k
