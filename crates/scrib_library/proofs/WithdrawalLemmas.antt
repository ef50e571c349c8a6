-- A withdrawal from the library.
use Rattle.std.proofs.Common.{◌≡◌, ◌≢◌, ℕ, ◌≤◌, true, false, List, [], ◌∷◌, Option, Some, None, inl, inr, refl, sym, ap, ◌∙◌, subst, arith}
use Rattle.std.specs.Prelude.{◌↔◌}
use Rattle.std.specs.List.{Contains}
use Rattle.std.proofs.lemmas.List.{same_from_push}
use Rattle.scrib_types.specs.declared.profile.Profile.{Profile}
use Rattle.scrib_types.specs.Agreement.{Agreement}
use Rattle.scrib_tree.specs.declared.tree.ModuleTree.{ModuleTree}
use Rattle.scrib_static_checks.specs.Names.{Declaration, dotted_eq, declarations}
use Rattle.scrib_elaborate.specs.Locality.{IsImportClosed, AgreeOn, without_module, elaborates_alike, removal_agrees}
use Rattle.scrib_static_checks.specs.Table.{IsPlace}
use Rattle.scrib_static_checks.proofs.NameLemmas.{dotted_eq-Decides}
use Rattle.scrib_record.specs.Versions.{meaning_of}
use Rattle.scrib_library.specs.declared.declared.Entry.{Entry}
use Rattle.scrib_library.specs.declared.versions.NamedVersion.{NamedVersion}
use Rattle.scrib_library.specs.declared.versions.VersionEdit.{VersionEdit}
use Rattle.scrib_library.specs.declared.meanings.NamedMeaning.{NamedMeaning}
use Rattle.scrib_library.specs.declared.plan.Plan.{Plan}
use Rattle.scrib_library.specs.declared.changes.ChangeKind.{ChangeKind}
use Rattle.scrib_library.specs.declared.changes.ChangeKind.TheVariants.{Withdrawn}
use Rattle.scrib_library.specs.declared.changes.Change.{Change}
use Rattle.scrib_library.specs.declared.fault.EditFault.{EditFault}
use Rattle.scrib_library.specs.declared.fault.EditFault.TheVariants as edit
use Rattle.scrib_library.specs.Modules.{full_name, name_of, Means, IsMeaning, DeclaredMeans, AreMeant, AreImportsThere}
use Rattle.scrib_library.specs.Listed.{AreInOrder}
use Rattle.scrib_library.specs.Entries.{AreEntered}
use Rattle.scrib_library.specs.Edits.{has_new_version, new_versions, IsImporter, IsWithdrawal, IsChanges, AreWithdrawn, AreVersionsUsed}
use Rattle.scrib_library.specs.Stored.{IsSpelled, IsLibrary}
use Rattle.scrib_library.specs.Elaborated.{ProjectsUnder, meant, meaning_names}
use Rattle.scrib_library.specs.Drafts.{shown_changes, meaning_before, IsKind, IsChangedBy, AreApplied, StopsDraft}
use Rattle.scrib_library.specs.Withdrawals.{AreNothing, AreWithdrawnMeanings, IsRemovalPlan}
use Rattle.scrib_library.proofs.Lists.{Contains-nil, Contains-head, Contains-tail, Contains-map, Contains-map_back}
use Rattle.scrib_library.proofs.Places.{either, declared-back, declared-there}
use Rattle.scrib_library.proofs.ModuleNameLemmas.{named_once, distinct_without, few_without, without-back, without-other, imports_stay, place_has, place_there, place_named}
use Rattle.scrib_library.proofs.MeaningLemmas.{declared_of, declared_means, means_declared, holdings}
use Rattle.scrib_library.specs.Plans.{IsCovered}
use Rattle.scrib_library.proofs.CoverLemmas.{projected_after, well_formed, changes_reported, versions_after, counted_after, versions_used}

-- ---- names without a meaning

-- the change of such a name, if any, is a withdrawal
only_withdrawn : (before after : Option Agreement) (kind : ChangeKind) → after ≡ None → IsKind before after (Some kind) → kind ≡ Withdrawn
only_withdrawn None None kind e h = absurd (cc)
only_withdrawn None (Some a) kind e h = absurd (cc)
only_withdrawn (Some b) None kind e h = cc
only_withdrawn (Some b) (Some a) kind e h = absurd (cc)

no_versions : (cs : List Change) → AreWithdrawn cs → new_versions cs ≡ 0
no_versions [] h = refl
no_versions (c ∷ cs) h =
    let is : has_new_version c.kind ≡ false = ap has_new_version (h c (Contains-head c cs)) in
    rw is (no_versions cs (λ x p. h x (Contains-tail c cs x p)))

module _ (gone : ModuleTree) (ys : List NamedMeaning) (withdrawn_meanings : AreWithdrawnMeanings gone ys) where
  dropped_kind : (olds : List NamedVersion) (kind : ChangeKind) (n : List (List ℕ)) → IsChangedBy olds ys kind n → kind ≡ Withdrawn
  dropped_kind olds kind n h = only_withdrawn (meaning_before h.version) (meant h.meaning) kind (withdrawn_meanings.sound h.meaning h.there).nothing h.changed

  -- so the version numbers suffice
  pub only_memory : (olds : List NamedVersion) (used : ℕ) → used ≤ 65536 → (f : EditFault) → StopsDraft olds ys used f → f ≡ edit.OutOfMemory
  only_memory olds used few edit.VersionsFull (cs, h) =
      absurd (omega (arith, few, h.many, no_versions cs (λ x p. dropped_kind olds x.kind x.name (h.sound x p))))
  only_memory olds used few edit.OutOfMemory h = refl
  only_memory olds used few edit.TooManyModules h = absurd h
  only_memory olds used few edit.UnknownModule h = absurd h
  only_memory olds used few (edit.StillImported n) h = absurd h
  only_memory olds used few (edit.ImportMissing n) h = absurd h
  only_memory olds used few edit.TooManyProtocols h = absurd h
  only_memory olds used few (edit.Elaborate g) h = absurd h
  only_memory olds used few (edit.Project u) h = absurd h
  only_memory olds used few (edit.Lex g) h = absurd h
  only_memory olds used few (edit.Parse g) h = absurd h
  only_memory olds used few (edit.NeedsReception n) h = absurd h

-- the names of the module's protocols, each once
pub withdrawn_from : (gone : ModuleTree) (es : List Entry) (ys : List NamedMeaning) → AreEntered gone false [] gone.protocols es → AreNothing es ys → AreWithdrawnMeanings gone ys
withdrawn_from gone es ys h n = record {
  sorted = (let P : List (List (List ℕ)) → Type 0 = λ l. AreInOrder l in subst P (sym n.names) h.sorted);
  complete = λ p q. (let P : List (List (List ℕ)) → Type 0 = λ l. Contains l (full_name gone.name p.name) in subst P (sym n.names) (h.entered p q));
  sound = λ y q.
      let P : List (List (List ℕ)) → Type 0 = λ l. Contains l y.name in
      let e = Contains-map_back (λ (x : Entry). x.name) es y.name (subst P n.names (Contains-map (λ (x : NamedMeaning). x.name) ys y q)) in
      elim (h.sound e.0 e.1) [
        | inl b ↦ absurd (Contains-nil e.0 b)
        | inr r ↦ record { nothing = n.nothing y q; protocol = r.protocol; there = r.there; named = sym e.2 ∙ r.entry.named }
      ];
}

-- ---- what a withdrawal changes

module _ (profile : Profile) (name : List (List ℕ)) (before : List ModuleTree) (at : ℕ) (place : IsPlace before name at) (free : (m : ModuleTree) → IsImporter before name m → ⊥) (versions : List NamedVersion) (used : ℕ) (library : IsLibrary profile before versions used) where
  abbrev after : List ModuleTree
  after = without_module name before

  abbrev gone : ModuleTree
  gone = place.here

  here : Contains before gone
  here = place_there before name at place

  named : gone.name ≡ name
  named = place_named before name at place

  abbrev S : List (List ℕ) → Type 0
  S n = n ≢ name

  closed : IsImportClosed S before
  closed m i there other imports same = free m (record { there = there; other = other; by = i; imports = imports; of = same })

  agree : AgreeOn S before after × AgreeOn S after before
  agree = removal_agrees S name before closed (λ non. non refl)

  other_home : (d : Declaration) → Contains (declarations after) d → S d.home.name
  other_home d q = without-other name before library.distinct d.home (declared-back after d q).0

  -- the others keep their meanings
  forth : (d : Declaration) (a : Agreement) → S d.home.name → DeclaredMeans before d a → DeclaredMeans after d a
  forth d a other h = elaborates_alike S before after d.home.name d.protocol.name a agree.0 other h

  back : (d : Declaration) (a : Agreement) → S d.home.name → DeclaredMeans after d a → DeclaredMeans before d a
  back d a other h = elaborates_alike S after before d.home.name d.protocol.name a agree.1 other h

  meant_after : AreMeant after
  meant_after d q =
      let b = declared-back after d q in
      let there = declared-there before d.home d.protocol (without-back name before d.home b.0) b.1 in
      let w = Contains-map_back (λ (v : NamedVersion). v.name) versions (name_of d) (library.stored.listed.complete d there) in
      let h = library.stored.sound w.0 w.1 in
      (meaning_of w.0.version, forth d (meaning_of w.0.version) (other_home d q) (declared_means before d w.0.name (meaning_of w.0.version) h w.2))

  module _ (ys : List NamedMeaning) (withdrawn_meanings : AreWithdrawnMeanings gone ys) where
    -- the withdrawn protocols are those of the module
    own : (d : Declaration) → Contains (declarations before) d → d.home.name ≡ name → Contains (meaning_names ys) (name_of d)
    own d q same =
        let b = declared-back before d q in
        let is : d.home ≡ gone = named_once before library.distinct d.home gone b.0 here (same ∙ sym named) in
        let P : ModuleTree → Type 0 = λ m. Contains m.protocols d.protocol in
        let Q : List (List ℕ) → Type 0 = λ n. Contains (meaning_names ys) (full_name n d.protocol.name) in
        subst Q (named ∙ sym same) (withdrawn_meanings.complete d.protocol (subst P is b.1))

    same_outside : (n : List (List ℕ)) → (Contains (meaning_names ys) n → ⊥) → (a : Agreement) → Means before n a ↔ Means after n a
    same_outside n non a = (
      λ h.
          let d = declared_of before n a h in
          let P : List (List ℕ) → Type 0 = λ k. Means after k a in
          let Q : List (List ℕ) → Type 0 = λ k. Contains (meaning_names ys) k in
          elim (either (dotted_eq d.0.home.name name)) [
            | inl t ↦ absurd (non (subst Q (sym d.2) (own d.0 d.1 ((dotted_eq-Decides d.0.home.name name).0 t))))
            | inr f ↦ (let other : S d.0.home.name = λ e. (let t : dotted_eq d.0.home.name name ≡ true = (dotted_eq-Decides d.0.home.name name).1 e in cc) in subst P (sym d.2) (means_declared after d.0 a (forth d.0 a other d.3)))
          ],
      λ h.
          let d = declared_of after n a h in
          let P : List (List ℕ) → Type 0 = λ k. Means before k a in
          subst P (sym d.2) (means_declared before d.0 a (back d.0 a (other_home d.0 d.1) d.3)),
    )

    nothing : (y : NamedMeaning) → Contains ys y → IsMeaning after y.name (meant y)
    nothing y q =
        let s = withdrawn_meanings.sound y q in
        let P : Option Agreement → Type 0 = λ o. IsMeaning after y.name o in
        let none : IsMeaning after y.name None = (λ a h.
        let d = declared_of after y.name a h in
        let homes = same_from_push d.0.home.name gone.name d.0.protocol.name s.protocol.name (sym d.2 ∙ s.named) in
        other_home d.0 d.1 (homes.0 ∙ named)) in
        subst P (sym s.nothing) none

    covered : IsCovered profile before after ys
    covered = record { same = same_outside; means = nothing; projected = λ y q. subst (ProjectsUnder profile) (sym (withdrawn_meanings.sound y q).nothing) tt; meant_all = meant_after }

  -- ---- the library after the withdrawal

  imports_after : AreImportsThere after
  imports_after m p =
      let there = without-back name before m p in
      let other = without-other name before library.distinct m p in
      imports_stay name before m.imports (λ i q. closed m i there other q) (library.imports m there)

  spelled_after : (m : ModuleTree) → Contains after m → IsSpelled m
  spelled_after m p = library.spelled m (without-back name before m p)

  module _ (plan : Plan) (h : IsRemovalPlan gone versions used plan) where
    covers : IsCovered profile before after h.meanings
    covers = covered h.meanings h.withdrawn_meanings

    withdrawn : AreWithdrawn (shown_changes plan.edits.items)
    withdrawn x p =
        let c = Contains-map_back (λ (e : VersionEdit). record { kind = e.kind; name = e.name }) plan.edits.items x p in
        ap (λ (y : Change). y.kind) (sym c.2) ∙ dropped_kind gone h.meanings h.withdrawn_meanings versions c.0.kind c.0.name (h.planned.draft.changed c.0 c.1)

    pub withdrawn_then : AreWithdrawn plan.changes.list
    withdrawn_then = let P : List Change → Type 0 = λ l. AreWithdrawn l in subst P (sym h.planned.list) withdrawn

    pub unused_then : plan.used ≡ used
    unused_then = omega (arith, h.planned.draft.count, no_versions (shown_changes plan.edits.items) withdrawn)

    pub named_then : plan.changes.module ≡ name
    named_then = h.planned.module_name ∙ named

    pub changes_then : IsChanges before after plan.changes.list
    changes_then =
        let P : List Change → Type 0 = λ l. IsChanges before after l in
        subst P (sym h.planned.list) (changes_reported profile before after versions library.stored h.meanings h.withdrawn_meanings.sorted covers used plan.edits.items plan.used h.planned.draft library.spelled spelled_after)

    pub withdrawal_then : IsWithdrawal profile before name after
    withdrawal_then = record {
      there = place_has before name at place;
      free = free;
      removed = refl;
      meant = well_formed profile before after versions library.stored h.meanings h.withdrawn_meanings.sorted covers library.projected imports_after;
    }

    module _ (news : List NamedVersion) (made : AreApplied versions plan.edits.items news) where
      library_after : IsLibrary profile after news plan.used
      library_after = record {
        few = few_without name before library.few;
        distinct = distinct_without name before library.distinct;
        imports = imports_after;
        spelled = spelled_after;
        stored = versions_after profile before after versions library.stored h.meanings h.withdrawn_meanings.sorted covers used plan.edits.items plan.used h.planned.draft news made;
        projected = projected_after profile before after versions library.stored h.meanings h.withdrawn_meanings.sorted covers library.projected;
        counted = counted_after profile before after versions library.stored h.meanings h.withdrawn_meanings.sorted covers used plan.edits.items plan.used h.planned.draft news made library.counted;
      }

      pub library_then : IsLibrary profile after news used
      library_then = let P : ℕ → Type 0 = λ k. IsLibrary profile after news k in subst P unused_then library_after

      pub used_then : AreVersionsUsed (holdings profile before versions used) (holdings profile after news used) plan.changes.list
      used_then =
          let P : List Change → Type 0 = λ l. AreVersionsUsed (holdings profile before versions used) (holdings profile after news plan.used) l in
          let Q : ℕ → Type 0 = λ k. AreVersionsUsed (holdings profile before versions used) (holdings profile after news k) plan.changes.list in
          subst Q unused_then (subst P (sym h.planned.list) (versions_used profile before after versions library.stored h.meanings h.withdrawn_meanings.sorted covers used plan.edits.items plan.used h.planned.draft news made library.counted))
