-- From the meanings of names to the versions, the changes and the numbers after an edit.
use Rattle.std.proofs.Common.{◌≡◌, ◌≢◌, ℕ, ◌≤◌, true, List, [], ◌∷◌, Option, Some, None, ◌⊎◌, inl, inr, refl, sym, ap, ◌∙◌, subst, arith}
use Rattle.std.specs.Prelude.{◌↔◌}
use Rattle.std.specs.List.{Contains}
use Rattle.std.specs.Ordering.{nat_cmp}
use Rattle.std.specs.declared.cmp.Ordering.TheVariants.{Less, Equal}
use Rattle.std.specs.Cmp.Lexicographic.{slice_cmp}
use Rattle.std.proofs.lemmas.Cmp.{nat_list_cmp_total, tied_itself}
use Rattle.scrib_types.specs.Texts.{dotted_text}
use Rattle.scrib_types.specs.Agreement.{Agreement}
use Rattle.scrib_types.specs.declared.profile.Profile.{Profile}
use Rattle.scrib_types.specs.WellFormed.{projects}
use Rattle.scrib_tree.specs.declared.tree.ModuleTree.{ModuleTree}
use Rattle.scrib_static_checks.specs.Names.{dotted_eq}
use Rattle.scrib_static_checks.proofs.NameLemmas.{dotted_eq-Decides}
use Rattle.scrib_record.specs.declared.version.Version.{Version}
use Rattle.scrib_record.specs.Versions.{meaning_of}
use Rattle.scrib_library.specs.declared.versions.NamedVersion.{NamedVersion}
use Rattle.scrib_library.specs.declared.versions.VersionEdit.{VersionEdit}
use Rattle.scrib_library.specs.declared.meanings.NamedMeaning.{NamedMeaning}
use Rattle.scrib_library.specs.declared.changes.ChangeKind.{ChangeKind}
use Rattle.scrib_library.specs.declared.changes.ChangeKind.TheVariants.{Added, Replaced, Withdrawn}
use Rattle.scrib_library.specs.declared.changes.Change.{Change}
use Rattle.scrib_library.specs.Modules.{name_of, Means, IsMeaning, AreImportsThere, AllProject, AreWellFormed}
use Rattle.scrib_library.specs.Holdings.{HasNumber}
use Rattle.scrib_library.specs.Listed.{AreInOrder}
use Rattle.scrib_library.specs.Edits.{Changes, NamedBefore, IsChanges, has_new_version, AreVersionsUsed, RunsOut}
use Rattle.scrib_library.specs.Stored.{version_names, HasVersion, IsVersion, AreVersions, AreCounted, IsSpelled}
use Rattle.scrib_library.specs.Elaborated.{ProjectsUnder, meant, meaning_names}
use Rattle.scrib_library.specs.Drafts.{shown_changes, edit_names, meaning_before, IsKind, IsChangedBy, IsUnchanged, IsDraft, IsOverdrawn, AreApplied}
use Rattle.scrib_library.specs.Plans.{IsCovered}
use Rattle.scrib_library.proofs.Lists.{Contains-nil, Contains-head_at, Contains-tail, Contains-cases, Contains-map, Contains-map_back, count_within}
use Rattle.scrib_library.proofs.Orders.{once}
use Rattle.scrib_library.proofs.Places.{either}
use Rattle.scrib_library.proofs.DraftLemmas.{names_shown}
use Rattle.scrib_library.proofs.MeaningLemmas.{means_once, means_declared, one_version, means_stored, stored_means, answered, holdings, number_there, number_back, sorted_texts}

-- a name is among these or not
pub among : (n : List (List ℕ)) (names : List (List (List ℕ))) → Contains names n ⊎ (Contains names n → ⊥)
among n [] = inr (λ p. Contains-nil n p)
among n (m ∷ ms) =
    elim (either (dotted_eq n m)) [
      | inl t ↦ inl (Contains-head_at m ms n (sym ((dotted_eq-Decides n m).0 t)))
      | inr f ↦ elim (among n ms) [
        | inl p ↦ inl (Contains-tail m ms n p)
        | inr non ↦ inr (λ p. elim (Contains-cases m ms n p) [ inl e ↦ (let t : dotted_eq n m ≡ true = (dotted_eq-Decides n m).1 (sym e) in cc) | inr q ↦ non q ])
      ]
    ]

-- a name with one version has no other
one_before : (vs : List NamedVersion) → AreInOrder (version_names vs) → (n : List (List ℕ)) (b : Option Version) (w : Version) → IsVersion vs n b → HasVersion vs n w → b ≡ Some w
one_before vs sorted n None w p q = absurd (p w q)
one_before vs sorted n (Some v) w p q =
    ap (λ (x : NamedVersion). Some x.version) (one_version vs sorted (record { name = n; version = v }) (record { name = n; version = w }) p q refl)

two_before : (vs : List NamedVersion) → AreInOrder (version_names vs) → (n : List (List ℕ)) (b c : Option Version) → IsVersion vs n b → IsVersion vs n c → b ≡ c
two_before vs sorted n None None p q = refl
two_before vs sorted n None (Some w) p q = absurd (p w q)
two_before vs sorted n (Some v) c p q = sym (one_before vs sorted n c v q p)

-- nothing is both done and not done
not_both : (o p : Option Agreement) (kind : ChangeKind) → IsKind o p None → IsKind o p (Some kind) → ⊥
not_both None None kind same other = cc
not_both None (Some a) kind same other = cc
not_both (Some b) None kind same other = cc
not_both (Some b) (Some a) kind same other = other.1 same

-- the kind of a change in terms of meanings
kind_some : (before after : List ModuleTree) (n : List (List ℕ)) (o p : Option Agreement) (kind : ChangeKind) → IsMeaning before n o → IsMeaning after n p → IsKind o p (Some kind) → Changes before after kind n
kind_some before after n None None kind b a e = absurd (cc)
kind_some before after n None (Some x) kind b a e =
    let is : kind ≡ Added = cc in
    let P : ChangeKind → Type 0 = λ k. Changes before after k n in
    subst P (sym is) (b, (x, a))
kind_some before after n (Some y) None kind b a e =
    let is : kind ≡ Withdrawn = cc in
    let P : ChangeKind → Type 0 = λ k. Changes before after k n in
    subst P (sym is) ((y, b), a)
kind_some before after n (Some y) (Some x) kind b a e =
    let P : ChangeKind → Type 0 = λ k. Changes before after k n in
    subst P (sym e.0) (y, x, b, a, e.1)

kind_none : (before after : List ModuleTree) (n : List (List ℕ)) (o p : Option Agreement) → IsMeaning before n o → IsMeaning after n p → IsKind o p None → (kind : ChangeKind) → Changes before after kind n → ⊥
kind_none before after n None None b a e Added d = a d.1.0 d.1.1
kind_none before after n None None b a e Withdrawn d = b d.0.0 d.0.1
kind_none before after n None None b a e Replaced d = b d.0 d.2
kind_none before after n None (Some x) b a e kind d = cc
kind_none before after n (Some y) None b a e kind d = cc
kind_none before after n (Some y) (Some x) b a e Added d = d.0 y b
kind_none before after n (Some y) (Some x) b a e Withdrawn d = d.1 x a
kind_none before after n (Some y) (Some x) b a e Replaced d = d.4 (means_once before n d.0 y d.2 b ∙ e ∙ means_once after n x d.1 a d.3)

one_kind : (before after : List ModuleTree) (n : List (List ℕ)) (k l : ChangeKind) → Changes before after k n → Changes before after l n → k ≡ l
one_kind before after n Added Added d e = refl
one_kind before after n Added Withdrawn d e = absurd (d.0 e.0.0 e.0.1)
one_kind before after n Added Replaced d e = absurd (d.0 e.0 e.2)
one_kind before after n Withdrawn Added d e = absurd (e.0 d.0.0 d.0.1)
one_kind before after n Withdrawn Withdrawn d e = refl
one_kind before after n Withdrawn Replaced d e = absurd (d.1 e.1 e.3)
one_kind before after n Replaced Added d e = absurd (e.0 d.0 d.2)
one_kind before after n Replaced Withdrawn d e = absurd (e.1 d.1 d.3)
one_kind before after n Replaced Replaced d e = refl

-- a name with the same meaning did not change
unchanged : (before after : List ModuleTree) (n : List (List ℕ)) (a : Agreement) → Means before n a → Means after n a → (kind : ChangeKind) → Changes before after kind n → ⊥
unchanged before after n a p q Added d = d.0 a p
unchanged before after n a p q Withdrawn d = d.1 a q
unchanged before after n a p q Replaced d = d.4 (means_once before n d.0 a d.2 p ∙ means_once after n a d.1 q d.3)

-- a change in front of another differs from it
named_apart : (x y : Change) → NamedBefore x y → x ≢ y
named_apart x y before same =
    let text : Change → List ℕ = λ z. dotted_text z.name in
    let less : slice_cmp nat_cmp (text x) (text y) ≡ Less = before in
    let tied : slice_cmp nat_cmp (text x) (text y) ≡ Equal = ap (λ (z : Change). slice_cmp nat_cmp (text x) (text z)) (sym same) ∙ tied_itself nat_list_cmp_total (text x) in
    cc

projects_some : (profile : Profile) (o : Option Agreement) (a : Agreement) → o ≡ Some a → ProjectsUnder profile o → projects profile a.global a.roles ≡ true
projects_some profile None a e h = absurd (cc)
projects_some profile (Some b) a e h = let same : b ≡ a = cc in subst (λ (x : Agreement). projects profile x.global x.roles ≡ true) same h

module _ (profile : Profile) (before after : List ModuleTree) (olds : List NamedVersion) (old : AreVersions before olds) (ys : List NamedMeaning) (sorted : AreInOrder (meaning_names ys)) (covered : IsCovered profile before after ys) where
  -- the meaning of a name that is among these
  meant_here : (n : List (List ℕ)) (y : NamedMeaning) → Contains ys y → y.name ≡ n → IsMeaning after n (meant y)
  meant_here n y p e = let P : List (List ℕ) → Type 0 = λ m. IsMeaning after m (meant y) in subst P e (covered.means y p)

  some_here : (n : List (List ℕ)) (a : Agreement) (o : Option Agreement) → IsMeaning after n o → Means after n a → o ≡ Some a
  some_here n a None p q = absurd (p a q)
  some_here n a (Some b) p q = ap (λ (x : Agreement). Some x) (means_once after n b a p q)

  -- the protocols still project after the edit
  pub projected_after : AllProject profile before → AllProject profile after
  projected_after projected n a p =
      elim (among n (meaning_names ys)) [
        | inl q ↦ (
            let c = Contains-map_back (λ (y : NamedMeaning). y.name) ys n q in
            projects_some profile (meant c.0) a (some_here n a (meant c.0) (meant_here n c.0 c.1 c.2) p) (covered.projected c.0 c.1))
        | inr non ↦ projected n a ((covered.same n non a).1 p)
      ]

  pub well_formed : AllProject profile before → AreImportsThere after → AreWellFormed profile after
  well_formed projected imports = record { imports = imports; meant = covered.meant_all; projected = λ d a p q. projected_after projected (name_of d) a (means_declared after d a q) }

  changed_by : (kind : ChangeKind) (n : List (List ℕ)) → IsChangedBy olds ys kind n → Changes before after kind n
  changed_by kind n h =
      let P : List (List ℕ) → Type 0 = λ m. Changes before after kind m in
      subst P (sym h.named) (kind_some before after h.meaning.name (meaning_before h.version) (meant h.meaning) kind (answered before olds old h.meaning.name h.version h.before) (covered.means h.meaning h.there) h.changed)

  module _ (spelled : (m : ModuleTree) → Contains before m → IsSpelled m) (spelled_after : (m : ModuleTree) → Contains after m → IsSpelled m) where
    pub runs_out : (first : ℕ) (cs : List Change) → IsOverdrawn olds ys first cs → RunsOut before after first
    runs_out first cs h =
        let told : (c : Change) → Contains cs c → Changes before after c.kind c.name = λ c p. changed_by c.kind c.name (h.sound c p) in
        let sorted_cs = sorted_texts before after spelled spelled_after cs h.sorted told in (
          (cs, record { sorted = sorted_cs; sound = told }, h.many),
          λ list exact. omega (arith, h.many, count_within (λ (x : Change). has_new_version x.kind) NamedBefore named_apart cs list sorted_cs (λ c p. (exact.exact c).1 (told c p))),
        )

  module _ (first : ℕ) (es : List VersionEdit) (used : ℕ) (draft : IsDraft olds ys first es used) where
    -- a name among these is edited or keeps its version
    edited : (y : NamedMeaning) → Contains ys y → IsUnchanged olds y ⊎ Contains (edit_names es) y.name
    edited y p = draft.complete y p

    same_meaning : (y z : NamedMeaning) → Contains ys y → Contains ys z → y.name ≡ z.name → y ≡ z
    same_meaning y z p q e = once (λ (x : NamedMeaning). x.name) ys sorted y z p q e

    -- a name without a change isn't edited
    not_edited : (y : NamedMeaning) → Contains ys y → IsUnchanged olds y → Contains (edit_names es) y.name → ⊥
    not_edited y p u q =
        let c = Contains-map_back (λ (e : VersionEdit). e.name) es y.name q in
        let k = draft.changed c.0 c.1 in
        let same : k.meaning ≡ y = same_meaning k.meaning y k.there p (sym k.named ∙ c.2) in
        let P : NamedMeaning → Type 0 = λ x. IsVersion olds x.name k.version in
        let Q : NamedMeaning → Type 0 = λ x. IsKind (meaning_before k.version) (meant x) (Some c.0.kind) in
        let versions : k.version ≡ u.version = two_before olds old.listed.sorted y.name k.version u.version (subst P same k.before) u.before in
        let R : Option Version → Type 0 = λ o. IsKind (meaning_before o) (meant y) (Some c.0.kind) in
        not_both (meaning_before u.version) (meant y) c.0.kind u.same (subst R versions (subst Q same k.changed))

    -- an edited name is among these
    in_meanings : (n : List (List ℕ)) → Contains (edit_names es) n → Contains (meaning_names ys) n
    in_meanings n q =
        let c = Contains-map_back (λ (e : VersionEdit). e.name) es n q in
        let s = draft.sound c.0 c.1 in
        let P : List (List ℕ) → Type 0 = λ m. Contains (meaning_names ys) m in
        subst P (sym s.named ∙ c.2) (Contains-map (λ (y : NamedMeaning). y.name) ys s.meaning s.there)

    change_of : (e : VersionEdit) → Contains es e → Changes before after e.kind e.name
    change_of e p = changed_by e.kind e.name (draft.changed e p)

    -- ---- what changes

    told : (c : Change) → Contains (shown_changes es) c → Changes before after c.kind c.name
    told c p =
        let e = Contains-map_back (λ (x : VersionEdit). record { kind = x.kind; name = x.name }) es c p in
        let P : Change → Type 0 = λ x. Changes before after x.kind x.name in
        subst P e.2 (change_of e.0 e.1)

    all_told : (c : Change) → Changes before after c.kind c.name → Contains (shown_changes es) c
    all_told c d =
        elim (among c.name (meaning_names ys)) [
          | inl q ↦ (
              let y = Contains-map_back (λ (x : NamedMeaning). x.name) ys c.name q in
              elim (edited y.0 y.1) [
                | inl u ↦ (
                    let P : List (List ℕ) → Type 0 = λ m. Changes before after c.kind m in
                    absurd (kind_none before after y.0.name (meaning_before u.version) (meant y.0) (answered before olds old y.0.name u.version u.before) (covered.means y.0 y.1) u.same c.kind (subst P (sym y.2) d)))
                | inr r ↦ (
                    let e = Contains-map_back (λ (x : VersionEdit). x.name) es y.0.name r in
                    let named : e.0.name ≡ c.name = e.2 ∙ y.2 in
                    let P : List (List ℕ) → Type 0 = λ m. Changes before after e.0.kind m in
                    let kind : e.0.kind ≡ c.kind = one_kind before after c.name e.0.kind c.kind (subst P named (change_of e.0 e.1)) d in
                    let Q : Change → Type 0 = λ x. Contains (shown_changes es) x in
                    let whole : record { kind = e.0.kind; name = e.0.name } ≡ c = (λ i. record { kind = kind i; name = named i }) in
                    subst Q whole (Contains-map (λ (x : VersionEdit). record { kind = x.kind; name = x.name }) es e.0 e.1))
              ])
          | inr non ↦ absurd (not_here c.kind c.name non d)
        ]
      where
        not_here : (kind : ChangeKind) (n : List (List ℕ)) → (Contains (meaning_names ys) n → ⊥) → Changes before after kind n → ⊥
        not_here Added n non d = d.0 d.1.0 ((covered.same n non d.1.0).1 d.1.1)
        not_here Withdrawn n non d = d.1 d.0.0 ((covered.same n non d.0.0).0 d.0.1)
        not_here Replaced n non d = d.4 (means_once after n d.0 d.1 ((covered.same n non d.0).0 d.2) d.3)

    pub changes_reported : ((m : ModuleTree) → Contains before m → IsSpelled m) → ((m : ModuleTree) → Contains after m → IsSpelled m) → IsChanges before after (shown_changes es)
    changes_reported spelled spelled_after = record {
      sorted = (let P : List (List (List ℕ)) → Type 0 = λ l. AreInOrder l in sorted_texts before after spelled spelled_after (shown_changes es) (subst P (sym (names_shown es)) draft.sorted) told);
      exact = λ c. (told c, all_told c);
    }

    -- ---- the versions afterwards

    module _ (news : List NamedVersion) (made : AreApplied olds es news) where
      -- a name without an edit keeps its version
      kept_version : (n : List (List ℕ)) (w : Version) → (Contains (edit_names es) n → ⊥) → HasVersion news n w ↔ HasVersion olds n w
      kept_version n w non = made.others (record { name = n; version = w }) non

      edited_version : (n : List (List ℕ)) (w : Version) (e : VersionEdit) → Contains es e → e.name ≡ n → HasVersion news n w ↔ (e.version ≡ Some w)
      edited_version n w e p is = made.here e (record { name = n; version = w }) p (sym is)

      some_version : (o : Option Version) (a : Agreement) → meaning_before o ≡ Some a → (w : Version) × (o ≡ Some w) × (meaning_of w ≡ a)
      some_version None a e = absurd (cc)
      some_version (Some w) a e = (w, refl, cc e)

      -- a name with a meaning after the edit has a version
      pub new_version : (n : List (List ℕ)) (a : Agreement) → Means after n a → (w : Version) × HasVersion news n w
      new_version n a p =
          elim (among n (edit_names es)) [
            | inl q ↦ (
                let e = Contains-map_back (λ (x : VersionEdit). x.name) es n q in
                let s = draft.sound e.0 e.1 in
                let m = some_here n a (meant s.meaning) (meant_here n s.meaning s.there (sym s.named ∙ e.2)) p in
                let w = some_version e.0.version a (s.new ∙ m) in
                (w.0, (edited_version n w.0 e.0 e.1 e.2).1 w.1))
            | inr non ↦ elim (among n (meaning_names ys)) [
              | inl q ↦ (
                  let y = Contains-map_back (λ (x : NamedMeaning). x.name) ys n q in
                  let m = some_here n a (meant y.0) (meant_here n y.0 y.1 y.2) p in
                  elim (edited y.0 y.1) [
                    | inl u ↦ (
                        let w = version_there u.version (meant y.0) a u.same m in
                        let P : List (List ℕ) → Type 0 = λ k. IsVersion olds k u.version in
                        let Q : Option Version → Type 0 = λ o. IsVersion olds n o in
                        (w.0, (kept_version n w.0 non).1 (subst Q w.1 (subst P y.2 u.before))))
                    | inr r ↦ absurd (non (let P : List (List ℕ) → Type 0 = λ k. Contains (edit_names es) k in subst P y.2 r))
                  ])
              | inr out ↦ (let s = stored_means before olds old n a ((covered.same n out a).1 p) in (s.0, (kept_version n s.0 non).1 s.1))
            ]
          ]
        where
          version_there : (o : Option Version) (q : Option Agreement) (b : Agreement) → IsKind (meaning_before o) q None → q ≡ Some b → (w : Version) × (o ≡ Some w)
          version_there None None b e is = absurd (cc)
          version_there None (Some c) b e is = absurd (cc)
          version_there (Some w) q b e is = (w, refl)

      -- each version has the meaning of its name
      pub new_means : (n : List (List ℕ)) (w : Version) → HasVersion news n w → Means after n (meaning_of w)
      new_means n w p =
          elim (among n (edit_names es)) [
            | inl q ↦ (
                let e = Contains-map_back (λ (x : VersionEdit). x.name) es n q in
                let s = draft.sound e.0 e.1 in
                let is : e.0.version ≡ Some w = (edited_version n w e.0 e.1 e.2).0 p in
                let m : meant s.meaning ≡ Some (meaning_of w) = sym s.new ∙ ap meaning_before is in
                let P : Option Agreement → Type 0 = λ o. IsMeaning after n o in
                subst P m (meant_here n s.meaning s.there (sym s.named ∙ e.2)))
            | inr non ↦ (
                let there : HasVersion olds n w = (kept_version n w non).0 p in
                elim (among n (meaning_names ys)) [
                  | inl q ↦ (
                      let y = Contains-map_back (λ (x : NamedMeaning). x.name) ys n q in
                      elim (edited y.0 y.1) [
                        | inl u ↦ (
                            let P : List (List ℕ) → Type 0 = λ k. IsVersion olds k u.version in
                            let is = one_before olds old.listed.sorted n u.version w (subst P y.2 u.before) there in
                            let R : Option Version → Type 0 = λ o. IsKind (meaning_before o) (meant y.0) None in
                            unchanged_means n (meaning_of w) (meant y.0) (subst R is u.same) (meant_here n y.0 y.1 y.2))
                        | inr r ↦ absurd (non (let P : List (List ℕ) → Type 0 = λ k. Contains (edit_names es) k in subst P y.2 r))
                      ])
                  | inr out ↦ (covered.same n out (meaning_of w)).0 (means_stored before olds old n w there)
                ])
          ]
        where
          unchanged_means : (m : List (List ℕ)) (b : Agreement) (q : Option Agreement) → IsKind (Some b) q None → IsMeaning after m q → Means after m b
          unchanged_means m b None e h = absurd (cc)
          unchanged_means m b (Some c) e h = let P : Agreement → Type 0 = λ x. Means after m x in subst P (sym e) h

      pub versions_after : AreVersions after news
      versions_after = record {
        listed = record {
          sorted = made.sorted;
          complete = λ d p.
              let m = covered.meant_all d p in
              let w = new_version (name_of d) m.0 (means_declared after d m.0 m.1) in
              Contains-map (λ (v : NamedVersion). v.name) news (record { name = name_of d; version = w.0 }) w.1;
        };
        sound = λ v p. new_means v.name v.version p;
      }

      -- ---- numbers

      -- a version is an old one, or a new one of an edited name
      version_cases : (n : List (List ℕ)) (w : Version) → HasVersion news n w → HasVersion olds n w ⊎ ((e : VersionEdit) × Contains es e × (e.name ≡ n) × (e.version ≡ Some w))
      version_cases n w p =
          elim (among n (edit_names es)) [
            | inl q ↦ (let e = Contains-map_back (λ (x : VersionEdit). x.name) es n q in inr (e.0, e.1, e.2, (edited_version n w e.0 e.1 e.2).0 p))
            | inr non ↦ inl ((kept_version n w non).0 p)
          ]

      module _ (counted : AreCounted olds first) where
        pub counted_after : AreCounted news used
        counted_after = record {
          below = λ v p. elim (version_cases v.name v.version p) [
            | inl q ↦ omega (arith, counted.below v q, draft.count)
            | inr e ↦ (draft.numbers e.0 v.version e.1 e.3).1
          ];
          once = λ v w p q equal. elim (version_cases v.name v.version p) [
            | inl r ↦ elim (version_cases w.name w.version q) [
              | inl s ↦ counted.once v w r s equal
              | inr f ↦ (let low = counted.below v r in let high = draft.numbers f.0 w.version f.1 f.3 in absurd (omega (arith, low, high.0, equal)))
            ]
            | inr e ↦ elim (version_cases w.name w.version q) [
              | inl s ↦ (let low = counted.below w s in let high = draft.numbers e.0 v.version e.1 e.3 in absurd (omega (arith, low, high.0, equal)))
              | inr f ↦ sym e.2 ∙ draft.once e.0 f.0 v.version w.version e.1 f.1 e.3 f.3 equal ∙ f.2
            ]
          ];
          few = draft.few;
        }

        pub versions_used : AreVersionsUsed (holdings profile before olds first) (holdings profile after news used) (shown_changes es)
        versions_used = record {
          count = draft.count;
          few = draft.few;
          stamped = record {
            kept = λ n a k h p.
                let s = number_back profile before olds first n k h.number in
                let non : Contains (edit_names es) n → ⊥ =
                (λ q. let e = Contains-map_back (λ (x : VersionEdit). x.name) es n q in
                let P : List (List ℕ) → Type 0 = λ m. Changes before after e.0.kind m in
                unchanged before after n a h.meaning p e.0.kind (subst P e.2 (change_of e.0 e.1))) in
                let P : ℕ → Type 0 = λ l. HasNumber (holdings profile after news used) n l in
                subst P s.2 (number_there profile after news used n s.0 ((kept_version n s.0 non).1 s.1));
            fresh = λ n a k h.
                let s = number_back profile after news used n k h.number in
                elim (version_cases n s.0 s.1) [
                  | inl q ↦ inl (
                      let means = means_stored before olds old n s.0 q in
                      let same : meaning_of s.0 ≡ a = means_once after n (meaning_of s.0) a (new_means n s.0 s.1) h.meaning in
                      let P : Agreement → Type 0 = λ b. Means before n b in
                      let Q : ℕ → Type 0 = λ l. HasNumber (holdings profile before olds first) n l in
                      record { meaning = subst P same means; number = subst Q s.2 (number_there profile before olds first n s.0 q) })
                  | inr e ↦ inr (let P : ℕ → Type 0 = λ l. first ≤ l in subst P s.2 (draft.numbers e.0 s.0 e.1 e.3).0)
                ];
          };
        }
