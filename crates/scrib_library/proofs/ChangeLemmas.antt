-- What a put can change.
use Rattle.std.proofs.Common.{◌≡◌, ◌≢◌, ℕ, Bool, true, false, not, List, [], ◌∷◌, Option, Some, None, inl, inr, refl, sym, ap, ◌∙◌, subst}
use Rattle.std.specs.Prelude.{◌↔◌}
use Rattle.std.specs.List.{Contains}
use Rattle.std.proofs.lemmas.List.{same_from_push}
use Rattle.scrib_types.specs.declared.profile.Profile.{Profile}
use Rattle.scrib_types.specs.Agreement.{Agreement}
use Rattle.scrib_tree.specs.declared.tree.ModuleTree.{ModuleTree}
use Rattle.std.specs.Str.{bytes_eq}
use Rattle.std.proofs.lemmas.Bool.{and_parts, or_left}
use Rattle.std.proofs.lemmas.Slice.Eq.{bytes_eq-Decides}
use Rattle.scrib_types.specs.WellFormed.{has_role, distinct_roles}
use Rattle.scrib_tree.specs.declared.tree.ProtocolDeclaration.{ProtocolDeclaration}
use Rattle.scrib_static_checks.specs.SourceView.{body_of}
use Rattle.scrib_static_checks.specs.Names.{Declaration, distinct_names, module_names, protocol_names, declarations, find_protocol, looked_in, all_but_last, last_name}
use Rattle.scrib_static_checks.specs.Statements.{KeepsRules, protocol_keeps}
use Rattle.scrib_static_checks.specs.Elaboration.{Elaborates}
use Rattle.scrib_static_checks.specs.declared.modules.Placed.{Placed}
use Rattle.scrib_static_checks.specs.Placed.{IsModulePlaced}
use Rattle.scrib_record.specs.Versions.{meaning_of}
use Rattle.scrib_library.specs.declared.declared.Entry.{Entry}
use Rattle.scrib_library.specs.declared.versions.NamedVersion.{NamedVersion}
use Rattle.scrib_library.specs.declared.meanings.NamedMeaning.{NamedMeaning}
use Rattle.scrib_library.specs.declared.fault.EditFault.{EditFault}
use Rattle.scrib_library.specs.declared.fault.EditFault.TheVariants as edit
use Rattle.scrib_library.specs.Modules.{full_name, name_of, Means, IsMeaning, AreMeant, AreImportsThere, missing_import}
use Rattle.scrib_library.specs.Listed.{AreInOrder}
use Rattle.scrib_library.specs.Affected.{AreAffected}
use Rattle.scrib_library.specs.Entries.{entry_names, AreAffectedEntries}
use Rattle.scrib_library.specs.Calls.{EachCall, IsOther, IsBeside, AreReaching}
use Rattle.scrib_library.specs.Edits.{HasRoom, ModuleFails}
use Rattle.scrib_library.specs.Stored.{IsSpelled, IsLibrary}
use Rattle.scrib_library.specs.Elaborated.{meant, meaning_names, IsMeant, AreMeanings, AreElaborable, IsEntryRefusal}
use Rattle.scrib_library.specs.Drafts.{StopsDraft}
use Rattle.scrib_library.specs.Plans.{IsCovered}
use Rattle.scrib_library.proofs.Lists.{Contains-nil, Contains-cases, Contains-map_back}
use Rattle.scrib_library.proofs.Places.{either, or_right, with_module-cases, imports_kept, declared-back, declared-there}
use Rattle.scrib_library.proofs.ModuleNameLemmas.{named_once, distinct_with}
use Rattle.scrib_library.proofs.CallLemmas.{ForAll, each_any, each_weaker, each_for_all, called_from, called_at, looked_cases, found_declared, found_alike, elaborates_alike}
use Rattle.scrib_library.proofs.MeaningLemmas.{declared_of, declared_means}
use Rattle.scrib_library.proofs.ElaborationLemmas.{elaborable_from}
use Rattle.scrib_library.proofs.CoverLemmas.{among, well_formed, runs_out}
use Rattle.scrib_library.proofs.ReplacementLemmas.{gone_named, still_there}

-- in a module whose protocols have different names, a name belongs to one protocol
has_role-there : (n : List ℕ) (ps : List ProtocolDeclaration) (q : ProtocolDeclaration) → Contains ps q → n ≡ q.name → has_role n (protocol_names ps) ≡ true
has_role-there n [] q h e = absurd (Contains-nil q h)
has_role-there n (x ∷ xs) q h e =
    elim (Contains-cases x xs q h) [
      | inl same ↦ (
          let named : n ≡ x.name = e ∙ ap (λ (y : ProtocolDeclaration). y.name) (sym same) in
          or_left (bytes_eq n x.name) (has_role n (protocol_names xs)) ((bytes_eq-Decides n x.name).1 named))
      | inr r ↦ or_right (bytes_eq n x.name) (has_role n (protocol_names xs)) (has_role-there n xs q r e)
    ]

protocol_once : (ps : List ProtocolDeclaration) → distinct_roles (protocol_names ps) ≡ true → (a b : ProtocolDeclaration) → Contains ps a → Contains ps b → a.name ≡ b.name → a ≡ b
protocol_once [] d a b p q e = absurd (Contains-nil a p)
protocol_once (x ∷ xs) d a b p q e =
    let h = and_parts (not (has_role x.name (protocol_names xs))) (distinct_roles (protocol_names xs)) d in
    let twice : (y : ProtocolDeclaration) → Contains xs y → x.name ≡ y.name → ⊥ =
    (λ y r s. let t = has_role-there x.name xs y r s in let f : not true ≡ true = rw t at h.0 in absurd (cc)) in
    elim (Contains-cases x xs a p) [
      | inl y ↦ elim (Contains-cases x xs b q) [
        | inl z ↦ sym y ∙ z
        | inr r ↦ absurd (twice b r (ap (λ (t : ProtocolDeclaration). t.name) y ∙ e))
      ]
      | inr s ↦ elim (Contains-cases x xs b q) [
        | inl z ↦ absurd (twice a s (ap (λ (t : ProtocolDeclaration). t.name) z ∙ sym e))
        | inr r ↦ protocol_once xs h.1 a b s r e
      ]
    ]

-- a declaration that keeps the rules is in such a module
own_names : (ms : List ModuleTree) (d : Declaration) (e : Bool) → KeepsRules ms d e → distinct_roles (protocol_names d.home.protocols) ≡ true
own_names ms d e (protocol_keeps n b) = n.protocols

-- where each declared protocol has a meaning, a full name belongs to one protocol
pub declared_once : (ms : List ModuleTree) → distinct_names (module_names ms) ≡ true → (d e : Declaration) → Contains ms d.home → Contains d.home.protocols d.protocol → Contains ms e.home → Contains e.home.protocols e.protocol
    → distinct_roles (protocol_names d.home.protocols) ≡ true → name_of d ≡ name_of e → d ≡ e
declared_once ms distinct d e d_there d_in e_there e_in once same =
    let names = same_from_push d.home.name e.home.name d.protocol.name e.protocol.name same in
    let home : d.home ≡ e.home = named_once ms distinct d.home e.home d_there e_there names.0 in
    let P : ModuleTree → Type 0 = λ x. Contains x.protocols e.protocol in
    let protocol : d.protocol ≡ e.protocol = protocol_once d.home.protocols once d.protocol e.protocol d_in (subst P (sym home) e_in) names.1 in
    λ i. record { home = home i; protocol = protocol i }

module _ (profile : Profile) (m : ModuleTree) (before after : List ModuleTree) (p : Placed) (placed : IsModulePlaced m before after p) (versions : List NamedVersion) (used : ℕ) (library : IsLibrary profile before versions used) where
  pub distinct_after : distinct_names (module_names after) ≡ true
  distinct_after =
      let P : List ModuleTree → Type 0 = λ l. distinct_names (module_names l) ≡ true in
      subst P (sym placed.put) (distinct_with m before library.distinct)

  itself_after : Contains after m
  itself_after = (p.at, placed.within, placed.there m)

  -- another module is in both lists or in neither
  other_after : (t : ModuleTree) → t.name ≢ m.name → Contains before t → Contains after t
  other_after t other c = elim (still_there m before after p placed t c) [ inl q ↦ q | inr e ↦ absurd (other e.1) ]

  other_before : (t : ModuleTree) → t.name ≢ m.name → Contains after t → Contains before t
  other_before t other c =
      let P : List ModuleTree → Type 0 = λ l. Contains l t in
      elim (with_module-cases m before t (subst P placed.put c)) [
        | inl e ↦ absurd (other (ap (λ (x : ModuleTree). x.name) (sym e)))
        | inr q ↦ q
      ]

  -- the module of this name is the new one
  named_after : (t : ModuleTree) → Contains after t → t.name ≡ m.name → m ≡ t
  named_after t c e = named_once after distinct_after m t itself_after c (sym e)

  -- the protocols of an old module have different names
  protocols_distinct : (d : Declaration) → Contains (declarations before) d → distinct_roles (protocol_names d.home.protocols) ≡ true
  protocols_distinct d there =
      let w = Contains-map_back (λ (v : NamedVersion). v.name) versions (name_of d) (library.stored.listed.complete d there) in
      let h = declared_means before d w.0.name (meaning_of w.0.version) (library.stored.sound w.0 w.1) w.2 in
      let f = found_declared before d.home.name d.protocol.name h.declaration h.there in
      let b = declared-back before d there in
      let c = declared-back before h.declaration f.0 in
      let home : h.declaration.home ≡ d.home = named_once before library.distinct h.declaration.home d.home c.0 b.0 (sym f.1) in
      let P : ModuleTree → Type 0 = λ x. distinct_roles (protocol_names x.protocols) ≡ true in
      subst P home (own_names before h.declaration h.exits h.kept)

  module _ (names : List (List (List ℕ))) (affected : AreAffected after m.name names) (entries : List Entry) (affected_entries : AreAffectedEntries after names p.replaced entries) (reached : List Entry) (reaching : AreReaching m.name entries reached) where
    abbrev Names : List (List (List ℕ))
    Names = entry_names reached

    -- an entry of the module is reached
    own_reached : (n : List (List ℕ)) (name : List ℕ) → Contains (entry_names entries) (full_name m.name name) → Contains Names (full_name m.name name)
    own_reached n name q =
        let e = Contains-map_back (λ (x : Entry). x.name) entries (full_name m.name name) q in
        let P : List (List ℕ) → Type 0 = λ k. Contains Names k in
        elim (reaching.each e.0 e.1) [
          | inl r ↦ subst P e.2 r
          | inr b ↦ (
              let parts = same_from_push e.0.home.now.name m.name e.0.protocol.now.name name (sym (affected_entries.named e.0 e.1) ∙ e.2) in
              absurd (b.other parts.0))
        ]

    -- a protocol of the edited module is reached, whether the old or the new module declares it
    declared_reached_after : (d : Declaration) → Contains (declarations after) d → d.home.name ≡ m.name → Contains Names (name_of d)
    declared_reached_after d there is =
        let P : List (List ℕ) → Type 0 = λ h. Contains Names (full_name h d.protocol.name) in
        let Q : List (List ℕ) → Type 0 = λ h. Contains (entry_names entries) (full_name h d.protocol.name) in
        let R : List (List ℕ) → Type 0 = λ h. Contains names h in
        subst P (sym is) (own_reached d.home.name d.protocol.name (subst Q is (affected_entries.complete d there (subst R (sym is) affected.edited_itself))))

    declared_reached_before : (d : Declaration) → Contains (declarations before) d → d.home.name ≡ m.name → Contains Names (name_of d)
    declared_reached_before d there is =
        let b = declared-back before d there in
        elim (still_there m before after p placed d.home b.0) [
          | inl q ↦ declared_reached_after d (declared-there after d.home d.protocol q b.1) is
          | inr e ↦ (
              let P : List (List ℕ) → Type 0 = λ h. Contains Names (full_name h d.protocol.name) in
              let Q : List (List ℕ) → Type 0 = λ h. Contains (entry_names entries) (full_name h d.protocol.name) in
              subst P (sym is) (own_reached d.home.name d.protocol.name (subst Q is (affected_entries.withdrawn d.home d.protocol e.0 b.1))))
        ]

    -- a protocol that is not reached: it is in both lists, in another module
    record IsClean (d : Declaration) : Type 0 where
      stood : Contains before d.home
      is_after : Contains after d.home
      declared : Contains d.home.protocols d.protocol
      other : d.home.name ≢ m.name
      clean : Contains Names (name_of d) → ⊥

    -- a call of a protocol that is not reached
    abbrev IsClear : Declaration → List (List ℕ) → Type 0
    IsClear d path = (n : List (List ℕ)) → looked_in d.home (all_but_last path) ≡ Some n → Contains Names (full_name n (last_name path)) → ⊥

    -- an entry that calls none of the reached ones has only such calls
    clear_entry : (e : Entry) → IsBeside m.name reached e → (d : Declaration) → e.home.now ≡ d.home → e.protocol.now ≡ d.protocol → EachCall (IsClear d) (body_of d.protocol.body)
    clear_entry e beside d home protocol =
        let P : ModuleTree → ProtocolDeclaration → Type 0 = λ h x. (r : Entry) → Contains reached r → EachCall (IsOther h r.home.now.name r.protocol.now.name) (body_of x.body) in
        let each : P d.home d.protocol = (let Q : ModuleTree → Type 0 = λ h. P h d.protocol in let R : ProtocolDeclaration → Type 0 = λ x. P e.home.now x in subst Q home (subst R protocol beside.calls)) in
        each_weaker (ForAll (λ r. Contains reached r) (λ r. IsOther d.home r.home.now.name r.protocol.now.name)) (IsClear d) clear
        (body_of d.protocol.body) (each_for_all (λ r. Contains reached r) (λ r. IsOther d.home r.home.now.name r.protocol.now.name) (body_of d.protocol.body) each)
      where
        clear : (path : List (List ℕ)) → ((r : Entry) → Contains reached r → IsOther d.home r.home.now.name r.protocol.now.name path) → IsClear d path
        clear path h n l q =
            let r = Contains-map_back (λ (x : Entry). x.name) reached (full_name n (last_name path)) q in
            let parts = same_from_push n r.0.home.now.name (last_name path) r.0.protocol.now.name (sym r.2 ∙ affected_entries.named r.0 (reaching.sound r.0 r.1)) in
            h r.0 r.1 (l ∙ ap (λ (x : List (List ℕ)). Some x) parts.0) parts.1

    -- an entry is of a module that is affected
    entry_affected : (e : Entry) → Contains entries e → Contains names e.home.now.name
    entry_affected e there = by e.is_declared refl
      where
        by : (b : Bool) → e.is_declared ≡ b → Contains names e.home.now.name
        by true s = affected_entries.within e there s
        by false s =
            let f = affected_entries.fallen e there s in
            let k = f.2 in
            let parts = same_from_push e.home.now.name f.0.name e.protocol.now.name k.protocol.name (sym (affected_entries.named e there) ∙ k.named) in
            let P : List (List ℕ) → Type 0 = λ n. Contains names n in
            subst P (sym (gone_named m before after p placed f.0 f.1) ∙ sym parts.0) affected.edited_itself

    -- an entry that is not reached belongs to a declared protocol of its name
    entry_of : (e : Entry) → Contains entries e → IsBeside m.name reached e → (d : Declaration) → IsClean d → e.name ≡ name_of d → (e.home.now ≡ d.home) × (e.protocol.now ≡ d.protocol)
    entry_of e there beside d k same = by e.is_declared refl
      where
        by : (b : Bool) → e.is_declared ≡ b → (e.home.now ≡ d.home) × (e.protocol.now ≡ d.protocol)
        by true s =
            let t = affected_entries.sound e there s in
            let b = declared-back after t.declaration t.there in
            let distinct = protocols_distinct d (declared-there before d.home d.protocol k.stood k.declared) in
            let is : d ≡ t.declaration = declared_once after distinct_after d t.declaration k.is_after k.declared b.0 b.1 distinct (sym same ∙ t.entry.named) in
            (t.entry.home ∙ ap (λ (x : Declaration). x.home) (sym is), t.entry.protocol ∙ ap (λ (x : Declaration). x.protocol) (sym is))
        by false s =
            let f = affected_entries.fallen e there s in
            let q = f.2 in
            let parts = same_from_push e.home.now.name f.0.name e.protocol.now.name q.protocol.name (sym (affected_entries.named e there) ∙ q.named) in
            absurd (beside.other (parts.0 ∙ gone_named m before after p placed f.0 f.1))

    -- a protocol of an unaffected module calls no reached protocol
    outside : (d : Declaration) → IsClean d → (Contains names d.home.name → ⊥) → (path : List (List ℕ)) → IsClear d path
    outside d k out path n l q =
        let r = Contains-map_back (λ (x : Entry). x.name) reached (full_name n (last_name path)) q in
        let there = reaching.sound r.0 r.1 in
        let parts = same_from_push n r.0.home.now.name (last_name path) r.0.protocol.now.name (sym r.2 ∙ affected_entries.named r.0 there) in
        let P : List (List ℕ) → Type 0 = λ h. Contains names h in
        let named : Contains names n = subst P (sym parts.0) (entry_affected r.0 there) in
        elim (looked_cases d.home (all_but_last path) n l) [
          | inl own ↦ out (subst P (sym own) named)
          | inr i ↦ out (affected.closed d.home k.is_after (record { by = i.0; imports = i.1; named = subst P (sym i.2) named }))
        ]

    -- so no unreached protocol calls a reached one
    clear_of : (d : Declaration) → IsClean d → EachCall (IsClear d) (body_of d.protocol.body)
    clear_of d k =
        elim (among d.home.name names) [
          | inl named ↦ (
              let e = Contains-map_back (λ (x : Entry). x.name) entries (name_of d) (affected_entries.complete d (declared-there after d.home d.protocol k.is_after k.declared) named) in
              elim (reaching.each e.0 e.1) [
                | inl r ↦ absurd (k.clean (let P : List (List ℕ) → Type 0 = λ n. Contains Names n in subst P e.2 r))
                | inr b ↦ (let is = entry_of e.0 e.1 b d k e.2 in clear_entry e.0 b d is.0 is.1)
              ])
          | inr out ↦ each_any (IsClear d) (outside d k out) (body_of d.protocol.body)
        ]

    -- unreached protocols are found alike in both lists
    alike : (n : List (List ℕ)) (q : List ℕ) → n ≢ m.name → find_protocol before n q ≡ find_protocol after n q
    alike n q other = found_alike m before n q other ∙ ap (λ l. find_protocol l n q) (sym placed.put)

    found_after : (n : List (List ℕ)) (q : List ℕ) (d : Declaration) → (Contains Names (full_name n q) → ⊥) → find_protocol before n q ≡ Some d → IsClean d × (find_protocol after n q ≡ Some d)
    found_after n q d non e =
        let f = found_declared before n q d e in
        let b = declared-back before d f.0 in
        let clean : Contains Names (name_of d) → ⊥ = (λ t. non (let P : List (List ℕ) → Type 0 = λ x. Contains Names x in subst P (sym (λ i. full_name (f.1 i) (f.2 i))) t)) in
        let other : d.home.name ≢ m.name = (λ is. clean (declared_reached_before d f.0 is)) in
        (record { stood = b.0; is_after = other_after d.home other b.0; declared = b.1; other = other; clean = clean }, sym (alike n q (λ is. other (sym f.1 ∙ is))) ∙ e)

    found_before : (n : List (List ℕ)) (q : List ℕ) (d : Declaration) → (Contains Names (full_name n q) → ⊥) → find_protocol after n q ≡ Some d → IsClean d × (find_protocol before n q ≡ Some d)
    found_before n q d non e =
        let f = found_declared after n q d e in
        let b = declared-back after d f.0 in
        let clean : Contains Names (name_of d) → ⊥ = (λ t. non (let P : List (List ℕ) → Type 0 = λ x. Contains Names x in subst P (sym (λ i. full_name (f.1 i) (f.2 i))) t)) in
        let other : d.home.name ≢ m.name = (λ is. clean (declared_reached_after d f.0 is)) in
        (record { stood = other_before d.home other b.0; is_after = b.0; declared = b.1; other = other; clean = clean }, alike n q (λ is. other (sym f.1 ∙ is)) ∙ e)

    -- and keep their meaning
    forth : (home : List (List ℕ)) (name : List ℕ) (a : Agreement) → (Contains Names (full_name home name) → ⊥) → Elaborates before home name a → Elaborates after home name a
    forth home name a non h =
        elaborates_alike IsClean IsClear before after clear_of
        (λ d path c k clear e. let f = called_from before d.home path c e in let r = found_after f.0 (last_name path) c (clear f.0 f.1) f.2 in (r.0, called_at after d.home path f.0 c f.1 r.1))
        home name a (λ d e. found_after home name d non e) h

    back : (home : List (List ℕ)) (name : List ℕ) (a : Agreement) → (Contains Names (full_name home name) → ⊥) → Elaborates after home name a → Elaborates before home name a
    back home name a non h =
        elaborates_alike IsClean IsClear after before clear_of
        (λ d path c k clear e. let f = called_from after d.home path c e in let r = found_before f.0 (last_name path) c (clear f.0 f.1) f.2 in (r.0, called_at before d.home path f.0 c f.1 r.1))
        home name a (λ d e. found_before home name d non e) h

    same_outside : (n : List (List ℕ)) → (Contains Names n → ⊥) → (a : Agreement) → Means before n a ↔ Means after n a
    same_outside n non a =
        let P : List (List ℕ) → Type 0 = λ k. Contains Names k in (
          λ h. record { home = h.home; protocol = h.protocol; named = h.named; elaborated = forth h.home h.protocol a (λ q. non (subst P (sym h.named) q)) h.elaborated },
          λ h. record { home = h.home; protocol = h.protocol; named = h.named; elaborated = back h.home h.protocol a (λ q. non (subst P (sym h.named) q)) h.elaborated },
        )

    -- an entry marked as not declared belongs to no declared protocol
    nothing_fallen : (e : Entry) → Contains entries e → e.is_declared ≡ false → (d : Declaration) → Contains (declarations after) d → e.name ≢ name_of d
    nothing_fallen e there s d q same =
        let f = affected_entries.fallen e there s in
        let k = f.2 in
        let homes = same_from_push d.home.name f.0.name d.protocol.name k.protocol.name (sym same ∙ k.named) in
        let named : m.name ≡ d.home.name = sym (gone_named m before after p placed f.0 f.1) ∙ sym homes.0 in
        let P : List (List ℕ) → Type 0 = λ n. Contains names n in
        k.undeclared d q (subst P named affected.edited_itself) same

    -- the entry's protocol has the meaning that was found
    entry_means : (e : Entry) (o : Option Agreement) → Contains entries e → IsMeant after e o → IsMeaning after e.name o
    entry_means e None there s = λ a h. (let d = declared_of after e.name a h in nothing_fallen e there s d.0 d.1 d.2)
    entry_means e (Some a) there h = record { home = e.home.now.name; protocol = e.protocol.now.name; named = affected_entries.named e there; elaborated = h.1 }

    standing : (e : Entry) (d : Declaration) → Contains entries e → Contains (declarations after) d → e.name ≡ name_of d → e.is_declared ≡ true
    standing e d there q same = elim (either e.is_declared) [ inl t ↦ t | inr f ↦ absurd (nothing_fallen e there f d q same) ]

    meant_after : AreElaborable after reached → AreMeant after
    meant_after elaborable d q =
        elim (among (name_of d) Names) [
          | inl r ↦ (
              let e = Contains-map_back (λ (x : Entry). x.name) reached (name_of d) r in
              let there = reaching.sound e.0 e.1 in
              let s = elaborable e.0 e.1 (standing e.0 d there q e.2) in
              let h : Means after e.0.name s.0 = record { home = e.0.home.now.name; protocol = e.0.protocol.now.name; named = affected_entries.named e.0 there; elaborated = s.1 } in
              (s.0, declared_means after d e.0.name s.0 h e.2))
          | inr non ↦ (
              let b = declared-back after d q in
              let there = other_before d.home (λ is. non (declared_reached_after d q is)) b.0 in
              let w = Contains-map_back (λ (v : NamedVersion). v.name) versions (name_of d) (library.stored.listed.complete d (declared-there before d.home d.protocol there b.1)) in
              let a = meaning_of w.0.version in
              let P : List (List ℕ) → Type 0 = λ n. Means before n a in
              let h = (same_outside (name_of d) non a).0 (subst P w.2 (library.stored.sound w.0 w.1)) in
              (a, declared_means after d (name_of d) a h refl))
        ]

    module _ (ys : List NamedMeaning) (meanings : AreMeanings profile after reached ys) where
      pub covered : IsCovered profile before after ys
      covered = record {
        same = λ n non a. same_outside n (λ q. non (let P : List (List (List ℕ)) → Type 0 = λ l. Contains l n in subst P (sym meanings.names) q)) a;
        means = λ y q.
            let s = meanings.sound y q in
            let P : List (List ℕ) → Type 0 = λ n. IsMeaning after n (meant y) in
            subst P (sym s.named) (entry_means s.entry (meant y) (reaching.sound s.entry s.there) s.means);
        projected = meanings.projected;
        meant_all = meant_after (elaborable_from after reached reaching.sorted profile ys meanings);
      }

  -- ---- the library after the put

  pub imports_after : HasRoom m after → AreImportsThere after
  imports_after room t c =
      let P : List ModuleTree → Type 0 = λ l. Contains l t in
      elim (with_module-cases m before t (subst P placed.put c)) [
        | inl e ↦ (let Q : ModuleTree → Type 0 = λ x. missing_import after x.imports ≡ None in subst Q e room.imports)
        | inr q ↦ (let Q : List ModuleTree → Type 0 = λ l. missing_import l t.imports ≡ None in subst Q (sym placed.put) (imports_kept m before t.imports (library.imports t q)))
      ]

  pub spelled_after : IsSpelled m → (t : ModuleTree) → Contains after t → IsSpelled t
  spelled_after new t c =
      let P : List ModuleTree → Type 0 = λ l. Contains l t in
      elim (with_module-cases m before t (subst P placed.put c)) [
        | inl e ↦ (let Q : ModuleTree → Type 0 = λ x. IsSpelled x in subst Q e new)
        | inr q ↦ library.spelled t q
      ]

  -- the reason why there are no meanings is one why the put fails
  module _ (room : HasRoom m after) (names : List (List (List ℕ))) (affected : AreAffected after m.name names) (entries : List Entry) (affected_entries : AreAffectedEntries after names p.replaced entries) (reached : List Entry) (reaching : AreReaching m.name entries reached) where
    pub refused_meanings : (f : EditFault) → IsEntryRefusal profile after reached f → ModuleFails profile before used m after f
    refused_meanings (edit.Elaborate f) k = (room, k.1)
    refused_meanings (edit.Project u) k = (room, meant_after names affected entries affected_entries reached reaching k.1, k.2)
    refused_meanings edit.OutOfMemory k = tt
    refused_meanings edit.TooManyModules k = absurd k
    refused_meanings edit.UnknownModule k = absurd k
    refused_meanings (edit.StillImported n) k = absurd k
    refused_meanings (edit.ImportMissing n) k = absurd k
    refused_meanings edit.TooManyProtocols k = absurd k
    refused_meanings edit.VersionsFull k = absurd k
    refused_meanings (edit.Lex f) k = absurd k
    refused_meanings (edit.Parse f) k = absurd k
    refused_meanings (edit.NeedsReception n) k = absurd k

  -- and so is the reason why there are no versions
  module _ (room : HasRoom m after) (ys : List NamedMeaning) (in_order : AreInOrder (meaning_names ys)) (covers : IsCovered profile before after ys) where
    pub refused_draft : IsSpelled m → (f : EditFault) → StopsDraft versions ys used f → ModuleFails profile before used m after f
    refused_draft new edit.VersionsFull k = (
      room,
      well_formed profile before after versions library.stored ys in_order covers library.projected (imports_after room),
      runs_out profile before after versions library.stored ys in_order covers library.spelled (spelled_after new) used k.0 k.1,
    )
    refused_draft new edit.OutOfMemory k = tt
    refused_draft new edit.TooManyModules k = absurd k
    refused_draft new edit.UnknownModule k = absurd k
    refused_draft new (edit.StillImported n) k = absurd k
    refused_draft new (edit.ImportMissing n) k = absurd k
    refused_draft new edit.TooManyProtocols k = absurd k
    refused_draft new (edit.Elaborate g) k = absurd k
    refused_draft new (edit.Project u) k = absurd k
    refused_draft new (edit.Lex g) k = absurd k
    refused_draft new (edit.Parse g) k = absurd k
    refused_draft new (edit.NeedsReception n) k = absurd k
