-- The meanings of names, in modules and in the stored versions.
use Rattle.std.proofs.Common.{◌≡◌, ℕ, ◌<◌, true, List, length, get_or, Option, Some, None, refl, sym, ap, ◌∙◌, subst, arith}
use Rattle.std.specs.List.{Contains, AllPairs}
use Rattle.std.specs.Borrow.{Bor}
use Rattle.std.specs.Option.{IfSome, option_map, option_copied}
use Rattle.std.specs.Str.{bytes_eq}
use Rattle.std.proofs.lemmas.Bool.{and_parts}
use Rattle.std.proofs.lemmas.List.{same_from_push, length-map, get_or-map}
use Rattle.std.proofs.lemmas.Slice.Eq.{bytes_eq-Decides}
use Rattle.scrib_types.specs.declared.profile.Profile.{Profile}
use Rattle.scrib_types.specs.Agreement.{Agreement}
use Rattle.scrib_types.specs.WellFormed.{is_protocol}
use Rattle.scrib_record.specs.declared.version.Version.{Version}
use Rattle.scrib_record.specs.Versions.{meaning_of, number_of}
use Rattle.scrib_tree.specs.declared.tree.ModuleTree.{ModuleTree}
use Rattle.scrib_static_checks.specs.Names.{Declaration, dotted_eq, declarations, is_called, roles_of}
use Rattle.scrib_static_checks.specs.Elaboration.{Elaborates, Types, start_of}
use Rattle.scrib_static_checks.proofs.NameLemmas.{dotted_eq-Decides}
use Rattle.scrib_elaborate.proofs.UniqueMeaning.{types_same}
use Rattle.scrib_library.specs.declared.versions.NamedVersion.{NamedVersion}
use Rattle.scrib_library.specs.declared.changes.ChangeKind.{ChangeKind}
use Rattle.scrib_library.specs.declared.changes.ChangeKind.TheVariants.{Added, Replaced, Withdrawn}
use Rattle.scrib_library.specs.declared.changes.Change.{Change}
use Rattle.scrib_library.specs.Modules.{full_name, name_of, Means, IsMeaning, DeclaredMeans}
use Rattle.scrib_library.specs.Holdings.{Stamp, Holdings, HasNumber, IsNumber, IsStamp, AreNumbered, IsAccepting}
use Rattle.scrib_library.specs.Listed.{name_cmp, AreInOrder}
use Rattle.scrib_library.specs.Edits.{Changes, NamedBefore}
use Rattle.scrib_library.specs.Stored.{version_names, stamps_of, HasVersion, IsVersion, IsStored, AreVersions, AreCounted, AreNames, IsSpelled, IsLibrary}
use Rattle.scrib_library.specs.Drafts.{change_names}
use Rattle.scrib_library.proofs.Lists.{Contains-map, Contains-map_back}
use Rattle.scrib_library.proofs.Orders.{once, get_or_any}
use Rattle.scrib_library.proofs.Places.{declared-back, first-there}
use Rattle.scrib_library.proofs.Texts.{text_cmp, are_names_of}

-- a protocol has at most one meaning
pub elaborates_once : (ms : List ModuleTree) (home : List (List ℕ)) (name : List ℕ) (a b : Agreement) → Elaborates ms home name a → Elaborates ms home name b → a ≡ b
elaborates_once ms home name a b p q =
    let found : Some p.declaration ≡ Some q.declaration = sym p.there ∙ q.there in
    let same : p.declaration ≡ q.declaration = cc in
    let P : Declaration → Type 0 = λ d. Types ms 0 (start_of d) b.global in
    let g : a.global ≡ b.global = types_same p.typed b.global (subst P (sym same) q.typed) in
    let r : a.roles ≡ b.roles = p.roles ∙ ap roles_of same ∙ sym q.roles in
    λ i. record { roles = r i; global = g i }

module _ (ms : List ModuleTree) where
  pub means_once : (n : List (List ℕ)) (a b : Agreement) → Means ms n a → Means ms n b → a ≡ b
  means_once n a b p q =
      let s = same_from_push q.home p.home q.protocol p.protocol (sym q.named ∙ p.named) in
      let P : List (List ℕ) → Type 0 = λ h. Elaborates ms h p.protocol b in
      let Q : List ℕ → Type 0 = λ x. Elaborates ms q.home x b in
      elaborates_once ms p.home p.protocol a b p.elaborated (subst P s.0 (subst Q s.1 q.elaborated))

  -- the meaning of a name is that of a declared protocol
  pub declared_of : (n : List (List ℕ)) (a : Agreement) → Means ms n a → (d : Declaration) × Contains (declarations ms) d × (n ≡ name_of d) × DeclaredMeans ms d a
  declared_of n a p =
      let d = p.elaborated.declaration in
      let f = first-there (is_called p.home p.protocol) (declarations ms) d p.elaborated.there in
      let parts = and_parts (bytes_eq p.protocol d.protocol.name) (dotted_eq p.home d.home.name) f.1 in
      let name : p.protocol ≡ d.protocol.name = (bytes_eq-Decides p.protocol d.protocol.name).0 parts.0 in
      let home : p.home ≡ d.home.name = (dotted_eq-Decides p.home d.home.name).0 parts.1 in
      let P : List (List ℕ) → Type 0 = λ h. Elaborates ms h d.protocol.name a in
      let Q : List ℕ → Type 0 = λ x. Elaborates ms p.home x a in
      (d, f.0, p.named ∙ (λ i. full_name (home i) (name i)), subst P home (subst Q name p.elaborated))

  pub declared_means : (d : Declaration) (n : List (List ℕ)) (a : Agreement) → Means ms n a → n ≡ name_of d → DeclaredMeans ms d a
  declared_means d n a p e =
      let s = same_from_push p.home d.home.name p.protocol d.protocol.name (sym p.named ∙ e) in
      let P : List (List ℕ) → Type 0 = λ h. Elaborates ms h d.protocol.name a in
      let Q : List ℕ → Type 0 = λ x. Elaborates ms p.home x a in
      subst P s.0 (subst Q s.1 p.elaborated)

  pub means_declared : (d : Declaration) (a : Agreement) → DeclaredMeans ms d a → Means ms (name_of d) a
  means_declared d a p = record { home = d.home.name; protocol = d.protocol.name; named = refl; elaborated = p }

-- ---- versions

-- ordered versions have one for each name
pub one_version : (vs : List NamedVersion) → AreInOrder (version_names vs) → (v w : NamedVersion) → Contains vs v → Contains vs w → v.name ≡ w.name → v ≡ w
one_version vs sorted v w p q e = once (λ (x : NamedVersion). x.name) vs sorted v w p q e

module _ (ms : List ModuleTree) (vs : List NamedVersion) (h : AreVersions ms vs) where
  pub means_stored : (n : List (List ℕ)) (w : Version) → HasVersion vs n w → Means ms n (meaning_of w)
  means_stored n w p = h.sound (record { name = n; version = w }) p

  pub stored_means : (n : List (List ℕ)) (a : Agreement) → Means ms n a → (w : Version) × HasVersion vs n w × (meaning_of w ≡ a)
  stored_means n a p =
      let d = declared_of ms n a p in
      let c = Contains-map_back (λ (v : NamedVersion). v.name) vs (name_of d.0) (h.listed.complete d.0 d.1) in
      let named : c.0.name ≡ n = c.2 ∙ sym d.2 in
      let P : List (List ℕ) → Type 0 = λ m. HasVersion vs m c.0.version in
      let there : HasVersion vs n c.0.version = subst P named c.1 in
      (c.0.version, there, means_once ms n (meaning_of c.0.version) a (means_stored n c.0.version there) p)

  -- the result of a look-up
  pub answered : (n : List (List ℕ)) (o : Option Version) → IsVersion vs n o → IsMeaning ms n (option_map meaning_of o)
  answered n None p = λ a q. (let s = stored_means n a q in p s.0 s.1)
  answered n (Some w) p = means_stored n w p

  pub protocols : (n : List (List ℕ)) (a : Agreement) → Means ms n a → is_protocol a.roles a.global ≡ true
  protocols n a p =
      let s = stored_means n a p in
      let P : Agreement → Type 0 = λ b. is_protocol b.roles b.global ≡ true in
      subst P s.2 s.0.protocol.valid

-- ---- numbers

abbrev pub stamp_of : NamedVersion → Stamp
stamp_of v = record { name = v.name; number = number_of v.version }

abbrev pub holdings : Profile → List ModuleTree → List NamedVersion → ℕ → Holdings
holdings profile ms vs used = record { profile = profile; modules = ms; stamps = stamps_of vs; used = used }

module _ (profile : Profile) (ms : List ModuleTree) (vs : List NamedVersion) (used : ℕ) where
  pub number_there : (n : List (List ℕ)) (w : Version) → HasVersion vs n w → HasNumber (holdings profile ms vs used) n (number_of w)
  number_there n w p = Contains-map stamp_of vs (record { name = n; version = w }) p

  pub number_back : (n : List (List ℕ)) (k : ℕ) → HasNumber (holdings profile ms vs used) n k → (w : Version) × HasVersion vs n w × (number_of w ≡ k)
  number_back n k p =
      let c = Contains-map_back stamp_of vs (record { name = n; number = k }) p in
      let P : List (List ℕ) → Type 0 = λ m. HasVersion vs m c.0.version in
      (c.0.version, subst P (ap (λ (s : Stamp). s.name) c.2) c.1, ap (λ (s : Stamp). s.number) c.2)

  pub numbered_answer : (n : List (List ℕ)) (o : Option Version) → IsVersion vs n o → IsNumber (holdings profile ms vs used) n (option_map number_of o)
  numbered_answer n None p = λ k q. (let s = number_back n k q in p s.0 s.1)
  numbered_answer n (Some w) p = number_there n w p

  pub are_numbered : AreVersions ms vs → AreCounted vs used → AreNumbered (holdings profile ms vs used)
  are_numbered h counted = record {
    numbered = λ n a p. (let s = stored_means ms vs h n a p in (number_of s.0, number_there n s.0 s.1));
    meant = λ n k p. (let s = number_back n k p in (meaning_of s.0, means_stored ms vs h n s.0 s.1));
    one = λ n k l p q.
        let s = number_back n k p in
        let t = number_back n l q in
        let same = one_version vs h.listed.sorted (record { name = n; version = s.0 }) (record { name = n; version = t.0 }) s.1 t.1 refl in
        sym s.2 ∙ ap (λ (v : NamedVersion). number_of v.version) same ∙ t.2;
    once = λ m n k p q.
        let s = number_back m k p in
        let t = number_back n k q in
        counted.once (record { name = m; version = s.0 }) (record { name = n; version = t.0 }) s.1 t.1 (s.2 ∙ sym t.2);
    below = λ n k p.
        let s = number_back n k p in
        let P : ℕ → Type 0 = λ l. l < used in
        subst P s.2 (counted.below (record { name = n; version = s.0 }) s.1);
    few = counted.few;
  }

  pub is_accepting : IsLibrary profile ms vs used → IsAccepting (holdings profile ms vs used)
  is_accepting h = record {
    few = h.few;
    distinct = h.distinct;
    formed = record {
      imports = h.imports;
      meant = λ d q.
          let w = Contains-map_back (λ (v : NamedVersion). v.name) vs (name_of d) (h.stored.listed.complete d q) in
          (meaning_of w.0.version, declared_means ms d w.0.name (meaning_of w.0.version) (h.stored.sound w.0 w.1) w.2);
      projected = λ d a q p. h.projected (name_of d) a (means_declared ms d a p);
    };
    once = means_once ms;
    numbered = are_numbered h.stored h.counted;
  }

-- ---- names with a meaning

pub meant_names : (ms : List ModuleTree) → ((m : ModuleTree) → Contains ms m → IsSpelled m) → (n : List (List ℕ)) (a : Agreement) → Means ms n a → AreNames n
meant_names ms all n a p =
    let d = declared_of ms n a p in
    let b = declared-back ms d.0 d.1 in
    let s = all d.0.home b.0 in
    let P : List (List ℕ) → Type 0 = λ m. AreNames m in
    subst P (sym d.2) (are_names_of d.0.home.name d.0.protocol.name s.home (s.protocols d.0.protocol b.1))

module _ (before after : List ModuleTree) (spelled : (m : ModuleTree) → Contains before m → IsSpelled m) (spelled_after : (m : ModuleTree) → Contains after m → IsSpelled m) where
  changed_names : (kind : ChangeKind) (n : List (List ℕ)) → Changes before after kind n → AreNames n
  changed_names Added n d = meant_names after spelled_after n d.1.0 d.1.1
  changed_names Withdrawn n d = meant_names before spelled n d.0.0 d.0.1
  changed_names Replaced n d = meant_names before spelled n d.0 d.2

  -- changes in the order of names are in the order of their texts
  pub sorted_texts : (list : List Change) → AreInOrder (change_names list) → ((x : Change) → Contains list x → Changes before after x.kind x.name) → AllPairs NamedBefore list
  sorted_texts list sorted told i j c lt last =
      let long : length (change_names list) ≡ length list = length-map list (λ (x : Change). x.name) in
      let x = get_or list i c in
      let y = get_or list j c in
      let xi : i < length list = omega (arith, lt, last) in
      let first = get_or-map (λ (z : Change). z.name) list i c c.name xi in
      let second = get_or-map (λ (z : Change). z.name) list j c c.name last in
      let at_x : Contains list x = (i, xi, get_or_any list i x c xi) in
      let at_y : Contains list y = (j, last, get_or_any list j y c last) in
      text_cmp x.name y.name (changed_names x.kind x.name (told x at_x)) (changed_names y.kind y.name (told y at_y))
      ∙ (λ k. name_cmp (sym first k) (sym second k))
      ∙ sorted i j c.name lt (omega (arith, last, long))

-- the results of a look-up that returns references

pub answered_now : (ms : List ModuleTree) (vs : List NamedVersion) → AreVersions ms vs → (n : List (List ℕ)) (r : Option (Bor Version)) → IsVersion vs n (option_copied r) → IsMeaning ms n (option_map (λ v. meaning_of v.now) r)
answered_now ms vs h n None p = answered ms vs h n None p
answered_now ms vs h n (Some v) p = answered ms vs h n (Some v.now) p

pub numbered_now : (profile : Profile) (ms : List ModuleTree) (vs : List NamedVersion) (used : ℕ) (n : List (List ℕ)) (r : Option (Bor Version)) → IsVersion vs n (option_copied r) → IsNumber (holdings profile ms vs used) n (option_map (λ v. number_of v.now) r)
numbered_now profile ms vs used n None p = numbered_answer profile ms vs used n None p
numbered_now profile ms vs used n (Some v) p = numbered_answer profile ms vs used n (Some v.now) p

-- the same beside the stored name
pub answered_shared : (ms : List ModuleTree) (vs : List NamedVersion) → AreVersions ms vs → (n : List (List ℕ)) (r : Option (Bor (List (List ℕ)) × Bor Version)) → IsVersion vs n (option_map (λ f. f.1.now) r) → IsMeaning ms n (option_map (λ f. meaning_of f.1.now) r)
answered_shared ms vs h n None p = answered ms vs h n None p
answered_shared ms vs h n (Some f) p = answered ms vs h n (Some f.1.now) p

pub numbered_shared : (profile : Profile) (ms : List ModuleTree) (vs : List NamedVersion) (used : ℕ) (n : List (List ℕ)) (r : Option (Bor (List (List ℕ)) × Bor Version)) → IsVersion vs n (option_map (λ f. f.1.now) r) → IsNumber (holdings profile ms vs used) n (option_map (λ f. number_of f.1.now) r)
numbered_shared profile ms vs used n None p = numbered_answer profile ms vs used n None p
numbered_shared profile ms vs used n (Some f) p = numbered_answer profile ms vs used n (Some f.1.now) p

-- a stored version belongs to a name
pub stamp_now : (profile : Profile) (ms : List ModuleTree) (vs : List NamedVersion) (used : ℕ) → AreVersions ms vs → (r : Option (Bor Version)) → IfSome r (λ v. IsStored vs v.now) → IfSome r (λ v. IsStamp (holdings profile ms vs used) (meaning_of v.now) (number_of v.now))
stamp_now profile ms vs used h None p = tt
stamp_now profile ms vs used h (Some v) p = (p.0, record { meaning = answered ms vs h p.0 (Some v.now) p.1; number = numbered_answer profile ms vs used p.0 (Some v.now) p.1 })
