-- Planning and applying a put.
use Rattle.std.proofs.Common.{◌≡◌, ℕ, List, [], get_or, set, Option, Some, refl, sym, ap, ◌∙◌, subst}
use Rattle.std.specs.List.{Contains}
use Rattle.std.proofs.lemmas.List.{set-get_or}
use Rattle.scrib_types.specs.declared.profile.Profile.{Profile}
use Rattle.scrib_tree.specs.declared.tree.ModuleTree.{ModuleTree}
use Rattle.scrib_static_checks.specs.declared.modules.Placed.{Placed}
use Rattle.scrib_static_checks.specs.Placed.{IsModulePlaced}
use Rattle.scrib_record.specs.Versions.{meaning_of}
use Rattle.scrib_library.specs.declared.declared.Entry.{Entry}
use Rattle.scrib_library.specs.declared.versions.NamedVersion.{NamedVersion}
use Rattle.scrib_library.specs.declared.meanings.NamedMeaning.{NamedMeaning}
use Rattle.scrib_library.specs.declared.plan.Plan.{Plan}
use Rattle.scrib_library.specs.declared.changes.Change.{Change}
use Rattle.scrib_library.specs.declared.fault.EditFault.{EditFault}
use Rattle.scrib_library.specs.Modules.{name_of}
use Rattle.scrib_library.specs.Listed.{AreInOrder}
use Rattle.scrib_library.specs.Affected.{AreAffected}
use Rattle.scrib_library.specs.Entries.{AreAffectedEntries}
use Rattle.scrib_library.specs.Calls.{AreReaching}
use Rattle.scrib_library.specs.Edits.{Reads, HasRoom, PutFails, IsPut, IsChanges, AreVersionsUsed}
use Rattle.scrib_library.specs.Stored.{IsSpelled, IsLibrary}
use Rattle.scrib_library.specs.Elaborated.{meaning_names, AreMeanings, IsEntryRefusal}
use Rattle.scrib_library.specs.Drafts.{AreApplied, StopsDraft}
use Rattle.scrib_library.specs.Plans.{IsCovered, Covers, IsPlan, StopsMeanings, StopsPut}
use Rattle.scrib_library.proofs.Lists.{Contains-nil, Contains-map_back}
use Rattle.scrib_library.proofs.IdentifierLemmas.{spelled}
use Rattle.scrib_library.proofs.Refusals.{put_refused}
use Rattle.scrib_library.proofs.MeaningLemmas.{declared_means, holdings}
use Rattle.scrib_library.proofs.CoverLemmas.{projected_after, well_formed, changes_reported, versions_after, counted_after, versions_used}
use Rattle.scrib_library.proofs.ReplacementLemmas.{before_set}
use Rattle.scrib_library.proofs.ChangeLemmas.{distinct_after, imports_after, spelled_after, covered, refused_meanings, refused_draft}

-- ---- planning a put

module _ (profile : Profile) (m : ModuleTree) (before after : List ModuleTree) (p : Placed) (placed : IsModulePlaced m before after p) (versions : List NamedVersion) (used : ℕ) (library : IsLibrary profile before versions used) (text : List ℕ) (read : Reads text m) (plan : Plan) (h : IsPlan profile m after p.replaced versions used plan) where
  covers : IsCovered profile before after h.meanings
  covers = h.covered before p versions used placed refl library

  all_spelled : (t : ModuleTree) → Contains after t → IsSpelled t
  all_spelled = spelled_after profile m before after p placed versions used library (spelled text m read)

  pub changes_then : IsChanges before after plan.changes.list
  changes_then =
      let P : List Change → Type 0 = λ l. IsChanges before after l in
      subst P (sym h.planned.list) (changes_reported profile before after versions library.stored h.meanings h.sorted covers used plan.edits.items plan.used h.planned.draft library.spelled all_spelled)

  pub put_then : IsPut profile before text m after
  put_then = record {
    read = read;
    placed = placed.put;
    room = h.room;
    meant = well_formed profile before after versions library.stored h.meanings h.sorted covers library.projected (imports_after profile m before after p placed versions used library h.room);
  }

  module _ (news : List NamedVersion) (made : AreApplied versions plan.edits.items news) where
    pub library_then : IsLibrary profile after news plan.used
    library_then = record {
      few = record { count = h.room.modules; protocols = h.room.protocols };
      distinct = distinct_after profile m before after p placed versions used library;
      imports = imports_after profile m before after p placed versions used library h.room;
      spelled = all_spelled;
      stored = versions_after profile before after versions library.stored h.meanings h.sorted covers used plan.edits.items plan.used h.planned.draft news made;
      projected = projected_after profile before after versions library.stored h.meanings h.sorted covers library.projected;
      counted = counted_after profile before after versions library.stored h.meanings h.sorted covers used plan.edits.items plan.used h.planned.draft news made library.counted;
    }

    pub used_then : AreVersionsUsed (holdings profile before versions used) (holdings profile after news plan.used) plan.changes.list
    used_then =
        let P : List Change → Type 0 = λ l. AreVersionsUsed (holdings profile before versions used) (holdings profile after news plan.used) l in
        subst P (sym h.planned.list) (versions_used profile before after versions library.stored h.meanings h.sorted covers used plan.edits.items plan.used h.planned.draft news made library.counted)

-- ---- the meanings of a put, and the reasons why it has none

module _ (profile : Profile) (m : ModuleTree) (after : List ModuleTree) (gone : Option ModuleTree) (names : List (List (List ℕ))) (affected : AreAffected after m.name names) (entries : List Entry) (affected_entries : AreAffectedEntries after names gone entries) (reached : List Entry) (reaching : AreReaching m.name entries reached) where
  abbrev Touched : Option ModuleTree → Type 0
  Touched o = AreAffectedEntries after names o entries

  pub covering : (ys : List NamedMeaning) → AreMeanings profile after reached ys → AreInOrder (meaning_names ys) × Covers profile m after gone ys
  covering ys meanings = (
    (let P : List (List (List ℕ)) → Type 0 = λ l. AreInOrder l in subst P (sym meanings.names) reaching.sorted),
    λ before placed versions used h g library. covered profile m before after placed h versions used library names affected entries (subst Touched (sym g) affected_entries) reached reaching ys meanings,
  )

  pub stopped_meanings : HasRoom m after → (f : EditFault) → IsEntryRefusal profile after reached f → StopsMeanings profile m after gone f
  stopped_meanings room f k before placed versions used h g library =
      refused_meanings profile m before after placed h versions used library room names affected entries (subst Touched (sym g) affected_entries) reached reaching f k

-- if the module equals the one that it replaces, nothing changes
before_same : (m : ModuleTree) (before after : List ModuleTree) (p : Placed) → IsModulePlaced m before after p → p.replaced ≡ Some m → before ≡ after
before_same m before after p h is =
    sym (before_set m before after p h m is) ∙ ap (set after p.at) (sym (h.there m)) ∙ set-get_or after p.at m

pub covering_nothing : (profile : Profile) (m : ModuleTree) (after : List ModuleTree) (former : Option ModuleTree) → former ≡ Some m → Covers profile m after former []
covering_nothing profile m after former same before p versions used placed g library =
    let is = before_same m before after p placed (g ∙ same) in
    let P : List ModuleTree → Type 0 = λ l. IsCovered profile before l [] in
    subst P is (record {
      same = λ n non a. (λ h. h, λ h. h);
      means = λ y c. absurd (Contains-nil y c);
      projected = λ y c. absurd (Contains-nil y c);
      meant_all = λ d q.
          let w = Contains-map_back (λ (v : NamedVersion). v.name) versions (name_of d) (library.stored.listed.complete d q) in
          (meaning_of w.0.version, declared_means before d w.0.name (meaning_of w.0.version) (library.stored.sound w.0 w.1) w.2);
    })

-- the reasons why planning a put fails
module _ (profile : Profile) (m : ModuleTree) (after : List ModuleTree) (gone : Option ModuleTree) (versions : List NamedVersion) (used : ℕ) where
  pub stopped : (f : EditFault) → StopsMeanings profile m after gone f → StopsPut profile m after gone versions used f
  stopped f k before placed h g spelled library = k before placed versions used h g library

  pub stopped_draft : HasRoom m after → (ys : List NamedMeaning) → AreInOrder (meaning_names ys) → Covers profile m after gone ys → (f : EditFault) → StopsDraft versions ys used f → StopsPut profile m after gone versions used f
  stopped_draft room ys sorted covers f k before placed h g spelled library =
      refused_draft profile m before after placed h versions used library room ys sorted (covers before placed versions used h g library) spelled f k

-- ---- and why applying it fails

pub fails_then : (profile : Profile) (m : ModuleTree) (before after : List ModuleTree) (p : Placed) → IsModulePlaced m before after p → (versions : List NamedVersion) (used : ℕ) → IsLibrary profile before versions used → (text : List ℕ) → Reads text m → (f : EditFault) → StopsPut profile m after p.replaced versions used f → PutFails profile before used text f
fails_then profile m before after p placed versions used library text read f h =
    put_refused profile before used text m after f read placed.put (h before p placed refl (spelled text m read) library)

-- the module at the index where it was put
pub stood : (m n : ModuleTree) (before after : List ModuleTree) (p : Placed) → IsModulePlaced m before after p → n ≡ get_or after p.at n → m ≡ n
stood m n before after p placed at = sym (at ∙ placed.there n)
