-- What follows from the checks of a module's names.
use Rattle.std.proofs.Common.{◌≡◌, ◌≤◌, Bool, true, false, ◌&&◌, ◌∷◌, length, map, Result, Ok, Err, is_ok, MatchResult, refl, sym, ap, ◌∙◌, subst}
use Rattle.std.proofs.lemmas.Bool.{le-leb}
use Rattle.std.proofs.lemmas.List.{map-append}
use Rattle.scrib_types.specs.declared.spot.Spot.{Spot}
use Rattle.scrib_types.specs.WellFormed.{distinct_roles}
use Rattle.scrib_tree.specs.declared.tree.ModuleTree.{ModuleTree}
use Rattle.scrib_tree.specs.declared.tree.ProtocolDeclaration.{ProtocolDeclaration}
use Rattle.scrib_static_checks.specs.Names.{distinct_names, has_checked_names, import_names, protocol_names, known_by}
use Rattle.scrib_static_checks.specs.Table.{IsImportAgain, IsProtocolAgain}
use Rattle.scrib_static_checks.proofs.NameLemmas.{distinct_roles-again, distinct_names-again}

never : (b : Bool) → (b ≡ true → ⊥) → false ≡ b
never true h = absurd (h refl)
never false h = refl

pub imports_checked : (m : ModuleTree) (r : Result (Unit {0}) Spot) → MatchResult r (λ _. distinct_names (import_names m.imports) ≡ true) (IsImportAgain m) → is_ok r ≡ distinct_names (import_names m.imports)
imports_checked m (Ok u) h = sym h
imports_checked m (Err s) h =
    never (distinct_names (import_names m.imports)) (λ d. distinct_names-again (map known_by h.before) (known_by h.again) (map known_by h.after) h.twice (subst (λ ns. distinct_names ns ≡ true) (ap import_names h.here ∙ map-append known_by h.before (h.again ∷ h.after)) d))

pub protocols_checked : (m : ModuleTree) (r : Result (Unit {0}) Spot) → MatchResult r (λ _. distinct_roles (protocol_names m.protocols) ≡ true) (IsProtocolAgain m) → is_ok r ≡ distinct_roles (protocol_names m.protocols)
protocols_checked m (Ok u) h = sym h
protocols_checked m (Err s) h =
    let name = λ (p : ProtocolDeclaration). p.name in
    never (distinct_roles (protocol_names m.protocols)) (λ d. distinct_roles-again (map name h.before) (name h.again) (map name h.after) h.twice (subst (λ ns. distinct_roles ns ≡ true) (ap protocol_names h.here ∙ map-append name h.before (h.again ∷ h.after)) d))

pub names_checked_as : (m : ModuleTree) (i p : Bool) → length m.imports ≤ 1024 → length m.protocols ≤ 1024 → i ≡ distinct_names (import_names m.imports) → p ≡ distinct_roles (protocol_names m.protocols) → (i && p) ≡ has_checked_names m
names_checked_as m i p few_imports few_protocols e f =
    λ j. sym (le-leb (length m.imports) 1024 few_imports) j && sym (le-leb (length m.protocols) 1024 few_protocols) j && e j && f j
