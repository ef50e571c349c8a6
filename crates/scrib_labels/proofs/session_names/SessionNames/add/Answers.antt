use Rattle.std.proofs.Common.{◌≡◌, ◌∙◌, ℕ, List, Some, sym, ap, subst}
use Rattle.std.specs.HashMap.{get_by_text}
use Rattle.std.specs.Map.{update}
use Rattle.std.specs.Str.{bytes_eq}
use Rattle.std.proofs.lemmas.Map.Text.{hash_map_updates_text}
use Rattle.slab.specs.Slab.{get, Updates}
use Rattle.scrib_labels.specs.declared.session_names.SessionNames.{SessionNames}
use Rattle.scrib_labels.specs.Naming.{number_of}
use Rattle.scrib_labels.proofs.NamingLemmas.{found_added, kept_added, named_updated}
use Rattle.scrib_labels.proofs.session_names.SessionNames.add.Goals as goal

pub invariant_of-self-in-Ok : goal.invariant_of-self-in-Ok
invariant_of-self-in-Ok c =
    let same : c.in_ok-at.at ≡ c.in-Some.number = c.in_ok-at.ensures.key ∙ sym c.in-Some.ensures.next in
    record {
      kept = kept_added c.args.self.now.names c.insert.new.self c.args.self.now.numbers c.insert-2.new.self c.args.name.now c.in-Some.number c.in_ok-from_str.field-0
          c.args.self.now.kept
          (ap (get c.args.self.now.names) (sym same) ∙ c.in_ok-at.ensures.was_vacant)
          (λ cs. hash_map_updates_text _ c.args.self.now.numbers c.insert-2.new.self (Some c.in-Some.number) c.in-Ok.ensures.updates cs ∙ ap (λ (t : List ℕ). update bytes_eq (get_by_text c.args.self.now.numbers) t (Some c.in-Some.number) cs) c.in_ok-key.ensures.ok)
          c.in_ok-from_str.ensures.ok
          (subst (λ (k : ℕ). Updates c.args.self.now.names c.insert.new.self k (Some c.in_ok-from_str.field-0)) same c.in_ok-at.ensures.updates);
      named = named_updated c.args.self.now.numbers c.insert-2.new.self c.args.name.now (Some c.in-Some.number) c.args.self.now.named c.requires.named
          (λ cs. hash_map_updates_text _ c.args.self.now.numbers c.insert-2.new.self (Some c.in-Some.number) c.in-Ok.ensures.updates cs ∙ ap (λ (t : List ℕ). update bytes_eq (get_by_text c.args.self.now.numbers) t (Some c.in-Some.number) cs) c.in_ok-key.ensures.ok);
      found = found_added c.args.self.now.names c.insert.new.self c.args.self.now.numbers c.insert-2.new.self c.args.name.now c.in-Some.number c.in_ok-from_str.field-0
          c.args.self.now.found c.requires.new
          (λ cs. hash_map_updates_text _ c.args.self.now.numbers c.insert-2.new.self (Some c.in-Some.number) c.in-Ok.ensures.updates cs ∙ ap (λ (t : List ℕ). update bytes_eq (get_by_text c.args.self.now.numbers) t (Some c.in-Some.number) cs) c.in_ok-key.ensures.ok)
          c.in_ok-from_str.ensures.ok
          (subst (λ (k : ℕ). Updates c.args.self.now.names c.insert.new.self k (Some c.in_ok-from_str.field-0)) same c.in_ok-at.ensures.updates);
    }

pub returns-clause-given : goal.returns-clause-given
returns-clause-given c = λ other.
    ap (λ (s : SessionNames). number_of s other) c.hint.ensures
    ∙ hash_map_updates_text _ c.args.self.now.numbers c.insert-2.new.self (Some c.in-Some.number) c.in-Ok.ensures.updates other ∙ ap (λ (t : List ℕ). update bytes_eq (get_by_text c.args.self.now.numbers) t (Some c.in-Some.number) other) c.in_ok-key.ensures.ok
